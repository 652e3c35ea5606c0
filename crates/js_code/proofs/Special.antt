-- The forms whose numbers aren't threaded as their parts are told.
use Rattle.std.proofs.Common.{◌≡◌, ℕ, List, length, Option, refl, sym, ap, subst, ◌∙◌, arith}
use Rattle.js_tree.specs.Plain as P
use Rattle.js_tree.specs.Codes as codes
use Rattle.js_tree.specs.Codes.{Code}
use Rattle.js_tree.specs.Linked as linked
use Rattle.js_tree.specs.Linked.{Unmarked, Numbers, Linked, kept, made, Chain, Alone, Operand, enter_leaf, operand, after_code, two}
use Rattle.js_terms.specs.declared.place.Loc.{Loc}
use Rattle.js_terms.specs.declared.words.Identifier.{Identifier}
use Rattle.js_terms.specs.declared.operators.LogicalOperator.{LogicalOperator}
use Rattle.js_terms.specs.declared.operators.VariableKind.{VariableKind}
use Rattle.js_meaning.specs.Program.{from}
use Rattle.js_code.specs.declared.node.Node.{Node}
use Rattle.js_code.specs.declared.node.Node.TheVariants as node
use Rattle.js_code.specs.Part.{Part, AnExpr, AStmt, ACode, AForInit, AScope, ACaseScope, SomeStmts, SomeCases, SomeDeclarators, as_expr, as_stmt, as_stmts, as_cases, as_declarators, as_code}
use Rattle.js_code.specs.Node.{arrow_of}
use Rattle.js_code.specs.private.Push.{Compiling, Grows}
use Rattle.js_code.specs.private.Compiled.{Pushed, built, Compiled, Reads, expr_or, stmt_or, CompilesCases, CompilesCaseScope, CompilesDeclarators, CompilesExpr, CompilesExprIf, CompilesForInit, CompilesScope, CompilesStmt, CompilesStmtIf, CompilesStmts}
use Rattle.js_code.proofs.Reading.{grows_trans}
use Rattle.js_code.proofs.Made.{adds_on, leaf, one, two_parts, compiled_as}
use Rattle.js_code.proofs.Functions.{CompilesArrow, code_functions, link_arrow}
use Rattle.js_code.proofs.SameNames.{labelled_is}

-- Operands of a chain: a leaf that isn't counted is as it was

leaf_same : (path : ℕ) (e : P.Expr) → enter_leaf linked.Uncounted path e ≡ e
leaf_same path (P.Logical loc operator left right) = refl
leaf_same path (P.Parenthesized loc inner) = refl
leaf_same path _ = refl

operand_same : (chain : Chain) (l : Linked P.Expr) → l ≡ operand Unmarked chain l
operand_same Alone l = refl
operand_same (Operand b path) l = ap (λ e. kept e l.next) (sym (leaf_same path l.tree))

operand_compiled : (s0 s1 : Compiling) (place : ℕ) (chain : Chain) (l : Numbers → Linked P.Expr) → Compiled AnExpr codes.functions_expr s0 s1 place l →
    Compiled AnExpr codes.functions_expr s0 s1 place (λ k. operand Unmarked chain (l k))
operand_compiled s0 s1 place chain l c = compiled_as AnExpr codes.functions_expr s0 s1 place l _ (λ k. operand_same chain (l k)) c

pub parenthesized_made : (s2 : Compiling) {s0 s1 : Compiling} {loc : Option Loc} {inner : ℕ} {inner' : P.Expr} {e : P.Expr} {place : ℕ} → CompilesExpr s0 s1 inner inner' →
    Pushed s1 s2 place (built (node.Parenthesized loc inner)) → e ≡ P.Parenthesized loc inner' → CompilesExpr s0 s2 place e
parenthesized_made s2 {s0 = s0} {s1 = s1} {loc = loc} {inner = inner} {inner' = inner'} {e = e} {place = place} h p is = record {
  compiled = λ chain.
      let Q : P.Expr → Type 0 = λ e. Compiled AnExpr codes.functions_expr s0 s2 place (linked.link_expr Unmarked chain e) in subst Q (sym is)
      (one AnExpr AnExpr codes.functions_expr codes.functions_expr s0 s1 s2 inner place (built (node.Parenthesized loc inner))
      (λ k. operand Unmarked chain (linked.link_expr Unmarked chain inner' k)) (operand_compiled s0 s1 inner chain (linked.link_expr Unmarked chain inner') (h.compiled chain)) p
      (P.Parenthesized loc) (λ t x r0. ap (λ p. AnExpr (P.Parenthesized loc (as_expr p))) r0) (λ k. refl));
}

-- both operands in a chain
logical_in : (s0 s1 s2 s3 : Compiling) (loc : Option Loc) (operator : LogicalOperator) (left right place : ℕ) (left' right' : P.Expr) (c d : Chain) →
    CompilesExpr s0 s1 left left' → CompilesExpr s1 s2 right right' → Pushed s2 s3 place (built (node.Logical loc operator left right)) →
    Compiled AnExpr codes.functions_expr s0 s3 place (λ k. two (P.Logical loc operator) (operand Unmarked c (linked.link_expr Unmarked c left' k)) (λ k. operand Unmarked d (linked.link_expr Unmarked d right' k)))
logical_in s0 s1 s2 s3 loc operator left right place left' right' c d h0 h1 p =
    two_parts AnExpr AnExpr AnExpr codes.functions_expr codes.functions_expr codes.functions_expr s0 s1 s2 s3 left right place (built (node.Logical loc operator left right))
    (λ k. operand Unmarked c (linked.link_expr Unmarked c left' k)) (λ k. operand Unmarked d (linked.link_expr Unmarked d right' k))
    (operand_compiled s0 s1 left c (linked.link_expr Unmarked c left') (h0.compiled c)) (operand_compiled s1 s2 right d (linked.link_expr Unmarked d right') (h1.compiled d)) p
    (P.Logical loc operator) (λ t x y r0 r1. ap (λ p. AnExpr (P.Logical loc operator (as_expr p) (as_expr (t right)))) r0 ∙ ap (λ p. AnExpr (P.Logical loc operator x (as_expr p))) r1)
    (λ x y. refl)

logical_by : (s0 s1 s2 s3 : Compiling) (loc : Option Loc) (operator : LogicalOperator) (left right place : ℕ) (left' right' : P.Expr) (chain : Chain) →
    CompilesExpr s0 s1 left left' → CompilesExpr s1 s2 right right' → Pushed s2 s3 place (built (node.Logical loc operator left right)) →
    Compiled AnExpr codes.functions_expr s0 s3 place (linked.link_expr Unmarked chain (P.Logical loc operator left' right'))
logical_by s0 s1 s2 s3 loc operator left right place left' right' Alone h0 h1 p =
    logical_in s0 s1 s2 s3 loc operator left right place left' right' (Operand linked.Uncounted 0) (Operand linked.Uncounted 0) h0 h1 p
logical_by s0 s1 s2 s3 loc operator left right place left' right' (Operand b path) h0 h1 p =
    logical_in s0 s1 s2 s3 loc operator left right place left' right' (Operand b path) (Operand b path) h0 h1 p

pub logical_made : (s3 : Compiling) {s0 s1 s2 : Compiling} {loc : Option Loc} {operator : LogicalOperator} {left right : ℕ} {left' right' : P.Expr} {e : P.Expr} {place : ℕ} →
    CompilesExpr s0 s1 left left' → CompilesExpr s1 s2 right right' →
    Pushed s2 s3 place (built (node.Logical loc operator left right)) → e ≡ P.Logical loc operator left' right' → CompilesExpr s0 s3 place e
logical_made s3 {s0 = s0} {s1 = s1} {s2 = s2} {loc = loc} {operator = operator} {left = left} {right = right} {left' = left'} {right' = right'} {e = e} {place = place} h0 h1 p is = record {
  compiled = λ chain.
      let Q : P.Expr → Type 0 = λ e. Compiled AnExpr codes.functions_expr s0 s3 place (linked.link_expr Unmarked chain e) in subst Q (sym is)
      (logical_by s0 s1 s2 s3 loc operator left right place left' right' chain h0 h1 p);
}

-- Arrow functions

body_same : (b : P.ConciseBody) → linked.enter_concise_body linked.Uncounted b ≡ b
body_same (P.ExpressionBody e) = refl
body_same (P.BlockBody body) = refl

arrow_linked : (loc : Option Loc) (params : P.Params) (body : P.ConciseBody) (number : ℕ) (chain : Chain) (k : Numbers) →
    made (arrow_of loc) (link_arrow params body k) ≡ linked.link_expr Unmarked chain (P.ArrowFunction loc number params body) k
arrow_linked loc params body number chain k =
    let ps = linked.link_params Unmarked params (after_code k) in
    let b = linked.link_concise_body Unmarked body ps.next in
    ap (λ x. kept (P.ArrowFunction loc k.code ps.tree x) b.next) (sym (body_same b.tree))

pub arrow_function_made : (s2 : Compiling) {s0 s1 : Compiling} {loc : Option Loc} {function : ℕ} {params : P.Params} {body : P.ConciseBody} {e : P.Expr} {place : ℕ} →
    CompilesArrow s0 s1 function params body →
    Pushed s1 s2 place (built (node.ArrowFunction loc function)) → e ≡ P.ArrowFunction loc 0 params body → CompilesExpr s0 s2 place e
arrow_function_made s2 {s0 = s0} {s1 = s1} {loc = loc} {function = function} {params = params} {body = body} {e = e} {place = place} h p is = record {
  compiled = λ chain.
      let Q : P.Expr → Type 0 = λ e. Compiled AnExpr codes.functions_expr s0 s2 place (linked.link_expr Unmarked chain e) in subst Q (sym is)
      (compiled_as AnExpr codes.functions_expr s0 s2 place (λ k. made (arrow_of loc) (link_arrow params body k)) _ (arrow_linked loc params body 0 chain)
      (one ACode AnExpr code_functions codes.functions_expr s0 s1 s2 function place (built (node.ArrowFunction loc function)) (link_arrow params body) h.compiled p
      (arrow_of loc) (λ t c r0. ap (λ p. AnExpr (arrow_of loc (as_code p))) r0) (λ k. refl)));
}

-- Labels: nothing is entered

pub labelled_made : (s2 : Compiling) {s0 s1 : Compiling} {loc : Option Loc} {label label' : Identifier} {body : ℕ} {body' : P.Stmt} {e : P.Stmt} {place : ℕ} → CompilesStmt s0 s1 body body' →
    label ≡ label' → Pushed s1 s2 place (built (node.Labelled loc label body)) → e ≡ P.Labelled loc label' body' → CompilesStmt s0 s2 place e
labelled_made s2 {s0 = s0} {s1 = s1} {loc = loc} {label = label} {label' = label'} {body = body} {body' = body'} {e = e} {place = place} h same p is = record {
  compiled =
      let Q : P.Stmt → Type 0 = λ e. Compiled AStmt codes.functions_stmt s0 s2 place (linked.link_stmt Unmarked e) in subst Q (sym is)
      (compiled_as AStmt codes.functions_stmt s0 s2 place (λ k. made (P.Labelled loc label') (linked.link_stmt Unmarked body' k)) _
      (λ k. ap (λ x. kept x (linked.link_stmt Unmarked body' k).next) (sym (labelled_is loc label' body' k)))
      (one AStmt AStmt codes.functions_stmt codes.functions_stmt s0 s1 s2 body place (built (node.Labelled loc label body)) (linked.link_stmt Unmarked body') h.compiled p
      (P.Labelled loc label') (λ t x r0. ap (λ p. AStmt (P.Labelled loc label (as_stmt p))) r0 ∙ ap (λ l. AStmt (P.Labelled loc l x)) same) (λ k. refl)));
}

-- Scopes: a node before a list reads as the list, and is a scope

module _ {T : Type 0} (puta put : T → Part) (coded : T → List Code) (s0 s1 s2 : Compiling) (list place : ℕ) (link : Numbers → Linked T) (wrap : Part → Part) where
  wrapped : ((x : T) → wrap (puta x) ≡ put x) → Compiled puta coded s0 s1 list link → Pushed s1 s2 place (λ t. wrap (t list)) → Compiled put coded s0 s2 place link
  wrapped is c p = record {
    grows = grows_trans s0.nodes s1.nodes s2.nodes c.grows p.grows;
    placed = p.placed;
    done = λ k first. let d = c.done k first in record {
      read = p.read ∙ ap wrap d.read ∙ is (link k).tree;
      next = d.next ∙ sym (ap length p.functions);
      adds = adds_on s0 s1 s2 (coded (link k).tree) d.adds p.grows p.functions;
    };
  }

pub scope_made : (s2 : Compiling) {s0 s1 : Compiling} {list : ℕ} {xs : P.Stmts} {place : ℕ} → CompilesStmts s0 s1 list xs →
    Pushed s1 s2 place (λ t. AScope (as_stmts (t list))) → CompilesScope s0 s2 place xs
scope_made s2 {s0 = s0} {s1 = s1} {list = list} {xs = xs} {place = place} c p = record {
  compiled =
      wrapped SomeStmts AScope codes.functions_stmts s0 s1 s2 list place (linked.link_stmts Unmarked xs) (λ q. AScope (as_stmts q)) (λ x. refl) c.compiled p;
}

pub case_scope_made : (s2 : Compiling) {s0 s1 : Compiling} {list : ℕ} {xs : P.Cases} {place : ℕ} → CompilesCases s0 s1 list xs →
    Pushed s1 s2 place (λ t. ACaseScope (as_cases (t list))) → CompilesCaseScope s0 s2 place xs
case_scope_made s2 {s0 = s0} {s1 = s1} {list = list} {xs = xs} {place = place} c p = record {
  compiled =
      wrapped SomeCases ACaseScope codes.functions_cases s0 s1 s2 list place (linked.link_cases Unmarked linked.Uncounted 0 xs) (λ q. ACaseScope (as_cases q)) (λ x. refl) c.compiled p;
}

pub init_declaration_made : (s2 : Compiling) {s0 s1 : Compiling} {list : ℕ} {kind : VariableKind} {ds : P.Declarators} {e : P.ForInit} {place : ℕ} → CompilesDeclarators s0 s1 list ds →
    Pushed s1 s2 place (λ t. AForInit (P.InitDeclaration kind (as_declarators (t list)))) → e ≡ P.InitDeclaration kind ds → CompilesForInit s0 s2 place e
init_declaration_made s2 {s0 = s0} {s1 = s1} {list = list} {kind = kind} {ds = ds} {e = e} {place = place} c p is = let Q : P.ForInit → Type 0 = λ e. CompilesForInit s0 s2 place e in subst Q (sym is) (record {
  compiled =
      (one SomeDeclarators AForInit codes.functions_declarators codes.functions_for_init s0 s1 s2 list place (λ t. AForInit (P.InitDeclaration kind (as_declarators (t list)))) (linked.link_declarators Unmarked ds) c.compiled p
      (P.InitDeclaration kind) (λ t x r0. ap (λ q. AForInit (P.InitDeclaration kind (as_declarators q))) r0) (λ k. refl));
})

-- Parts that may be missing

pub no_expr_made : (s0 s1 : Compiling) {e : P.MaybeExpr} {place : ℕ} → Pushed s0 s1 place (built node.Missing) → e ≡ P.none_expr → CompilesExprIf s0 s1 place e
no_expr_made s0 s1 {e = e} {place = place} p is = let Q : P.MaybeExpr → Type 0 = λ e. CompilesExprIf s0 s1 place e in
    subst Q (sym is) (record { compiled = leaf expr_or codes.functions_expr_if s0 s1 place (built node.Missing) p P.none_expr (λ t. refl) refl })

pub some_expr_made : (s0 s1 : Compiling) {e : P.MaybeExpr} {x : P.Expr} {place : ℕ} → CompilesExpr s0 s1 place x → e ≡ P.some_expr x → CompilesExprIf s0 s1 place e
some_expr_made s0 s1 {e = e} {x = x} {place = place} c is = let Q : P.MaybeExpr → Type 0 = λ e. CompilesExprIf s0 s1 place e in
    subst Q (sym is) (record { compiled = record { grows = (c.compiled Alone).grows; placed = (c.compiled Alone).placed; done = λ k first. let d = (c.compiled Alone).done k first in record { read = d.read; next = d.next; adds = d.adds } } })

pub no_stmt_made : (s0 s1 : Compiling) {e : P.MaybeStmt} {place : ℕ} → Pushed s0 s1 place (built node.Missing) → e ≡ P.none_stmt → CompilesStmtIf s0 s1 place e
no_stmt_made s0 s1 {e = e} {place = place} p is = let Q : P.MaybeStmt → Type 0 = λ e. CompilesStmtIf s0 s1 place e in
    subst Q (sym is) (record { compiled = leaf stmt_or codes.functions_stmt_if s0 s1 place (built node.Missing) p P.none_stmt (λ t. refl) refl })

pub some_stmt_made : (s0 s1 : Compiling) {e : P.MaybeStmt} {x : P.Stmt} {place : ℕ} → CompilesStmt s0 s1 place x → e ≡ P.some_stmt x → CompilesStmtIf s0 s1 place e
some_stmt_made s0 s1 {e = e} {x = x} {place = place} c is = let Q : P.MaybeStmt → Type 0 = λ e. CompilesStmtIf s0 s1 place e in
    subst Q (sym is) (record { compiled = record { grows = c.compiled.grows; placed = c.compiled.placed; done = λ k first. let d = c.compiled.done k first in record { read = d.read; next = d.next; adds = d.adds } } })

-- What is compiled is read with its numbers

module _ {T : Type 0} {put : T → Part} {coded : T → List Code} {old new : Compiling} {place : ℕ} {link : Numbers → Linked T} where
  pub reads_of : Compiled put coded old new place link → Reads new.nodes place (λ k. put (link k).tree)
  reads_of c = record { placed = c.placed; numbers = from (length old.functions); read = (c.done (from (length old.functions)) refl).read }

pub reads_on : {old new : List Node} {place : ℕ} {link : Numbers → Part} → Grows old new → Reads old place link → Reads new place link
reads_on {place = place} g r = record { placed = (let q = g.longer in let l = r.placed in omega (arith, l, q)); numbers = r.numbers; read = g.same place r.placed ∙ r.read }
