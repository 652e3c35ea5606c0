-- The functions of a linked tree are numbered one after another.
use Rattle.std.proofs.Common.{◌≡◌, ℕ, zero, suc, ◌+◌, List, [], ◌∷◌, ◌++◌, map, Option, Some, None, refl, sym, ap, ◌∙◌, arith}
use Rattle.js_terms.specs.declared.place.Loc.{Loc}
use Rattle.js_tree.specs.Plain.{Expr, IdentifierReference, This, NullLiteral, BooleanLiteral, NumericLiteral, StringLiteral, ArrayLiteral, ObjectLiteral, FunctionExpression, ArrowFunction, RegularExpressionLiteral, TemplateLiteral, Parenthesized, NamedMember, ComputedMember, New, Call, PostfixUpdate, PrefixUpdate, Unary, Binary, Logical, Conditional, Assignment, Comma, Entered}
use Rattle.js_tree.specs.Plain.{Stmt, Directive, Block, VariableDeclaration, Empty, Expression, If, DoWhile, While, For, ForIn, ForOf, Continue, Break, Return, Switch, Labelled, Throw, TryCatch, TryFinally, TryCatchFinally, Debugger, FunctionDeclaration, EnteredStmt}
use Rattle.js_tree.specs.Plain.{Property, Shorthand, KeyValue, Method}
use Rattle.js_tree.specs.Plain.{PropertyKey, NameKey, StringKey, NumberKey, ComputedKey}
use Rattle.js_tree.specs.Plain.{ConciseBody, ExpressionBody, BlockBody}
use Rattle.js_tree.specs.Plain.{ForInit, NoInit, InitDeclaration, InitExpression}
use Rattle.js_tree.specs.Plain.{ForTarget, TargetDeclaration, TargetExpression}
use Rattle.js_tree.specs.Plain.{TemplatePart, MakeTemplatePart}
use Rattle.js_tree.specs.Plain.{Function, MakeFunction}
use Rattle.js_tree.specs.Plain.{FunctionBody, MakeFunctionBody, EnteredBody}
use Rattle.js_tree.specs.Plain.{Param, MakeParam}
use Rattle.js_tree.specs.Plain.{Declarator, MakeDeclarator}
use Rattle.js_tree.specs.Plain.{Case, MakeCase, EnteredCase}
use Rattle.js_tree.specs.Plain.{Catch, MakeCatch}
use Rattle.js_tree.specs.Plain.{MaybeExpr, none_expr, some_expr}
use Rattle.js_tree.specs.Plain.{MaybeStmt, none_stmt, some_stmt, entered_none}
use Rattle.js_tree.specs.Plain.{Exprs, no_expr, more_expr}
use Rattle.js_tree.specs.Plain.{TemplateParts, no_template_part, more_template_part}
use Rattle.js_tree.specs.Plain.{Properties, no_property, more_property}
use Rattle.js_tree.specs.Plain.{Params, no_param, more_param}
use Rattle.js_tree.specs.Plain.{Stmts, no_stmt, more_stmt}
use Rattle.js_tree.specs.Plain.{Declarators, no_declarator, more_declarator}
use Rattle.js_tree.specs.Plain.{Cases, no_case, more_case}
use Rattle.js_tree.specs.Plain.{MakeFile}
use Rattle.js_terms.specs.declared.construct.ConstructKind.TheVariants as construct_kind
use Rattle.js_terms.specs.declared.words.Identifier.{Identifier}
use Rattle.js_tree.specs.declared.hint.Hint.TheVariants as hint
use Rattle.js_tree.specs.Places.{bare_place, concise_place, braced_place}
use Rattle.js_tree.specs.Codes.{Code, Ordinary, OfMethod, Arrow, number_of, from_code, NumbersFunctions, functions_expr, functions_stmt, functions_property, functions_property_key, functions_concise_body, functions_for_init, functions_for_target, functions_template_part, functions_function, functions_function_body, functions_param, functions_declarator, functions_case, functions_catch, functions_expr_if, functions_stmt_if, functions_exprs, functions_template_parts, functions_properties, functions_params, functions_stmts, functions_declarators, functions_cases}
use Rattle.js_tree.specs.Linked.{Marking, Numbers, Linked, Marks, Uncounted, Counted, kept, made, two, three, four, marks, after_marks, after_code, branched, enter_expr, enter_stmt, enter_case, enter_arm, enter_leaf, operand, Chain, Alone, Operand, by_path, past_path, past_leaves, at_expr, at_stmt, at_stmt_if, at_property, at_param, at_declarator, at_case, at_arm, with_comments, enter_body, enter_concise_body, function_place, labelled, counted_stmt, counted_expr, link_expr, link_stmt, link_property, link_property_key, link_concise_body, link_for_init, link_for_target, link_template_part, link_function, link_function_body, link_param, link_declarator, link_case, link_catch, link_expr_if, link_stmt_if, link_exprs, link_template_parts, link_properties, link_params, link_stmts, link_declarators, link_cases}
use Rattle.js_tree.proofs.Unmarked.{kept_code}

-- these numbers go from one to the one before another
pub record Ranged (codes : List Code) (first next : ℕ) : Type 0 where
  pub many : ℕ
  pub end : next ≡ first + many
  pub are : map number_of codes ≡ from_code first many

numbers_append : (xs ys : List Code) → map number_of (xs ++ ys) ≡ map number_of xs ++ map number_of ys
numbers_append [] ys = refl
numbers_append (x ∷ xs) ys = ap (λ ns. number_of x ∷ ns) (numbers_append xs ys)

from_append : (first m n : ℕ) → from_code first m ++ from_code (first + m) n ≡ from_code first (m + n)
from_append first zero n = let e : first + 0 ≡ first = omega arith in let d : 0 + n ≡ n = omega arith in
    ap (λ x. from_code x n) e ∙ sym (ap (from_code first) d)
from_append first (suc m) n = let e : first + suc m ≡ suc first + m = omega arith in let d : suc m + n ≡ suc (m + n) = omega arith in
    ap (λ x. first ∷ (from_code (suc first) m ++ from_code x n)) e ∙ ap (λ xs. first ∷ xs) (from_append (suc first) m n) ∙ sym (ap (from_code first) d)

pub ranged_none : {k : ℕ} → Ranged [] k k
ranged_none {k} = record { many = 0; end = omega arith; are = refl }

pub ranged_two : {xs ys : List Code} {i j k : ℕ} → Ranged xs i j → Ranged ys j k → Ranged (xs ++ ys) i k
ranged_two {xs} {ys} {i} {j} {k} a b = record {
  many = a.many + b.many;
  end = let x = a.end in let y = b.end in omega (arith, x, y);
  are = numbers_append xs ys ∙ ap (λ z. z ++ map number_of ys) a.are ∙ ap (λ z. from_code i a.many ++ z) b.are
      ∙ ap (λ n. from_code i a.many ++ from_code n b.many) a.end ∙ from_append i a.many b.many;
}

ranged_numbered : {c : Code} {xs : List Code} {k : ℕ} → Ranged xs (suc (number_of c)) k → Ranged (c ∷ xs) (number_of c) k
ranged_numbered {c = c} a = record { many = suc a.many; end = let x = a.end in omega (arith, x); are = ap (λ xs. number_of c ∷ xs) a.are }

ranged_from : {xs ys : List Code} {i j n : ℕ} → xs ≡ ys → i ≡ j → Ranged ys i n → Ranged xs j n
ranged_from p e a = record { many = a.many; end = a.end ∙ ap (λ c. c + a.many) e; are = ap (map number_of) p ∙ a.are ∙ ap (λ c. from_code c a.many) e }

-- a mark is no function
expr_codes : (c : Marks) (path : ℕ) (e : Expr) → functions_expr (enter_expr c path e) ≡ functions_expr e
expr_codes Uncounted path e = refl
expr_codes (Counted file kind number) path e = refl

stmt_codes : (c : Marks) (path : ℕ) (x : Stmt) → functions_stmt (enter_stmt c path x) ≡ functions_stmt x
stmt_codes Uncounted path x = refl
stmt_codes (Counted file kind number) path x = refl

case_codes : (c : Marks) (path : ℕ) (x : Case) → functions_case (enter_case c path x) ≡ functions_case x
case_codes Uncounted path x = refl
case_codes (Counted file kind number) path x = refl

arm_codes : (c : Marks) (path : ℕ) (x : MaybeStmt) → functions_stmt_if (enter_arm c path x) ≡ functions_stmt_if x
arm_codes Uncounted path x = refl
arm_codes (Counted file kind number) path none_stmt = refl
arm_codes (Counted file kind number) path (some_stmt x) = refl
arm_codes (Counted file kind number) path (entered_none n) = refl

body_codes : (c : Marks) (x : FunctionBody) → functions_function_body (enter_body c x) ≡ functions_function_body x
body_codes Uncounted x = refl
body_codes (Counted file kind number) x = refl

concise_codes : (c : Marks) (x : ConciseBody) → functions_concise_body (enter_concise_body c x) ≡ functions_concise_body x
concise_codes c (ExpressionBody e) = expr_codes c 0 e
concise_codes c (BlockBody body) = body_codes c body

leaf_codes : (c : Marks) (path : ℕ) (e : Expr) → functions_expr (enter_leaf c path e) ≡ functions_expr e
leaf_codes c path (Logical loc operator e f) = refl
leaf_codes c path (Parenthesized loc e) = refl
leaf_codes c path e = expr_codes c path e

labelled_codes : (loc : Option Loc) (name : Identifier) (x : Stmt) → functions_stmt (labelled loc name x) ≡ functions_stmt x
labelled_codes loc name (EnteredStmt mark x) = labelled_codes loc name x
labelled_codes loc name _ = refl

ranged_counted : (m : Marking) (loc : Option Loc) (f : Numbers → Linked Stmt) (k : Numbers) → ((j : Numbers) → Ranged (functions_stmt (f j).tree) j.code (f j).next.code) →
    Ranged (functions_stmt (counted_stmt m loc f k).tree) k.code (counted_stmt m loc f k).next.code
ranged_counted m loc f k h = let j = after_marks m construct_kind.Statement loc k in
    ranged_from (stmt_codes (marks m construct_kind.Statement loc k) 0 (f j).tree) (kept_code m construct_kind.Statement loc k) (h j)

ranged_counted_expr : (m : Marking) (loc : Option Loc) (f : Numbers → Linked Expr) (k : Numbers) → ((j : Numbers) → Ranged (functions_expr (f j).tree) j.code (f j).next.code) →
    Ranged (functions_expr (counted_expr m loc f k).tree) k.code (counted_expr m loc f k).next.code
ranged_counted_expr m loc f k h = let j = after_marks m construct_kind.Statement loc k in
    ranged_from (expr_codes (marks m construct_kind.Statement loc k) 0 (f j).tree) (kept_code m construct_kind.Statement loc k) (h j)

-- an operand of a chain
operand_codes : (m : Marking) (chain : Chain) (a : Linked Expr) → functions_expr (operand m chain a).tree ≡ functions_expr a.tree
operand_codes m Alone a = refl
operand_codes m (Operand b path) a = leaf_codes (by_path m b) path a.tree

ranged_operand : (m : Marking) (chain : Chain) (a : Linked Expr) {i : ℕ} → Ranged (functions_expr a.tree) i a.next.code → Ranged (functions_expr (operand m chain a).tree) i (operand m chain a).next.code
ranged_operand m Alone a h = h
ranged_operand m (Operand b path) a h = ranged_from (leaf_codes (by_path m b) path a.tree) refl h

mutual
  ranged_expr : (m : Marking) (t : Expr) (chained : Chain) (k : Numbers) → Ranged (functions_expr (link_expr m chained t k).tree) k.code (link_expr m chained t k).next.code
  ranged_expr m (IdentifierReference loc text) chained k = ranged_none
  ranged_expr m (This loc) chained k = ranged_none
  ranged_expr m (NullLiteral loc) chained k = ranged_none
  ranged_expr m (BooleanLiteral loc b) chained k = ranged_none
  ranged_expr m (NumericLiteral loc text) chained k = ranged_none
  ranged_expr m (StringLiteral loc spelled) chained k = ranged_none
  ranged_expr m (ArrayLiteral loc es) chained k = ranged_exprs m es k
  ranged_expr m (ObjectLiteral loc properties) chained k = ranged_properties m properties k
  ranged_expr m (FunctionExpression loc name function) chained k = ranged_function m function loc name k
  ranged_expr m (ArrowFunction loc number params body) chained k =
      let place = function_place loc None (concise_place body) in
      let j = after_marks m construct_kind.Function place k in
      let rest = (link_concise_body m body (link_params m params (after_code j)).next).tree in
      ranged_from (ap (λ (l : List Code). Arrow j.code (link_params m params (after_code j)).tree (enter_concise_body (marks m construct_kind.Function place k) rest) ∷ (functions_params (link_params m params (after_code j)).tree ++ l)) (concise_codes (marks m construct_kind.Function place k) rest)) (kept_code m construct_kind.Function place k)
      (ranged_numbered {c = Arrow j.code (link_params m params (after_code j)).tree (enter_concise_body (marks m construct_kind.Function place k) rest)} (ranged_two (ranged_params m params (after_code j)) (ranged_concise_body m body (link_params m params (after_code j)).next)))
  ranged_expr m (RegularExpressionLiteral loc text flags) chained k = ranged_none
  ranged_expr m (TemplateLiteral loc spelled parts) chained k = ranged_template_parts m parts k
  ranged_expr m (Parenthesized loc e) chained k = ranged_operand m chained (link_expr m chained e k) (ranged_expr m e chained k)
  ranged_expr m (NamedMember loc e text) chained k = ranged_expr (at_expr m e) e Alone k
  ranged_expr m (ComputedMember loc e f) chained k = ranged_two (ranged_expr (at_expr m e) e Alone k) (ranged_expr (at_expr m f) f Alone (link_expr (at_expr m e) Alone e k).next)
  ranged_expr m (New loc e es) chained k = ranged_two (ranged_expr (at_expr m e) e Alone k) (ranged_exprs m es (link_expr (at_expr m e) Alone e k).next)
  ranged_expr m (Call loc e es) chained k = ranged_two (ranged_expr (at_expr m e) e Alone k) (ranged_exprs m es (link_expr (at_expr m e) Alone e k).next)
  ranged_expr m (PostfixUpdate loc operator e) chained k = ranged_expr (at_expr m e) e Alone k
  ranged_expr m (PrefixUpdate loc operator e) chained k = ranged_expr (at_expr m e) e Alone k
  ranged_expr m (Unary loc operator e) chained k = ranged_expr (at_expr m e) e Alone k
  ranged_expr m (Binary loc operator e f) chained k = ranged_two (ranged_expr (at_expr m e) e Alone k) (ranged_expr (at_expr m f) f Alone (link_expr (at_expr m e) Alone e k).next)
  ranged_expr m (Logical loc operator e f) (Operand b path) k =
      let n = at_expr m e in
      let o = at_expr m f in
      let next = past_leaves n e path in
      let left = link_expr n (Operand b path) e k in
      let x = operand n (Operand b path) left in
      (ranged_two (ranged_operand n (Operand b path) left (ranged_expr n e (Operand b path) k))
      (ranged_operand o (Operand b next) (link_expr o (Operand b next) f x.next) (ranged_expr o f (Operand b next) x.next)))
  ranged_expr m (Logical loc operator e f) Alone k =
      let n = at_expr m e in
      let o = at_expr m f in
      let j = after_marks m construct_kind.Branch loc k in
      let p = marks m construct_kind.Branch loc k in
      let next = past_leaves n e 0 in
      let left = link_expr n (Operand p 0) e j in
      let x = operand n (Operand p 0) left in
      ranged_from refl (kept_code m construct_kind.Branch loc k)
      (ranged_two (ranged_operand n (Operand p 0) left (ranged_expr n e (Operand p 0) j))
      (ranged_operand o (Operand p next) (link_expr o (Operand p next) f x.next) (ranged_expr o f (Operand p next) x.next)))
  ranged_expr m (Conditional loc e f g) chained k =
      let j = after_marks m construct_kind.Branch loc k in
      let b = marks m construct_kind.Branch loc k in
      let holds = link_expr (at_expr m f) Alone f (link_expr (at_expr m e) Alone e j).next in
      let fails = link_expr (at_expr m g) Alone g holds.next in
      ranged_from (ap (λ (l : List Code). functions_expr (link_expr (at_expr m e) Alone e j).tree ++ l ++ functions_expr (enter_expr (by_path (at_expr m g) b) (past_path (at_expr m f) 0) fails.tree)) (expr_codes (by_path (at_expr m f) b) 0 holds.tree)
      ∙ ap (λ (l : List Code). functions_expr (link_expr (at_expr m e) Alone e j).tree ++ functions_expr holds.tree ++ l) (expr_codes (by_path (at_expr m g) b) (past_path (at_expr m f) 0) fails.tree)) (kept_code m construct_kind.Branch loc k)
      (ranged_two (ranged_two (ranged_expr (at_expr m e) e Alone j) (ranged_expr (at_expr m f) f Alone (link_expr (at_expr m e) Alone e j).next)) (ranged_expr (at_expr m g) g Alone holds.next))
  ranged_expr m (Assignment loc operator e f) chained k = ranged_two (ranged_expr (at_expr m e) e Alone k) (ranged_expr (at_expr m f) f Alone (link_expr (at_expr m e) Alone e k).next)
  ranged_expr m (Comma loc e f) chained k = ranged_two (ranged_expr (at_expr m e) e Alone k) (ranged_expr (at_expr m f) f Alone (link_expr (at_expr m e) Alone e k).next)
  ranged_expr m (Entered n e) chained k = ranged_expr m e chained k

  ranged_stmt : (m : Marking) (t : Stmt) (k : Numbers) → Ranged (functions_stmt (link_stmt m t k).tree) k.code (link_stmt m t k).next.code
  ranged_stmt m (Directive loc spelled) k = ranged_none
  ranged_stmt m (Block loc xs) k = ranged_stmts m xs k
  ranged_stmt m (VariableDeclaration loc kind declarators) k = ranged_declarators m declarators k
  ranged_stmt m (Empty loc) k = ranged_none
  ranged_stmt m (Expression loc e) k = ranged_counted m loc (λ k. made (Expression loc) (link_expr (at_expr m e) Alone e k)) k (λ j. ranged_expr (at_expr m e) e Alone j)
  ranged_stmt m (If loc e x y) k =
      let h = at_stmt (at_arm hint.If m loc) x in
      let g = at_stmt_if (at_arm hint.Else m loc) y in
      ranged_counted m loc (λ k. branched m loc (λ b k. three (λ e' x' y'. If loc e' (enter_stmt (by_path h b) 0 x') (enter_arm (by_path g b) (past_path h 0) y'))
      (link_expr (at_expr m e) Alone e k) (link_stmt h x) (link_stmt_if g y)) k) k (λ i.
      let j = after_marks m construct_kind.Branch loc i in
      let b = marks m construct_kind.Branch loc i in
      let first = link_expr (at_expr m e) Alone e j in
      let holds = link_stmt h x first.next in
      let fails = link_stmt_if g y holds.next in
      ranged_from (ap (λ (l : List Code). functions_expr first.tree ++ l ++ functions_stmt_if (enter_arm (by_path g b) (past_path h 0) fails.tree)) (stmt_codes (by_path h b) 0 holds.tree)
      ∙ ap (λ (l : List Code). functions_expr first.tree ++ functions_stmt holds.tree ++ l) (arm_codes (by_path g b) (past_path h 0) fails.tree)) (kept_code m construct_kind.Branch loc i)
      (ranged_two (ranged_two (ranged_expr (at_expr m e) e Alone j) (ranged_stmt h x first.next)) (ranged_stmt_if g y holds.next)))
  ranged_stmt m (DoWhile loc x e) k = ranged_counted m loc (λ k. two (DoWhile loc) (link_stmt (at_stmt m x) x k) (link_expr (at_expr m e) Alone e)) k (λ j. ranged_two (ranged_stmt (at_stmt m x) x j) (ranged_expr (at_expr m e) e Alone (link_stmt (at_stmt m x) x j).next))
  ranged_stmt m (While loc e x) k = ranged_counted m loc (λ k. two (While loc) (link_expr (at_expr m e) Alone e k) (link_stmt (at_stmt m x) x)) k (λ j. ranged_two (ranged_expr (at_expr m e) e Alone j) (ranged_stmt (at_stmt m x) x (link_expr (at_expr m e) Alone e j).next))
  ranged_stmt m (For loc init e f x) k = ranged_counted m loc (λ k. four (For loc) (link_for_init m init k) (link_expr_if m e) (link_expr_if m f) (link_stmt (at_stmt m x) x)) k (λ j. ranged_two (ranged_two (ranged_two (ranged_for_init m init j) (ranged_expr_if m e (link_for_init m init j).next)) (ranged_expr_if m f (link_expr_if m e (link_for_init m init j).next).next)) (ranged_stmt (at_stmt m x) x (link_expr_if m f (link_expr_if m e (link_for_init m init j).next).next).next))
  ranged_stmt m (ForIn loc target e x) k = ranged_counted m loc (λ k. three (ForIn loc) (link_for_target m target k) (link_expr (at_expr m e) Alone e) (link_stmt (at_stmt m x) x)) k (λ j. ranged_two (ranged_two (ranged_for_target m target j) (ranged_expr (at_expr m e) e Alone (link_for_target m target j).next)) (ranged_stmt (at_stmt m x) x (link_expr (at_expr m e) Alone e (link_for_target m target j).next).next))
  ranged_stmt m (ForOf loc target e x) k = ranged_counted m loc (λ k. three (ForOf loc) (link_for_target m target k) (link_expr (at_expr m e) Alone e) (link_stmt (at_stmt m x) x)) k (λ j. ranged_two (ranged_two (ranged_for_target m target j) (ranged_expr (at_expr m e) e Alone (link_for_target m target j).next)) (ranged_stmt (at_stmt m x) x (link_expr (at_expr m e) Alone e (link_for_target m target j).next).next))
  ranged_stmt m (Continue loc name) k = ranged_counted m loc (λ k. kept (Continue loc name) k) k (λ j. ranged_none)
  ranged_stmt m (Break loc name) k = ranged_counted m loc (λ k. kept (Break loc name) k) k (λ j. ranged_none)
  ranged_stmt m (Return loc e) k = ranged_counted m loc (λ k. made (Return loc) (link_expr_if m e k)) k (λ j. ranged_expr_if m e j)
  ranged_stmt m (Switch loc e cases) k = ranged_counted m loc (λ k. branched m loc (λ b k. two (Switch loc) (link_expr (at_expr m e) Alone e k) (link_cases m b 0 cases)) k) k (λ i.
      let j = after_marks m construct_kind.Branch loc i in
      ranged_from refl (kept_code m construct_kind.Branch loc i) (ranged_two (ranged_expr (at_expr m e) e Alone j) (ranged_cases m cases (marks m construct_kind.Branch loc i) 0 (link_expr (at_expr m e) Alone e j).next)))
  ranged_stmt m (Labelled loc name x) k = ranged_counted m loc (λ k. made (labelled loc name) (link_stmt (at_stmt m x) x k)) k (λ j. ranged_from (labelled_codes loc name (link_stmt (at_stmt m x) x j).tree) refl (ranged_stmt (at_stmt m x) x j))
  ranged_stmt m (Throw loc e) k = ranged_counted m loc (λ k. made (Throw loc) (link_expr (at_expr m e) Alone e k)) k (λ j. ranged_expr (at_expr m e) e Alone j)
  ranged_stmt m (TryCatch loc xs catch) k = ranged_counted m loc (λ k. two (TryCatch loc) (link_stmts m xs k) (link_catch m catch)) k (λ j. ranged_two (ranged_stmts m xs j) (ranged_catch m catch (link_stmts m xs j).next))
  ranged_stmt m (TryFinally loc xs ys) k = ranged_counted m loc (λ k. two (TryFinally loc) (link_stmts m xs k) (link_stmts m ys)) k (λ j. ranged_two (ranged_stmts m xs j) (ranged_stmts m ys (link_stmts m xs j).next))
  ranged_stmt m (TryCatchFinally loc xs catch ys) k = ranged_counted m loc (λ k. three (TryCatchFinally loc) (link_stmts m xs k) (link_catch m catch) (link_stmts m ys)) k (λ j. ranged_two (ranged_two (ranged_stmts m xs j) (ranged_catch m catch (link_stmts m xs j).next)) (ranged_stmts m ys (link_catch m catch (link_stmts m xs j).next).next))
  ranged_stmt m (Debugger loc) k = ranged_counted m loc (λ k. kept (Debugger loc) k) k (λ j. ranged_none)
  ranged_stmt m (FunctionDeclaration loc name function) k = ranged_function m function loc (Some name) k
  ranged_stmt m (EnteredStmt n x) k = ranged_stmt m x k

  ranged_property : (m : Marking) (t : Property) (k : Numbers) → Ranged (functions_property (link_property m t k).tree) k.code (link_property m t k).next.code
  ranged_property m (Shorthand loc text) k = ranged_none
  ranged_property m (KeyValue loc key e) k = ranged_two (ranged_property_key m key k) (ranged_expr (at_expr m e) e Alone (link_property_key m key k).next)
  ranged_property m (Method loc key (MakeFunction number params body)) k =
      let place = function_place loc None (braced_place body) in
      let j = after_marks m construct_kind.Function place k in
      let q = link_property_key m key (after_code j) in
      let p = link_params m params q.next in
      let rest = (link_function_body m body p.next).tree in
      let c = OfMethod (MakeFunction j.code p.tree (enter_body (marks m construct_kind.Function place k) rest)) in
      ranged_from (ap (λ (l : List Code). c ∷ (functions_property_key q.tree ++ functions_params p.tree ++ l)) (body_codes (marks m construct_kind.Function place k) rest)) (kept_code m construct_kind.Function place k)
      (ranged_numbered {c = c} (ranged_two (ranged_two (ranged_property_key m key (after_code j)) (ranged_params m params q.next)) (ranged_function_body m body p.next)))

  ranged_property_key : (m : Marking) (t : PropertyKey) (k : Numbers) → Ranged (functions_property_key (link_property_key m t k).tree) k.code (link_property_key m t k).next.code
  ranged_property_key m (NameKey text) k = ranged_none
  ranged_property_key m (StringKey spelled) k = ranged_none
  ranged_property_key m (NumberKey text) k = ranged_none
  ranged_property_key m (ComputedKey e) k = ranged_expr (at_expr m e) e Alone k

  ranged_concise_body : (m : Marking) (t : ConciseBody) (k : Numbers) → Ranged (functions_concise_body (link_concise_body m t k).tree) k.code (link_concise_body m t k).next.code
  ranged_concise_body m (ExpressionBody e) k = ranged_counted_expr (at_expr m e) (bare_place e) (link_expr (at_expr m e) Alone e) k (λ j. ranged_expr (at_expr m e) e Alone j)
  ranged_concise_body m (BlockBody body) k = ranged_function_body m body k

  ranged_for_init : (m : Marking) (t : ForInit) (k : Numbers) → Ranged (functions_for_init (link_for_init m t k).tree) k.code (link_for_init m t k).next.code
  ranged_for_init m NoInit k = ranged_none
  ranged_for_init m (InitDeclaration kind declarators) k = ranged_declarators m declarators k
  ranged_for_init m (InitExpression e) k = ranged_expr (at_expr m e) e Alone k

  ranged_for_target : (m : Marking) (t : ForTarget) (k : Numbers) → Ranged (functions_for_target (link_for_target m t k).tree) k.code (link_for_target m t k).next.code
  ranged_for_target m (TargetDeclaration kind pattern) k = ranged_none
  ranged_for_target m (TargetExpression e) k = ranged_expr (at_expr m e) e Alone k

  ranged_template_part : (m : Marking) (t : TemplatePart) (k : Numbers) → Ranged (functions_template_part (link_template_part m t k).tree) k.code (link_template_part m t k).next.code
  ranged_template_part m (MakeTemplatePart e spelled) k = ranged_expr (at_expr m e) e Alone k

  ranged_function : (m : Marking) (t : Function) (loc : Option Loc) (name : Option Identifier) (k : Numbers) → Ranged (functions_function (link_function m loc name t k).tree) k.code (link_function m loc name t k).next.code
  ranged_function m (MakeFunction number params body) loc name k =
      let place = function_place loc name (braced_place body) in
      let j = after_marks m construct_kind.Function place k in
      let rest = (link_function_body m body (link_params m params (after_code j)).next).tree in
      let c = Ordinary (MakeFunction j.code (link_params m params (after_code j)).tree (enter_body (marks m construct_kind.Function place k) rest)) in
      ranged_from (ap (λ (l : List Code). c ∷ (functions_params (link_params m params (after_code j)).tree ++ l)) (body_codes (marks m construct_kind.Function place k) rest)) (kept_code m construct_kind.Function place k)
      (ranged_numbered {c = c} (ranged_two (ranged_params m params (after_code j)) (ranged_function_body m body (link_params m params (after_code j)).next)))

  ranged_function_body : (m : Marking) (t : FunctionBody) (k : Numbers) → Ranged (functions_function_body (link_function_body m t k).tree) k.code (link_function_body m t k).next.code
  ranged_function_body m (MakeFunctionBody loc xs) k = ranged_stmts m xs k
  ranged_function_body m (EnteredBody n body) k = ranged_function_body m body k

  ranged_param : (m : Marking) (t : Param) (k : Numbers) → Ranged (functions_param (link_param m t k).tree) k.code (link_param m t k).next.code
  ranged_param m (MakeParam loc pattern none_expr) k = ranged_none
  ranged_param m (MakeParam loc pattern (some_expr e)) k =
      let j = after_marks m construct_kind.Branch loc k in
      ranged_from (expr_codes (by_path (at_expr m e) (marks m construct_kind.Branch loc k)) 0 (link_expr (at_expr m e) Alone e j).tree) (kept_code m construct_kind.Branch loc k) (ranged_expr (at_expr m e) e Alone j)

  ranged_declarator : (m : Marking) (t : Declarator) (k : Numbers) → Ranged (functions_declarator (link_declarator m t k).tree) k.code (link_declarator m t k).next.code
  ranged_declarator m (MakeDeclarator loc pattern none_expr) k = ranged_none
  ranged_declarator m (MakeDeclarator loc pattern (some_expr e)) k = ranged_counted_expr (at_expr m e) (bare_place e) (link_expr (at_expr m e) Alone e) k (λ j. ranged_expr (at_expr m e) e Alone j)

  ranged_case : (m : Marking) (t : Case) (k : Numbers) → Ranged (functions_case (link_case m t k).tree) k.code (link_case m t k).next.code
  ranged_case m (MakeCase loc e xs) k = ranged_two (ranged_expr_if m e k) (ranged_stmts m xs (link_expr_if m e k).next)
  ranged_case m (EnteredCase n x) k = ranged_case m x k

  ranged_catch : (m : Marking) (t : Catch) (k : Numbers) → Ranged (functions_catch (link_catch m t k).tree) k.code (link_catch m t k).next.code
  ranged_catch m (MakeCatch pattern xs) k = ranged_stmts m xs k

  ranged_expr_if : (m : Marking) (t : MaybeExpr) (k : Numbers) → Ranged (functions_expr_if (link_expr_if m t k).tree) k.code (link_expr_if m t k).next.code
  ranged_expr_if m none_expr k = ranged_none
  ranged_expr_if m (some_expr e) k = ranged_expr (at_expr m e) e Alone k

  ranged_stmt_if : (m : Marking) (t : MaybeStmt) (k : Numbers) → Ranged (functions_stmt_if (link_stmt_if m t k).tree) k.code (link_stmt_if m t k).next.code
  ranged_stmt_if m none_stmt k = ranged_none
  ranged_stmt_if m (some_stmt x) k = ranged_stmt m x k
  ranged_stmt_if m (entered_none n) k = ranged_none

  ranged_exprs : (m : Marking) (t : Exprs) (k : Numbers) → Ranged (functions_exprs (link_exprs m t k).tree) k.code (link_exprs m t k).next.code
  ranged_exprs m no_expr k = ranged_none
  ranged_exprs m (more_expr x xs) k = ranged_two (ranged_expr (at_expr m x) x Alone k) (ranged_exprs m xs (link_expr (at_expr m x) Alone x k).next)

  ranged_template_parts : (m : Marking) (t : TemplateParts) (k : Numbers) → Ranged (functions_template_parts (link_template_parts m t k).tree) k.code (link_template_parts m t k).next.code
  ranged_template_parts m no_template_part k = ranged_none
  ranged_template_parts m (more_template_part x xs) k = ranged_two (ranged_template_part m x k) (ranged_template_parts m xs (link_template_part m x k).next)

  ranged_properties : (m : Marking) (t : Properties) (k : Numbers) → Ranged (functions_properties (link_properties m t k).tree) k.code (link_properties m t k).next.code
  ranged_properties m no_property k = ranged_none
  ranged_properties m (more_property x xs) k = ranged_two (ranged_property (at_property m x) x k) (ranged_properties m xs (link_property (at_property m x) x k).next)

  ranged_params : (m : Marking) (t : Params) (k : Numbers) → Ranged (functions_params (link_params m t k).tree) k.code (link_params m t k).next.code
  ranged_params m no_param k = ranged_none
  ranged_params m (more_param x xs) k = ranged_two (ranged_param (at_param m x) x k) (ranged_params m xs (link_param (at_param m x) x k).next)

  ranged_stmts : (m : Marking) (t : Stmts) (k : Numbers) → Ranged (functions_stmts (link_stmts m t k).tree) k.code (link_stmts m t k).next.code
  ranged_stmts m no_stmt k = ranged_none
  ranged_stmts m (more_stmt x xs) k = ranged_two (ranged_stmt (at_stmt m x) x k) (ranged_stmts m xs (link_stmt (at_stmt m x) x k).next)

  ranged_declarators : (m : Marking) (t : Declarators) (k : Numbers) → Ranged (functions_declarators (link_declarators m t k).tree) k.code (link_declarators m t k).next.code
  ranged_declarators m no_declarator k = ranged_none
  ranged_declarators m (more_declarator x xs) k = ranged_two (ranged_declarator (at_declarator m x) x k) (ranged_declarators m xs (link_declarator (at_declarator m x) x k).next)

  ranged_cases : (m : Marking) (t : Cases) (b : Marks) (i : ℕ) (k : Numbers) → Ranged (functions_cases (link_cases m b i t k).tree) k.code (link_cases m b i t k).next.code
  ranged_cases m no_case b i k = ranged_none
  ranged_cases m (more_case x xs) b i k = let n = at_case m x in
      ranged_two (ranged_from (case_codes (by_path n b) i (link_case n x k).tree) refl (ranged_case n x k)) (ranged_cases m xs b (past_path n i) (link_case n x k).next)

pub numbers_functions : NumbersFunctions
numbers_functions m (MakeFile body comments) k = let r = ranged_stmts (with_comments m comments) body k in (r.many, r.end, r.are)
