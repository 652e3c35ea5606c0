-- The marks of a linked tree are those of its constructs.
use Rattle.std.proofs.Common.{◌≡◌, ℕ, suc, ◌+◌, Bool, true, false, List, [], ◌∷◌, ◌++◌, length, Option, Some, None, refl, sym, ap, ◌∙◌, arith, append_assoc, append-nil}
use Rattle.js_terms.specs.declared.construct.BranchKind.{BranchKind}
use Rattle.js_terms.specs.declared.construct.Construct.{Construct}
use Rattle.js_terms.specs.declared.construct.Construct.TheVariants as construct
use Rattle.js_terms.specs.declared.place.Loc.{Loc}
use Rattle.js_terms.specs.declared.construct.ConstructKind.TheVariants as construct_kind
use Rattle.js_terms.specs.declared.words.Identifier.{Identifier}
use Rattle.js_tree.specs.Entered.{PlacedMark, placed, with_place, places_of, place_by, places_after, how_many, entered_expr, entered_stmt, entered_property, entered_property_key, entered_concise_body, entered_for_init, entered_for_target, entered_template_part, entered_function, entered_function_body, entered_param, entered_declarator, entered_case, entered_catch, entered_expr_if, entered_stmt_if, entered_exprs, entered_template_parts, entered_properties, entered_params, entered_stmts, entered_declarators, entered_cases}
use Rattle.js_meaning.specs.Counted.{kind_of, after, marks_of, numbered, paths_from, MarksEnter, MarksConstructs}
use Rattle.js_tree.specs.Plain.{Expr, IdentifierReference, This, NullLiteral, BooleanLiteral, NumericLiteral, StringLiteral, ArrayLiteral, ObjectLiteral, FunctionExpression, ArrowFunction, RegularExpressionLiteral, TemplateLiteral, Parenthesized, NamedMember, ComputedMember, New, Call, PostfixUpdate, PrefixUpdate, Unary, Binary, Logical, Conditional, Assignment, Comma, Entered}
use Rattle.js_tree.specs.Plain.{Stmt, Directive, Block, VariableDeclaration, Empty, Expression, If, DoWhile, While, For, ForIn, ForOf, Continue, Break, Return, Switch, Labelled, Throw, TryCatch, TryFinally, TryCatchFinally, Debugger, FunctionDeclaration, EnteredStmt}
use Rattle.js_tree.specs.Plain.{Property, Shorthand, KeyValue, Method}
use Rattle.js_tree.specs.Plain.{PropertyKey, NameKey, StringKey, NumberKey, ComputedKey}
use Rattle.js_tree.specs.Plain.{ConciseBody, ExpressionBody, BlockBody}
use Rattle.js_tree.specs.Plain.{ForInit, NoInit, InitDeclaration, InitExpression}
use Rattle.js_tree.specs.Plain.{ForTarget, TargetDeclaration, TargetExpression}
use Rattle.js_tree.specs.Plain.{TemplatePart, MakeTemplatePart}
use Rattle.js_tree.specs.Plain.{Function, MakeFunction}
use Rattle.js_tree.specs.Plain.{FunctionBody, MakeFunctionBody, EnteredBody}
use Rattle.js_tree.specs.Plain.{Param, MakeParam}
use Rattle.js_tree.specs.Plain.{Declarator, MakeDeclarator}
use Rattle.js_tree.specs.Plain.{Case, MakeCase, EnteredCase}
use Rattle.js_tree.specs.Plain.{Catch, MakeCatch}
use Rattle.js_tree.specs.Plain.{none_pattern, some_pattern}
use Rattle.js_tree.specs.Plain.{MaybeExpr, none_expr, some_expr}
use Rattle.js_tree.specs.Plain.{MaybeStmt, none_stmt, some_stmt, entered_none}
use Rattle.js_tree.specs.Plain.{Exprs, no_expr, more_expr}
use Rattle.js_tree.specs.Plain.{TemplateParts, no_template_part, more_template_part}
use Rattle.js_tree.specs.Plain.{Properties, no_property, more_property}
use Rattle.js_tree.specs.Plain.{Params, no_param, more_param}
use Rattle.js_tree.specs.Plain.{Stmts, no_stmt, more_stmt}
use Rattle.js_tree.specs.Plain.{Declarators, no_declarator, more_declarator}
use Rattle.js_tree.specs.Plain.{Cases, no_case, more_case}
use Rattle.js_tree.specs.Plain.{MakeFile}
use Rattle.js_terms.specs.declared.construct.BranchKind.TheVariants as branch_kind
use Rattle.js_tree.specs.Places.{bare_place, expr_place, stmt_place, stmt_if_place, property_place, param_place, declarator_place, case_place, body_place, braced_place, concise_place}
use Rattle.js_tree.specs.declared.hint.Hint.TheVariants as hint
use Rattle.js_tree.specs.Hints.{Heed, Ignored, Heeding, heed, heed_arm, heed_comments, heeded_place, path_in, case_paths, leaf_paths}
use Rattle.js_tree.specs.Marked.{is_mark, one_if}
use Rattle.js_tree.specs.Unmarked.{unmarked_expr, unmarked_stmt, unmarked_property, unmarked_property_key, unmarked_concise_body, unmarked_for_init, unmarked_for_target, unmarked_template_part, unmarked_function, unmarked_function_body, unmarked_param, unmarked_declarator, unmarked_case, unmarked_catch, unmarked_expr_if, unmarked_stmt_if, unmarked_exprs, unmarked_template_parts, unmarked_properties, unmarked_params, unmarked_stmts, unmarked_declarators, unmarked_cases}
use Rattle.js_tree.specs.Linked.{Counts, Numbers, Linked, Marking, Within, Marks, Uncounted, Counted, kept, made, two, three, four, mark, marks, marks_at, after_marks, after_marks_at, after_one, after_code, branched, counted_stmt, counted_expr, function_place, enter_expr, enter_stmt, enter_case, enter_arm, enter_body, enter_concise_body, operand, Chain, Alone, Operand, by_path, past_path, past_leaves, at_expr, at_stmt, at_property, at_param, at_declarator, labelled, link_expr, link_stmt, link_property, link_property_key, link_concise_body, link_for_init, link_for_target, link_template_part, link_function, link_function_body, link_param, link_declarator, link_case, link_catch, link_expr_if, link_stmt_if, link_exprs, link_template_parts, link_properties, link_params, link_stmts, link_declarators, link_cases}
use Rattle.js_walk.specs.Constructs.{all_named, number_after, counted, counted_function, branch, if_paths, expr_paths}
use Rattle.js_meaning.proofs.Standing.{walk_expr, walk_stmt, walk_property, walk_param, walk_declarator, walk_concise_body, walk_property_key, walk_for_init, walk_for_target, walk_template_part, walk_function, walk_function_body, walk_case, walk_catch, walk_expr_if, walk_stmt_if, walk_exprs, walk_template_parts, walk_properties, walk_params, walk_stmts, walk_declarators, walk_cases, braced_unmarked, concise_unmarked, stmt_unmarked, expr_unmarked, property_unmarked, param_unmarked, declarator_unmarked, case_unmarked, expr_paths_same, pair_same, if_paths_same, case_paths_same, chain_paths_same, counted_same, labelled_places, bare_linked, braced_linked, concise_linked, case_linked, stmt_if_linked}

pub many_append : (such : PlacedMark → Bool) (xs ys : List PlacedMark) → how_many such (xs ++ ys) ≡ how_many such xs + how_many such ys
many_append such [] ys = omega arith
many_append such (x ∷ xs) ys = omega (arith, many_append such xs ys)

pub after_append : (c : Counts) (xs ys : List Construct) → after c (xs ++ ys) ≡ after (after c xs) ys
after_append c [] ys = refl
after_append c (x ∷ xs) ys = after_append (after_one (kind_of x) c) xs ys

pub numbered_append : (file : ℕ) (c : Counts) (xs ys : List Construct) → numbered file c (xs ++ ys) ≡ numbered file c xs ++ numbered file (after c xs) ys
numbered_append file c [] ys = refl
numbered_append file c (x ∷ xs) ys = ap (λ l. marks_of file c x ++ l) (numbered_append file (after_one (kind_of x) c) xs ys)
    ∙ sym (append_assoc (marks_of file c x) (numbered file (after_one (kind_of x) c) xs) (numbered file (after (after_one (kind_of x) c) xs) ys))

-- the names of functions tell nothing of their marks
pub numbered_named : (file number : ℕ) (c : Counts) (xs : List Construct) → numbered file c (all_named number xs) ≡ numbered file c xs
numbered_named file number c [] = refl
numbered_named file number c (construct.Statement loc ∷ xs) =
    ap (λ l. marks_of file c (construct.Statement loc) ++ l) (numbered_named file (number_after number (construct.Statement loc)) (after_one (kind_of (construct.Statement loc)) c) xs)
numbered_named file number c (construct.Function name declared body ∷ xs) =
    ap (λ l. marks_of file c (construct.Function name declared body) ++ l) (numbered_named file (number_after number (construct.Function name declared body)) (after_one (kind_of (construct.Function name declared body)) c) xs)
numbered_named file number c (construct.Branch kind loc paths ∷ xs) =
    ap (λ l. marks_of file c (construct.Branch kind loc paths) ++ l) (numbered_named file (number_after number (construct.Branch kind loc paths)) (after_one (kind_of (construct.Branch kind loc paths)) c) xs)

paths_append : (such : PlacedMark → Bool) (file number path : ℕ) (xs ys : List (Option Loc)) →
    how_many such (paths_from file number path (xs ++ ys)) ≡ how_many such (paths_from file number path xs) + how_many such (paths_from file number (path + length xs) ys)
paths_append such file number path [] ys = let e : path + 0 ≡ path = omega arith in ap (λ p. how_many such (paths_from file number p ys)) (sym e) ∙ omega arith
paths_append such file number path (x ∷ xs) ys =
    let e : suc path + length xs ≡ path + suc (length xs) = omega arith in
    let r = paths_append such file number (suc path) xs ys in
    let d = ap (λ p. how_many such (paths_from file number p ys)) e in
    omega (arith, r, d)

-- what is counted somewhere has its number where it is in the list

pub after_counted : (loc : Option Loc) (k : Numbers) → after k.counts (counted loc) ≡ (after_marks_at construct_kind.Statement loc k).counts
after_counted None k = refl
after_counted (Some loc) k = refl

pub after_branch : (kind : BranchKind) (loc : Option Loc) (paths : List (Option Loc)) (k : Numbers) →
    after k.counts (branch kind loc paths) ≡ (after_marks_at construct_kind.Branch loc k).counts
after_branch kind None paths k = refl
after_branch kind (Some loc) paths k = refl

-- a name with a place
abbrev identifier : List ℕ → Option Loc → Identifier
identifier name loc = record { name = name; loc = loc }

pub after_function : (file : ℕ) (h : Heed) (loc : Option Loc) (name : Option Identifier) (body : Option Loc) (k : Numbers) →
    after k.counts (counted_function (heeded_place h loc) name body) ≡ (after_marks (Within file h) construct_kind.Function (function_place loc name body) k).counts
after_function file Ignored loc name body k = refl
after_function file (Heeding hints) None None None k = refl
after_function file (Heeding hints) None None (Some body) k = refl
after_function file (Heeding hints) None (Some name) body k = refl
after_function file (Heeding hints) (Some loc) None None k = refl
after_function file (Heeding hints) (Some loc) None (Some body) k = refl
after_function file (Heeding hints) (Some loc) (Some name) body k = by_name name.loc body
  where
    by_name : (declared body : Option Loc) → after k.counts (counted_function (Some loc) (Some (identifier name.name declared)) body)
        ≡ (after_marks_at construct_kind.Function (function_place (Some loc) (Some (identifier name.name declared)) body) k).counts
    by_name None body = refl
    by_name (Some declared) None = refl
    by_name (Some declared) (Some body) = refl

-- ---- the marks of what is entered

abbrev entry_of : Marks → ℕ → Option Loc → List PlacedMark
entry_of Uncounted path place = []
entry_of (Counted file kind number) path place = placed (mark file kind number path) place ∷ []

abbrev paths_of : Marks → ℕ → List (Option Loc) → List PlacedMark
paths_of Uncounted path places = []
paths_of (Counted file kind number) path [] = []
paths_of (Counted file kind number) path (x ∷ xs) = placed (mark file kind number path) x ∷ paths_of (Counted file kind number) (suc path) xs

-- another place that is the same
entry_there : (such : PlacedMark → Bool) (b : Marks) (path : ℕ) {p q : Option Loc} → p ≡ q → how_many such (entry_of b path p) ≡ how_many such (entry_of b path q)
entry_there such b path e = ap (λ p. how_many such (entry_of b path p)) e

many_expr : (such : PlacedMark → Bool) (b : Marks) (path : ℕ) (x : Expr) {p : Option Loc} → bare_place x ≡ p →
    how_many such (entered_expr (enter_expr b path x)) ≡ how_many such (entry_of b path p) + how_many such (entered_expr x)
many_expr such Uncounted path x e = omega arith
many_expr such (Counted file kind number) path x e = let h = entry_there such (Counted file kind number) path e in omega (arith, h)

many_case : (such : PlacedMark → Bool) (b : Marks) (path : ℕ) (x : Case) {p : Option Loc} → case_place x ≡ p →
    how_many such (entered_case (enter_case b path x)) ≡ how_many such (entry_of b path p) + how_many such (entered_case x)
many_case such Uncounted path x e = omega arith
many_case such (Counted file kind number) path x e = let h = entry_there such (Counted file kind number) path e in omega (arith, h)

many_body : (such : PlacedMark → Bool) (b : Marks) (x : FunctionBody) {p : Option Loc} → braced_place x ≡ p →
    how_many such (entered_function_body (enter_body b x)) ≡ how_many such (entry_of b 0 p) + how_many such (entered_function_body x)
many_body such Uncounted x e = omega arith
many_body such (Counted file kind number) x e = let h = entry_there such (Counted file kind number) 0 e in omega (arith, h)

many_concise : (such : PlacedMark → Bool) (b : Marks) (x : ConciseBody) {p : Option Loc} → concise_place x ≡ p →
    how_many such (entered_concise_body (enter_concise_body b x)) ≡ how_many such (entry_of b 0 p) + how_many such (entered_concise_body x)
many_concise such b (ExpressionBody x) e = many_expr such b 0 x e
many_concise such b (BlockBody x) e = many_body such b x e

-- the marks of a branch, or none
abbrev IsBranch : Marks → Type 0
IsBranch Uncounted = Unit {0}
IsBranch (Counted file construct_kind.Branch number) = Unit {0}
IsBranch (Counted file kind number) = ⊥

is_branch : (file : ℕ) (h : Heed) (loc : Option Loc) (k : Numbers) → IsBranch (by_path (Within file h) (marks_at file construct_kind.Branch loc k))
is_branch file Ignored loc k = tt
is_branch file (Heeding hints) None k = tt
is_branch file (Heeding hints) (Some loc) k = tt

-- the statement after a test
many_arm : (file : ℕ) (such : PlacedMark → Bool) (arm loc : Option Loc) (k : Numbers) (h : Heed) (path : ℕ) (x : Stmt) →
    let b = by_path (Within file h) (marks_at file construct_kind.Branch loc k) in
    how_many such (entered_stmt arm (places_of (enter_stmt b path x)) (enter_stmt b path x)) ≡ how_many such (entry_of b path arm) + how_many such (entered_stmt arm (places_of x) x)
many_arm file such arm loc k Ignored path x = omega arith
many_arm file such arm None k (Heeding hints) path x = omega arith
many_arm file such arm (Some loc) k (Heeding hints) path x = omega arith

-- an arm that may be missing
many_else : (such : PlacedMark → Bool) (m : Marking) (b : Marks) (path : ℕ) (y : MaybeStmt) (j : Numbers) → {p : Option Loc} → IsBranch b →
    stmt_if_place (link_stmt_if m y j).tree ≡ p →
    how_many such (entered_stmt_if (enter_arm b path (link_stmt_if m y j).tree)) ≡ how_many such (entry_of b path p) + how_many such (entered_stmt_if (link_stmt_if m y j).tree)
many_else such m Uncounted path y j i e = omega arith
many_else such m (Counted file construct_kind.Statement number) path y j i e = absurd i
many_else such m (Counted file construct_kind.Function number) path y j i e = absurd i
many_else such m (Counted file construct_kind.Branch number) path none_stmt j i e = let h = entry_there such (Counted file construct_kind.Branch number) path e in omega (arith, h)
many_else such m (Counted file construct_kind.Branch number) path (some_stmt x) j i e = let h = entry_there such (Counted file construct_kind.Branch number) path e in omega (arith, h)
many_else such m (Counted file construct_kind.Branch number) path (entered_none n) j i e = let h = entry_there such (Counted file construct_kind.Branch number) path e in omega (arith, h)

-- the marks before a label enter what they would enter behind it
marks_labelled : (arm : Option Loc) (places : List Loc) (loc : Option Loc) (name : Identifier) (x : Stmt) → entered_stmt arm places (labelled loc name x) ≡ entered_stmt arm places x
marks_labelled arm places loc name (EnteredStmt n x) =
    ap (λ (l : List PlacedMark). placed n (place_by n.kind arm places) ∷ l) (marks_labelled arm (places_after n.kind places) loc name x)
marks_labelled arm places loc name _ = refl

-- what is taken out has no marks before it
ignored_places : (file : ℕ) (x : Stmt) (k : Numbers) (arm : Option Loc) (places others : List Loc) →
    entered_stmt arm places (link_stmt (Within file Ignored) x k).tree ≡ entered_stmt arm others (link_stmt (Within file Ignored) x k).tree
ignored_places file (Labelled loc name x) k arm places others = let t = (link_stmt (Within file Ignored) x k).tree in
    marks_labelled arm places loc name t ∙ ignored_places file x k arm places others ∙ sym (marks_labelled arm others loc name t)
ignored_places file (EnteredStmt n x) k arm places others = ignored_places file x k arm places others
ignored_places file _ k arm places others = refl

-- the paths of one list after another's
paths_of_append : (such : PlacedMark → Bool) (b : Marks) (path : ℕ) (xs ys : List (Option Loc)) →
    how_many such (paths_of b path (xs ++ ys)) ≡ how_many such (paths_of b path xs) + how_many such (paths_of b (path + length xs) ys)
paths_of_append such Uncounted path xs ys = omega arith
paths_of_append such (Counted file kind number) path [] ys = let e : path + 0 ≡ path = omega arith in
    ap (λ p. how_many such (paths_of (Counted file kind number) p ys)) (sym e) ∙ omega arith
paths_of_append such (Counted file kind number) path (x ∷ xs) ys =
    let e : suc path + length xs ≡ path + suc (length xs) = omega arith in
    let r = paths_of_append such (Counted file kind number) (suc path) xs ys in
    let d = ap (λ p. how_many such (paths_of (Counted file kind number) p ys)) e in
    omega (arith, r, d)

-- the path of a part, and those after it
part_paths : (such : PlacedMark → Bool) (file : ℕ) (h : Heed) (b : Marks) (path : ℕ) (p : Option Loc) (rest : List (Option Loc)) →
    how_many such (paths_of b path (path_in h p ++ rest)) ≡ how_many such (entry_of (by_path (Within file h) b) path p) + how_many such (paths_of b (past_path (Within file h) path) rest)
part_paths such file Ignored b path p rest = omega arith
part_paths such file (Heeding hints) Uncounted path p rest = omega arith
part_paths such file (Heeding hints) (Counted g kind number) path p rest = omega arith

-- ---- marks and constructs

module _ (file : ℕ) where
  -- marks are those of an entry and those of constructs that are numbered from c, and the next numbers are those after them
  record Agrees (entry ms : List PlacedMark) (d c : Counts) (xs : List Construct) : Type 0 where
    next : d ≡ after c xs
    same : (such : PlacedMark → Bool) → how_many such ms ≡ how_many such entry + how_many such (numbered file c xs)

  agrees_none : {c : Counts} → Agrees [] [] c c []
  agrees_none = record { next = refl; same = λ such. omega arith }

  agrees_both : {en em ms ns : List PlacedMark} {c d e : Counts} {xs ys : List Construct} → Agrees en ms d c xs → Agrees em ns e d ys → Agrees (en ++ em) (ms ++ ns) e c (xs ++ ys)
  agrees_both {en = en} {em = em} {ms = ms} {ns = ns} {c = c} {xs = xs} {ys = ys} a b = record {
    next = b.next ∙ ap (λ x. after x ys) a.next ∙ sym (after_append c xs ys);
    same = λ such.
        let p = many_append such ms ns in
        let q = many_append such en em in
        let r = many_append such (numbered file c xs) (numbered file (after c xs) ys) in
        let s = ap (how_many such) (numbered_append file c xs ys) in
        let t = ap (λ x. how_many such (numbered file x ys)) a.next in
        let u = a.same such in
        let v = b.same such in
        omega (arith, p, q, r, s, t, u, v);
  }

  agrees_two : {ms ns : List PlacedMark} {c d e : Counts} {xs ys : List Construct} → Agrees [] ms d c xs → Agrees [] ns e d ys → Agrees [] (ms ++ ns) e c (xs ++ ys)
  agrees_two a b = agrees_both a b

  agrees_same : {en ms : List PlacedMark} {c d : Counts} {xs ys : List Construct} → xs ≡ ys → Agrees en ms d c xs → Agrees en ms d c ys
  agrees_same {en = en} {c = c} e a = record { next = a.next ∙ ap (after c) e; same = λ such. a.same such ∙ ap (λ l. how_many such en + how_many such (numbered file c l)) e }

  agrees_assoc : {en ms : List PlacedMark} {c d : Counts} (xs ys zs : List Construct) → Agrees en ms d c (xs ++ (ys ++ zs)) → Agrees en ms d c (xs ++ ys ++ zs)
  agrees_assoc xs ys zs a = agrees_same (sym (append_assoc xs ys zs)) a

  agrees_marks : {en ms ns : List PlacedMark} {c d : Counts} {xs : List Construct} → ((such : PlacedMark → Bool) → how_many such ns ≡ how_many such ms) → Agrees en ms d c xs → Agrees en ns d c xs
  agrees_marks e a = record { next = a.next; same = λ such. e such ∙ a.same such }

  agrees_entered : {en ms ns : List PlacedMark} {c d : Counts} {xs : List Construct} → ((such : PlacedMark → Bool) → how_many such ns ≡ how_many such en + how_many such ms) → Agrees [] ms d c xs → Agrees en ns d c xs
  agrees_entered e a = record { next = a.next; same = λ such. let p = e such in let q = a.same such in omega (arith, p, q) }

  -- a construct comes before what is in it, and what enters it is where that is
  agrees_own : (own : List Construct) {en ms : List PlacedMark} {c d e : Counts} {xs : List Construct} → after c own ≡ e → ((such : PlacedMark → Bool) → how_many such en ≡ how_many such (numbered file c own)) →
      Agrees en ms d e xs → Agrees [] ms d c (own ++ xs)
  agrees_own own {c = c} {xs = xs} e h a = record {
    next = a.next ∙ ap (λ x. after x xs) (sym e) ∙ sym (after_append c own xs);
    same = λ such.
        let p = h such in
        let q = a.same such in
        let r = many_append such (numbered file c own) (numbered file (after c own) xs) in
        let s = ap (how_many such) (numbered_append file c own xs) in
        let t = ap (λ x. how_many such (numbered file x xs)) e in
        omega (arith, p, q, r, s, t);
  }

  agrees_entry : {en em ms : List PlacedMark} {c d : Counts} {xs : List Construct} → ((such : PlacedMark → Bool) → how_many such en ≡ how_many such em) → Agrees en ms d c xs → Agrees em ms d c xs
  agrees_entry e a = record { next = a.next; same = λ such. let p = e such in let q = a.same such in omega (arith, p, q) }

  -- the list has an entry of a construct for each of its paths

  entry_counted : (h : Heed) (loc : Option Loc) (k : Numbers) (such : PlacedMark → Bool) →
      how_many such (entry_of (marks (Within file h) construct_kind.Statement loc k) 0 loc) ≡ how_many such (numbered file k.counts (counted (heeded_place h loc)))
  entry_counted Ignored loc k such = refl
  entry_counted (Heeding hints) None k such = refl
  entry_counted (Heeding hints) (Some loc) k such = refl

  paths_are : (such : PlacedMark → Bool) (number path : ℕ) (places : List (Option Loc)) →
      how_many such (paths_of (Counted file construct_kind.Branch number) path places) ≡ how_many such (paths_from file number path places ++ [])
  paths_are such number path [] = refl
  paths_are such number path (x ∷ xs) = ap (λ n. one_if (such (placed (mark file construct_kind.Branch number path) x)) + n) (paths_are such number (suc path) xs)

  entry_branch : (kind : BranchKind) (loc : Option Loc) (places : List (Option Loc)) (k : Numbers) (such : PlacedMark → Bool) →
      how_many such (paths_of (marks_at file construct_kind.Branch loc k) 0 places) ≡ how_many such (numbered file k.counts (branch kind loc places))
  entry_branch kind None places k such = refl
  entry_branch kind (Some loc) places k such = paths_are such k.counts.branches 0 places

  -- a branch of one part, or two
  entry_one : (b : Marks) (p : Option Loc) (h : Heed) (such : PlacedMark → Bool) → how_many such (entry_of (by_path (Within file h) b) 0 p) ≡ how_many such (paths_of b 0 (path_in h p))
  entry_one b p Ignored such = none b
    where
      none : (b : Marks) → how_many such [] ≡ how_many such (paths_of b 0 [])
      none Uncounted = refl
      none (Counted g kind number) = refl
  entry_one Uncounted p (Heeding hints) such = refl
  entry_one (Counted g kind number) p (Heeding hints) such = refl

  entry_two : (b : Marks) (p q : Option Loc) (h g : Heed) (such : PlacedMark → Bool) →
      how_many such (entry_of (by_path (Within file h) b) 0 p ++ entry_of (by_path (Within file g) b) (past_path (Within file h) 0) q) ≡ how_many such (paths_of b 0 (path_in h p ++ path_in g q))
  entry_two Uncounted p q Ignored Ignored such = refl
  entry_two Uncounted p q Ignored (Heeding i) such = refl
  entry_two Uncounted p q (Heeding i) Ignored such = refl
  entry_two Uncounted p q (Heeding i) (Heeding j) such = refl
  entry_two (Counted f kind number) p q Ignored Ignored such = refl
  entry_two (Counted f kind number) p q Ignored (Heeding i) such = refl
  entry_two (Counted f kind number) p q (Heeding i) Ignored such = refl
  entry_two (Counted f kind number) p q (Heeding i) (Heeding j) such = refl

  entry_function : (h : Heed) (loc : Option Loc) (name : Option Identifier) (body : Option Loc) (k : Numbers) (such : PlacedMark → Bool) →
      how_many such (entry_of (marks (Within file h) construct_kind.Function (function_place loc name body) k) 0 body) ≡ how_many such (numbered file k.counts (counted_function (heeded_place h loc) name body))
  entry_function Ignored loc name body k such = refl
  entry_function (Heeding hints) None None None k such = refl
  entry_function (Heeding hints) None None (Some body) k such = refl
  entry_function (Heeding hints) None (Some name) body k such = refl
  entry_function (Heeding hints) (Some loc) None None k such = refl
  entry_function (Heeding hints) (Some loc) None (Some body) k such = refl
  entry_function (Heeding hints) (Some loc) (Some name) body k such = by_name name.loc body
    where
      by_name : (declared body : Option Loc) → how_many such (entry_of (marks_at file construct_kind.Function (function_place (Some loc) (Some (identifier name.name declared)) body) k) 0 body)
          ≡ how_many such (numbered file k.counts (counted_function (Some loc) (Some (identifier name.name declared)) body))
      by_name None body = refl
      by_name (Some declared) None = refl
      by_name (Some declared) (Some body) = refl

  -- a statement that is counted and stands under no label of its own
  agrees_counted : (h : Heed) (arm loc : Option Loc) (f : Numbers → Linked Stmt) (k : Numbers) {xs : List Construct} →
      ((j : Numbers) → places_of (f j).tree ≡ with_place loc []) → ((j : Numbers) (places : List Loc) → Agrees [] (entered_stmt arm places (f j).tree) (f j).next.counts j.counts xs) →
      Agrees [] (entered_stmt arm (places_of (counted_stmt (Within file h) loc f k).tree) (counted_stmt (Within file h) loc f k).tree) (counted_stmt (Within file h) loc f k).next.counts k.counts
      (counted (heeded_place h loc) ++ xs)
  agrees_counted Ignored arm loc f k e a = a k (places_of (f k).tree)
  agrees_counted (Heeding hints) arm None f k e a = a k (places_of (f k).tree)
  agrees_counted (Heeding hints) arm (Some loc) f k e a =
      let j = after_marks_at construct_kind.Statement (Some loc) k in
      let n = mark file construct_kind.Statement k.counts.statements 0 in
      agrees_own (counted (Some loc)) {en = placed n (Some loc) ∷ []} (after_counted (Some loc) k) (entry_counted (Heeding hints) (Some loc) k)
      (agrees_entered (λ such. let p = ap (λ l. how_many such (entered_stmt arm l (EnteredStmt n (f j).tree))) (e j) in omega (arith, p)) (a j []))

  -- one under a label: the marks before it stand before the label
  agrees_labelled : (h : Heed) (arm loc : Option Loc) (name : Identifier) (x : Stmt) (k : Numbers) {xs : List Construct} → let m = Within file h in
      ((j : Numbers) → Agrees [] (entered_stmt arm (places_of (link_stmt (at_stmt m x) x j).tree) (link_stmt (at_stmt m x) x j).tree) (link_stmt (at_stmt m x) x j).next.counts j.counts xs) →
      Agrees [] (entered_stmt arm (places_of (link_stmt m (Labelled loc name x) k).tree) (link_stmt m (Labelled loc name x) k).tree) (link_stmt m (Labelled loc name x) k).next.counts k.counts
      (counted (heeded_place h loc) ++ xs)
  agrees_labelled Ignored arm loc name x k a = let t = (link_stmt (Within file Ignored) x k).tree in
      agrees_marks (λ such. ap (how_many such) (marks_labelled arm (places_of (labelled loc name t)) loc name t ∙ ignored_places file x k arm (places_of (labelled loc name t)) (places_of t))) (a k)
  agrees_labelled (Heeding hints) arm None name x k a = let t = (link_stmt (at_stmt (Within file (Heeding hints)) x) x k).tree in
      agrees_marks (λ such. ap (λ l. how_many such (entered_stmt arm l (labelled None name t))) (labelled_places None name t) ∙ ap (how_many such) (marks_labelled arm (places_of t) None name t)) (a k)
  agrees_labelled (Heeding hints) arm (Some loc) name x k a =
      let j = after_marks_at construct_kind.Statement (Some loc) k in
      let n = mark file construct_kind.Statement k.counts.statements 0 in
      let t = (link_stmt (at_stmt (Within file (Heeding hints)) x) x j).tree in
      agrees_own (counted (Some loc)) {en = placed n (Some loc) ∷ []} (after_counted (Some loc) k) (entry_counted (Heeding hints) (Some loc) k)
      (agrees_entered (λ such. let p = ap (λ l. how_many such (entered_stmt arm l (EnteredStmt n (labelled (Some loc) name t)))) (labelled_places (Some loc) name t) in omega (arith, p))
      (agrees_marks (λ such. ap (how_many such) (marks_labelled arm (places_of t) (Some loc) name t)) (a j)))

  agrees_counted_expr : (h : Heed) (loc : Option Loc) (f : Numbers → Linked Expr) (k : Numbers) {xs : List Construct} → ((j : Numbers) → bare_place (f j).tree ≡ loc) → ((j : Numbers) → Agrees [] (entered_expr (f j).tree) (f j).next.counts j.counts xs) →
      Agrees [] (entered_expr (counted_expr (Within file h) loc f k).tree) (counted_expr (Within file h) loc f k).next.counts k.counts (counted (heeded_place h loc) ++ xs)
  agrees_counted_expr h loc f k e a = let j = after_marks (Within file h) construct_kind.Statement loc k in
      agrees_own (counted (heeded_place h loc)) (after_counted (heeded_place h loc) k) (entry_counted h loc k) (agrees_entered (λ such. many_expr such (marks (Within file h) construct_kind.Statement loc k) 0 (f j).tree (e j)) (a j))

  -- ---- operands of chains

  abbrev is_operand : Chain → Bool
  is_operand Alone = false
  is_operand (Operand b path) = true

  -- the leaves of an operand, and those of them that are entered in it
  abbrev leaves_of : Chain → Heed → Expr → List PlacedMark
  leaves_of Alone h e = []
  leaves_of (Operand b path) h e = paths_of b path (leaf_paths h e)

  abbrev leaves_in : Heed → Expr → Chain → List PlacedMark
  leaves_in h (Logical loc operator e f) chain = leaves_of chain h (Logical loc operator e f)
  leaves_in h (Parenthesized loc e) chain = leaves_of chain h e
  leaves_in h (Entered n e) chain = leaves_in h e chain
  leaves_in h leaf chain = []

  agrees_operand : (h : Heed) (t : Expr) (chain : Chain) (k : Numbers) {xs : List Construct} → let a = link_expr (Within file h) chain t k in
      Agrees (leaves_in h t chain) (entered_expr a.tree) a.next.counts k.counts xs →
      Agrees (leaves_of chain h t) (entered_expr (operand (Within file h) chain a).tree) (operand (Within file h) chain a).next.counts k.counts xs
  agrees_operand h (Logical loc operator e f) Alone k a = a
  agrees_operand h (Logical loc operator e f) (Operand b path) k a = a
  agrees_operand h (Parenthesized loc e) Alone k a = a
  agrees_operand h (Parenthesized loc e) (Operand b path) k a = a
  agrees_operand h (Entered n e) Alone k a = agrees_operand h e Alone k a
  agrees_operand h (Entered n e) (Operand b path) k a = agrees_operand h e (Operand b path) k a
  agrees_operand h t Alone k a = a
  agrees_operand h t (Operand b path) k a = let x = link_expr (Within file h) (Operand b path) t k in
      agrees_entered (λ such. let p = many_expr such (by_path (Within file h) b) path x.tree (bare_linked (Within file h) (Operand b path) t k) in
      let q = part_paths such file h b path (bare_place t) [] in let r = append-nil (path_in h (bare_place t)) in let s = ap (λ l. how_many such (paths_of b path l)) r in let u = no_paths such b (past_path (Within file h) path) in omega (arith, p, q, s, u)) a
    where
      no_paths : (such : PlacedMark → Bool) (b : Marks) (path : ℕ) → how_many such (paths_of b path []) ≡ 0
      no_paths such Uncounted path = refl
      no_paths such (Counted g kind number) path = refl

  -- one operand after another
  agrees_chain : (b : Marks) (path : ℕ) (h g : Heed) (e f : Expr) {ms ns : List PlacedMark} {c d i : Counts} {xs ys : List Construct} →
      Agrees (leaves_of (Operand b path) h e) ms d c xs → Agrees (leaves_of (Operand b (past_leaves (Within file h) e path)) g f) ns i d ys →
      Agrees (paths_of b path (leaf_paths h e ++ leaf_paths g f)) (ms ++ ns) i c (xs ++ ys)
  agrees_chain b path h g e f x y = agrees_entry {en = paths_of b path (leaf_paths h e) ++ paths_of b (path + length (leaf_paths h e)) (leaf_paths g f)} (λ such. many_append such (paths_of b path (leaf_paths h e)) (paths_of b (path + length (leaf_paths h e)) (leaf_paths g f)) ∙ sym (paths_of_append such b path (leaf_paths h e) (leaf_paths g f))) (agrees_both x y)

  -- ---- a part as the walk goes to it in the tree without its marks

  here_expr : (h : Heed) (x : Expr) (chained : Bool) {en ms : List PlacedMark} {c d : Counts} → Agrees en ms d c (walk_expr (heed h (expr_place x)) chained (unmarked_expr x)) → Agrees en ms d c (walk_expr (heed h (expr_place (unmarked_expr x))) chained (unmarked_expr x))
  here_expr h x chained a = agrees_same (ap (λ p. walk_expr (heed h p) chained (unmarked_expr x)) (sym (expr_unmarked x))) a

  here_stmt : (h : Heed) (x : Stmt) {en ms : List PlacedMark} {c d : Counts} → Agrees en ms d c (walk_stmt (heed h (stmt_place x)) (unmarked_stmt x)) → Agrees en ms d c (walk_stmt (heed h (stmt_place (unmarked_stmt x))) (unmarked_stmt x))
  here_stmt h x a = agrees_same (ap (λ p. walk_stmt (heed h p) (unmarked_stmt x)) (sym (stmt_unmarked x))) a

  here_property : (h : Heed) (x : Property) {en ms : List PlacedMark} {c d : Counts} → Agrees en ms d c (walk_property (heed h (property_place x)) (unmarked_property x)) → Agrees en ms d c (walk_property (heed h (property_place (unmarked_property x))) (unmarked_property x))
  here_property h x a = agrees_same (ap (λ p. walk_property (heed h p) (unmarked_property x)) (sym (property_unmarked x))) a

  here_param : (h : Heed) (x : Param) {en ms : List PlacedMark} {c d : Counts} → Agrees en ms d c (walk_param (heed h (param_place x)) (unmarked_param x)) → Agrees en ms d c (walk_param (heed h (param_place (unmarked_param x))) (unmarked_param x))
  here_param h x a = agrees_same (ap (λ p. walk_param (heed h p) (unmarked_param x)) (sym (param_unmarked x))) a

  here_declarator : (h : Heed) (x : Declarator) {en ms : List PlacedMark} {c d : Counts} → Agrees en ms d c (walk_declarator (heed h (declarator_place x)) (unmarked_declarator x)) → Agrees en ms d c (walk_declarator (heed h (declarator_place (unmarked_declarator x))) (unmarked_declarator x))
  here_declarator h x a = agrees_same (ap (λ p. walk_declarator (heed h p) (unmarked_declarator x)) (sym (declarator_unmarked x))) a

  here_case : (h : Heed) (x : Case) {en ms : List PlacedMark} {c d : Counts} → Agrees en ms d c (walk_case (heed h (case_place x)) (unmarked_case x)) → Agrees en ms d c (walk_case (heed h (case_place (unmarked_case x))) (unmarked_case x))
  here_case h x a = agrees_same (ap (λ p. walk_case (heed h p) (unmarked_case x)) (sym (case_unmarked x))) a

  none_alone : (h : Heed) (t : Expr) → leaves_in h t Alone ≡ []
  none_alone h (Entered n e) = none_alone h e
  none_alone h _ = refl

  alone_expr : (h : Heed) (x : Expr) {ms : List PlacedMark} {c d : Counts} → Agrees (leaves_in (heed h (expr_place x)) x Alone) ms d c (walk_expr (heed h (expr_place x)) false (unmarked_expr x)) →
      Agrees [] ms d c (walk_expr (heed h (expr_place (unmarked_expr x))) false (unmarked_expr x))
  alone_expr h x a = here_expr h x false (agrees_entry (λ such. ap (how_many such) (none_alone (heed h (expr_place x)) x)) a)

  mutual
    agrees_expr : (h : Heed) (t : Expr) (chain : Chain) (k : Numbers) → Agrees (leaves_in h t chain) (entered_expr (link_expr (Within file h) chain t k).tree) (link_expr (Within file h) chain t k).next.counts k.counts (walk_expr h (is_operand chain) (unmarked_expr t))
    agrees_expr h (IdentifierReference loc text) chain k = agrees_none
    agrees_expr h (This loc) chain k = agrees_none
    agrees_expr h (NullLiteral loc) chain k = agrees_none
    agrees_expr h (BooleanLiteral loc b) chain k = agrees_none
    agrees_expr h (NumericLiteral loc text) chain k = agrees_none
    agrees_expr h (StringLiteral loc spelled) chain k = agrees_none
    agrees_expr h (ArrayLiteral loc es) chain k = agrees_exprs h es k
    agrees_expr h (ObjectLiteral loc properties) chain k = agrees_properties h properties k
    agrees_expr h (FunctionExpression loc name function) chain k = agrees_function h function loc name k
    agrees_expr h (ArrowFunction loc number params body) chain k =
        let m = Within file h in
        let place = function_place loc None (concise_place body) in
        let j = after_marks m construct_kind.Function place k in
        let p = link_params m params (after_code j) in
        agrees_same (ap (λ b. counted_function (heeded_place h loc) None b ++ (walk_params h (unmarked_params params) ++ walk_concise_body h (unmarked_concise_body body))) (sym (concise_unmarked body)))
        (agrees_own (counted_function (heeded_place h loc) None (concise_place body)) (after_function file h loc None (concise_place body) k) (entry_function h loc None (concise_place body) k)
        (agrees_both (agrees_params h params (after_code j))
        (agrees_entered (λ such. many_concise such (marks m construct_kind.Function place k) (link_concise_body m body p.next).tree (concise_linked m body p.next)) (agrees_concise_body h body p.next))))
    agrees_expr h (RegularExpressionLiteral loc text flags) chain k = agrees_none
    agrees_expr h (TemplateLiteral loc spelled parts) chain k = agrees_template_parts h parts k
    agrees_expr h (Parenthesized loc e) chain k = agrees_operand h e chain k (agrees_expr h e chain k)
    agrees_expr h (NamedMember loc e text) chain k = (alone_expr h e (agrees_expr (heed h (expr_place e)) e Alone k))
    agrees_expr h (ComputedMember loc e f) chain k = agrees_two ((alone_expr h e (agrees_expr (heed h (expr_place e)) e Alone k))) ((alone_expr h f (agrees_expr (heed h (expr_place f)) f Alone (link_expr (at_expr (Within file h) e) Alone e k).next)))
    agrees_expr h (New loc e es) chain k = agrees_two ((alone_expr h e (agrees_expr (heed h (expr_place e)) e Alone k))) (agrees_exprs h es (link_expr (at_expr (Within file h) e) Alone e k).next)
    agrees_expr h (Call loc e es) chain k = agrees_two ((alone_expr h e (agrees_expr (heed h (expr_place e)) e Alone k))) (agrees_exprs h es (link_expr (at_expr (Within file h) e) Alone e k).next)
    agrees_expr h (PostfixUpdate loc operator e) chain k = (alone_expr h e (agrees_expr (heed h (expr_place e)) e Alone k))
    agrees_expr h (PrefixUpdate loc operator e) chain k = (alone_expr h e (agrees_expr (heed h (expr_place e)) e Alone k))
    agrees_expr h (Unary loc operator e) chain k = (alone_expr h e (agrees_expr (heed h (expr_place e)) e Alone k))
    agrees_expr h (Binary loc operator e f) chain k = agrees_two ((alone_expr h e (agrees_expr (heed h (expr_place e)) e Alone k))) ((alone_expr h f (agrees_expr (heed h (expr_place f)) f Alone (link_expr (at_expr (Within file h) e) Alone e k).next)))
    agrees_expr h (Logical loc operator e f) (Operand b path) k =
        let g = heed h (expr_place e) in
        let i = heed h (expr_place f) in
        let left = operand (Within file g) (Operand b path) (link_expr (Within file g) (Operand b path) e k) in
        let next = past_leaves (Within file g) e path in
        agrees_chain b path g i e f
        (here_expr h e true (agrees_operand g e (Operand b path) k (agrees_expr g e (Operand b path) k)))
        (here_expr h f true (agrees_operand i f (Operand b next) left.next (agrees_expr i f (Operand b next) left.next)))
    agrees_expr h (Logical loc operator e f) Alone k =
        let g = heed h (expr_place e) in
        let i = heed h (expr_place f) in
        let place = heeded_place h loc in
        let j = after_marks_at construct_kind.Branch place k in
        let b = marks_at file construct_kind.Branch place k in
        let left = operand (Within file g) (Operand b 0) (link_expr (Within file g) (Operand b 0) e j) in
        let next = past_leaves (Within file g) e 0 in
        let paths = leaf_paths g e ++ leaf_paths i f in
        agrees_same (ap (λ l. branch branch_kind.Logical place l ++ (walk_expr (heed h (expr_place (unmarked_expr e))) true (unmarked_expr e) ++ walk_expr (heed h (expr_place (unmarked_expr f))) true (unmarked_expr f))) (sym (chain_paths_same h e f)))
        (agrees_own (branch branch_kind.Logical place paths) (after_branch branch_kind.Logical place paths k) (entry_branch branch_kind.Logical place paths k)
        (agrees_chain b 0 g i e f
        (here_expr h e true (agrees_operand g e (Operand b 0) j (agrees_expr g e (Operand b 0) j)))
        (here_expr h f true (agrees_operand i f (Operand b next) left.next (agrees_expr i f (Operand b next) left.next)))))
    agrees_expr h (Conditional loc e f g) chain k =
        let m = Within file h in
        let place = heeded_place h loc in
        let j = after_marks_at construct_kind.Branch place k in
        let b = marks_at file construct_kind.Branch place k in
        let first = link_expr (at_expr m e) Alone e j in
        let holds = link_expr (at_expr m f) Alone f first.next in
        let fails = link_expr (at_expr m g) Alone g holds.next in
        let i = heed h (expr_place f) in
        let n = heed h (expr_place g) in
        let paths = expr_paths h f ++ expr_paths h g in
        agrees_same (ap (λ l. branch branch_kind.Conditional place l ++ (walk_expr (heed h (expr_place (unmarked_expr e))) false (unmarked_expr e) ++ walk_expr (heed h (expr_place (unmarked_expr f))) false (unmarked_expr f) ++ walk_expr (heed h (expr_place (unmarked_expr g))) false (unmarked_expr g)))
        (sym (pair_same (expr_paths_same h f) (expr_paths_same h g))))
        (agrees_own (branch branch_kind.Conditional place paths) (after_branch branch_kind.Conditional place paths k)
        (λ such. entry_two b (bare_place f) (bare_place g) i n such ∙ entry_branch branch_kind.Conditional place paths k such)
        (agrees_both (agrees_both (alone_expr h e (agrees_expr (heed h (expr_place e)) e Alone j))
        (agrees_entered (λ such. many_expr such (by_path (Within file i) b) 0 holds.tree (bare_linked (at_expr m f) Alone f first.next)) (alone_expr h f (agrees_expr i f Alone first.next))))
        (agrees_entered (λ such. many_expr such (by_path (Within file n) b) (past_path (Within file i) 0) fails.tree (bare_linked (at_expr m g) Alone g holds.next)) (alone_expr h g (agrees_expr n g Alone holds.next)))))
    agrees_expr h (Assignment loc operator e f) chain k = agrees_two ((alone_expr h e (agrees_expr (heed h (expr_place e)) e Alone k))) ((alone_expr h f (agrees_expr (heed h (expr_place f)) f Alone (link_expr (at_expr (Within file h) e) Alone e k).next)))
    agrees_expr h (Comma loc e f) chain k = agrees_two ((alone_expr h e (agrees_expr (heed h (expr_place e)) e Alone k))) ((alone_expr h f (agrees_expr (heed h (expr_place f)) f Alone (link_expr (at_expr (Within file h) e) Alone e k).next)))
    agrees_expr h (Entered n e) chain k = agrees_expr h e chain k

    agrees_stmt : (h : Heed) (t : Stmt) (arm : Option Loc) (k : Numbers) → Agrees [] (entered_stmt arm (places_of (link_stmt (Within file h) t k).tree) (link_stmt (Within file h) t k).tree) (link_stmt (Within file h) t k).next.counts k.counts (walk_stmt h (unmarked_stmt t))
    agrees_stmt h (Directive loc spelled) arm k = agrees_none
    agrees_stmt h (Block loc xs) arm k = agrees_stmts h xs k
    agrees_stmt h (VariableDeclaration loc kind declarators) arm k = agrees_declarators h declarators k
    agrees_stmt h (Empty loc) arm k = agrees_none
    agrees_stmt h (Expression loc e) arm k = agrees_counted h arm loc (λ k. made (Expression loc) (link_expr (at_expr (Within file h) e) Alone e k)) k (λ j. refl) (λ j places. (alone_expr h e (agrees_expr (heed h (expr_place e)) e Alone j)))
    agrees_stmt h (If loc e x y) arm k =
        let m = Within file h in
        let place = heeded_place h loc in
        let left = heed_arm hint.If h loc in
        let other = heed_arm hint.Else h loc in
        let g = heed left (stmt_place x) in
        let o = heed other (stmt_if_place y) in
        let paths = if_paths h loc x y in
        agrees_same (ap (λ l. counted place ++ branch branch_kind.If place l ++ (walk_expr (heed h (expr_place (unmarked_expr e))) false (unmarked_expr e) ++ walk_stmt (heed left (stmt_place (unmarked_stmt x))) (unmarked_stmt x) ++ walk_stmt_if other (unmarked_stmt_if y))) (sym (if_paths_same h loc x y)))
        (agrees_assoc (counted place) (branch branch_kind.If place paths) _
        (agrees_counted h arm loc (λ k. branched m loc (λ b k. three (λ e' x' y'. If loc e' (enter_stmt (by_path (Within file g) b) 0 x') (enter_arm (by_path (Within file o) b) (past_path (Within file g) 0) y'))
        (link_expr (at_expr m e) Alone e k) (link_stmt (Within file g) x) (link_stmt_if (Within file o) y)) k) k (λ j. refl) (λ i places.
        let j = after_marks_at construct_kind.Branch place i in
        let b = marks_at file construct_kind.Branch place i in
        let first = link_expr (at_expr m e) Alone e j in
        let holds = link_stmt (Within file g) x first.next in
        agrees_own (branch branch_kind.If place paths) (after_branch branch_kind.If place paths i)
        (λ such. entry_two b loc (stmt_if_place y) g o such ∙ entry_branch branch_kind.If place paths i such)
        (agrees_both (agrees_both (alone_expr h e (agrees_expr (heed h (expr_place e)) e Alone j))
        (agrees_entered (λ such. many_arm file such loc place i g 0 holds.tree) (here_stmt left x (agrees_stmt g x loc first.next))))
        (agrees_entered (λ such. many_else such (Within file o) (by_path (Within file o) b) (past_path (Within file g) 0) y holds.next (is_branch file o place i) (stmt_if_linked (Within file o) y holds.next)) (agrees_stmt_if other y holds.next))))))
    agrees_stmt h (DoWhile loc x e) arm k = agrees_counted h arm loc (λ k. two (DoWhile loc) (link_stmt (at_stmt (Within file h) x) x k) (link_expr (at_expr (Within file h) e) Alone e)) k (λ j. refl) (λ j places. agrees_two ((here_stmt h x (agrees_stmt (heed h (stmt_place x)) x None j))) ((alone_expr h e (agrees_expr (heed h (expr_place e)) e Alone (link_stmt (at_stmt (Within file h) x) x j).next))))
    agrees_stmt h (While loc e x) arm k = agrees_counted h arm loc (λ k. two (While loc) (link_expr (at_expr (Within file h) e) Alone e k) (link_stmt (at_stmt (Within file h) x) x)) k (λ j. refl) (λ j places. agrees_two ((alone_expr h e (agrees_expr (heed h (expr_place e)) e Alone j))) ((here_stmt h x (agrees_stmt (heed h (stmt_place x)) x None (link_expr (at_expr (Within file h) e) Alone e j).next))))
    agrees_stmt h (For loc init e f x) arm k = agrees_counted h arm loc (λ k. four (For loc) (link_for_init (Within file h) init k) (link_expr_if (Within file h) e) (link_expr_if (Within file h) f) (link_stmt (at_stmt (Within file h) x) x)) k (λ j. refl) (λ j places. agrees_two (agrees_two (agrees_two (agrees_for_init h init j) (agrees_expr_if h e (link_for_init (Within file h) init j).next)) (agrees_expr_if h f (link_expr_if (Within file h) e (link_for_init (Within file h) init j).next).next)) ((here_stmt h x (agrees_stmt (heed h (stmt_place x)) x None (link_expr_if (Within file h) f (link_expr_if (Within file h) e (link_for_init (Within file h) init j).next).next).next))))
    agrees_stmt h (ForIn loc target e x) arm k = agrees_counted h arm loc (λ k. three (ForIn loc) (link_for_target (Within file h) target k) (link_expr (at_expr (Within file h) e) Alone e) (link_stmt (at_stmt (Within file h) x) x)) k (λ j. refl) (λ j places. agrees_two (agrees_two (agrees_for_target h target j) ((alone_expr h e (agrees_expr (heed h (expr_place e)) e Alone (link_for_target (Within file h) target j).next)))) ((here_stmt h x (agrees_stmt (heed h (stmt_place x)) x None (link_expr (at_expr (Within file h) e) Alone e (link_for_target (Within file h) target j).next).next))))
    agrees_stmt h (ForOf loc target e x) arm k = agrees_counted h arm loc (λ k. three (ForOf loc) (link_for_target (Within file h) target k) (link_expr (at_expr (Within file h) e) Alone e) (link_stmt (at_stmt (Within file h) x) x)) k (λ j. refl) (λ j places. agrees_two (agrees_two (agrees_for_target h target j) ((alone_expr h e (agrees_expr (heed h (expr_place e)) e Alone (link_for_target (Within file h) target j).next)))) ((here_stmt h x (agrees_stmt (heed h (stmt_place x)) x None (link_expr (at_expr (Within file h) e) Alone e (link_for_target (Within file h) target j).next).next))))
    agrees_stmt h (Continue loc name) arm k = agrees_counted h arm loc (λ k. kept (Continue loc name) k) k (λ j. refl) (λ j places. agrees_none)
    agrees_stmt h (Break loc name) arm k = agrees_counted h arm loc (λ k. kept (Break loc name) k) k (λ j. refl) (λ j places. agrees_none)
    agrees_stmt h (Return loc e) arm k = agrees_counted h arm loc (λ k. made (Return loc) (link_expr_if (Within file h) e k)) k (λ j. refl) (λ j places. agrees_expr_if h e j)
    agrees_stmt h (Switch loc e cases) arm k =
        let m = Within file h in
        let place = heeded_place h loc in
        let paths = case_paths h cases in
        agrees_same (ap (λ l. counted place ++ branch branch_kind.Switch place l ++ (walk_expr (heed h (expr_place (unmarked_expr e))) false (unmarked_expr e) ++ walk_cases h (unmarked_cases cases))) (sym (case_paths_same h cases)))
        (agrees_assoc (counted place) (branch branch_kind.Switch place paths) _
        (agrees_counted h arm loc (λ k. branched m loc (λ b k. two (Switch loc) (link_expr (at_expr m e) Alone e k) (link_cases m b 0 cases)) k) k (λ j. refl) (λ i places.
        let j = after_marks_at construct_kind.Branch place i in
        agrees_own (branch branch_kind.Switch place paths) (after_branch branch_kind.Switch place paths i) (entry_branch branch_kind.Switch place paths i)
        (agrees_both (alone_expr h e (agrees_expr (heed h (expr_place e)) e Alone j)) (agrees_cases h cases (marks_at file construct_kind.Branch place i) 0 (link_expr (at_expr m e) Alone e j).next)))))
    agrees_stmt h (Labelled loc name x) arm k = agrees_labelled h arm loc name x k (λ j. here_stmt h x (agrees_stmt (heed h (stmt_place x)) x arm j))
    agrees_stmt h (Throw loc e) arm k = agrees_counted h arm loc (λ k. made (Throw loc) (link_expr (at_expr (Within file h) e) Alone e k)) k (λ j. refl) (λ j places. (alone_expr h e (agrees_expr (heed h (expr_place e)) e Alone j)))
    agrees_stmt h (TryCatch loc xs catch) arm k = agrees_counted h arm loc (λ k. two (TryCatch loc) (link_stmts (Within file h) xs k) (link_catch (Within file h) catch)) k (λ j. refl) (λ j places. agrees_two (agrees_stmts h xs j) (agrees_catch h catch (link_stmts (Within file h) xs j).next))
    agrees_stmt h (TryFinally loc xs ys) arm k = agrees_counted h arm loc (λ k. two (TryFinally loc) (link_stmts (Within file h) xs k) (link_stmts (Within file h) ys)) k (λ j. refl) (λ j places. agrees_two (agrees_stmts h xs j) (agrees_stmts h ys (link_stmts (Within file h) xs j).next))
    agrees_stmt h (TryCatchFinally loc xs catch ys) arm k = agrees_counted h arm loc (λ k. three (TryCatchFinally loc) (link_stmts (Within file h) xs k) (link_catch (Within file h) catch) (link_stmts (Within file h) ys)) k (λ j. refl) (λ j places. agrees_two (agrees_two (agrees_stmts h xs j) (agrees_catch h catch (link_stmts (Within file h) xs j).next)) (agrees_stmts h ys (link_catch (Within file h) catch (link_stmts (Within file h) xs j).next).next))
    agrees_stmt h (Debugger loc) arm k = agrees_counted h arm loc (λ k. kept (Debugger loc) k) k (λ j. refl) (λ j places. agrees_none)
    agrees_stmt h (FunctionDeclaration loc name function) arm k = agrees_function h function loc (Some name) k
    agrees_stmt h (EnteredStmt n x) arm k = agrees_stmt h x arm k

    agrees_property : (h : Heed) (t : Property) (k : Numbers) → Agrees [] (entered_property (link_property (Within file h) t k).tree) (link_property (Within file h) t k).next.counts k.counts (walk_property h (unmarked_property t))
    agrees_property h (Shorthand loc text) k = agrees_none
    agrees_property h (KeyValue loc key e) k = agrees_two (agrees_property_key h key k) ((alone_expr h e (agrees_expr (heed h (expr_place e)) e Alone (link_property_key (Within file h) key k).next)))
    agrees_property h (Method loc key (MakeFunction number params body)) k =
        let m = Within file h in
        let place = function_place loc None (braced_place body) in
        let j = after_marks m construct_kind.Function place k in
        let q = link_property_key m key (after_code j) in
        let p = link_params m params q.next in
        agrees_same (ap (λ b. counted_function (heeded_place h loc) None b ++ (walk_property_key h (unmarked_property_key key) ++ (walk_params h (unmarked_params params) ++ walk_function_body h (unmarked_function_body body)))) (sym (braced_unmarked body)))
        (agrees_own (counted_function (heeded_place h loc) None (braced_place body)) (after_function file h loc None (braced_place body) k) (entry_function h loc None (braced_place body) k)
        (agrees_both (agrees_property_key h key (after_code j)) (agrees_both (agrees_params h params q.next)
        (agrees_entered (λ such. many_body such (marks m construct_kind.Function place k) (link_function_body m body p.next).tree (braced_linked m body p.next)) (agrees_function_body h body p.next)))))

    agrees_property_key : (h : Heed) (t : PropertyKey) (k : Numbers) → Agrees [] (entered_property_key (link_property_key (Within file h) t k).tree) (link_property_key (Within file h) t k).next.counts k.counts (walk_property_key h (unmarked_property_key t))
    agrees_property_key h (NameKey text) k = agrees_none
    agrees_property_key h (StringKey spelled) k = agrees_none
    agrees_property_key h (NumberKey text) k = agrees_none
    agrees_property_key h (ComputedKey e) k = (alone_expr h e (agrees_expr (heed h (expr_place e)) e Alone k))

    agrees_concise_body : (h : Heed) (t : ConciseBody) (k : Numbers) → Agrees [] (entered_concise_body (link_concise_body (Within file h) t k).tree) (link_concise_body (Within file h) t k).next.counts k.counts (walk_concise_body h (unmarked_concise_body t))
    agrees_concise_body h (ExpressionBody e) k = agrees_same (ap (λ l. l ++ walk_expr (heed h (expr_place (unmarked_expr e))) false (unmarked_expr e)) (sym (counted_same h e)))
        (agrees_counted_expr (heed h (expr_place e)) (bare_place e) (link_expr (at_expr (Within file h) e) Alone e) k (λ j. bare_linked (at_expr (Within file h) e) Alone e j) (λ j. alone_expr h e (agrees_expr (heed h (expr_place e)) e Alone j)))
    agrees_concise_body h (BlockBody body) k = agrees_function_body h body k

    agrees_for_init : (h : Heed) (t : ForInit) (k : Numbers) → Agrees [] (entered_for_init (link_for_init (Within file h) t k).tree) (link_for_init (Within file h) t k).next.counts k.counts (walk_for_init h (unmarked_for_init t))
    agrees_for_init h NoInit k = agrees_none
    agrees_for_init h (InitDeclaration kind declarators) k = agrees_declarators h declarators k
    agrees_for_init h (InitExpression e) k = (alone_expr h e (agrees_expr (heed h (expr_place e)) e Alone k))

    agrees_for_target : (h : Heed) (t : ForTarget) (k : Numbers) → Agrees [] (entered_for_target (link_for_target (Within file h) t k).tree) (link_for_target (Within file h) t k).next.counts k.counts (walk_for_target h (unmarked_for_target t))
    agrees_for_target h (TargetDeclaration kind pattern) k = agrees_none
    agrees_for_target h (TargetExpression e) k = (alone_expr h e (agrees_expr (heed h (expr_place e)) e Alone k))

    agrees_template_part : (h : Heed) (t : TemplatePart) (k : Numbers) → Agrees [] (entered_template_part (link_template_part (Within file h) t k).tree) (link_template_part (Within file h) t k).next.counts k.counts (walk_template_part h (unmarked_template_part t))
    agrees_template_part h (MakeTemplatePart e spelled) k = (alone_expr h e (agrees_expr (heed h (expr_place e)) e Alone k))

    agrees_function : (h : Heed) (t : Function) (loc : Option Loc) (name : Option Identifier) (k : Numbers) → Agrees [] (entered_function (link_function (Within file h) loc name t k).tree) (link_function (Within file h) loc name t k).next.counts k.counts (counted_function (heeded_place h loc) name (body_place (unmarked_function t)) ++ walk_function h (unmarked_function t))
    agrees_function h (MakeFunction number params body) loc name k =
        let m = Within file h in
        let place = function_place loc name (braced_place body) in
        let j = after_marks m construct_kind.Function place k in
        let p = link_params m params (after_code j) in
        agrees_same (ap (λ b. counted_function (heeded_place h loc) name b ++ (walk_params h (unmarked_params params) ++ walk_function_body h (unmarked_function_body body))) (sym (braced_unmarked body)))
        (agrees_own (counted_function (heeded_place h loc) name (braced_place body)) (after_function file h loc name (braced_place body) k) (entry_function h loc name (braced_place body) k)
        (agrees_both (agrees_params h params (after_code j))
        (agrees_entered (λ such. many_body such (marks m construct_kind.Function place k) (link_function_body m body p.next).tree (braced_linked m body p.next)) (agrees_function_body h body p.next))))

    agrees_function_body : (h : Heed) (t : FunctionBody) (k : Numbers) → Agrees [] (entered_function_body (link_function_body (Within file h) t k).tree) (link_function_body (Within file h) t k).next.counts k.counts (walk_function_body h (unmarked_function_body t))
    agrees_function_body h (MakeFunctionBody loc xs) k = agrees_stmts h xs k
    agrees_function_body h (EnteredBody n body) k = agrees_function_body h body k

    agrees_param : (h : Heed) (t : Param) (k : Numbers) → Agrees [] (entered_param (link_param (Within file h) t k).tree) (link_param (Within file h) t k).next.counts k.counts (walk_param h (unmarked_param t))
    agrees_param h (MakeParam loc pattern none_expr) k = agrees_none
    agrees_param h (MakeParam loc pattern (some_expr e)) k =
        let m = Within file h in
        let place = heeded_place h loc in
        let j = after_marks_at construct_kind.Branch place k in
        let b = marks_at file construct_kind.Branch place k in
        let g = heed h (expr_place e) in
        agrees_same (ap (λ l. branch branch_kind.Default place l ++ walk_expr (heed h (expr_place (unmarked_expr e))) false (unmarked_expr e)) (sym (expr_paths_same h e)))
        (agrees_own (branch branch_kind.Default place (expr_paths h e)) (after_branch branch_kind.Default place (expr_paths h e) k)
        (λ such. entry_one b (bare_place e) g such ∙ entry_branch branch_kind.Default place (expr_paths h e) k such)
        (agrees_entered (λ such. many_expr such (by_path (Within file g) b) 0 (link_expr (Within file g) Alone e j).tree (bare_linked (Within file g) Alone e j)) (alone_expr h e (agrees_expr g e Alone j))))

    agrees_declarator : (h : Heed) (t : Declarator) (k : Numbers) → Agrees [] (entered_declarator (link_declarator (Within file h) t k).tree) (link_declarator (Within file h) t k).next.counts k.counts (walk_declarator h (unmarked_declarator t))
    agrees_declarator h (MakeDeclarator loc pattern none_expr) k = agrees_none
    agrees_declarator h (MakeDeclarator loc pattern (some_expr e)) k = agrees_same (ap (λ l. l ++ walk_expr (heed h (expr_place (unmarked_expr e))) false (unmarked_expr e)) (sym (counted_same h e)))
        (agrees_counted_expr (heed h (expr_place e)) (bare_place e) (link_expr (at_expr (Within file h) e) Alone e) k (λ j. bare_linked (at_expr (Within file h) e) Alone e j) (λ j. alone_expr h e (agrees_expr (heed h (expr_place e)) e Alone j)))

    agrees_case : (h : Heed) (t : Case) (k : Numbers) → Agrees [] (entered_case (link_case (Within file h) t k).tree) (link_case (Within file h) t k).next.counts k.counts (walk_case h (unmarked_case t))
    agrees_case h (MakeCase loc e xs) k = agrees_two (agrees_expr_if h e k) (agrees_stmts h xs (link_expr_if (Within file h) e k).next)
    agrees_case h (EnteredCase n x) k = agrees_case h x k

    agrees_catch : (h : Heed) (t : Catch) (k : Numbers) → Agrees [] (entered_catch (link_catch (Within file h) t k).tree) (link_catch (Within file h) t k).next.counts k.counts (walk_catch h (unmarked_catch t))
    agrees_catch h (MakeCatch none_pattern xs) k = agrees_stmts h xs k
    agrees_catch h (MakeCatch (some_pattern pattern) xs) k = agrees_stmts h xs k

    agrees_expr_if : (h : Heed) (t : MaybeExpr) (k : Numbers) → Agrees [] (entered_expr_if (link_expr_if (Within file h) t k).tree) (link_expr_if (Within file h) t k).next.counts k.counts (walk_expr_if h (unmarked_expr_if t))
    agrees_expr_if h none_expr k = agrees_none
    agrees_expr_if h (some_expr e) k = (alone_expr h e (agrees_expr (heed h (expr_place e)) e Alone k))

    agrees_stmt_if : (h : Heed) (t : MaybeStmt) (k : Numbers) → Agrees [] (entered_stmt_if (link_stmt_if (Within file (heed h (stmt_if_place t))) t k).tree) (link_stmt_if (Within file (heed h (stmt_if_place t))) t k).next.counts k.counts (walk_stmt_if h (unmarked_stmt_if t))
    agrees_stmt_if h none_stmt k = agrees_none
    agrees_stmt_if h (some_stmt x) k = here_stmt h x (agrees_stmt (heed h (stmt_place x)) x (stmt_place (link_stmt (at_stmt (Within file h) x) x k).tree) k)
    agrees_stmt_if h (entered_none n) k = agrees_none

    agrees_exprs : (h : Heed) (t : Exprs) (k : Numbers) → Agrees [] (entered_exprs (link_exprs (Within file h) t k).tree) (link_exprs (Within file h) t k).next.counts k.counts (walk_exprs h (unmarked_exprs t))
    agrees_exprs h no_expr k = agrees_none
    agrees_exprs h (more_expr x xs) k = agrees_two ((alone_expr h x (agrees_expr (heed h (expr_place x)) x Alone k))) (agrees_exprs h xs (link_expr (at_expr (Within file h) x) Alone x k).next)

    agrees_template_parts : (h : Heed) (t : TemplateParts) (k : Numbers) → Agrees [] (entered_template_parts (link_template_parts (Within file h) t k).tree) (link_template_parts (Within file h) t k).next.counts k.counts (walk_template_parts h (unmarked_template_parts t))
    agrees_template_parts h no_template_part k = agrees_none
    agrees_template_parts h (more_template_part x xs) k = agrees_two (agrees_template_part h x k) (agrees_template_parts h xs (link_template_part (Within file h) x k).next)

    agrees_properties : (h : Heed) (t : Properties) (k : Numbers) → Agrees [] (entered_properties (link_properties (Within file h) t k).tree) (link_properties (Within file h) t k).next.counts k.counts (walk_properties h (unmarked_properties t))
    agrees_properties h no_property k = agrees_none
    agrees_properties h (more_property x xs) k = agrees_two ((here_property h x (agrees_property (heed h (property_place x)) x k))) (agrees_properties h xs (link_property (at_property (Within file h) x) x k).next)

    agrees_params : (h : Heed) (t : Params) (k : Numbers) → Agrees [] (entered_params (link_params (Within file h) t k).tree) (link_params (Within file h) t k).next.counts k.counts (walk_params h (unmarked_params t))
    agrees_params h no_param k = agrees_none
    agrees_params h (more_param x xs) k = agrees_two ((here_param h x (agrees_param (heed h (param_place x)) x k))) (agrees_params h xs (link_param (at_param (Within file h) x) x k).next)

    agrees_stmts : (h : Heed) (t : Stmts) (k : Numbers) → Agrees [] (entered_stmts (link_stmts (Within file h) t k).tree) (link_stmts (Within file h) t k).next.counts k.counts (walk_stmts h (unmarked_stmts t))
    agrees_stmts h no_stmt k = agrees_none
    agrees_stmts h (more_stmt x xs) k = agrees_two ((here_stmt h x (agrees_stmt (heed h (stmt_place x)) x None k))) (agrees_stmts h xs (link_stmt (at_stmt (Within file h) x) x k).next)

    agrees_declarators : (h : Heed) (t : Declarators) (k : Numbers) → Agrees [] (entered_declarators (link_declarators (Within file h) t k).tree) (link_declarators (Within file h) t k).next.counts k.counts (walk_declarators h (unmarked_declarators t))
    agrees_declarators h no_declarator k = agrees_none
    agrees_declarators h (more_declarator x xs) k = agrees_two ((here_declarator h x (agrees_declarator (heed h (declarator_place x)) x k))) (agrees_declarators h xs (link_declarator (at_declarator (Within file h) x) x k).next)

    agrees_cases : (h : Heed) (t : Cases) (b : Marks) (i : ℕ) (k : Numbers) → Agrees (paths_of b i (case_paths h t)) (entered_cases (link_cases (Within file h) b i t k).tree) (link_cases (Within file h) b i t k).next.counts k.counts (walk_cases h (unmarked_cases t))
    agrees_cases h no_case Uncounted i k = agrees_none
    agrees_cases h no_case (Counted g kind number) i k = agrees_none
    agrees_cases h (more_case x xs) b i k =
        let g = heed h (case_place x) in
        let m = Within file g in
        let a = link_case m x k in
        agrees_entry (λ such. let p = part_paths such file g b i (case_place x) (case_paths h xs) in
        let q = many_append such (entry_of (by_path m b) i (case_place x)) (paths_of b (past_path m i) (case_paths h xs)) in omega (arith, p, q))
        (agrees_both (agrees_entered (λ such. many_case such (by_path m b) i a.tree (case_linked m x k)) (here_case h x (agrees_case g x k))) (agrees_cases h xs b (past_path m i) a.next))

-- the marks of a counted file are those of the constructs of the file without its own marks
pub marks_enter : MarksEnter
marks_enter file (MakeFile body comments) k such =
    let h = heed_comments comments in
    let p = (agrees_stmts file h body k).same such in
    let q = ap (how_many such) (numbered_named file 0 k.counts (walk_stmts h (unmarked_stmts body))) in
    omega (arith, p, q)

pub marks_constructs : MarksConstructs
marks_constructs file tree k m = marks_enter file tree k (λ n. is_mark m n.mark)
