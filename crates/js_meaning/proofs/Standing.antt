-- What the walk gives of a part; where the parts of a tree without its marks stand, and those of a linked tree.
use Rattle.std.proofs.Common.{◌≡◌, ℕ, ◌+◌, Bool, List, ◌++◌, Option, refl, ap, ◌∙◌}
use Rattle.js_terms.specs.declared.construct.Construct.{Construct}
use Rattle.js_terms.specs.declared.place.Loc.{Loc}
use Rattle.js_terms.specs.declared.construct.ConstructKind.TheVariants as construct_kind
use Rattle.js_terms.specs.declared.words.Identifier.{Identifier}
use Rattle.js_tree.specs.Entered.{with_place, places_of}
use Rattle.js_tree.specs.Plain.{Expr, Parenthesized, Logical, Entered}
use Rattle.js_tree.specs.Plain.{Stmt, Directive, Block, VariableDeclaration, Empty, Expression, If, DoWhile, While, For, ForIn, ForOf, Continue, Break, Return, Switch, Labelled, Throw, TryCatch, TryFinally, TryCatchFinally, Debugger, FunctionDeclaration, EnteredStmt}
use Rattle.js_tree.specs.Plain.{Property, Shorthand, KeyValue, Method}
use Rattle.js_tree.specs.Plain.{PropertyKey}
use Rattle.js_tree.specs.Plain.{ConciseBody, ExpressionBody, BlockBody}
use Rattle.js_tree.specs.Plain.{ForInit}
use Rattle.js_tree.specs.Plain.{ForTarget}
use Rattle.js_tree.specs.Plain.{TemplatePart}
use Rattle.js_tree.specs.Plain.{Function}
use Rattle.js_tree.specs.Plain.{FunctionBody, MakeFunctionBody, EnteredBody}
use Rattle.js_tree.specs.Plain.{Param, MakeParam}
use Rattle.js_tree.specs.Plain.{Declarator, MakeDeclarator}
use Rattle.js_tree.specs.Plain.{Case, MakeCase, EnteredCase}
use Rattle.js_tree.specs.Plain.{Catch}
use Rattle.js_tree.specs.Plain.{MaybeExpr}
use Rattle.js_tree.specs.Plain.{MaybeStmt, none_stmt, some_stmt, entered_none}
use Rattle.js_tree.specs.Plain.{Exprs}
use Rattle.js_tree.specs.Plain.{TemplateParts}
use Rattle.js_tree.specs.Plain.{Properties}
use Rattle.js_tree.specs.Plain.{Params}
use Rattle.js_tree.specs.Plain.{Stmts}
use Rattle.js_tree.specs.Plain.{Declarators}
use Rattle.js_tree.specs.Plain.{Cases, no_case, more_case}
use Rattle.js_tree.specs.Places.{bare_place, expr_place, stmt_place, stmt_if_place, property_place, param_place, declarator_place, case_place, braced_place, concise_place}
use Rattle.js_tree.specs.declared.hint.Hint.TheVariants as hint
use Rattle.js_tree.specs.Hints.{Heed, heed, heed_arm, heeded_place, path_in, case_paths, leaf_paths}
use Rattle.js_tree.specs.Unmarked.{unmarked_expr, unmarked_stmt, unmarked_property, unmarked_concise_body, unmarked_function_body, unmarked_param, unmarked_declarator, unmarked_case, unmarked_stmt_if, unmarked_cases}
use Rattle.js_tree.specs.Linked.{Numbers, Linked, Marking, Marks, Uncounted, Counted, kept, made, two, three, four, marks, after_marks, branched, counted_stmt, enter_expr, enter_stmt, enter_arm, enter_leaf, operand, Chain, Alone, Operand, by_path, past_path, at_expr, at_stmt, at_stmt_if, at_arm, labelled, link_expr, link_stmt, link_concise_body, link_for_init, link_for_target, link_function_body, link_case, link_catch, link_expr_if, link_stmt_if, link_stmts, link_cases}
use Rattle.js_walk.specs.Walk.{within_expr, within_stmt, within_property, within_property_key, within_concise_body, within_for_init, within_for_target, within_template_part, within_function, within_function_body, within_param, within_declarator, within_case, within_catch, within_expr_if, within_stmt_if, within_exprs, within_template_parts, within_properties, within_params, within_stmts, within_declarators, within_cases}
use Rattle.js_walk.specs.Constructs.{told, own_construct, own_expr, own_stmt, own_property, own_concise_body, own_param, own_declarator, tell, tell_expr, tell_stmt, counted, counted_expr as counted_there, if_paths, expr_paths}

-- ---- what the walk gives of a part, by what hints have left in it

abbrev pub walk_expr : Heed → Bool → Expr → List Construct
walk_expr h chained e = own_expr h chained e ++ within_expr own_construct tell e (tell_expr h chained e)

abbrev pub walk_stmt : Heed → Stmt → List Construct
walk_stmt h x = own_stmt h x ++ within_stmt own_construct tell x (tell_stmt h x)

abbrev pub walk_property : Heed → Property → List Construct
walk_property h x = own_property h x ++ within_property own_construct tell x (told h)

abbrev pub walk_param : Heed → Param → List Construct
walk_param h x = own_param h x ++ within_param own_construct tell x (told h)

abbrev pub walk_declarator : Heed → Declarator → List Construct
walk_declarator h x = own_declarator h x ++ within_declarator own_construct tell x (told h)

abbrev pub walk_concise_body : Heed → ConciseBody → List Construct
walk_concise_body h x = own_concise_body h x ++ within_concise_body own_construct tell x (told h)

abbrev pub walk_property_key : Heed → PropertyKey → List Construct
walk_property_key h x = within_property_key own_construct tell x (told h)

abbrev pub walk_for_init : Heed → ForInit → List Construct
walk_for_init h x = within_for_init own_construct tell x (told h)

abbrev pub walk_for_target : Heed → ForTarget → List Construct
walk_for_target h x = within_for_target own_construct tell x (told h)

abbrev pub walk_template_part : Heed → TemplatePart → List Construct
walk_template_part h x = within_template_part own_construct tell x (told h)

abbrev pub walk_function : Heed → Function → List Construct
walk_function h x = within_function own_construct tell x (told h)

abbrev pub walk_function_body : Heed → FunctionBody → List Construct
walk_function_body h x = within_function_body own_construct tell x (told h)

abbrev pub walk_case : Heed → Case → List Construct
walk_case h x = within_case own_construct tell x (told h)

abbrev pub walk_catch : Heed → Catch → List Construct
walk_catch h x = within_catch own_construct tell x (told h)

abbrev pub walk_expr_if : Heed → MaybeExpr → List Construct
walk_expr_if h x = within_expr_if own_construct tell x (told h)

abbrev pub walk_stmt_if : Heed → MaybeStmt → List Construct
walk_stmt_if h x = within_stmt_if own_construct tell x (told h)

abbrev pub walk_exprs : Heed → Exprs → List Construct
walk_exprs h x = within_exprs own_construct tell x (told h)

abbrev pub walk_template_parts : Heed → TemplateParts → List Construct
walk_template_parts h x = within_template_parts own_construct tell x (told h)

abbrev pub walk_properties : Heed → Properties → List Construct
walk_properties h x = within_properties own_construct tell x (told h)

abbrev pub walk_params : Heed → Params → List Construct
walk_params h x = within_params own_construct tell x (told h)

abbrev pub walk_stmts : Heed → Stmts → List Construct
walk_stmts h x = within_stmts own_construct tell x (told h)

abbrev pub walk_declarators : Heed → Declarators → List Construct
walk_declarators h x = within_declarators own_construct tell x (told h)

abbrev pub walk_cases : Heed → Cases → List Construct
walk_cases h x = within_cases own_construct tell x (told h)

-- ---- where the parts of a tree without its marks stand

pub bare_unmarked : (e : Expr) → bare_place (unmarked_expr e) ≡ bare_place e
bare_unmarked (Parenthesized loc e) = bare_unmarked e
bare_unmarked (Entered n e) = bare_unmarked e
bare_unmarked _ = refl

pub braced_unmarked : (b : FunctionBody) → braced_place (unmarked_function_body b) ≡ braced_place b
braced_unmarked (MakeFunctionBody loc xs) = refl
braced_unmarked (EnteredBody n b) = braced_unmarked b

pub concise_unmarked : (b : ConciseBody) → concise_place (unmarked_concise_body b) ≡ concise_place b
concise_unmarked (ExpressionBody e) = bare_unmarked e
concise_unmarked (BlockBody b) = braced_unmarked b

pub stmt_unmarked : (x : Stmt) → stmt_place (unmarked_stmt x) ≡ stmt_place x
stmt_unmarked (EnteredStmt n x) = stmt_unmarked x
stmt_unmarked _ = refl

pub stmt_if_unmarked : (y : MaybeStmt) → stmt_if_place (unmarked_stmt_if y) ≡ stmt_if_place y
stmt_if_unmarked none_stmt = refl
stmt_if_unmarked (some_stmt x) = stmt_unmarked x
stmt_if_unmarked (entered_none n) = refl

pub expr_unmarked : (e : Expr) → expr_place (unmarked_expr e) ≡ expr_place e
expr_unmarked (Parenthesized loc e) = refl
expr_unmarked (Entered n e) = expr_unmarked e
expr_unmarked _ = refl

pub property_unmarked : (x : Property) → property_place (unmarked_property x) ≡ property_place x
property_unmarked (Shorthand loc text) = refl
property_unmarked (KeyValue loc key e) = refl
property_unmarked (Method loc key function) = refl

pub param_unmarked : (x : Param) → param_place (unmarked_param x) ≡ param_place x
param_unmarked (MakeParam loc pattern e) = refl

pub declarator_unmarked : (x : Declarator) → declarator_place (unmarked_declarator x) ≡ declarator_place x
declarator_unmarked (MakeDeclarator loc pattern e) = refl

pub case_unmarked : (x : Case) → case_place (unmarked_case x) ≡ case_place x
case_unmarked (MakeCase loc e xs) = refl
case_unmarked (EnteredCase n x) = case_unmarked x

-- so hints leave the same in it, and it has the same paths

pub heed_same : (h : Heed) {p q : Option Loc} → p ≡ q → heed h p ≡ heed h q
heed_same h e = ap (heed h) e

pub path_same : (h : Heed) {p q a b : Option Loc} → p ≡ q → a ≡ b → path_in (heed h p) a ≡ path_in (heed h q) b
path_same h {q = q} {a = a} e d = ap (λ p. path_in (heed h p) a) e ∙ ap (path_in (heed h q)) d

pub expr_paths_same : (h : Heed) (e : Expr) → expr_paths h (unmarked_expr e) ≡ expr_paths h e
expr_paths_same h e = path_same h (expr_unmarked e) (bare_unmarked e)

pub pair_same : {a b c d : List (Option Loc)} → a ≡ b → c ≡ d → a ++ c ≡ b ++ d
pair_same {b = b} {c = c} e f = ap (λ l. l ++ c) e ∙ ap (λ l. b ++ l) f

pub if_paths_same : (h : Heed) (loc : Option Loc) (x : Stmt) (y : MaybeStmt) → if_paths h loc (unmarked_stmt x) (unmarked_stmt_if y) ≡ if_paths h loc x y
if_paths_same h loc x y = pair_same (path_same (heed_arm hint.If h loc) (stmt_unmarked x) refl) (path_same (heed_arm hint.Else h loc) (stmt_if_unmarked y) (stmt_if_unmarked y))

pub case_paths_same : (h : Heed) (xs : Cases) → case_paths h (unmarked_cases xs) ≡ case_paths h xs
case_paths_same h no_case = refl
case_paths_same h (more_case x xs) = pair_same (path_same h (case_unmarked x) (case_unmarked x)) (case_paths_same h xs)

pub leaf_paths_same : (h : Heed) (e : Expr) → leaf_paths h (unmarked_expr e) ≡ leaf_paths h e
leaf_paths_same h (Logical loc operator e f) = pair_same
    (ap (λ p. leaf_paths (heed h p) (unmarked_expr e)) (expr_unmarked e) ∙ leaf_paths_same (heed h (expr_place e)) e)
    (ap (λ p. leaf_paths (heed h p) (unmarked_expr f)) (expr_unmarked f) ∙ leaf_paths_same (heed h (expr_place f)) f)
leaf_paths_same h (Parenthesized loc e) = leaf_paths_same h e
leaf_paths_same h (Entered n e) = leaf_paths_same h e
leaf_paths_same h _ = refl

pub chain_paths_same : (h : Heed) (e f : Expr) → leaf_paths (heed h (expr_place (unmarked_expr e))) (unmarked_expr e) ++ leaf_paths (heed h (expr_place (unmarked_expr f))) (unmarked_expr f)
    ≡ leaf_paths (heed h (expr_place e)) e ++ leaf_paths (heed h (expr_place f)) f
chain_paths_same h e f = pair_same
    (ap (λ p. leaf_paths (heed h p) (unmarked_expr e)) (expr_unmarked e) ∙ leaf_paths_same (heed h (expr_place e)) e)
    (ap (λ p. leaf_paths (heed h p) (unmarked_expr f)) (expr_unmarked f) ∙ leaf_paths_same (heed h (expr_place f)) f)

pub counted_same : (h : Heed) (e : Expr) → counted_there h (unmarked_expr e) ≡ counted_there h e
counted_same h e = ap (λ p. counted (heeded_place (heed h p) (bare_place (unmarked_expr e)))) (expr_unmarked e) ∙ ap (λ p. counted (heeded_place (heed h (expr_place e)) p)) (bare_unmarked e)

-- ---- where the parts of a linked tree stand

pub bare_entered : (b : Marks) (path : ℕ) (e : Expr) → bare_place (enter_expr b path e) ≡ bare_place e
bare_entered Uncounted path e = refl
bare_entered (Counted file kind number) path e = refl

pub bare_leaf : (b : Marks) (path : ℕ) (e : Expr) → bare_place (enter_leaf b path e) ≡ bare_place e
bare_leaf b path (Logical loc operator e f) = refl
bare_leaf b path (Parenthesized loc e) = refl
bare_leaf b path e = bare_entered b path e

pub bare_operand : (m : Marking) (chain : Chain) (a : Linked Expr) → bare_place (operand m chain a).tree ≡ bare_place a.tree
bare_operand m Alone a = refl
bare_operand m (Operand b path) a = bare_leaf (by_path m b) path a.tree

pub stmt_entered : (b : Marks) (path : ℕ) (x : Stmt) → stmt_place (enter_stmt b path x) ≡ stmt_place x
stmt_entered Uncounted path x = refl
stmt_entered (Counted file kind number) path x = refl

pub labelled_place : (loc : Option Loc) (name : Identifier) (x : Stmt) → stmt_place (labelled loc name x) ≡ loc
labelled_place loc name (EnteredStmt n x) = labelled_place loc name x
labelled_place loc name _ = refl

pub labelled_places : (loc : Option Loc) (name : Identifier) (x : Stmt) → places_of (labelled loc name x) ≡ with_place loc (places_of x)
labelled_places loc name (EnteredStmt n x) = labelled_places loc name x
labelled_places loc name _ = refl

pub bare_linked : (m : Marking) (chain : Chain) (e : Expr) (k : Numbers) → bare_place (link_expr m chain e k).tree ≡ bare_place e
bare_linked m (Operand b path) (Logical loc operator e f) k = refl
bare_linked m Alone (Logical loc operator e f) k = refl
bare_linked m chain (Parenthesized loc e) k = bare_operand m chain (link_expr m chain e k) ∙ bare_linked m chain e k
bare_linked m chain (Entered n e) k = bare_linked m chain e k
bare_linked m chain _ k = refl

pub braced_linked : (m : Marking) (b : FunctionBody) (k : Numbers) → braced_place (link_function_body m b k).tree ≡ braced_place b
braced_linked m (MakeFunctionBody loc xs) k = refl
braced_linked m (EnteredBody n b) k = braced_linked m b k

pub concise_linked : (m : Marking) (b : ConciseBody) (k : Numbers) → concise_place (link_concise_body m b k).tree ≡ concise_place b
concise_linked m (ExpressionBody e) k =
    let n = at_expr m e in let loc = bare_place e in let j = after_marks n construct_kind.Statement loc k in
    bare_entered (marks n construct_kind.Statement loc k) 0 (link_expr n Alone e j).tree ∙ bare_linked n Alone e j
concise_linked m (BlockBody b) k = braced_linked m b k

pub case_linked : (m : Marking) (x : Case) (k : Numbers) → case_place (link_case m x k).tree ≡ case_place x
case_linked m (MakeCase loc e xs) k = refl
case_linked m (EnteredCase n x) k = case_linked m x k

pub counted_place : (m : Marking) (loc : Option Loc) (f : Numbers → Linked Stmt) (k : Numbers) → ((j : Numbers) → stmt_place (f j).tree ≡ loc) →
    stmt_place (counted_stmt m loc f k).tree ≡ loc
counted_place m loc f k e = let j = after_marks m construct_kind.Statement loc k in
    stmt_entered (marks m construct_kind.Statement loc k) 0 (f j).tree ∙ e j

pub stmt_linked : (m : Marking) (x : Stmt) (k : Numbers) → stmt_place (link_stmt m x k).tree ≡ stmt_place x
stmt_linked m (Labelled loc name x) k = counted_place m loc (λ k. made (labelled loc name) (link_stmt (at_stmt m x) x k)) k (λ j. labelled_place loc name (link_stmt (at_stmt m x) x j).tree)
stmt_linked m (EnteredStmt n x) k = stmt_linked m x k
stmt_linked m (Directive loc spelled) k = refl
stmt_linked m (Block loc xs) k = refl
stmt_linked m (VariableDeclaration loc kind declarators) k = refl
stmt_linked m (Empty loc) k = refl
stmt_linked m (Expression loc e) k = counted_place m loc (λ k. made (Expression loc) (link_expr (at_expr m e) Alone e k)) k (λ j. refl)
stmt_linked m (DoWhile loc x e) k = counted_place m loc (λ k. two (DoWhile loc) (link_stmt (at_stmt m x) x k) (link_expr (at_expr m e) Alone e)) k (λ j. refl)
stmt_linked m (While loc e x) k = counted_place m loc (λ k. two (While loc) (link_expr (at_expr m e) Alone e k) (link_stmt (at_stmt m x) x)) k (λ j. refl)
stmt_linked m (For loc init e f x) k = counted_place m loc (λ k. four (For loc) (link_for_init m init k) (link_expr_if m e) (link_expr_if m f) (link_stmt (at_stmt m x) x)) k (λ j. refl)
stmt_linked m (ForIn loc target e x) k = counted_place m loc (λ k. three (ForIn loc) (link_for_target m target k) (link_expr (at_expr m e) Alone e) (link_stmt (at_stmt m x) x)) k (λ j. refl)
stmt_linked m (ForOf loc target e x) k = counted_place m loc (λ k. three (ForOf loc) (link_for_target m target k) (link_expr (at_expr m e) Alone e) (link_stmt (at_stmt m x) x)) k (λ j. refl)
stmt_linked m (Continue loc name) k = counted_place m loc (λ k. kept (Continue loc name) k) k (λ j. refl)
stmt_linked m (Break loc name) k = counted_place m loc (λ k. kept (Break loc name) k) k (λ j. refl)
stmt_linked m (Return loc e) k = counted_place m loc (λ k. made (Return loc) (link_expr_if m e k)) k (λ j. refl)
stmt_linked m (Throw loc e) k = counted_place m loc (λ k. made (Throw loc) (link_expr (at_expr m e) Alone e k)) k (λ j. refl)
stmt_linked m (TryCatch loc xs catch) k = counted_place m loc (λ k. two (TryCatch loc) (link_stmts m xs k) (link_catch m catch)) k (λ j. refl)
stmt_linked m (TryFinally loc xs ys) k = counted_place m loc (λ k. two (TryFinally loc) (link_stmts m xs k) (link_stmts m ys)) k (λ j. refl)
stmt_linked m (TryCatchFinally loc xs catch ys) k = counted_place m loc (λ k. three (TryCatchFinally loc) (link_stmts m xs k) (link_catch m catch) (link_stmts m ys)) k (λ j. refl)
stmt_linked m (Debugger loc) k = counted_place m loc (λ k. kept (Debugger loc) k) k (λ j. refl)
stmt_linked m (FunctionDeclaration loc name function) k = refl
stmt_linked m (If loc e x y) k =
    let h = at_stmt (at_arm hint.If m loc) x in
    let g = at_stmt_if (at_arm hint.Else m loc) y in
    counted_place m loc (λ k. branched m loc (λ b k. three (λ e' x' y'. If loc e' (enter_stmt (by_path h b) 0 x') (enter_arm (by_path g b) (past_path h 0) y'))
    (link_expr (at_expr m e) Alone e k) (link_stmt h x) (link_stmt_if g y)) k) k (λ j. refl)
stmt_linked m (Switch loc e cases) k = counted_place m loc (λ k. branched m loc (λ b k. two (Switch loc) (link_expr (at_expr m e) Alone e k) (link_cases m b 0 cases)) k) k (λ j. refl)

pub stmt_if_linked : (m : Marking) (y : MaybeStmt) (k : Numbers) → stmt_if_place (link_stmt_if m y k).tree ≡ stmt_if_place y
stmt_if_linked m none_stmt k = refl
stmt_if_linked m (some_stmt x) k = stmt_linked m x k
stmt_if_linked m (entered_none n) k = refl
