-- A file that isn't counted is the counted one without its marks.
use Rattle.std.proofs.Common.{◌≡◌, ℕ, suc, Option, Some, None, refl, ap, sym, ◌∙◌}
use Rattle.js_terms.specs.declared.place.Loc.{Loc}
use Rattle.js_terms.specs.declared.construct.ConstructKind.{ConstructKind}
use Rattle.js_terms.specs.declared.construct.ConstructKind.TheVariants as construct_kind
use Rattle.js_terms.specs.declared.words.Identifier.{Identifier}
use Rattle.js_tree.specs.Plain.{Expr, IdentifierReference, This, NullLiteral, BooleanLiteral, NumericLiteral, StringLiteral, ArrayLiteral, ObjectLiteral, FunctionExpression, ArrowFunction, RegularExpressionLiteral, TemplateLiteral, Parenthesized, NamedMember, ComputedMember, New, Call, PostfixUpdate, PrefixUpdate, Unary, Binary, Logical, Conditional, Assignment, Comma, Entered}
use Rattle.js_tree.specs.Plain.{Stmt, Directive, Block, VariableDeclaration, Empty, Expression, If, DoWhile, While, For, ForIn, ForOf, Continue, Break, Return, Switch, Labelled, Throw, TryCatch, TryFinally, TryCatchFinally, Debugger, FunctionDeclaration, EnteredStmt}
use Rattle.js_tree.specs.Plain.{Property, Shorthand, KeyValue, Method}
use Rattle.js_tree.specs.Plain.{PropertyKey, NameKey, StringKey, NumberKey, ComputedKey}
use Rattle.js_tree.specs.Plain.{ConciseBody, ExpressionBody, BlockBody}
use Rattle.js_tree.specs.Plain.{ForInit, NoInit, InitDeclaration, InitExpression}
use Rattle.js_tree.specs.Plain.{ForTarget, TargetDeclaration, TargetExpression}
use Rattle.js_tree.specs.Plain.{TemplatePart, MakeTemplatePart}
use Rattle.js_tree.specs.Plain.{Function, MakeFunction}
use Rattle.js_tree.specs.Plain.{FunctionBody, MakeFunctionBody, EnteredBody}
use Rattle.js_tree.specs.Plain.{Param, MakeParam}
use Rattle.js_tree.specs.Plain.{Declarator, MakeDeclarator}
use Rattle.js_tree.specs.Plain.{Case, MakeCase, EnteredCase}
use Rattle.js_tree.specs.Plain.{Catch, MakeCatch}
use Rattle.js_tree.specs.Plain.{MaybeExpr, none_expr, some_expr}
use Rattle.js_tree.specs.Plain.{MaybeStmt, none_stmt, some_stmt, entered_none}
use Rattle.js_tree.specs.Plain.{Exprs, no_expr, more_expr}
use Rattle.js_tree.specs.Plain.{TemplateParts, no_template_part, more_template_part}
use Rattle.js_tree.specs.Plain.{Properties, no_property, more_property}
use Rattle.js_tree.specs.Plain.{Params, no_param, more_param}
use Rattle.js_tree.specs.Plain.{Stmts, no_stmt, more_stmt}
use Rattle.js_tree.specs.Plain.{Declarators, no_declarator, more_declarator}
use Rattle.js_tree.specs.Plain.{Cases, no_case, more_case}
use Rattle.js_tree.specs.Plain.{MakeFile}
use Rattle.js_tree.specs.Places.{bare_place, concise_place, braced_place}
use Rattle.js_tree.specs.declared.hint.Hint.TheVariants as hint
use Rattle.js_tree.specs.Hints.{heeded_place}
use Rattle.js_tree.specs.Linked.{Marking, Unmarked, Within, Numbers, Linked, Marks, Uncounted, Counted, kept, made, two, three, four, marks, after_marks, after_marks_at, after_code, branched, counted_stmt, counted_expr, enter_expr, enter_stmt, enter_case, enter_arm, enter_leaf, operand, Chain, Alone, Operand, by_path, past_path, past_leaves, at_expr, at_stmt, at_stmt_if, at_property, at_param, at_declarator, at_case, at_arm, with_comments, enter_body, enter_concise_body, function_place, labelled, link_expr, link_stmt, link_property, link_property_key, link_concise_body, link_for_init, link_for_target, link_template_part, link_function, link_function_body, link_param, link_declarator, link_case, link_catch, link_expr_if, link_stmt_if, link_exprs, link_template_parts, link_properties, link_params, link_stmts, link_declarators, link_cases}
use Rattle.js_tree.specs.Unmarked.{UnmarksLinked, unmarked_expr, unmarked_stmt, unmarked_property, unmarked_property_key, unmarked_concise_body, unmarked_for_init, unmarked_for_target, unmarked_template_part, unmarked_function, unmarked_function_body, unmarked_param, unmarked_declarator, unmarked_case, unmarked_catch, unmarked_expr_if, unmarked_stmt_if, unmarked_exprs, unmarked_template_parts, unmarked_properties, unmarked_params, unmarked_stmts, unmarked_declarators, unmarked_cases}

-- two trees are equal, and so are the numbers of functions after them
pub record Alike {T : Type 0} (x y : T) (m n : ℕ) : Type 0 where
  pub tree : x ≡ y
  pub code : m ≡ n

alike_one : {A T : Type 0} (f : A → T) {a b : A} {m n : ℕ} → Alike a b m n → Alike (f a) (f b) m n
alike_one f h = record { tree = ap f h.tree; code = h.code }

alike_two : {A B T : Type 0} (f : A → B → T) {a a' : A} {b b' : B} {i j m n : ℕ} → Alike a a' i j → Alike b b' m n → Alike (f a b) (f a' b') m n
alike_two f {a' = a'} {b = b} h g = record { tree = ap (λ x. f x b) h.tree ∙ ap (f a') g.tree; code = g.code }

alike_three : {A B C T : Type 0} (f : A → B → C → T) {a a' : A} {b b' : B} {c c' : C} {i j k l m n : ℕ} →
    Alike a a' i j → Alike b b' k l → Alike c c' m n → Alike (f a b c) (f a' b' c') m n
alike_three f {a' = a'} {b = b} {c = c} h g e = record { tree = ap (λ x. f x b c) h.tree ∙ (alike_two (f a') g e).tree; code = e.code }

alike_four : {A B C D T : Type 0} (f : A → B → C → D → T) {a a' : A} {b b' : B} {c c' : C} {d d' : D} {g h i j k l m n : ℕ} →
    Alike a a' g h → Alike b b' i j → Alike c c' k l → Alike d d' m n → Alike (f a b c d) (f a' b' c' d') m n
alike_four f {a' = a'} {b = b} {c = c} {d = d} p q r s = record { tree = ap (λ x. f x b c d) p.tree ∙ (alike_three (f a') q r s).tree; code = s.code }

-- a tree that is unmarked to the same
alike_by : {T : Type 0} {x y z : T} {m n : ℕ} → x ≡ y → Alike y z m n → Alike x z m n
alike_by e h = record { tree = e ∙ h.tree; code = h.code }

-- what enters a construct goes with its mark
expr_entered : (c : Marks) (path : ℕ) (e : Expr) → unmarked_expr (enter_expr c path e) ≡ unmarked_expr e
expr_entered Uncounted path e = refl
expr_entered (Counted file kind number) path e = refl

stmt_entered : (c : Marks) (path : ℕ) (x : Stmt) → unmarked_stmt (enter_stmt c path x) ≡ unmarked_stmt x
stmt_entered Uncounted path x = refl
stmt_entered (Counted file kind number) path x = refl

case_entered : (c : Marks) (path : ℕ) (x : Case) → unmarked_case (enter_case c path x) ≡ unmarked_case x
case_entered Uncounted path x = refl
case_entered (Counted file kind number) path x = refl

arm_entered : (c : Marks) (path : ℕ) (x : MaybeStmt) → unmarked_stmt_if (enter_arm c path x) ≡ unmarked_stmt_if x
arm_entered Uncounted path x = refl
arm_entered (Counted file kind number) path none_stmt = refl
arm_entered (Counted file kind number) path (some_stmt x) = refl
arm_entered (Counted file kind number) path (entered_none n) = refl

body_entered : (c : Marks) (x : FunctionBody) → unmarked_function_body (enter_body c x) ≡ unmarked_function_body x
body_entered Uncounted x = refl
body_entered (Counted file kind number) x = refl

concise_entered : (c : Marks) (x : ConciseBody) → unmarked_concise_body (enter_concise_body c x) ≡ unmarked_concise_body x
concise_entered c (ExpressionBody e) = ap ExpressionBody (expr_entered c 0 e)
concise_entered c (BlockBody body) = ap BlockBody (body_entered c body)

concise_kept : (x : ConciseBody) → enter_concise_body Uncounted x ≡ x
concise_kept (ExpressionBody e) = refl
concise_kept (BlockBody body) = refl

leaf_entered : (c : Marks) (path : ℕ) (e : Expr) → unmarked_expr (enter_leaf c path e) ≡ unmarked_expr e
leaf_entered c path (Logical loc operator e f) = refl
leaf_entered c path (Parenthesized loc e) = refl
leaf_entered c path e = expr_entered c path e

leaf_kept : (path : ℕ) (e : Expr) → enter_leaf Uncounted path e ≡ e
leaf_kept path (Logical loc operator e f) = refl
leaf_kept path (Parenthesized loc e) = refl
leaf_kept path _ = refl

operand_entered : (m : Marking) (chain : Chain) (a : Linked Expr) → unmarked_expr (operand m chain a).tree ≡ unmarked_expr a.tree
operand_entered m Alone a = refl
operand_entered m (Operand b path) a = leaf_entered (by_path m b) path a.tree

pub operand_kept : (chain : Chain) (a : Linked Expr) → (operand Unmarked chain a).tree ≡ a.tree
operand_kept Alone a = refl
operand_kept (Operand b path) a = leaf_kept path a.tree

pub operand_next : (m : Marking) (chain : Chain) (a : Linked Expr) → (operand m chain a).next.code ≡ a.next.code
operand_next m Alone a = refl
operand_next m (Operand b path) a = refl

labelled_unmarked : (loc : Option Loc) (name : Identifier) (x : Stmt) → unmarked_stmt (labelled loc name x) ≡ Labelled loc name (unmarked_stmt x)
labelled_unmarked loc name (EnteredStmt mark x) = labelled_unmarked loc name x
labelled_unmarked loc name _ = refl

-- where nothing is counted there is no mark to put before a label
labelled_kept : (loc : Option Loc) (name : Identifier) (x : Stmt) (k : Numbers) → labelled loc name (link_stmt Unmarked x k).tree ≡ Labelled loc name (link_stmt Unmarked x k).tree
labelled_kept loc name (Labelled place inner x) k =
    ap (labelled loc name) (labelled_kept place inner x k) ∙ ap (Labelled loc name) (sym (labelled_kept place inner x k))
labelled_kept loc name (EnteredStmt mark x) k = labelled_kept loc name x k
labelled_kept loc name _ k = refl

-- the numbers of constructs are no numbers of functions
pub kept_code_at : (kind : ConstructKind) (loc : Option Loc) (k : Numbers) → (after_marks_at kind loc k).code ≡ k.code
kept_code_at kind None k = refl
kept_code_at kind (Some loc) k = refl

pub kept_code : (m : Marking) (kind : ConstructKind) (loc : Option Loc) (k : Numbers) → (after_marks m kind loc k).code ≡ k.code
kept_code Unmarked kind loc k = refl
kept_code (Within file left) kind loc k = kept_code_at kind (heeded_place left loc) k

-- a mark on a statement goes, and with it its number
alike_counted : (m : Marking) (loc : Option Loc) (f : Numbers → Linked Stmt) (k : Numbers) (x : Stmt) (n : ℕ) →
    ((j : Numbers) → j.code ≡ k.code → Alike (unmarked_stmt (f j).tree) x (f j).next.code n) →
    Alike (unmarked_stmt (counted_stmt m loc f k).tree) x (counted_stmt m loc f k).next.code n
alike_counted m loc f k x n h = alike_by (stmt_entered (marks m construct_kind.Statement loc k) 0 (f (after_marks m construct_kind.Statement loc k)).tree)
    (h (after_marks m construct_kind.Statement loc k) (kept_code m construct_kind.Statement loc k))

alike_counted_expr : (m : Marking) (loc : Option Loc) (f : Numbers → Linked Expr) (k : Numbers) (x : Expr) (n : ℕ) →
    ((j : Numbers) → j.code ≡ k.code → Alike (unmarked_expr (f j).tree) x (f j).next.code n) →
    Alike (unmarked_expr (counted_expr m loc f k).tree) x (counted_expr m loc f k).next.code n
alike_counted_expr m loc f k x n h = alike_by (expr_entered (marks m construct_kind.Statement loc k) 0 (f (after_marks m construct_kind.Statement loc k)).tree)
    (h (after_marks m construct_kind.Statement loc k) (kept_code m construct_kind.Statement loc k))

-- an operand of a chain
alike_operand : (m : Marking) (chain chain' : Chain) (a b : Linked Expr) → Alike (unmarked_expr a.tree) b.tree a.next.code b.next.code →
    Alike (unmarked_expr (operand m chain a).tree) (operand Unmarked chain' b).tree (operand m chain a).next.code (operand Unmarked chain' b).next.code
alike_operand m chain chain' a b h = record { tree = operand_entered m chain a ∙ h.tree ∙ sym (operand_kept chain' b); code = operand_next m chain a ∙ h.code ∙ sym (operand_next Unmarked chain' b) }

mutual
  alike_expr : (m : Marking) (t : Expr) (b b' : Chain) (k k' : Numbers) → k.code ≡ k'.code → Alike (unmarked_expr (link_expr m b t k).tree) (link_expr Unmarked b' t k').tree (link_expr m b t k).next.code (link_expr Unmarked b' t k').next.code
  alike_expr m (IdentifierReference loc text) b b' k k' c = record { tree = refl; code = c }
  alike_expr m (This loc) b b' k k' c = record { tree = refl; code = c }
  alike_expr m (NullLiteral loc) b b' k k' c = record { tree = refl; code = c }
  alike_expr m (BooleanLiteral loc value) b b' k k' c = record { tree = refl; code = c }
  alike_expr m (NumericLiteral loc text) b b' k k' c = record { tree = refl; code = c }
  alike_expr m (StringLiteral loc spelled) b b' k k' c = record { tree = refl; code = c }
  alike_expr m (ArrayLiteral loc es) b b' k k' c = alike_one (ArrayLiteral loc) (alike_exprs m es k k' c)
  alike_expr m (ObjectLiteral loc properties) b b' k k' c = alike_one (ObjectLiteral loc) (alike_properties m properties k k' c)
  alike_expr m (FunctionExpression loc name function) b b' k k' c = alike_one (FunctionExpression loc name) (alike_function m function loc name k k' c)
  alike_expr m (ArrowFunction loc number params body) b b' k k' c =
      let place = function_place loc None (concise_place body) in
      let j = after_marks m construct_kind.Function place k in
      let d = kept_code m construct_kind.Function place k ∙ c in
      let a = alike_params m params (after_code j) (after_code k') (ap suc d) in
      let x = alike_concise_body m body (link_params m params (after_code j)).next (link_params Unmarked params (after_code k')).next a.code in
      record {
        tree = (alike_three (ArrowFunction loc) (record { tree = d; code = d }) a (alike_by (concise_entered (marks m construct_kind.Function place k) (link_concise_body m body (link_params m params (after_code j)).next).tree) x)).tree
            ∙ ap (ArrowFunction loc k'.code (link_params Unmarked params (after_code k')).tree) (sym (concise_kept (link_concise_body Unmarked body (link_params Unmarked params (after_code k')).next).tree));
        code = x.code;
      }
  alike_expr m (RegularExpressionLiteral loc text flags) b b' k k' c = record { tree = refl; code = c }
  alike_expr m (TemplateLiteral loc spelled parts) b b' k k' c = alike_one (TemplateLiteral loc spelled) (alike_template_parts m parts k k' c)
  alike_expr m (Parenthesized loc e) b b' k k' c = alike_one (Parenthesized loc) (alike_operand m b b' (link_expr m b e k) (link_expr Unmarked b' e k') (alike_expr m e b b' k k' c))
  alike_expr m (NamedMember loc e text) b b' k k' c = alike_one (λ e'. NamedMember loc e' text) (alike_expr (at_expr m e) e Alone Alone k k' c)
  alike_expr m (ComputedMember loc e f) b b' k k' c = let a = alike_expr (at_expr m e) e Alone Alone k k' c in alike_two (ComputedMember loc) a (alike_expr (at_expr m f) f Alone Alone (link_expr (at_expr m e) Alone e k).next (link_expr Unmarked Alone e k').next a.code)
  alike_expr m (New loc e es) b b' k k' c = let a = alike_expr (at_expr m e) e Alone Alone k k' c in alike_two (New loc) a (alike_exprs m es (link_expr (at_expr m e) Alone e k).next (link_expr Unmarked Alone e k').next a.code)
  alike_expr m (Call loc e es) b b' k k' c = let a = alike_expr (at_expr m e) e Alone Alone k k' c in alike_two (Call loc) a (alike_exprs m es (link_expr (at_expr m e) Alone e k).next (link_expr Unmarked Alone e k').next a.code)
  alike_expr m (PostfixUpdate loc operator e) b b' k k' c = alike_one (PostfixUpdate loc operator) (alike_expr (at_expr m e) e Alone Alone k k' c)
  alike_expr m (PrefixUpdate loc operator e) b b' k k' c = alike_one (PrefixUpdate loc operator) (alike_expr (at_expr m e) e Alone Alone k k' c)
  alike_expr m (Unary loc operator e) b b' k k' c = alike_one (Unary loc operator) (alike_expr (at_expr m e) e Alone Alone k k' c)
  alike_expr m (Binary loc operator e f) b b' k k' c = let a = alike_expr (at_expr m e) e Alone Alone k k' c in alike_two (Binary loc operator) a (alike_expr (at_expr m f) f Alone Alone (link_expr (at_expr m e) Alone e k).next (link_expr Unmarked Alone e k').next a.code)
  alike_expr m (Logical loc operator e f) (Operand b path) (Operand b' path') k k' c =
      let n = at_expr m e in
      let o = at_expr m f in
      let next = past_leaves n e path in
      let left = link_expr n (Operand b path) e k in
      let left' = link_expr Unmarked (Operand b' path') e k' in
      let a = alike_expr n e (Operand b path) (Operand b' path') k k' c in
      let x = operand n (Operand b path) left in
      let x' = operand Unmarked (Operand b' path') left' in
      let d = alike_operand n (Operand b path) (Operand b' path') left left' a in
      alike_two (Logical loc operator) d (alike_operand o (Operand b next) (Operand b' path') (link_expr o (Operand b next) f x.next) (link_expr Unmarked (Operand b' path') f x'.next)
      (alike_expr o f (Operand b next) (Operand b' path') x.next x'.next d.code))
  alike_expr m (Logical loc operator e f) (Operand b path) Alone k k' c =
      let n = at_expr m e in
      let o = at_expr m f in
      let next = past_leaves n e path in
      let left = link_expr n (Operand b path) e k in
      let left' = link_expr Unmarked (Operand Uncounted 0) e k' in
      let a = alike_expr n e (Operand b path) (Operand Uncounted 0) k k' c in
      let x = operand n (Operand b path) left in
      let x' = operand Unmarked (Operand Uncounted 0) left' in
      let d = alike_operand n (Operand b path) (Operand Uncounted 0) left left' a in
      alike_two (Logical loc operator) d (alike_operand o (Operand b next) (Operand Uncounted 0) (link_expr o (Operand b next) f x.next) (link_expr Unmarked (Operand Uncounted 0) f x'.next)
      (alike_expr o f (Operand b next) (Operand Uncounted 0) x.next x'.next d.code))
  alike_expr m (Logical loc operator e f) Alone (Operand b' path') k k' c =
      let n = at_expr m e in
      let o = at_expr m f in
      let j = after_marks m construct_kind.Branch loc k in
      let p = marks m construct_kind.Branch loc k in
      let next = past_leaves n e 0 in
      let left = link_expr n (Operand p 0) e j in
      let left' = link_expr Unmarked (Operand b' path') e k' in
      let a = alike_expr n e (Operand p 0) (Operand b' path') j k' (kept_code m construct_kind.Branch loc k ∙ c) in
      let x = operand n (Operand p 0) left in
      let x' = operand Unmarked (Operand b' path') left' in
      let d = alike_operand n (Operand p 0) (Operand b' path') left left' a in
      alike_two (Logical loc operator) d (alike_operand o (Operand p next) (Operand b' path') (link_expr o (Operand p next) f x.next) (link_expr Unmarked (Operand b' path') f x'.next)
      (alike_expr o f (Operand p next) (Operand b' path') x.next x'.next d.code))
  alike_expr m (Logical loc operator e f) Alone Alone k k' c =
      let n = at_expr m e in
      let o = at_expr m f in
      let j = after_marks m construct_kind.Branch loc k in
      let p = marks m construct_kind.Branch loc k in
      let next = past_leaves n e 0 in
      let left = link_expr n (Operand p 0) e j in
      let left' = link_expr Unmarked (Operand Uncounted 0) e k' in
      let a = alike_expr n e (Operand p 0) (Operand Uncounted 0) j k' (kept_code m construct_kind.Branch loc k ∙ c) in
      let x = operand n (Operand p 0) left in
      let x' = operand Unmarked (Operand Uncounted 0) left' in
      let d = alike_operand n (Operand p 0) (Operand Uncounted 0) left left' a in
      alike_two (Logical loc operator) d (alike_operand o (Operand p next) (Operand Uncounted 0) (link_expr o (Operand p next) f x.next) (link_expr Unmarked (Operand Uncounted 0) f x'.next)
      (alike_expr o f (Operand p next) (Operand Uncounted 0) x.next x'.next d.code))
  alike_expr m (Conditional loc e f g) b b' k k' c =
      let j = after_marks m construct_kind.Branch loc k in
      let p = marks m construct_kind.Branch loc k in
      let x = alike_expr (at_expr m e) e Alone Alone j k' (kept_code m construct_kind.Branch loc k ∙ c) in
      let y = alike_expr (at_expr m f) f Alone Alone (link_expr (at_expr m e) Alone e j).next (link_expr Unmarked Alone e k').next x.code in
      let z = alike_expr (at_expr m g) g Alone Alone (link_expr (at_expr m f) Alone f (link_expr (at_expr m e) Alone e j).next).next (link_expr Unmarked Alone f (link_expr Unmarked Alone e k').next).next y.code in
      alike_three (Conditional loc) x (alike_by (expr_entered (by_path (at_expr m f) p) 0 (link_expr (at_expr m f) Alone f (link_expr (at_expr m e) Alone e j).next).tree) y)
      (alike_by (expr_entered (by_path (at_expr m g) p) (past_path (at_expr m f) 0) (link_expr (at_expr m g) Alone g (link_expr (at_expr m f) Alone f (link_expr (at_expr m e) Alone e j).next).next).tree) z)
  alike_expr m (Assignment loc operator e f) b b' k k' c = let a = alike_expr (at_expr m e) e Alone Alone k k' c in alike_two (Assignment loc operator) a (alike_expr (at_expr m f) f Alone Alone (link_expr (at_expr m e) Alone e k).next (link_expr Unmarked Alone e k').next a.code)
  alike_expr m (Comma loc e f) b b' k k' c = let a = alike_expr (at_expr m e) e Alone Alone k k' c in alike_two (Comma loc) a (alike_expr (at_expr m f) f Alone Alone (link_expr (at_expr m e) Alone e k).next (link_expr Unmarked Alone e k').next a.code)
  alike_expr m (Entered n e) b b' k k' c = alike_expr m e b b' k k' c

  alike_stmt : (m : Marking) (t : Stmt) (k k' : Numbers) → k.code ≡ k'.code → Alike (unmarked_stmt (link_stmt m t k).tree) (link_stmt Unmarked t k').tree (link_stmt m t k).next.code (link_stmt Unmarked t k').next.code
  alike_stmt m (Directive loc spelled) k k' c = record { tree = refl; code = c }
  alike_stmt m (Block loc xs) k k' c = alike_one (Block loc) (alike_stmts m xs k k' c)
  alike_stmt m (VariableDeclaration loc kind declarators) k k' c = alike_one (VariableDeclaration loc kind) (alike_declarators m declarators k k' c)
  alike_stmt m (Empty loc) k k' c = record { tree = refl; code = c }
  alike_stmt m (Expression loc e) k k' c = alike_counted m loc (λ k. made (Expression loc) (link_expr (at_expr m e) Alone e k)) k _ _ (λ j d. alike_one (Expression loc) (alike_expr (at_expr m e) e Alone Alone j k' (d ∙ c)))
  alike_stmt m (If loc e x y) k k' c =
      let h = at_stmt (at_arm hint.If m loc) x in
      let g = at_stmt_if (at_arm hint.Else m loc) y in
      alike_counted m loc (λ k. branched m loc (λ b k. three (λ e' x' y'. If loc e' (enter_stmt (by_path h b) 0 x') (enter_arm (by_path g b) (past_path h 0) y'))
      (link_expr (at_expr m e) Alone e k) (link_stmt h x) (link_stmt_if g y)) k) k _ _ (λ i d.
      let j = after_marks m construct_kind.Branch loc i in
      let p = marks m construct_kind.Branch loc i in
      let r = alike_expr (at_expr m e) e Alone Alone j k' (kept_code m construct_kind.Branch loc i ∙ d ∙ c) in
      let first = link_expr (at_expr m e) Alone e j in
      let first' = link_expr Unmarked Alone e k' in
      let s = alike_stmt h x first.next first'.next r.code in
      let t = alike_stmt_if g y (link_stmt h x first.next).next (link_stmt Unmarked x first'.next).next s.code in
      alike_three (If loc) r (alike_by (stmt_entered (by_path h p) 0 (link_stmt h x first.next).tree) s)
      (alike_by (arm_entered (by_path g p) (past_path h 0) (link_stmt_if g y (link_stmt h x first.next).next).tree) t))
  alike_stmt m (DoWhile loc x e) k k' c = alike_counted m loc (λ k. two (DoWhile loc) (link_stmt (at_stmt m x) x k) (link_expr (at_expr m e) Alone e)) k _ _ (λ j d. let a = alike_stmt (at_stmt m x) x j k' (d ∙ c) in alike_two (DoWhile loc) a (alike_expr (at_expr m e) e Alone Alone (link_stmt (at_stmt m x) x j).next (link_stmt Unmarked x k').next a.code))
  alike_stmt m (While loc e x) k k' c = alike_counted m loc (λ k. two (While loc) (link_expr (at_expr m e) Alone e k) (link_stmt (at_stmt m x) x)) k _ _ (λ j d. let a = alike_expr (at_expr m e) e Alone Alone j k' (d ∙ c) in alike_two (While loc) a (alike_stmt (at_stmt m x) x (link_expr (at_expr m e) Alone e j).next (link_expr Unmarked Alone e k').next a.code))
  alike_stmt m (For loc init e f x) k k' c = alike_counted m loc (λ k. four (For loc) (link_for_init m init k) (link_expr_if m e) (link_expr_if m f) (link_stmt (at_stmt m x) x)) k _ _ (λ j d. let a = alike_for_init m init j k' (d ∙ c) in let b = alike_expr_if m e (link_for_init m init j).next (link_for_init Unmarked init k').next a.code in let c = alike_expr_if m f (link_expr_if m e (link_for_init m init j).next).next (link_expr_if Unmarked e (link_for_init Unmarked init k').next).next b.code in alike_four (For loc) a b c (alike_stmt (at_stmt m x) x (link_expr_if m f (link_expr_if m e (link_for_init m init j).next).next).next (link_expr_if Unmarked f (link_expr_if Unmarked e (link_for_init Unmarked init k').next).next).next c.code))
  alike_stmt m (ForIn loc target e x) k k' c = alike_counted m loc (λ k. three (ForIn loc) (link_for_target m target k) (link_expr (at_expr m e) Alone e) (link_stmt (at_stmt m x) x)) k _ _ (λ j d. let a = alike_for_target m target j k' (d ∙ c) in let b = alike_expr (at_expr m e) e Alone Alone (link_for_target m target j).next (link_for_target Unmarked target k').next a.code in alike_three (ForIn loc) a b (alike_stmt (at_stmt m x) x (link_expr (at_expr m e) Alone e (link_for_target m target j).next).next (link_expr Unmarked Alone e (link_for_target Unmarked target k').next).next b.code))
  alike_stmt m (ForOf loc target e x) k k' c = alike_counted m loc (λ k. three (ForOf loc) (link_for_target m target k) (link_expr (at_expr m e) Alone e) (link_stmt (at_stmt m x) x)) k _ _ (λ j d. let a = alike_for_target m target j k' (d ∙ c) in let b = alike_expr (at_expr m e) e Alone Alone (link_for_target m target j).next (link_for_target Unmarked target k').next a.code in alike_three (ForOf loc) a b (alike_stmt (at_stmt m x) x (link_expr (at_expr m e) Alone e (link_for_target m target j).next).next (link_expr Unmarked Alone e (link_for_target Unmarked target k').next).next b.code))
  alike_stmt m (Continue loc name) k k' c = alike_counted m loc (λ k. kept (Continue loc name) k) k _ _ (λ j d. record { tree = refl; code = (d ∙ c) })
  alike_stmt m (Break loc name) k k' c = alike_counted m loc (λ k. kept (Break loc name) k) k _ _ (λ j d. record { tree = refl; code = (d ∙ c) })
  alike_stmt m (Return loc e) k k' c = alike_counted m loc (λ k. made (Return loc) (link_expr_if m e k)) k _ _ (λ j d. alike_one (Return loc) (alike_expr_if m e j k' (d ∙ c)))
  alike_stmt m (Switch loc e cases) k k' c = alike_counted m loc (λ k. branched m loc (λ b k. two (Switch loc) (link_expr (at_expr m e) Alone e k) (link_cases m b 0 cases)) k) k _ _ (λ i d.
      let j = after_marks m construct_kind.Branch loc i in
      let r = alike_expr (at_expr m e) e Alone Alone j k' (kept_code m construct_kind.Branch loc i ∙ d ∙ c) in
      alike_two (Switch loc) r (alike_cases m cases (marks m construct_kind.Branch loc i) Uncounted 0 0 (link_expr (at_expr m e) Alone e j).next (link_expr Unmarked Alone e k').next r.code))
  alike_stmt m (Labelled loc name x) k k' c = alike_counted m loc (λ k. made (labelled loc name) (link_stmt (at_stmt m x) x k)) k _ _ (λ j d.
      let a = alike_stmt (at_stmt m x) x j k' (d ∙ c) in
      record {
        tree = labelled_unmarked loc name (link_stmt (at_stmt m x) x j).tree ∙ ap (Labelled loc name) a.tree ∙ sym (labelled_kept loc name x k');
        code = a.code;
      })
  alike_stmt m (Throw loc e) k k' c = alike_counted m loc (λ k. made (Throw loc) (link_expr (at_expr m e) Alone e k)) k _ _ (λ j d. alike_one (Throw loc) (alike_expr (at_expr m e) e Alone Alone j k' (d ∙ c)))
  alike_stmt m (TryCatch loc xs catch) k k' c = alike_counted m loc (λ k. two (TryCatch loc) (link_stmts m xs k) (link_catch m catch)) k _ _ (λ j d. let a = alike_stmts m xs j k' (d ∙ c) in alike_two (TryCatch loc) a (alike_catch m catch (link_stmts m xs j).next (link_stmts Unmarked xs k').next a.code))
  alike_stmt m (TryFinally loc xs ys) k k' c = alike_counted m loc (λ k. two (TryFinally loc) (link_stmts m xs k) (link_stmts m ys)) k _ _ (λ j d. let a = alike_stmts m xs j k' (d ∙ c) in alike_two (TryFinally loc) a (alike_stmts m ys (link_stmts m xs j).next (link_stmts Unmarked xs k').next a.code))
  alike_stmt m (TryCatchFinally loc xs catch ys) k k' c = alike_counted m loc (λ k. three (TryCatchFinally loc) (link_stmts m xs k) (link_catch m catch) (link_stmts m ys)) k _ _ (λ j d. let a = alike_stmts m xs j k' (d ∙ c) in let b = alike_catch m catch (link_stmts m xs j).next (link_stmts Unmarked xs k').next a.code in alike_three (TryCatchFinally loc) a b (alike_stmts m ys (link_catch m catch (link_stmts m xs j).next).next (link_catch Unmarked catch (link_stmts Unmarked xs k').next).next b.code))
  alike_stmt m (Debugger loc) k k' c = alike_counted m loc (λ k. kept (Debugger loc) k) k _ _ (λ j d. record { tree = refl; code = (d ∙ c) })
  alike_stmt m (FunctionDeclaration loc name function) k k' c = alike_one (FunctionDeclaration loc name) (alike_function m function loc (Some name) k k' c)
  alike_stmt m (EnteredStmt n x) k k' c = alike_stmt m x k k' c

  alike_property : (m : Marking) (t : Property) (k k' : Numbers) → k.code ≡ k'.code → Alike (unmarked_property (link_property m t k).tree) (link_property Unmarked t k').tree (link_property m t k).next.code (link_property Unmarked t k').next.code
  alike_property m (Shorthand loc text) k k' c = record { tree = refl; code = c }
  alike_property m (KeyValue loc key e) k k' c = let a = alike_property_key m key k k' c in alike_two (KeyValue loc) a (alike_expr (at_expr m e) e Alone Alone (link_property_key m key k).next (link_property_key Unmarked key k').next a.code)
  alike_property m (Method loc key (MakeFunction number params body)) k k' c =
      let place = function_place loc None (braced_place body) in
      let j = after_marks m construct_kind.Function place k in
      let d = kept_code m construct_kind.Function place k ∙ c in
      let q = link_property_key m key (after_code j) in
      let q' = link_property_key Unmarked key (after_code k') in
      let p = link_params m params q.next in
      let p' = link_params Unmarked params q'.next in
      let a = alike_property_key m key (after_code j) (after_code k') (ap suc d) in
      let b = alike_params m params q.next q'.next a.code in
      let x = alike_function_body m body p.next p'.next b.code in
      alike_four (λ code key' ps bs. Method loc key' (MakeFunction code ps bs)) (record { tree = d; code = d }) a b
      (alike_by (body_entered (marks m construct_kind.Function place k) (link_function_body m body p.next).tree) x)

  alike_property_key : (m : Marking) (t : PropertyKey) (k k' : Numbers) → k.code ≡ k'.code → Alike (unmarked_property_key (link_property_key m t k).tree) (link_property_key Unmarked t k').tree (link_property_key m t k).next.code (link_property_key Unmarked t k').next.code
  alike_property_key m (NameKey text) k k' c = record { tree = refl; code = c }
  alike_property_key m (StringKey spelled) k k' c = record { tree = refl; code = c }
  alike_property_key m (NumberKey text) k k' c = record { tree = refl; code = c }
  alike_property_key m (ComputedKey e) k k' c = alike_one ComputedKey (alike_expr (at_expr m e) e Alone Alone k k' c)

  alike_concise_body : (m : Marking) (t : ConciseBody) (k k' : Numbers) → k.code ≡ k'.code → Alike (unmarked_concise_body (link_concise_body m t k).tree) (link_concise_body Unmarked t k').tree (link_concise_body m t k).next.code (link_concise_body Unmarked t k').next.code
  alike_concise_body m (ExpressionBody e) k k' c = alike_one ExpressionBody (alike_counted_expr (at_expr m e) (bare_place e) (link_expr (at_expr m e) Alone e) k _ _ (λ j d. alike_expr (at_expr m e) e Alone Alone j k' (d ∙ c)))
  alike_concise_body m (BlockBody body) k k' c = alike_one BlockBody (alike_function_body m body k k' c)

  alike_for_init : (m : Marking) (t : ForInit) (k k' : Numbers) → k.code ≡ k'.code → Alike (unmarked_for_init (link_for_init m t k).tree) (link_for_init Unmarked t k').tree (link_for_init m t k).next.code (link_for_init Unmarked t k').next.code
  alike_for_init m NoInit k k' c = record { tree = refl; code = c }
  alike_for_init m (InitDeclaration kind declarators) k k' c = alike_one (InitDeclaration kind) (alike_declarators m declarators k k' c)
  alike_for_init m (InitExpression e) k k' c = alike_one InitExpression (alike_expr (at_expr m e) e Alone Alone k k' c)

  alike_for_target : (m : Marking) (t : ForTarget) (k k' : Numbers) → k.code ≡ k'.code → Alike (unmarked_for_target (link_for_target m t k).tree) (link_for_target Unmarked t k').tree (link_for_target m t k).next.code (link_for_target Unmarked t k').next.code
  alike_for_target m (TargetDeclaration kind pattern) k k' c = record { tree = refl; code = c }
  alike_for_target m (TargetExpression e) k k' c = alike_one TargetExpression (alike_expr (at_expr m e) e Alone Alone k k' c)

  alike_template_part : (m : Marking) (t : TemplatePart) (k k' : Numbers) → k.code ≡ k'.code → Alike (unmarked_template_part (link_template_part m t k).tree) (link_template_part Unmarked t k').tree (link_template_part m t k).next.code (link_template_part Unmarked t k').next.code
  alike_template_part m (MakeTemplatePart e spelled) k k' c = alike_one (λ e'. MakeTemplatePart e' spelled) (alike_expr (at_expr m e) e Alone Alone k k' c)

  alike_function : (m : Marking) (t : Function) (loc : Option Loc) (name : Option Identifier) (k k' : Numbers) → k.code ≡ k'.code → Alike (unmarked_function (link_function m loc name t k).tree) (link_function Unmarked loc name t k').tree (link_function m loc name t k).next.code (link_function Unmarked loc name t k').next.code
  alike_function m (MakeFunction number params body) loc name k k' c =
      let place = function_place loc name (braced_place body) in
      let j = after_marks m construct_kind.Function place k in
      let d = kept_code m construct_kind.Function place k ∙ c in
      let a = alike_params m params (after_code j) (after_code k') (ap suc d) in
      let x = alike_function_body m body (link_params m params (after_code j)).next (link_params Unmarked params (after_code k')).next a.code in
      alike_three MakeFunction (record { tree = d; code = d }) a (alike_by (body_entered (marks m construct_kind.Function place k) (link_function_body m body (link_params m params (after_code j)).next).tree) x)

  alike_function_body : (m : Marking) (t : FunctionBody) (k k' : Numbers) → k.code ≡ k'.code → Alike (unmarked_function_body (link_function_body m t k).tree) (link_function_body Unmarked t k').tree (link_function_body m t k).next.code (link_function_body Unmarked t k').next.code
  alike_function_body m (MakeFunctionBody loc xs) k k' c = alike_one (MakeFunctionBody loc) (alike_stmts m xs k k' c)
  alike_function_body m (EnteredBody n body) k k' c = alike_function_body m body k k' c

  alike_param : (m : Marking) (t : Param) (k k' : Numbers) → k.code ≡ k'.code → Alike (unmarked_param (link_param m t k).tree) (link_param Unmarked t k').tree (link_param m t k).next.code (link_param Unmarked t k').next.code
  alike_param m (MakeParam loc pattern none_expr) k k' c = record { tree = refl; code = c }
  alike_param m (MakeParam loc pattern (some_expr e)) k k' c =
      let a = alike_expr (at_expr m e) e Alone Alone (after_marks m construct_kind.Branch loc k) k' (kept_code m construct_kind.Branch loc k ∙ c) in
      alike_one (λ x. MakeParam loc pattern (some_expr x)) (alike_by (expr_entered (by_path (at_expr m e) (marks m construct_kind.Branch loc k)) 0 (link_expr (at_expr m e) Alone e (after_marks m construct_kind.Branch loc k)).tree) a)

  alike_declarator : (m : Marking) (t : Declarator) (k k' : Numbers) → k.code ≡ k'.code → Alike (unmarked_declarator (link_declarator m t k).tree) (link_declarator Unmarked t k').tree (link_declarator m t k).next.code (link_declarator Unmarked t k').next.code
  alike_declarator m (MakeDeclarator loc pattern none_expr) k k' c = record { tree = refl; code = c }
  alike_declarator m (MakeDeclarator loc pattern (some_expr e)) k k' c = alike_one (λ x. MakeDeclarator loc pattern (some_expr x)) (alike_counted_expr (at_expr m e) (bare_place e) (link_expr (at_expr m e) Alone e) k _ _ (λ j d. alike_expr (at_expr m e) e Alone Alone j k' (d ∙ c)))

  alike_case : (m : Marking) (t : Case) (k k' : Numbers) → k.code ≡ k'.code → Alike (unmarked_case (link_case m t k).tree) (link_case Unmarked t k').tree (link_case m t k).next.code (link_case Unmarked t k').next.code
  alike_case m (MakeCase loc e xs) k k' c = let a = alike_expr_if m e k k' c in alike_two (MakeCase loc) a (alike_stmts m xs (link_expr_if m e k).next (link_expr_if Unmarked e k').next a.code)
  alike_case m (EnteredCase n x) k k' c = alike_case m x k k' c

  alike_catch : (m : Marking) (t : Catch) (k k' : Numbers) → k.code ≡ k'.code → Alike (unmarked_catch (link_catch m t k).tree) (link_catch Unmarked t k').tree (link_catch m t k).next.code (link_catch Unmarked t k').next.code
  alike_catch m (MakeCatch pattern xs) k k' c = alike_one (MakeCatch pattern) (alike_stmts m xs k k' c)

  alike_expr_if : (m : Marking) (t : MaybeExpr) (k k' : Numbers) → k.code ≡ k'.code → Alike (unmarked_expr_if (link_expr_if m t k).tree) (link_expr_if Unmarked t k').tree (link_expr_if m t k).next.code (link_expr_if Unmarked t k').next.code
  alike_expr_if m none_expr k k' c = record { tree = refl; code = c }
  alike_expr_if m (some_expr e) k k' c = alike_one some_expr (alike_expr (at_expr m e) e Alone Alone k k' c)

  alike_stmt_if : (m : Marking) (t : MaybeStmt) (k k' : Numbers) → k.code ≡ k'.code → Alike (unmarked_stmt_if (link_stmt_if m t k).tree) (link_stmt_if Unmarked t k').tree (link_stmt_if m t k).next.code (link_stmt_if Unmarked t k').next.code
  alike_stmt_if m none_stmt k k' c = record { tree = refl; code = c }
  alike_stmt_if m (some_stmt x) k k' c = alike_one some_stmt (alike_stmt m x k k' c)
  alike_stmt_if m (entered_none n) k k' c = record { tree = refl; code = c }

  alike_exprs : (m : Marking) (t : Exprs) (k k' : Numbers) → k.code ≡ k'.code → Alike (unmarked_exprs (link_exprs m t k).tree) (link_exprs Unmarked t k').tree (link_exprs m t k).next.code (link_exprs Unmarked t k').next.code
  alike_exprs m no_expr k k' c = record { tree = refl; code = c }
  alike_exprs m (more_expr x xs) k k' c = let a = alike_expr (at_expr m x) x Alone Alone k k' c in alike_two more_expr a (alike_exprs m xs (link_expr (at_expr m x) Alone x k).next (link_expr Unmarked Alone x k').next a.code)

  alike_template_parts : (m : Marking) (t : TemplateParts) (k k' : Numbers) → k.code ≡ k'.code → Alike (unmarked_template_parts (link_template_parts m t k).tree) (link_template_parts Unmarked t k').tree (link_template_parts m t k).next.code (link_template_parts Unmarked t k').next.code
  alike_template_parts m no_template_part k k' c = record { tree = refl; code = c }
  alike_template_parts m (more_template_part x xs) k k' c = let a = alike_template_part m x k k' c in alike_two more_template_part a (alike_template_parts m xs (link_template_part m x k).next (link_template_part Unmarked x k').next a.code)

  alike_properties : (m : Marking) (t : Properties) (k k' : Numbers) → k.code ≡ k'.code → Alike (unmarked_properties (link_properties m t k).tree) (link_properties Unmarked t k').tree (link_properties m t k).next.code (link_properties Unmarked t k').next.code
  alike_properties m no_property k k' c = record { tree = refl; code = c }
  alike_properties m (more_property x xs) k k' c = let a = alike_property (at_property m x) x k k' c in alike_two more_property a (alike_properties m xs (link_property (at_property m x) x k).next (link_property Unmarked x k').next a.code)

  alike_params : (m : Marking) (t : Params) (k k' : Numbers) → k.code ≡ k'.code → Alike (unmarked_params (link_params m t k).tree) (link_params Unmarked t k').tree (link_params m t k).next.code (link_params Unmarked t k').next.code
  alike_params m no_param k k' c = record { tree = refl; code = c }
  alike_params m (more_param x xs) k k' c = let a = alike_param (at_param m x) x k k' c in alike_two more_param a (alike_params m xs (link_param (at_param m x) x k).next (link_param Unmarked x k').next a.code)

  alike_stmts : (m : Marking) (t : Stmts) (k k' : Numbers) → k.code ≡ k'.code → Alike (unmarked_stmts (link_stmts m t k).tree) (link_stmts Unmarked t k').tree (link_stmts m t k).next.code (link_stmts Unmarked t k').next.code
  alike_stmts m no_stmt k k' c = record { tree = refl; code = c }
  alike_stmts m (more_stmt x xs) k k' c = let a = alike_stmt (at_stmt m x) x k k' c in alike_two more_stmt a (alike_stmts m xs (link_stmt (at_stmt m x) x k).next (link_stmt Unmarked x k').next a.code)

  alike_declarators : (m : Marking) (t : Declarators) (k k' : Numbers) → k.code ≡ k'.code → Alike (unmarked_declarators (link_declarators m t k).tree) (link_declarators Unmarked t k').tree (link_declarators m t k).next.code (link_declarators Unmarked t k').next.code
  alike_declarators m no_declarator k k' c = record { tree = refl; code = c }
  alike_declarators m (more_declarator x xs) k k' c = let a = alike_declarator (at_declarator m x) x k k' c in alike_two more_declarator a (alike_declarators m xs (link_declarator (at_declarator m x) x k).next (link_declarator Unmarked x k').next a.code)

  alike_cases : (m : Marking) (t : Cases) (p q : Marks) (i j : ℕ) (k k' : Numbers) → k.code ≡ k'.code → Alike (unmarked_cases (link_cases m p i t k).tree) (link_cases Unmarked q j t k').tree (link_cases m p i t k).next.code (link_cases Unmarked q j t k').next.code
  alike_cases m no_case p q i j k k' c = record { tree = refl; code = c }
  alike_cases m (more_case x xs) p q i j k k' c =
      let n = at_case m x in
      let a = alike_case n x k k' c in
      alike_two more_case (alike_by (case_entered (by_path n p) i (link_case n x k).tree) a)
      (alike_cases m xs p q (past_path n i) j (link_case n x k).next (link_case Unmarked x k').next a.code)

pub unmarks_linked : UnmarksLinked
unmarks_linked m (MakeFile body comments) k k' c =
    let a = alike_stmts (with_comments m comments) body k k' c in (ap (λ x. MakeFile x comments) a.tree, a.code)
