-- A file that is linked under another number has the same tree, but for its marks' file and its functions' numbers.
use Rattle.std.proofs.Common.{◌≡◌, ℕ, Option, Some, None, refl, sym, ap, subst, ◌∙◌}
use Rattle.js_terms.specs.Mark.{Mark}
use Rattle.js_terms.specs.declared.construct.ConstructKind.{ConstructKind}
use Rattle.js_terms.specs.declared.construct.ConstructKind.TheVariants as construct_kind
use Rattle.js_tree.specs.declared.hint.Hint.TheVariants as hint
use Rattle.js_terms.specs.declared.operators.LogicalOperator.{LogicalOperator}
use Rattle.js_terms.specs.declared.place.Loc.{Loc}
use Rattle.js_terms.specs.declared.words.Identifier.{Identifier}
use Rattle.js_tree.specs.Hints.{Heed, Ignored, Heeding, heed, heed_arm, heeded_place}
use Rattle.js_tree.specs.Places.{bare_place, expr_place, stmt_place, stmt_if_place, property_place, param_place, declarator_place, case_place, concise_place, braced_place}
use Rattle.js_tree.specs.Plain.{Expr, IdentifierReference, This, NullLiteral, BooleanLiteral, NumericLiteral, StringLiteral, ArrayLiteral, ObjectLiteral, FunctionExpression, ArrowFunction, RegularExpressionLiteral, TemplateLiteral, Parenthesized, NamedMember, ComputedMember, New, Call, PostfixUpdate, PrefixUpdate, Unary, Binary, Logical, Conditional, Assignment, Comma, Entered}
use Rattle.js_tree.specs.Plain.{Stmt, Directive, Block, VariableDeclaration, Empty, Expression, If, DoWhile, While, For, ForIn, ForOf, Continue, Break, Return, Switch, Labelled, Throw, TryCatch, TryFinally, TryCatchFinally, Debugger, FunctionDeclaration, EnteredStmt}
use Rattle.js_tree.specs.Plain.{Property, Shorthand, KeyValue, Method}
use Rattle.js_tree.specs.Plain.{PropertyKey, NameKey, StringKey, NumberKey, ComputedKey}
use Rattle.js_tree.specs.Plain.{ConciseBody, ExpressionBody, BlockBody}
use Rattle.js_tree.specs.Plain.{ForInit, NoInit, InitDeclaration, InitExpression}
use Rattle.js_tree.specs.Plain.{ForTarget, TargetDeclaration, TargetExpression}
use Rattle.js_tree.specs.Plain.{TemplatePart, MakeTemplatePart}
use Rattle.js_tree.specs.Plain.{Function, MakeFunction}
use Rattle.js_tree.specs.Plain.{FunctionBody, MakeFunctionBody, EnteredBody}
use Rattle.js_tree.specs.Plain.{Param, MakeParam}
use Rattle.js_tree.specs.Plain.{Declarator, MakeDeclarator}
use Rattle.js_tree.specs.Plain.{Case, MakeCase, EnteredCase}
use Rattle.js_tree.specs.Plain.{Catch, MakeCatch}
use Rattle.js_tree.specs.Plain.{MaybeExpr, none_expr, some_expr}
use Rattle.js_tree.specs.Plain.{MaybeStmt, none_stmt, some_stmt, entered_none}
use Rattle.js_tree.specs.Plain.{Exprs, no_expr, more_expr}
use Rattle.js_tree.specs.Plain.{TemplateParts, no_template_part, more_template_part}
use Rattle.js_tree.specs.Plain.{Properties, no_property, more_property}
use Rattle.js_tree.specs.Plain.{Params, no_param, more_param}
use Rattle.js_tree.specs.Plain.{Stmts, no_stmt, more_stmt}
use Rattle.js_tree.specs.Plain.{Declarators, no_declarator, more_declarator}
use Rattle.js_tree.specs.Plain.{Cases, no_case, more_case}
use Rattle.js_tree.specs.Linked.{Within, Numbers, Linked, Marks, Uncounted, Counted, marks, marks_at, after_marks, after_marks_at, after_one, next_of, kept, made, two, three, four, after_code, mark, enter_expr, enter_stmt, enter_case, enter_arm, enter_leaf, enter_body, enter_concise_body, operand, Chain, Alone, Operand, by_path, past_path, past_leaves, at_expr, at_stmt, at_stmt_if, at_arm, counted_stmt, counted_expr, branched, function_place, labelled, link_expr, link_stmt, link_property, link_property_key, link_concise_body, link_for_init, link_for_target, link_template_part, link_function, link_function_body, link_param, link_declarator, link_case, link_catch, link_expr_if, link_stmt_if, link_exprs, link_template_parts, link_properties, link_params, link_stmts, link_declarators, link_cases}
use Rattle.cov_linked.proofs.Renamed as U
use Rattle.cov_linked.proofs.Numberless.{pair, triple, four_fold}

-- linked trees that are equal, with equal numbers of constructs after them
pub record Like {T : Type 0} (a b : Linked T) : Type 0 where
  pub tree : a.tree ≡ b.tree
  pub counts : a.next.counts ≡ b.next.counts

one : {A T : Type 0} (f : A → T) {a a' : Linked A} → Like a a' → Like (made f a) (made f a')
one f h = record { tree = ap f h.tree; counts = h.counts }

both : {A B T : Type 0} (f : A → B → T) {a a' : Linked A} {g g' : Numbers → Linked B} → Like a a' → ((k j : Numbers) → k.counts ≡ j.counts → Like (g k) (g' j)) → Like (two f a g) (two f a' g')
both f {a} {a'} h n = let r = n a.next a'.next h.counts in record { tree = pair f h.tree r.tree; counts = r.counts }

all_three : {A B C T : Type 0} (f : A → B → C → T) {a a' : Linked A} {g g' : Numbers → Linked B} {h h' : Numbers → Linked C} → Like a a' →
    ((k j : Numbers) → k.counts ≡ j.counts → Like (g k) (g' j)) → ((k j : Numbers) → k.counts ≡ j.counts → Like (h k) (h' j)) → Like (three f a g h) (three f a' g' h')
all_three f {a} {a'} {g} {g'} p q r =
    let x = q a.next a'.next p.counts in
    let y = r (g a.next).next (g' a'.next).next x.counts in
    record { tree = triple f p.tree x.tree y.tree; counts = y.counts }

all_four : {A B C D T : Type 0} (f : A → B → C → D → T) {a a' : Linked A} {g g' : Numbers → Linked B} {h h' : Numbers → Linked C} {i i' : Numbers → Linked D} → Like a a' →
    ((k j : Numbers) → k.counts ≡ j.counts → Like (g k) (g' j)) → ((k j : Numbers) → k.counts ≡ j.counts → Like (h k) (h' j)) → ((k j : Numbers) → k.counts ≡ j.counts → Like (i k) (i' j)) →
    Like (four f a g h i) (four f a' g' h' i')
all_four f {a} {a'} {g} {g'} {h} {h'} p q r s =
    let x = q a.next a'.next p.counts in
    let y = r (g a.next).next (g' a'.next).next x.counts in
    let z = s (h (g a.next).next).next (h' (g' a'.next).next).next y.counts in
    record { tree = four_fold f p.tree x.tree y.tree z.tree; counts = z.counts }

labelled_in : (g : Mark → Mark) (loc : Option Loc) (name : Identifier) (x : Stmt) → U.renamed_stmt g (labelled loc name x) ≡ labelled loc name (U.renamed_stmt g x)
labelled_in g loc name (EnteredStmt mark x) = ap (EnteredStmt (g mark)) (labelled_in g loc name x)
labelled_in g loc name _ = refl

abbrev I : Mark → Mark
I m = m

past_like' : (file : ℕ) (l : Heed) (p : ℕ) → past_path (Within 0 l) p ≡ past_path (Within file l) p
past_like' file Ignored p = refl
past_like' file (Heeding hints) p = refl

leaf_kept : (b : Marks) (p : ℕ) (e : Expr) → U.renamed_expr I (enter_leaf b p e) ≡ enter_leaf b p (U.renamed_expr I e)
leaf_kept b p (Logical loc operator e f) = refl
leaf_kept b p (Parenthesized loc e) = refl
leaf_kept Uncounted p _ = refl
leaf_kept (Counted file kind n) p _ = refl

module _ (file : ℕ) where
  abbrev pub G : Mark → Mark
  G m = record m { file = file }

  abbrev remarked : Marks → Marks
  remarked Uncounted = Uncounted
  remarked (Counted other kind number) = Counted file kind number

  abbrev rechained : Chain → Chain
  rechained Alone = Alone
  rechained (Operand b path) = Operand (remarked b) path

  -- marks

  marks_like : (l : Heed) (kind : ConstructKind) (loc : Option Loc) (k j : Numbers) → k.counts ≡ j.counts → marks (Within file l) kind loc j ≡ remarked (marks (Within 0 l) kind loc k)
  marks_like l kind loc k j c = at (heeded_place l loc)
    where
      at : (p : Option Loc) → marks_at file kind p j ≡ remarked (marks_at 0 kind p k)
      at None = refl
      at (Some place) = ap (λ n. Counted file kind (next_of kind n)) (sym c)

  after_like : (l : Heed) (kind : ConstructKind) (loc : Option Loc) (k j : Numbers) → k.counts ≡ j.counts → (after_marks (Within 0 l) kind loc k).counts ≡ (after_marks (Within file l) kind loc j).counts
  after_like l kind loc k j c = at (heeded_place l loc)
    where
      at : (p : Option Loc) → (after_marks_at kind p k).counts ≡ (after_marks_at kind p j).counts
      at None = c
      at (Some place) = ap (after_one kind) c

  by_like : (l : Heed) (b : Marks) → by_path (Within file l) (remarked b) ≡ remarked (by_path (Within 0 l) b)
  by_like Ignored b = refl
  by_like (Heeding hints) b = refl

  past_like : (l : Heed) (p : ℕ) → past_path (Within 0 l) p ≡ past_path (Within file l) p
  past_like l p = past_like' file l p

  -- what enters a construct

  expr_entered : (b : Marks) (p : ℕ) (x y : Expr) → U.renamed_expr G x ≡ U.renamed_expr I y → U.renamed_expr G (enter_expr b p x) ≡ U.renamed_expr I (enter_expr (remarked b) p y)
  expr_entered Uncounted p x y h = h
  expr_entered (Counted other kind n) p x y h = ap (Entered (mark file kind n p)) h

  stmt_entered : (b : Marks) (p : ℕ) (x y : Stmt) → U.renamed_stmt G x ≡ U.renamed_stmt I y → U.renamed_stmt G (enter_stmt b p x) ≡ U.renamed_stmt I (enter_stmt (remarked b) p y)
  stmt_entered Uncounted p x y h = h
  stmt_entered (Counted other kind n) p x y h = ap (EnteredStmt (mark file kind n p)) h

  case_entered : (b : Marks) (p : ℕ) (x y : Case) → U.renamed_case G x ≡ U.renamed_case I y → U.renamed_case G (enter_case b p x) ≡ U.renamed_case I (enter_case (remarked b) p y)
  case_entered Uncounted p x y h = h
  case_entered (Counted other kind n) p x y h = ap (EnteredCase (mark file kind n p)) h

  arm_in : (b : Marks) (p : ℕ) (x : MaybeStmt) → U.renamed_stmt_if G (enter_arm b p x) ≡ enter_arm (remarked b) p (U.renamed_stmt_if G x)
  arm_in Uncounted p x = refl
  arm_in (Counted other kind n) p none_stmt = refl
  arm_in (Counted other kind n) p (some_stmt x) = refl
  arm_in (Counted other kind n) p (entered_none m) = refl

  arm_kept : (b : Marks) (p : ℕ) (x : MaybeStmt) → U.renamed_stmt_if I (enter_arm b p x) ≡ enter_arm b p (U.renamed_stmt_if I x)
  arm_kept Uncounted p x = refl
  arm_kept (Counted other kind n) p none_stmt = refl
  arm_kept (Counted other kind n) p (some_stmt x) = refl
  arm_kept (Counted other kind n) p (entered_none m) = refl

  concise_in : (b : Marks) (x : ConciseBody) → U.renamed_concise_body G (enter_concise_body b x) ≡ enter_concise_body (remarked b) (U.renamed_concise_body G x)
  concise_in Uncounted (ExpressionBody e) = refl
  concise_in Uncounted (BlockBody body) = refl
  concise_in (Counted other kind n) (ExpressionBody e) = refl
  concise_in (Counted other kind n) (BlockBody body) = refl

  concise_kept : (b : Marks) (x : ConciseBody) → U.renamed_concise_body I (enter_concise_body b x) ≡ enter_concise_body b (U.renamed_concise_body I x)
  concise_kept Uncounted (ExpressionBody e) = refl
  concise_kept Uncounted (BlockBody body) = refl
  concise_kept (Counted other kind n) (ExpressionBody e) = refl
  concise_kept (Counted other kind n) (BlockBody body) = refl

  concise_entered : (b d : Marks) → d ≡ remarked b → (x y : ConciseBody) → U.renamed_concise_body G x ≡ U.renamed_concise_body I y → U.renamed_concise_body G (enter_concise_body b x) ≡ U.renamed_concise_body I (enter_concise_body d y)
  concise_entered b d m x y h = concise_in b x ∙ ap (enter_concise_body (remarked b)) h ∙ ap (λ e. enter_concise_body e (U.renamed_concise_body I y)) (sym m) ∙ sym (concise_kept d y)

  body_entered : (b d : Marks) → d ≡ remarked b → (x y : FunctionBody) → U.renamed_function_body G x ≡ U.renamed_function_body I y → U.renamed_function_body G (enter_body b x) ≡ U.renamed_function_body I (enter_body d y)
  body_entered b d m x y h = by b ∙ ap (λ e. U.renamed_function_body I (enter_body e y)) (sym m)
    where
      by : (b : Marks) → U.renamed_function_body G (enter_body b x) ≡ U.renamed_function_body I (enter_body (remarked b) y)
      by Uncounted = h
      by (Counted other kind n) = ap (EnteredBody (mark file kind n 0)) h

  leaf_in : (b : Marks) (p : ℕ) (e : Expr) → U.renamed_expr G (enter_leaf b p e) ≡ enter_leaf (remarked b) p (U.renamed_expr G e)
  leaf_in b p (Logical loc operator e f) = refl
  leaf_in b p (Parenthesized loc e) = refl
  leaf_in Uncounted p _ = refl
  leaf_in (Counted other kind n) p _ = refl

  -- by a path that a part may have

  path_entered : (l : Heed) (b d : Marks) → d ≡ remarked b → (p q : ℕ) → p ≡ q → (x y : Expr) → U.renamed_expr G x ≡ U.renamed_expr I y →
      U.renamed_expr G (enter_expr (by_path (Within 0 l) b) p x) ≡ U.renamed_expr I (enter_expr (by_path (Within file l) d) q y)
  path_entered l b d m p q e x y h = expr_entered (by_path (Within 0 l) b) p x y h ∙ ap (λ a. U.renamed_expr I (enter_expr a p y)) (sym (by_like l b) ∙ ap (by_path (Within file l)) (sym m))
      ∙ ap (λ n. U.renamed_expr I (enter_expr (by_path (Within file l) d) n y)) e

  path_entered_stmt : (l : Heed) (b d : Marks) → d ≡ remarked b → (x y : Stmt) → U.renamed_stmt G x ≡ U.renamed_stmt I y →
      U.renamed_stmt G (enter_stmt (by_path (Within 0 l) b) 0 x) ≡ U.renamed_stmt I (enter_stmt (by_path (Within file l) d) 0 y)
  path_entered_stmt l b d m x y h = stmt_entered (by_path (Within 0 l) b) 0 x y h ∙ ap (λ a. U.renamed_stmt I (enter_stmt a 0 y)) (sym (by_like l b) ∙ ap (by_path (Within file l)) (sym m))

  path_entered_case : (l : Heed) (b d : Marks) → d ≡ remarked b → (p : ℕ) (x y : Case) → U.renamed_case G x ≡ U.renamed_case I y →
      U.renamed_case G (enter_case (by_path (Within 0 l) b) p x) ≡ U.renamed_case I (enter_case (by_path (Within file l) d) p y)
  path_entered_case l b d m p x y h = case_entered (by_path (Within 0 l) b) p x y h ∙ ap (λ a. U.renamed_case I (enter_case a p y)) (sym (by_like l b) ∙ ap (by_path (Within file l)) (sym m))

  path_entered_arm : (l : Heed) (b d : Marks) → d ≡ remarked b → (p q : ℕ) → p ≡ q → (x y : MaybeStmt) → U.renamed_stmt_if G x ≡ U.renamed_stmt_if I y →
      U.renamed_stmt_if G (enter_arm (by_path (Within 0 l) b) p x) ≡ U.renamed_stmt_if I (enter_arm (by_path (Within file l) d) q y)
  path_entered_arm l b d m p q e x y h = arm_in (by_path (Within 0 l) b) p x ∙ ap (enter_arm (remarked (by_path (Within 0 l) b)) p) h
      ∙ ap (λ a. enter_arm a p (U.renamed_stmt_if I y)) (sym (by_like l b) ∙ ap (by_path (Within file l)) (sym m))
      ∙ ap (λ n. enter_arm (by_path (Within file l) d) n (U.renamed_stmt_if I y)) e ∙ sym (arm_kept (by_path (Within file l) d) q y)

  operand_like : (l : Heed) (b : Marks) (p : ℕ) (d : Marks) → d ≡ remarked b → (a a' : Linked Expr) → Like (made (U.renamed_expr G) a) (made (U.renamed_expr I) a') →
      Like (made (U.renamed_expr G) (operand (Within 0 l) (Operand b p) a)) (made (U.renamed_expr I) (operand (Within file l) (Operand d p) a'))
  operand_like l b p d m a a' h = record {
    tree = leaf_in (by_path (Within 0 l) b) p a.tree ∙ ap (enter_leaf (remarked (by_path (Within 0 l) b)) p) h.tree
        ∙ ap (λ e. enter_leaf e p (U.renamed_expr I a'.tree)) (sym (by_like l b) ∙ ap (by_path (Within file l)) (sym m)) ∙ sym (leaf_kept (by_path (Within file l) d) p a'.tree);
    counts = h.counts;
  }

  -- the chain of an operator that is no operand

  logical_like : (l : Heed) (loc : Option Loc) (operator : LogicalOperator) (e f : Expr) (b d : Marks) → d ≡ remarked b → (k j : Numbers) →
      Like (made (U.renamed_expr G) (two (Logical loc operator) (operand (at_expr (Within 0 l) e) (Operand b 0) (link_expr (at_expr (Within 0 l) e) (Operand b 0) e k))
      (λ k. operand (at_expr (Within 0 l) f) (Operand b (past_leaves (at_expr (Within 0 l) e) e 0)) (link_expr (at_expr (Within 0 l) f) (Operand b (past_leaves (at_expr (Within 0 l) e) e 0)) f k))))
      (made (U.renamed_expr I) (two (Logical loc operator) (operand (at_expr (Within file l) e) (Operand (remarked b) 0) (link_expr (at_expr (Within file l) e) (Operand (remarked b) 0) e j))
      (λ k. operand (at_expr (Within file l) f) (Operand (remarked b) (past_leaves (at_expr (Within file l) e) e 0)) (link_expr (at_expr (Within file l) f) (Operand (remarked b) (past_leaves (at_expr (Within file l) e) e 0)) f k)))) →
      Like (made (U.renamed_expr G) (two (Logical loc operator) (operand (at_expr (Within 0 l) e) (Operand b 0) (link_expr (at_expr (Within 0 l) e) (Operand b 0) e k))
      (λ k. operand (at_expr (Within 0 l) f) (Operand b (past_leaves (at_expr (Within 0 l) e) e 0)) (link_expr (at_expr (Within 0 l) f) (Operand b (past_leaves (at_expr (Within 0 l) e) e 0)) f k))))
      (made (U.renamed_expr I) (two (Logical loc operator) (operand (at_expr (Within file l) e) (Operand d 0) (link_expr (at_expr (Within file l) e) (Operand d 0) e j))
      (λ k. operand (at_expr (Within file l) f) (Operand d (past_leaves (at_expr (Within file l) e) e 0)) (link_expr (at_expr (Within file l) f) (Operand d (past_leaves (at_expr (Within file l) e) e 0)) f k))))
  logical_like l loc operator e f b d m k j h = subst (λ x. Like (made (U.renamed_expr G) (two (Logical loc operator) (operand (at_expr (Within 0 l) e) (Operand b 0) (link_expr (at_expr (Within 0 l) e) (Operand b 0) e k))
      (λ k. operand (at_expr (Within 0 l) f) (Operand b (past_leaves (at_expr (Within 0 l) e) e 0)) (link_expr (at_expr (Within 0 l) f) (Operand b (past_leaves (at_expr (Within 0 l) e) e 0)) f k))))
      (made (U.renamed_expr I) (two (Logical loc operator) (operand (at_expr (Within file l) e) (Operand x 0) (link_expr (at_expr (Within file l) e) (Operand x 0) e j))
      (λ k. operand (at_expr (Within file l) f) (Operand x (past_leaves (at_expr (Within file l) e) e 0)) (link_expr (at_expr (Within file l) f) (Operand x (past_leaves (at_expr (Within file l) e) e 0)) f k))))) (sym m) h

  -- a mark on a statement, and on an expression that is counted as one

  counted_like : (l : Heed) (loc : Option Loc) (f g : Numbers → Linked Stmt) (k j : Numbers) → k.counts ≡ j.counts →
      ((k j : Numbers) → k.counts ≡ j.counts → Like (made (U.renamed_stmt G) (f k)) (made (U.renamed_stmt I) (g j))) →
      Like (made (U.renamed_stmt G) (counted_stmt (Within 0 l) loc f k)) (made (U.renamed_stmt I) (counted_stmt (Within file l) loc g j))
  counted_like l loc f g k j c h =
      let k' = after_marks (Within 0 l) construct_kind.Statement loc k in
      let j' = after_marks (Within file l) construct_kind.Statement loc j in
      let r = h k' j' (after_like l construct_kind.Statement loc k j c) in
      record {
        tree = stmt_entered (marks (Within 0 l) construct_kind.Statement loc k) 0 (f k').tree (g j').tree r.tree
            ∙ ap (λ b. U.renamed_stmt I (enter_stmt b 0 (g j').tree)) (sym (marks_like l construct_kind.Statement loc k j c));
        counts = r.counts;
      }

  counted_expr_like : (l : Heed) (loc : Option Loc) (f g : Numbers → Linked Expr) (k j : Numbers) → k.counts ≡ j.counts →
      ((k j : Numbers) → k.counts ≡ j.counts → Like (made (U.renamed_expr G) (f k)) (made (U.renamed_expr I) (g j))) →
      Like (made (U.renamed_expr G) (counted_expr (Within 0 l) loc f k)) (made (U.renamed_expr I) (counted_expr (Within file l) loc g j))
  counted_expr_like l loc f g k j c h =
      let k' = after_marks (Within 0 l) construct_kind.Statement loc k in
      let j' = after_marks (Within file l) construct_kind.Statement loc j in
      let r = h k' j' (after_like l construct_kind.Statement loc k j c) in
      record {
        tree = expr_entered (marks (Within 0 l) construct_kind.Statement loc k) 0 (f k').tree (g j').tree r.tree
            ∙ ap (λ b. U.renamed_expr I (enter_expr b 0 (g j').tree)) (sym (marks_like l construct_kind.Statement loc k j c));
        counts = r.counts;
      }

  -- the forms

  mutual
    refiled_expr : (l : Heed) (t : Expr) (b : Chain) (k j : Numbers) → k.counts ≡ j.counts → Like (made (U.renamed_expr G) (link_expr (Within 0 l) b t k)) (made (U.renamed_expr I) (link_expr (Within file l) (rechained b) t j))
    refiled_expr l (IdentifierReference loc text) b k j c = record { tree = refl; counts = c }
    refiled_expr l (This loc) b k j c = record { tree = refl; counts = c }
    refiled_expr l (NullLiteral loc) b k j c = record { tree = refl; counts = c }
    refiled_expr l (BooleanLiteral loc value) b k j c = record { tree = refl; counts = c }
    refiled_expr l (NumericLiteral loc text) b k j c = record { tree = refl; counts = c }
    refiled_expr l (StringLiteral loc spelled) b k j c = record { tree = refl; counts = c }
    refiled_expr l (ArrayLiteral loc es) b k j c = one (ArrayLiteral loc) (refiled_exprs l es k j c)
    refiled_expr l (ObjectLiteral loc properties) b k j c = one (ObjectLiteral loc) (refiled_properties l properties k j c)
    refiled_expr l (FunctionExpression loc name function) b k j c = one (FunctionExpression loc name) (refiled_function l function loc name k j c)
    refiled_expr l (ArrowFunction loc number params body) b k j c =
        let place = function_place loc None (concise_place body) in
        let k' = after_marks (Within 0 l) construct_kind.Function place k in
        let j' = after_marks (Within file l) construct_kind.Function place j in
        let ps = refiled_params l params (after_code k') (after_code j') (after_like l construct_kind.Function place k j c) in
        let x = refiled_concise_body l body (link_params (Within 0 l) params (after_code k')).next (link_params (Within file l) params (after_code j')).next ps.counts in
        record {
          tree = pair (ArrowFunction loc 0) ps.tree (concise_entered (marks (Within 0 l) construct_kind.Function place k) (marks (Within file l) construct_kind.Function place j) (marks_like l construct_kind.Function place k j c)
              (link_concise_body (Within 0 l) body (link_params (Within 0 l) params (after_code k')).next).tree (link_concise_body (Within file l) body (link_params (Within file l) params (after_code j')).next).tree x.tree);
          counts = x.counts;
        }
    refiled_expr l (RegularExpressionLiteral loc text flags) b k j c = record { tree = refl; counts = c }
    refiled_expr l (TemplateLiteral loc spelled parts) b k j c = one (TemplateLiteral loc spelled) (refiled_template_parts l parts k j c)
    refiled_expr l (Parenthesized loc e) Alone k j c = one (Parenthesized loc) (refiled_expr l e Alone k j c)
    refiled_expr l (Parenthesized loc e) (Operand b path) k j c = one (Parenthesized loc) (operand_like l b path (remarked b) refl (link_expr (Within 0 l) (Operand b path) e k) (link_expr (Within file l) (Operand (remarked b) path) e j) (refiled_expr l e (Operand b path) k j c))
    refiled_expr l (NamedMember loc e text) b k j c = one (λ x. NamedMember loc x text) (refiled_expr (heed l (expr_place e)) e Alone k j c)
    refiled_expr l (ComputedMember loc e f) b k j c = both (ComputedMember loc) (refiled_expr (heed l (expr_place e)) e Alone k j c) (refiled_expr (heed l (expr_place f)) f Alone)
    refiled_expr l (New loc e es) b k j c = both (New loc) (refiled_expr (heed l (expr_place e)) e Alone k j c) (refiled_exprs l es)
    refiled_expr l (Call loc e es) b k j c = both (Call loc) (refiled_expr (heed l (expr_place e)) e Alone k j c) (refiled_exprs l es)
    refiled_expr l (PostfixUpdate loc operator e) b k j c = one (PostfixUpdate loc operator) (refiled_expr (heed l (expr_place e)) e Alone k j c)
    refiled_expr l (PrefixUpdate loc operator e) b k j c = one (PrefixUpdate loc operator) (refiled_expr (heed l (expr_place e)) e Alone k j c)
    refiled_expr l (Unary loc operator e) b k j c = one (Unary loc operator) (refiled_expr (heed l (expr_place e)) e Alone k j c)
    refiled_expr l (Binary loc operator e f) b k j c = both (Binary loc operator) (refiled_expr (heed l (expr_place e)) e Alone k j c) (refiled_expr (heed l (expr_place f)) f Alone)
    refiled_expr l (Logical loc operator e f) (Operand b path) k j c = both (Logical loc operator)
        (operand_like (heed l (expr_place e)) b path (remarked b) refl (link_expr (at_expr (Within 0 l) e) (Operand b path) e k) (link_expr (at_expr (Within file l) e) (Operand (remarked b) path) e j) (refiled_expr (heed l (expr_place e)) e (Operand b path) k j c))
        (λ k j c. operand_like (heed l (expr_place f)) b (past_leaves (at_expr (Within 0 l) e) e path) (remarked b) refl (link_expr (at_expr (Within 0 l) f) (Operand b (past_leaves (at_expr (Within 0 l) e) e path)) f k)
        (link_expr (at_expr (Within file l) f) (Operand (remarked b) (past_leaves (at_expr (Within file l) e) e path)) f j) (refiled_expr (heed l (expr_place f)) f (Operand b (past_leaves (at_expr (Within 0 l) e) e path)) k j c))
    refiled_expr l (Logical loc operator e f) Alone k j c = logical_like l loc operator e f (marks (Within 0 l) construct_kind.Branch loc k) (marks (Within file l) construct_kind.Branch loc j) (marks_like l construct_kind.Branch loc k j c)
        (after_marks (Within 0 l) construct_kind.Branch loc k) (after_marks (Within file l) construct_kind.Branch loc j)
        (both (Logical loc operator)
        (operand_like (heed l (expr_place e)) (marks (Within 0 l) construct_kind.Branch loc k) 0 (remarked (marks (Within 0 l) construct_kind.Branch loc k)) refl
        (link_expr (at_expr (Within 0 l) e) (Operand (marks (Within 0 l) construct_kind.Branch loc k) 0) e (after_marks (Within 0 l) construct_kind.Branch loc k)) (link_expr (at_expr (Within file l) e) (Operand (remarked (marks (Within 0 l) construct_kind.Branch loc k)) 0) e (after_marks (Within file l) construct_kind.Branch loc j)) (refiled_expr (heed l (expr_place e)) e (Operand (marks (Within 0 l) construct_kind.Branch loc k) 0)
        (after_marks (Within 0 l) construct_kind.Branch loc k) (after_marks (Within file l) construct_kind.Branch loc j) (after_like l construct_kind.Branch loc k j c)))
        (λ i h d. operand_like (heed l (expr_place f)) (marks (Within 0 l) construct_kind.Branch loc k) (past_leaves (at_expr (Within 0 l) e) e 0) (remarked (marks (Within 0 l) construct_kind.Branch loc k)) refl
        (link_expr (at_expr (Within 0 l) f) (Operand (marks (Within 0 l) construct_kind.Branch loc k) (past_leaves (at_expr (Within 0 l) e) e 0)) f i) (link_expr (at_expr (Within file l) f) (Operand (remarked (marks (Within 0 l) construct_kind.Branch loc k)) (past_leaves (at_expr (Within file l) e) e 0)) f h)
        (refiled_expr (heed l (expr_place f)) f (Operand (marks (Within 0 l) construct_kind.Branch loc k) (past_leaves (at_expr (Within 0 l) e) e 0)) i h d)))
    refiled_expr l (Conditional loc e f h) b k j c =
        let k' = after_marks (Within 0 l) construct_kind.Branch loc k in
        let j' = after_marks (Within file l) construct_kind.Branch loc j in
        let x = refiled_expr (heed l (expr_place e)) e Alone k' j' (after_like l construct_kind.Branch loc k j c) in
        let i = link_expr (at_expr (Within 0 l) e) Alone e k' in
        let i' = link_expr (at_expr (Within file l) e) Alone e j' in
        let y = refiled_expr (heed l (expr_place f)) f Alone i.next i'.next x.counts in
        let n = link_expr (at_expr (Within 0 l) f) Alone f i.next in
        let n' = link_expr (at_expr (Within file l) f) Alone f i'.next in
        let z = refiled_expr (heed l (expr_place h)) h Alone n.next n'.next y.counts in
        let m = marks_like l construct_kind.Branch loc k j c in
        record {
          tree = triple (Conditional loc) x.tree
              (path_entered (heed l (expr_place f)) (marks (Within 0 l) construct_kind.Branch loc k) (marks (Within file l) construct_kind.Branch loc j) m 0 0 refl n.tree n'.tree y.tree)
              (path_entered (heed l (expr_place h)) (marks (Within 0 l) construct_kind.Branch loc k) (marks (Within file l) construct_kind.Branch loc j) m (past_path (at_expr (Within 0 l) f) 0) (past_path (at_expr (Within file l) f) 0) (past_like (heed l (expr_place f)) 0)
              (link_expr (at_expr (Within 0 l) h) Alone h n.next).tree (link_expr (at_expr (Within file l) h) Alone h n'.next).tree z.tree);
          counts = z.counts;
        }
    refiled_expr l (Assignment loc operator e f) b k j c = both (Assignment loc operator) (refiled_expr (heed l (expr_place e)) e Alone k j c) (refiled_expr (heed l (expr_place f)) f Alone)
    refiled_expr l (Comma loc e f) b k j c = both (Comma loc) (refiled_expr (heed l (expr_place e)) e Alone k j c) (refiled_expr (heed l (expr_place f)) f Alone)
    refiled_expr l (Entered mark e) b k j c = refiled_expr l e b k j c

    refiled_stmt : (l : Heed) (t : Stmt) (k j : Numbers) → k.counts ≡ j.counts → Like (made (U.renamed_stmt G) (link_stmt (Within 0 l) t k)) (made (U.renamed_stmt I) (link_stmt (Within file l) t j))
    refiled_stmt l (Directive loc spelled) k j c = record { tree = refl; counts = c }
    refiled_stmt l (Block loc xs) k j c = one (Block loc) (refiled_stmts l xs k j c)
    refiled_stmt l (VariableDeclaration loc kind declarators) k j c = one (VariableDeclaration loc kind) (refiled_declarators l declarators k j c)
    refiled_stmt l (Empty loc) k j c = record { tree = refl; counts = c }
    refiled_stmt l (Expression loc e) k j c = counted_like l loc (λ k. made (Expression loc) (link_expr (at_expr (Within 0 l) e) Alone e k)) (λ k. made (Expression loc) (link_expr (at_expr (Within file l) e) Alone e k)) k j c (λ k j c. one (Expression loc) (refiled_expr (heed l (expr_place e)) e Alone k j c))
    refiled_stmt l (If loc e x y) k j c = counted_like l loc (λ k. branched (Within 0 l) loc (λ b k. three (λ e' x' y'. If loc e' (enter_stmt (by_path (at_stmt (at_arm hint.If (Within 0 l) loc) x) b) 0 x') (enter_arm (by_path (at_stmt_if (at_arm hint.Else (Within 0 l) loc) y) b) (past_path (at_stmt (at_arm hint.If (Within 0 l) loc) x) 0) y'))
        (link_expr (at_expr (Within 0 l) e) Alone e k) (link_stmt (at_stmt (at_arm hint.If (Within 0 l) loc) x) x) (link_stmt_if (at_stmt_if (at_arm hint.Else (Within 0 l) loc) y) y)) k)
        (λ k. branched (Within file l) loc (λ b k. three (λ e' x' y'. If loc e' (enter_stmt (by_path (at_stmt (at_arm hint.If (Within file l) loc) x) b) 0 x') (enter_arm (by_path (at_stmt_if (at_arm hint.Else (Within file l) loc) y) b) (past_path (at_stmt (at_arm hint.If (Within file l) loc) x) 0) y'))
        (link_expr (at_expr (Within file l) e) Alone e k) (link_stmt (at_stmt (at_arm hint.If (Within file l) loc) x) x) (link_stmt_if (at_stmt_if (at_arm hint.Else (Within file l) loc) y) y)) k) k j c (λ k j c.
        let k' = after_marks (Within 0 l) construct_kind.Branch loc k in
        let j' = after_marks (Within file l) construct_kind.Branch loc j in
        let a = heed (heed_arm hint.If l loc) (stmt_place x) in
        let b = heed (heed_arm hint.Else l loc) (stmt_if_place y) in
        let r = refiled_expr (heed l (expr_place e)) e Alone k' j' (after_like l construct_kind.Branch loc k j c) in
        let i = link_expr (at_expr (Within 0 l) e) Alone e k' in
        let i' = link_expr (at_expr (Within file l) e) Alone e j' in
        let s = refiled_stmt a x i.next i'.next r.counts in
        let n = link_stmt (Within 0 a) x i.next in
        let n' = link_stmt (Within file a) x i'.next in
        let t = refiled_stmt_if b y n.next n'.next s.counts in
        let m = marks_like l construct_kind.Branch loc k j c in
        record {
          tree = triple (If loc) r.tree
              (path_entered_stmt a (marks (Within 0 l) construct_kind.Branch loc k) (marks (Within file l) construct_kind.Branch loc j) m n.tree n'.tree s.tree)
              (path_entered_arm b (marks (Within 0 l) construct_kind.Branch loc k) (marks (Within file l) construct_kind.Branch loc j) m (past_path (Within 0 a) 0) (past_path (Within file a) 0) (past_like a 0)
              (link_stmt_if (Within 0 b) y n.next).tree (link_stmt_if (Within file b) y n'.next).tree t.tree);
          counts = t.counts;
        })
    refiled_stmt l (DoWhile loc x e) k j c = counted_like l loc (λ k. two (DoWhile loc) (link_stmt (at_stmt (Within 0 l) x) x k) (link_expr (at_expr (Within 0 l) e) Alone e)) (λ k. two (DoWhile loc) (link_stmt (at_stmt (Within file l) x) x k) (link_expr (at_expr (Within file l) e) Alone e)) k j c (λ k j c. both (DoWhile loc) (refiled_stmt (heed l (stmt_place x)) x k j c) (refiled_expr (heed l (expr_place e)) e Alone))
    refiled_stmt l (While loc e x) k j c = counted_like l loc (λ k. two (While loc) (link_expr (at_expr (Within 0 l) e) Alone e k) (link_stmt (at_stmt (Within 0 l) x) x)) (λ k. two (While loc) (link_expr (at_expr (Within file l) e) Alone e k) (link_stmt (at_stmt (Within file l) x) x)) k j c (λ k j c. both (While loc) (refiled_expr (heed l (expr_place e)) e Alone k j c) (refiled_stmt (heed l (stmt_place x)) x))
    refiled_stmt l (For loc init e f x) k j c = counted_like l loc (λ k. four (For loc) (link_for_init (Within 0 l) init k) (link_expr_if (Within 0 l) e) (link_expr_if (Within 0 l) f) (link_stmt (at_stmt (Within 0 l) x) x)) (λ k. four (For loc) (link_for_init (Within file l) init k) (link_expr_if (Within file l) e) (link_expr_if (Within file l) f) (link_stmt (at_stmt (Within file l) x) x)) k j c (λ k j c. all_four (For loc) (refiled_for_init l init k j c) (refiled_expr_if l e) (refiled_expr_if l f) (refiled_stmt (heed l (stmt_place x)) x))
    refiled_stmt l (ForIn loc target e x) k j c = counted_like l loc (λ k. three (ForIn loc) (link_for_target (Within 0 l) target k) (link_expr (at_expr (Within 0 l) e) Alone e) (link_stmt (at_stmt (Within 0 l) x) x)) (λ k. three (ForIn loc) (link_for_target (Within file l) target k) (link_expr (at_expr (Within file l) e) Alone e) (link_stmt (at_stmt (Within file l) x) x)) k j c (λ k j c. all_three (ForIn loc) (refiled_for_target l target k j c) (refiled_expr (heed l (expr_place e)) e Alone) (refiled_stmt (heed l (stmt_place x)) x))
    refiled_stmt l (ForOf loc target e x) k j c = counted_like l loc (λ k. three (ForOf loc) (link_for_target (Within 0 l) target k) (link_expr (at_expr (Within 0 l) e) Alone e) (link_stmt (at_stmt (Within 0 l) x) x)) (λ k. three (ForOf loc) (link_for_target (Within file l) target k) (link_expr (at_expr (Within file l) e) Alone e) (link_stmt (at_stmt (Within file l) x) x)) k j c (λ k j c. all_three (ForOf loc) (refiled_for_target l target k j c) (refiled_expr (heed l (expr_place e)) e Alone) (refiled_stmt (heed l (stmt_place x)) x))
    refiled_stmt l (Continue loc name) k j c = counted_like l loc (λ k. kept (Continue loc name) k) (λ k. kept (Continue loc name) k) k j c (λ k j c. record { tree = refl; counts = c })
    refiled_stmt l (Break loc name) k j c = counted_like l loc (λ k. kept (Break loc name) k) (λ k. kept (Break loc name) k) k j c (λ k j c. record { tree = refl; counts = c })
    refiled_stmt l (Return loc e) k j c = counted_like l loc (λ k. made (Return loc) (link_expr_if (Within 0 l) e k)) (λ k. made (Return loc) (link_expr_if (Within file l) e k)) k j c (λ k j c. one (Return loc) (refiled_expr_if l e k j c))
    refiled_stmt l (Switch loc e cases) k j c = counted_like l loc (λ k. branched (Within 0 l) loc (λ b k. two (Switch loc) (link_expr (at_expr (Within 0 l) e) Alone e k) (link_cases (Within 0 l) b 0 cases)) k) (λ k. branched (Within file l) loc (λ b k. two (Switch loc) (link_expr (at_expr (Within file l) e) Alone e k) (link_cases (Within file l) b 0 cases)) k) k j c (λ k j c.
        both (Switch loc) (refiled_expr (heed l (expr_place e)) e Alone (after_marks (Within 0 l) construct_kind.Branch loc k) (after_marks (Within file l) construct_kind.Branch loc j) (after_like l construct_kind.Branch loc k j c))
        (refiled_cases l cases (marks (Within 0 l) construct_kind.Branch loc k) (marks (Within file l) construct_kind.Branch loc j) 0 (marks_like l construct_kind.Branch loc k j c)))
    refiled_stmt l (Labelled loc name x) k j c = counted_like l loc (λ k. made (labelled loc name) (link_stmt (at_stmt (Within 0 l) x) x k)) (λ k. made (labelled loc name) (link_stmt (at_stmt (Within file l) x) x k)) k j c (λ k j c. let r = refiled_stmt (heed l (stmt_place x)) x k j c in
        record { tree = labelled_in G loc name (link_stmt (at_stmt (Within 0 l) x) x k).tree ∙ ap (labelled loc name) r.tree ∙ sym (labelled_in I loc name (link_stmt (at_stmt (Within file l) x) x j).tree); counts = r.counts })
    refiled_stmt l (Throw loc e) k j c = counted_like l loc (λ k. made (Throw loc) (link_expr (at_expr (Within 0 l) e) Alone e k)) (λ k. made (Throw loc) (link_expr (at_expr (Within file l) e) Alone e k)) k j c (λ k j c. one (Throw loc) (refiled_expr (heed l (expr_place e)) e Alone k j c))
    refiled_stmt l (TryCatch loc xs catch) k j c = counted_like l loc (λ k. two (TryCatch loc) (link_stmts (Within 0 l) xs k) (link_catch (Within 0 l) catch)) (λ k. two (TryCatch loc) (link_stmts (Within file l) xs k) (link_catch (Within file l) catch)) k j c (λ k j c. both (TryCatch loc) (refiled_stmts l xs k j c) (refiled_catch l catch))
    refiled_stmt l (TryFinally loc xs ys) k j c = counted_like l loc (λ k. two (TryFinally loc) (link_stmts (Within 0 l) xs k) (link_stmts (Within 0 l) ys)) (λ k. two (TryFinally loc) (link_stmts (Within file l) xs k) (link_stmts (Within file l) ys)) k j c (λ k j c. both (TryFinally loc) (refiled_stmts l xs k j c) (refiled_stmts l ys))
    refiled_stmt l (TryCatchFinally loc xs catch ys) k j c = counted_like l loc (λ k. three (TryCatchFinally loc) (link_stmts (Within 0 l) xs k) (link_catch (Within 0 l) catch) (link_stmts (Within 0 l) ys)) (λ k. three (TryCatchFinally loc) (link_stmts (Within file l) xs k) (link_catch (Within file l) catch) (link_stmts (Within file l) ys)) k j c (λ k j c. all_three (TryCatchFinally loc) (refiled_stmts l xs k j c) (refiled_catch l catch) (refiled_stmts l ys))
    refiled_stmt l (Debugger loc) k j c = counted_like l loc (λ k. kept (Debugger loc) k) (λ k. kept (Debugger loc) k) k j c (λ k j c. record { tree = refl; counts = c })
    refiled_stmt l (FunctionDeclaration loc name function) k j c = one (FunctionDeclaration loc name) (refiled_function l function loc (Some name) k j c)
    refiled_stmt l (EnteredStmt mark x) k j c = refiled_stmt l x k j c

    refiled_property : (l : Heed) (t : Property) (k j : Numbers) → k.counts ≡ j.counts → Like (made (U.renamed_property G) (link_property (Within 0 l) t k)) (made (U.renamed_property I) (link_property (Within file l) t j))
    refiled_property l (Shorthand loc text) k j c = record { tree = refl; counts = c }
    refiled_property l (KeyValue loc key e) k j c = both (KeyValue loc) (refiled_property_key l key k j c) (refiled_expr (heed l (expr_place e)) e Alone)
    refiled_property l (Method loc key (MakeFunction number params body)) k j c =
        let place = function_place loc None (braced_place body) in
        let k' = after_marks (Within 0 l) construct_kind.Function place k in
        let j' = after_marks (Within file l) construct_kind.Function place j in
        let q = refiled_property_key l key (after_code k') (after_code j') (after_like l construct_kind.Function place k j c) in
        let i = link_property_key (Within 0 l) key (after_code k') in
        let i' = link_property_key (Within file l) key (after_code j') in
        let ps = refiled_params l params i.next i'.next q.counts in
        let n = link_params (Within 0 l) params i.next in
        let n' = link_params (Within file l) params i'.next in
        let x = refiled_function_body l body n.next n'.next ps.counts in
        record {
          tree = pair (Method loc) q.tree (pair (MakeFunction 0) ps.tree (body_entered (marks (Within 0 l) construct_kind.Function place k) (marks (Within file l) construct_kind.Function place j) (marks_like l construct_kind.Function place k j c)
              (link_function_body (Within 0 l) body n.next).tree (link_function_body (Within file l) body n'.next).tree x.tree));
          counts = x.counts;
        }

    refiled_property_key : (l : Heed) (t : PropertyKey) (k j : Numbers) → k.counts ≡ j.counts → Like (made (U.renamed_property_key G) (link_property_key (Within 0 l) t k)) (made (U.renamed_property_key I) (link_property_key (Within file l) t j))
    refiled_property_key l (NameKey text) k j c = record { tree = refl; counts = c }
    refiled_property_key l (StringKey spelled) k j c = record { tree = refl; counts = c }
    refiled_property_key l (NumberKey text) k j c = record { tree = refl; counts = c }
    refiled_property_key l (ComputedKey e) k j c = one ComputedKey (refiled_expr (heed l (expr_place e)) e Alone k j c)

    refiled_concise_body : (l : Heed) (t : ConciseBody) (k j : Numbers) → k.counts ≡ j.counts → Like (made (U.renamed_concise_body G) (link_concise_body (Within 0 l) t k)) (made (U.renamed_concise_body I) (link_concise_body (Within file l) t j))
    refiled_concise_body l (ExpressionBody e) k j c = one ExpressionBody (counted_expr_like (heed l (expr_place e)) (bare_place e) (link_expr (at_expr (Within 0 l) e) Alone e) (link_expr (at_expr (Within file l) e) Alone e) k j c (refiled_expr (heed l (expr_place e)) e Alone))
    refiled_concise_body l (BlockBody body) k j c = one BlockBody (refiled_function_body l body k j c)

    refiled_for_init : (l : Heed) (t : ForInit) (k j : Numbers) → k.counts ≡ j.counts → Like (made (U.renamed_for_init G) (link_for_init (Within 0 l) t k)) (made (U.renamed_for_init I) (link_for_init (Within file l) t j))
    refiled_for_init l NoInit k j c = record { tree = refl; counts = c }
    refiled_for_init l (InitDeclaration kind declarators) k j c = one (InitDeclaration kind) (refiled_declarators l declarators k j c)
    refiled_for_init l (InitExpression e) k j c = one InitExpression (refiled_expr (heed l (expr_place e)) e Alone k j c)

    refiled_for_target : (l : Heed) (t : ForTarget) (k j : Numbers) → k.counts ≡ j.counts → Like (made (U.renamed_for_target G) (link_for_target (Within 0 l) t k)) (made (U.renamed_for_target I) (link_for_target (Within file l) t j))
    refiled_for_target l (TargetDeclaration kind pattern) k j c = record { tree = refl; counts = c }
    refiled_for_target l (TargetExpression e) k j c = one TargetExpression (refiled_expr (heed l (expr_place e)) e Alone k j c)

    refiled_template_part : (l : Heed) (t : TemplatePart) (k j : Numbers) → k.counts ≡ j.counts → Like (made (U.renamed_template_part G) (link_template_part (Within 0 l) t k)) (made (U.renamed_template_part I) (link_template_part (Within file l) t j))
    refiled_template_part l (MakeTemplatePart e spelled) k j c = one (λ x. MakeTemplatePart x spelled) (refiled_expr (heed l (expr_place e)) e Alone k j c)

    refiled_function : (l : Heed) (t : Function) (loc : Option Loc) (name : Option Identifier) (k j : Numbers) → k.counts ≡ j.counts → Like (made (U.renamed_function G) (link_function (Within 0 l) loc name t k)) (made (U.renamed_function I) (link_function (Within file l) loc name t j))
    refiled_function l (MakeFunction number params body) loc name k j c =
        let place = function_place loc name (braced_place body) in
        let k' = after_marks (Within 0 l) construct_kind.Function place k in
        let j' = after_marks (Within file l) construct_kind.Function place j in
        let ps = refiled_params l params (after_code k') (after_code j') (after_like l construct_kind.Function place k j c) in
        let n = link_params (Within 0 l) params (after_code k') in
        let n' = link_params (Within file l) params (after_code j') in
        let x = refiled_function_body l body n.next n'.next ps.counts in
        record {
          tree = pair (MakeFunction 0) ps.tree (body_entered (marks (Within 0 l) construct_kind.Function place k) (marks (Within file l) construct_kind.Function place j) (marks_like l construct_kind.Function place k j c)
              (link_function_body (Within 0 l) body n.next).tree (link_function_body (Within file l) body n'.next).tree x.tree);
          counts = x.counts;
        }

    refiled_function_body : (l : Heed) (t : FunctionBody) (k j : Numbers) → k.counts ≡ j.counts → Like (made (U.renamed_function_body G) (link_function_body (Within 0 l) t k)) (made (U.renamed_function_body I) (link_function_body (Within file l) t j))
    refiled_function_body l (MakeFunctionBody loc xs) k j c = one (MakeFunctionBody loc) (refiled_stmts l xs k j c)
    refiled_function_body l (EnteredBody mark body) k j c = refiled_function_body l body k j c

    refiled_param : (l : Heed) (t : Param) (k j : Numbers) → k.counts ≡ j.counts → Like (made (U.renamed_param G) (link_param (Within 0 l) t k)) (made (U.renamed_param I) (link_param (Within file l) t j))
    refiled_param l (MakeParam loc pattern none_expr) k j c = record { tree = refl; counts = c }
    refiled_param l (MakeParam loc pattern (some_expr e)) k j c =
        let k' = after_marks (Within 0 l) construct_kind.Branch loc k in
        let j' = after_marks (Within file l) construct_kind.Branch loc j in
        let x = refiled_expr (heed l (expr_place e)) e Alone k' j' (after_like l construct_kind.Branch loc k j c) in
        record {
          tree = ap (λ y. MakeParam loc pattern (some_expr y)) (path_entered (heed l (expr_place e)) (marks (Within 0 l) construct_kind.Branch loc k) (marks (Within file l) construct_kind.Branch loc j) (marks_like l construct_kind.Branch loc k j c) 0 0 refl
              (link_expr (at_expr (Within 0 l) e) Alone e k').tree (link_expr (at_expr (Within file l) e) Alone e j').tree x.tree);
          counts = x.counts;
        }

    refiled_declarator : (l : Heed) (t : Declarator) (k j : Numbers) → k.counts ≡ j.counts → Like (made (U.renamed_declarator G) (link_declarator (Within 0 l) t k)) (made (U.renamed_declarator I) (link_declarator (Within file l) t j))
    refiled_declarator l (MakeDeclarator loc pattern none_expr) k j c = record { tree = refl; counts = c }
    refiled_declarator l (MakeDeclarator loc pattern (some_expr e)) k j c = one (λ y. MakeDeclarator loc pattern (some_expr y)) (counted_expr_like (heed l (expr_place e)) (bare_place e) (link_expr (at_expr (Within 0 l) e) Alone e) (link_expr (at_expr (Within file l) e) Alone e) k j c (refiled_expr (heed l (expr_place e)) e Alone))

    refiled_case : (l : Heed) (t : Case) (k j : Numbers) → k.counts ≡ j.counts → Like (made (U.renamed_case G) (link_case (Within 0 l) t k)) (made (U.renamed_case I) (link_case (Within file l) t j))
    refiled_case l (MakeCase loc e xs) k j c = both (MakeCase loc) (refiled_expr_if l e k j c) (refiled_stmts l xs)
    refiled_case l (EnteredCase mark x) k j c = refiled_case l x k j c

    refiled_catch : (l : Heed) (t : Catch) (k j : Numbers) → k.counts ≡ j.counts → Like (made (U.renamed_catch G) (link_catch (Within 0 l) t k)) (made (U.renamed_catch I) (link_catch (Within file l) t j))
    refiled_catch l (MakeCatch pattern xs) k j c = one (MakeCatch pattern) (refiled_stmts l xs k j c)

    refiled_expr_if : (l : Heed) (t : MaybeExpr) (k j : Numbers) → k.counts ≡ j.counts → Like (made (U.renamed_expr_if G) (link_expr_if (Within 0 l) t k)) (made (U.renamed_expr_if I) (link_expr_if (Within file l) t j))
    refiled_expr_if l none_expr k j c = record { tree = refl; counts = c }
    refiled_expr_if l (some_expr e) k j c = one some_expr (refiled_expr (heed l (expr_place e)) e Alone k j c)

    refiled_stmt_if : (l : Heed) (t : MaybeStmt) (k j : Numbers) → k.counts ≡ j.counts → Like (made (U.renamed_stmt_if G) (link_stmt_if (Within 0 l) t k)) (made (U.renamed_stmt_if I) (link_stmt_if (Within file l) t j))
    refiled_stmt_if l none_stmt k j c = record { tree = refl; counts = c }
    refiled_stmt_if l (some_stmt x) k j c = one some_stmt (refiled_stmt l x k j c)
    refiled_stmt_if l (entered_none mark) k j c = record { tree = refl; counts = c }

    refiled_exprs : (l : Heed) (t : Exprs) (k j : Numbers) → k.counts ≡ j.counts → Like (made (U.renamed_exprs G) (link_exprs (Within 0 l) t k)) (made (U.renamed_exprs I) (link_exprs (Within file l) t j))
    refiled_exprs l no_expr k j c = record { tree = refl; counts = c }
    refiled_exprs l (more_expr x xs) k j c = both more_expr (refiled_expr (heed l (expr_place x)) x Alone k j c) (refiled_exprs l xs)

    refiled_template_parts : (l : Heed) (t : TemplateParts) (k j : Numbers) → k.counts ≡ j.counts → Like (made (U.renamed_template_parts G) (link_template_parts (Within 0 l) t k)) (made (U.renamed_template_parts I) (link_template_parts (Within file l) t j))
    refiled_template_parts l no_template_part k j c = record { tree = refl; counts = c }
    refiled_template_parts l (more_template_part x xs) k j c = both more_template_part (refiled_template_part l x k j c) (refiled_template_parts l xs)

    refiled_properties : (l : Heed) (t : Properties) (k j : Numbers) → k.counts ≡ j.counts → Like (made (U.renamed_properties G) (link_properties (Within 0 l) t k)) (made (U.renamed_properties I) (link_properties (Within file l) t j))
    refiled_properties l no_property k j c = record { tree = refl; counts = c }
    refiled_properties l (more_property x xs) k j c = both more_property (refiled_property (heed l (property_place x)) x k j c) (refiled_properties l xs)

    refiled_params : (l : Heed) (t : Params) (k j : Numbers) → k.counts ≡ j.counts → Like (made (U.renamed_params G) (link_params (Within 0 l) t k)) (made (U.renamed_params I) (link_params (Within file l) t j))
    refiled_params l no_param k j c = record { tree = refl; counts = c }
    refiled_params l (more_param x xs) k j c = both more_param (refiled_param (heed l (param_place x)) x k j c) (refiled_params l xs)

    pub refiled_stmts : (l : Heed) (t : Stmts) (k j : Numbers) → k.counts ≡ j.counts → Like (made (U.renamed_stmts G) (link_stmts (Within 0 l) t k)) (made (U.renamed_stmts I) (link_stmts (Within file l) t j))
    refiled_stmts l no_stmt k j c = record { tree = refl; counts = c }
    refiled_stmts l (more_stmt x xs) k j c = both more_stmt (refiled_stmt (heed l (stmt_place x)) x k j c) (refiled_stmts l xs)

    refiled_declarators : (l : Heed) (t : Declarators) (k j : Numbers) → k.counts ≡ j.counts → Like (made (U.renamed_declarators G) (link_declarators (Within 0 l) t k)) (made (U.renamed_declarators I) (link_declarators (Within file l) t j))
    refiled_declarators l no_declarator k j c = record { tree = refl; counts = c }
    refiled_declarators l (more_declarator x xs) k j c = both more_declarator (refiled_declarator (heed l (declarator_place x)) x k j c) (refiled_declarators l xs)

    refiled_cases : (l : Heed) (t : Cases) (b d : Marks) (i : ℕ) → d ≡ remarked b → (k j : Numbers) → k.counts ≡ j.counts → Like (made (U.renamed_cases G) (link_cases (Within 0 l) b i t k)) (made (U.renamed_cases I) (link_cases (Within file l) d i t j))
    refiled_cases l no_case b d i m k j c = record { tree = refl; counts = c }
    refiled_cases l (more_case x xs) b d i m k j c =
        let a = heed l (case_place x) in
        let y = refiled_case a x k j c in
        let n = link_case (Within 0 a) x k in
        let n' = link_case (Within file a) x j in
        let z = refiled_cases l xs b d (past_path (Within 0 a) i) m n.next n'.next y.counts in
        record {
          tree = pair more_case (path_entered_case a b d m i n.tree n'.tree y.tree) (z.tree ∙ ap (λ p. U.renamed_cases I (link_cases (Within file l) d p xs n'.next).tree) (past_like a i));
          counts = z.counts ∙ ap (λ p. (link_cases (Within file l) d p xs n'.next).next.counts) (past_like a i);
        }
