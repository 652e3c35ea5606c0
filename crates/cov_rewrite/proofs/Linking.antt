-- What the code makes of a tree is the linked tree, rewritten: the numbers that it keeps are those with which the tree is linked.
use Rattle.std.proofs.Common.{◌≡◌, ◌++◌, ◌∷◌, [], ◌||◌, ℕ, List, Bool, true, false, Option, Some, None, refl, ap, sym, subst, ◌∙◌, ◌+◌, append-nil, length, if◌then◌else◌}
use Rattle.js_terms.specs.declared.construct.ConstructKind.{ConstructKind}
use Rattle.js_terms.specs.declared.construct.ConstructKind.TheVariants as construct_kind
use Rattle.js_tree.specs.declared.hint.Hint.TheVariants as hint
use Rattle.js_terms.specs.declared.operators.LogicalOperator.{LogicalOperator}
use Rattle.js_terms.specs.declared.place.Loc.{Loc}
use Rattle.js_terms.specs.declared.words.Identifier.{Identifier}
use Rattle.js_tree.specs.Hints.{Heed, Ignored, Heeding, heed, heed_arm, heed_comments, heeded_place, leaf_paths}
use Rattle.js_terms.specs.Mark.{Mark}
use Rattle.js_tree.specs.Places.{bare_place, expr_place, stmt_place, stmt_if_place, property_place, param_place, declarator_place, case_place, concise_place, braced_place, body_place}
use Rattle.js_tree.specs.Plain.{Expr, IdentifierReference, This, NullLiteral, BooleanLiteral, NumericLiteral, StringLiteral, ArrayLiteral, ObjectLiteral, FunctionExpression, ArrowFunction, RegularExpressionLiteral, TemplateLiteral, Parenthesized, NamedMember, ComputedMember, New, Call, PostfixUpdate, PrefixUpdate, Unary, Binary, Logical, Conditional, Assignment, Comma, Entered}
use Rattle.js_tree.specs.Plain.{Stmt, Directive, Block, VariableDeclaration, Empty, Expression, If, DoWhile, While, For, ForIn, ForOf, Continue, Break, Return, Switch, Labelled, Throw, TryCatch, TryFinally, TryCatchFinally, Debugger, FunctionDeclaration, EnteredStmt}
use Rattle.js_tree.specs.Plain.{Property, Shorthand, KeyValue, Method}
use Rattle.js_tree.specs.Plain.{PropertyKey, NameKey, StringKey, NumberKey, ComputedKey}
use Rattle.js_tree.specs.Plain.{ConciseBody, ExpressionBody, BlockBody}
use Rattle.js_tree.specs.Plain.{ForInit, NoInit, InitDeclaration, InitExpression}
use Rattle.js_tree.specs.Plain.{ForTarget, TargetDeclaration, TargetExpression}
use Rattle.js_tree.specs.Plain.{TemplatePart, MakeTemplatePart}
use Rattle.js_tree.specs.Plain.{Function, MakeFunction}
use Rattle.js_tree.specs.Plain.{FunctionBody, MakeFunctionBody, EnteredBody}
use Rattle.js_tree.specs.Plain.{Param, MakeParam}
use Rattle.js_tree.specs.Plain.{Declarator, MakeDeclarator}
use Rattle.js_tree.specs.Plain.{Case, MakeCase, EnteredCase}
use Rattle.js_tree.specs.Plain.{Catch, MakeCatch}
use Rattle.js_tree.specs.Plain.{Pattern}
use Rattle.js_tree.specs.Plain.{MaybeExpr, none_expr, some_expr}
use Rattle.js_tree.specs.Plain.{MaybeStmt, none_stmt, some_stmt, entered_none}
use Rattle.js_tree.specs.Plain.{Exprs, no_expr, more_expr}
use Rattle.js_tree.specs.Plain.{TemplateParts, no_template_part, more_template_part}
use Rattle.js_tree.specs.Plain.{Properties, no_property, more_property}
use Rattle.js_tree.specs.Plain.{Params, no_param, more_param}
use Rattle.js_tree.specs.Plain.{Stmts, no_stmt, more_stmt}
use Rattle.js_tree.specs.Plain.{Declarators, no_declarator, more_declarator}
use Rattle.js_tree.specs.Plain.{Cases, no_case, more_case}
use Rattle.js_tree.specs.Plain.{File, MakeFile}
use Rattle.js_tree.specs.Linked as linked
use Rattle.js_tree.specs.Linked.{Marking, Within, Chain, Counts, Numbers, Marks, Uncounted, Counted, mark, next_of, after_one, marks, marks_at, after_marks, after_marks_at, after_code, by_path, past_path, function_place, enter_expr, enter_stmt, enter_arm, enter_case, enter_body, enter_concise_body, enter_leaf, link_expr, link_stmt, link_property, link_property_key, link_concise_body, link_for_init, link_for_target, link_template_part, link_function, link_function_body, link_param, link_declarator, link_case, link_catch, link_expr_if, link_stmt_if, link_exprs, link_template_parts, link_properties, link_params, link_stmts, link_declarators, link_cases}
use Rattle.cov_rewrite.specs.Laws.{at_first, MakesRewritten}
use Rattle.cov_rewritten.specs.Rewritten.{expr_marks, stmt_marks, arm_marks, is_any, is_anonymous, bound_name, hoisted_marks, first_marks, of_function, joined, after_directives, counts, looped, arm, counted, held, initial, concise, begun_body, begun_case, rewritten_expr, rewritten_stmt, rewritten_arm, rewritten_stmts, rewritten_property, rewritten_property_key, rewritten_concise_body, rewritten_for_init, rewritten_for_target, rewritten_template_part, rewritten_function, rewritten_function_body, rewritten_param, rewritten_declarator, rewritten_declarators, rewritten_case, rewritten_catch, rewritten_expr_if, rewritten_exprs, rewritten_template_parts, rewritten_properties, rewritten_params, rewritten_cases}
use Rattle.cov_rewrite.specs.Blocks.{block_unless, arm_of, else_of, missing_of, concise_of, are_some}
use Rattle.cov_rewrite.specs.Made as made
use Rattle.cov_rewrite.specs.Made.{Operand, Among, number_of, after_number, marks_of, branch_in, past, path_marks, own_marks, left_in, value_marks, marks_before, leaf}

-- a tree as it is linked and rewritten is the tree that the code makes, and so are the numbers after it
record Links {T : Type 0} (x y : T) (k : Numbers) (h : Counts) : Type 0 where
  tree : x ≡ y
  next : k.counts ≡ h

links_one : {A T : Type 0} (f : A → T) {a b : A} {k : Numbers} {h : Counts} → Links a b k h → Links (f a) (f b) k h
links_one f d = record { tree = ap f d.tree; next = d.next }

links_two : {A B T : Type 0} (f : A → B → T) {a a' : A} {b b' : B} {i k : Numbers} {j h : Counts} → Links a a' i j → Links b b' k h → Links (f a b) (f a' b') k h
links_two f {a' = a'} {b = b} d e = record { tree = ap (λ x. f x b) d.tree ∙ ap (f a') e.tree; next = e.next }

links_three : {A B C T : Type 0} (f : A → B → C → T) {a a' : A} {b b' : B} {c c' : C} {i k m : Numbers} {j h n : Counts} →
    Links a a' i j → Links b b' k h → Links c c' m n → Links (f a b c) (f a' b' c') m n
links_three f {a' = a'} {b = b} {c = c} d e g = record { tree = ap (λ x. f x b c) d.tree ∙ (links_two (f a') e g).tree; next = g.next }

links_four : {A B C D T : Type 0} (f : A → B → C → D → T) {a a' : A} {b b' : B} {c c' : C} {d d' : D} {i k m o : Numbers} {j h n p : Counts} →
    Links a a' i j → Links b b' k h → Links c c' m n → Links d d' o p → Links (f a b c d) (f a' b' c' d') o p
links_four f {a' = a'} {b = b} {c = c} {d = d} e g q r = record { tree = ap (λ x. f x b c d) e.tree ∙ (links_three (f a') g q r).tree; next = r.next }

links_by : {T : Type 0} {x y z : T} {k : Numbers} {h : Counts} → x ≡ y → Links y z k h → Links x z k h
links_by e d = record { tree = e ∙ d.tree; next = d.next }

links_to : {T : Type 0} {x y z : T} {k : Numbers} {h : Counts} → Links x y k h → y ≡ z → Links x z k h
links_to d e = record { tree = d.tree ∙ e; next = d.next }

-- another tree with the same numbers after it
links_at : {A T : Type 0} {a b : A} {x y : T} {k : Numbers} {h : Counts} → Links a b k h → x ≡ y → Links x y k h
links_at d e = record { tree = e; next = d.next }

-- ---- numbers

-- those after a construct that stands here, or doesn't
started : (kind : ConstructKind) (left : Heed) (loc : Option Loc) (k : Numbers) {h : Counts} → k.counts ≡ h → (after_marks (Within 0 left) kind loc k).counts ≡ made.after kind left loc h
started kind left loc k {h = h} e = by (heeded_place left loc)
  where
    by : (p : Option Loc) → (after_marks_at kind p k).counts ≡ after_number kind p h
    by None = e
    by (Some l) = ap (after_one kind) e

-- the marks of one with this number, if it has any
abbrev to_marks : ConstructKind → Option ℕ → Marks
to_marks kind None = Uncounted
to_marks kind (Some i) = Counted 0 kind i

numbered : (kind : ConstructKind) (left : Heed) (loc : Option Loc) (k : Numbers) {h : Counts} → k.counts ≡ h → marks (Within 0 left) kind loc k ≡ to_marks kind (made.number kind left loc h)
numbered kind left loc k {h = h} e = by (heeded_place left loc)
  where
    by : (p : Option Loc) → marks_at 0 kind p k ≡ to_marks kind (number_of kind p h)
    by None = refl
    by (Some l) = ap (λ c. Counted 0 kind (next_of kind c)) e

path_of : (left : Heed) (b : Option ℕ) → by_path (Within 0 left) (to_marks construct_kind.Branch b) ≡ to_marks construct_kind.Branch (branch_in left b)
path_of Ignored b = refl
path_of (Heeding hints) b = refl

past_same : (left : Heed) (path : ℕ) → past_path (Within 0 left) path ≡ past left path
past_same Ignored path = refl
past_same (Heeding hints) path = refl

abbrev chain_of : Operand → Chain
chain_of made.Alone = linked.Alone
chain_of (Among b path) = linked.Operand (to_marks construct_kind.Branch b) path

-- ---- what stands before a node

-- an expression is linked without a mark before it
bare_linked : (m : Marking) (chain : Chain) (e : Expr) (k : Numbers) → expr_marks (link_expr m chain e k).tree ≡ []
bare_linked m linked.Alone (Logical l o e f) k = refl
bare_linked m (linked.Operand b path) (Logical l o e f) k = refl
bare_linked m chain (Entered mark e) k = bare_linked m chain e k
bare_linked m chain e k = refl

entered_marks : (kind : ConstructKind) (b : Option ℕ) (path : ℕ) (e : Expr) → expr_marks (enter_expr (to_marks kind b) path e) ≡ marks_of kind path b ++ expr_marks e
entered_marks kind None path e = refl
entered_marks kind (Some i) path e = refl

entered_stmt_marks : (kind : ConstructKind) (b : Option ℕ) (path : ℕ) (x : Stmt) → stmt_marks (enter_stmt (to_marks kind b) path x) ≡ marks_of kind path b ++ stmt_marks x
entered_stmt_marks kind None path x = refl
entered_stmt_marks kind (Some i) path x = refl

entered_hoists : (home : Bool) (c : Marks) (path : ℕ) (x : Stmt) → hoisted_marks home (enter_stmt c path x) ≡ hoisted_marks home x
entered_hoists home Uncounted path x = refl
entered_hoists home (Counted file kind i) path x = refl

none_hoisted : (x : Stmt) → hoisted_marks false x ≡ []
none_hoisted (VariableDeclaration l kind xs) = refl
none_hoisted (EnteredStmt m x) = none_hoisted x
none_hoisted x = refl

labelled_marks : (l : Option Loc) (w : Identifier) (x : Stmt) → stmt_marks (linked.labelled l w x) ≡ stmt_marks x
labelled_marks l w (EnteredStmt m x) = ap (λ ms. m ∷ ms) (labelled_marks l w x)
labelled_marks l w x = refl

labelled_hoists : (home : Bool) (l : Option Loc) (w : Identifier) (x : Stmt) → hoisted_marks home (linked.labelled l w x) ≡ []
labelled_hoists home l w (EnteredStmt m x) = labelled_hoists home l w x
labelled_hoists home l w x = refl

-- ---- what the code makes of statements

marks_joined : (counter : Mark → Expr) (ms ns : List Mark) → counts counter (ms ++ ns) ≡ joined (counts counter ms) (counts counter ns)
marks_joined counter [] ns = refl
marks_joined counter (m ∷ ms) ns = ap (more_stmt (Expression None (counter m))) (marks_joined counter ms ns)

nothing_joined : (xs : Stmts) → after_directives no_stmt xs ≡ xs
nothing_joined no_stmt = refl
nothing_joined (more_stmt (Directive l s) xs) = ap (more_stmt (Directive l s)) (nothing_joined xs)
nothing_joined (more_stmt x xs) = refl

looped_same : (counter : Mark → Expr) (ms : List Mark) (x : Stmt) → looped counter ms x ≡ block_unless (counts counter ms) x
looped_same counter [] x = refl
looped_same counter (m ∷ ms) x = refl

arm_same : (counter : Mark → Expr) (b : Bool) (ms : List Mark) (x : Stmt) → arm counter b ms x ≡ arm_of b (counts counter ms) x
arm_same counter false ms x = refl
arm_same counter true ms x = refl

some_same : (counter : Mark → Expr) (ms : List Mark) → is_any ms ≡ are_some (counts counter ms)
some_same counter [] = refl
some_same counter (m ∷ ms) = refl

any_same : (counter : Mark → Expr) (ms ns : List Mark) → is_any (ms ++ ns) ≡ (are_some (counts counter ms) || are_some (counts counter ns))
any_same counter [] ns = some_same counter ns
any_same counter (m ∷ ms) ns = refl

concise_same : (counter : Mark → Expr) (ms : List Mark) (e : Expr) → concise counter ms e ≡ concise_of (counts counter ms) e
concise_same counter [] e = refl
concise_same counter (m ∷ ms) e = refl

-- ---- what linking does not change

anonymous_entered : (c : Marks) (path : ℕ) (e : Expr) → is_anonymous (enter_expr c path e) ≡ is_anonymous e
anonymous_entered Uncounted path e = refl
anonymous_entered (Counted file kind i) path e = refl

anonymous_leaf : (c : Marks) (path : ℕ) (e : Expr) → is_anonymous (enter_leaf c path e) ≡ is_anonymous e
anonymous_leaf c path (Logical l o e f) = refl
anonymous_leaf c path (Parenthesized l e) = refl
anonymous_leaf c path e = anonymous_entered c path e

anonymous_linked : (m : Marking) (chain : Chain) (e : Expr) (k : Numbers) → is_anonymous (link_expr m chain e k).tree ≡ is_anonymous e
anonymous_linked m chain (FunctionExpression l None f) k = refl
anonymous_linked m chain (FunctionExpression l (Some x) f) k = refl
anonymous_linked m linked.Alone (Parenthesized l e) k = anonymous_linked m linked.Alone e k
anonymous_linked m (linked.Operand b path) (Parenthesized l e) k = anonymous_leaf (by_path m b) path (link_expr m (linked.Operand b path) e k).tree ∙ anonymous_linked m (linked.Operand b path) e k
anonymous_linked m linked.Alone (Logical l o e f) k = refl
anonymous_linked m (linked.Operand b path) (Logical l o e f) k = refl
anonymous_linked m chain (Entered mark e) k = anonymous_linked m chain e k
anonymous_linked m chain e k = refl

value_marks_same : (kind : ConstructKind) (b : Option ℕ) {m : Marks} (path : ℕ) (e : Expr) → m ≡ to_marks kind b → expr_marks e ≡ [] → expr_marks (enter_expr m path e) ≡ marks_of kind path b
value_marks_same kind b path e p q =
    ap (λ m. expr_marks (enter_expr m path e)) p ∙ entered_marks kind b path e ∙ ap (λ ms. marks_of kind path b ++ ms) q ∙ append-nil (marks_of kind path b)

branch_taken : (b : Option ℕ) {m : Marks} (left : Heed) → m ≡ to_marks construct_kind.Branch b → by_path (Within 0 left) m ≡ to_marks construct_kind.Branch (branch_in left b)
branch_taken b left p = ap (by_path (Within 0 left)) p ∙ path_of left b

module _ (c : Mark → Expr) where
  abbrev rw_expr : Expr → Expr
  rw_expr e = rewritten_expr c (λ i. 0) e

  abbrev rw_stmt : Bool → Stmt → Stmt
  rw_stmt home x = rewritten_stmt c (λ i. 0) home x

  entered_rw : (m : Marks) (path : ℕ) (e : Expr) → rw_expr (enter_expr m path e) ≡ rw_expr e
  entered_rw Uncounted path e = refl
  entered_rw (Counted file kind i) path e = refl

  entered_stmt_rw : (home : Bool) (m : Marks) (path : ℕ) (x : Stmt) → rw_stmt home (enter_stmt m path x) ≡ rw_stmt home x
  entered_stmt_rw home Uncounted path x = refl
  entered_stmt_rw home (Counted file kind i) path x = refl

  labelled_made : (home : Bool) (l : Option Loc) (w : Identifier) (x : Stmt) → rw_stmt home (linked.labelled l w x) ≡ Labelled l w (rw_stmt false x)
  labelled_made home l w (EnteredStmt m x) = labelled_made home l w x
  labelled_made home l w x = refl

  -- a value that is entered by a path
  entered_value : (kind : ConstructKind) (b : Option ℕ) {m : Marks} (path : ℕ) (e : Expr) {f : Expr} → m ≡ to_marks kind b → expr_marks e ≡ [] → rw_expr e ≡ f →
      counted c (expr_marks (enter_expr m path e)) (rw_expr (enter_expr m path e)) ≡ counted c (marks_of kind path b) f
  entered_value kind b {m = m} path e {f = f} p q r =
      ap (counted c (expr_marks (enter_expr m path e))) (entered_rw m path e ∙ r) ∙ ap (λ ms. counted c ms f) (value_marks_same kind b path e p q)

  -- an operand of a chain
  leaf_entered : (left : Heed) (b : Option ℕ) (path : ℕ) (e : Expr) (k : Numbers) {f : Expr} →
      rw_expr (link_expr (Within 0 left) (chain_of (Among b path)) e k).tree ≡ f →
      counted c (expr_marks (enter_leaf (by_path (Within 0 left) (to_marks construct_kind.Branch b)) path (link_expr (Within 0 left) (chain_of (Among b path)) e k).tree))
      (rw_expr (enter_leaf (by_path (Within 0 left) (to_marks construct_kind.Branch b)) path (link_expr (Within 0 left) (chain_of (Among b path)) e k).tree))
      ≡ leaf c left (Among b path) e f
  leaf_entered left b path (Logical l o e g) k r = r
  leaf_entered left b path (Parenthesized l e) k r = r
  leaf_entered left b path (Entered m e) k r = leaf_entered left b path e k r
  leaf_entered left b path e k r = entered_value construct_kind.Branch (branch_in left b) path _ (path_of left b) refl r

  -- ---- a statement, and the marks before it

  record Opens (home : Bool) (t : Stmt) (ms : List Mark) (y : Stmt) (k : Numbers) (h : Counts) : Type 0 where
    before : stmt_marks t ++ hoisted_marks home t ≡ ms
    tree : rw_stmt home t ≡ y
    next : k.counts ≡ h

  -- one without marks before it
  opens_bare : {home : Bool} {t y : Stmt} {k : Numbers} {h : Counts} → stmt_marks t ≡ [] → hoisted_marks home t ≡ [] → Links (rw_stmt home t) y k h → Opens home t [] y k h
  opens_bare {home = home} {t = t} p q d = record { before = ap (λ ms. ms ++ hoisted_marks home t) p ∙ q; tree = d.tree; next = d.next }

  -- one that is counted
  opens_one : {home : Bool} (left : Heed) (loc : Option Loc) (k : Numbers) {h : Counts} (e : k.counts ≡ h) (t : Stmt) {y : Stmt} {i : Numbers} {j : Counts} →
      stmt_marks t ≡ [] → hoisted_marks home t ≡ [] → Links (rw_stmt home t) y i j →
      Opens home (enter_stmt (marks (Within 0 left) construct_kind.Statement loc k) 0 t) (own_marks construct_kind.Statement left loc h) y i j
  opens_one {home = home} left loc k {h = h} e t p q d =
      let m = marks (Within 0 left) construct_kind.Statement loc k in
      let b = made.number construct_kind.Statement left loc h in
      record {
        before = ap (λ ns. stmt_marks (enter_stmt m 0 t) ++ ns) (entered_hoists home m 0 t ∙ q) ∙ append-nil (stmt_marks (enter_stmt m 0 t))
            ∙ ap (λ m. stmt_marks (enter_stmt m 0 t)) (numbered construct_kind.Statement left loc k e) ∙ entered_stmt_marks construct_kind.Statement b 0 t
            ∙ ap (λ ms. marks_of construct_kind.Statement 0 b ++ ms) p ∙ append-nil (marks_of construct_kind.Statement 0 b);
        tree = entered_stmt_rw home m 0 t ∙ d.tree;
        next = d.next;
      }

  -- the marks of one that isn't where a declaration is at home
  own_before : {t y : Stmt} {ms : List Mark} {k : Numbers} {h : Counts} → Opens false t ms y k h → stmt_marks t ≡ ms
  own_before {t = t} d = sym (append-nil (stmt_marks t)) ∙ sym (ap (λ ns. stmt_marks t ++ ns) (none_hoisted t)) ∙ d.before

  -- a loop's body
  looped_opens : {t y : Stmt} {ms : List Mark} {k : Numbers} {h : Counts} → Opens false t ms y k h → Links (looped c (stmt_marks t) (rw_stmt false t)) (block_unless (counts c ms) y) k h
  looped_opens {t = t} {y = y} {ms = ms} d = record {
    tree = ap (λ ns. looped c ns (rw_stmt false t)) (own_before d) ∙ ap (looped c ms) d.tree ∙ looped_same c ms y;
    next = d.next;
  }

  -- one after a label
  opens_label : {home : Bool} (left : Heed) (loc : Option Loc) (k : Numbers) {h : Counts} (e : k.counts ≡ h) (l : Option Loc) (w : Identifier) (t : Stmt) {y : Stmt} {ms : List Mark} {i : Numbers} {j : Counts} →
      Opens false t ms y i j →
      Opens home (enter_stmt (marks (Within 0 left) construct_kind.Statement loc k) 0 (linked.labelled l w t)) (own_marks construct_kind.Statement left loc h ++ ms) (Labelled l w y) i j
  opens_label {home = home} left loc k {h = h} e l w t {ms = ms} d =
      let m = marks (Within 0 left) construct_kind.Statement loc k in
      let b = made.number construct_kind.Statement left loc h in
      let x = linked.labelled l w t in
      record {
        before = ap (λ ns. stmt_marks (enter_stmt m 0 x) ++ ns) (entered_hoists home m 0 x ∙ labelled_hoists home l w t) ∙ append-nil (stmt_marks (enter_stmt m 0 x))
            ∙ ap (λ m. stmt_marks (enter_stmt m 0 x)) (numbered construct_kind.Statement left loc k e) ∙ entered_stmt_marks construct_kind.Statement b 0 x
            ∙ ap (λ ms. marks_of construct_kind.Statement 0 b ++ ms) (labelled_marks l w t ∙ own_before d);
        tree = entered_stmt_rw home m 0 x ∙ labelled_made home l w t ∙ ap (Labelled l w) d.tree;
        next = d.next;
      }

  -- an arm with the mark of its path
  arm_marks_same : (b : Option ℕ) {m : Marks} (left : Heed) (path : ℕ) (t : Stmt) {y : Stmt} {ms : List Mark} {k : Numbers} {h : Counts} → m ≡ to_marks construct_kind.Branch b → Opens false t ms y k h →
      stmt_marks (enter_stmt (by_path (Within 0 left) m) path t) ≡ path_marks left b path ++ ms
  arm_marks_same b left path t p d =
      ap (λ m. stmt_marks (enter_stmt m path t)) (branch_taken b left p) ∙ entered_stmt_marks construct_kind.Branch (branch_in left b) path t ∙ ap (λ ns. path_marks left b path ++ ns) (own_before d)

  -- the arm after `else`
  record OpensArm (t : MaybeStmt) (ms : List Mark) (y : MaybeStmt) (k : Numbers) (h : Counts) : Type 0 where
    before : (b : Option ℕ) (m : Marks) (left : Heed) (path : ℕ) → m ≡ to_marks construct_kind.Branch b → arm_marks (enter_arm (by_path (Within 0 left) m) path t) ≡ path_marks left b path ++ ms
    tree : (b : Option ℕ) (m : Marks) (left : Heed) (path : ℕ) (one : Bool) → m ≡ to_marks construct_kind.Branch b →
        rewritten_arm c (λ i. 0) one (enter_arm (by_path (Within 0 left) m) path t) ≡ else_of one (counts c (path_marks left b path ++ ms)) y
    next : k.counts ≡ h

  missing_before : (b : Option ℕ) (left : Heed) (path : ℕ) → arm_marks (enter_arm (by_path (Within 0 left) (to_marks construct_kind.Branch b)) path none_stmt) ≡ path_marks left b path ++ []
  missing_before None Ignored path = refl
  missing_before None (Heeding hints) path = refl
  missing_before (Some i) Ignored path = refl
  missing_before (Some i) (Heeding hints) path = refl

  missing_tree : (b : Option ℕ) (left : Heed) (path : ℕ) (one : Bool) →
      rewritten_arm c (λ i. 0) one (enter_arm (by_path (Within 0 left) (to_marks construct_kind.Branch b)) path none_stmt) ≡ missing_of (counts c (path_marks left b path ++ []))
  missing_tree None Ignored path one = refl
  missing_tree None (Heeding hints) path one = refl
  missing_tree (Some i) Ignored path one = refl
  missing_tree (Some i) (Heeding hints) path one = refl

  opens_missing : {k : Numbers} {h : Counts} → k.counts ≡ h → OpensArm none_stmt [] none_stmt k h
  opens_missing e = record {
    before = λ b m left path p. ap (λ m. arm_marks (enter_arm (by_path (Within 0 left) m) path none_stmt)) p ∙ missing_before b left path;
    tree = λ b m left path one p. ap (λ m. rewritten_arm c (λ i. 0) one (enter_arm (by_path (Within 0 left) m) path none_stmt)) p ∙ missing_tree b left path one;
    next = e;
  }

  entered_some : (m : Marks) (path : ℕ) (t : Stmt) → enter_arm m path (some_stmt t) ≡ some_stmt (enter_stmt m path t)
  entered_some Uncounted path t = refl
  entered_some (Counted file kind i) path t = refl

  opens_some : {t y : Stmt} {ms : List Mark} {k : Numbers} {h : Counts} → Opens false t ms y k h → OpensArm (some_stmt t) ms (some_stmt y) k h
  opens_some {t = t} {y = y} {ms = ms} d = record {
    before = λ b m left path p. ap arm_marks (entered_some (by_path (Within 0 left) m) path t) ∙ arm_marks_same b left path t p d;
    tree = λ b m left path one p.
        let n = by_path (Within 0 left) m in
        ap (rewritten_arm c (λ i. 0) one) (entered_some n path t)
        ∙ ap some_stmt (ap (λ ns. arm c one ns (rw_stmt false (enter_stmt n path t))) (arm_marks_same b left path t p d) ∙ ap (arm c one (path_marks left b path ++ ms)) (entered_stmt_rw false n path t ∙ d.tree)
        ∙ arm_same c one (path_marks left b path ++ ms) y);
    next = d.next;
  }

  -- an `if`
  opens_if : (holds fails : Heed) (b : Option ℕ) (m : Marks) (l : Option Loc) (e : Expr) (t : Stmt) (r : MaybeStmt) {f : Expr} {y : Stmt} {z : MaybeStmt} {ms ns : List Mark} {g i k : Numbers} {h j n : Counts} →
      m ≡ to_marks construct_kind.Branch b → Links (rw_expr e) f g h → Opens false t ms y i j → OpensArm r ns z k n →
      Links (rw_stmt false (If l e (enter_stmt (by_path (Within 0 holds) m) 0 t) (enter_arm (by_path (Within 0 fails) m) (past_path (Within 0 holds) 0) r)))
      (If l f (arm_of (are_some (counts c (path_marks holds b 0 ++ ms)) || are_some (counts c (path_marks fails b (past holds 0) ++ ns))) (counts c (path_marks holds b 0 ++ ms)) y)
      (else_of (are_some (counts c (path_marks holds b 0 ++ ms)) || are_some (counts c (path_marks fails b (past holds 0) ++ ns))) (counts c (path_marks fails b (past holds 0) ++ ns)) z)) k n
  opens_if holds fails b m l e t r {f = f} {y = y} {z = z} {ms = ms} {ns = ns} p d a o =
      let x' = enter_stmt (by_path (Within 0 holds) m) 0 t in
      let second = past_path (Within 0 holds) 0 in
      let r' = enter_arm (by_path (Within 0 fails) m) second r in
      let xs = path_marks holds b 0 ++ ms in
      let ys = path_marks fails b (past holds 0) ++ ns in
      let first : stmt_marks x' ≡ xs = arm_marks_same b holds 0 t p a in
      let last : arm_marks r' ≡ ys = o.before b m fails second p ∙ ap (λ path. path_marks fails b path ++ ns) (past_same holds 0) in
      let one : is_any (stmt_marks x' ++ arm_marks r') ≡ (are_some (counts c xs) || are_some (counts c ys)) = ap (λ qs. is_any (qs ++ arm_marks r')) first ∙ ap (λ qs. is_any (xs ++ qs)) last ∙ any_same c xs ys in
      record {
        tree = ap (λ v. If l v (arm c (is_any (stmt_marks x' ++ arm_marks r')) (stmt_marks x') (rw_stmt false x')) (rewritten_arm c (λ i. 0) (is_any (stmt_marks x' ++ arm_marks r')) r')) d.tree
            ∙ ap (λ q. If l f (arm c q (stmt_marks x') (rw_stmt false x')) (rewritten_arm c (λ i. 0) q r')) one
            ∙ ap (λ v. If l f v (rewritten_arm c (λ i. 0) (are_some (counts c xs) || are_some (counts c ys)) r'))
            (ap (λ qs. arm c (are_some (counts c xs) || are_some (counts c ys)) qs (rw_stmt false x')) first ∙ ap (arm c (are_some (counts c xs) || are_some (counts c ys)) xs) (entered_stmt_rw false (by_path (Within 0 holds) m) 0 t ∙ a.tree)
            ∙ arm_same c (are_some (counts c xs) || are_some (counts c ys)) xs y)
            ∙ ap (If l f (arm_of (are_some (counts c xs) || are_some (counts c ys)) (counts c xs) y))
            (o.tree b m fails second (are_some (counts c xs) || are_some (counts c ys)) p ∙ ap (λ path. else_of (are_some (counts c xs) || are_some (counts c ys)) (counts c (path_marks fails b path ++ ns)) z) (past_same holds 0));
        next = o.next;
      }

  -- ---- bodies

  body_entered : (b : Option ℕ) {m : Marks} (l : Option Loc) (xs : Stmts) {ys : Stmts} {k : Numbers} {h : Counts} → m ≡ to_marks construct_kind.Function b → Links (rewritten_stmts c (λ i. 0) true xs) ys k h →
      Links (rewritten_function_body c (λ i. 0) (enter_body m (MakeFunctionBody l xs))) (MakeFunctionBody l (after_directives (counts c (marks_of construct_kind.Function 0 b)) ys)) k h
  body_entered b l xs p d = record {
    tree = ap (λ m. rewritten_function_body c (λ i. 0) (enter_body m (MakeFunctionBody l xs))) p ∙ by b d;
    next = d.next;
  }
    where
      by : (b : Option ℕ) {ys : Stmts} {k : Numbers} {h : Counts} → Links (rewritten_stmts c (λ i. 0) true xs) ys k h →
          rewritten_function_body c (λ i. 0) (enter_body (to_marks construct_kind.Function b) (MakeFunctionBody l xs)) ≡ MakeFunctionBody l (after_directives (counts c (marks_of construct_kind.Function 0 b)) ys)
      by None d = ap (MakeFunctionBody l) (d.tree ∙ sym (nothing_joined _))
      by (Some i) d = ap (λ ys. MakeFunctionBody l (after_directives (counts c (mark 0 construct_kind.Function i 0 ∷ [])) ys)) d.tree

  concise_entered : (b d : Option ℕ) {m n : Marks} (e : Expr) {f : Expr} → m ≡ to_marks construct_kind.Function b → n ≡ to_marks construct_kind.Statement d → expr_marks e ≡ [] → rw_expr e ≡ f →
      rewritten_concise_body c (λ i. 0) (enter_concise_body m (ExpressionBody (enter_expr n 0 e)))
      ≡ concise_of (joined (counts c (marks_of construct_kind.Function 0 b)) (counts c (marks_of construct_kind.Statement 0 d))) f
  concise_entered b d {m = m} {n = n} e {f = f} p q r s =
      ap (λ v. concise c (expr_marks (enter_expr m 0 (enter_expr n 0 e))) v) (entered_rw m 0 (enter_expr n 0 e) ∙ entered_rw n 0 e ∙ s)
      ∙ ap (λ ms. concise c ms f) (ap (λ m. expr_marks (enter_expr m 0 (enter_expr n 0 e))) p ∙ entered_marks construct_kind.Function b 0 (enter_expr n 0 e)
      ∙ ap (λ ms. marks_of construct_kind.Function 0 b ++ ms) (value_marks_same construct_kind.Statement d 0 e q r))
      ∙ concise_same c (marks_of construct_kind.Function 0 b ++ marks_of construct_kind.Statement 0 d) f
      ∙ ap (λ zs. concise_of zs f) (marks_joined c (marks_of construct_kind.Function 0 b) (marks_of construct_kind.Statement 0 d))

  case_entered : (b : Option ℕ) {m : Marks} (left : Heed) (path : ℕ) (l : Option Loc) (e : MaybeExpr) (xs : Stmts) {f : MaybeExpr} {ys : Stmts} → m ≡ to_marks construct_kind.Branch b →
      rewritten_expr_if c (λ i. 0) e ≡ f → rewritten_stmts c (λ i. 0) false xs ≡ ys →
      rewritten_case c (λ i. 0) (enter_case (by_path (Within 0 left) m) path (MakeCase l e xs)) ≡ MakeCase l f (joined (counts c (path_marks left b path)) ys)
  case_entered b left path l e xs {f = f} {ys = ys} p q r =
      ap (λ m. rewritten_case c (λ i. 0) (enter_case m path (MakeCase l e xs))) (branch_taken b left p) ∙ by (branch_in left b)
    where
      by : (b : Option ℕ) → rewritten_case c (λ i. 0) (enter_case (to_marks construct_kind.Branch b) path (MakeCase l e xs)) ≡ MakeCase l f (joined (counts c (marks_of construct_kind.Branch path b)) ys)
      by None = ap (λ v. MakeCase l v (rewritten_stmts c (λ i. 0) false xs)) q ∙ ap (MakeCase l f) r
      by (Some i) = ap (λ v. MakeCase l v (joined (counts c (mark 0 construct_kind.Branch i path ∷ [])) (rewritten_stmts c (λ i. 0) false xs))) q ∙ ap (λ ys. MakeCase l f (joined (counts c (mark 0 construct_kind.Branch i path ∷ [])) ys)) r

  -- ---- values with names

  value_is : (kind : ConstructKind) (b : Option ℕ) {m : Marks} (f : List Mark → Expr → Expr) (e : Expr) {v : Expr} → m ≡ to_marks kind b → expr_marks e ≡ [] → rw_expr e ≡ v →
      f (expr_marks (enter_expr m 0 e)) (rw_expr (enter_expr m 0 e)) ≡ f (marks_of kind 0 b) v
  value_is kind b {m = m} f e {v = v} p q r = ap (f (expr_marks (enter_expr m 0 e))) (entered_rw m 0 e ∙ r) ∙ ap (λ ms. f ms v) (value_marks_same kind b 0 e p q)

  -- declarators, and the marks that go before their declaration
  record OpensAll (hoists : Bool) (t : Declarators) (ms : List Mark) (y : Declarators) (k : Numbers) (h : Counts) : Type 0 where
    before : (if hoists then first_marks t else []) ≡ ms
    tree : rewritten_declarators c (λ i. 0) hoists t ≡ y
    next : k.counts ≡ h

  -- one of them
  record OpensDeclarator (hoists : Bool) (t : Declarator) (ms : List Mark) (y : Declarator) (k : Numbers) (h : Counts) : Type 0 where
    before : (xs : Declarators) → (if hoists then first_marks (more_declarator t xs) else []) ≡ ms
    tree : rewritten_declarator c (λ i. 0) hoists t ≡ y
    next : k.counts ≡ h

  function_before : (b : Option ℕ) {m : Marks} (hoists anonymous : Bool) (e : Expr) → m ≡ to_marks construct_kind.Statement b → expr_marks e ≡ [] → is_anonymous (enter_expr m 0 e) ≡ anonymous →
      (if hoists then of_function (is_anonymous (enter_expr m 0 e)) (enter_expr m 0 e) else []) ≡ made.hoisted_marks hoists anonymous (marks_of construct_kind.Statement 0 b)
  function_before b false false e p q r = refl
  function_before b false true e p q r = refl
  function_before b {m = m} true false e p q r = ap (λ b. of_function b (enter_expr m 0 e)) r
  function_before b {m = m} true true e p q r = ap (λ b. of_function b (enter_expr m 0 e)) r ∙ value_marks_same construct_kind.Statement b 0 e p q

  no_hoists : (hoists : Bool) → (if◌then◌else◌ {A = List Mark} hoists [] []) ≡ []
  no_hoists false = refl
  no_hoists true = refl

  -- a chain of logical operators, from its operands
  chain_links : (left : Heed) (l : Option Loc) (o : LogicalOperator) (e f : Expr) (b : Option ℕ) (path : ℕ) (k : Numbers) (h : Counts) →
      Links (rw_expr (link_expr (Within 0 (left_in left e)) (chain_of (Among b path)) e k).tree) (made.made_expr c (left_in left e) (Among b path) e h)
      (link_expr (Within 0 (left_in left e)) (chain_of (Among b path)) e k).next (made.next_expr (left_in left e) true e h) →
      Links (rw_expr (link_expr (Within 0 (left_in left f)) (chain_of (Among b (path + length (leaf_paths (left_in left e) e)))) f (link_expr (Within 0 (left_in left e)) (chain_of (Among b path)) e k).next).tree)
      (made.made_expr c (left_in left f) (Among b (path + length (leaf_paths (left_in left e) e))) f (made.next_expr (left_in left e) true e h))
      (link_expr (Within 0 (left_in left f)) (chain_of (Among b (path + length (leaf_paths (left_in left e) e)))) f (link_expr (Within 0 (left_in left e)) (chain_of (Among b path)) e k).next).next
      (made.next_expr (left_in left f) true f (made.next_expr (left_in left e) true e h)) →
      Links (rw_expr (link_expr (Within 0 left) (chain_of (Among b path)) (Logical l o e f) k).tree) (made.made_expr c left (Among b path) (Logical l o e f) h)
      (link_expr (Within 0 left) (chain_of (Among b path)) (Logical l o e f) k).next (made.next_expr left true (Logical l o e f) h)
  chain_links left l o e f b path k h d g =
      let second = path + length (leaf_paths (left_in left e) e) in
      links_two (Logical l o) (links_at d (leaf_entered (left_in left e) b path e k d.tree)) (links_at g (leaf_entered (left_in left f) b second f _ g.tree))

  mutual
    l_expr : (left : Heed) (ch : Operand) (e : Expr) (k : Numbers) {h : Counts} → k.counts ≡ h →
        Links (rw_expr (link_expr (Within 0 left) (chain_of ch) e k).tree) (made.made_expr c left ch e h) (link_expr (Within 0 left) (chain_of ch) e k).next (made.next_expr left (made.is_among ch) e h)
    l_expr left ch (IdentifierReference l w) k q = record { tree = refl; next = q }
    l_expr left ch (This l) k q = record { tree = refl; next = q }
    l_expr left ch (NullLiteral l) k q = record { tree = refl; next = q }
    l_expr left ch (BooleanLiteral l b) k q = record { tree = refl; next = q }
    l_expr left ch (NumericLiteral l w) k q = record { tree = refl; next = q }
    l_expr left ch (StringLiteral l s) k q = record { tree = refl; next = q }
    l_expr left ch (RegularExpressionLiteral l w v) k q = record { tree = refl; next = q }
    l_expr left ch (ArrayLiteral l es) k q = links_one (ArrayLiteral l) (l_exprs left es k q)
    l_expr left ch (ObjectLiteral l ps) k q = links_one (ObjectLiteral l) (l_properties left ps k q)
    l_expr left ch (FunctionExpression l x f) k q = links_one (FunctionExpression l x) (l_function left l x f k q)
    l_expr left ch (ArrowFunction l i ps b) k {h = h} q =
        let place = function_place l None (concise_place b) in
        let j = started construct_kind.Function left place k q in
        let d = l_params left ps (after_code (after_marks (Within 0 left) construct_kind.Function place k)) j in
        links_two (ArrowFunction l 0) d (l_concise left (made.number construct_kind.Function left place h) (numbered construct_kind.Function left place k q) b _ d.next)
    l_expr left ch (TemplateLiteral l s ps) k q = links_one (TemplateLiteral l s) (l_parts left ps k q)
    l_expr left made.Alone (Parenthesized l e) k q =
        let d = l_expr left made.Alone e k q in
        links_by (ap (λ ms. Parenthesized l (counted c ms (rw_expr (link_expr (Within 0 left) linked.Alone e k).tree))) (bare_linked (Within 0 left) linked.Alone e k)) (links_one (Parenthesized l) d)
    l_expr left (Among b path) (Parenthesized l e) k q =
        let d = l_expr left (Among b path) e k q in
        links_at d (ap (Parenthesized l) (leaf_entered left b path e k d.tree))
    l_expr left ch (NamedMember l e w) k q = links_one (λ e. NamedMember l e w) (l_expr (left_in left e) made.Alone e k q)
    l_expr left ch (ComputedMember l e f) k q = let d = l_expr (left_in left e) made.Alone e k q in links_two (ComputedMember l) d (l_expr (left_in left f) made.Alone f _ d.next)
    l_expr left ch (New l e es) k q = let d = l_expr (left_in left e) made.Alone e k q in links_two (New l) d (l_exprs left es _ d.next)
    l_expr left ch (Call l e es) k q = let d = l_expr (left_in left e) made.Alone e k q in links_two (Call l) d (l_exprs left es _ d.next)
    l_expr left ch (PostfixUpdate l o e) k q = links_one (PostfixUpdate l o) (l_expr (left_in left e) made.Alone e k q)
    l_expr left ch (PrefixUpdate l o e) k q = links_one (PrefixUpdate l o) (l_expr (left_in left e) made.Alone e k q)
    l_expr left ch (Unary l o e) k q = links_one (Unary l o) (l_expr (left_in left e) made.Alone e k q)
    l_expr left ch (Binary l o e f) k q = let d = l_expr (left_in left e) made.Alone e k q in links_two (Binary l o) d (l_expr (left_in left f) made.Alone f _ d.next)
    l_expr left (Among b path) (Logical l o e f) k {h = h} q =
        let d = l_expr (left_in left e) (Among b path) e k q in
        chain_links left l o e f b path k h d (l_expr (left_in left f) (Among b (path + length (leaf_paths (left_in left e) e))) f _ d.next)
    l_expr left made.Alone (Logical l o e f) k {h = h} q =
        let b = made.number construct_kind.Branch left l h in
        let i = after_marks (Within 0 left) construct_kind.Branch l k in
        let d = l_expr (left_in left e) (Among b 0) e i (started construct_kind.Branch left l k q) in
        let g = l_expr (left_in left f) (Among b (0 + length (leaf_paths (left_in left e) e))) f _ d.next in
        subst (λ m. Links (rw_expr (link_expr (Within 0 left) (linked.Operand m 0) (Logical l o e f) i).tree) (made.made_expr c left made.Alone (Logical l o e f) h)
        (link_expr (Within 0 left) (linked.Operand m 0) (Logical l o e f) i).next (made.next_expr left false (Logical l o e f) h))
        (sym (numbered construct_kind.Branch left l k q)) (chain_links left l o e f b 0 i (made.after construct_kind.Branch left l h) d g)
    l_expr left ch (Conditional l e f g) k {h = h} q =
        let b = made.number construct_kind.Branch left l h in
        let n = numbered construct_kind.Branch left l k q in
        let i = after_marks (Within 0 left) construct_kind.Branch l k in
        let d = l_expr (left_in left e) made.Alone e i (started construct_kind.Branch left l k q) in
        let x = link_expr (Within 0 (left_in left e)) linked.Alone e i in
        let y = link_expr (Within 0 (left_in left f)) linked.Alone f x.next in
        let z = link_expr (Within 0 (left_in left g)) linked.Alone g y.next in
        let u = l_expr (left_in left f) made.Alone f x.next d.next in
        let v = l_expr (left_in left g) made.Alone g y.next u.next in
        let w = made.made_expr c (left_in left g) made.Alone g (made.next_expr (left_in left f) false f (made.next_expr (left_in left e) false e (made.after construct_kind.Branch left l h))) in
        links_three (Conditional l) d
        (links_at u (entered_value construct_kind.Branch (branch_in (left_in left f) b) 0 y.tree (branch_taken b (left_in left f) n) (bare_linked (Within 0 (left_in left f)) linked.Alone f x.next) u.tree))
        (links_at v (entered_value construct_kind.Branch (branch_in (left_in left g) b) (past_path (Within 0 (left_in left f)) 0) z.tree (branch_taken b (left_in left g) n) (bare_linked (Within 0 (left_in left g)) linked.Alone g y.next) v.tree
        ∙ ap (λ path. counted c (path_marks (left_in left g) b path) w) (past_same (left_in left f) 0)))
    l_expr left ch (Assignment l o e f) k q = let d = l_expr (left_in left e) made.Alone e k q in links_two (Assignment l o) d (l_expr (left_in left f) made.Alone f _ d.next)
    l_expr left ch (Comma l e f) k q = let d = l_expr (left_in left e) made.Alone e k q in links_two (Comma l) d (l_expr (left_in left f) made.Alone f _ d.next)
    l_expr left ch (Entered m e) k q = l_expr left ch e k q

    l_exprs : (left : Heed) (es : Exprs) (k : Numbers) {h : Counts} → k.counts ≡ h →
        Links (rewritten_exprs c (λ i. 0) (link_exprs (Within 0 left) es k).tree) (made.made_exprs c left es h) (link_exprs (Within 0 left) es k).next (made.next_exprs left es h)
    l_exprs left no_expr k q = record { tree = refl; next = q }
    l_exprs left (more_expr e es) k q = let d = l_expr (left_in left e) made.Alone e k q in links_two more_expr d (l_exprs left es _ d.next)

    l_parts : (left : Heed) (ps : TemplateParts) (k : Numbers) {h : Counts} → k.counts ≡ h →
        Links (rewritten_template_parts c (λ i. 0) (link_template_parts (Within 0 left) ps k).tree) (made.made_parts c left ps h) (link_template_parts (Within 0 left) ps k).next (made.next_parts left ps h)
    l_parts left no_template_part k q = record { tree = refl; next = q }
    l_parts left (more_template_part (MakeTemplatePart e s) ps) k q =
        let d = l_expr (left_in left e) made.Alone e k q in links_two more_template_part (links_one (λ e. MakeTemplatePart e s) d) (l_parts left ps _ d.next)

    l_properties : (left : Heed) (ps : Properties) (k : Numbers) {h : Counts} → k.counts ≡ h →
        Links (rewritten_properties c (λ i. 0) (link_properties (Within 0 left) ps k).tree) (made.made_properties c left ps h) (link_properties (Within 0 left) ps k).next (made.next_properties left ps h)
    l_properties left no_property k q = record { tree = refl; next = q }
    l_properties left (more_property x xs) k q = let d = l_property (heed left (property_place x)) x k q in links_two more_property d (l_properties left xs _ d.next)

    l_property : (left : Heed) (x : Property) (k : Numbers) {h : Counts} → k.counts ≡ h →
        Links (rewritten_property c (λ i. 0) (link_property (Within 0 left) x k).tree) (made.made_property c left x h) (link_property (Within 0 left) x k).next (made.next_property left x h)
    l_property left (Shorthand l w) k q = record { tree = refl; next = q }
    l_property left (KeyValue l x e) k q = let d = l_key left x k q in links_two (KeyValue l) d (l_expr (left_in left e) made.Alone e _ d.next)
    l_property left (Method l x (MakeFunction i ps b)) k {h = h} q =
        let place = function_place l None (braced_place b) in
        let a = l_key left x (after_code (after_marks (Within 0 left) construct_kind.Function place k)) (started construct_kind.Function left place k q) in
        let d = l_params left ps _ a.next in
        links_three (λ x ps b. Method l x (MakeFunction 0 ps b)) a d (l_body left (made.number construct_kind.Function left place h) (numbered construct_kind.Function left place k q) b _ d.next)

    l_key : (left : Heed) (x : PropertyKey) (k : Numbers) {h : Counts} → k.counts ≡ h →
        Links (rewritten_property_key c (λ i. 0) (link_property_key (Within 0 left) x k).tree) (made.made_key c left x h) (link_property_key (Within 0 left) x k).next (made.next_key left x h)
    l_key left (NameKey w) k q = record { tree = refl; next = q }
    l_key left (StringKey s) k q = record { tree = refl; next = q }
    l_key left (NumberKey w) k q = record { tree = refl; next = q }
    l_key left (ComputedKey e) k q = links_one ComputedKey (l_expr (left_in left e) made.Alone e k q)

    l_function : (left : Heed) (l : Option Loc) (x : Option Identifier) (f : Function) (k : Numbers) {h : Counts} → k.counts ≡ h →
        Links (rewritten_function c (λ i. 0) (link_function (Within 0 left) l x f k).tree) (made.made_function c left (function_place l x (body_place f)) f h) (link_function (Within 0 left) l x f k).next (made.next_function left (function_place l x (body_place f)) f h)
    l_function left l x (MakeFunction i ps b) k {h = h} q =
        let place = function_place l x (braced_place b) in
        let d = l_params left ps (after_code (after_marks (Within 0 left) construct_kind.Function place k)) (started construct_kind.Function left place k q) in
        links_two (MakeFunction 0) d (l_body left (made.number construct_kind.Function left place h) (numbered construct_kind.Function left place k q) b _ d.next)

    l_body : (left : Heed) (b : Option ℕ) {m : Marks} → m ≡ to_marks construct_kind.Function b → (x : FunctionBody) (k : Numbers) {h : Counts} → k.counts ≡ h →
        Links (rewritten_function_body c (λ i. 0) (enter_body m (link_function_body (Within 0 left) x k).tree)) (made.made_body c left (counts c (marks_of construct_kind.Function 0 b)) x h) (link_function_body (Within 0 left) x k).next (made.next_body left x h)
    l_body left b p (MakeFunctionBody l xs) k q = body_entered b l (link_stmts (Within 0 left) xs k).tree p (l_stmts true left xs k q)
    l_body left b p (EnteredBody m x) k q = l_body left b p x k q

    l_concise : (left : Heed) (b : Option ℕ) {m : Marks} → m ≡ to_marks construct_kind.Function b → (x : ConciseBody) (k : Numbers) {h : Counts} → k.counts ≡ h →
        Links (rewritten_concise_body c (λ i. 0) (enter_concise_body m (link_concise_body (Within 0 left) x k).tree)) (made.made_concise c left (counts c (marks_of construct_kind.Function 0 b)) x h) (link_concise_body (Within 0 left) x k).next (made.next_concise left x h)
    l_concise left b p (ExpressionBody e) k {h = h} q =
        let inner = left_in left e in
        let i = after_marks (Within 0 inner) construct_kind.Statement (bare_place e) k in
        let d = l_expr inner made.Alone e i (started construct_kind.Statement inner (bare_place e) k q) in
        record {
          tree = concise_entered b (made.number construct_kind.Statement inner (bare_place e) h) (link_expr (Within 0 inner) linked.Alone e i).tree p (numbered construct_kind.Statement inner (bare_place e) k q)
              (bare_linked (Within 0 inner) linked.Alone e i) d.tree;
          next = d.next;
        }
    l_concise left b p (BlockBody x) k q = links_one BlockBody (l_body left b p x k q)

    l_params : (left : Heed) (ps : Params) (k : Numbers) {h : Counts} → k.counts ≡ h →
        Links (rewritten_params c (λ i. 0) (link_params (Within 0 left) ps k).tree) (made.made_params c left ps h) (link_params (Within 0 left) ps k).next (made.next_params left ps h)
    l_params left no_param k q = record { tree = refl; next = q }
    l_params left (more_param x xs) k q = let d = l_param (heed left (param_place x)) x k q in links_two more_param d (l_params left xs _ d.next)

    l_param : (left : Heed) (x : Param) (k : Numbers) {h : Counts} → k.counts ≡ h →
        Links (rewritten_param c (λ i. 0) (link_param (Within 0 left) x k).tree) (made.made_param c left x h) (link_param (Within 0 left) x k).next (made.next_param left x h)
    l_param left (MakeParam l p none_expr) k q = record { tree = refl; next = q }
    l_param left (MakeParam l p (some_expr e)) k {h = h} q =
        let inner = left_in left e in
        let i = after_marks (Within 0 left) construct_kind.Branch l k in
        let b = made.number construct_kind.Branch left l h in
        let m = by_path (Within 0 inner) (marks (Within 0 left) construct_kind.Branch l k) in
        let d = l_expr inner made.Alone e i (started construct_kind.Branch left l k q) in
        let t = (link_expr (Within 0 inner) linked.Alone e i).tree in
        record {
          tree = ap (λ v. MakeParam l p (some_expr v))
              (ap (λ b. held c b (bound_name p) (expr_marks (enter_expr m 0 t)) (rw_expr (enter_expr m 0 t))) (anonymous_entered m 0 t ∙ anonymous_linked (Within 0 inner) linked.Alone e i)
              ∙ value_is construct_kind.Branch (branch_in inner b) (held c (is_anonymous e) (bound_name p)) t (branch_taken b inner (numbered construct_kind.Branch left l k q)) (bare_linked (Within 0 inner) linked.Alone e i) d.tree);
          next = d.next;
        }

    l_maybe : (left : Heed) (x : MaybeExpr) (k : Numbers) {h : Counts} → k.counts ≡ h →
        Links (rewritten_expr_if c (λ i. 0) (link_expr_if (Within 0 left) x k).tree) (made.made_maybe c left x h) (link_expr_if (Within 0 left) x k).next (made.next_maybe left x h)
    l_maybe left none_expr k q = record { tree = refl; next = q }
    l_maybe left (some_expr e) k q = links_one some_expr (l_expr (left_in left e) made.Alone e k q)

    l_stmts : (home : Bool) (left : Heed) (xs : Stmts) (k : Numbers) {h : Counts} → k.counts ≡ h →
        Links (rewritten_stmts c (λ i. 0) home (link_stmts (Within 0 left) xs k).tree) (made.made_stmts c home left xs h) (link_stmts (Within 0 left) xs k).next (made.next_stmts left xs h)
    l_stmts home left no_stmt k q = record { tree = refl; next = q }
    l_stmts home left (more_stmt x xs) k {h = h} q =
        let inner = heed left (stmt_place x) in
        let t = link_stmt (Within 0 inner) x k in
        let d = l_stmt home inner x k q in
        let g = l_stmts home left xs t.next d.next in
        let ms = marks_before home inner x h in
        let rest = rewritten_stmts c (λ i. 0) home (link_stmts (Within 0 left) xs t.next).tree in
        record {
          tree = ap (λ ms. joined (counts c ms) (more_stmt (rw_stmt home t.tree) rest)) d.before ∙ ap (λ y. joined (counts c ms) (more_stmt y rest)) d.tree
              ∙ ap (λ ys. joined (counts c ms) (more_stmt (made.made_stmt c home inner x h) ys)) g.tree;
          next = g.next;
        }

    l_stmt : (home : Bool) (left : Heed) (x : Stmt) (k : Numbers) {h : Counts} → k.counts ≡ h →
        Opens home (link_stmt (Within 0 left) x k).tree (marks_before home left x h) (made.made_stmt c home left x h) (link_stmt (Within 0 left) x k).next (made.next_stmt left x h)
    l_stmt home left (Directive l s) k q = record { before = refl; tree = refl; next = q }
    l_stmt home left (Block l xs) k q = opens_bare refl refl (links_one (Block l) (l_stmts true left xs k q))
    l_stmt home left (VariableDeclaration l kind xs) k q = let d = l_declarators home left xs k q in record { before = d.before; tree = ap (VariableDeclaration l kind) d.tree; next = d.next }
    l_stmt home left (Empty l) k q = record { before = refl; tree = refl; next = q }
    l_stmt home left (Expression l e) k q =
        let i = after_marks (Within 0 left) construct_kind.Statement l k in
        let p = started construct_kind.Statement left l k q in
        opens_one left l k q (Expression l (link_expr (Within 0 (left_in left e)) linked.Alone e i).tree) refl refl (links_one (Expression l) (l_expr (left_in left e) made.Alone e i p))
    l_stmt home left (If l e x y) k {h = h} q =
        let i = after_marks (Within 0 left) construct_kind.Statement l k in
        let p = started construct_kind.Statement left l k q in
        let b = made.number construct_kind.Branch left l (made.after construct_kind.Statement left l h) in
        let m = marks (Within 0 left) construct_kind.Branch l i in
        let j = after_marks (Within 0 left) construct_kind.Branch l i in
        let holds = heed (heed_arm hint.If left l) (stmt_place x) in
        let fails = heed (heed_arm hint.Else left l) (stmt_if_place y) in
        let e' = link_expr (Within 0 (left_in left e)) linked.Alone e j in
        let x' = link_stmt (Within 0 holds) x e'.next in
        let y' = link_stmt_if (Within 0 fails) y x'.next in
        let d = l_expr (left_in left e) made.Alone e j (started construct_kind.Branch left l i p) in
        let a = l_stmt false holds x e'.next d.next in
        let o = l_arm fails y x'.next a.next in
        opens_one left l k q (If l e'.tree (enter_stmt (by_path (Within 0 holds) m) 0 x'.tree) (enter_arm (by_path (Within 0 fails) m) (past_path (Within 0 holds) 0) y'.tree)) refl refl
        (opens_if holds fails b m l e'.tree x'.tree y'.tree (numbered construct_kind.Branch left l i p) d a o)
    l_stmt home left (DoWhile l x e) k q =
        let i = after_marks (Within 0 left) construct_kind.Statement l k in
        let p = started construct_kind.Statement left l k q in
        let x' = link_stmt (Within 0 (heed left (stmt_place x))) x i in
        let a = l_stmt false (heed left (stmt_place x)) x i p in
        opens_one left l k q (DoWhile l x'.tree (link_expr (Within 0 (left_in left e)) linked.Alone e x'.next).tree) refl refl (links_two (DoWhile l) (looped_opens a) (l_expr (left_in left e) made.Alone e x'.next a.next))
    l_stmt home left (While l e x) k q =
        let i = after_marks (Within 0 left) construct_kind.Statement l k in
        let p = started construct_kind.Statement left l k q in
        let e' = link_expr (Within 0 (left_in left e)) linked.Alone e i in
        let d = l_expr (left_in left e) made.Alone e i p in
        opens_one left l k q (While l e'.tree (link_stmt (Within 0 (heed left (stmt_place x))) x e'.next).tree) refl refl (links_two (While l) d (looped_opens (l_stmt false (heed left (stmt_place x)) x e'.next d.next)))
    l_stmt home left (For l n e f x) k q =
        let i = after_marks (Within 0 left) construct_kind.Statement l k in
        let p = started construct_kind.Statement left l k q in
        let n' = link_for_init (Within 0 left) n i in
        let e' = link_expr_if (Within 0 left) e n'.next in
        let f' = link_expr_if (Within 0 left) f e'.next in
        let a = l_init left n i p in
        let d = l_maybe left e n'.next a.next in
        let g = l_maybe left f e'.next d.next in
        opens_one left l k q (For l n'.tree e'.tree f'.tree (link_stmt (Within 0 (heed left (stmt_place x))) x f'.next).tree) refl refl (links_four (For l) a d g (looped_opens (l_stmt false (heed left (stmt_place x)) x f'.next g.next)))
    l_stmt home left (ForIn l n e x) k q =
        let i = after_marks (Within 0 left) construct_kind.Statement l k in
        let p = started construct_kind.Statement left l k q in
        let n' = link_for_target (Within 0 left) n i in
        let e' = link_expr (Within 0 (left_in left e)) linked.Alone e n'.next in
        let a = l_target left n i p in
        let d = l_expr (left_in left e) made.Alone e n'.next a.next in
        opens_one left l k q (ForIn l n'.tree e'.tree (link_stmt (Within 0 (heed left (stmt_place x))) x e'.next).tree) refl refl (links_three (ForIn l) a d (looped_opens (l_stmt false (heed left (stmt_place x)) x e'.next d.next)))
    l_stmt home left (ForOf l n e x) k q =
        let i = after_marks (Within 0 left) construct_kind.Statement l k in
        let p = started construct_kind.Statement left l k q in
        let n' = link_for_target (Within 0 left) n i in
        let e' = link_expr (Within 0 (left_in left e)) linked.Alone e n'.next in
        let a = l_target left n i p in
        let d = l_expr (left_in left e) made.Alone e n'.next a.next in
        opens_one left l k q (ForOf l n'.tree e'.tree (link_stmt (Within 0 (heed left (stmt_place x))) x e'.next).tree) refl refl (links_three (ForOf l) a d (looped_opens (l_stmt false (heed left (stmt_place x)) x e'.next d.next)))
    l_stmt home left (Continue l w) k q = opens_one left l k q (Continue l w) refl refl (record { tree = refl; next = started construct_kind.Statement left l k q })
    l_stmt home left (Break l w) k q = opens_one left l k q (Break l w) refl refl (record { tree = refl; next = started construct_kind.Statement left l k q })
    l_stmt home left (Return l e) k q =
        let i = after_marks (Within 0 left) construct_kind.Statement l k in
        let p = started construct_kind.Statement left l k q in
        opens_one left l k q (Return l (link_expr_if (Within 0 left) e i).tree) refl refl (links_one (Return l) (l_maybe left e i p))
    l_stmt home left (Switch l e xs) k {h = h} q =
        let i = after_marks (Within 0 left) construct_kind.Statement l k in
        let p = started construct_kind.Statement left l k q in
        let b = made.number construct_kind.Branch left l (made.after construct_kind.Statement left l h) in
        let m = marks (Within 0 left) construct_kind.Branch l i in
        let j = after_marks (Within 0 left) construct_kind.Branch l i in
        let e' = link_expr (Within 0 (left_in left e)) linked.Alone e j in
        let d = l_expr (left_in left e) made.Alone e j (started construct_kind.Branch left l i p) in
        opens_one left l k q (Switch l e'.tree (link_cases (Within 0 left) m 0 xs e'.next).tree) refl refl (links_two (Switch l) d (l_cases left b (numbered construct_kind.Branch left l i p) 0 xs e'.next d.next))
    l_stmt home left (Labelled l w x) k q =
        let i = after_marks (Within 0 left) construct_kind.Statement l k in
        let p = started construct_kind.Statement left l k q in
        opens_label left l k q l w (link_stmt (Within 0 (heed left (stmt_place x))) x i).tree (l_stmt false (heed left (stmt_place x)) x i p)
    l_stmt home left (Throw l e) k q =
        let i = after_marks (Within 0 left) construct_kind.Statement l k in
        let p = started construct_kind.Statement left l k q in
        opens_one left l k q (Throw l (link_expr (Within 0 (left_in left e)) linked.Alone e i).tree) refl refl (links_one (Throw l) (l_expr (left_in left e) made.Alone e i p))
    l_stmt home left (TryCatch l xs x) k q =
        let i = after_marks (Within 0 left) construct_kind.Statement l k in
        let p = started construct_kind.Statement left l k q in
        let xs' = link_stmts (Within 0 left) xs i in
        let d = l_stmts true left xs i p in
        opens_one left l k q (TryCatch l xs'.tree (link_catch (Within 0 left) x xs'.next).tree) refl refl (links_two (TryCatch l) d (l_catch left x xs'.next d.next))
    l_stmt home left (TryFinally l xs ys) k q =
        let i = after_marks (Within 0 left) construct_kind.Statement l k in
        let p = started construct_kind.Statement left l k q in
        let xs' = link_stmts (Within 0 left) xs i in
        let d = l_stmts true left xs i p in
        opens_one left l k q (TryFinally l xs'.tree (link_stmts (Within 0 left) ys xs'.next).tree) refl refl (links_two (TryFinally l) d (l_stmts true left ys xs'.next d.next))
    l_stmt home left (TryCatchFinally l xs x ys) k q =
        let i = after_marks (Within 0 left) construct_kind.Statement l k in
        let p = started construct_kind.Statement left l k q in
        let xs' = link_stmts (Within 0 left) xs i in
        let x' = link_catch (Within 0 left) x xs'.next in
        let d = l_stmts true left xs i p in
        let g = l_catch left x xs'.next d.next in
        opens_one left l k q (TryCatchFinally l xs'.tree x'.tree (link_stmts (Within 0 left) ys x'.next).tree) refl refl (links_three (TryCatchFinally l) d g (l_stmts true left ys x'.next g.next))
    l_stmt home left (Debugger l) k q = opens_one left l k q (Debugger l) refl refl (record { tree = refl; next = started construct_kind.Statement left l k q })
    l_stmt home left (FunctionDeclaration l x f) k q = opens_bare refl refl (links_one (FunctionDeclaration l x) (l_function left l (Some x) f k q))
    l_stmt home left (EnteredStmt m x) k q = l_stmt home left x k q

    l_arm : (left : Heed) (x : MaybeStmt) (k : Numbers) {h : Counts} → k.counts ≡ h →
        OpensArm (link_stmt_if (Within 0 left) x k).tree (made.arm_before left x h) (made.bare_arm c left x h) (link_stmt_if (Within 0 left) x k).next (made.next_arm left x h)
    l_arm left none_stmt k q = opens_missing q
    l_arm left (some_stmt x) k q = opens_some (l_stmt false left x k q)
    l_arm left (entered_none m) k q = opens_missing q

    l_declarators : (hoists : Bool) (left : Heed) (xs : Declarators) (k : Numbers) {h : Counts} → k.counts ≡ h →
        OpensAll hoists (link_declarators (Within 0 left) xs k).tree (made.hoisted hoists left xs h) (made.made_declarators c hoists left xs h) (link_declarators (Within 0 left) xs k).next (made.next_declarators left xs h)
    l_declarators hoists left no_declarator k q = record { before = no_hoists hoists; tree = refl; next = q }
    l_declarators hoists left (more_declarator x xs) k {h = h} q =
        let inner = heed left (declarator_place x) in
        let t = link_declarator (Within 0 inner) x k in
        let d = l_declarator hoists inner x k q in
        let g = l_declarators false left xs t.next d.next in
        let rest = (link_declarators (Within 0 left) xs t.next).tree in
        record {
          before = d.before rest;
          tree = ap (λ x. more_declarator x (rewritten_declarators c (λ i. 0) false rest)) d.tree ∙ ap (more_declarator (made.made_declarator c hoists inner x h)) g.tree;
          next = g.next;
        }

    l_declarator : (hoists : Bool) (left : Heed) (x : Declarator) (k : Numbers) {h : Counts} → k.counts ≡ h →
        OpensDeclarator hoists (link_declarator (Within 0 left) x k).tree (made.hoisted_of hoists left x h) (made.made_declarator c hoists left x h) (link_declarator (Within 0 left) x k).next (made.next_declarator left x h)
    l_declarator hoists left (MakeDeclarator l p none_expr) k q = record { before = λ xs. no_hoists hoists; tree = refl; next = q }
    l_declarator hoists left (MakeDeclarator l p (some_expr e)) k {h = h} q =
        let place = left_in left e in
        let m = marks (Within 0 place) construct_kind.Statement (bare_place e) k in
        let d = l_expr place made.Alone e (after_marks (Within 0 place) construct_kind.Statement (bare_place e) k) (started construct_kind.Statement place (bare_place e) k q) in
        let t = (link_expr (Within 0 place) linked.Alone e (after_marks (Within 0 place) construct_kind.Statement (bare_place e) k)).tree in
        let n = numbered construct_kind.Statement place (bare_place e) k q in
        let bare = bare_linked (Within 0 place) linked.Alone e (after_marks (Within 0 place) construct_kind.Statement (bare_place e) k) in
        let same : is_anonymous (enter_expr m 0 t) ≡ is_anonymous e = anonymous_entered m 0 t ∙ anonymous_linked (Within 0 place) linked.Alone e _ in
        record {
          before = λ xs. function_before (made.number construct_kind.Statement place (bare_place e) h) hoists (is_anonymous e) t n bare same;
          tree = ap (λ v. MakeDeclarator l p (some_expr v))
              (ap (λ b. initial c hoists b (bound_name p) (expr_marks (enter_expr m 0 t)) (rw_expr (enter_expr m 0 t))) same
              ∙ value_is construct_kind.Statement (made.number construct_kind.Statement place (bare_place e) h) (initial c hoists (is_anonymous e) (bound_name p)) t n bare d.tree);
          next = d.next;
        }

    l_init : (left : Heed) (x : ForInit) (k : Numbers) {h : Counts} → k.counts ≡ h →
        Links (rewritten_for_init c (λ i. 0) (link_for_init (Within 0 left) x k).tree) (made.made_init c left x h) (link_for_init (Within 0 left) x k).next (made.next_init left x h)
    l_init left NoInit k q = record { tree = refl; next = q }
    l_init left (InitDeclaration kind xs) k q = let d = l_declarators false left xs k q in record { tree = ap (InitDeclaration kind) d.tree; next = d.next }
    l_init left (InitExpression e) k q = links_one InitExpression (l_expr (left_in left e) made.Alone e k q)

    l_target : (left : Heed) (x : ForTarget) (k : Numbers) {h : Counts} → k.counts ≡ h →
        Links (rewritten_for_target c (λ i. 0) (link_for_target (Within 0 left) x k).tree) (made.made_target c left x h) (link_for_target (Within 0 left) x k).next (made.next_target left x h)
    l_target left (TargetDeclaration kind p) k q = record { tree = refl; next = q }
    l_target left (TargetExpression e) k q = links_one TargetExpression (l_expr (left_in left e) made.Alone e k q)

    l_cases : (left : Heed) (b : Option ℕ) {m : Marks} → m ≡ to_marks construct_kind.Branch b → (path : ℕ) (xs : Cases) (k : Numbers) {h : Counts} → k.counts ≡ h →
        Links (rewritten_cases c (λ i. 0) (link_cases (Within 0 left) m path xs k).tree) (made.made_cases c left b path xs h) (link_cases (Within 0 left) m path xs k).next (made.next_cases left xs h)
    l_cases left b p path no_case k q = record { tree = refl; next = q }
    l_cases left b {m = m} p path (more_case x xs) k {h = h} q =
        let inner = heed left (case_place x) in
        let i = (link_case (Within 0 inner) x k).next in
        let j = made.next_case inner x h in
        let d = l_case inner b p path x k q in
        links_two more_case d (subst (λ second. Links (rewritten_cases c (λ i. 0) (link_cases (Within 0 left) m second xs i).tree) (made.made_cases c left b (past inner path) xs j)
        (link_cases (Within 0 left) m second xs i).next (made.next_cases left xs j)) (sym (past_same inner path)) (l_cases left b p (past inner path) xs i d.next))

    l_case : (left : Heed) (b : Option ℕ) {m : Marks} → m ≡ to_marks construct_kind.Branch b → (path : ℕ) (x : Case) (k : Numbers) {h : Counts} → k.counts ≡ h →
        Links (rewritten_case c (λ i. 0) (enter_case (by_path (Within 0 left) m) path (link_case (Within 0 left) x k).tree)) (made.made_case c left (counts c (path_marks left b path)) x h) (link_case (Within 0 left) x k).next (made.next_case left x h)
    l_case left b p path (MakeCase l e xs) k q =
        let e' = link_expr_if (Within 0 left) e k in
        let d = l_maybe left e k q in
        let g = l_stmts false left xs e'.next d.next in
        record { tree = case_entered b left path l e'.tree (link_stmts (Within 0 left) xs e'.next).tree p d.tree g.tree; next = g.next }
    l_case left b p path (EnteredCase m x) k q = l_case left b p path x k q

    l_catch : (left : Heed) (x : Catch) (k : Numbers) {h : Counts} → k.counts ≡ h →
        Links (rewritten_catch c (λ i. 0) (link_catch (Within 0 left) x k).tree) (made.made_catch c left x h) (link_catch (Within 0 left) x k).next (made.next_catch left x h)
    l_catch left (MakeCatch p xs) k q = links_one (MakeCatch p) (l_stmts true left xs k q)

-- a file
pub makes_rewritten : MakesRewritten
makes_rewritten c first (MakeFile body comments) = ap (λ xs. MakeFile (after_directives first xs) comments) (l_stmts c true (heed_comments comments) body at_first refl).tree
