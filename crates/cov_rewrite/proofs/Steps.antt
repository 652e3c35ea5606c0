-- One turn of each loop over a list of the tree: what is out and the numbers stay those of what is taken.
use Rattle.std.proofs.Common.{◌≡◌, ℕ, Bool, false, Option, List, refl, sym, ap, ◌∙◌}
use Rattle.js_terms.specs.declared.construct.ConstructKind.TheVariants as construct_kind
use Rattle.js_terms.specs.declared.place.Loc.{Loc}
use Rattle.js_tree.specs.Hints.{Heed, heed}
use Rattle.js_tree.specs.Linked.{Counts}
use Rattle.js_terms.specs.Mark.{Mark}
use Rattle.js_tree.specs.Places.{expr_place, stmt_place, property_place, param_place, declarator_place, case_place}
use Rattle.js_tree.specs.Plain.{Expr, Exprs, push_exprs, TemplatePart, TemplateParts, push_template_parts, Property, Properties, push_properties, Param, Params, push_params, Stmt, Stmts, push_stmts, Declarator, Declarators, push_declarators, Case, Cases, push_cases}
use Rattle.cov_rewritten.specs.Rewritten.{joined, counts}
use Rattle.cov_rewrite.specs.Made as made
use Rattle.cov_rewrite.proofs.Pushes.{exprs_next, exprs_more, parts_next, parts_more, properties_next, properties_more, params_next, params_more, stmts_next, stmts_more, still_first, still_none, declarators_next, declarators_more, hoists_more, cases_next, paths_next, cases_more}

pub exprs_step : (c c' : Mark → Expr) (left left' : Heed) (place : Option Loc) (xs : Exprs) (x : Expr) (k j h : Counts) (ys ys' : Exprs) (y : Expr) →
    (ys ≡ made.made_exprs c left xs k) × (j ≡ made.next_exprs left xs k) → place ≡ expr_place x → left' ≡ heed left place → c' ≡ c →
    y ≡ made.made_expr c' left' made.Alone x j → h ≡ made.next_expr left' false x j → ys' ≡ push_exprs ys y →
    (ys' ≡ made.made_exprs c left (push_exprs xs x) k) × (h ≡ made.next_exprs left (push_exprs xs x) k)
exprs_step c c' left left' place xs x k j h ys ys' y so_far p l e one next put =
    let inner : left' ≡ heed left (expr_place x) = l ∙ ap (heed left) p in (
      put ∙ exprs_more c left xs x k {ys = ys} {y = y} {j = j} so_far.0 so_far.1 (one ∙ ap (λ c. made.made_expr c left' made.Alone x j) e ∙ ap (λ l. made.made_expr c l made.Alone x j) inner),
      exprs_next left xs x k {j = j} {h = h} so_far.1 (next ∙ ap (λ l. made.next_expr l false x j) inner),
    )

pub properties_step : (c c' : Mark → Expr) (left left' : Heed) (place : Option Loc) (xs : Properties) (x : Property) (k j h : Counts) (ys ys' : Properties) (y : Property) →
    (ys ≡ made.made_properties c left xs k) × (j ≡ made.next_properties left xs k) → place ≡ property_place x → left' ≡ heed left place → c' ≡ c →
    y ≡ made.made_property c' left' x j → h ≡ made.next_property left' x j → ys' ≡ push_properties ys y →
    (ys' ≡ made.made_properties c left (push_properties xs x) k) × (h ≡ made.next_properties left (push_properties xs x) k)
properties_step c c' left left' place xs x k j h ys ys' y so_far p l e one next put =
    let inner : left' ≡ heed left (property_place x) = l ∙ ap (heed left) p in (
      put ∙ properties_more c left xs x k {ys = ys} {y = y} {j = j} so_far.0 so_far.1 (one ∙ ap (λ c. made.made_property c left' x j) e ∙ ap (λ l. made.made_property c l x j) inner),
      properties_next left xs x k {j = j} {h = h} so_far.1 (next ∙ ap (λ l. made.next_property l x j) inner),
    )

pub params_step : (c c' : Mark → Expr) (left left' : Heed) (place : Option Loc) (xs : Params) (x : Param) (k j h : Counts) (ys ys' : Params) (y : Param) →
    (ys ≡ made.made_params c left xs k) × (j ≡ made.next_params left xs k) → place ≡ param_place x → left' ≡ heed left place → c' ≡ c →
    y ≡ made.made_param c' left' x j → h ≡ made.next_param left' x j → ys' ≡ push_params ys y →
    (ys' ≡ made.made_params c left (push_params xs x) k) × (h ≡ made.next_params left (push_params xs x) k)
params_step c c' left left' place xs x k j h ys ys' y so_far p l e one next put =
    let inner : left' ≡ heed left (param_place x) = l ∙ ap (heed left) p in (
      put ∙ params_more c left xs x k {ys = ys} {y = y} {j = j} so_far.0 so_far.1 (one ∙ ap (λ c. made.made_param c left' x j) e ∙ ap (λ l. made.made_param c l x j) inner),
      params_next left xs x k {j = j} {h = h} so_far.1 (next ∙ ap (λ l. made.next_param l x j) inner),
    )

pub parts_step : (c : Mark → Expr) (left : Heed) (xs : TemplateParts) (x : TemplatePart) (k j h : Counts) (ys ys' : TemplateParts) (y : TemplatePart) →
    (ys ≡ made.made_parts c left xs k) × (j ≡ made.next_parts left xs k) →
    y ≡ made.made_part c left x j → h ≡ made.next_part left x j → ys' ≡ push_template_parts ys y →
    (ys' ≡ made.made_parts c left (push_template_parts xs x) k) × (h ≡ made.next_parts left (push_template_parts xs x) k)
parts_step c left xs x k j h ys ys' y so_far one next put =
    (put ∙ parts_more c left xs x k {ys = ys} {y = y} {j = j} so_far.0 so_far.1 one, parts_next left xs x k {j = j} {h = h} so_far.1 next)

pub stmts_step : (c c' : Mark → Expr) (home : Bool) (left left' : Heed) (place : Option Loc) (xs : Stmts) (x : Stmt) (k j h : Counts) (ys zs ys' ys'' : Stmts) (y : Stmt) →
    (ys ≡ made.made_stmts c home left xs k) × (j ≡ made.next_stmts left xs k) → place ≡ stmt_place x → left' ≡ heed left place → c' ≡ c →
    zs ≡ counts c' (made.marks_before home left' x j) → y ≡ made.made_stmt c' home left' x j → h ≡ made.next_stmt left' x j → ys' ≡ joined ys zs → ys'' ≡ push_stmts ys' y →
    (ys'' ≡ made.made_stmts c home left (push_stmts xs x) k) × (h ≡ made.next_stmts left (push_stmts xs x) k)
stmts_step c c' home left left' place xs x k j h ys zs ys' ys'' y so_far p l e before one next put put_one =
    let inner : left' ≡ heed left (stmt_place x) = l ∙ ap (heed left) p in (
      put_one ∙ ap (λ ys. push_stmts ys y) put
          ∙ stmts_more c home left xs x k {ys = ys} {zs = zs} {y = y} {j = j} so_far.0 so_far.1
          (before ∙ ap (λ c. counts c (made.marks_before home left' x j)) e ∙ ap (λ l. counts c (made.marks_before home l x j)) inner)
          (one ∙ ap (λ c. made.made_stmt c home left' x j) e ∙ ap (λ l. made.made_stmt c home l x j) inner),
      stmts_next left xs x k {j = j} {h = h} so_far.1 (next ∙ ap (λ l. made.next_stmt l x j) inner),
    )

pub declarators_step : (c c' : Mark → Expr) (home hoists : Bool) (left left' : Heed) (place : Option Loc) (xs : Declarators) (x : Declarator) (k j h : Counts) (ys ys' : Declarators) (ws zs ws' : Stmts) (y : Declarator) →
    (ys ≡ made.made_declarators c home left xs k) × (ws ≡ counts c (made.hoisted home left xs k)) × (hoists ≡ still_first xs home) × (j ≡ made.next_declarators left xs k) →
    place ≡ declarator_place x → left' ≡ heed left place → c' ≡ c →
    zs ≡ counts c' (made.hoisted_of hoists left' x j) → y ≡ made.made_declarator c' hoists left' x j → h ≡ made.next_declarator left' x j → ws' ≡ joined ws zs → ys' ≡ push_declarators ys y →
    (ys' ≡ made.made_declarators c home left (push_declarators xs x) k) × (ws' ≡ counts c (made.hoisted home left (push_declarators xs x) k))
    × (false ≡ still_first (push_declarators xs x) home) × (h ≡ made.next_declarators left (push_declarators xs x) k)
declarators_step c c' home hoists left left' place xs x k j h ys ys' ws zs ws' y so_far p l e before one next put put_one =
    let inner : left' ≡ heed left (declarator_place x) = l ∙ ap (heed left) p in (
      put_one ∙ declarators_more c home left xs x k {ys = ys} {y = y} {j = j} {b = hoists} so_far.0 so_far.3 so_far.2
          (one ∙ ap (λ c. made.made_declarator c hoists left' x j) e ∙ ap (λ l. made.made_declarator c hoists l x j) inner),
      put ∙ hoists_more c home left xs x k {ys = ws} {zs = zs} {j = j} {b = hoists} so_far.1 so_far.3 so_far.2
          (before ∙ ap (λ c. counts c (made.hoisted_of hoists left' x j)) e ∙ ap (λ l. counts c (made.hoisted_of hoists l x j)) inner),
      sym (still_none xs x home),
      declarators_next left xs x k {j = j} {h = h} so_far.3 (next ∙ ap (λ l. made.next_declarator l x j) inner),
    )

pub cases_step : (c c' : Mark → Expr) (left left' : Heed) (place : Option Loc) (b number : Option ℕ) (path path' : ℕ) (xs : Cases) (x : Case) (k j h : Counts) (ys ys' : Cases) (zs : Stmts) (y : Case) →
    (ys ≡ made.made_cases c left b 0 xs k) × (path ≡ made.past_cases left 0 xs) × (j ≡ made.next_cases left xs k) →
    place ≡ case_place x → left' ≡ heed left place → c' ≡ c → number ≡ made.branch_in left' b →
    zs ≡ counts c (made.marks_of construct_kind.Branch path number) → y ≡ made.made_case c' left' zs x j → h ≡ made.next_case left' x j → path' ≡ made.past left' path → ys' ≡ push_cases ys y →
    (ys' ≡ made.made_cases c left b 0 (push_cases xs x) k) × (path' ≡ made.past_cases left 0 (push_cases xs x)) × (h ≡ made.next_cases left (push_cases xs x) k)
cases_step c c' left left' place b number path path' xs x k j h ys ys' zs y so_far p l e in_branch before one next further put =
    let inner : left' ≡ heed left (case_place x) = l ∙ ap (heed left) p in (
      put ∙ cases_more c left b 0 xs x k {ys = ys} {zs = zs} {y = y} {i = path} {j = j} so_far.0 so_far.2 so_far.1
          (before ∙ ap (λ n. counts c (made.marks_of construct_kind.Branch path n)) (in_branch ∙ ap (λ l. made.branch_in l b) inner))
          (one ∙ ap (λ c. made.made_case c left' zs x j) e ∙ ap (λ l. made.made_case c l zs x j) inner),
      paths_next left 0 xs x {i = path} {j = path'} so_far.1 (further ∙ ap (λ l. made.past l path) inner),
      cases_next left xs x k {j = j} {h = h} so_far.2 (next ∙ ap (λ l. made.next_case l x j) inner),
    )
