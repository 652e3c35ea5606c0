-- What the code makes of a list with one more at its end.
use Rattle.std.proofs.Common.{◌≡◌, ◌++◌, ◌∷◌, [], ◌+◌, ◌||◌, ℕ, List, Bool, true, false, Option, Some, None, refl, ap, sym, ◌∙◌}
use Rattle.js_tree.specs.Hints.{Heed, heed}
use Rattle.js_terms.specs.Mark.{Mark}
use Rattle.js_tree.specs.Places.{stmt_place, property_place, param_place, declarator_place, case_place}
use Rattle.js_tree.specs.Linked.{Counts}
use Rattle.js_tree.specs.Plain.{Expr, Exprs, no_expr, more_expr, push_exprs, TemplatePart, TemplateParts, no_template_part, more_template_part, push_template_parts, Property, Properties, no_property, more_property, push_properties}
use Rattle.js_tree.specs.Plain.{Param, Params, no_param, more_param, push_params, Stmt, Stmts, no_stmt, more_stmt, push_stmts, Declarator, MakeDeclarator, none_expr, some_expr, Declarators, no_declarator, more_declarator, push_declarators, Case, Cases, no_case, more_case, push_cases}
use Rattle.cov_rewritten.specs.Rewritten.{joined, counts}
use Rattle.cov_rewrite.specs.Made as made

exprs_after : (left : Heed) (xs : Exprs) (x : Expr) (k : Counts) → made.next_exprs left (push_exprs xs x) k ≡ made.next_expr (made.left_in left x) false x (made.next_exprs left xs k)
exprs_after left no_expr x k = refl
exprs_after left (more_expr y ys) x k = exprs_after left ys x (made.next_expr (made.left_in left y) false y k)

exprs_made : (c : Mark → Expr) (left : Heed) (xs : Exprs) (x : Expr) (k : Counts) → made.made_exprs c left (push_exprs xs x) k ≡ push_exprs (made.made_exprs c left xs k) (made.made_expr c (made.left_in left x) made.Alone x (made.next_exprs left xs k))
exprs_made c left no_expr x k = refl
exprs_made c left (more_expr y ys) x k = ap (more_expr (made.made_expr c (made.left_in left y) made.Alone y k)) (exprs_made c left ys x (made.next_expr (made.left_in left y) false y k))

pub exprs_next : (left : Heed) (xs : Exprs) (x : Expr) (k : Counts) {j h : Counts} → j ≡ made.next_exprs left xs k → h ≡ made.next_expr (made.left_in left x) false x j → h ≡ made.next_exprs left (push_exprs xs x) k
exprs_next left xs x k p q = q ∙ ap (λ j. made.next_expr (made.left_in left x) false x j) p ∙ sym (exprs_after left xs x k)

pub exprs_more : (c : Mark → Expr) (left : Heed) (xs : Exprs) (x : Expr) (k : Counts) {ys : Exprs} {y : Expr} {j : Counts} → ys ≡ made.made_exprs c left xs k → j ≡ made.next_exprs left xs k → y ≡ (made.made_expr c (made.left_in left x) made.Alone x j) →
    push_exprs ys y ≡ made.made_exprs c left (push_exprs xs x) k
exprs_more c left xs x k {y = y} p q r = ap (λ ys. push_exprs ys y) p ∙ ap (push_exprs (made.made_exprs c left xs k)) (r ∙ ap (λ j. (made.made_expr c (made.left_in left x) made.Alone x j)) q) ∙ sym (exprs_made c left xs x k)

parts_after : (left : Heed) (xs : TemplateParts) (x : TemplatePart) (k : Counts) → made.next_parts left (push_template_parts xs x) k ≡ made.next_part left x (made.next_parts left xs k)
parts_after left no_template_part x k = refl
parts_after left (more_template_part y ys) x k = parts_after left ys x (made.next_part left y k)

parts_made : (c : Mark → Expr) (left : Heed) (xs : TemplateParts) (x : TemplatePart) (k : Counts) → made.made_parts c left (push_template_parts xs x) k ≡ push_template_parts (made.made_parts c left xs k) (made.made_part c left x (made.next_parts left xs k))
parts_made c left no_template_part x k = refl
parts_made c left (more_template_part y ys) x k = ap (more_template_part (made.made_part c left y k)) (parts_made c left ys x (made.next_part left y k))

pub parts_next : (left : Heed) (xs : TemplateParts) (x : TemplatePart) (k : Counts) {j h : Counts} → j ≡ made.next_parts left xs k → h ≡ made.next_part left x j → h ≡ made.next_parts left (push_template_parts xs x) k
parts_next left xs x k p q = q ∙ ap (λ j. made.next_part left x j) p ∙ sym (parts_after left xs x k)

pub parts_more : (c : Mark → Expr) (left : Heed) (xs : TemplateParts) (x : TemplatePart) (k : Counts) {ys : TemplateParts} {y : TemplatePart} {j : Counts} → ys ≡ made.made_parts c left xs k → j ≡ made.next_parts left xs k → y ≡ (made.made_part c left x j) →
    push_template_parts ys y ≡ made.made_parts c left (push_template_parts xs x) k
parts_more c left xs x k {y = y} p q r = ap (λ ys. push_template_parts ys y) p ∙ ap (push_template_parts (made.made_parts c left xs k)) (r ∙ ap (λ j. (made.made_part c left x j)) q) ∙ sym (parts_made c left xs x k)

properties_after : (left : Heed) (xs : Properties) (x : Property) (k : Counts) → made.next_properties left (push_properties xs x) k ≡ made.next_property (heed left (property_place x)) x (made.next_properties left xs k)
properties_after left no_property x k = refl
properties_after left (more_property y ys) x k = properties_after left ys x (made.next_property (heed left (property_place y)) y k)

properties_made : (c : Mark → Expr) (left : Heed) (xs : Properties) (x : Property) (k : Counts) → made.made_properties c left (push_properties xs x) k ≡ push_properties (made.made_properties c left xs k) (made.made_property c (heed left (property_place x)) x (made.next_properties left xs k))
properties_made c left no_property x k = refl
properties_made c left (more_property y ys) x k = ap (more_property (made.made_property c (heed left (property_place y)) y k)) (properties_made c left ys x (made.next_property (heed left (property_place y)) y k))

pub properties_next : (left : Heed) (xs : Properties) (x : Property) (k : Counts) {j h : Counts} → j ≡ made.next_properties left xs k → h ≡ made.next_property (heed left (property_place x)) x j → h ≡ made.next_properties left (push_properties xs x) k
properties_next left xs x k p q = q ∙ ap (λ j. made.next_property (heed left (property_place x)) x j) p ∙ sym (properties_after left xs x k)

pub properties_more : (c : Mark → Expr) (left : Heed) (xs : Properties) (x : Property) (k : Counts) {ys : Properties} {y : Property} {j : Counts} → ys ≡ made.made_properties c left xs k → j ≡ made.next_properties left xs k → y ≡ (made.made_property c (heed left (property_place x)) x j) →
    push_properties ys y ≡ made.made_properties c left (push_properties xs x) k
properties_more c left xs x k {y = y} p q r = ap (λ ys. push_properties ys y) p ∙ ap (push_properties (made.made_properties c left xs k)) (r ∙ ap (λ j. (made.made_property c (heed left (property_place x)) x j)) q) ∙ sym (properties_made c left xs x k)

params_after : (left : Heed) (xs : Params) (x : Param) (k : Counts) → made.next_params left (push_params xs x) k ≡ made.next_param (heed left (param_place x)) x (made.next_params left xs k)
params_after left no_param x k = refl
params_after left (more_param y ys) x k = params_after left ys x (made.next_param (heed left (param_place y)) y k)

params_made : (c : Mark → Expr) (left : Heed) (xs : Params) (x : Param) (k : Counts) → made.made_params c left (push_params xs x) k ≡ push_params (made.made_params c left xs k) (made.made_param c (heed left (param_place x)) x (made.next_params left xs k))
params_made c left no_param x k = refl
params_made c left (more_param y ys) x k = ap (more_param (made.made_param c (heed left (param_place y)) y k)) (params_made c left ys x (made.next_param (heed left (param_place y)) y k))

pub params_next : (left : Heed) (xs : Params) (x : Param) (k : Counts) {j h : Counts} → j ≡ made.next_params left xs k → h ≡ made.next_param (heed left (param_place x)) x j → h ≡ made.next_params left (push_params xs x) k
params_next left xs x k p q = q ∙ ap (λ j. made.next_param (heed left (param_place x)) x j) p ∙ sym (params_after left xs x k)

pub params_more : (c : Mark → Expr) (left : Heed) (xs : Params) (x : Param) (k : Counts) {ys : Params} {y : Param} {j : Counts} → ys ≡ made.made_params c left xs k → j ≡ made.next_params left xs k → y ≡ (made.made_param c (heed left (param_place x)) x j) →
    push_params ys y ≡ made.made_params c left (push_params xs x) k
params_more c left xs x k {y = y} p q r = ap (λ ys. push_params ys y) p ∙ ap (push_params (made.made_params c left xs k)) (r ∙ ap (λ j. (made.made_param c (heed left (param_place x)) x j)) q) ∙ sym (params_made c left xs x k)

joined_twice : (xs ys zs : Stmts) → joined (joined xs ys) zs ≡ joined xs (joined ys zs)
joined_twice no_stmt ys zs = refl
joined_twice (more_stmt x xs) ys zs = ap (more_stmt x) (joined_twice xs ys zs)

joined_last : (xs ys : Stmts) (y : Stmt) → push_stmts (joined xs ys) y ≡ joined xs (joined ys (more_stmt y no_stmt))
joined_last no_stmt no_stmt y = refl
joined_last no_stmt (more_stmt z zs) y = ap (more_stmt z) (joined_last no_stmt zs y)
joined_last (more_stmt x xs) ys y = ap (more_stmt x) (joined_last xs ys y)

stmts_after : (left : Heed) (xs : Stmts) (x : Stmt) (k : Counts) → made.next_stmts left (push_stmts xs x) k ≡ made.next_stmt (heed left (stmt_place x)) x (made.next_stmts left xs k)
stmts_after left no_stmt x k = refl
stmts_after left (more_stmt y ys) x k = stmts_after left ys x (made.next_stmt (heed left (stmt_place y)) y k)

stmts_made : (c : Mark → Expr) (home : Bool) (left : Heed) (xs : Stmts) (x : Stmt) (k : Counts) →
    made.made_stmts c home left (push_stmts xs x) k
    ≡ joined (made.made_stmts c home left xs k) (joined (counts c (made.marks_before home (heed left (stmt_place x)) x (made.next_stmts left xs k))) (more_stmt (made.made_stmt c home (heed left (stmt_place x)) x (made.next_stmts left xs k)) no_stmt))
stmts_made c home left no_stmt x k = refl
stmts_made c home left (more_stmt y ys) x k =
    let inner = heed left (stmt_place y) in
    let before = counts c (made.marks_before home inner y k) in
    let one = made.made_stmt c home inner y k in
    let next = made.next_stmt inner y k in
    let last = heed left (stmt_place x) in
    let rest = joined (counts c (made.marks_before home last x (made.next_stmts left ys next))) (more_stmt (made.made_stmt c home last x (made.next_stmts left ys next)) no_stmt) in
    ap (λ zs. joined before (more_stmt one zs)) (stmts_made c home left ys x next)
    ∙ sym (joined_twice before (more_stmt one (made.made_stmts c home left ys next)) rest)

pub stmts_next : (left : Heed) (xs : Stmts) (x : Stmt) (k : Counts) {j h : Counts} → j ≡ made.next_stmts left xs k → h ≡ made.next_stmt (heed left (stmt_place x)) x j → h ≡ made.next_stmts left (push_stmts xs x) k
stmts_next left xs x k p q = q ∙ ap (made.next_stmt (heed left (stmt_place x)) x) p ∙ sym (stmts_after left xs x k)

pub stmts_more : (c : Mark → Expr) (home : Bool) (left : Heed) (xs : Stmts) (x : Stmt) (k : Counts) {ys zs : Stmts} {y : Stmt} {j : Counts} →
    ys ≡ made.made_stmts c home left xs k → j ≡ made.next_stmts left xs k → zs ≡ counts c (made.marks_before home (heed left (stmt_place x)) x j) → y ≡ made.made_stmt c home (heed left (stmt_place x)) x j →
    push_stmts (joined ys zs) y ≡ made.made_stmts c home left (push_stmts xs x) k
stmts_more c home left xs x k {ys = ys} {zs = zs} {y = y} p q r s =
    let inner = heed left (stmt_place x) in
    let all = made.made_stmts c home left xs k in
    joined_last ys zs y ∙ ap (λ ys. joined ys (joined zs (more_stmt y no_stmt))) p
    ∙ ap (λ zs. joined all (joined zs (more_stmt y no_stmt))) (r ∙ ap (λ j. counts c (made.marks_before home inner x j)) q)
    ∙ ap (λ y. joined all (joined (counts c (made.marks_before home inner x (made.next_stmts left xs k))) (more_stmt y no_stmt))) (s ∙ ap (made.made_stmt c home inner x) q)
    ∙ sym (stmts_made c home left xs x k)

-- ---- declarators: the first may hoist

abbrev pub still_first : Declarators → Bool → Bool
still_first no_declarator home = home
still_first (more_declarator y ys) home = false

pub still_none : (xs : Declarators) (x : Declarator) (home : Bool) → still_first (push_declarators xs x) home ≡ false
still_none no_declarator x home = refl
still_none (more_declarator y ys) x home = refl

declarators_after : (left : Heed) (xs : Declarators) (x : Declarator) (k : Counts) → made.next_declarators left (push_declarators xs x) k ≡ made.next_declarator (heed left (declarator_place x)) x (made.next_declarators left xs k)
declarators_after left no_declarator x k = refl
declarators_after left (more_declarator y ys) x k = declarators_after left ys x (made.next_declarator (heed left (declarator_place y)) y k)

later_made : (c : Mark → Expr) (left : Heed) (xs : Declarators) (x : Declarator) (k : Counts) →
    made.made_declarators c false left (push_declarators xs x) k ≡ push_declarators (made.made_declarators c false left xs k) (made.made_declarator c false (heed left (declarator_place x)) x (made.next_declarators left xs k))
later_made c left no_declarator x k = refl
later_made c left (more_declarator y ys) x k = ap (more_declarator (made.made_declarator c false (heed left (declarator_place y)) y k)) (later_made c left ys x (made.next_declarator (heed left (declarator_place y)) y k))

declarators_made : (c : Mark → Expr) (home : Bool) (left : Heed) (xs : Declarators) (x : Declarator) (k : Counts) →
    made.made_declarators c home left (push_declarators xs x) k
    ≡ push_declarators (made.made_declarators c home left xs k) (made.made_declarator c (still_first xs home) (heed left (declarator_place x)) x (made.next_declarators left xs k))
declarators_made c home left no_declarator x k = refl
declarators_made c home left (more_declarator y ys) x k = ap (more_declarator (made.made_declarator c home (heed left (declarator_place y)) y k)) (later_made c left ys x (made.next_declarator (heed left (declarator_place y)) y k))

none_later : (left : Heed) (x : Declarator) (k : Counts) → made.hoisted_of false left x k ≡ []
none_later left (MakeDeclarator l p none_expr) k = refl
none_later left (MakeDeclarator l p (some_expr e)) k = refl

nothing_after : (xs : Stmts) → joined xs no_stmt ≡ xs
nothing_after no_stmt = refl
nothing_after (more_stmt x xs) = ap (more_stmt x) (nothing_after xs)

-- what goes before the declaration is there after the first
hoists_made : (c : Mark → Expr) (home : Bool) (left : Heed) (xs : Declarators) (x : Declarator) (k : Counts) →
    counts c (made.hoisted home left (push_declarators xs x) k)
    ≡ joined (counts c (made.hoisted home left xs k)) (counts c (made.hoisted_of (still_first xs home) (heed left (declarator_place x)) x (made.next_declarators left xs k)))
hoists_made c home left no_declarator x k = refl
hoists_made c home left (more_declarator y ys) x k =
    sym (ap (λ ms. joined (counts c (made.hoisted_of home (heed left (declarator_place y)) y k)) (counts c ms)) (none_later (heed left (declarator_place x)) x (made.next_declarators left (more_declarator y ys) k))
    ∙ nothing_after (counts c (made.hoisted_of home (heed left (declarator_place y)) y k)))

pub declarators_next : (left : Heed) (xs : Declarators) (x : Declarator) (k : Counts) {j h : Counts} → j ≡ made.next_declarators left xs k → h ≡ made.next_declarator (heed left (declarator_place x)) x j →
    h ≡ made.next_declarators left (push_declarators xs x) k
declarators_next left xs x k p q = q ∙ ap (made.next_declarator (heed left (declarator_place x)) x) p ∙ sym (declarators_after left xs x k)

pub declarators_more : (c : Mark → Expr) (home : Bool) (left : Heed) (xs : Declarators) (x : Declarator) (k : Counts) {ys : Declarators} {y : Declarator} {j : Counts} {b : Bool} →
    ys ≡ made.made_declarators c home left xs k → j ≡ made.next_declarators left xs k → b ≡ still_first xs home → y ≡ made.made_declarator c b (heed left (declarator_place x)) x j →
    push_declarators ys y ≡ made.made_declarators c home left (push_declarators xs x) k
declarators_more c home left xs x k {y = y} {j = j} p q b r =
    let inner = heed left (declarator_place x) in
    ap (λ ys. push_declarators ys y) p ∙ ap (push_declarators (made.made_declarators c home left xs k)) (r ∙ ap (λ b. made.made_declarator c b inner x j) b ∙ ap (made.made_declarator c (still_first xs home) inner x) q)
    ∙ sym (declarators_made c home left xs x k)

pub hoists_more : (c : Mark → Expr) (home : Bool) (left : Heed) (xs : Declarators) (x : Declarator) (k : Counts) {ys zs : Stmts} {j : Counts} {b : Bool} →
    ys ≡ counts c (made.hoisted home left xs k) → j ≡ made.next_declarators left xs k → b ≡ still_first xs home → zs ≡ counts c (made.hoisted_of b (heed left (declarator_place x)) x j) →
    joined ys zs ≡ counts c (made.hoisted home left (push_declarators xs x) k)
hoists_more c home left xs x k {zs = zs} {j = j} p q b r =
    let inner = heed left (declarator_place x) in
    ap (λ ys. joined ys zs) p ∙ ap (joined (counts c (made.hoisted home left xs k))) (r ∙ ap (λ b. counts c (made.hoisted_of b inner x j)) b ∙ ap (λ j. counts c (made.hoisted_of (still_first xs home) inner x j)) q)
    ∙ sym (hoists_made c home left xs x k)

-- ---- clauses, with the next path

cases_after : (left : Heed) (xs : Cases) (x : Case) (k : Counts) → made.next_cases left (push_cases xs x) k ≡ made.next_case (heed left (case_place x)) x (made.next_cases left xs k)
cases_after left no_case x k = refl
cases_after left (more_case y ys) x k = cases_after left ys x (made.next_case (heed left (case_place y)) y k)

paths_after : (left : Heed) (path : ℕ) (xs : Cases) (x : Case) → made.past_cases left path (push_cases xs x) ≡ made.past (heed left (case_place x)) (made.past_cases left path xs)
paths_after left path no_case x = refl
paths_after left path (more_case y ys) x = paths_after left (made.past (heed left (case_place y)) path) ys x

cases_made : (c : Mark → Expr) (left : Heed) (b : Option ℕ) (path : ℕ) (xs : Cases) (x : Case) (k : Counts) →
    made.made_cases c left b path (push_cases xs x) k
    ≡ push_cases (made.made_cases c left b path xs k) (made.made_case c (heed left (case_place x)) (counts c (made.path_marks (heed left (case_place x)) b (made.past_cases left path xs))) x (made.next_cases left xs k))
cases_made c left b path no_case x k = refl
cases_made c left b path (more_case y ys) x k =
    let inner = heed left (case_place y) in
    ap (more_case (made.made_case c inner (counts c (made.path_marks inner b path)) y k)) (cases_made c left b (made.past inner path) ys x (made.next_case (heed left (case_place y)) y k))

pub cases_next : (left : Heed) (xs : Cases) (x : Case) (k : Counts) {j h : Counts} → j ≡ made.next_cases left xs k → h ≡ made.next_case (heed left (case_place x)) x j → h ≡ made.next_cases left (push_cases xs x) k
cases_next left xs x k p q = q ∙ ap (made.next_case (heed left (case_place x)) x) p ∙ sym (cases_after left xs x k)

pub paths_next : (left : Heed) (path : ℕ) (xs : Cases) (x : Case) {i j : ℕ} → i ≡ made.past_cases left path xs → j ≡ made.past (heed left (case_place x)) i → j ≡ made.past_cases left path (push_cases xs x)
paths_next left path xs x p q = q ∙ ap (made.past (heed left (case_place x))) p ∙ sym (paths_after left path xs x)

pub cases_more : (c : Mark → Expr) (left : Heed) (b : Option ℕ) (path : ℕ) (xs : Cases) (x : Case) (k : Counts) {ys : Cases} {zs : Stmts} {y : Case} {i : ℕ} {j : Counts} →
    ys ≡ made.made_cases c left b path xs k → j ≡ made.next_cases left xs k → i ≡ made.past_cases left path xs → zs ≡ counts c (made.path_marks (heed left (case_place x)) b i) → y ≡ made.made_case c (heed left (case_place x)) zs x j →
    push_cases ys y ≡ made.made_cases c left b path (push_cases xs x) k
cases_more c left b path xs x k {y = y} {i = i} {j = j} p q o r s =
    let inner = heed left (case_place x) in
    ap (λ ys. push_cases ys y) p
    ∙ ap (push_cases (made.made_cases c left b path xs k)) (s ∙ ap (λ zs. made.made_case c inner zs x j) (r ∙ ap (λ i. counts c (made.path_marks inner b i)) o)
    ∙ ap (made.made_case c inner (counts c (made.path_marks inner b (made.past_cases left path xs))) x) q)
    ∙ sym (cases_made c left b path xs x k)
