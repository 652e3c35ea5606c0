-- What is made of a part at a site that is as the one here, and of the forms that hold one value: a default, an initializer, an arrow's expression, a method.
use Rattle.std.proofs.Common.{◌≡◌, ◌++◌, ℕ, Bool, false, List, Option, None, refl, ap, sym, ◌∙◌}
use Rattle.js_terms.specs.declared.construct.ConstructKind.TheVariants as construct_kind
use Rattle.js_terms.specs.declared.place.Loc.{Loc}
use Rattle.js_tree.specs.Hints.{Heed}
use Rattle.js_tree.specs.Linked.{Counts, function_place}
use Rattle.js_terms.specs.Mark.{Mark}
use Rattle.js_tree.specs.Places.{bare_place, body_place, concise_place}
use Rattle.js_tree.specs.Plain.{Expr, ArrowFunction, Conditional, Stmt, Stmts, MaybeStmt, ConciseBody, ExpressionBody, PropertyKey, Property, Method, Function, Pattern, Param, Params, MakeParam, Declarator, MakeDeclarator, some_expr}
use Rattle.cov_rewritten.specs.Rewritten.{is_anonymous, bound_name, joined, counts, counted, held, initial}
use Rattle.cov_rewrite.specs.Blocks.{block_unless, concise_of}
use Rattle.cov_rewrite.specs.Made as made
use Rattle.cov_rewrite.proofs.Forms.{method_inside, method_next}

-- what is made of the same thing
pub same_of : {A B : Type 0} (f : A → B) {x y : A} {r : B} → x ≡ y → r ≡ f y → r ≡ f x
same_of f p h = h ∙ sym (ap f p)

-- an expression, a leaf, a statement, a path, counters and an arm, made where the counter is the same, and what is left
pub value_at : (o : made.Operand) (e : Expr) (k : Counts) {c c' : Mark → Expr} {l l' : Heed} {r : Expr} → c' ≡ c → l' ≡ l → r ≡ made.made_expr c' l' o e k → r ≡ made.made_expr c l o e k
value_at o e k {c = c} {l' = l'} p q h = h ∙ ap (λ n. made.made_expr n l' o e k) p ∙ ap (λ l. made.made_expr c l o e k) q

pub leaf_at : (o : made.Operand) (e : Expr) (k : Counts) {c c' : Mark → Expr} {l l' : Heed} {r : Expr} → c' ≡ c → l' ≡ l →
    r ≡ made.leaf c' l' o e (made.made_expr c' l' o e k) → r ≡ made.leaf c l o e (made.made_expr c l o e k)
leaf_at o e k {c = c} {l' = l'} p q h = h ∙ ap (λ n. made.leaf n l' o e (made.made_expr n l' o e k)) p ∙ ap (λ l. made.leaf c l o e (made.made_expr c l o e k)) q

pub stmt_at : (x : Stmt) (k : Counts) {c c' : Mark → Expr} {l l' : Heed} {r : Stmt} → c' ≡ c → l' ≡ l → r ≡ made.made_stmt c' false l' x k → r ≡ made.made_stmt c false l x k
stmt_at x k {c = c} {l' = l'} p q h = h ∙ ap (λ n. made.made_stmt n false l' x k) p ∙ ap (λ l. made.made_stmt c false l x k) q

pub path_at : (l : Heed) (b : Option ℕ) (path : ℕ) (e : Expr) (k : Counts) {c c' : Mark → Expr} {r : Expr} → c' ≡ c →
    r ≡ counted c' (made.path_marks l b path) (made.made_expr c' l made.Alone e k) → r ≡ counted c (made.path_marks l b path) (made.made_expr c l made.Alone e k)
path_at l b path e k p h = h ∙ ap (λ n. counted n (made.path_marks l b path) (made.made_expr n l made.Alone e k)) p

pub counts_at : (ms : List Mark) {c c' : Mark → Expr} {zs : Stmts} → c' ≡ c → zs ≡ counts c' ms → zs ≡ counts c ms
counts_at ms p h = h ∙ ap (λ n. counts n ms) p

pub arm_at : (l : Heed) (y : MaybeStmt) (k : Counts) {c c' : Mark → Expr} {r : MaybeStmt} → c' ≡ c → r ≡ made.bare_arm c' l y k → r ≡ made.bare_arm c l y k
arm_at l y k p h = h ∙ ap (λ n. made.bare_arm n l y k) p

-- the body of a loop
pub looped_made : (c : Mark → Expr) (l : Heed) (x : Stmt) (k : Counts) {zs : Stmts} {s r : Stmt} → zs ≡ counts c (made.marks_before false l x k) → s ≡ made.made_stmt c false l x k →
    r ≡ block_unless zs s → r ≡ made.made_looped c l x k
looped_made c l x k hz hs hr = rw (hr, hz, hs) refl

-- the numbers after a condition
pub conditional_next : (left : Heed) (loc : Option Loc) (e f g : Expr) (k : Counts) {lf lg : Heed} {j i h n : Counts} → j ≡ made.after construct_kind.Branch left loc k →
    lf ≡ made.left_in left f → lg ≡ made.left_in left g → i ≡ made.next_expr (made.left_in left e) false e j → h ≡ made.next_expr lf false f i → n ≡ made.next_expr lg false g h →
    n ≡ made.next_expr left false (Conditional loc e f g) k
conditional_next left loc e f g k hj hf hg hi hh hn = rw (hn, hh, hi, hf, hg, hj) refl

-- a default
pub default_made : (c : Mark → Expr) (left : Heed) (loc : Option Loc) (pattern : Pattern) (e : Expr) (k : Counts) {b n : Option ℕ} {anonymous : Bool} {v w : Expr} →
    b ≡ made.number construct_kind.Branch left loc k → n ≡ made.branch_in (made.left_in left e) b → anonymous ≡ is_anonymous e →
    v ≡ made.made_expr c (made.left_in left e) made.Alone e (made.after construct_kind.Branch left loc k) →
    w ≡ held c anonymous (bound_name pattern) (made.marks_of construct_kind.Branch 0 n) v → MakeParam loc pattern (some_expr w) ≡ made.made_param c left (MakeParam loc pattern (some_expr e)) k
default_made c left loc pattern e k hb hn ha hv hw = rw (hw, hn, hb, ha, hv) refl

-- an initializer
pub initializer_made : (c : Mark → Expr) (hoists : Bool) (left : Heed) (loc : Option Loc) (pattern : Pattern) (e : Expr) (k : Counts) {n : Option ℕ} {anonymous : Bool} {v w : Expr} →
    n ≡ made.number construct_kind.Statement (made.left_in left e) (bare_place e) k → anonymous ≡ is_anonymous e →
    v ≡ made.made_expr c (made.left_in left e) made.Alone e (made.after construct_kind.Statement (made.left_in left e) (bare_place e) k) →
    w ≡ initial c hoists anonymous (bound_name pattern) (made.marks_of construct_kind.Statement 0 n) v →
    MakeDeclarator loc pattern (some_expr w) ≡ made.made_declarator c hoists left (MakeDeclarator loc pattern (some_expr e)) k
initializer_made c hoists left loc pattern e k hn ha hv hw = rw (hw, hn, ha, hv) refl

-- an arrow's expression
pub concise_made : (c : Mark → Expr) (left : Heed) (zs : Stmts) (e : Expr) (k : Counts) {more : Stmts} {v : Expr} → more ≡ counts c (made.value_marks left e k) →
    v ≡ made.made_expr c (made.left_in left e) made.Alone e (made.after construct_kind.Statement (made.left_in left e) (bare_place e) k) →
    concise_of (joined zs more) v ≡ made.made_concise c left zs (ExpressionBody e) k
concise_made c left zs e k hm hv = rw (hm, hv) refl

-- an arrow
pub arrow_made : (c : Mark → Expr) (left : Heed) (loc : Option Loc) (params : Params) (body : ConciseBody) (k : Counts) {p : Option Loc} {zs : Stmts} {j i : Counts} {ps : Params} {b : ConciseBody} →
    p ≡ function_place loc None (concise_place body) → zs ≡ counts c (made.own_marks construct_kind.Function left p k) → j ≡ made.after construct_kind.Function left p k →
    ps ≡ made.made_params c left params j → i ≡ made.next_params left params j → b ≡ made.made_concise c left zs body i → ArrowFunction loc 0 ps b ≡ made.made_expr c left made.Alone (ArrowFunction loc 0 params body) k
arrow_made c left loc params body k hp hzs hj hps hi hb = rw (hb, hps, hzs, hi, hj, hp) refl

-- a method
pub method_made : (c : Mark → Expr) (left : Heed) (loc : Option Loc) (key : PropertyKey) (f : Function) (k : Counts) {p : Option Loc} {zs : Stmts} {j i : Counts} {key' : PropertyKey} {f' : Function} →
    p ≡ function_place loc None (body_place f) → zs ≡ counts c (made.own_marks construct_kind.Function left p k) → j ≡ made.after construct_kind.Function left p k →
    key' ≡ made.made_key c left key j → i ≡ made.next_key left key j → f' ≡ made.made_inside c left zs f i → Method loc key' f' ≡ made.made_property c left (Method loc key f) k
method_made c left loc key f k hp hz hj hk hi hf = rw (hf, hk, hz, hi, hj, hp) (sym (method_inside c left loc key f k))

pub method_numbers : (left : Heed) (loc : Option Loc) (key : PropertyKey) (f : Function) (k : Counts) {p : Option Loc} {j i n : Counts} → p ≡ function_place loc None (body_place f) →
    j ≡ made.after construct_kind.Function left p k → i ≡ made.next_key left key j → n ≡ made.next_inside left f i → n ≡ made.next_property left (Method loc key f) k
method_numbers left loc key f k hp hj hi hn = rw (hn, hi, hj, hp) (sym (method_next left loc key f k))
