-- What is made of a node, from what is made of its parts.
use Rattle.std.proofs.Common.{◌≡◌, ◌+◌, ◌++◌, ◌||◌, ℕ, Bool, true, false, Option, None, length, refl, ap, sym, ◌∙◌}
use Rattle.js_terms.specs.declared.construct.ConstructKind.TheVariants as construct_kind
use Rattle.js_terms.specs.declared.place.Loc.{Loc}
use Rattle.js_tree.specs.declared.hint.Hint.TheVariants as hint
use Rattle.js_tree.specs.Hints.{Heed, heed, heed_arm, leaf_paths}
use Rattle.js_tree.specs.Linked.{Counts, function_place}
use Rattle.js_terms.specs.Mark.{Mark}
use Rattle.js_tree.specs.Places.{body_place, stmt_if_place, stmt_place}
use Rattle.js_tree.specs.Plain.{Expr, Conditional, Stmt, Stmts, MaybeStmt, If, Switch, Cases, PropertyKey, Property, Method, Function, MakeFunction}
use Rattle.cov_rewritten.specs.Rewritten.{counted, counts}
use Rattle.cov_rewrite.specs.Blocks.{are_some, arm_of, else_of}
use Rattle.cov_rewrite.specs.Made as made

-- one that is what its arm says
pub of_expr : (c : Mark → Expr) (left : Heed) (k : Counts) {x y r : Expr} → x ≡ y → r ≡ made.made_expr c left made.Alone y k → r ≡ made.made_expr c left made.Alone x k
of_expr c left k p h = h ∙ sym (ap (λ x. made.made_expr c left made.Alone x k) p)

pub next_of_expr : (left : Heed) (k : Counts) {x y : Expr} {j : Counts} → x ≡ y → j ≡ made.next_expr left false y k → j ≡ made.next_expr left false x k
next_of_expr left k p h = h ∙ sym (ap (λ x. made.next_expr left false x k) p)

pub of_stmt : (c : Mark → Expr) (home : Bool) (left : Heed) (k : Counts) {x y r : Stmt} → x ≡ y → r ≡ made.made_stmt c home left y k → r ≡ made.made_stmt c home left x k
of_stmt c home left k p h = h ∙ sym (ap (λ x. made.made_stmt c home left x k) p)

pub next_of_stmt : (left : Heed) (k : Counts) {x y : Stmt} {j : Counts} → x ≡ y → j ≡ made.next_stmt left y k → j ≡ made.next_stmt left x k
next_of_stmt left k p h = h ∙ sym (ap (λ x. made.next_stmt left x k) p)

-- numbers one after the other
pub then_next : {j h : Counts} {k : Counts} (f : Counts → Counts) → j ≡ k → h ≡ f j → h ≡ f k
then_next f p q = q ∙ ap f p

-- parts one after the other, each with the numbers after those before it
pub one_part : {A T : Type 0} (F : A → T) (f : Counts → A) {a : A} {j k : Counts} → j ≡ k → a ≡ f j → F a ≡ F (f k)
one_part F f n p = ap F (p ∙ ap f n)

pub two_parts : {A B T : Type 0} (F : A → B → T) (f : Counts → A) (f' : Counts → Counts) (g : Counts → B) {a : A} {b : B} {j k i : Counts} →
    j ≡ k → a ≡ f j → i ≡ f' j → b ≡ g i → F a b ≡ F (f k) (g (f' k))
two_parts F f f' g {b = b} {k = k} n p m q = ap (λ a. F a b) (p ∙ ap f n) ∙ one_part (F (f k)) g (m ∙ ap f' n) q

pub three_parts : {A B C T : Type 0} (F : A → B → C → T) (f : Counts → A) (f' : Counts → Counts) (g : Counts → B) (g' : Counts → Counts) (h : Counts → C) {a : A} {b : B} {c : C} {j k i l : Counts} →
    j ≡ k → a ≡ f j → i ≡ f' j → b ≡ g i → l ≡ g' i → c ≡ h l → F a b c ≡ F (f k) (g (f' k)) (h (g' (f' k)))
three_parts F f f' g g' h {b = b} {c = c} {k = k} n p m q o r = ap (λ a. F a b c) (p ∙ ap f n) ∙ two_parts (F (f k)) g g' h (m ∙ ap f' n) q o r

pub four_parts : {A B C D T : Type 0} (F : A → B → C → D → T) (f : Counts → A) (f' : Counts → Counts) (g : Counts → B) (g' : Counts → Counts) (h : Counts → C) (h' : Counts → Counts) (e : Counts → D)
    {a : A} {b : B} {c : C} {d : D} {j k i l m : Counts} →
    j ≡ k → a ≡ f j → i ≡ f' j → b ≡ g i → l ≡ g' i → c ≡ h l → m ≡ h' l → d ≡ e m → F a b c d ≡ F (f k) (g (f' k)) (h (g' (f' k))) (e (h' (g' (f' k))))
four_parts F f f' g g' h h' e {b = b} {c = c} {d = d} {k = k} n p o q s r t u = ap (λ a. F a b c d) (p ∙ ap f n) ∙ three_parts (F (f k)) g g' h h' e (o ∙ ap f' n) q s r t u

-- a function, and a method, by what stands after its number
pub function_inside : (c : Mark → Expr) (left : Heed) (place : Option Loc) (f : Function) (k : Counts) →
    made.made_function c left place f k ≡ made.made_inside c left (counts c (made.own_marks construct_kind.Function left place k)) f (made.after construct_kind.Function left place k)
function_inside c left place (MakeFunction i params body) k = refl

pub function_next : (left : Heed) (place : Option Loc) (f : Function) (k : Counts) → made.next_function left place f k ≡ made.next_inside left f (made.after construct_kind.Function left place k)
function_next left place (MakeFunction i params body) k = refl

pub method_inside : (c : Mark → Expr) (left : Heed) (loc : Option Loc) (key : PropertyKey) (f : Function) (k : Counts) →
    made.made_property c left (Method loc key f) k
    ≡ Method loc (made.made_key c left key (made.after construct_kind.Function left (function_place loc None (body_place f)) k))
    (made.made_inside c left (counts c (made.own_marks construct_kind.Function left (function_place loc None (body_place f)) k)) f (made.next_key left key (made.after construct_kind.Function left (function_place loc None (body_place f)) k)))
method_inside c left loc key (MakeFunction i params body) k = refl

pub method_next : (left : Heed) (loc : Option Loc) (key : PropertyKey) (f : Function) (k : Counts) →
    made.next_property left (Method loc key f) k ≡ made.next_inside left f (made.next_key left key (made.after construct_kind.Function left (function_place loc None (body_place f)) k))
method_next left loc key (MakeFunction i params body) k = refl

-- the operands of a logical operator, with its branch and the next of its paths
pub logical_made : (c : Mark → Expr) (left : Heed) (F : Expr → Expr → Expr) (e f : Expr) (path : ℕ) {b d : Option ℕ} {j k i : Counts} {p : ℕ} {r s : Expr} → b ≡ d → j ≡ k →
    r ≡ made.leaf c (made.left_in left e) (made.Among b path) e (made.made_expr c (made.left_in left e) (made.Among b path) e j) →
    p ≡ path + length (leaf_paths (made.left_in left e) e) → i ≡ made.next_expr (made.left_in left e) true e j →
    s ≡ made.leaf c (made.left_in left f) (made.Among b p) f (made.made_expr c (made.left_in left f) (made.Among b p) f i) →
    F r s ≡ F (made.leaf c (made.left_in left e) (made.Among d path) e (made.made_expr c (made.left_in left e) (made.Among d path) e k))
    (made.leaf c (made.left_in left f) (made.Among d (path + length (leaf_paths (made.left_in left e) e))) f
    (made.made_expr c (made.left_in left f) (made.Among d (path + length (leaf_paths (made.left_in left e) e))) f (made.next_expr (made.left_in left e) true e k)))
logical_made c left F e f path {b = b} {d = d} {j = j} {k = k} {i = i} {p = p} {s = s} hb hj hr hp hi hs =
    let le = made.left_in left e in
    let lf = made.left_in left f in
    let one : Option ℕ → Counts → Expr = λ b j. made.leaf c le (made.Among b path) e (made.made_expr c le (made.Among b path) e j) in
    let other : Option ℕ → ℕ → Counts → Expr = λ b p i. made.leaf c lf (made.Among b p) f (made.made_expr c lf (made.Among b p) f i) in
    ap (λ r. F r s) (hr ∙ ap (λ b. one b j) hb ∙ ap (one d) hj)
    ∙ ap (F (one d k)) (hs ∙ ap (λ b. other b p i) hb ∙ ap (λ p. other d p i) hp ∙ ap (other d (path + length (leaf_paths le e))) (hi ∙ ap (made.next_expr le true e) hj))

-- a branch's number, and the numbers after it
pub conditional_made : (c : Mark → Expr) (left : Heed) (loc : Option Loc) (e f g : Expr) (k : Counts) {b : Option ℕ} {lf lg : Heed} {q : ℕ} {j i h : Counts} {r s t : Expr} →
    b ≡ made.number construct_kind.Branch left loc k → j ≡ made.after construct_kind.Branch left loc k → lf ≡ made.left_in left f → lg ≡ made.left_in left g →
    r ≡ made.made_expr c (made.left_in left e) made.Alone e j → i ≡ made.next_expr (made.left_in left e) false e j →
    s ≡ counted c (made.path_marks lf b 0) (made.made_expr c lf made.Alone f i) → h ≡ made.next_expr lf false f i → q ≡ made.past lf 0 →
    t ≡ counted c (made.path_marks lg b q) (made.made_expr c lg made.Alone g h) → Conditional loc r s t ≡ made.made_expr c left made.Alone (Conditional loc e f g) k
conditional_made c left loc e f g k {b = b} {lf = lf} {lg = lg} {q = q} {j = j} {i = i} {h = h} {s = s} {t = t} hb hj hf hg hr hi hs hh hq ht =
    let le = made.left_in left e in
    let Lf = made.left_in left f in
    let Lg = made.left_in left g in
    let B = made.number construct_kind.Branch left loc k in
    let J = made.after construct_kind.Branch left loc k in
    let I = made.next_expr le false e J in
    let hi' : i ≡ I = hi ∙ ap (made.next_expr le false e) hj in
    let second : Heed → Option ℕ → Counts → Expr = λ l b i. counted c (made.path_marks l b 0) (made.made_expr c l made.Alone f i) in
    let third : Heed → Option ℕ → ℕ → Counts → Expr = λ l b q h. counted c (made.path_marks l b q) (made.made_expr c l made.Alone g h) in
    let hh' : h ≡ made.next_expr Lf false f I = hh ∙ ap (λ l. made.next_expr l false f i) hf ∙ ap (made.next_expr Lf false f) hi' in
    ap (λ r. Conditional loc r s t) (hr ∙ ap (made.made_expr c le made.Alone e) hj)
    ∙ ap (λ s. Conditional loc (made.made_expr c le made.Alone e J) s t) (hs ∙ ap (λ l. second l b i) hf ∙ ap (λ b. second Lf b i) hb ∙ ap (second Lf B) hi')
    ∙ ap (Conditional loc (made.made_expr c le made.Alone e J) (second Lf B I))
    (ht ∙ ap (λ l. third l b q h) hg ∙ ap (λ b. third Lg b q h) hb ∙ ap (λ q. third Lg B q h) (hq ∙ ap (λ l. made.past l 0) hf) ∙ ap (third Lg B (made.past Lf 0)) hh')

-- a `switch` after its own number
pub switch_made : (c : Mark → Expr) (left : Heed) (loc : Option Loc) (e : Expr) (xs : Cases) (k : Counts) {J j i : Counts} {b : Option ℕ} {r : Expr} {ys : Cases} → J ≡ made.after construct_kind.Statement left loc k →
    b ≡ made.number construct_kind.Branch left loc J → j ≡ made.after construct_kind.Branch left loc J → r ≡ made.made_expr c (made.left_in left e) made.Alone e j → i ≡ made.next_expr (made.left_in left e) false e j →
    ys ≡ made.made_cases c left b 0 xs i → Switch loc r ys ≡ made.made_stmt c false left (Switch loc e xs) k
switch_made c left loc e xs k {J = J} {j = j} {i = i} {b = b} {ys = ys} from hb hj hr hi hs =
    let le = made.left_in left e in
    let at = made.after construct_kind.Branch left loc in
    let form : Counts → Stmt = λ J. Switch loc (made.made_expr c le made.Alone e (at J)) (made.made_cases c left (made.number construct_kind.Branch left loc J) 0 xs (made.next_expr le false e (at J))) in
    ap (λ r. Switch loc r ys) (hr ∙ ap (made.made_expr c le made.Alone e) hj)
    ∙ ap (Switch loc (made.made_expr c le made.Alone e (at J))) (hs ∙ ap (λ b. made.made_cases c left b 0 xs i) hb ∙ ap (made.made_cases c left (made.number construct_kind.Branch left loc J) 0 xs) (hi ∙ ap (made.next_expr le false e) hj))
    ∙ ap form from

-- an `if` after its own number
pub if_made : (c : Mark → Expr) (left : Heed) (loc : Option Loc) (e : Expr) (x : Stmt) (y : MaybeStmt) (k : Counts) {J h i j : Counts} {b : Option ℕ} {H G : Heed} {q : ℕ} {r : Expr} {zs ws : Stmts} {s s' : Stmt} {t t' : MaybeStmt} →
    J ≡ made.after construct_kind.Statement left loc k → b ≡ made.number construct_kind.Branch left loc J → h ≡ made.after construct_kind.Branch left loc J →
    r ≡ made.made_expr c (made.left_in left e) made.Alone e h → i ≡ made.next_expr (made.left_in left e) false e h →
    H ≡ heed (heed_arm hint.If left loc) (stmt_place x) → G ≡ heed (heed_arm hint.Else left loc) (stmt_if_place y) →
    zs ≡ counts c (made.path_marks H b 0 ++ made.marks_before false H x i) → s ≡ made.made_stmt c false H x i → j ≡ made.next_stmt H x i → q ≡ made.past H 0 →
    ws ≡ counts c (made.path_marks G b q ++ made.arm_before G y j) → t ≡ made.bare_arm c G y j →
    s' ≡ arm_of (are_some zs || are_some ws) zs s → t' ≡ else_of (are_some zs || are_some ws) ws t → If loc r s' t' ≡ made.made_stmt c false left (If loc e x y) k
if_made c left loc e x y k from hb hh hr hi hH hG hzs hs hj hq hws ht hs' ht' = rw (hs', ht', hr, hzs, hws, hs, ht, hj, hq, hi, hH, hG, hh, hb, from) refl

pub if_next : (left : Heed) (loc : Option Loc) (e : Expr) (x : Stmt) (y : MaybeStmt) (k : Counts) {J h i j n : Counts} {H G : Heed} →
    J ≡ made.after construct_kind.Statement left loc k → h ≡ made.after construct_kind.Branch left loc J → i ≡ made.next_expr (made.left_in left e) false e h →
    H ≡ heed (heed_arm hint.If left loc) (stmt_place x) → G ≡ heed (heed_arm hint.Else left loc) (stmt_if_place y) →
    j ≡ made.next_stmt H x i → n ≡ made.next_arm G y j → n ≡ made.next_stmt left (If loc e x y) k
if_next left loc e x y k from hh hi hH hG hj hn = rw (hn, hj, hi, hH, hG, hh, from) refl
