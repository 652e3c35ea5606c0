-- A stable sort of segments gives the order that is defined.
use Rattle.std.proofs.Common.{◌≡◌, ℕ, suc, ◌+◌, ◌<◌, ◌≤◌, ◌&&◌, Bool, true, false, not, cond, List, [], ◌∷◌, ◌++◌, length, get_or, fold, refl, sym, ap, ◌∙◌, append_assoc, append-nil, subst, arith}
use Rattle.std.specs.List.{filter, AllByRecursion}
use Rattle.std.specs.List.Sorted.{IsSortedBy, IsStableBy, ties}
use Rattle.std.specs.Cmp.{IsStrictWeakOrder}
use Rattle.std.proofs.lemmas.Bool.Decides.{nat_tests}
use Rattle.std.proofs.lemmas.List.Sorted.{sorted_far}
use Rattle.source_map.specs.declared.place.Segment.{Segment}
use Rattle.source_map.specs.Map.{is_before}
use Rattle.source_map.specs.Mappings.{placed, in_order}
use Rattle.source_map.specs.private.Order.{AreInOrder as Up}

abbrev pub NotBefore : Segment → Segment → Type 0
NotBefore segment other = is_before segment other ≡ false

one-way : (a b : Segment) → is_before a b ≡ true → is_before b a ≡ false
one-way a b h = grind (arith, nat_tests)

pub chain : (a b c : Segment) → is_before a b ≡ false → is_before b c ≡ false → is_before a c ≡ false
chain a b c h k = grind (arith, nat_tests)

pub before_order : IsStrictWeakOrder is_before
before_order = record { one_way = one-way; chain = chain }

itself : (a : Segment) → NotBefore a a
itself a = grind (arith, nat_tests)

-- ---- in order

all-of : (x : Segment) (xs : List Segment) → ((k : ℕ) → k < length xs → NotBefore (get_or xs k x) x) → AllByRecursion (λ y. NotBefore y x) xs
all-of x [] h = tt
all-of x (y ∷ ys) h = (h 0 (omega arith), all-of x ys (λ k p. h (suc k) (omega arith)))

up-of : (xs : List Segment) → ((i j : ℕ) (d : Segment) → i ≤ j → j < length xs → NotBefore (get_or xs j d) (get_or xs i d)) → Up xs
up-of [] h = tt
up-of (x ∷ xs) h = (all-of x xs (λ k p. h 0 (suc k) x (omega arith) (omega arith)), up-of xs (λ i j d p q. h (suc i) (suc j) d (omega arith) (omega arith)))

is-up : (xs : List Segment) → IsSortedBy is_before xs → Up xs
is-up xs sorted = up-of xs (λ i j d p q. sorted_far is_before before_order xs sorted i j d p q)

-- ---- inserted in order

all-placed-by : (b : Bool) (x s y : Segment) (ys : List Segment) → AllByRecursion (λ y. NotBefore y x) (y ∷ ys) → NotBefore s x → AllByRecursion (λ y. NotBefore y x) (placed s ys) →
    AllByRecursion (λ y. NotBefore y x) (cond b (s ∷ y ∷ ys) (y ∷ placed s ys))
all-placed-by true x s y ys all own rest = (own, all)
all-placed-by false x s y ys all own rest = (all.0, rest)

all-placed : (x s : Segment) (xs : List Segment) → AllByRecursion (λ y. NotBefore y x) xs → NotBefore s x → AllByRecursion (λ y. NotBefore y x) (placed s xs)
all-placed x s [] all own = (own, tt)
all-placed x s (y ∷ ys) all own = all-placed-by (is_before s y) x s y ys all own (all-placed x s ys all.1 own)

all-later : (x s : Segment) (xs : List Segment) → AllByRecursion (λ y. NotBefore y x) xs → NotBefore x s → AllByRecursion (λ y. NotBefore y s) xs
all-later x s [] all h = tt
all-later x s (y ∷ ys) all h = (chain y x s all.0 h, all-later x s ys all.1 h)

up-placed-by : (b : Bool) (s x : Segment) (xs : List Segment) → is_before s x ≡ b → Up (x ∷ xs) → Up (placed s xs) → Up (cond b (s ∷ x ∷ xs) (x ∷ placed s xs))
up-placed-by true s x xs e up rest = ((one-way s x e, all-later x s xs up.0 (one-way s x e)), up)
up-placed-by false s x xs e up rest = (all-placed x s xs up.0 e, rest)

up-placed : (s : Segment) (xs : List Segment) → Up xs → Up (placed s xs)
up-placed s [] up = (tt, tt)
up-placed s (x ∷ xs) up = up-placed-by (is_before s x) s x xs refl up (up-placed s xs up.1)

-- ---- those that tie stay as they come

abbrev tie : Segment → Segment → Bool
tie x y = ties is_before x y

tie-not : (x s y : Segment) → tie x s ≡ true → is_before s y ≡ true → tie x y ≡ false
tie-not x s y h k = grind (arith, nat_tests)

before-later : (s x y : Segment) → is_before s x ≡ true → NotBefore y x → is_before s y ≡ true
before-later s x y h k = grind (arith, nat_tests)

none-tie : (x s : Segment) (ys : List Segment) → tie x s ≡ true → AllByRecursion (λ y. is_before s y ≡ true) ys → filter (tie x) ys ≡ []
none-tie x s [] h all = refl
none-tie x s (y ∷ ys) h all = ap (λ b. cond b (y ∷ filter (tie x) ys) (filter (tie x) ys)) (tie-not x s y h all.0) ∙ none-tie x s ys h all.1

all-before : (s x : Segment) (xs : List Segment) → is_before s x ≡ true → AllByRecursion (λ y. NotBefore y x) xs → AllByRecursion (λ y. is_before s y ≡ true) xs
all-before s x [] h all = tt
all-before s x (y ∷ ys) h all = (before-later s x y h all.0, all-before s x ys h all.1)

front-by : (b : Bool) (x s : Segment) (ys : List Segment) → tie x s ≡ b → AllByRecursion (λ y. is_before s y ≡ true) ys →
    cond b (s ∷ filter (tie x) ys) (filter (tie x) ys) ≡ filter (tie x) ys ++ cond b (s ∷ []) []
front-by true x s ys e all = ap (λ zs. s ∷ zs) (none-tie x s ys e all) ∙ ap (λ zs. zs ++ s ∷ []) (sym (none-tie x s ys e all))
front-by false x s ys e all = sym (append-nil (filter (tie x) ys))

keep-by : (b : Bool) (x y : Segment) (left right : List Segment) (rest : List Segment) → left ≡ right ++ rest → cond b (y ∷ left) left ≡ cond b (y ∷ right) right ++ rest
keep-by true x y left right rest e = ap (λ zs. y ∷ zs) e
keep-by false x y left right rest e = e

filter-placed-by : (b : Bool) (x s y : Segment) (ys : List Segment) → is_before s y ≡ b → Up (y ∷ ys) → filter (tie x) (placed s ys) ≡ filter (tie x) ys ++ cond (tie x s) (s ∷ []) [] →
    filter (tie x) (cond b (s ∷ y ∷ ys) (y ∷ placed s ys)) ≡ filter (tie x) (y ∷ ys) ++ cond (tie x s) (s ∷ []) []
filter-placed-by true x s y ys e up rest = front-by (tie x s) x s (y ∷ ys) refl (e, all-before s y ys e up.0)
filter-placed-by false x s y ys e up rest = keep-by (tie x y) x y (filter (tie x) (placed s ys)) (filter (tie x) ys) (cond (tie x s) (s ∷ []) []) rest

filter-placed : (x s : Segment) (ys : List Segment) → Up ys → filter (tie x) (placed s ys) ≡ filter (tie x) ys ++ cond (tie x s) (s ∷ []) []
filter-placed x s [] up = refl
filter-placed x s (y ∷ ys) up = filter-placed-by (is_before s y) x s y ys refl up (filter-placed x s ys up.1)

one-tie : (b : Bool) (s : Segment) (rest : List Segment) → cond b (s ∷ []) [] ++ rest ≡ cond b (s ∷ rest) rest
one-tie true s rest = refl
one-tie false s rest = refl

record Ordered (xs : List Segment) (done all : List Segment) : Type 0 where
  up : Up all
  same : (x : Segment) → filter (tie x) all ≡ filter (tie x) done ++ filter (tie x) xs

ordered : (xs done : List Segment) → Up done → Ordered xs done (fold (λ sorted segment. placed segment sorted) done xs)
ordered [] done up = record { up = up; same = λ x. sym (append-nil (filter (tie x) done)) }
ordered (s ∷ xs) done up =
    let rest = ordered xs (placed s done) (up-placed s done up) in
    record {
      up = rest.up;
      same = λ x.
          rest.same x
          ∙ ap (λ zs. zs ++ filter (tie x) xs) (filter-placed x s done up)
          ∙ append_assoc (filter (tie x) done) (cond (tie x s) (s ∷ []) []) (filter (tie x) xs)
          ∙ ap (λ zs. filter (tie x) done ++ zs) (one-tie (tie x s) s (filter (tie x) xs));
    }

-- ---- there is one such order

tie-itself : (x : Segment) → tie x x ≡ true
tie-itself x = ap (λ b. not b && not b) (itself x)

tie-of : (x y : Segment) → NotBefore x y → NotBefore y x → tie x y ≡ true
tie-of x y a b = ap (λ p. not p && not (is_before y x)) a ∙ ap (λ q. not q) b

head-of : (x y : Segment) (xs ys : List Segment) → x ∷ xs ≡ y ∷ ys → x ≡ y
head-of x y xs ys e = cc

tail-of : (x y : Segment) (xs ys : List Segment) → x ∷ xs ≡ y ∷ ys → xs ≡ ys
tail-of x y xs ys e = cc

not-empty : {G : Type 0} (x : Segment) (xs : List Segment) → x ∷ xs ≡ [] → G
not-empty x xs e = cc

-- the first that passes is one of them
among-by : (b : Bool) (P : Segment → Type 0) (p : Segment → Bool) (x y : Segment) (ys rest : List Segment) → P y → (filter p ys ≡ x ∷ rest → P x) → cond b (y ∷ filter p ys) (filter p ys) ≡ x ∷ rest → P x
among-by true P p x y ys rest own later e = subst P (head-of y x (filter p ys) rest e) own
among-by false P p x y ys rest own later e = later e

among : (P : Segment → Type 0) (p : Segment → Bool) (x : Segment) (ys rest : List Segment) → AllByRecursion P ys → filter p ys ≡ x ∷ rest → P x
among P p x [] rest all e = not-empty x rest (sym e)
among P p x (y ∷ ys) rest all e = among-by (p y) P p x y ys rest all.0 (λ h. among P p x ys rest all.1 h) e

abbrev Alike : List Segment → List Segment → Type 0
Alike xs ys = (z : Segment) → filter (tie z) xs ≡ filter (tie z) ys

with-first : (x : Segment) (xs : List Segment) → filter (tie x) (x ∷ xs) ≡ x ∷ filter (tie x) xs
with-first x xs = ap (λ b. cond b (x ∷ filter (tie x) xs) (filter (tie x) xs)) (tie-itself x)

tie-by : (b c : Bool) (x y : Segment) (xs ys : List Segment) → tie x y ≡ b → tie y x ≡ c → Up (x ∷ xs) → Up (y ∷ ys) → Alike (x ∷ xs) (y ∷ ys) → tie x y ≡ true
tie-by true c x y xs ys e h up vp alike = e
tie-by false true x y xs ys e h up vp alike = tie-turned x y h
  where
    tie-turned : (x y : Segment) → tie y x ≡ true → tie x y ≡ true
    tie-turned x y h = grind (arith, nat_tests)
tie-by false false x y xs ys e h up vp alike =
    let in_ys : filter (tie x) ys ≡ x ∷ filter (tie x) xs = sym (ap (λ b. cond b (y ∷ filter (tie x) ys) (filter (tie x) ys)) e) ∙ sym (alike x) ∙ with-first x xs in
    let in_xs : filter (tie y) xs ≡ y ∷ filter (tie y) ys = sym (ap (λ b. cond b (x ∷ filter (tie y) xs) (filter (tie y) xs)) h) ∙ alike y ∙ with-first y ys in
    tie-of x y (among (λ z. NotBefore z y) (tie x) x ys _ vp.0 in_ys) (among (λ z. NotBefore z x) (tie y) y xs _ up.0 in_xs)

cancel-by : (b : Bool) (x y : Segment) (xs ys : List Segment) → x ≡ y → cond b (x ∷ xs) xs ≡ cond b (y ∷ ys) ys → xs ≡ ys
cancel-by true x y xs ys e h = tail-of x y xs ys h
cancel-by false x y xs ys e h = h

same-order : (xs ys : List Segment) → Up xs → Up ys → Alike xs ys → xs ≡ ys
same-order [] [] up vp alike = refl
same-order [] (y ∷ ys) up vp alike = not-empty y (filter (tie y) ys) (sym (with-first y ys) ∙ sym (alike y))
same-order (x ∷ xs) [] up vp alike = not-empty x (filter (tie x) xs) (sym (with-first x xs) ∙ alike x)
same-order (x ∷ xs) (y ∷ ys) up vp alike =
    let tied = tie-by (tie x y) (tie y x) x y xs ys refl refl up vp alike in
    let heads : x ∷ filter (tie x) xs ≡ y ∷ filter (tie x) ys = sym (with-first x xs) ∙ alike x ∙ ap (λ b. cond b (y ∷ filter (tie x) ys) (filter (tie x) ys)) tied in
    let same : x ≡ y = head-of x y _ _ heads in
    ap (λ z. z ∷ xs) same
    ∙ ap (λ zs. y ∷ zs) (same-order xs ys up.1 vp.1 (λ z. cancel-by (tie z x) x y (filter (tie z) xs) (filter (tie z) ys) same
    (alike z ∙ ap (λ w. cond (tie z w) (y ∷ filter (tie z) ys) (filter (tie z) ys)) (sym same))))

pub sort-is : (old new : List Segment) → IsSortedBy is_before new → IsStableBy is_before old new → new ≡ in_order old
sort-is old new sorted stable =
    let all = ordered old [] tt in
    same-order new (in_order old) (is-up new sorted) all.up (λ x. stable x ∙ sym (all.same x))

pub in_order_up : (xs : List Segment) → Up (in_order xs)
in_order_up xs = (ordered xs [] tt).up
