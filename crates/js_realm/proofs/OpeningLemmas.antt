-- The steps by which the opening realm is made.
use Rattle.std.proofs.Common.{◌≡◌, ℕ, suc, ◌<◌, ◌≤◌, ◌+◌, ◌-◌, List, length, drop, get_or, map, drop-cons, add-one, sym, ap, ◌∙◌, arith}
use Rattle.std.proofs.Math.ListN.{drop_of_length-le}
use Rattle.std.proofs.lemmas.List.{length-map, get_or-map}
use Rattle.js_value.specs.State.{Heap}
use Rattle.js_value.specs.Realm.{each, freeze_all, freeze_one}

-- none is left
pub no_more : {A : Type 0} (step : ℕ → A → Heap → Heap) (xs : List A) (i : ℕ) (h t : Heap) → length xs ≤ i → each step i (drop i xs) h ≡ t → h ≡ t
unfolding each
no_more step xs i h t le so_far = ap (λ ys. each step i ys h) (sym (drop_of_length-le xs le)) ∙ so_far

-- one more of a table that is read as it is
pub next_one : {A : Type 0} (step : ℕ → A → Heap → Heap) (xs : List A) (i : ℕ) (d : A) (h g t : Heap) → i < length xs →
    each step i (drop i xs) h ≡ t → g ≡ step i (get_or xs i d) h → each step (i + 1) (drop (i + 1) xs) g ≡ t
unfolding each
next_one step xs i d h g t lt so_far is =
    rw add-one (ap (each step (suc i) (drop (suc i) xs)) is ∙ sym (ap (λ ys. each step i ys h) (drop-cons xs i d lt)) ∙ so_far)

-- so many are left to be frozen
pub freeze_next : (k i : ℕ) (h g t : Heap) → i < k → freeze_all (k - i) i h ≡ t → g ≡ freeze_one i h → freeze_all (k - (i + 1)) (i + 1) g ≡ t
unfolding freeze_all
freeze_next k i h g t lt so_far is =
    let e : suc (k - suc i) ≡ k - i = omega arith in
    rw add-one (ap (freeze_all (k - suc i) (suc i)) is ∙ ap (λ n. freeze_all n i h) e ∙ so_far)

pub freeze_none : (k i : ℕ) (h t : Heap) → k ≤ i → freeze_all (k - i) i h ≡ t → h ≡ t
unfolding freeze_all
freeze_none k i h t le so_far =
    let e : k - i ≡ 0 = omega arith in
    sym (ap (λ n. freeze_all n i h) e) ∙ so_far

-- one more of a table, as the definition reads it
pub one_more : {X A : Type 0} (step : ℕ → A → Heap → Heap) (f : X → A) (xs : List X) (i : ℕ) (d : X) (h g t : Heap) → i < length xs →
    each step i (drop i (map f xs)) h ≡ t → g ≡ step i (f (get_or xs i d)) h → each step (i + 1) (drop (i + 1) (map f xs)) g ≡ t
one_more step f xs i d h g t lt so_far is =
    let within : i < length (map f xs) = rw length-map lt in
    next_one step (map f xs) i (f d) h g t within so_far (is ∙ ap (λ a. step i a h) (sym (get_or-map f xs i d (f d) lt)))

-- none of it is left
pub none_more : {X A : Type 0} (step : ℕ → A → Heap → Heap) (f : X → A) (xs : List X) (i : ℕ) (h t : Heap) → length xs ≤ i → each step i (drop i (map f xs)) h ≡ t → h ≡ t
none_more step f xs i h t le so_far = let past : length (map f xs) ≤ i = rw length-map le in no_more step (map f xs) i h t past so_far
