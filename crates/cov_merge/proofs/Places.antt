-- The place of an entry's key, and what adding does there.
use Rattle.std.proofs.Common.{◌≡◌, ℕ, ◌+◌, ◌<◌, Bool, true, false, cond, List, [], ◌∷◌, ◌++◌, Option, Some, None, length, set, get_or, zero, suc, Vec, refl, sym, ap, ◌∙◌, arith, add-one}
use Rattle.std.specs.Option.{option_map}
use Rattle.std.specs.Ordering.{is_eq, eq_by_cmp}
use Rattle.std.specs.declared.cmp.Ordering.{Ordering}
use Rattle.std.specs.declared.alloc.Global.{Global}
use Rattle.std.specs.Cmp.{IsTotalOrder, IsEquivalence, eq_by_cmp_equiv}
use Rattle.cov_merge.specs.Kind.{Kind}
use Rattle.cov_merge.specs.Sums.{added, plus}
use Rattle.cov_merge.specs.declared.tally.Tally.{Tally}
use Rattle.cov_merge.specs.private.Table.{place_of, added_at, tallies_of}

-- ---- the place of the first that passes

abbrev next : ℕ → ℕ
next place = place + 1

-- what the place is, by whether the first passes and by the place among the rest
place-first : {X : Type 0} (test : X → Bool) (x : X) (xs : List X) → test x ≡ true → place_of test (x ∷ xs) ≡ Some 0
place-first test x xs e = ap (λ b. cond b (Some 0) (option_map next (place_of test xs))) e

place-later : {X : Type 0} (test : X → Bool) (x : X) (xs : List X) → test x ≡ false → place_of test (x ∷ xs) ≡ option_map next (place_of test xs)
place-later test x xs e = ap (λ b. cond b (Some 0) (option_map next (place_of test xs))) e

some-inside : (a b : ℕ) → Some a ≡ Some b → a ≡ b
some-inside a b e = cc

not_none : {G : Type 0} (a : ℕ) → Some a ≡ None → G
not_none a e = cc

place-bound-by : {X : Type 0} (test : X → Bool) (x : X) (xs : List X) (i : ℕ) (b : Bool) (o : Option ℕ) → test x ≡ b → place_of test xs ≡ o → ((j : ℕ) → o ≡ Some j → j < length xs) → place_of test (x ∷ xs) ≡ Some i → i < length (x ∷ xs)
place-bound-by test x xs i true o e p h is =
    let first : 0 ≡ i = some-inside 0 i (sym (place-first test x xs e) ∙ is) in omega arith
place-bound-by test x xs i false None e p h is = not_none i (sym is ∙ place-later test x xs e ∙ ap (option_map next) p)
place-bound-by test x xs i false (Some j) e p h is =
    let at : j + 1 ≡ i = some-inside (j + 1) i (sym (ap (option_map next) p) ∙ sym (place-later test x xs e) ∙ is) in
    let below : j < length xs = h j refl in
    omega arith

pub place-bound : {X : Type 0} (test : X → Bool) (xs : List X) (i : ℕ) → place_of test xs ≡ Some i → i < length xs
place-bound test [] i is = not_none i (sym is)
place-bound test (x ∷ xs) i is = place-bound-by test x xs i (test x) (place_of test xs) refl refl (λ j e. place-bound test xs j e) is

-- ---- one more at the end

rest-none : (o : Option ℕ) → option_map next o ≡ None → o ≡ None
rest-none None h = refl
rest-none (Some i) h = not_none (i + 1) h

none-later : {X : Type 0} (test : X → Bool) (x : X) (xs : List X) (b : Bool) → test x ≡ b → place_of test (x ∷ xs) ≡ None → (test x ≡ false) × (place_of test xs ≡ None)
none-later test x xs true e none = not_none 0 (sym (place-first test x xs e) ∙ none)
none-later test x xs false e none = (e, rest-none (place_of test xs) (sym (place-later test x xs e) ∙ none))

-- one that passes, after those that don't
pub place-end : {X : Type 0} (test : X → Bool) (xs : List X) (y : X) → test y ≡ true → place_of test xs ≡ None → place_of test (xs ++ y ∷ []) ≡ Some (length xs)
place-end test [] y e none = place-first test y [] e
place-end test (x ∷ xs) y e none =
    let parts = none-later test x xs (test x) refl none in
    place-later test x (xs ++ y ∷ []) parts.0 ∙ ap (option_map next) (place-end test xs y e parts.1) ∙ ap Some (add-one (length xs))

place-other-by : {X : Type 0} (test : X → Bool) (x : X) (xs ys : List X) (b : Bool) → test x ≡ b → place_of test ys ≡ place_of test xs → place_of test (x ∷ ys) ≡ place_of test (x ∷ xs)
place-other-by test x xs ys true e h = place-first test x ys e ∙ sym (place-first test x xs e)
place-other-by test x xs ys false e h = place-later test x ys e ∙ ap (option_map next) h ∙ sym (place-later test x xs e)

-- one that doesn't pass changes nothing
pub place-other : {X : Type 0} (test : X → Bool) (xs : List X) (y : X) → test y ≡ false → place_of test (xs ++ y ∷ []) ≡ place_of test xs
place-other test [] y e = place-later test y [] e
place-other test (x ∷ xs) y e = place-other-by test x xs (xs ++ y ∷ []) (test x) refl (place-other test xs y e)

-- tests that agree find the same place
pub place-same : {X : Type 0} (test other : X → Bool) (xs : List X) → ((x : X) → test x ≡ other x) → place_of test xs ≡ place_of other xs
place-same test other [] h = refl
place-same test other (x ∷ xs) h =
    ap (λ b. cond b (Some 0) (option_map next (place_of test xs))) (h x)
    ∙ ap (λ o. cond (other x) (Some 0) (option_map next o)) (place-same test other xs h)

-- ---- adding

module _ {T : Type 0} (kind : Kind T) (entry : T) where
  abbrev is_key : T × List ℕ → Bool
  is_key tally = kind.same tally.0 entry

  -- an entry whose key is new stands last
  pub added-new : (tallies : List (T × List ℕ)) → place_of is_key tallies ≡ None → added kind tallies entry ≡ tallies ++ (entry, kind.counts entry) ∷ []
  added-new [] none = refl
  added-new (tally ∷ tallies) none =
      let parts = none-later is_key tally tallies (is_key tally) refl none in
      ap (λ b. cond b ((tally.0, plus tally.1 (kind.counts entry)) ∷ tallies) (tally ∷ added kind tallies entry)) parts.0
      ∙ ap (λ rest. tally ∷ rest) (added-new tallies parts.1)

  added-found-by : (tally : T × List ℕ) (tallies : List (T × List ℕ)) (i : ℕ) (b : Bool) (o : Option ℕ) → is_key tally ≡ b → place_of is_key tallies ≡ o →
      ((j : ℕ) → o ≡ Some j → added kind tallies entry ≡ added_at j (kind.counts entry) tallies) →
      place_of is_key (tally ∷ tallies) ≡ Some i → added kind (tally ∷ tallies) entry ≡ added_at i (kind.counts entry) (tally ∷ tallies)
  added-found-by tally tallies i true o e p h is =
      ap (λ b. cond b ((tally.0, plus tally.1 (kind.counts entry)) ∷ tallies) (tally ∷ added kind tallies entry)) e
      ∙ ap (λ j. added_at j (kind.counts entry) (tally ∷ tallies)) (some-inside 0 i (sym (place-first is_key tally tallies e) ∙ is))
  added-found-by tally tallies i false None e p h is = not_none i (sym is ∙ place-later is_key tally tallies e ∙ ap (option_map next) p)
  added-found-by tally tallies i false (Some j) e p h is =
      ap (λ b. cond b ((tally.0, plus tally.1 (kind.counts entry)) ∷ tallies) (tally ∷ added kind tallies entry)) e
      ∙ ap (λ rest. tally ∷ rest) (h j refl)
      ∙ ap (λ k. added_at k (kind.counts entry) (tally ∷ tallies))
      (sym (add-one j) ∙ some-inside (j + 1) i (sym (ap (option_map next) p) ∙ sym (place-later is_key tally tallies e) ∙ is))

  -- an entry whose key is there is added to the first with that key
  pub added-found : (tallies : List (T × List ℕ)) (i : ℕ) → place_of is_key tallies ≡ Some i → added kind tallies entry ≡ added_at i (kind.counts entry) tallies
  added-found [] i is = not_none i (sym is)
  added-found (tally ∷ tallies) i is = added-found-by tally tallies i (is_key tally) (place_of is_key tallies) refl refl (λ j e. added-found tallies j e) is

  -- keys stay where they are when counts are added
  pub place-added_at : (tallies : List (T × List ℕ)) (place : ℕ) (counts : List ℕ) → place_of is_key (added_at place counts tallies) ≡ place_of is_key tallies
  place-added_at [] place counts = refl
  place-added_at (tally ∷ tallies) zero counts = refl
  place-added_at (tally ∷ tallies) (suc place) counts =
      ap (λ o. cond (kind.same tally.0 entry) (Some 0) (option_map next o)) (place-added_at tallies place counts)

-- ---- in the table

pub set-added_at : {T : Type 0} (items : List (Tally T)) (place : ℕ) (old : Tally T) (sums : Vec ℕ Global) (counts : List ℕ) → old ≡ get_or items place old → sums.items ≡ plus old.sums.items counts →
    tallies_of (set items place (record { entry = old.entry; sums = sums })) ≡ added_at place counts (tallies_of items)
set-added_at [] place old sums counts at is = refl
set-added_at (x ∷ xs) zero old sums counts at is =
    ap (λ (new : List ℕ). (old.entry.now, new) ∷ tallies_of xs) is
    ∙ ap (λ (tally : Tally _). (tally.entry.now, plus tally.sums.items counts) ∷ tallies_of xs) at
set-added_at (x ∷ xs) (suc place) old sums counts at is = ap (λ rest. (x.entry.now, x.sums.items) ∷ rest) (set-added_at xs place old sums counts at is)

module _ {T : Type 0} (kind : Kind T) (order : T → T → Ordering) (total : IsTotalOrder order) (tells : (a b : T) → eq_by_cmp order a b ≡ kind.same a b) where
  same-equiv : IsEquivalence (eq_by_cmp order)
  same-equiv = eq_by_cmp_equiv total

  new-by : (tallies : List (T × List ℕ)) (entry other : T) (counts : List ℕ) (b : Bool) → eq_by_cmp order entry other ≡ b →
      place_of (λ tally. kind.same tally.0 entry) tallies ≡ None →
      cond b (Some (length tallies)) (place_of (λ tally. kind.same tally.0 other) tallies) ≡ place_of (λ tally. kind.same tally.0 other) (tallies ++ (entry, counts) ∷ [])
  new-by tallies entry other counts true e none =
      let alike : (x : T × List ℕ) → kind.same x.0 other ≡ kind.same x.0 entry = λ x.
      sym (tells x.0 other) ∙ same-equiv.symm x.0 other ∙ sym (same-equiv.congr entry other x.0 e) ∙ sym (same-equiv.symm x.0 entry) ∙ tells x.0 entry in
      sym (place-end (λ tally. kind.same tally.0 other) tallies (entry, counts) (sym (tells entry other) ∙ e) (place-same (λ tally. kind.same tally.0 other) (λ tally. kind.same tally.0 entry) tallies alike ∙ none))
  new-by tallies entry other counts false e none = sym (place-other (λ tally. kind.same tally.0 other) tallies (entry, counts) (sym (tells entry other) ∙ e))

  -- with a new entry at the end, each key is found at the place of its entry
  pub place-new : (tallies : List (T × List ℕ)) (entry other : T) (counts : List ℕ) → place_of (λ tally. kind.same tally.0 entry) tallies ≡ None →
      cond (is_eq (order entry other)) (Some (length tallies)) (place_of (λ tally. kind.same tally.0 other) tallies) ≡ place_of (λ tally. kind.same tally.0 other) (tallies ++ (entry, counts) ∷ [])
  place-new tallies entry other counts none = new-by tallies entry other counts (is_eq (order entry other)) refl none

pub length-tallies_of : {T : Type 0} (items : List (Tally T)) → length (tallies_of items) ≡ length items
length-tallies_of [] = refl
length-tallies_of (x ∷ xs) = ap suc (length-tallies_of xs)

-- one more tally
pub tallies_of-more : {T : Type 0} (items : List (Tally T)) (tally : Tally T) → tallies_of (items ++ tally ∷ []) ≡ tallies_of items ++ (tally.entry.now, tally.sums.items) ∷ []
tallies_of-more [] tally = refl
tallies_of-more (x ∷ xs) tally = ap (λ rest. (x.entry.now, x.sums.items) ∷ rest) (tallies_of-more xs tally)
