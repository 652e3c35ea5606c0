-- The table of entries, for private clauses.
use Rattle.std.specs.Prelude.{◌≡◌, ℕ, ◌+◌, Bool, cond, List, [], ◌∷◌, map, Option, Some, None, zero, suc}
use Rattle.std.specs.Option.{option_map}
use Rattle.std.specs.BTreeMap.{BTreeMap, get_by}
use Rattle.std.specs.declared.cmp.Ordering.{Ordering}
use Rattle.cov_merge.specs.declared.tally.Tally.{Tally}
use Rattle.cov_merge.specs.declared.by_key.ByKey.{ByKey}
use Rattle.cov_merge.specs.Kind.{Kind}
use Rattle.cov_merge.specs.Sums.{plus}

-- the entries themselves, each beside its sums
abbrev pub tallies_of : {T : Type 0} → List (Tally T) → List (T × List ℕ)
tallies_of tallies = map (λ tally. (tally.entry.now, tally.sums.items)) tallies

-- the place of the first one that passes
abbrev pub place_of : {X : Type 0} → (X → Bool) → List X → Option ℕ
place_of test [] = None
place_of test (x ∷ xs) = cond (test x) (Some 0) (option_map (λ place. place + 1) (place_of test xs))

-- each key is found at the place of its entry
abbrev pub AreFound : {T : Type 0} → Kind T → (T → T → Ordering) → BTreeMap (ByKey T) ℕ → List (T × List ℕ) → Type 0
AreFound {T} kind order places tallies =
    (key : ByKey T) → get_by (λ other. order key.0.now other.0.now) places ≡ place_of (λ tally. kind.same tally.0 key.0.now) tallies

-- the entries with these counts added to the sums at a place
abbrev pub added_at : {T : Type 0} → ℕ → List ℕ → List (T × List ℕ) → List (T × List ℕ)
added_at place counts [] = []
added_at zero counts (tally ∷ tallies) = (tally.0, plus tally.1 counts) ∷ tallies
added_at (suc place) counts (tally ∷ tallies) = tally ∷ added_at place counts tallies
