-- Entries summed by their keys.
use Rattle.std.specs.Prelude.{ℕ, ◌+◌, cond, nat_lt, List, [], ◌∷◌, map, fold}
use Rattle.std.specs.List.{zip}
use Rattle.cov_merge.specs.Kind.{Kind}

-- 2^53: a count is below it
abbrev pub limit : ℕ
limit = 9007199254740992

-- a running sum with one more count: it stops where it first reaches 2^53
abbrev pub running : ℕ → ℕ → ℕ
running sum count = cond (nat_lt sum limit) (sum + count) sum

-- running sums, each with its count
abbrev pub plus : List ℕ → List ℕ → List ℕ
plus sums counts = map (λ both. running both.0 both.1) (zip sums counts)

-- the entries so far, each beside its running sums, with one more entry: it is added to the first one with its key, else stands last
abbrev pub added : {T : Type 0} → Kind T → List (T × List ℕ) → T → List (T × List ℕ)
added kind [] entry = (entry, kind.counts entry) ∷ []
added kind (tally ∷ tallies) entry =
    cond (kind.same tally.0 entry) ((tally.0, plus tally.1 (kind.counts entry)) ∷ tallies) (tally ∷ added kind tallies entry)

-- the entries by their keys, in the order in which the keys first appear
abbrev pub summed : {T : Type 0} → Kind T → List T → List (T × List ℕ)
summed kind entries = fold (added kind) [] entries
