-- Things that are numbered: each beside its id.
use Rattle.std.specs.Prelude.{ℕ, ◌^◌, ◌<◌, List, [], ◌∷◌, map}
use Rattle.std.specs.Ordering.{nat_cmp}
use Rattle.std.specs.List.Sorted.{IsStrictlySortedBy}

-- the ids ascend, so none stands twice
abbrev pub Ascends : {T : Type 0} → List (ℕ × T) → Type 0
Ascends things = IsStrictlySortedBy nat_cmp (map (λ thing. thing.0) things)

-- each id is below 2^32, as those that are read are
abbrev pub AreSmall : {T : Type 0} → List (ℕ × T) → Type 0
AreSmall [] = Unit {0}
AreSmall (thing ∷ things) = (thing.0 < 2 ^ 32) × AreSmall things
