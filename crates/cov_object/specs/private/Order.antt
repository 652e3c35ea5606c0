-- The order of numbered members, for private clauses.
use Rattle.std.specs.Prelude.{ℕ, List, [], ◌∷◌, fold, decimal}
use Rattle.std.specs.Ordering.{nat_cmp}
use Rattle.std.specs.Cmp.Lexicographic.{slice_cmp}
use Rattle.std.specs.BTreeMap.{insert_entry}
use Rattle.serde_json.specs.Data.{Data, Members, no_members, member}

-- one more thing, put in by its id's digits
abbrev pub put_in : {T : Type 0} → List (List ℕ × T) → ℕ × T → List (List ℕ × T)
put_in sorted thing = insert_entry (slice_cmp nat_cmp) sorted (decimal thing.0) thing.1

-- the things, each beside its id's digits, in the byte order of these
abbrev pub in_key_order : {T : Type 0} → List (ℕ × T) → List (List ℕ × T)
in_key_order things = fold put_in [] things

-- the members of things that stand beside their keys
abbrev pub members_of : {T : Type 0} → (T → Data) → List (List ℕ × T) → Members
members_of f [] = no_members
members_of f (thing ∷ rest) = member thing.0 (f thing.1) (members_of f rest)
