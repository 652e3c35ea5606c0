-- Which keys of properties are indices (ECMA-262, 6.1.7), and the order of keys (10.1.11.1).
use Rattle.std.specs.Prelude.{ℕ, ◌+◌, ◌*◌, ◌-◌, ◌^◌, ◌&&◌, List, [], ◌∷◌, ◌++◌, map, fold, Option, Some, None, nat_lt, nat_le, nat_eq, if◌then◌else◌}
use Rattle.std.specs.Ordering.{nat_cmp}
use Rattle.std.specs.BTreeMap.{insert_entry}
use Rattle.js_value.specs.declared.key.Key.{Key}
use Rattle.js_value.specs.State.{Property}

-- the value of a decimal digit
abbrev pub digit_of : ℕ → Option ℕ
digit_of unit = if nat_le 48 unit && nat_le unit 57 then Some (unit - 48) else None

-- the number that digits spell after those that are worth `before`
abbrev pub digits_after : ℕ → List ℕ → Option ℕ
digits_after before [] = Some before
digits_after before (unit ∷ units) = elim (digit_of unit) [
  | None ↦ None
  | Some digit ↦ digits_after (before * 10 + digit) units
]

-- the number of a decimal numeral that begins with 0 only where it is 0
abbrev pub numeral_of : List ℕ → Option ℕ
numeral_of [] = None
numeral_of (unit ∷ []) = digit_of unit
numeral_of (unit ∷ next ∷ units) = if nat_eq unit 48 then None else digits_after 0 (unit ∷ next ∷ units)

-- an index is a whole number below 2^32 - 1
abbrev pub if_index : Option ℕ → Option ℕ
if_index None = None
if_index (Some n) = if nat_lt n (2 ^ 32 - 1) then Some n else None

abbrev pub index_of : List ℕ → Option ℕ
index_of key = if_index (numeral_of key)

-- the key of a property, and whether it is enumerable
abbrev pub key_of : Property → Key
key_of property = record { key = property.key; enumerable = property.enumerable }

-- the key of one more property, where it is an index, among those that are there in the order of their indices: keys differ,
-- and so do the indices
abbrev pub put_index : List (ℕ × Key) → Property → List (ℕ × Key)
put_index sorted property = elim (index_of property.key) [
  | None ↦ sorted
  | Some n ↦ insert_entry nat_cmp sorted n (key_of property)
]

-- the keys that are indices, ascending
abbrev pub indexed : List Property → List (ℕ × Key)
indexed properties = fold put_index [] properties

-- the other keys, as they were added
abbrev pub others : List Property → List Key
others [] = []
others (p ∷ ps) = elim (index_of p.key) [
  | None ↦ key_of p ∷ others ps
  | Some n ↦ others ps
]

-- 10.1.11.1: the indices ascending, and then the others as they were added
abbrev pub ordered_keys : List Property → List Key
ordered_keys properties = map (λ x. x.1) (indexed properties) ++ others properties
