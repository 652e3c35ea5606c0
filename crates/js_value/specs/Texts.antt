-- What a text has of its own where it is looked into (ECMA-262, 10.4.3): its units by index, and its length. None of it may be
-- written or deleted.
use Rattle.std.specs.Prelude.{ℕ, false, true, List, [], ◌∷◌, ◌++◌, length, slice_get, Option, Some, None, option_map, if◌then◌else◌}
use Rattle.std.specs.Str.{bytes_eq}
use Rattle.js_value.specs.declared.value.Value.{Value}
use Rattle.js_value.specs.declared.value.Value.TheVariants as value
use Rattle.js_value.specs.declared.value.Primitive.TheVariants as primitive
use Rattle.js_value.specs.declared.key.Key.{Key}
use Rattle.js_value.specs.State.{Property, Heap}
use Rattle.js_value.specs.Key.{index_of}
use Rattle.js_value.specs.Objects.{array_length, count_value, index_keys, get, Delete, Deleted, IsFrozen}

-- a unit of a text
abbrev pub unit_property : List ℕ → ℕ → Property
unit_property key unit = record { key = key; value = value.Primitive (primitive.Text (unit ∷ [])); enumerable = true; writable = false }

abbrev pub length_of_text : ℕ → Property
length_of_text n = record { key = array_length; value = count_value n; enumerable = false; writable = false }

-- 10.4.3.1, 10.4.3.5
abbrev pub own_of_text : List ℕ → List ℕ → Option Property
own_of_text text key = elim (index_of key) [
  | Some n ↦ option_map (unit_property key) (slice_get text n)
  | None ↦ if bytes_eq key array_length then Some (length_of_text (length text)) else None
]

-- 10.4.3.3
abbrev pub keys_of_text : List ℕ → List Key
keys_of_text text = index_keys 0 (length text) ++ record { key = array_length; enumerable = false } ∷ []

-- 6.2.5.5: a property of a text, its own, or else one of what texts inherit from
abbrev pub get_of_text : Heap → ℕ → List ℕ → List ℕ → Option Value
get_of_text h prototype text key = elim (own_of_text text key) [
  | Some p ↦ Some p.value
  | None ↦ get h prototype key
]

-- 10.1.10
abbrev pub delete_of_text : List ℕ → List ℕ → Delete
delete_of_text text key = elim (own_of_text text key) [ None ↦ Deleted | Some _ ↦ IsFrozen ]
