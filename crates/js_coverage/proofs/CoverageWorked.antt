-- The worked examples compute.
use Rattle.std.proofs.Common.{◌≡◌, ℕ, zero, suc, [], ◌∷◌, None, Some, option_map, codes, refl, ap}
use Rattle.std.specs.Char.Utf16.{utf16_chars}
use Rattle.items.specs.declared.data.Data.TheVariants as form
use Rattle.js_value.specs.State.{Plain, Heap}
use Rattle.js_value.specs.Objects.{assigned}
use Rattle.js_value.specs.Realm.{object}
use Rattle.js_coverage.specs.Coverage.{with_first, property_of, object_within}
use Rattle.js_coverage.specs.CoverageRows.{left, heap_with, with_properties, with_elements, Values, Objects, Cycles}

pub values : Values
unfolding lib.Utf8.encode utf16_chars
values = record { nothing = refl; another = refl; undefined_value = refl; null_value = refl; truth = refl; number_value = refl; negative = refl; text_value = refl; astral = refl; lone = refl }

pub objects : Objects
unfolding lib.Utf8.encode utf16_chars
objects = record { empty = refl; no_level = refl; order = refl; undefined_inside = refl; lone_key = refl; array = refl; error = refl; expression = refl; built_in = refl; written = refl; shared = refl; too_few = refl }

-- an array that holds itself
abbrev one : Heap
one = heap_with (left (object 2) ∷ []) (with_elements (object 2 ∷ []) [] ∷ [])

never_itself : (levels : ℕ) → object_within levels one 2 ≡ None
never_itself zero = refl
never_itself (suc n) = ap (λ tree. option_map form.Array (with_first tree (Some []))) (never_itself n)

-- an object and an array, each in the other
abbrev two : Heap
two = heap_with (left (object 2) ∷ []) (with_properties Plain (assigned (codes "x") (object 3) ∷ []) ∷ with_elements (object 2 ∷ []) [] ∷ [])

never_each : (levels : ℕ) → (object_within levels two 2 ≡ None) × (object_within levels two 3 ≡ None)
unfolding lib.Utf8.encode utf16_chars
never_each zero = (refl, refl)
never_each (suc n) = (
  ap (λ tree. option_map form.Object (with_first (property_of (Some (codes "x")) tree) (Some []))) (never_each n).1,
  ap (λ tree. option_map form.Array (with_first tree (Some []))) (never_each n).0,
)

pub cycles : Cycles
cycles = record { itself = never_itself; each_other = λ n. (never_each n).0 }
