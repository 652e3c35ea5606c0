-- What a write is, of one object and of what it inherits.
use Rattle.std.specs.Prelude.{◌≡◌, ℕ, Bool, false, not, List, Option, Some, None, length, option_map, slice_get, if◌then◌else◌}
use Rattle.std.specs.Str.{bytes_eq}
use Rattle.js_value.specs.declared.value.Value.{Value}
use Rattle.js_value.specs.State as state
use Rattle.js_value.specs.Key.{index_of}
use Rattle.js_value.specs.Objects as objects
use Rattle.js_value.specs.Objects.{is_array, array_length, property_of, with_value_of, found_in, Found, write_of_length, written}
use Rattle.js_heap.specs.private.Object.{with_value_at}
use Rattle.js_heap.specs.declared.write.Write.{Write}
use Rattle.js_heap.specs.declared.write.Write.TheVariants as write

abbrev pub plain_write : Write → objects.Write
plain_write (write.Replaces place) = objects.Replaces
plain_write write.Adds = objects.Adds
plain_write (write.Puts n) = objects.Puts n
plain_write write.Appends = objects.Appends
plain_write (write.Cuts n) = objects.Cuts n
plain_write write.ReadOnly = objects.ReadOnly
plain_write write.Sparse = objects.Sparse
plain_write write.BadLength = objects.BadLength

-- the place that a write tells is that of the key
abbrev pub Placed : Write → List ℕ → List state.Property → Type 0
Placed (write.Replaces place) key properties = (v : Value) → with_value_at place v properties ≡ with_value_of key v properties
Placed _ key properties = Unit {0}

-- the object after a write, at the place that it tells
abbrev pub performed : state.ObjectRecord → Write → List ℕ → Value → state.ObjectRecord
performed object (write.Replaces place) key v = record object { properties = with_value_at place v object.properties }
performed object w key v = written object (plain_write w) key v

-- what was found: its value, and whether it may be written
abbrev pub seen_of : Found → Value × Bool
seen_of f = (f.property.value, f.writable)

-- an inherited property that may not be written bars a new one
abbrev pub bars : Option Found → Bool
bars None = false
bars (Some f) = not f.writable

-- a write to a property that was found, where it may be written
abbrev pub if_writable : objects.Write → state.ObjectRecord → state.Property → objects.Write
if_writable w object p = if (found_in object p).writable then w else objects.ReadOnly

-- writes to what an object has: to a property that is none of an array, to an element, to an array's length
abbrev pub property_write : state.ObjectRecord → List ℕ → Option objects.Write
property_write object key = option_map (if_writable objects.Replaces object) (property_of object.properties key)

abbrev pub element_write : state.ObjectRecord → ℕ → Option objects.Write
element_write object n = option_map (λ v. if object.frozen then objects.ReadOnly else objects.Puts n) (slice_get object.elements n)

abbrev pub length_write : state.ObjectRecord → Value → objects.Write
length_write object v = if object.frozen then objects.ReadOnly else write_of_length (length object.elements) v

abbrev pub array_write : state.ObjectRecord → List ℕ → Value → Option objects.Write
array_write object key v = elim (index_of key) [
  | Some n ↦ element_write object n
  | None ↦ if bytes_eq key array_length then Some (length_write object v) else property_write object key
]

abbrev pub own_write : state.ObjectRecord → List ℕ → Value → Option objects.Write
own_write object key v = if is_array object.kind then array_write object key v else property_write object key
