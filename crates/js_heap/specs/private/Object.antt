-- What a call does to one object.
use Rattle.std.specs.Prelude.{ℕ, zero, suc, ◌-◌, ◌^◌, nat_lt, nat_eq, Bool, not, ◌&&◌, List, [], ◌∷◌, ◌++◌, length, Option, Some, None, take, slice_get, slice_set, if◌then◌else◌}
use Rattle.std.specs.Str.{bytes_eq}
use Rattle.js_value.specs.declared.value.Value.{Value}
use Rattle.js_value.specs.State as state
use Rattle.js_value.specs.Key.{index_of}
use Rattle.js_value.specs.Objects.{is_array, with_property, Delete, Deleted, IsFrozen, LeavesHole, deleted, delete_from, array_length}

-- the element of an array at an index
abbrev pub element_in : state.ObjectRecord → ℕ → Option Value
element_in object index = if is_array object.kind && nat_lt index (2 ^ 32 - 1) then slice_get object.elements index else None

-- whether there is one that may be written
abbrev pub takes_element : state.ObjectRecord → ℕ → Bool
takes_element object index = is_array object.kind && not object.frozen && nat_lt index (2 ^ 32 - 1) && nat_lt index (length object.elements)

-- whether one may be put at the end by an index
abbrev pub ends_at : state.ObjectRecord → ℕ → Bool
ends_at object index = is_array object.kind && not object.frozen && nat_lt index (2 ^ 32 - 1) && nat_eq index (length object.elements)

-- the object with another value for it, where there is
abbrev pub with_element : ℕ → Value → state.ObjectRecord → state.ObjectRecord
with_element index v object = if takes_element object index then record object { elements = slice_set object.elements index v } else object

-- the properties with another value for the one at a place
abbrev pub with_value_at : ℕ → Value → List state.Property → List state.Property
with_value_at place v [] = []
with_value_at zero v (p ∷ ps) = record p { value = v } ∷ ps
with_value_at (suc place) v (p ∷ ps) = p ∷ with_value_at place v ps

-- the object with a property defined
abbrev pub with_defined : state.Property → state.ObjectRecord → state.ObjectRecord
with_defined property object = record object { properties = with_property property object.properties }

-- the object with more elements, and with no more than so many
abbrev pub with_more : List Value → state.ObjectRecord → state.ObjectRecord
with_more more object = record object { elements = object.elements ++ more }

abbrev pub with_cut : ℕ → state.ObjectRecord → state.ObjectRecord
with_cut size object = record object { elements = take size object.elements }

-- the object without the properties of this key
abbrev pub with_removed : List ℕ → state.ObjectRecord → state.ObjectRecord
with_removed key object = record object { properties = deleted Deleted key object.properties }

-- the object after a delete
abbrev pub with_deleted : List ℕ → state.ObjectRecord → state.ObjectRecord
with_deleted key object = record object { properties = deleted (delete_from object key) key object.properties }

-- what a delete of an own property answers, of an array that isn't frozen
abbrev pub array_delete : List ℕ → Delete
array_delete key = if bytes_eq key array_length then IsFrozen else (elim (index_of key) [ None ↦ Deleted | Some _ ↦ LeavesHole ])
