-- What the definition of a program's store sees in an object of the heap.
use Rattle.std.specs.Prelude.{ℕ, List, map, option_map}
use Rattle.js_value.specs.declared.value.Value.{Value}
use Rattle.js_value.specs.State as state
use Rattle.js_value.specs.Objects as objects
use Rattle.js_heap.specs.declared.delete.Delete.{Delete}
use Rattle.js_heap.specs.declared.delete.Delete.TheVariants as delete
use Rattle.js_heap.specs.declared.write.Set.{Set}
use Rattle.js_heap.specs.declared.write.Set.TheVariants as set
use Rattle.js_heap.specs.declared.object.ObjectKind.{ObjectKind}
use Rattle.js_heap.specs.declared.object.ObjectKind.TheVariants.{Plain, Array, Error, RegExp, BuiltIn, Written}
use Rattle.js_heap.specs.declared.object.Flags.{Flags}
use Rattle.js_heap.specs.declared.object.Property.{Property}
use Rattle.js_heap.specs.declared.object.ObjectRecord.{ObjectRecord}
use Rattle.js_heap.specs.declared.properties.Properties.{Properties}

abbrev pub plain_kind : ObjectKind → state.ObjectKind
plain_kind Plain = state.Plain
plain_kind Array = state.Array
plain_kind Error = state.Error
plain_kind RegExp = state.RegExp
plain_kind (BuiltIn function) = state.BuiltIn function
plain_kind (Written code environment) = state.Written code environment.index

-- the property of this key
abbrev pub property_with : List ℕ → Value → Flags → state.Property
property_with key v flags = record {
  key = key;
  value = v;
  enumerable = flags.enumerable;
  writable = flags.writable;
}

abbrev pub plain_property : Property → state.Property
plain_property property = property_with property.key property.value property.flags

abbrev pub plain_properties : Properties → List state.Property
plain_properties properties = map plain_property properties.items.items

abbrev pub plain_object : ObjectRecord → state.ObjectRecord
plain_object object = record {
  kind = plain_kind object.kind;
  prototype = option_map (λ prototype. prototype.index) object.prototype;
  frozen = object.frozen;
  elements = object.elements.items.items;
  properties = plain_properties object.properties;
}

abbrev pub plain_set : Set → objects.Set
plain_set set.Done = objects.Done
plain_set set.ReadOnly = objects.IsReadOnly
plain_set set.Sparse = objects.IsSparse
plain_set set.BadLength = objects.IsBadLength

abbrev pub plain_delete : Delete → objects.Delete
plain_delete delete.Done = objects.Deleted
plain_delete delete.Frozen = objects.IsFrozen
plain_delete delete.Sparse = objects.LeavesHole
