-- Elements of arrays by numbers.
use Rattle.std.specs.Prelude.{ℕ, pos, Option, Some, None}
use Rattle.js_value.specs.declared.value.Value.{Value}
use Rattle.js_value.specs.declared.value.Value.TheVariants as value
use Rattle.js_value.specs.declared.value.Primitive.TheVariants as primitive
use Rattle.js_value.specs.State.{Heap}
use Rattle.js_value.specs.Objects.{object_at}
use Rattle.js_heap.specs.private.Object.{element_in}

-- the number that is at least 0, where a value is one
abbrev pub natural : Value → Option ℕ
natural (value.Primitive (primitive.Number (pos n))) = Some n
natural _ = None

-- the element that a key tells, where it is a number
abbrev pub element_by : Heap → Value → Value → Option Value
element_by h (value.Object o) key = elim (natural key) [ None ↦ None | Some n ↦ element_in (object_at h o.index) n ]
element_by h (value.Primitive _) key = None
