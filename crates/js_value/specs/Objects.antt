-- What can be done with objects (ECMA-262, 10.1 and 10.4.2): nothing else reads or changes one. What changes the heap is
-- given it last; what an operation answers is told apart, from the heap before.
use Rattle.std.specs.Prelude.{ℕ, zero, suc, Bool, true, false, not, ◌&&◌, ◌||◌, is_some, List, [], ◌∷◌, ◌++◌, length, filter, find, take, slice_get, Option, Some, None, option_map, nat_lt, nat_eq, if◌then◌else◌, slice_index_or, slice_set, codes, pos, negsuc}
use Rattle.std.specs.Str.{bytes_eq}
use Rattle.js_value.specs.declared.value.Value.{Value}
use Rattle.js_value.specs.declared.value.Value.TheVariants as value
use Rattle.js_value.specs.declared.value.Primitive.TheVariants as primitive
use Rattle.js_value.specs.State.{ObjectKind, Plain, Array, BuiltIn, Written, Property, ObjectRecord, Heap}
use Rattle.js_value.specs.declared.key.Key.{Key}
use Rattle.js_value.specs.Key.{index_of, ordered_keys}
use Rattle.js_value.specs.Numbers.{decimal_text}

-- stands for what is not there: no run refers to it
abbrev pub no_object : ObjectRecord
no_object = record { kind = Plain; prototype = None; frozen = false; elements = []; properties = [] }

abbrev pub object_in : List ObjectRecord → ℕ → ObjectRecord
object_in objects o = slice_index_or objects o no_object

abbrev pub object_at : Heap → ℕ → ObjectRecord
object_at h o = object_in h.objects o

abbrev pub kind_of : Heap → ℕ → ObjectKind
kind_of h o = (object_at h o).kind

abbrev pub with_object : ℕ → ObjectRecord → Heap → Heap
with_object o object h = record h { objects = slice_set h.objects o object }

abbrev pub with_properties : ℕ → List Property → Heap → Heap
with_properties o properties h = with_object o (record (object_at h o) { properties = properties }) h

-- New objects

-- the number of the object that is made next
abbrev pub next_object : Heap → ℕ
next_object h = length h.objects

-- 10.1.12: without properties
abbrev pub new_object : ObjectKind → Option ℕ → Heap → Heap
new_object kind prototype h = record h {
  objects = h.objects ++ record { kind = kind; prototype = prototype; frozen = false; elements = []; properties = [] } ∷ [];
}

abbrev pub array_length : List ℕ
array_length = codes "length"

-- a count as a value
abbrev pub count_value : ℕ → Value
count_value n = value.Primitive (primitive.Number (pos n))

-- the length that an array has
abbrev pub length_property : ℕ → Property
length_property n = record { key = array_length; value = count_value n; enumerable = false; writable = true }

-- 10.4.2.2: an array of these elements
abbrev pub new_array : ℕ → List Value → Heap → Heap
new_array prototype elements h = record h {
  objects = h.objects ++ record { kind = Array; prototype = Some prototype; frozen = false; elements = elements; properties = [] } ∷ [];
}

-- Reading

abbrev pub property_of : List Property → List ℕ → Option Property
property_of properties key = find (λ p. bytes_eq p.key key) properties

abbrev pub is_array : ObjectKind → Bool
is_array Array = true
is_array _ = false

-- a property as an assignment makes it (10.1.9.2), and as an element of an array is one
abbrev pub assigned : List ℕ → Value → Property
assigned key v = record { key = key; value = v; enumerable = true; writable = true }

-- of an array: an element, its length, or another
abbrev pub own_of_array : ObjectRecord → List ℕ → Option Property
own_of_array array key = elim (index_of key) [
  | Some n ↦ option_map (assigned key) (slice_get array.elements n)
  | None ↦ if bytes_eq key array_length then Some (length_property (length array.elements)) else property_of array.properties key
]

abbrev pub own_of : ObjectRecord → List ℕ → Option Property
own_of object key = if is_array object.kind then own_of_array object key else property_of object.properties key

-- 10.1.5: the object's own property
abbrev pub own : Heap → ℕ → List ℕ → Option Property
own h o key = own_of (object_at h o) key

-- a property that was found, and whether it may be written: in a frozen object none may
pub record Found : Type 0 where
  pub property : Property
  pub writable : Bool

abbrev pub found_in : ObjectRecord → Property → Found
found_in object p = record { property = p; writable = p.writable && not object.frozen }

-- the property of the first on a chain of prototypes that has it. In a run a prototype is older than what inherits from it,
-- so a chain has at most as many members as the number of its first one, and it.
abbrev pub found : ℕ → List ObjectRecord → Option ℕ → List ℕ → Option Found
found zero objects chain key = None
found (suc n) objects None key = None
found (suc n) objects (Some o) key = elim (own_of (object_in objects o) key) [
  | Some p ↦ Some (found_in (object_in objects o) p)
  | None ↦ found n objects (object_in objects o).prototype key
]

-- 10.1.8
abbrev pub get : Heap → ℕ → List ℕ → Option Value
get h o key = option_map (λ f. f.property.value) (found (suc o) h.objects (Some o) key)

-- 7.3.12
abbrev pub has_property : Heap → ℕ → List ℕ → Bool
has_property h o key = is_some (found (suc o) h.objects (Some o) key)

-- whether an object is the first on a chain of prototypes, or above it
abbrev pub stands_on : ℕ → List ObjectRecord → Option ℕ → ℕ → Bool
stands_on zero objects chain p = false
stands_on (suc n) objects None p = false
stands_on (suc n) objects (Some o) p = nat_eq o p || stands_on n objects (object_in objects o).prototype p

-- 7.3.21, 6: whether an object inherits from another
abbrev pub inherits : Heap → ℕ → ℕ → Bool
inherits h o p = stands_on o h.objects (object_at h o).prototype p

-- so many indices as keys, from one on
abbrev pub index_keys : (from count : ℕ) → List Key
index_keys n zero = []
index_keys n (suc count) = record { key = decimal_text (pos n); enumerable = true } ∷ index_keys (suc n) count

abbrev pub keys_of_object : ObjectRecord → List Key
keys_of_object object =
    if is_array object.kind
    then index_keys 0 (length object.elements) ++ record { key = array_length; enumerable = false } ∷ ordered_keys object.properties
    else ordered_keys object.properties

-- 10.1.11: the own keys
abbrev pub keys : Heap → ℕ → List Key
keys h o = keys_of_object (object_at h o)

-- Defining

-- the property in the place of the one with its key, or at the end
abbrev pub with_property : Property → List Property → List Property
with_property p [] = p ∷ []
with_property p (q ∷ qs) = if bytes_eq q.key p.key then p ∷ qs else q ∷ with_property p qs

-- 10.1.6: an own property and its flags
abbrev pub define : ℕ → Property → Heap → Heap
define o p h = with_properties o (with_property p (object_at h o).properties) h

-- 20.1.2.6
abbrev pub freeze : ℕ → Heap → Heap
freeze o h = with_object o (record (object_at h o) { frozen = true }) h

-- Elements

abbrev pub elements_of : Heap → ℕ → List Value
elements_of h o = (object_at h o).elements

-- elements in the place of those that an array has
abbrev pub with_elements : ℕ → List Value → Heap → Heap
with_elements o elements h = with_object o (record (object_at h o) { elements = elements }) h

-- more elements after those that an array has
abbrev pub append : ℕ → List Value → Heap → Heap
append o more h = with_elements o (elements_of h o ++ more) h

-- the first so many elements of an array, and no others
abbrev pub cut : ℕ → ℕ → Heap → Heap
cut o n h = with_elements o (take n (elements_of h o)) h

-- Writing

-- what a write to a property is: of its own, a new one, an element of an array, one at its length, a new length; or none, since it
-- may not be written, it would leave a hole in an array, or the length is negative
pub data Write : Type 0 where
  Replaces : Write
  Adds : Write
  Puts : (index : ℕ) → Write
  Appends : Write
  Cuts : (length : ℕ) → Write
  ReadOnly : Write
  Sparse : Write
  BadLength : Write

-- 10.4.2.4, where the length may be written: a number, so that nothing is left to be converted
abbrev pub write_of_length : ℕ → Value → Write
write_of_length has (value.Object _) = BadLength
write_of_length has (value.Primitive p) = elim p [
  | primitive.Number z ↦ elim z [
    | pos n ↦ if nat_lt has n then Sparse else Cuts n
    | negsuc _ ↦ BadLength
  ]
  | primitive.Undefined ↦ BadLength
  | primitive.Null ↦ BadLength
  | primitive.Boolean _ ↦ BadLength
  | primitive.Text _ ↦ BadLength
]

-- a write to a property of the object's own that may be written
abbrev pub write_of_own : ObjectRecord → List ℕ → Value → Write
write_of_own object key v = if is_array object.kind then elim (index_of key) [
  | Some n ↦ Puts n
  | None ↦ if bytes_eq key array_length then write_of_length (length object.elements) v else Replaces
] else Replaces

-- a new property
abbrev pub write_of_new : ObjectRecord → List ℕ → Write
write_of_new object key = if is_array object.kind then elim (index_of key) [
  | None ↦ Adds
  | Some n ↦ if nat_eq n (length object.elements) then Appends else Sparse
] else Adds

-- a property that the object has not, and perhaps inherits: under one that may not be written there can be none
abbrev pub write_of_absent : ObjectRecord → Option Found → List ℕ → Write
write_of_absent object (Some f) key = if f.writable && not object.frozen then write_of_new object key else ReadOnly
write_of_absent object None key = if object.frozen then ReadOnly else write_of_new object key

abbrev pub write_to : ObjectRecord → Option Property → Option Found → List ℕ → Value → Write
write_to object (Some p) inherited key v = if (found_in object p).writable then write_of_own object key v else ReadOnly
write_to object None inherited key v = write_of_absent object inherited key

-- 10.1.9
abbrev pub write_of : Heap → ℕ → List ℕ → Value → Write
write_of h o key v = write_to (object_at h o) (own h o key) (found o h.objects (object_at h o).prototype key) key v

-- what a write answers
pub data Set : Type 0 where
  Done : Set
  IsReadOnly : Set
  IsSparse : Set
  IsBadLength : Set

abbrev pub set_by : Write → Set
set_by Replaces = Done
set_by Adds = Done
set_by (Puts _) = Done
set_by Appends = Done
set_by (Cuts _) = Done
set_by ReadOnly = IsReadOnly
set_by Sparse = IsSparse
set_by BadLength = IsBadLength

abbrev pub set_answer : Heap → ℕ → List ℕ → Value → Set
set_answer h o key v = set_by (write_of h o key v)

-- a property with another value
abbrev pub with_value_of : List ℕ → Value → List Property → List Property
with_value_of key v [] = []
with_value_of key v (p ∷ ps) = if bytes_eq p.key key then record p { value = v } ∷ ps else p ∷ with_value_of key v ps

abbrev pub written : ObjectRecord → Write → List ℕ → Value → ObjectRecord
written object Replaces key v = record object { properties = with_value_of key v object.properties }
written object Adds key v = record object { properties = object.properties ++ assigned key v ∷ [] }
written object (Puts n) key v = record object { elements = slice_set object.elements n v }
written object Appends key v = record object { elements = object.elements ++ v ∷ [] }
written object (Cuts n) key v = record object { elements = take n object.elements }
written object ReadOnly key v = object
written object Sparse key v = object
written object BadLength key v = object

abbrev pub set : ℕ → List ℕ → Value → Heap → Heap
set o key v h = with_object o (written (object_at h o) (write_of h o key v) key v) h

-- Deleting

-- what a delete answers: a property that is not there is as good as deleted
pub data Delete : Type 0 where
  Deleted : Delete
  IsFrozen : Delete
  LeavesHole : Delete

abbrev pub is_function : ObjectKind → Bool
is_function (BuiltIn _) = true
is_function (Written _ _) = true
is_function _ = false

-- an own property of a function that is its `prototype` from its making, and so isn't enumerable: a built-in one has it where it
-- constructs; one that a program adds to an arrow or a method is enumerable
abbrev pub is_prototype_of : ObjectKind → Property → Bool
is_prototype_of kind p = is_function kind && not p.enumerable && bytes_eq p.key (codes "prototype")

-- an own property: all that a frozen object has, the length of an array and the `prototype` of a function stay, and so do
-- elements, which would leave a hole
abbrev pub delete_of : ObjectRecord → Property → Delete
delete_of object p =
    if object.frozen then IsFrozen
    else (if is_array object.kind && bytes_eq p.key array_length then IsFrozen
    else (if is_prototype_of object.kind p then IsFrozen
    else (if is_array object.kind then elim (index_of p.key) [ None ↦ Deleted | Some _ ↦ LeavesHole ] else Deleted)))

abbrev pub delete_from : ObjectRecord → List ℕ → Delete
delete_from object key = elim (own_of object key) [ None ↦ Deleted | Some p ↦ delete_of object p ]

-- 10.1.10
abbrev pub delete_answer : Heap → ℕ → List ℕ → Delete
delete_answer h o key = delete_from (object_at h o) key

abbrev pub deleted : Delete → List ℕ → List Property → List Property
deleted Deleted key properties = filter (λ p. not (bytes_eq p.key key)) properties
deleted IsFrozen key properties = properties
deleted LeavesHole key properties = properties

abbrev pub delete : ℕ → List ℕ → Heap → Heap
delete o key h = with_properties o (deleted (delete_answer h o key) key (object_at h o).properties) h
