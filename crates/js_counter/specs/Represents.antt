-- Data as literals make it: numbers, texts, truth values, null, and objects and arrays of them, each object of its own, none of them frozen.
use Rattle.std.specs.Prelude.{◌≡◌, ◌≢◌, ℕ, zero, suc, ◌+◌, ◌<◌, Bool, false, List, [], ◌∷◌, length, Option, Some, None, option_and_then, if◌then◌else◌, negsuc}
use Rattle.std.specs.Str.{bytes_eq}
use Rattle.js_value.specs.declared.value.Value.{Value}
use Rattle.js_value.specs.declared.value.Value.TheVariants as value
use Rattle.js_value.specs.declared.value.Primitive.TheVariants as primitive
use Rattle.js_value.specs.declared.built_in.Place.TheVariants.{ObjectPrototype, ArrayPrototype}
use Rattle.js_value.specs.Key.{index_of}
use Rattle.js_value.specs.State.{Plain, Array, Property, ObjectRecord, Heap}
use Rattle.js_value.specs.Objects.{object_at, count_value, assigned}
use Rattle.js_value.specs.Realm.{number_of, object, text}

-- JSON, of whole numbers: a negative one is told by how far it is below -1
mutual
  pub data Json : Type 0 where
    Null : Json
    Truth : (b : Bool) → Json
    Negative : (n : ℕ) → Json
    Number : (n : ℕ) → Json
    Text : (units : List ℕ) → Json
    Items : (items : JsonItems) → Json
    Members : (members : JsonMembers) → Json

  pub data JsonItems : Type 0 where
    no_items : JsonItems
    items : (x : Json) → (xs : JsonItems) → JsonItems

  pub data JsonMembers : Type 0 where
    no_members : JsonMembers
    members : (key : List ℕ) → (x : Json) → (xs : JsonMembers) → JsonMembers

-- the same with the number of each object and array
mutual
  pub data Placed : Type 0 where
    null : Placed
    truth : (b : Bool) → Placed
    negative : (n : ℕ) → Placed
    number : (n : ℕ) → Placed
    unit_text : (units : List ℕ) → Placed
    array : (o : ℕ) → (xs : PlacedItems) → Placed
    plain : (o : ℕ) → (ms : PlacedMembers) → Placed

  pub data PlacedItems : Type 0 where
    none : PlacedItems
    item : (x : Placed) → (xs : PlacedItems) → PlacedItems

  pub data PlacedMembers : Type 0 where
    empty : PlacedMembers
    member : (key : List ℕ) → (x : Placed) → (ms : PlacedMembers) → PlacedMembers

abbrev mutual
  pub json_of : Placed → Json
  json_of null = Null
  json_of (truth b) = Truth b
  json_of (negative neg) = Negative neg
  json_of (number n) = Number n
  json_of (unit_text units) = Text units
  json_of (array o xs) = Items (json_items xs)
  json_of (plain o ms) = Members (json_members ms)

  pub json_items : PlacedItems → JsonItems
  json_items none = no_items
  json_items (item x xs) = items (json_of x) (json_items xs)

  pub json_members : PlacedMembers → JsonMembers
  json_members empty = no_members
  json_members (member key x ms) = members key (json_of x) (json_members ms)

abbrev pub value_at : Placed → Value
value_at null = value.Primitive primitive.Null
value_at (truth b) = value.Primitive (primitive.Boolean b)
value_at (negative neg) = value.Primitive (primitive.Number (negsuc neg))
value_at (number n) = count_value n
value_at (unit_text units) = text units
value_at (array o xs) = object o
value_at (plain o ms) = object o

abbrev pub values_of : PlacedItems → List Value
values_of none = []
values_of (item x xs) = value_at x ∷ values_of xs

abbrev pub properties_of : PlacedMembers → List Property
properties_of empty = []
properties_of (member key x ms) = assigned key (value_at x) ∷ properties_of ms

abbrev pub plain_object : List Property → ObjectRecord
plain_object properties = record { kind = Plain; prototype = Some (number_of ObjectPrototype); frozen = false; elements = []; properties = properties }

abbrev pub plain_array : List Value → ObjectRecord
plain_array elements = record { kind = Array; prototype = Some (number_of ArrayPrototype); frozen = false; elements = elements; properties = [] }

-- something holds of each object of the data
abbrev mutual
  pub On : (ℕ → ObjectRecord → Type 0) → Placed → Type 0
  On P null = Unit {0}
  On P (truth b) = Unit {0}
  On P (negative neg) = Unit {0}
  On P (number n) = Unit {0}
  On P (unit_text units) = Unit {0}
  On P (array o xs) = P o (plain_array (values_of xs)) × OnItems P xs
  On P (plain o ms) = P o (plain_object (properties_of ms)) × OnMembers P ms

  pub OnItems : (ℕ → ObjectRecord → Type 0) → PlacedItems → Type 0
  OnItems P none = Unit {0}
  OnItems P (item x xs) = On P x × OnItems P xs

  pub OnMembers : (ℕ → ObjectRecord → Type 0) → PlacedMembers → Type 0
  OnMembers P empty = Unit {0}
  OnMembers P (member key x ms) = On P x × OnMembers P ms

-- an object stands in the heap
abbrev pub Stands : Heap → ℕ → ObjectRecord → Type 0
Stands h o x = (o < length h.objects) × (object_at h o ≡ x)

abbrev pub Holds : Heap → Placed → Type 0
Holds h x = On (Stands h) x

abbrev pub HoldsItems : Heap → PlacedItems → Type 0
HoldsItems h xs = OnItems (Stands h) xs

abbrev pub HoldsMembers : Heap → PlacedMembers → Type 0
HoldsMembers h ms = OnMembers (Stands h) ms

-- a number that is no object of the data
abbrev pub Off : ℕ → ℕ → ObjectRecord → Type 0
Off o q x = q ≢ o

-- no two of its objects are one
abbrev mutual
  pub Distinct : Placed → Type 0
  Distinct null = Unit {0}
  Distinct (truth b) = Unit {0}
  Distinct (negative neg) = Unit {0}
  Distinct (number n) = Unit {0}
  Distinct (unit_text units) = Unit {0}
  Distinct (array o xs) = OnItems (Off o) xs × DistinctItems xs
  Distinct (plain o ms) = OnMembers (Off o) ms × DistinctMembers ms

  pub DistinctItems : PlacedItems → Type 0
  DistinctItems none = Unit {0}
  DistinctItems (item x xs) = Distinct x × DistinctItems xs × On (λ o r. OnItems (Off o) xs) x

  pub DistinctMembers : PlacedMembers → Type 0
  DistinctMembers empty = Unit {0}
  DistinctMembers (member key x ms) = Distinct x × DistinctMembers ms × On (λ o r. OnMembers (Off o) ms) x

-- a value is this data, in a heap
pub record Represents (h : Heap) (v : Value) (json : Json) : Type 0 where
  pub placed : Placed
  pub is : value_at placed ≡ v
  pub holds : Holds h placed
  pub distinct : Distinct placed
  pub data_is : json_of placed ≡ json

-- Ways into data, by keys

abbrev pub item_at : PlacedItems → ℕ → Option Placed
item_at none i = None
item_at (item x xs) zero = Some x
item_at (item x xs) (suc i) = item_at xs i

abbrev pub member_at : PlacedMembers → List ℕ → Option Placed
member_at empty key = None
member_at (member q x ms) key = if bytes_eq q key then Some x else member_at ms key

abbrev pub child : List ℕ → Placed → Option Placed
child key (array o xs) = option_and_then (item_at xs) (index_of key)
child key (plain o ms) = member_at ms key
child key _ = None

-- a way into data by a key and more of them: the object or array at whose key it ends, and the number there
abbrev pub Within : Placed → List ℕ → List (List ℕ) → Placed → List ℕ → ℕ → Type 0
Within x key [] y last n = (x ≡ y) × (key ≡ last) × (child key x ≡ Some (number n))
Within x key (next ∷ keys) y last n = (z : Placed) × (child key x ≡ Some z) × Within z next keys y last n

abbrev pub address : Placed → ℕ
address (array o xs) = o
address (plain o ms) = o
address _ = 0

abbrev pub record_of : Placed → ObjectRecord
record_of (array o xs) = plain_array (values_of xs)
record_of (plain o ms) = plain_object (properties_of ms)
record_of _ = plain_object []

-- a number at the end of a way is one more
abbrev mutual
  pub ticked : Placed → List (List ℕ) → Placed
  ticked null keys = null
  ticked (truth b) keys = truth b
  ticked (negative neg) keys = negative neg
  ticked (number n) [] = number (n + 1)
  ticked (number n) (key ∷ keys) = number n
  ticked (unit_text units) keys = unit_text units
  ticked (array o xs) [] = array o xs
  ticked (array o xs) (key ∷ keys) = elim (index_of key) [ None ↦ array o xs | Some i ↦ array o (ticked_items xs i keys) ]
  ticked (plain o ms) [] = plain o ms
  ticked (plain o ms) (key ∷ keys) = plain o (ticked_members ms key keys)

  pub ticked_items : PlacedItems → ℕ → List (List ℕ) → PlacedItems
  ticked_items none i keys = none
  ticked_items (item x xs) zero keys = item (ticked x keys) xs
  ticked_items (item x xs) (suc i) keys = item x (ticked_items xs i keys)

  pub ticked_members : PlacedMembers → List ℕ → List (List ℕ) → PlacedMembers
  ticked_members empty key keys = empty
  ticked_members (member q x ms) key keys = if bytes_eq q key then member q (ticked x keys) ms else member q x (ticked_members ms key keys)

abbrev mutual
  pub json_ticked : Json → List (List ℕ) → Json
  json_ticked Null keys = Null
  json_ticked (Truth b) keys = Truth b
  json_ticked (Negative neg) keys = Negative neg
  json_ticked (Number n) [] = Number (n + 1)
  json_ticked (Number n) (key ∷ keys) = Number n
  json_ticked (Text units) keys = Text units
  json_ticked (Items xs) [] = Items xs
  json_ticked (Items xs) (key ∷ keys) = elim (index_of key) [ None ↦ Items xs | Some i ↦ Items (json_ticked_items xs i keys) ]
  json_ticked (Members ms) [] = Members ms
  json_ticked (Members ms) (key ∷ keys) = Members (json_ticked_members ms key keys)

  pub json_ticked_items : JsonItems → ℕ → List (List ℕ) → JsonItems
  json_ticked_items no_items i keys = no_items
  json_ticked_items (items x xs) zero keys = items (json_ticked x keys) xs
  json_ticked_items (items x xs) (suc i) keys = items x (json_ticked_items xs i keys)

  pub json_ticked_members : JsonMembers → List ℕ → List (List ℕ) → JsonMembers
  json_ticked_members no_members key keys = no_members
  json_ticked_members (members q x ms) key keys = if bytes_eq q key then members q (json_ticked x keys) ms else members q x (json_ticked_members ms key keys)
