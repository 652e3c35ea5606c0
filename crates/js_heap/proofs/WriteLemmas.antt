-- A write of the definition is one of the object and of what it inherits.
use Rattle.std.proofs.Common.{◌≡◌, ℕ, Bool, true, false, not, ◌&&◌, ◌||◌, List, length, Option, Some, None, option_map, if◌then◌else◌, refl, ap, sym, ◌∙◌}
use Rattle.std.specs.Prelude.{slice_get}
use Rattle.std.specs.Str.{bytes_eq}
use Rattle.js_value.specs.declared.value.Value.{Value}
use Rattle.js_value.specs.State.{ObjectRecord, Heap}
use Rattle.js_value.specs.Key.{index_of}
use Rattle.js_value.specs.Objects as objects
use Rattle.js_value.specs.Objects.{no_object, is_array, array_length, length_property, assigned, property_of, own_of_array, Done, set_by, set_answer, own, own_of, object_at, found, Found, ReadOnly, write_of_length, write_of_own, write_of_new, write_of_absent, write_to, write_of, written}
use Rattle.js_heap.specs.declared.write.Write.{Write}
use Rattle.js_heap.specs.declared.write.Write.TheVariants as write
use Rattle.js_heap.specs.private.Write.{plain_write, Placed, performed, bars, if_writable, property_write, element_write, length_write, array_write, own_write}
use Rattle.js_heap.proofs.Chains.{found-none}

-- Under what is inherited

pub write_under : (object : ObjectRecord) (f : Option Found) (key : List ℕ) → (if bars f || object.frozen then ReadOnly else write_of_new object key) ≡ write_of_absent object f key
write_under object None key = refl
write_under object (Some f) key =
    let new = write_of_new object key in
    elim f.writable as (λ w. (if not w || object.frozen then ReadOnly else new) ≡ (if w && not object.frozen then new else ReadOnly)) [
      | false ↦ refl
      | true ↦ elim object.frozen as (λ z. (if z then ReadOnly else new) ≡ (if not z then new else ReadOnly)) [ true ↦ refl | false ↦ refl ]
    ]

-- To what an object has

if_frozen : (w : objects.Write) (frozen : Bool) → (if frozen then ReadOnly else w) ≡ (if not frozen then w else ReadOnly)
if_frozen w true = refl
if_frozen w false = refl

own_write-element : (object : ObjectRecord) (key : List ℕ) (n : ℕ) → element_write object n ≡ option_map (if_writable (objects.Puts n) object) (option_map (assigned key) (slice_get object.elements n))
own_write-element object key n =
    elim (slice_get object.elements n) as (λ e. option_map (λ v. if object.frozen then ReadOnly else objects.Puts n) e ≡ option_map (if_writable (objects.Puts n) object) (option_map (assigned key) e)) [
      | None ↦ refl
      | Some v ↦ ap Some (if_frozen (objects.Puts n) object.frozen)
    ]

own_write-array : (object : ObjectRecord) (key : List ℕ) (v : Value) → array_write object key v ≡ option_map (if_writable (elim (index_of key) [
  | Some n ↦ objects.Puts n
  | None ↦ if bytes_eq key array_length then write_of_length (length object.elements) v else objects.Replaces
]) object) (own_of_array object key)
own_write-array object key v =
    elim (index_of key) as (λ i. (elim i [
      | Some n ↦ element_write object n
      | None ↦ if bytes_eq key array_length then Some (length_write object v) else property_write object key
    ]) ≡ option_map (if_writable (elim i [
      | Some n ↦ objects.Puts n
      | None ↦ if bytes_eq key array_length then write_of_length (length object.elements) v else objects.Replaces
    ]) object) (elim i [
      | Some n ↦ option_map (assigned key) (slice_get object.elements n)
      | None ↦ if bytes_eq key array_length then Some (length_property (length object.elements)) else property_of object.properties key
    ])) [
      | Some n ↦ own_write-element object key n
      | None ↦ elim (bytes_eq key array_length) as (λ b. (if b then Some (length_write object v) else property_write object key)
          ≡ option_map (if_writable (if b then write_of_length (length object.elements) v else objects.Replaces) object) (if b then Some (length_property (length object.elements)) else property_of object.properties key)) [
            | true ↦ ap Some (if_frozen (write_of_length (length object.elements) v) object.frozen)
            | false ↦ refl
          ]
    ]

own_write-own : (object : ObjectRecord) (key : List ℕ) (v : Value) → own_write object key v ≡ option_map (if_writable (write_of_own object key v) object) (own_of object key)
own_write-own object key v =
    elim (is_array object.kind) as (λ a. (if a then array_write object key v else property_write object key) ≡ option_map (if_writable (if a then (elim (index_of key) [
      | Some n ↦ objects.Puts n
      | None ↦ if bytes_eq key array_length then write_of_length (length object.elements) v else objects.Replaces
    ]) else objects.Replaces) object) (if a then own_of_array object key else property_of object.properties key)) [
      | true ↦ own_write-array object key v
      | false ↦ refl
    ]

some_inj : {X : Type 0} {a b : X} → Some a ≡ Some b → a ≡ b
some_inj e = cc

-- where it has the property, the write is that to it
pub write_of-own : (h : Heap) (o : ℕ) (key : List ℕ) (v : Value) (w : objects.Write) → own_write (object_at h o) key v ≡ Some w → write_of h o key v ≡ w
write_of-own h o key v w is =
    let object = object_at h o in
    elim (own h o key) as (λ q. option_map (if_writable (write_of_own object key v) object) q ≡ Some w → write_to object q (found o h.objects object.prototype key) key v ≡ w) [
      | None ↦ λ e. cc
      | Some p ↦ λ e. some_inj e
    ] (sym (own_write-own object key v) ∙ is)

-- and else that under what is inherited
pub write_of-absent : (h : Heap) (o : ℕ) (key : List ℕ) (v : Value) → own_write (object_at h o) key v ≡ None → write_of h o key v ≡ write_of_absent (object_at h o) (found o h.objects (object_at h o).prototype key) key
write_of-absent h o key v is =
    let object = object_at h o in
    let f = found o h.objects object.prototype key in
    elim (own h o key) as (λ q. option_map (if_writable (write_of_own object key v) object) q ≡ None → write_to object q f key v ≡ write_of_absent object f key) [
      | None ↦ λ e. refl
      | Some p ↦ λ e. cc
    ] (sym (own_write-own object key v) ∙ is)

-- a write at the place of its key is that of the definition
pub performed-placed : (object : ObjectRecord) (w : Write) (key : List ℕ) (v : Value) → Placed w key object.properties → performed object w key v ≡ written object (plain_write w) key v
performed-placed object (write.Replaces place) key v at = ap (λ ps. record object { properties = ps }) (at v)
performed-placed object write.Adds key v at = refl
performed-placed object (write.Puts n) key v at = refl
performed-placed object write.Appends key v at = refl
performed-placed object (write.Cuts n) key v at = refl
performed-placed object write.ReadOnly key v at = refl
performed-placed object write.Sparse key v at = refl
performed-placed object write.BadLength key v at = refl

-- an object of nothing takes any write
pub set_answer-none : (h : Heap) (o : ℕ) (key : List ℕ) (v : Value) → object_at h o ≡ no_object → set_answer h o key v ≡ Done
set_answer-none h o key v is =
    ap (λ r. set_by (write_to r (own_of r key) (found o h.objects r.prototype key) key v)) is
    ∙ ap (λ f. set_by (write_to no_object None f key v)) (found-none h.objects o key)
