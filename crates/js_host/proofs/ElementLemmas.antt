-- An element that a number tells is the member by this key.
use Rattle.std.proofs.Common.{◌≡◌, ℕ, ◌-◌, ◌^◌, ◌<◌, ◌&&◌, Bool, true, false, Some, None, Ok, pos, negsuc, refl, sym, ap, ◌∙◌, if◌then◌else◌}
use Rattle.std.specs.Str.{bytes_eq}
use Rattle.std.proofs.lemmas.Slice.Eq.{bytes_eq-Decides}
use Rattle.js_value.specs.declared.value.Value.{Value}
use Rattle.js_value.specs.declared.value.Value.TheVariants as value
use Rattle.js_value.specs.declared.value.Primitive.TheVariants as primitive
use Rattle.js_value.specs.declared.value.Object.{Object}
use Rattle.js_value.specs.State.{Heap}
use Rattle.js_value.specs.Key.{index_of}
use Rattle.js_value.specs.Numbers.{decimal_text}
use Rattle.js_value.specs.Objects.{Set, kind_of, is_array, array_length, set, set_answer}
use Rattle.js_value.specs.Copying.{as_number, taken, unwritten, write, write_taken}
use Rattle.js_value.specs.OnObjects.{or_undefined}
use Rattle.js_value.specs.Members.{get_member, put_member}
use Rattle.js_value.proofs.IndexLemmas.{index_read}
use Rattle.js_heap.proofs.ElementLemmas.{element_gets}
use Rattle.js_host.specs.private.Elements.{natural, element_by}

pub element_is : (h : Heap) (base key v : Value) → element_by h base key ≡ Some v → get_member h base key ≡ Ok v
element_is h (value.Object o) (value.Primitive (primitive.Number (pos n))) v e = ap (λ w. Ok (or_undefined w)) (element_gets h o.index n v e)
element_is h (value.Object o) (value.Primitive (primitive.Number (negsuc n))) v e = absurd cc
element_is h (value.Object o) (value.Primitive primitive.Undefined) v e = absurd cc
element_is h (value.Object o) (value.Primitive primitive.Null) v e = absurd cc
element_is h (value.Object o) (value.Primitive (primitive.Boolean b)) v e = absurd cc
element_is h (value.Object o) (value.Primitive (primitive.Text us)) v e = absurd cc
element_is h (value.Object o) (value.Object p) v e = absurd cc
element_is h (value.Primitive p) key v e = absurd cc

-- A write to an element

-- the key of an index is not that of a length
not_length : (n : ℕ) → n < 2 ^ 32 - 1 → bytes_eq (decimal_text (pos n)) array_length ≡ false
not_length n small = by (bytes_eq (decimal_text (pos n)) array_length) refl
  where
    differ : Some n ≡ None → ⊥
    differ e = cc

    by : (t : Bool) → bytes_eq (decimal_text (pos n)) array_length ≡ t → bytes_eq (decimal_text (pos n)) array_length ≡ false
    by false e = e
    by true e = absurd (differ (sym (index_read n small) ∙ ap index_of ((bytes_eq-Decides (decimal_text (pos n)) array_length).0 e)))

taken_as : (h : Heap) (o n : ℕ) (v : Value) → n < 2 ^ 32 - 1 → taken h o (decimal_text (pos n)) v ≡ Ok v
taken_as h o n v small =
    ap (λ b. if is_array (kind_of h o) && b then as_number v else Ok v) (not_length n small)
    ∙ elim (is_array (kind_of h o)) as (λ a. (if a && false then as_number v else Ok v) ≡ Ok v) [ true ↦ refl | false ↦ refl ]

-- a write of the property of an index's key, by its answer
pub write_answered : (h k : Heap) (o n : ℕ) (v : Value) (answer : Set) → n < 2 ^ 32 - 1 → answer ≡ set_answer h o (decimal_text (pos n)) v → k ≡ set o (decimal_text (pos n)) v h →
    write o (decimal_text (pos n)) v h ≡ record { heap = k; halt = unwritten answer }
write_answered h k o n v answer small told is =
    ap (λ t. write_taken o (decimal_text (pos n)) t h) (taken_as h o n v small)
    ∙ ap (λ a. record { heap = set o (decimal_text (pos n)) v h; halt = unwritten a }) (sym told)
    ∙ ap (λ s. record { heap = s; halt = unwritten answer }) (sym is)

-- a write of the member that a number tells
pub put_by_number : (h : Heap) (o : Object) (key v : Value) (n : ℕ) → natural key ≡ Some n → put_member (value.Object o) key v h ≡ write o.index (decimal_text (pos n)) v h
put_by_number h o (value.Primitive (primitive.Number (pos m))) v n e =
    let same : m ≡ n = cc in
    ap (λ i. write o.index (decimal_text (pos i)) v h) same
put_by_number h o (value.Primitive (primitive.Number (negsuc m))) v n e = absurd cc
put_by_number h o (value.Primitive primitive.Undefined) v n e = absurd cc
put_by_number h o (value.Primitive primitive.Null) v n e = absurd cc
put_by_number h o (value.Primitive (primitive.Boolean b)) v n e = absurd cc
put_by_number h o (value.Primitive (primitive.Text us)) v n e = absurd cc
put_by_number h o (value.Object p) v n e = absurd cc
