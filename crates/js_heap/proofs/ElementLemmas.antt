-- An element of an array is the property of its index's key.
use Rattle.std.proofs.Common.{◌≡◌, ℕ, ◌-◌, ◌^◌, ◌<◌, ◌≤◌, ◌&&◌, Bool, true, false, not, length, Option, Some, None, OnSome, IfNone, option_map, pos, refl, sym, ap, subst, ◌∙◌, arith, if◌then◌else◌}
use Rattle.std.specs.Prelude.{nat_lt, nat_eq, slice_get}
use Rattle.std.specs.Str.{bytes_eq}
use Rattle.std.proofs.lemmas.Option.{slice_get-get_or, slice_get_past}
use Rattle.std.proofs.lemmas.Bool.Decides.{nat_tests}
use Rattle.js_value.specs.declared.value.Value.{Value}
use Rattle.js_value.specs.State.{ObjectRecord, Heap}
use Rattle.js_value.specs.Objects.{object_at, kind_of, is_array, array_length, elements_of, get, own, own_of, own_of_array, property_of, length_property, assigned, found, write_of, write_to, write_of_new, Puts, Appends, Adds, Sparse, ReadOnly}
use Rattle.js_value.specs.Key.{index_of}
use Rattle.js_value.specs.Numbers.{decimal_text}
use Rattle.js_value.proofs.IndexLemmas.{index_read, element_got}
use Rattle.js_heap.specs.private.Object.{element_in, takes_element, ends_at}
use Rattle.js_heap.specs.private.Write.{property_write, element_write, length_write, array_write, own_write}
use Rattle.js_heap.proofs.WriteLemmas.{write_of-own}

-- where there is an element, both tests hold
tests : (a b : Bool) (x : Option Value) (v : Value) → (if a && b then x else None) ≡ Some v → (a ≡ true) × (b ≡ true) × (x ≡ Some v)
tests true true x v e = (refl, refl, e)
tests true false x v e = absurd cc
tests false b x v e = absurd cc

pub element_gets : (h : Heap) (o n : ℕ) (v : Value) → element_in (object_at h o) n ≡ Some v → get h o (decimal_text (pos n)) ≡ Some v
element_gets h o n v e =
    let holds = tests (is_array (kind_of h o)) (nat_lt n (2 ^ 32 - 1)) (slice_get (elements_of h o) n) v e in
    let small : n < 2 ^ 32 - 1 = grind (arith, nat_tests, holds.1) in
    element_got h o n v small holds.0 holds.2

-- A write to an element that may be written

-- what the tests say
all_four : (a f b d : Bool) → (a && not f && b && d) ≡ true → (a ≡ true) × (f ≡ false) × (b ≡ true) × (d ≡ true)
all_four true false true true e = (refl, refl, refl, refl)
all_four true false true false e = absurd cc
all_four true false false d e = absurd cc
all_four true true b d e = absurd cc
all_four false f b d e = absurd cc

puts : (object : ObjectRecord) (n : ℕ) (v : Value) → takes_element object n ≡ true → own_write object (decimal_text (pos n)) v ≡ Some (Puts n)
puts object n v takes =
    let key = decimal_text (pos n) in
    let holds = all_four (is_array object.kind) object.frozen (nat_lt n (2 ^ 32 - 1)) (nat_lt n (length object.elements)) takes in
    let small : n < 2 ^ 32 - 1 = grind (arith, nat_tests, holds.2) in
    let within : n < length object.elements = grind (arith, nat_tests, holds.3) in
    ap (λ b. if b then array_write object key v else property_write object key) holds.0
    ∙ ap (λ i. elim i [
      | Some m ↦ element_write object m
      | None ↦ if bytes_eq key array_length then Some (length_write object v) else property_write object key
    ]) (index_read n small)
    ∙ ap (option_map (λ w. if object.frozen then ReadOnly else Puts n)) (slice_get-get_or object.elements n v within)
    ∙ ap (λ f. Some (if f then ReadOnly else Puts n)) holds.1

pub element_puts : (h : Heap) (o n : ℕ) (v : Value) → takes_element (object_at h o) n ≡ true → write_of h o (decimal_text (pos n)) v ≡ Puts n
element_puts h o n v takes = write_of-own h o (decimal_text (pos n)) v (Puts n) (puts (object_at h o) n v takes)

-- what follows where the value is given back, and where it is put
pub put_back : {P : Type 0} (t : Bool) (r : Option Value) (v : Value) (old new put : ObjectRecord) → r ≡ (if t then None else Some v) → new ≡ (if t then put else old) → (new ≡ old → P) → OnSome r P
put_back {P} true r v old new put answer after k = subst (λ q. OnSome q P) (sym answer) tt
put_back {P} false r v old new put answer after k = subst (λ q. OnSome q P) (sym answer) (k after)

pub put_done : {P : Type 0} (t : Bool) (r : Option Value) (v : Value) (old new put : ObjectRecord) → r ≡ (if t then None else Some v) → new ≡ (if t then put else old) → (t ≡ true → new ≡ put → P) → IfNone r P
put_done {P} true r v old new put answer after k = subst (λ q. IfNone q P) (sym answer) (k refl after)
put_done {P} false r v old new put answer after k = subst (λ q. IfNone q P) (sym answer) tt

-- An array has no element behind its last

pub lacks_element : (object : ObjectRecord) (n : ℕ) → is_array object.kind ≡ true → n < 2 ^ 32 - 1 → length object.elements ≤ n → own_of object (decimal_text (pos n)) ≡ None
lacks_element object n array small past =
    let key = decimal_text (pos n) in
    ap (λ b. if b then own_of_array object key else property_of object.properties key) array
    ∙ ap (λ i. elim i [
      | Some m ↦ option_map (assigned key) (slice_get object.elements m)
      | None ↦ if bytes_eq key array_length then Some (length_property (length object.elements)) else property_of object.properties key
    ]) (index_read n small)
    ∙ ap (option_map (assigned key)) (slice_get_past object.elements n past)

-- so a write there puts one more, where what it inherits from has none either
pub end_appends : (h : Heap) (o n : ℕ) (v : Value) → ends_at (object_at h o) n ≡ true → (n < 2 ^ 32 - 1 → found o h.objects (object_at h o).prototype (decimal_text (pos n)) ≡ None) →
    write_of h o (decimal_text (pos n)) v ≡ Appends
end_appends h o n v ends none =
    let object = object_at h o in
    let key = decimal_text (pos n) in
    let holds = all_four (is_array object.kind) object.frozen (nat_lt n (2 ^ 32 - 1)) (nat_eq n (length object.elements)) ends in
    let small : n < 2 ^ 32 - 1 = grind (arith, nat_tests, holds.2) in
    let past : length object.elements ≤ n = grind (arith, nat_tests, holds.3) in
    ap (λ p. write_to object p (found o h.objects object.prototype key) key v) (lacks_element object n holds.0 small past)
    ∙ ap (λ f. write_to object None f key v) (none small)
    ∙ ap (λ f. if f then ReadOnly else write_of_new object key) holds.1
    ∙ ap (λ b. if b then elim (index_of key) [ None ↦ Adds | Some m ↦ if nat_eq m (length object.elements) then Appends else Sparse ] else Adds) holds.0
    ∙ ap (λ i. elim i [ None ↦ Adds | Some m ↦ if nat_eq m (length object.elements) then Appends else Sparse ]) (index_read n small)
    ∙ ap (λ b. if b then Appends else Sparse) holds.3

-- what is given back
pub back_is : (t : Bool) (r : Option Value) (v w : Value) → r ≡ (if t then None else Some v) → r ≡ Some w → w ≡ v
back_is true r v w answer is = absurd cc
back_is false r v w answer is = cc
