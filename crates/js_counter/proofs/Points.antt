-- What members of data come to.
use Rattle.std.proofs.Common.{◌≡◌, ℕ, zero, suc, ◌+◌, ◌^◌, ◌<◌, ◌&&◌, not, Bool, true, false, List, [], ◌∷◌, length, Option, Some, None, Ok, refl, sym, ap, subst, ◌∙◌, arith, if◌then◌else◌, pos}
use Rattle.std.specs.Prelude.{option_map, option_and_then, slice_get, slice_set, nat_lt}
use Rattle.std.specs.Str.{bytes_eq}
use Rattle.std.proofs.lemmas.Bool.Decides.{nat_tests}
use Rattle.js_terms.specs.declared.operators.UpdateOperator.TheVariants.{Increment}
use Rattle.js_value.specs.declared.value.Value.{Value}
use Rattle.js_value.specs.declared.value.Value.TheVariants as value
use Rattle.js_value.specs.declared.value.Primitive.{Primitive}
use Rattle.js_value.specs.Key.{index_of}
use Rattle.js_value.specs.State.{Property, ObjectRecord, Heap, Store}
use Rattle.js_value.specs.Objects.{object_at, kind_of, count_value, assigned, property_of, own, own_of, found, found_in, get, write_of, write_to, Write, Replaces, Puts, written, set, set_by, set_answer, Done, ReadOnly, write_of_length, write_of_own as write_of_own', with_value_of, is_array, array_length, length_property}
use Rattle.js_value.specs.Conversions.{Is, text_of_primitive}
use Rattle.js_value.specs.Conversions as conversions
use Rattle.js_value.specs.UnaryOperators.{stepped}
use Rattle.js_value.specs.OnObjects.{or_undefined}
use Rattle.js_value.specs.Copying.{Copied, unwritten, write_taken}
use Rattle.js_value.specs.Members.{put_member}
use Rattle.js_value.specs.Realm.{object}
use Rattle.js_value.specs.Running.{on_heap}
use Rattle.js_meaning.specs.declared.outcome.Completion.TheVariants.{Normal}
use Rattle.js_meaning.specs.Effects.{Comp}
use Rattle.js_meaning.specs.Effects as E
use Rattle.js_meaning.specs.declared.outcome.Completion.{Completion}
use Rattle.js_meaning.specs.Meaning.{Member, give, get_member_of, put_value, unless_halted, updates, with_value, numbered, number_value}
use Rattle.js_meaning.specs.Points.{Comes, point, onward}
use Rattle.js_counter.specs.Represents.{Placed, PlacedItems, PlacedMembers, null, truth, negative, number, unit_text, array, plain, none, item, empty, member, value_at, values_of, properties_of, plain_object, plain_array, Holds, item_at, member_at, child, address, record_of, ticked, ticked_items, ticked_members}
use Rattle.js_meaning.proofs.PointLemmas.{point_handle}
use Rattle.js_counter.proofs.Data.{inj, Put, put_by, member_own, item_own}

-- what has a child is an object
pub is_object : (x : Placed) (key : List ℕ) (z : Placed) → child key x ≡ Some z → value_at x ≡ object (address x)
is_object null key z e = cc
is_object (truth b) key z e = cc
is_object (negative neg) key z e = cc
is_object (number n) key z e = cc
is_object (unit_text u) key z e = cc
is_object (array o xs) key z e = refl
is_object (plain o ms) key z e = refl

-- its own property
pub record Owned (h : Heap) (o : ℕ) (key : List ℕ) (v : Value) : Type 0 where
  pub p : Property
  pub own_is : own h o key ≡ Some p
  pub value_is : p.value ≡ v
  pub writable : p.writable ≡ true

pub owned_by : (h : Heap) (x : Placed) (key : List ℕ) (z : Placed) → child key x ≡ Some z → Holds h x → Owned h (address x) key (value_at z)
owned_by h null key z e a = cc
owned_by h (truth b) key z e a = cc
owned_by h (negative neg) key z e a = cc
owned_by h (number n) key z e a = cc
owned_by h (unit_text u) key z e a = cc
owned_by h (array o xs) key z e a = record {
  p = assigned key (value_at z);
  own_is = ap (λ r. own_of r key) a.0.1 ∙ (elim (index_of key) as (λ i. option_and_then (item_at xs) i ≡ Some z → elim i [
    | Some n ↦ option_map (assigned key) (slice_get (values_of xs) n)
    | None ↦ if bytes_eq key array_length then Some (length_property (length (values_of xs))) else property_of [] key
  ] ≡ Some (assigned key (value_at z))) [
    | None ↦ λ f. cc
    | Some i ↦ λ f. ap (option_map (assigned key)) (item_own xs i z f)
  ]) e;
  value_is = refl;
  writable = refl;
}
owned_by h (plain o ms) key z e a = let m = member_own ms key z e in record {
  p = m.0;
  own_is = ap (λ r. own_of r key) a.0.1 ∙ m.1;
  value_is = m.2;
  writable = m.3;
}

-- reading a member
pub found_own : (o : ℕ) (h : Heap) (key : List ℕ) (p : Property) → own h o key ≡ Some p → get h o key ≡ Some p.value
found_own o h key p e = ap (λ q. option_map (λ f. f.property.value) (elim q [ Some p ↦ Some (found_in (object_at h o) p) | None ↦ found o h.objects (object_at h o).prototype key ])) e

pub reads : (s : Store) (x : Placed) (q : Primitive) (z : Placed) → child (text_of_primitive q) x ≡ Some z → Holds s.heap x →
    point (get_member_of (value_at x) (value.Primitive q)) s ≡ Comes (Normal (value_at z)) s
reads s x q z e a =
    let o = owned_by s.heap x (text_of_primitive q) z e a in
    ap (λ v. point (get_member_of v (value.Primitive q)) s) (is_object x (text_of_primitive q) z e)
    ∙ ap (λ v. point (give (or_undefined v)) s) (found_own (address x) s.heap (text_of_primitive q) o.p o.own_is)
    ∙ ap (λ v. Comes (Normal v) s) o.value_is

-- writing a number
written_members : (ms : PlacedMembers) (key : List ℕ) (n : ℕ) → member_at ms key ≡ Some (number n) →
    with_value_of key (count_value (n + 1)) (properties_of ms) ≡ properties_of (ticked_members ms key [])
written_members empty key n e = refl
written_members (member q x ms) key n e = (elim (bytes_eq q key) as (λ b. (if b then Some x else member_at ms key) ≡ Some (number n) →
    (if b then assigned q (count_value (n + 1)) ∷ properties_of ms else assigned q (value_at x) ∷ with_value_of key (count_value (n + 1)) (properties_of ms))
    ≡ properties_of (if b then member q (ticked x []) ms else member q x (ticked_members ms key []))) [
      | true ↦ λ f. ap (λ y. assigned q (value_at (ticked y [])) ∷ properties_of ms) (sym (inj f))
      | false ↦ λ f. ap (λ ps. assigned q (value_at x) ∷ ps) (written_members ms key n f)
    ]) e

written_items : (xs : PlacedItems) (i n : ℕ) → item_at xs i ≡ Some (number n) → slice_set (values_of xs) i (count_value (n + 1)) ≡ values_of (ticked_items xs i [])
written_items none i n e = refl
written_items (item x xs) zero n e = ap (λ y. value_at (ticked y []) ∷ values_of xs) (sym (inj e))
written_items (item x xs) (suc i) n e = ap (λ vs. value_at x ∷ vs) (written_items xs i n e)

may_write : (p : Property) (f : Bool) → p.writable ≡ true → f ≡ false → (p.writable && not f) ≡ true
may_write p f w e = ap (λ b. b && not f) w ∙ ap not e

-- how it is written
record Writes (h : Heap) (x : Placed) (key : List ℕ) (n : ℕ) : Type 0 where
  w : Write
  is : write_of h (address x) key (count_value (n + 1)) ≡ w
  done : set_by w ≡ Done
  makes : written (object_at h (address x)) w key (count_value (n + 1)) ≡ record_of (ticked x (key ∷ []))

by_own : (h : Heap) (o : ℕ) (r : ObjectRecord) (key : List ℕ) (v : Value) (p : Property) (w : Write) → object_at h o ≡ r → own h o key ≡ Some p →
    p.writable ≡ true → r.frozen ≡ false → write_of_own' r key v ≡ w → write_of h o key v ≡ w
by_own h o r key v p w stands has writable free how =
    ap (λ q. write_to (object_at h o) q (found o h.objects (object_at h o).prototype key) key v) has
    ∙ ap (λ (t : ObjectRecord). if (p.writable && not t.frozen) then write_of_own' t key v else ReadOnly) stands
    ∙ ap (λ b. if b then write_of_own' r key v else ReadOnly) (may_write p r.frozen writable free)
    ∙ how

writes_by : (h : Heap) (x : Placed) (key : List ℕ) (n : ℕ) → child key x ≡ Some (number n) → Holds h x → Writes h x key n
writes_by h null key n e a = cc
writes_by h (truth b) key n e a = cc
writes_by h (negative neg) key n e a = cc
writes_by h (number m) key n e a = cc
writes_by h (unit_text u) key n e a = cc
writes_by h (array o xs) key n e a = by (index_of key) refl e
  where
    own_one : Owned h o key (count_value n)
    own_one = owned_by h (array o xs) key (number n) e a

    by : (i : Option ℕ) → index_of key ≡ i → option_and_then (item_at xs) i ≡ Some (number n) → Writes h (array o xs) key n
    by None f e = cc
    by (Some i) f e = record {
      w = Puts i;
      is = by_own h o (plain_array (values_of xs)) key (count_value (n + 1)) own_one.p (Puts i) a.0.1 own_one.own_is own_one.writable refl
          (ap (λ j. elim j [ Some n ↦ Puts n | None ↦ if bytes_eq key array_length then write_of_length (length (values_of xs)) (count_value (n + 1)) else Replaces ]) f);
      done = refl;
      makes = ap (λ r. written r (Puts i) key (count_value (n + 1))) a.0.1 ∙ ap plain_array (written_items xs i n e)
          ∙ ap (λ j. record_of (elim j [ None ↦ array o xs | Some i ↦ array o (ticked_items xs i []) ])) (sym f);
    }
writes_by h (plain o ms) key n e a =
    let own_one = owned_by h (plain o ms) key (number n) e a in record {
      w = Replaces;
      is = by_own h o (plain_object (properties_of ms)) key (count_value (n + 1)) own_one.p Replaces a.0.1 own_one.own_is own_one.writable refl refl;
      done = refl;
      makes = ap (λ r. written r Replaces key (count_value (n + 1))) a.0.1 ∙ ap plain_object (written_members ms key n e);
    }

bound : (h : Heap) (x : Placed) (key : List ℕ) (z : Placed) → child key x ≡ Some z → Holds h x → address x < length h.objects
bound h null key z e a = cc
bound h (truth b) key z e a = cc
bound h (negative neg) key z e a = cc
bound h (number m) key z e a = cc
bound h (unit_text u) key z e a = cc
bound h (array o xs) key z e a = a.0.0
bound h (plain o ms) key z e a = a.0.0

pub put_done : (h : Heap) (x : Placed) (key : List ℕ) (n : ℕ) → child key x ≡ Some (number n) → Holds h x →
    Put h (set (address x) key (count_value (n + 1)) h) (address x) (record_of (ticked x (key ∷ [])))
put_done h x key n e a =
    let w = writes_by h x key n e a in
    let r : written (object_at h (address x)) (write_of h (address x) key (count_value (n + 1))) key (count_value (n + 1)) ≡ record_of (ticked x (key ∷ []))
    = ap (λ u. written (object_at h (address x)) u key (count_value (n + 1))) w.is ∙ w.makes in
    subst (λ t. Put h (set (address x) key (count_value (n + 1)) h) (address x) t) r (put_by h (address x) _ (bound h x key (number n) e a))

pub put_answer : (h : Heap) (x : Placed) (key : List ℕ) (n : ℕ) → child key x ≡ Some (number n) → Holds h x → set_answer h (address x) key (count_value (n + 1)) ≡ Done
put_answer h x key n e a = let w = writes_by h x key n e a in ap set_by w.is ∙ w.done

pub either : {X : Type 0} (b : Bool) (x : X) → (if b then x else x) ≡ x
either true x = refl
either false x = refl

-- a member of data takes one more
put_is : (h : Heap) (x : Placed) (q : Primitive) (n : ℕ) → child (text_of_primitive q) x ≡ Some (number n) → Holds h x →
    put_member (object (address x)) (value.Primitive q) (count_value (n + 1)) h
    ≡ record { heap = set (address x) (text_of_primitive q) (count_value (n + 1)) h; halt = None }
put_is h x q n e a =
    let v = count_value (n + 1) in
    ap (λ t. write_taken (address x) (text_of_primitive q) t h) (either (is_array (kind_of h (address x)) && bytes_eq (text_of_primitive q) array_length) (Ok v))
    ∙ ap (λ t. record { heap = set (address x) (text_of_primitive q) v h; halt = unwritten t }) (put_answer h x (text_of_primitive q) n e a)

one_more : (n : ℕ) → n + 1 < 2 ^ 53 → stepped Increment (pos n) ≡ Is (pos (n + 1))
one_more n l =
    let t : nat_lt (n + 1) (2 ^ 53) ≡ true = grind (arith, nat_tests) in
    ap (λ b. conversions.numbered (if b then Some (pos (n + 1)) else None)) t

abbrev writing : ℕ → ℕ → Primitive → ℕ → Value → Comp
writing env o q n v = E.handle (put_value env (Member (object o) (value.Primitive q)) v) (with_value (λ w. give (count_value n)))

abbrev adds : ℕ → ℕ → Primitive → Completion → Comp
adds env o q = with_value (λ v. numbered (conversions.to_number v) (λ old. numbered (stepped Increment old) (λ new.
    E.handle (put_value env (Member (object o) (value.Primitive q)) (number_value new)) (with_value (λ w. give (number_value (if false then new else old)))))))

pub counts : (s : Store) (env : ℕ) (y : Placed) (q : Primitive) (n : ℕ) → child (text_of_primitive q) y ≡ Some (number n) → n + 1 < 2 ^ 53 → Holds s.heap y →
    point (updates false Increment env (Member (value_at y) (value.Primitive q))) s
    ≡ Comes (Normal (count_value n)) (on_heap (set (address y) (text_of_primitive q) (count_value (n + 1))) s)
counts s env y q n e l a =
    let key = text_of_primitive q in
    ap (λ v. point (updates false Increment env (Member v (value.Primitive q))) s) (is_object y key (number n) e)
    ∙ point_handle (get_member_of (object (address y)) (value.Primitive q)) (adds env (address y) q) s
    ∙ ap (λ r. onward r (adds env (address y) q)) (ap (λ v. point (get_member_of v (value.Primitive q)) s) (sym (is_object y key (number n) e)) ∙ reads s y q (number n) e a)
    ∙ ap (λ t. point (numbered t (λ new. writing env (address y) q n (number_value new))) s) (one_more n l)
    ∙ ap (λ (c : Copied). point (E.handle (unless_halted c.halt (give (count_value (n + 1)))) (with_value (λ w. give (count_value n)))) (record s { heap = c.heap })) (put_is s.heap y q n e a)
