-- Literals of data make them.
use Rattle.std.proofs.Common.{◌≡◌, ◌≢◌, ℕ, zero, suc, ◌+◌, ◌<◌, ◌≤◌, ◌^◌, true, false, List, [], ◌∷◌, ◌++◌, length, Some, None, refl, sym, ap, subst, ◌∙◌, arith, if◌then◌else◌, pos, append_assoc}
use Rattle.std.specs.Prelude.{nat_lt, negsuc}
use Rattle.std.proofs.lemmas.Bool.Decides.{nat_tests}
use Rattle.js_terms.specs.declared.operators.UnaryOperator.TheVariants as unary
use Rattle.js_value.specs.Operators.{number_answer}
use Rattle.std.specs.Str.{bytes_eq}
use Rattle.std.proofs.lemmas.List.{length_push}
use Rattle.std.proofs.Math.Seq.{get_or-append_seam}
use Rattle.js_terms.specs.declared.words.Spelled.{Spelled}
use Rattle.js_value.specs.declared.value.Value.{Value}
use Rattle.js_value.specs.declared.built_in.Place.TheVariants.{ObjectPrototype, ArrayPrototype}
use Rattle.js_value.specs.Numbers.{literal_number}
use Rattle.js_value.specs.State.{Plain, Property, ObjectRecord, Heap, Store}
use Rattle.js_value.specs.Objects.{object_at, no_object, next_object, new_object, new_array, assigned, property_of, with_property, define}
use Rattle.js_value.specs.Running.{on_heap}
use Rattle.js_value.specs.Realm.{number_of, object}
use Rattle.js_meaning.specs.declared.outcome.Completion.TheVariants.{Normal}
use Rattle.js_meaning.specs.Effects.{Comp, handle}
use Rattle.js_meaning.specs.Program.{Sources}
use Rattle.js_meaning.specs.Meaning.{operated_unary, answered, with_value, number as number', named, defines, makes, comp_expr, comp_values, comp_properties}
use Rattle.js_meaning.specs.Points.{Comes, point, onward}
use Rattle.js_value.proofs.LookupLemmas.{grown_more}
use Rattle.js_counter.specs.Represents as R
use Rattle.js_counter.specs.Represents.{Json, Placed, PlacedItems, PlacedMembers, json_of, json_items, json_members, value_at, values_of, properties_of, plain_object, plain_array, On, OnItems, OnMembers, Stands, Holds, HoldsItems, HoldsMembers, Off, Distinct, DistinctItems, DistinctMembers}
use Rattle.js_counter.specs.Literals.{Literal, LiteralItems, LiteralMembers, null, truth, negative, number, spelled_text, array, plain, none, item, empty, member, expr_of, exprs_of, properties, data_of, data_items, data_members, NoKey, KeysApart, ItemsApart, MembersApart, Grows, Makes, LiteralsMake}
use Rattle.js_meaning.proofs.PointLemmas.{point_handle}
use Rattle.js_counter.proofs.Heaps.{append_nothing}
use Rattle.js_counter.proofs.Data.{on_both, both_items, both_members, holds_grown, Put, put_by, holds_put}

-- Growth

abbrev same_store : Store → Heap → Store
same_store s k = on_heap (λ h. k) s

grows_none : (h : Heap) → Grows h h
grows_none h = record { environments = refl; objects = λ o low. (low, refl) }

grows_then : (h k l : Heap) → Grows h k → Grows k l → Grows h l
grows_then h k l a b = record {
  environments = b.environments ∙ a.environments;
  objects = λ o low. let x = a.objects o low in let y = b.objects o x.0 in (y.0, y.1 ∙ x.1);
}

grows_length : (h k : Heap) → Grows h k → next_object h ≤ next_object k
grows_length h k g = by (next_object h) refl
  where
    by : (n : ℕ) → next_object h ≡ n → n ≤ next_object k
    by zero e = omega arith
    by (suc n) e = let l : n < next_object h = omega (arith, e) in let x = (g.objects n l).0 in omega (arith, x)

grows_push : (h : Heap) (x : ObjectRecord) → Grows h (record h { objects = h.objects ++ x ∷ [] })
grows_push h x = record { environments = refl; objects = grown_more h (x ∷ []) h.environments }

holds_grows : (h k : Heap) (x : Placed) → Grows h k → Holds h x → Holds k x
holds_grows h k x g a = holds_grown h k x g.objects a

items_grow : (h k : Heap) (xs : PlacedItems) → Grows h k → HoldsItems h xs → HoldsItems k xs
items_grow h k xs g a = both_items (Stands h) (Stands h) (Stands k) (λ o r c d. let x = g.objects o c.0 in (x.0, x.1 ∙ c.1)) xs a a

-- from a number on
abbrev pub From : ℕ → ℕ → ObjectRecord → Type 0
From n o r = n ≤ o

-- below a number
abbrev pub Below : ℕ → ℕ → ObjectRecord → Type 0
Below n o r = o < n

pub below_heap : (h : Heap) (x : Placed) → Holds h x → On (Below (next_object h)) x
below_heap h x a = on_both (Stands h) (Stands h) (Below (next_object h)) (λ o r c d. c.0) x a a

from_earlier : (n m : ℕ) (x : Placed) → n ≤ m → On (From m) x → On (From n) x
from_earlier n m x l a = on_both (From m) (From m) (From n) (λ o r c d. omega (arith, l, c)) x a a

items_earlier : (n m : ℕ) (xs : PlacedItems) → n ≤ m → OnItems (From m) xs → OnItems (From n) xs
items_earlier n m xs l a = both_items (From m) (From m) (From n) (λ o r c d. omega (arith, l, c)) xs a a

members_earlier : (n m : ℕ) (xs : PlacedMembers) → n ≤ m → OnMembers (From m) xs → OnMembers (From n) xs
members_earlier n m xs l a = both_members (From m) (From m) (From n) (λ o r c d. omega (arith, l, c)) xs a a

pub differs : (q o : ℕ) → q < o → o ≢ q
differs q o l e = omega (arith, l, e)

-- what is made later is apart
apart_items : (n : ℕ) (x : Placed) (xs : PlacedItems) → On (Below n) x → OnItems (From n) xs → On (λ o r. OnItems (Off o) xs) x
apart_items n x xs a b = on_both (Below n) (Below n) (λ o r. OnItems (Off o) xs)
    (λ o r c d. both_items (From n) (From n) (Off o) (λ q t e f. differs o q (omega (arith, c, e))) xs b b) x a a

apart_members : (n : ℕ) (x : Placed) (xs : PlacedMembers) → On (Below n) x → OnMembers (From n) xs → On (λ o r. OnMembers (Off o) xs) x
apart_members n x xs a b = on_both (Below n) (Below n) (λ o r. OnMembers (Off o) xs)
    (λ o r c d. both_members (From n) (From n) (Off o) (λ q t e f. differs o q (omega (arith, c, e))) xs b b) x a a

-- no literal of data is a function, so that a name makes no difference
not_named : (p : Sources) (key : List ℕ) (x : Literal) (env : ℕ) (c : Comp) → named key (expr_of x) env c ≡ c
not_named p key null env c = refl
not_named p key (truth b) env c = refl
not_named p key (negative sp neg e low) env c = refl
not_named p key (number sp n e) env c = refl
not_named p key (spelled_text sp) env c = refl
not_named p key (array xs) env c = refl
not_named p key (plain ms) env c = refl

-- a number below 0
minus : (sp : List ℕ) (n : ℕ) (s : Store) → literal_number sp ≡ Some (pos (suc n)) → suc n < 2 ^ 53 →
    point (handle (number' (literal_number sp)) (with_value (operated_unary unary.Minus))) s ≡ Comes (Normal (value_at (R.negative n))) s
minus sp n s e low =
    let t : nat_lt (suc n) (2 ^ 53) ≡ true = grind (arith, nat_tests) in
    ap (λ o. point (handle (number' o) (with_value (operated_unary unary.Minus))) s) e
    ∙ ap (λ b. point (answered (number_answer (if b then Some (negsuc n) else None))) s) t

-- a key that is not there comes at the end
new_property : (ps : List Property) (key : List ℕ) (v : Value) → property_of ps key ≡ None → with_property (assigned key v) ps ≡ ps ++ assigned key v ∷ []
new_property [] key v e = refl
new_property (q ∷ qs) key v e = (elim (bytes_eq q.key key) as (λ b. (if b then Some q else property_of qs key) ≡ None →
    (if b then assigned key v ∷ qs else q ∷ with_property (assigned key v) qs) ≡ q ∷ (qs ++ assigned key v ∷ [])) [
      | true ↦ λ f. cc
      | false ↦ λ f. ap (λ xs. q ∷ xs) (new_property qs key v f)
    ]) e

still_none : (ps : List Property) (key next : List ℕ) (v : Value) → property_of ps next ≡ None → bytes_eq key next ≡ false → property_of (ps ++ assigned key v ∷ []) next ≡ None
still_none [] key next v e f = ap (λ b. if b then Some (assigned key v) else None) f
still_none (q ∷ qs) key next v e f = (elim (bytes_eq q.key next) as (λ b. (if b then Some q else property_of qs next) ≡ None →
    (if b then Some q else property_of (qs ++ assigned key v ∷ []) next) ≡ None) [
      | true ↦ λ g. cc
      | false ↦ λ g. still_none qs key next v g f
    ]) e

abbrev NonePresent : List Property → LiteralMembers → Type 0
NonePresent ps empty = Unit {0}
NonePresent ps (member key x ms) = (property_of ps key.units ≡ None) × NonePresent ps ms

still_none_all : (ps : List Property) (key : List ℕ) (v : Value) (ms : LiteralMembers) → NonePresent ps ms → NoKey key ms → NonePresent (ps ++ assigned key v ∷ []) ms
still_none_all ps key v empty a b = tt
still_none_all ps key v (member q x ms) a b = (still_none ps key q.units v a.0 b.0, still_none_all ps key v ms a.1 b.1)

none_yet : (ms : LiteralMembers) → NonePresent [] ms
none_yet empty = tt
none_yet (member q x ms) = (refl, none_yet ms)

pub pushed_is : (h : Heap) (x : ObjectRecord) → object_at (record h { objects = h.objects ++ x ∷ [] }) (next_object h) ≡ x
pushed_is h x = get_or-append_seam h.objects x [] no_object

pub pushed_low : (h : Heap) (x : ObjectRecord) → next_object h < length (h.objects ++ x ∷ [])
pushed_low h x = let l = length_push h.objects x in omega (arith, l)

module _ (p : Sources) (env : ℕ) where
  record MakesItems (xs : LiteralItems) (s : Store) : Type 0 where
    placed : PlacedItems
    heap : Heap
    comes : (vs : List Value) (next : List Value → Comp) → point (comp_values p (exprs_of xs) env vs next) s ≡ point (next (vs ++ values_of placed)) (same_store s heap)
    grows : Grows s.heap heap
    holds : HoldsItems heap placed
    distinct : DistinctItems placed
    data_is : json_items placed ≡ data_items xs
    fresh : OnItems (From (next_object s.heap)) placed

  -- the object itself has members before, and all that is older is as it was
  record MakesMembers (ms : LiteralMembers) (o : ℕ) (before : List Property) (s : Store) : Type 0 where
    placed : PlacedMembers
    heap : Heap
    comes : point (comp_properties p (properties ms) env o) s ≡ Comes (Normal (object o)) (same_store s heap)
    environments : heap.environments ≡ s.heap.environments
    objects : (q : ℕ) → q < length s.heap.objects → (q < length heap.objects) × (q ≢ o → object_at heap q ≡ object_at s.heap q)
    is : object_at heap o ≡ plain_object (before ++ properties_of placed)
    holds : HoldsMembers heap placed
    distinct : DistinctMembers placed
    data_is : json_members placed ≡ data_members ms
    fresh : OnMembers (From (next_object s.heap)) placed

  -- without an object
  alone : (c : Comp) (json : Json) (x : Placed) (s : Store) → point c s ≡ Comes (Normal (value_at x)) s → json_of x ≡ json →
      ((P : ℕ → ObjectRecord → Type 0) → On P x) → Distinct x → Makes c s json
  alone c json x s e j on d = record {
    placed = x;
    heap = s.heap;
    comes = e;
    grows = grows_none s.heap;
    holds = on (Stands s.heap);
    distinct = d;
    data_is = j;
    fresh = on (From (next_object s.heap));
  }

  of_items : (xs : LiteralItems) (s : Store) → MakesItems xs s → Makes (comp_expr p (expr_of (array xs)) env) s (data_of (array xs))
  of_items xs s m =
      let o = next_object m.heap in
      let r = plain_array (values_of m.placed) in
      let k = new_array (number_of ArrayPrototype) (values_of m.placed) m.heap in
      let g : Grows m.heap k = grows_push m.heap r in
      record {
        placed = R.array o m.placed;
        heap = k;
        comes = m.comes [] (λ vs. makes (new_array (number_of ArrayPrototype) vs));
        grows = grows_then s.heap m.heap k m.grows g;
        holds = ((pushed_low m.heap r, pushed_is m.heap r), items_grow m.heap k m.placed g m.holds);
        distinct = (both_items (Stands m.heap) (Stands m.heap) (Off o) (λ q t c d e. omega (arith, c.0, e)) m.placed m.holds m.holds, m.distinct);
        data_is = ap R.Items m.data_is;
        fresh = (grows_length s.heap m.heap m.grows, m.fresh);
      }

  of_members : (ms : LiteralMembers) (s : Store) →
      MakesMembers ms (next_object s.heap) [] (on_heap (new_object Plain (Some (number_of ObjectPrototype))) s) →
      Makes (comp_expr p (expr_of (plain ms)) env) s (data_of (plain ms))
  of_members ms s m =
      let o = next_object s.heap in
      let h = new_object Plain (Some (number_of ObjectPrototype)) s.heap in
      let l : next_object h ≡ next_object s.heap + 1 = length_push s.heap.objects (plain_object []) in
      let g = grows_push s.heap (plain_object []) in
      record {
        placed = R.plain o m.placed;
        heap = m.heap;
        comes = m.comes;
        grows = record {
          environments = m.environments;
          objects = λ q low. let x = g.objects q low in let y = m.objects q x.0 in (y.0, y.1 (λ e. omega (arith, low, e)) ∙ x.1);
        };
        holds = (((m.objects o (pushed_low s.heap (plain_object []))).0, m.is), m.holds);
        distinct = (both_members (From (next_object h)) (From (next_object h)) (Off o) (λ q t c d e. omega (arith, c, e, l)) m.placed m.fresh m.fresh, m.distinct);
        data_is = ap R.Members m.data_is;
        fresh = (omega arith, members_earlier (next_object s.heap) (next_object h) m.placed (omega (arith, l)) m.fresh);
      }

  items_none : (s : Store) → MakesItems none s
  items_none s = record {
    placed = R.none;
    heap = s.heap;
    comes = λ vs next. ap (λ l. point (next l) s) (sym (append_nothing vs));
    grows = grows_none s.heap;
    holds = tt;
    distinct = tt;
    data_is = refl;
    fresh = tt;
  }

  items_more : (x : Literal) (xs : LiteralItems) (s : Store) (a : Makes (comp_expr p (expr_of x) env) s (data_of x)) →
      MakesItems xs (same_store s a.heap) → MakesItems (item x xs) s
  items_more x xs s a b = record {
    placed = R.item a.placed b.placed;
    heap = b.heap;
    comes = λ vs next. point_handle (comp_expr p (expr_of x) env) (with_value (λ v. comp_values p (exprs_of xs) env (vs ++ v ∷ []) next)) s
        ∙ ap (λ q. onward q (with_value (λ v. comp_values p (exprs_of xs) env (vs ++ v ∷ []) next))) a.comes
        ∙ b.comes (vs ++ value_at a.placed ∷ []) next
        ∙ ap (λ l. point (next l) (same_store s b.heap)) (append_assoc vs (value_at a.placed ∷ []) (values_of b.placed));
    grows = grows_then s.heap a.heap b.heap a.grows b.grows;
    holds = (holds_grows a.heap b.heap a.placed b.grows a.holds, b.holds);
    distinct = (a.distinct, b.distinct, apart_items (next_object a.heap) a.placed b.placed (below_heap a.heap a.placed a.holds) b.fresh);
    data_is = ap (λ y. R.items y (json_items b.placed)) a.data_is ∙ ap (R.items (data_of x)) b.data_is;
    fresh = (a.fresh, items_earlier (next_object s.heap) (next_object a.heap) b.placed (grows_length s.heap a.heap a.grows) b.fresh);
  }

  members_none : (o : ℕ) (before : List Property) (s : Store) → object_at s.heap o ≡ plain_object before → MakesMembers empty o before s
  members_none o before s here = record {
    placed = R.empty;
    heap = s.heap;
    comes = refl;
    environments = refl;
    objects = λ q low. (low, λ n. refl);
    is = here ∙ ap plain_object (sym (append_nothing before));
    holds = tt;
    distinct = tt;
    data_is = refl;
    fresh = tt;
  }

  -- the property of a member is defined
  module _ (key : Spelled) (x : Literal) (ms : LiteralMembers) (o : ℕ) (before : List Property) (s : Store)
      (here : object_at s.heap o ≡ plain_object before) (low : o < next_object s.heap) (absent : property_of before key.units ≡ None)
      (a : Makes (comp_expr p (expr_of x) env) s (data_of x)) where
    abbrev defined : Property
    defined = assigned key.units (value_at a.placed)

    abbrev k1 : Heap
    k1 = define o defined a.heap

    put : Put a.heap k1 o (record (object_at a.heap o) { properties = with_property defined (object_at a.heap o).properties })
    put = put_by a.heap o _ (a.grows.objects o low).0

    here_then : object_at k1 o ≡ plain_object (before ++ defined ∷ [])
    here_then = put.same
        ∙ ap (λ (r : ObjectRecord). record r { properties = with_property defined r.properties }) ((a.grows.objects o low).1 ∙ here)
        ∙ ap plain_object (new_property before key.units (value_at a.placed) absent)

    low_then : o < next_object k1
    low_then = let l = put.size in let m = (a.grows.objects o low).0 in omega (arith, l, m)

    comes_more : (b : MakesMembers ms o (before ++ defined ∷ []) (same_store s k1)) →
        point (comp_properties p (properties (member key x ms)) env o) s ≡ Comes (Normal (object o)) (same_store s b.heap)
    comes_more b =
        ap (λ c. point (handle (handle c (with_value (defines o key.units))) (with_value (λ v. comp_properties p (properties ms) env o))) s) (not_named p key.units x env (comp_expr p (expr_of x) env))
        ∙ point_handle (handle (comp_expr p (expr_of x) env) (with_value (defines o key.units))) (with_value (λ v. comp_properties p (properties ms) env o)) s
        ∙ ap (λ q. onward q (with_value (λ v. comp_properties p (properties ms) env o)))
        (point_handle (comp_expr p (expr_of x) env) (with_value (defines o key.units)) s ∙ ap (λ q. onward q (with_value (defines o key.units))) a.comes)
        ∙ b.comes

    members_more : MakesMembers ms o (before ++ defined ∷ []) (same_store s k1) → MakesMembers (member key x ms) o before s
    members_more b =
        let l = put.size in
        let g = grows_length s.heap a.heap a.grows in
        let off : On (Off o) a.placed = on_both (From (next_object s.heap)) (From (next_object s.heap)) (Off o) (λ q r c d e. omega (arith, c, e, low)) a.placed a.fresh a.fresh in
        record {
          placed = R.member key.units a.placed b.placed;
          heap = b.heap;
          comes = comes_more b;
          environments = b.environments ∙ a.grows.environments;
          objects = λ q i. let x = a.grows.objects q i in let y = b.objects q (subst (λ n. q < n) (sym put.size) x.0) in
              (y.0, λ n. y.1 n ∙ put.others q n ∙ x.1);
          is = b.is ∙ ap plain_object (append_assoc before (defined ∷ []) (properties_of b.placed));
          holds = (
            on_both (Stands k1) (Off o) (Stands b.heap) (λ q r c n. let y = b.objects q c.0 in (y.0, y.1 n ∙ c.1)) a.placed
                (holds_put a.heap k1 o _ put a.placed a.holds off) off,
            b.holds,
          );
          distinct = (
            a.distinct,
            b.distinct,
            apart_members (next_object k1) a.placed b.placed
                (below_heap k1 a.placed (holds_put a.heap k1 o _ put a.placed a.holds off)) b.fresh,
          );
          data_is = ap (λ y. R.members key.units y (json_members b.placed)) a.data_is ∙ ap (R.members key.units (data_of x)) b.data_is;
          fresh = (a.fresh, members_earlier (next_object s.heap) (next_object k1) b.placed (omega (arith, l, g)) b.fresh);
        }

  mutual
    makes_it : (x : Literal) (s : Store) → KeysApart x → Makes (comp_expr p (expr_of x) env) s (data_of x)
    makes_it null s k = alone _ _ R.null s refl refl (λ P. tt) tt
    makes_it (truth b) s k = alone _ _ (R.truth b) s refl refl (λ P. tt) tt
    makes_it (negative sp neg e low) s k = alone _ _ (R.negative neg) s (minus sp neg s e low) refl (λ P. tt) tt
    makes_it (number sp n e) s k = alone _ _ (R.number n) s (ap (λ o. point (number' o) s) e) refl (λ P. tt) tt
    makes_it (spelled_text sp) s k = alone _ _ (R.unit_text sp.units) s refl refl (λ P. tt) tt
    makes_it (array xs) s k = of_items xs s (makes_items xs s k)
    makes_it (plain ms) s k = of_members ms s (makes_members ms (next_object s.heap) [] (on_heap (new_object Plain (Some (number_of ObjectPrototype))) s)
        (pushed_is s.heap (plain_object [])) (pushed_low s.heap (plain_object [])) (none_yet ms) k)

    makes_items : (xs : LiteralItems) (s : Store) → ItemsApart xs → MakesItems xs s
    makes_items none s k = items_none s
    makes_items (item x xs) s k = let a = makes_it x s k.0 in items_more x xs s a (makes_items xs (same_store s a.heap) k.1)

    makes_members : (ms : LiteralMembers) (o : ℕ) (before : List Property) (s : Store) → object_at s.heap o ≡ plain_object before → o < next_object s.heap →
        NonePresent before ms → MembersApart ms → MakesMembers ms o before s
    makes_members empty o before s here low absent k = members_none o before s here
    makes_members (member key x ms) o before s here low absent k =
        let a = makes_it x s k.1 in
        members_more key x ms o before s here low absent.0 a
        (makes_members ms o (before ++ assigned key.units (value_at a.placed) ∷ []) (same_store s (k1 key x ms o before s here low absent.0 a))
        (here_then key x ms o before s here low absent.0 a) (low_then key x ms o before s here low absent.0 a)
        (still_none_all before key.units (value_at a.placed) ms absent.1 k.0) k.2)

pub literals_make : LiteralsMake
literals_make p x env s k = makes_it p env x s k
