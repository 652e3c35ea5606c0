-- A write of one number more makes the data that with one number more.
use Rattle.std.proofs.Common.{◌≡◌, ℕ, zero, suc, ◌<◌, true, false, List, [], ◌∷◌, Some, None, refl, sym, ap, subst, ◌∙◌, if◌then◌else◌}
use Rattle.std.specs.Prelude.{option_and_then}
use Rattle.std.specs.Str.{bytes_eq}
use Rattle.js_value.specs.Key.{index_of}
use Rattle.js_value.specs.State.{ObjectRecord, Heap}
use Rattle.js_value.specs.Objects.{assigned}
use Rattle.js_counter.specs.Represents.{Placed, PlacedItems, PlacedMembers, null, truth, negative, number, unit_text, array, plain, none, item, empty, member, value_at, values_of, properties_of, plain_object, plain_array, On, OnItems, OnMembers, Stands, Holds, HoldsItems, HoldsMembers, Off, Distinct, DistinctItems, DistinctMembers, item_at, member_at, child, Within, address, record_of, ticked, ticked_items, ticked_members}
use Rattle.js_counter.proofs.Data.{inj, on_both, Put, holds_put, items_put, members_put, stands_put, member_on, item_on, child_distinct, item_distinct, within_on, ticked_value}

-- what holds a deeper number has the same values
values_ticked : (xs : PlacedItems) (i : ℕ) (key : List ℕ) (keys : List (List ℕ)) → values_of (ticked_items xs i (key ∷ keys)) ≡ values_of xs
values_ticked none i key keys = refl
values_ticked (item x xs) zero key keys = ap (λ v. v ∷ values_of xs) (ticked_value x key keys)
values_ticked (item x xs) (suc i) key keys = ap (λ vs. value_at x ∷ vs) (values_ticked xs i key keys)

properties_ticked : (ms : PlacedMembers) (q key : List ℕ) (keys : List (List ℕ)) → properties_of (ticked_members ms q (key ∷ keys)) ≡ properties_of ms
properties_ticked empty q key keys = refl
properties_ticked (member r x ms) q key keys = elim (bytes_eq r q) as (λ b. properties_of (if b then member r (ticked x (key ∷ keys)) ms else member r x (ticked_members ms q (key ∷ keys))) ≡ properties_of (member r x ms)) [
  | true ↦ ap (λ v. assigned r v ∷ properties_of ms) (ticked_value x key keys)
  | false ↦ ap (λ ps. assigned r (value_at x) ∷ ps) (properties_ticked ms q key keys)
]

module _ (P : ℕ → ObjectRecord → Type 0) (n : ℕ) where
  -- a number is no object
  number_on : (x : Placed) → x ≡ number n → On P (ticked x [])
  number_on x e = subst (λ y. On P (ticked y [])) (sym e) tt

  items_here : (xs : PlacedItems) (i : ℕ) → item_at xs i ≡ Some (number n) → OnItems P xs → OnItems P (ticked_items xs i [])
  items_here none i e a = tt
  items_here (item x xs) zero e a = (number_on x (inj e), a.1)
  items_here (item x xs) (suc i) e a = (a.0, items_here xs i e a.1)

  members_here : (ms : PlacedMembers) (key : List ℕ) → member_at ms key ≡ Some (number n) → OnMembers P ms → OnMembers P (ticked_members ms key [])
  members_here empty key e a = tt
  members_here (member q x ms) key e a = (elim (bytes_eq q key) as (λ b. (if b then Some x else member_at ms key) ≡ Some (number n) →
      OnMembers P (if b then member q (ticked x []) ms else member q x (ticked_members ms key []))) [
        | true ↦ λ f. (number_on x (inj f), a.1)
        | false ↦ λ f. (a.0, members_here ms key f a.1)
      ]) e

module _ (h k : Heap) (n : ℕ) where
  here : (x : Placed) (key : List ℕ) → child key x ≡ Some (number n) → Put h k (address x) (record_of (ticked x (key ∷ []))) → Holds h x → Distinct x →
      Holds k (ticked x (key ∷ []))
  here null key e put a d = tt
  here (truth b) key e put a d = tt
  here (negative neg) key e put a d = tt
  here (number m) key e put a d = tt
  here (unit_text u) key e put a d = tt
  here (array o xs) key e put a d = (elim (index_of key) as (λ i. option_and_then (item_at xs) i ≡ Some (number n) →
      Put h k o (record_of (elim i [ None ↦ array o xs | Some i ↦ array o (ticked_items xs i []) ])) →
      Holds k (elim i [ None ↦ array o xs | Some i ↦ array o (ticked_items xs i []) ])) [
        | None ↦ λ e put. cc
        | Some i ↦ λ e put. (stands_put h k o _ put a.0.0, items_here (Stands k) n xs i e (items_put h k o _ put xs a.1 d.0))
      ]) e put
  here (plain o ms) key e put a d = (stands_put h k o _ put a.0.0, members_here (Stands k) n ms key e (members_put h k o _ put ms a.1 d.0))

  -- beside what is written to
  module _ (a : ℕ) (r : ObjectRecord) (put : Put h k a r) (z : Placed) (key : List ℕ) (keys : List (List ℕ))
      (has : (P : ℕ → ObjectRecord → Type 0) → On P z → (s : ObjectRecord) × P a s)
      (change : Holds h z → Distinct z → Holds k (ticked z (key ∷ keys))) where
    beside_items : (x : Placed) (xs : PlacedItems) → On (λ o r. OnItems (Off o) xs) x → ((P : ℕ → ObjectRecord → Type 0) → OnItems P xs → On P z) → On (Off a) x
    beside_items x xs d find = on_both _ _ (Off a) (λ o r c e. λ f. (has (Off o) (find (Off o) c)).1 (sym f)) x d d

    beside_members : (x : Placed) (ms : PlacedMembers) → On (λ o r. OnMembers (Off o) ms) x → ((P : ℕ → ObjectRecord → Type 0) → OnMembers P ms → On P z) → On (Off a) x
    beside_members x ms d find = on_both _ _ (Off a) (λ o r c e. λ f. (has (Off o) (find (Off o) c)).1 (sym f)) x d d

    deep_items : Holds k (ticked z (key ∷ keys)) → (xs : PlacedItems) (i : ℕ) → item_at xs i ≡ Some z → HoldsItems h xs → DistinctItems xs → HoldsItems k (ticked_items xs i (key ∷ keys))
    deep_items changed none i e a d = tt
    deep_items changed (item x xs) zero e b d = (
      subst (λ y. Holds k (ticked y (key ∷ keys))) (sym (inj e)) changed,
      items_put h k a r put xs b.1 (has (λ o r. OnItems (Off o) xs) (subst (On _) (inj e) d.2)).1,
    )
    deep_items changed (item x xs) (suc i) e b d = (
      holds_put h k a r put x b.0 (beside_items x xs d.2 (λ P c. item_on P xs i z e c)),
      deep_items changed xs i e b.1 d.1,
    )

    deep_members : Holds k (ticked z (key ∷ keys)) → (ms : PlacedMembers) (q : List ℕ) → member_at ms q ≡ Some z → HoldsMembers h ms → DistinctMembers ms → HoldsMembers k (ticked_members ms q (key ∷ keys))
    deep_members changed empty q e b d = tt
    deep_members changed (member p x ms) q e b d = (elim (bytes_eq p q) as (λ t. (if t then Some x else member_at ms q) ≡ Some z →
        HoldsMembers k (if t then member p (ticked x (key ∷ keys)) ms else member p x (ticked_members ms q (key ∷ keys)))) [
          | true ↦ λ f. (
            subst (λ y. Holds k (ticked y (key ∷ keys))) (sym (inj f)) changed,
            members_put h k a r put ms b.1 (has (λ o r. OnMembers (Off o) ms) (subst (On _) (inj f) d.2)).1,
          )
          | false ↦ λ f. (
            holds_put h k a r put x b.0 (beside_members x ms d.2 (λ P c. member_on P ms q z f c)),
            deep_members changed ms q f b.1 d.1,
          )
        ]) e

    deeper : (x : Placed) (q : List ℕ) → child q x ≡ Some z → Holds h x → Distinct x → Holds k (ticked x (q ∷ key ∷ keys))
    deeper null q e b d = tt
    deeper (truth t) q e b d = tt
    deeper (negative neg) q e b d = tt
    deeper (number m) q e b d = tt
    deeper (unit_text u) q e b d = tt
    deeper (array o xs) q e b d = (elim (index_of q) as (λ i. option_and_then (item_at xs) i ≡ Some z →
        Holds k (elim i [ None ↦ array o xs | Some i ↦ array o (ticked_items xs i (key ∷ keys)) ])) [
          | None ↦ λ e. cc
          | Some i ↦ λ e. let c = change (item_on (Stands h) xs i z e b.1) (item_distinct xs i z e d.1) in (
            (
              subst (λ m. o < m) (sym put.size) b.0.0,
              put.others o (λ f. (has (Off o) (item_on (Off o) xs i z e d.0)).1 (sym f)) ∙ b.0.1 ∙ ap plain_array (sym (values_ticked xs i key keys)),
            ),
            deep_items c xs i e b.1 d.1,
          )
        ]) e
    deeper (plain o ms) q e b d =
        let c = change (member_on (Stands h) ms q z e b.1) (child_distinct (plain o ms) q z e d) in (
          (
            subst (λ m. o < m) (sym put.size) b.0.0,
            put.others o (λ f. (has (Off o) (member_on (Off o) ms q z e d.0)).1 (sym f)) ∙ b.0.1 ∙ ap plain_object (sym (properties_ticked ms q key keys)),
          ),
          deep_members c ms q e b.1 d.1,
        )

  pub ticks : (keys : List (List ℕ)) (x : Placed) (key : List ℕ) (y : Placed) (last : List ℕ) → Within x key keys y last n →
      Put h k (address y) (record_of (ticked y (last ∷ []))) → Holds h x → Distinct x → Holds k (ticked x (key ∷ keys))
  ticks [] x key y last w put a d = here x key w.2
      (subst (λ l. Put h k (address x) (record_of (ticked x (l ∷ [])))) (sym w.1) (subst (λ z. Put h k (address z) (record_of (ticked z (last ∷ [])))) (sym w.0) put)) a d
  ticks (next ∷ keys) x key y last w put a d = deeper (address y) _ put w.0 next keys
      (λ P c. (record_of y, within_on P keys w.0 next y last n w.2 c)) (ticks keys w.0 next y last w.2 put) x key w.1 a d
