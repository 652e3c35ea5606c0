-- Data in a heap: kept by what does not touch it, and changed by a write of one number.
use Rattle.std.proofs.Common.{◌≡◌, ◌≢◌, ℕ, zero, suc, ◌<◌, true, false, List, [], ◌∷◌, length, Some, None, refl, sym, ap, subst, ◌∙◌, if◌then◌else◌}
use Rattle.std.specs.Prelude.{option_map, option_and_then, slice_get}
use Rattle.std.specs.Str.{bytes_eq}
use Rattle.std.proofs.lemmas.List.{get_or-set_same, get_or-set_other, length-set}
use Rattle.js_value.specs.Key.{index_of}
use Rattle.js_value.specs.State.{Property, ObjectRecord, Heap}
use Rattle.js_value.specs.Objects.{object_at, no_object, assigned, property_of, with_object}
use Rattle.js_value.specs.Lookups.{Grown}
use Rattle.js_counter.specs.Represents.{Items, Members, items, members, Placed, PlacedItems, PlacedMembers, null, truth, negative, number, unit_text, array, plain, none, item, empty, member, json_of, json_items, json_members, value_at, values_of, properties_of, On, OnItems, OnMembers, Stands, Holds, HoldsItems, HoldsMembers, Off, Distinct, DistinctItems, DistinctMembers, item_at, member_at, child, Within, address, record_of, ticked, ticked_items, ticked_members, json_ticked, json_ticked_items, json_ticked_members}

-- what follows from two things of each object holds of each
module _ (P Q R : ℕ → ObjectRecord → Type 0) (both : (o : ℕ) (r : ObjectRecord) → P o r → Q o r → R o r) where
  mutual
    pub on_both : (x : Placed) → On P x → On Q x → On R x
    on_both null a b = tt
    on_both (truth t) a b = tt
    on_both (negative neg) a b = tt
    on_both (number n) a b = tt
    on_both (unit_text u) a b = tt
    on_both (array o xs) a b = (both o _ a.0 b.0, both_items xs a.1 b.1)
    on_both (plain o ms) a b = (both o _ a.0 b.0, both_members ms a.1 b.1)

    pub both_items : (xs : PlacedItems) → OnItems P xs → OnItems Q xs → OnItems R xs
    both_items none a b = tt
    both_items (item x xs) a b = (on_both x a.0 b.0, both_items xs a.1 b.1)

    pub both_members : (ms : PlacedMembers) → OnMembers P ms → OnMembers Q ms → OnMembers R ms
    both_members empty a b = tt
    both_members (member k x ms) a b = (on_both x a.0 b.0, both_members ms a.1 b.1)

-- Growth, and writes elsewhere

pub holds_grown : (h k : Heap) (x : Placed) → Grown h k → Holds h x → Holds k x
holds_grown h k x g a = on_both (Stands h) (Stands h) (Stands k)
    (λ o r c d. ((g o c.0).0, (g o c.0).1 ∙ c.1)) x a a

-- an object is another, and no other is
pub record Put (h k : Heap) (o : ℕ) (r : ObjectRecord) : Type 0 where
  pub size : length k.objects ≡ length h.objects
  pub same : object_at k o ≡ r
  pub others : (q : ℕ) → q ≢ o → object_at k q ≡ object_at h q

pub put_by : (h : Heap) (o : ℕ) (r : ObjectRecord) → o < length h.objects → Put h (with_object o r h) o r
put_by h o r low = record {
  size = length-set h.objects o r;
  same = get_or-set_same h.objects o r no_object low;
  others = λ q n. get_or-set_other h.objects o q r no_object n;
}

module _ (h k : Heap) (o : ℕ) (r : ObjectRecord) (put : Put h k o r) where
  stays : (q : ℕ) (x : ObjectRecord) → Stands h q x → Off o q x → Stands k q x
  stays q x s off = (subst (λ n. q < n) (sym put.size) s.0, put.others q off ∙ s.1)

  pub holds_put : (x : Placed) → Holds h x → On (Off o) x → Holds k x
  holds_put x = on_both (Stands h) (Off o) (Stands k) stays x

  pub items_put : (xs : PlacedItems) → HoldsItems h xs → OnItems (Off o) xs → HoldsItems k xs
  items_put xs = both_items (Stands h) (Off o) (Stands k) stays xs

  pub members_put : (ms : PlacedMembers) → HoldsMembers h ms → OnMembers (Off o) ms → HoldsMembers k ms
  members_put ms = both_members (Stands h) (Off o) (Stands k) stays ms

  -- the object itself
  pub stands_put : o < length h.objects → Stands k o r
  stands_put low = (subst (λ n. o < n) (sym put.size) low, put.same)

-- Keys

pub inj : {X : Type 0} {a b : X} → Some a ≡ Some b → a ≡ b
inj e = cc

-- the property of a member
pub member_own : (ms : PlacedMembers) (key : List ℕ) (y : Placed) → member_at ms key ≡ Some y →
    (p : Property) × (property_of (properties_of ms) key ≡ Some p) × (p.value ≡ value_at y) × (p.writable ≡ true)
member_own empty key y e = cc
member_own (member q x ms) key y e = (elim (bytes_eq q key) as (λ b. (if b then Some x else member_at ms key) ≡ Some y →
    (p : Property) × ((if b then Some (assigned q (value_at x)) else property_of (properties_of ms) key) ≡ Some p) × (p.value ≡ value_at y) × (p.writable ≡ true)) [
      | true ↦ λ f. (assigned q (value_at x), refl, ap value_at (inj f), refl)
      | false ↦ λ f. member_own ms key y f
    ]) e

pub item_own : (xs : PlacedItems) (i : ℕ) (y : Placed) → item_at xs i ≡ Some y → slice_get (values_of xs) i ≡ Some (value_at y)
item_own none i y e = cc
item_own (item x xs) zero y e = ap (option_map value_at) e
item_own (item x xs) (suc i) y e = item_own xs i y e

-- Ways in

module _ (P : ℕ → ObjectRecord → Type 0) where
  pub member_on : (ms : PlacedMembers) (key : List ℕ) (y : Placed) → member_at ms key ≡ Some y → OnMembers P ms → On P y
  member_on empty key y e a = cc
  member_on (member q x ms) key y e a = (elim (bytes_eq q key) as (λ b. (if b then Some x else member_at ms key) ≡ Some y → On P y) [
    | true ↦ λ f. subst (On P) (inj f) a.0
    | false ↦ λ f. member_on ms key y f a.1
  ]) e

  pub item_on : (xs : PlacedItems) (i : ℕ) (y : Placed) → item_at xs i ≡ Some y → OnItems P xs → On P y
  item_on none i y e a = cc
  item_on (item x xs) zero y e a = subst (On P) (inj e) a.0
  item_on (item x xs) (suc i) y e a = item_on xs i y e a.1

  pub child_on : (x : Placed) (key : List ℕ) (y : Placed) → child key x ≡ Some y → On P x → On P y
  child_on null key y e a = cc
  child_on (truth b) key y e a = cc
  child_on (negative neg) key y e a = cc
  child_on (number n) key y e a = cc
  child_on (unit_text u) key y e a = cc
  child_on (array o xs) key y e a = (elim (index_of key) as (λ i. option_and_then (item_at xs) i ≡ Some y → On P y) [
    | None ↦ λ f. cc
    | Some i ↦ λ f. item_on xs i y f a.1
  ]) e
  child_on (plain o ms) key y e a = member_on ms key y e a.1

  -- what is at an end stands among the objects
  pub within_on : (keys : List (List ℕ)) (x : Placed) (key : List ℕ) (y : Placed) (last : List ℕ) (n : ℕ) →
      Within x key keys y last n → On P x → P (address y) (record_of y)
  within_on [] x key y last n w a = subst (λ z. P (address z) (record_of z)) w.0 (of_end x key n w.2 a)
    where
      of_end : (x : Placed) (key : List ℕ) (n : ℕ) → child key x ≡ Some (number n) → On P x → P (address x) (record_of x)
      of_end null key n e a = cc
      of_end (truth b) key n e a = cc
      of_end (negative neg) key n e a = cc
      of_end (number m) key n e a = cc
      of_end (unit_text u) key n e a = cc
      of_end (array o xs) key n e a = a.0
      of_end (plain o ms) key n e a = a.0
  within_on (k ∷ ks) x key y last n w a = within_on ks w.0 k y last n w.2 (child_on x key w.0 w.1 a)

member_distinct : (ms : PlacedMembers) (key : List ℕ) (y : Placed) → member_at ms key ≡ Some y → DistinctMembers ms → Distinct y
member_distinct empty key y e a = cc
member_distinct (member q x ms) key y e a = (elim (bytes_eq q key) as (λ b. (if b then Some x else member_at ms key) ≡ Some y → Distinct y) [
  | true ↦ λ f. subst Distinct (inj f) a.0
  | false ↦ λ f. member_distinct ms key y f a.1
]) e

pub item_distinct : (xs : PlacedItems) (i : ℕ) (y : Placed) → item_at xs i ≡ Some y → DistinctItems xs → Distinct y
item_distinct none i y e a = cc
item_distinct (item x xs) zero y e a = subst Distinct (inj e) a.0
item_distinct (item x xs) (suc i) y e a = item_distinct xs i y e a.1

pub child_distinct : (x : Placed) (key : List ℕ) (y : Placed) → child key x ≡ Some y → Distinct x → Distinct y
child_distinct null key y e a = cc
child_distinct (truth b) key y e a = cc
child_distinct (negative neg) key y e a = cc
child_distinct (number n) key y e a = cc
child_distinct (unit_text u) key y e a = cc
child_distinct (array o xs) key y e a = (elim (index_of key) as (λ i. option_and_then (item_at xs) i ≡ Some y → Distinct y) [
  | None ↦ λ f. cc
  | Some i ↦ λ f. item_distinct xs i y f a.1
]) e
child_distinct (plain o ms) key y e a = member_distinct ms key y e a.1

-- Ticked data

pub ticked_value : (x : Placed) (key : List ℕ) (keys : List (List ℕ)) → value_at (ticked x (key ∷ keys)) ≡ value_at x
ticked_value null key keys = refl
ticked_value (truth b) key keys = refl
ticked_value (negative neg) key keys = refl
ticked_value (number n) key keys = refl
ticked_value (unit_text u) key keys = refl
ticked_value (array o xs) key keys = elim (index_of key) as (λ i. value_at (elim i [ None ↦ array o xs | Some i ↦ array o (ticked_items xs i keys) ]) ≡ value_at (array o xs)) [
  | None ↦ refl
  | Some i ↦ refl
]
ticked_value (plain o ms) key keys = refl

-- it has the same objects
module _ (P : ℕ → Type 0) where
  abbrev Q : ℕ → ObjectRecord → Type 0
  Q o r = P o

  mutual
    pub on_ticked : (x : Placed) (keys : List (List ℕ)) → On Q x → On Q (ticked x keys)
    on_ticked null keys a = tt
    on_ticked (truth b) keys a = tt
    on_ticked (negative neg) keys a = tt
    on_ticked (number n) [] a = tt
    on_ticked (number n) (key ∷ keys) a = tt
    on_ticked (unit_text u) keys a = tt
    on_ticked (array o xs) [] a = a
    on_ticked (array o xs) (key ∷ keys) a = elim (index_of key) as (λ i. On Q (elim i [ None ↦ array o xs | Some i ↦ array o (ticked_items xs i keys) ])) [
      | None ↦ a
      | Some i ↦ (a.0, on_ticked_items xs i keys a.1)
    ]
    on_ticked (plain o ms) [] a = a
    on_ticked (plain o ms) (key ∷ keys) a = (a.0, on_ticked_members ms key keys a.1)

    pub on_ticked_items : (xs : PlacedItems) (i : ℕ) (keys : List (List ℕ)) → OnItems Q xs → OnItems Q (ticked_items xs i keys)
    on_ticked_items none i keys a = tt
    on_ticked_items (item x xs) zero keys a = (on_ticked x keys a.0, a.1)
    on_ticked_items (item x xs) (suc i) keys a = (a.0, on_ticked_items xs i keys a.1)

    pub on_ticked_members : (ms : PlacedMembers) (key : List ℕ) (keys : List (List ℕ)) → OnMembers Q ms → OnMembers Q (ticked_members ms key keys)
    on_ticked_members empty key keys a = tt
    on_ticked_members (member q x ms) key keys a = elim (bytes_eq q key) as (λ b. OnMembers Q (if b then member q (ticked x keys) ms else member q x (ticked_members ms key keys))) [
      | true ↦ (on_ticked x keys a.0, a.1)
      | false ↦ (a.0, on_ticked_members ms key keys a.1)
    ]

abbrev on_mapped : (P R : ℕ → ObjectRecord → Type 0) → ((o : ℕ) (r : ObjectRecord) → P o r → R o r) → (x : Placed) → On P x → On R x
on_mapped P R f x a = on_both P P R (λ o r p q. f o r p) x a a

mutual
  pub distinct_ticked : (x : Placed) (keys : List (List ℕ)) → Distinct x → Distinct (ticked x keys)
  distinct_ticked null keys d = tt
  distinct_ticked (truth b) keys d = tt
  distinct_ticked (negative neg) keys d = tt
  distinct_ticked (number n) [] d = tt
  distinct_ticked (number n) (key ∷ keys) d = tt
  distinct_ticked (unit_text u) keys d = tt
  distinct_ticked (array o xs) [] d = d
  distinct_ticked (array o xs) (key ∷ keys) d = elim (index_of key) as (λ i. Distinct (elim i [ None ↦ array o xs | Some i ↦ array o (ticked_items xs i keys) ])) [
    | None ↦ d
    | Some i ↦ (on_ticked_items (λ q. q ≢ o) xs i keys d.0, distinct_ticked_items xs i keys d.1)
  ]
  distinct_ticked (plain o ms) [] d = d
  distinct_ticked (plain o ms) (key ∷ keys) d = (on_ticked_members (λ q. q ≢ o) ms key keys d.0, distinct_ticked_members ms key keys d.1)

  pub distinct_ticked_items : (xs : PlacedItems) (i : ℕ) (keys : List (List ℕ)) → DistinctItems xs → DistinctItems (ticked_items xs i keys)
  distinct_ticked_items none i keys d = tt
  distinct_ticked_items (item x xs) zero keys d = (distinct_ticked x keys d.0, d.1, on_ticked (λ o. OnItems (Off o) xs) x keys d.2)
  distinct_ticked_items (item x xs) (suc i) keys d = (
    d.0,
    distinct_ticked_items xs i keys d.1,
    on_mapped (λ o r. OnItems (Off o) xs) (λ o r. OnItems (Off o) (ticked_items xs i keys)) (λ o r a. on_ticked_items (λ q. q ≢ o) xs i keys a) x d.2,
  )

  pub distinct_ticked_members : (ms : PlacedMembers) (key : List ℕ) (keys : List (List ℕ)) → DistinctMembers ms → DistinctMembers (ticked_members ms key keys)
  distinct_ticked_members empty key keys d = tt
  distinct_ticked_members (member q x ms) key keys d = elim (bytes_eq q key) as (λ b. DistinctMembers (if b then member q (ticked x keys) ms else member q x (ticked_members ms key keys))) [
    | true ↦ (distinct_ticked x keys d.0, d.1, on_ticked (λ o. OnMembers (Off o) ms) x keys d.2)
    | false ↦ (
      d.0,
      distinct_ticked_members ms key keys d.1,
      on_mapped (λ o r. OnMembers (Off o) ms) (λ o r. OnMembers (Off o) (ticked_members ms key keys)) (λ o r a. on_ticked_members (λ q. q ≢ o) ms key keys a) x d.2,
    )
  ]

-- and tells one number more
mutual
  pub json_of_ticked : (x : Placed) (keys : List (List ℕ)) → json_of (ticked x keys) ≡ json_ticked (json_of x) keys
  json_of_ticked null keys = refl
  json_of_ticked (truth b) keys = refl
  json_of_ticked (negative neg) keys = refl
  json_of_ticked (number n) [] = refl
  json_of_ticked (number n) (key ∷ keys) = refl
  json_of_ticked (unit_text u) keys = refl
  json_of_ticked (array o xs) [] = refl
  json_of_ticked (array o xs) (key ∷ keys) = elim (index_of key) as (λ i. json_of (elim i [ None ↦ array o xs | Some i ↦ array o (ticked_items xs i keys) ])
      ≡ elim i [ None ↦ Items (json_items xs) | Some i ↦ Items (json_ticked_items (json_items xs) i keys) ]) [
        | None ↦ refl
        | Some i ↦ ap Items (json_items_ticked xs i keys)
      ]
  json_of_ticked (plain o ms) [] = refl
  json_of_ticked (plain o ms) (key ∷ keys) = ap Members (json_members_ticked ms key keys)

  json_items_ticked : (xs : PlacedItems) (i : ℕ) (keys : List (List ℕ)) → json_items (ticked_items xs i keys) ≡ json_ticked_items (json_items xs) i keys
  json_items_ticked none i keys = refl
  json_items_ticked (item x xs) zero keys = ap (λ y. items y (json_items xs)) (json_of_ticked x keys)
  json_items_ticked (item x xs) (suc i) keys = ap (items (json_of x)) (json_items_ticked xs i keys)

  pub json_members_ticked : (ms : PlacedMembers) (key : List ℕ) (keys : List (List ℕ)) → json_members (ticked_members ms key keys) ≡ json_ticked_members (json_members ms) key keys
  json_members_ticked empty key keys = refl
  json_members_ticked (member q x ms) key keys = elim (bytes_eq q key) as (λ b. json_members (if b then member q (ticked x keys) ms else member q x (ticked_members ms key keys))
      ≡ (if b then members q (json_ticked (json_of x) keys) (json_members ms) else members q (json_of x) (json_ticked_members (json_members ms) key keys))) [
        | true ↦ ap (λ y. members q y (json_members ms)) (json_of_ticked x keys)
        | false ↦ ap (members q (json_of x)) (json_members_ticked ms key keys)
      ]
