-- A member that is put among others.
use Rattle.std.proofs.Common.{◌≡◌, ℕ, ◌<◌, Bool, true, false, List, [], ◌∷◌, ◌++◌, Option, Some, None, refl, sym, ap, ◌∙◌, arith, if◌then◌else◌}
use Rattle.std.specs.Str.{bytes_eq}
use Rattle.std.proofs.lemmas.Slice.Eq.{bytes_eq-Decides}
use Rattle.js_value.specs.declared.value.Value.{Value}
use Rattle.js_value.specs.State.{Property, ObjectRecord, Heap}
use Rattle.js_value.specs.Objects.{assigned, property_of, own_of, with_value_of}
use Rattle.js_value.specs.Lookups.{Grown}
use Rattle.js_counter.specs.Represents.{members, Placed, PlacedMembers, empty, member, plain, json_of, json_members, value_at, properties_of, On, OnMembers, Off, Distinct, DistinctMembers, member_at}
use Rattle.js_counter.specs.First.{Bare}
use Rattle.js_counter.specs.Preamble.{put_in, json_put, Covered}
use Rattle.js_counter.proofs.Data.{on_both, both_members, holds_grown, inj}
use Rattle.js_counter.proofs.Makes.{From, Below}

pub key_same : (key : List ℕ) → bytes_eq key key ≡ true
key_same key = let d = bytes_eq-Decides key key in d.1 refl

module _ (P : ℕ → ObjectRecord → Type 0) (key : List ℕ) (y : Placed) where
  pub on_put : (ms : PlacedMembers) → OnMembers P ms → On P y → OnMembers P (put_in key y ms)
  on_put empty a b = (b, tt)
  on_put (member q x ms) a b = elim (bytes_eq q key) as (λ t. OnMembers P (if t then member q y ms else member q x (put_in key y ms))) [
    | true ↦ (b, a.1)
    | false ↦ (a.0, on_put ms a.1 b)
  ]

module _ (n : ℕ) (key : List ℕ) (y : Placed) (from : On (From n) y) (d : Distinct y) where
  -- each object of what is older is apart
  apart_one : (o : ℕ) → o < n → On (Off o) y
  apart_one o l = on_both (From n) (From n) (Off o) (λ q r a b e. omega (arith, l, a, e)) y from from

  apart_all : (ms : PlacedMembers) → OnMembers (Below n) ms → On (λ o r. OnMembers (Off o) ms) y
  apart_all ms b = on_both (From n) (From n) (λ o r. OnMembers (Off o) ms)
      (λ o r a c. both_members (Below n) (Below n) (Off o) (λ q t e f g. omega (arith, a, e, g)) ms b b) y from from

  pub distinct_put : (ms : PlacedMembers) → OnMembers (Below n) ms → DistinctMembers ms → DistinctMembers (put_in key y ms)
  distinct_put empty b e = (d, tt, on_both (From n) (From n) (λ o r. Unit {0}) (λ o r a c. tt) y from from)
  distinct_put (member q x ms) b e = elim (bytes_eq q key) as (λ t. DistinctMembers (if t then member q y ms else member q x (put_in key y ms))) [
    | true ↦ (d, e.1, apart_all ms b.1)
    | false ↦ (
      e.0,
      distinct_put ms b.1 e.1,
      on_both (Below n) (λ o r. OnMembers (Off o) ms) (λ o r. OnMembers (Off o) (put_in key y ms))
          (λ o r l c. on_put (Off o) key y ms c (apart_one o l)) x b.0 e.2,
    )
  ]

there_by : (key q : List ℕ) (x y : Placed) (ms : PlacedMembers) → member_at (put_in key y ms) key ≡ Some y → (t : Bool) → bytes_eq q key ≡ t →
    member_at (if t then member q y ms else member q x (put_in key y ms)) key ≡ Some y
there_by key q x y ms h true e = ap (λ b. if b then Some y else member_at ms key) e
there_by key q x y ms h false e = ap (λ b. if b then Some x else member_at (put_in key y ms) key) e ∙ h

pub put_elsewhere : (key : List ℕ) (y : Placed) (ms : PlacedMembers) (other : List ℕ) → bytes_eq key other ≡ false → member_at (put_in key y ms) other ≡ member_at ms other
put_elsewhere key y empty other e = ap (λ b. if b then Some y else None) e
put_elsewhere key y (member q x ms) other e = by (bytes_eq q key) refl (put_elsewhere key y ms other e)
  where
    by : (b : Bool) → bytes_eq q key ≡ b → member_at (put_in key y ms) other ≡ member_at ms other →
        member_at (if b then member q y ms else member q x (put_in key y ms)) other ≡ (if bytes_eq q other then Some x else member_at ms other)
    by true f rest =
        let no : bytes_eq q other ≡ false = ap (λ k. bytes_eq k other) ((bytes_eq-Decides q key).0 f) ∙ e in
        ap (λ b. if b then Some y else member_at ms other) no ∙ sym (ap (λ b. if b then Some x else member_at ms other) no)
    by false f rest = ap (λ r. if bytes_eq q other then Some x else r) rest

pub put_there : (key : List ℕ) (y : Placed) (ms : PlacedMembers) → member_at (put_in key y ms) key ≡ Some y
put_there key y empty = ap (λ b. if b then Some y else None) (key_same key)
put_there key y (member q x ms) = there_by key q x y ms (put_there key y ms) (bytes_eq q key) refl

pub json_of_put : (key : List ℕ) (y : Placed) (ms : PlacedMembers) → json_members (put_in key y ms) ≡ json_put key (json_of y) (json_members ms)
json_of_put key y empty = refl
json_of_put key y (member q x ms) = elim (bytes_eq q key) as (λ t. json_members (if t then member q y ms else member q x (put_in key y ms))
    ≡ (if t then members q (json_of y) (json_members ms) else members q (json_of x) (json_put key (json_of y) (json_members ms)))) [
      | true ↦ refl
      | false ↦ ap (members q (json_of x)) (json_of_put key y ms)
    ]

-- what is there already
pub json_same : (key : List ℕ) (y : Placed) (ms : PlacedMembers) → member_at ms key ≡ Some y → json_members ms ≡ json_put key (json_of y) (json_members ms)
json_same key y empty e = cc
json_same key y (member q x ms) e = (elim (bytes_eq q key) as (λ t. (if t then Some x else member_at ms key) ≡ Some y →
    members q (json_of x) (json_members ms) ≡ (if t then members q (json_of y) (json_members ms) else members q (json_of x) (json_put key (json_of y) (json_members ms)))) [
      | true ↦ λ f. ap (λ z. members q (json_of z) (json_members ms)) (inj f)
      | false ↦ λ f. ap (members q (json_of x)) (json_same key y ms f)
    ]) e

pub properties_new : (key : List ℕ) (y : Placed) (ms : PlacedMembers) → member_at ms key ≡ None → properties_of ms ++ assigned key (value_at y) ∷ [] ≡ properties_of (put_in key y ms)
properties_new key y empty e = refl
properties_new key y (member q x ms) e = (elim (bytes_eq q key) as (λ t. (if t then Some x else member_at ms key) ≡ None →
    assigned q (value_at x) ∷ (properties_of ms ++ assigned key (value_at y) ∷ []) ≡ properties_of (if t then member q y ms else member q x (put_in key y ms))) [
      | true ↦ λ f. cc
      | false ↦ λ f. ap (λ ps. assigned q (value_at x) ∷ ps) (properties_new key y ms f)
    ]) e

pub properties_old : (key : List ℕ) (y z : Placed) (ms : PlacedMembers) → member_at ms key ≡ Some z → with_value_of key (value_at y) (properties_of ms) ≡ properties_of (put_in key y ms)
properties_old key y z empty e = cc
properties_old key y z (member q x ms) e = (elim (bytes_eq q key) as (λ t. (if t then Some x else member_at ms key) ≡ Some z →
    (if t then assigned q (value_at y) ∷ properties_of ms else assigned q (value_at x) ∷ with_value_of key (value_at y) (properties_of ms))
    ≡ properties_of (if t then member q y ms else member q x (put_in key y ms))) [
      | true ↦ λ f. refl
      | false ↦ λ f. ap (λ ps. assigned q (value_at x) ∷ ps) (properties_old key y z ms f)
    ]) e

pub member_none : (ms : PlacedMembers) (key : List ℕ) → member_at ms key ≡ None → property_of (properties_of ms) key ≡ None
member_none empty key e = refl
member_none (member q x ms) key e = (elim (bytes_eq q key) as (λ t. (if t then Some x else member_at ms key) ≡ None →
    (if t then Some (assigned q (value_at x)) else property_of (properties_of ms) key) ≡ None) [
      | true ↦ λ f. cc
      | false ↦ λ f. member_none ms key f
    ]) e

pub property_new : (ps : List Property) (key : List ℕ) (v : Value) → property_of ps key ≡ None → property_of (ps ++ assigned key v ∷ []) key ≡ Some (assigned key v)
property_new [] key v e = ap (λ b. if b then Some (assigned key v) else None) (key_same key)
property_new (q ∷ qs) key v e = (elim (bytes_eq q.key key) as (λ t. (if t then Some q else property_of qs key) ≡ None →
    (if t then Some q else property_of (qs ++ assigned key v ∷ []) key) ≡ Some (assigned key v)) [
      | true ↦ λ f. cc
      | false ↦ λ f. property_new qs key v f
    ]) e

-- Growth

pub bare_grown : (h k : Heap) (o : Option ℕ) (key : List ℕ) → Grown h k → Bare h o key → Bare k o key
bare_grown h k None key g b = tt
bare_grown h k (Some q) key g b = let x = g q b.0 in (x.0, ap (λ r. own_of r key) x.1 ∙ b.1, ap (λ (r : ObjectRecord). r.prototype) x.1 ∙ b.2)

pub covered_grown : (h k : Heap) (g : ℕ) (key : List ℕ) (c : ℕ) (ms : PlacedMembers) → Grown h k → Covered h g key c ms → Covered k g key c ms
covered_grown h k g key c ms grown a = record {
  low = (grown g a.low).0;
  property = a.property;
  has = ap (λ r. own_of r key) (grown g a.low).1 ∙ a.has;
  is = a.is;
  apart = a.apart;
  holds = holds_grown h k (plain c ms) grown a.holds;
  distinct = a.distinct;
}
