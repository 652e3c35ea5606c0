-- What can be done with objects (ECMA-262, 10.1 and 10.4.2), in both of two heaps that are alike.
use Rattle.std.specs.Prelude.{◌≡◌, ℕ, Bool, List, ◌∷◌, Option}
use Rattle.js_value.specs.declared.value.Value.{Value}
use Rattle.js_value.specs.State.{ObjectKind, Property, Heap}
use Rattle.js_value.specs.Objects as objects
use Rattle.js_value.specs.Objects.{next_object, new_object}
use Rattle.js_two_runs.specs.Pairs.{Pairs, Paired}
use Rattle.js_two_runs.specs.TwoRuns.{InBoth, Related, AllRelated}
use Rattle.js_two_runs.specs.TwoHeaps.{AlikeKinds, AlikeProperties, AlikeHeaps, By}

-- what they answer of the two objects of a pair, and that the heaps stay alike
pub record AlikeOperations (pairs : Pairs) (Functions : (code around other_code other_around : ℕ) → Type 0) (h k : Heap) (o p : ℕ) : Type 0 where
  pub own : (key : List ℕ) → InBoth (AlikeProperties pairs Functions) (objects.own h o key) (objects.own k p key)
  pub get : (key : List ℕ) → InBoth (Related (Paired pairs)) (objects.get h o key) (objects.get k p key)
  pub keys : objects.keys h o ≡ objects.keys k p
  pub set_answer : (key : List ℕ) (v w : Value) → Related (Paired pairs) v w → objects.set_answer h o key v ≡ objects.set_answer k p key w
  pub set : (key : List ℕ) (v w : Value) → Related (Paired pairs) v w → AlikeHeaps pairs Functions (objects.set o key v h) (objects.set p key w k)
  pub delete_answer : (key : List ℕ) → objects.delete_answer h o key ≡ objects.delete_answer k p key
  pub delete : (key : List ℕ) → AlikeHeaps pairs Functions (objects.delete o key h) (objects.delete p key k)
  pub define : (a b : Property) → AlikeProperties pairs Functions a b → AlikeHeaps pairs Functions (objects.define o a h) (objects.define p b k)
  pub freeze : AlikeHeaps pairs Functions (objects.freeze o h) (objects.freeze p k)
  pub with_elements : (vs ws : List Value) → AllRelated (Paired pairs) vs ws →
      AlikeHeaps pairs Functions (objects.with_elements o vs h) (objects.with_elements p ws k)

abbrev pub AllOperationsAlike : Type 0
AllOperationsAlike = (pairs : Pairs) (test : ℕ → ℕ → ℕ → ℕ → Bool) (h k : Heap) → AlikeHeaps pairs (By test) h k →
    (o p : ℕ) → Paired pairs o p → AlikeOperations pairs (By test) h k o p

-- objects that are made in both are a new pair
abbrev pub NewObjectsAlike : Type 0
NewObjectsAlike = (pairs : Pairs) (test : ℕ → ℕ → ℕ → ℕ → Bool) (h k : Heap) (a b : ObjectKind) (r q : Option ℕ) →
    AlikeHeaps pairs (By test) h k → AlikeKinds pairs (By test) a b → InBoth (Paired pairs) r q →
    AlikeHeaps ((next_object h, next_object k) ∷ pairs) (By test) (new_object a r h) (new_object b q k)
