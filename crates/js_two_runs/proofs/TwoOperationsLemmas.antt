-- What can be done with objects, in two heaps that are alike.
use Rattle.std.proofs.Common.{ℕ, ◌∷◌, Option, refl}
use Rattle.js_value.specs.State.{ObjectKind, Heap}
use Rattle.js_value.specs.Objects.{next_object, new_object}
use Rattle.js_two_runs.specs.Pairs.{Pairs, Paired}
use Rattle.js_two_runs.specs.TwoRuns.{InBoth, neither, both, none}
use Rattle.js_two_runs.specs.TwoHeaps.{AlikeKinds, AlikePrototypes, no_prototype, prototypes, AlikeHeaps}
use Rattle.js_two_runs.specs.TwoOperations.{AlikeOperations}
use Rattle.js_two_runs.proofs.TwoHeapsSeen.{own-alike, get-alike, keys_of-alike}
use Rattle.js_two_runs.proofs.TwoHeapsLater.{heaps-grown, define-alike, freeze-alike, with_elements-alike}
use Rattle.js_two_runs.proofs.TwoHeapsWritten.{set-alike, set_answer-alike}
use Rattle.js_two_runs.proofs.TwoHeapsDeleted.{delete-alike, delete_answer-alike}

module _ (pairs : Pairs) (F : (code around other_code other_around : ℕ) → Type 0) (h k : Heap) where
  pub operations-alike : AlikeHeaps pairs F h k → (o p : ℕ) → Paired pairs o p → AlikeOperations pairs F h k o p
  operations-alike hk o p i = record {
    own = λ key. own-alike pairs F h k hk o p key i;
    get = λ key. get-alike pairs F h k hk o p key i;
    keys = keys_of-alike pairs F o p _ _ (hk.objects.related o p i);
    set_answer = λ key v w r. set_answer-alike pairs F h k o p key v w hk i r;
    set = λ key v w r. set-alike pairs F h k o p key v w hk i r;
    delete_answer = λ key. delete_answer-alike pairs F h k o p hk i key;
    delete = λ key. delete-alike pairs F h k o p hk i key;
    define = λ a b r. define-alike pairs F h k o p hk i a b r;
    freeze = freeze-alike pairs F h k o p hk i;
    with_elements = λ vs ws rs. with_elements-alike pairs F h k o p hk i vs ws rs;
  }

  prototypes-older : (r q : Option ℕ) → AlikeHeaps pairs F h k → InBoth (Paired pairs) r q → AlikePrototypes pairs F (next_object h) (next_object k) r q
  prototypes-older r q hk neither = no_prototype
  prototypes-older r q hk (both o p i) = prototypes o p i (hk.objects.left_bound o p i) (hk.objects.right_bound o p i)

  pub new_objects-alike : (a b : ObjectKind) (r q : Option ℕ) → AlikeHeaps pairs F h k → AlikeKinds pairs F a b → InBoth (Paired pairs) r q →
      AlikeHeaps ((next_object h, next_object k) ∷ pairs) F (new_object a r h) (new_object b q k)
  new_objects-alike a b r q hk s t = heaps-grown pairs F h k _ _ hk (record { kind = s; prototype = prototypes-older r q hk t; frozen = refl; elements = none; properties = tt })
