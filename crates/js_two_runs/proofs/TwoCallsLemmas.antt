-- Deeds, and calls of built-in functions, in two heaps that are alike.
use Rattle.std.proofs.Common.{◌≡◌, ◌≢◌, ℕ, ◌<◌, ◌+◌, Bool, true, false, if◌then◌else◌, List, [], ◌∷◌, Option, Some, None, Ok, Err, refl, subst, ap₂, arith}
use Rattle.std.specs.Prelude.{option_map}
use Rattle.js_value.specs.declared.value.Value.{Value}
use Rattle.js_value.specs.declared.value.Object.{Object}
use Rattle.js_value.specs.declared.error_kind.ErrorKind.{ErrorKind}
use Rattle.js_value.specs.declared.error_kind.ErrorKind.TheVariants as error
use Rattle.js_value.specs.declared.built_in.BuiltIn.{BuiltIn}
use Rattle.js_value.specs.declared.built_in.Place.TheVariants as place
use Rattle.js_value.specs.declared.deed.Halt.{Halt}
use Rattle.js_value.specs.declared.deed.Halt.TheVariants.{Throw, Refuse, Memory}
use Rattle.js_value.specs.declared.deed.Complaint.TheVariants.{NotAFunction}
use Rattle.js_value.specs.declared.deed.Deed.{Deed}
use Rattle.js_value.specs.State.{ObjectKind, Heap}
use Rattle.js_value.specs.Objects.{next_object, new_object, count_value}
use Rattle.js_value.specs.Realm.{number_of, error_prototype, built_in_count, object}
use Rattle.js_value.specs.Host.{Or, Answers, error_made, after_deed, halted_by, given_or, given_by, native_by, heap_by, built_in, done_of, native_of, native_heap}
use Rattle.js_two_runs.specs.Pairs.{Pairs, Paired, here, there}
use Rattle.js_two_runs.specs.TwoRuns.{Related, plain, refs, AllRelated, InBoth, neither, both, RelatedDeeds, RelatedAnswers, ok, err}
use Rattle.js_two_runs.specs.TwoRuns as two_runs
use Rattle.js_two_runs.specs.TwoHeaps.{AlikeKinds, plains, arrays, errors, AlikePrototypes, no_prototype, prototypes, AlikeObjects, AlikeHeaps}
use Rattle.js_two_runs.specs.TwoCalls.{RelatedNatives, answers, throws, refuses, writes, calls, requires, makes, pairs_after, native_pairs}
use Rattle.js_two_runs.proofs.TwoRunsObjects.{length-rel, all-rel}
use Rattle.js_two_runs.proofs.TwoHeapsSeen.{seen}
use Rattle.js_two_runs.proofs.TwoHeapsLater.{heaps-grown, define-alike, freeze-alike, with_elements-alike, append-alike, cut-alike}
use Rattle.js_two_runs.proofs.TwoHeapsWritten.{copied-alike}

pub halted-same : (R : ℕ → ℕ → Type 0) (halt : Halt) → RelatedNatives R (halted_by halt) (halted_by halt)
halted-same R (Throw c) = throws _ _
halted-same R (Refuse k) = refuses k
halted-same R Memory = refuses _

given_or-same : (R : ℕ → ℕ → Type 0) (a b : Option Halt) (v w : Value) → a ≡ b → Related R v w → RelatedNatives R (given_or a v) (given_or b w)
given_or-same R a b v w e r = subst (λ x. RelatedNatives R (given_or a v) (given_or x w)) e (go a)
  where
    go : (x : Option Halt) → RelatedNatives R (given_or x v) (given_or x w)
    go None = answers v w r
    go (Some halt) = halted-same R halt

count-same : (R : ℕ → ℕ → Type 0) (n m : ℕ) → n ≡ m → RelatedNatives R (Answers (count_value n)) (Answers (count_value m))
count-same R n m e = subst (λ x. RelatedNatives R (Answers (count_value n)) (Answers (count_value x))) e (answers _ _ (plain _))

-- the prototypes of errors are built in, and none is the global object
error-low : (k : ErrorKind) → (number_of (error_prototype k) < built_in_count) × (number_of (error_prototype k) ≢ number_of place.Global)
error-low error.Error = (omega arith, λ e. omega arith)
error-low error.TypeError = (omega arith, λ e. omega arith)
error-low error.RangeError = (omega arith, λ e. omega arith)
error-low error.ReferenceError = (omega arith, λ e. omega arith)
error-low error.SyntaxError = (omega arith, λ e. omega arith)

module _ (pairs : Pairs) (F : (code around other_code other_around : ℕ) → Type 0) (h k : Heap) (hk : AlikeHeaps pairs F h k) where
  -- a built-in object is older than one that is made
  built_in-prototype : (n : ℕ) → n < built_in_count → n ≢ number_of place.Global → AlikePrototypes pairs F (next_object h) (next_object k) (Some n) (Some n)
  built_in-prototype n lt ne = let i = hk.built_in n lt ne in prototypes n n i (hk.objects.left_bound n n i) (hk.objects.right_bound n n i)

  parents-alike : (a b : Option Object) → InBoth (λ (o p : Object). Paired pairs o.index p.index) a b → AlikePrototypes pairs F (next_object h) (next_object k) (option_map (λ o. o.index) a) (option_map (λ o. o.index) b)
  parents-alike a b neither = no_prototype
  parents-alike a b (both o p i) = prototypes o.index p.index i (hk.objects.left_bound o.index p.index i) (hk.objects.right_bound o.index p.index i)

  -- an object without properties
  made-alike : (a b : ObjectKind) (c d : Option ℕ) (vs ws : List Value) → AlikeKinds pairs F a b → AlikePrototypes pairs F (next_object h) (next_object k) c d → AllRelated (Paired pairs) vs ws →
      AlikeObjects pairs F (next_object h) (next_object k) (record { kind = a; prototype = c; frozen = false; elements = vs; properties = [] }) (record { kind = b; prototype = d; frozen = false; elements = ws; properties = [] })
  made-alike a b c d vs ws r s t = record { kind = r; prototype = s; frozen = refl; elements = t; properties = tt }

  new-alike : (a b : ObjectKind) (c d : Option ℕ) → AlikeKinds pairs F a b → AlikePrototypes pairs F (next_object h) (next_object k) c d → AlikeHeaps ((next_object h, next_object k) ∷ pairs) F (new_object a c h) (new_object b d k)
  new-alike a b c d r s = heaps-grown pairs F h k _ _ hk (made-alike a b c d [] [] r s two_runs.none)

  error-alike : (e : ErrorKind) (message : Option (List ℕ)) → AlikeHeaps ((next_object h, next_object k) ∷ pairs) F (error_made e message h) (error_made e message k)
  error-alike e None = new-alike _ _ _ _ errors (built_in-prototype _ (error-low e).0 (error-low e).1)
  error-alike e (Some message) =
      define-alike ((next_object h, next_object k) ∷ pairs) F _ _ (next_object h) (next_object k) (new-alike _ _ _ _ errors (built_in-prototype _ (error-low e).0 (error-low e).1)) here
      _ _ (record { key = refl; value = plain _; enumerable = refl; writable = refl })

  new-answer : RelatedNatives (Paired ((next_object h, next_object k) ∷ pairs)) (Answers (object (next_object h))) (Answers (object (next_object k)))
  new-answer = answers _ _ (refs _ _ here)

  pub after-alike : (d e : Deed) → RelatedDeeds (Paired pairs) d e → AlikeHeaps (pairs_after (Ok d) pairs h k) F (after_deed d h) (after_deed e k)
  after-alike d e (two_runs.give v w r) = hk
  after-alike d e (two_runs.line us) = hk
  after-alike d e (two_runs.makes_array vs ws rs) = heaps-grown pairs F h k _ _ hk (made-alike _ _ _ _ vs ws arrays (built_in-prototype (number_of place.ArrayPrototype) (omega arith) (λ e. omega arith)) rs)
  after-alike d e (two_runs.makes_object a b r) = new-alike _ _ _ _ plains (parents-alike a b r)
  after-alike d e (two_runs.makes_error x message) = error-alike x message
  after-alike d e (two_runs.append o p i vs ws rs) = append-alike pairs F h k o.index p.index hk i vs ws rs
  after-alike d e (two_runs.cut o p i n v w r) = cut-alike pairs F h k o.index p.index hk i n
  after-alike d e (two_runs.replace o p i vs ws rs v w r) = with_elements-alike pairs F h k o.index p.index hk i vs ws rs
  after-alike d e (two_runs.freeze o p i) = freeze-alike pairs F h k o.index p.index hk i
  after-alike d e (two_runs.copy o p i vs ws rs) = (copied-alike pairs F o.index p.index i h k vs ws rs hk).heap
  after-alike d e (two_runs.enter f g r v w s vs ws rs) = hk
  after-alike d e (two_runs.require us) = hk

  pub given-alike : (d e : Deed) → RelatedDeeds (Paired pairs) d e → RelatedNatives (Paired (pairs_after (Ok d) pairs h k)) (given_by d h) (given_by e k)
  given-alike d e (two_runs.give v w r) = answers v w r
  given-alike d e (two_runs.line us) = writes _
  given-alike d e (two_runs.makes_array vs ws rs) = new-answer
  given-alike d e (two_runs.makes_object a b r) = new-answer
  given-alike d e (two_runs.makes_error x message) = new-answer
  given-alike d e (two_runs.append o p i vs ws rs) =
      count-same (Paired pairs) _ _ (ap₂ (λ (n m : ℕ). n + m) (length-rel (Paired pairs) _ _ (hk.objects.related o.index p.index i).elements) (length-rel (Paired pairs) _ _ rs))
  given-alike d e (two_runs.cut o p i n v w r) = answers v w r
  given-alike d e (two_runs.replace o p i vs ws rs v w r) = answers v w r
  given-alike d e (two_runs.freeze o p i) = answers _ _ (refs o p i)
  given-alike d e (two_runs.copy o p i vs ws rs) = given_or-same (Paired pairs) _ _ _ _ (copied-alike pairs F o.index p.index i h k vs ws rs hk).halt (refs o p i)
  given-alike d e (two_runs.enter f g r v w s vs ws rs) = calls f g r v w s vs ws rs
  given-alike d e (two_runs.require us) = requires us

  -- what was asked for, or the same complaint
  pub heap-alike : (m n : Or Deed) → RelatedAnswers (Paired pairs) (RelatedDeeds (Paired pairs)) m n → AlikeHeaps (pairs_after m pairs h k) F (heap_by m h) (heap_by n k)
  heap-alike m n (ok d e r) = after-alike d e r
  heap-alike m n (err halt) = hk

  pub native-alike : (m n : Or Deed) → RelatedAnswers (Paired pairs) (RelatedDeeds (Paired pairs)) m n → RelatedNatives (Paired (pairs_after m pairs h k)) (native_by m h) (native_by n k)
  native-alike m n (ok d e r) = given-alike d e r
  native-alike m n (err halt) = halted-same (Paired pairs) halt

  pub done-alike : (f : Option BuiltIn) (c : Bool) (this that : Value) (vs ws : List Value) → Related (Paired pairs) this that → AllRelated (Paired pairs) vs ws →
      RelatedAnswers (Paired pairs) (RelatedDeeds (Paired pairs)) (done_of f c this vs h) (done_of f c that ws k)
  done-alike None c this that vs ws r rs = err (Throw NotAFunction)
  done-alike (Some f) c this that vs ws r rs = all-rel (Paired pairs) h k (seen pairs F h k hk) f c this that vs ws r rs

  -- Calls

  pub call-heaps : (n : ℕ) (c : Bool) (this that : Value) (vs ws : List Value) → Related (Paired pairs) this that → AllRelated (Paired pairs) vs ws →
      AlikeHeaps (native_pairs n c this vs pairs h k) F (native_heap n c this vs h) (native_heap n c that ws k)
  call-heaps n c this that vs ws r rs = heap-alike _ _ (done-alike (built_in n) c this that vs ws r rs)

  pub call-answers : (n : ℕ) (c : Bool) (this that : Value) (vs ws : List Value) → Related (Paired pairs) this that → AllRelated (Paired pairs) vs ws →
      RelatedNatives (Paired (native_pairs n c this vs pairs h k)) (native_of n c this vs h) (native_of n c that ws k)
  call-answers n c this that vs ws r rs = native-alike _ _ (done-alike (built_in n) c this that vs ws r rs)

after-keeps : (pairs : Pairs) (m : Or Deed) (h k : Heap) (o p : ℕ) → Paired pairs o p → Paired (pairs_after m pairs h k) o p
after-keeps pairs (Err halt) h k o p i = i
after-keeps pairs (Ok d) h k o p i = elim (makes d) as (λ b. Paired (if b then (next_object h, next_object k) ∷ pairs else pairs) o p) [ true ↦ there i | false ↦ i ]

pub call-keeps : (pairs : Pairs) (n : ℕ) (c : Bool) (this : Value) (vs : List Value) (h k : Heap) (o p : ℕ) → Paired pairs o p → Paired (native_pairs n c this vs pairs h k) o p
call-keeps pairs n c this vs h k o p i = after-keeps pairs (done_of (built_in n) c this vs h) h k o p i
