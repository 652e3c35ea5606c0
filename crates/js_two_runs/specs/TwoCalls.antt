-- What calls of a built-in function in two runs whose heaps are alike leave and give: heaps that are alike, and related answers.
use Rattle.std.specs.Prelude.{◌≡◌, ℕ, Bool, true, false, List, ◌∷◌, Ok, Err, if◌then◌else◌}
use Rattle.js_value.specs.declared.value.Value.{Value}
use Rattle.js_value.specs.declared.value.Kind.{Kind}
use Rattle.js_value.specs.declared.error_kind.ErrorKind.{ErrorKind}
use Rattle.js_value.specs.declared.deed.Deed.{Deed}
use Rattle.js_value.specs.declared.deed.Deed.TheVariants as deed
use Rattle.js_value.specs.State.{Heap}
use Rattle.js_value.specs.Objects.{next_object}
use Rattle.js_value.specs.Host.{Or, Native, Answers, Throws, Refuses, Writes, Calls, Requires, built_in, done_of, native_of, native_heap}
use Rattle.js_two_runs.specs.Pairs.{Pairs, Paired}
use Rattle.js_two_runs.specs.TwoRuns.{Related, AllRelated}
use Rattle.js_two_runs.specs.TwoHeaps.{AlikeHeaps, By}

-- the same answer with values that are related
pub data RelatedNatives (R : ℕ → ℕ → Type 0) : Native → Native → Type 0 where
  answers : (v w : Value) → Related R v w → RelatedNatives R (Answers v) (Answers w)
  throws : (k : ErrorKind) → (message : List ℕ) → RelatedNatives R (Throws k message) (Throws k message)
  refuses : (k : Kind) → RelatedNatives R (Refuses k) (Refuses k)
  writes : (bytes : List ℕ) → RelatedNatives R (Writes bytes) (Writes bytes)
  calls : (f g : Value) → Related R f g → (this that : Value) → Related R this that → (vs ws : List Value) → AllRelated R vs ws →
      RelatedNatives R (Calls f this vs) (Calls g that ws)
  requires : (us : List ℕ) → RelatedNatives R (Requires us) (Requires us)

-- whether a deed makes an object: at most one
abbrev pub makes : Deed → Bool
makes (deed.MakeArray vs) = true
makes (deed.MakeObject parent) = true
makes (deed.MakeError k message) = true
makes _ = false

-- the pairs after a deed: the objects that both runs make are a new pair
abbrev pub pairs_after : Or Deed → Pairs → Heap → Heap → Pairs
pairs_after (Ok d) pairs h k = if makes d then (next_object h, next_object k) ∷ pairs else pairs
pairs_after (Err halt) pairs h k = pairs

abbrev pub native_pairs : ℕ → Bool → Value → List Value → Pairs → Heap → Heap → Pairs
native_pairs n constructing this arguments pairs h k = pairs_after (done_of (built_in n) constructing this arguments h) pairs h k

-- heaps that are alike stay so in a call of the built-in function of a number, with `new` or without
abbrev pub AllCallsKeepHeapsAlike : Type 0
AllCallsKeepHeapsAlike = (pairs : Pairs) (test : ℕ → ℕ → ℕ → ℕ → Bool) (n : ℕ) (constructing : Bool) (this that : Value) (vs ws : List Value) (h k : Heap) →
    AlikeHeaps pairs (By test) h k → Related (Paired pairs) this that → AllRelated (Paired pairs) vs ws →
    AlikeHeaps (native_pairs n constructing this vs pairs h k) (By test) (native_heap n constructing this vs h) (native_heap n constructing that ws k)

-- and the answers are related
abbrev pub AllCallsAnswerAlike : Type 0
AllCallsAnswerAlike = (pairs : Pairs) (test : ℕ → ℕ → ℕ → ℕ → Bool) (n : ℕ) (constructing : Bool) (this that : Value) (vs ws : List Value) (h k : Heap) →
    AlikeHeaps pairs (By test) h k → Related (Paired pairs) this that → AllRelated (Paired pairs) vs ws →
    RelatedNatives (Paired (native_pairs n constructing this vs pairs h k)) (native_of n constructing this vs h) (native_of n constructing that ws k)

-- what was a pair stays one
abbrev pub AllCallsKeepPairs : Type 0
AllCallsKeepPairs = (pairs : Pairs) (n : ℕ) (constructing : Bool) (this : Value) (vs : List Value) (h k : Heap) (o p : ℕ) →
    Paired pairs o p → Paired (native_pairs n constructing this vs pairs h k) o p

-- no call of a built-in function makes or changes an environment
abbrev pub AllCallsKeepEnvironments : Type 0
AllCallsKeepEnvironments = (n : ℕ) (constructing : Bool) (this : Value) (vs : List Value) (h : Heap) →
    (native_heap n constructing this vs h).environments ≡ h.environments
