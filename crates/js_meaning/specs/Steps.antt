-- A computation with so many steps, told so that another can follow it: what it left of its steps, and the store.
use Rattle.std.specs.Prelude.{ℕ, zero, suc}
use Rattle.js_value.specs.State.{Store}
use Rattle.js_value.specs.declared.value.Kind.{Kind}
use Rattle.js_meaning.specs.declared.outcome.Completion.{Completion}
use Rattle.js_meaning.specs.declared.outcome.Outcome.TheVariants.{Completes, Refuses, Stops}
use Rattle.js_meaning.specs.Effects.{Entry, Comp, ret, refuse, act, enter, handle, Ran, ran}

-- it completed with so many steps left, was refused, or asked for a step that was not there
pub data Result : Type 0 where
  Completed : (c : Completion) → (left : ℕ) → (s : Store) → Result
  Refused : (k : Kind) → (s : Store) → Result
  Stopped : (s : Store) → Result

-- goes on where it completed
abbrev pub then_go : Result → (Completion → ℕ → Store → Result) → Result
then_go (Completed c left s) next = next c left s
then_go (Refused k s) next = Refused k s
then_go (Stopped s) next = Stopped s

abbrev pub eval_until : (Entry → (Completion → Comp) → Store → Result) → ℕ → Comp → Store → Result
eval_until more n (ret c) s = Completed c n s
eval_until more n (refuse k) s = Refused k s
eval_until more n (act f j) s = eval_until more n (j s) (f s)
eval_until more n (enter e next) s = more e next s

-- a computation with so many steps
abbrev pub eval : (Entry → Comp) → ℕ → Comp → Store → Result
eval inside zero = eval_until (λ e next s. Stopped s) 0
eval inside (suc n) = eval_until (λ e next s. eval inside n (handle (inside e) next) s) (suc n)

-- the same without the steps that are left
abbrev pub ran_by : Result → Ran
ran_by (Completed c left s) = ran (Completes c) s
ran_by (Refused k s) = ran (Refuses k) s
ran_by (Stopped s) = ran Stops s
