-- What a tree does, as a computation: a tree of its effects on the store, which asks for a step where the profile charges one.
use Rattle.std.specs.Prelude.{ℕ, zero, suc, List, Option}
use Rattle.js_tree.specs.Plain.{Stmt}
use Rattle.js_terms.specs.Mark.{Mark}
use Rattle.js_value.specs.State.{Store}
use Rattle.js_value.specs.declared.value.Value.{Value}
use Rattle.js_value.specs.declared.value.Kind.{Kind}
use Rattle.js_value.specs.Iterations.{Iteration}
use Rattle.js_meaning.specs.declared.outcome.Completion.{Completion}
use Rattle.js_meaning.specs.declared.outcome.Outcome.{Outcome}
use Rattle.js_meaning.specs.declared.outcome.Outcome.TheVariants as outcome

-- what a step is charged for: a call of a function of the program; a construction by one, which is this object; a call of a
-- built-in function, which is this object, with the object that makes its result where it constructs (10.3.2, NewTarget); a turn
-- of a loop with its labels; a turn of one that takes keys or items, in the environment where it took the last one, with those
-- that are left; a construct of a counted file; the start of a counted file
pub data Entry : Type 0 where
  Call : (code environment : ℕ) → (this : Value) → (arguments : List Value) → Entry
  New : (maker code environment : ℕ) → (arguments : List Value) → Entry
  CallBuiltIn : (callee function : ℕ) → (maker : Option ℕ) → (this : Value) → (arguments : List Value) → Entry
  Turn : (loop : Stmt) → (labels : List (List ℕ)) → (environment : ℕ) → Entry
  Pass : (loop : Stmt) → (labels : List (List ℕ)) → (environment inner : ℕ) → (rest : Iteration) → Entry
  Construct : (mark : Mark) → Entry
  Start : (file : ℕ) → Entry

-- a computation completes, is refused, changes the store and goes on by what it read there before, or asks for a step, and
-- goes on by how that which the step is for completes
pub data Comp : Type 0 where
  ret : (c : Completion) → Comp
  refuse : (k : Kind) → Comp
  act : (change : Store → Store) → (next : Store → Comp) → Comp
  enter : (e : Entry) → (next : Completion → Comp) → Comp

-- a computation, and then another by how the first completes; a refusal passes by
abbrev pub handle : Comp → (Completion → Comp) → Comp
handle (ret c) next = next c
handle (refuse k) next = refuse k
handle (act f j) next = act f (λ s. handle (j s) next)
handle (enter e j) next = enter e (λ c. handle (j c) next)

-- what came of a run, and the store that it left
pub record Ran : Type 0 where
  pub outcome : Outcome
  pub store : Store

abbrev pub ran : Outcome → Store → Ran
ran outcome store = record { outcome = outcome; store = store }

-- a computation up to the first place that asks for a step
abbrev pub until_step : (Entry → (Completion → Comp) → Store → Ran) → Comp → Store → Ran
until_step more (ret c) s = ran (outcome.Completes c) s
until_step more (refuse k) s = ran (outcome.Refuses k) s
until_step more (act f j) s = until_step more (j s) (f s)
until_step more (enter e next) s = more e next s

-- where a step is asked for with so many left: what the step is for, if there is one, and then the rest
abbrev pub into : (Entry → Comp) → ℕ → Entry → (Completion → Comp) → Store → Ran
into inside zero e next s = ran outcome.Stops s
into inside (suc n) e next s = until_step (into inside n) (handle (inside e) next) s

-- a computation with so many steps
abbrev pub exec : (Entry → Comp) → ℕ → Comp → Store → Ran
exec inside n = until_step (into inside n)
