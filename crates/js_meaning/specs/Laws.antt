-- What a reader expects of the meaning, as laws.
use Rattle.std.specs.Prelude.{◌≡◌, ℕ, zero, suc, ◌+◌, ◌-◌, ◌≤◌, length, slice_get, Bool, false, List, [], ◌∷◌, ◌++◌, Option, Some, None, if◌then◌else◌}
use Rattle.js_terms.specs.declared.place.Loc.{Loc}
use Rattle.js_terms.specs.Mark.{Mark}
use Rattle.js_tree.specs.Marked.{one_if}
use Rattle.js_tree.specs.Codes.{Code, number_of}
use Rattle.js_tree.specs.Plain.{Expr, Stmt, Stmts, MaybeStmt, more_stmt, While, If}
use Rattle.js_value.specs.declared.value.Value.{Value}
use Rattle.js_value.specs.Operators.{to_boolean}
use Rattle.js_value.specs.State.{Store}
use Rattle.js_value.specs.Running.{note}
use Rattle.js_value.specs.Realm.{undefined}
use Rattle.js_meaning.specs.declared.outcome.Completion.{Completion}
use Rattle.js_meaning.specs.declared.outcome.Completion.TheVariants.{Normal, Break, Continue, Return, Throw}
use Rattle.js_meaning.specs.declared.outcome.Outcome.{Outcome}
use Rattle.js_meaning.specs.declared.outcome.Outcome.TheVariants.{Completes, Refuses, Stops}
use Rattle.js_meaning.specs.Effects.{Entry, Comp, enter, handle, Ran, exec}
use Rattle.js_meaning.specs.Program.{Source, Sources, linked, uncounted, function_at}
use Rattle.js_meaning.specs.Meaning.{entering, comp_expr, comp_stmt, comp_stmts, comp_stmt_if, comp_turn, after_turn}
use Rattle.js_meaning.specs.Files.{inside}
use Rattle.js_meaning.specs.Steps.{Result, Completed, Stopped, then_go, eval, ran_by}
use Rattle.js_meaning.specs.declared.outcome.End.TheVariants.{Going}
use Rattle.js_meaning.specs.World.{meaning, World, world, PlainRun, plain}

-- Steps

-- a run is its result without the steps that are left
abbrev pub RunsAsEvaluated : Type 0
RunsAsEvaluated = (p : Sources) (n : ℕ) (c : Comp) (s : Store) → exec (inside p) n c s ≡ ran_by (eval (inside p) n c s)

-- of one computation after another, the second has the steps and the store that the first left
abbrev pub Composes : Type 0
Composes = (p : Sources) (n : ℕ) (c : Comp) (next : Completion → Comp) (s : Store) →
    eval (inside p) n (handle c next) s ≡ then_go (eval (inside p) n c s) (λ d left t. eval (inside p) left (next d) t)

-- where no step is left, nothing of what one is for has happened
abbrev pub StopsBefore : Type 0
StopsBefore = (p : Sources) (e : Entry) (next : Completion → Comp) (s : Store) → eval (inside p) 0 (enter e next) s ≡ Stopped s

-- one step is charged, and one only
abbrev pub ChargesOne : Type 0
ChargesOne = (p : Sources) (n : ℕ) (e : Entry) (next : Completion → Comp) (s : Store) →
    eval (inside p) (suc n) (enter e next) s ≡ eval (inside p) n (handle (inside p e) next) s

-- it did not ask for a step that was not there
abbrev pub IsOver : Outcome → Type 0
IsOver (Completes c) = Unit {0}
IsOver (Refuses k) = Unit {0}
IsOver Stops = ⊥

-- what has ended stays as it is with more steps
abbrev pub EndsForGood : Type 0
EndsForGood = (p : Sources) (file n m : ℕ) → IsOver (meaning p file n).outcome → meaning p file (n + m) ≡ meaning p file n

-- a list and what was put after it
pub record Continues {X : Type 0} (before after : List X) : Type 0 where
  pub more : List X
  pub rest : after ≡ before ++ more

-- what was printed and entered stays, and more may follow
pub record Extends (s t : Store) : Type 0 where
  pub output : Continues s.output t.output
  pub log : Continues s.log t.log

-- with more steps a run goes on from where it stopped
abbrev pub GoesOn : Type 0
GoesOn = (p : Sources) (file n m : ℕ) → Extends (meaning p file n).store (meaning p file (n + m)).store

-- Forms

-- a result where a value was given: so many steps are left
abbrev pub on_value : (Value → ℕ → Store → Result) → Completion → ℕ → Store → Result
on_value f (Normal v) left s = f v left s
on_value f (Break label) left s = Completed (Break label) left s
on_value f (Continue label) left s = Completed (Continue label) left s
on_value f (Return v) left s = Completed (Return v) left s
on_value f (Throw v) left s = Completed (Throw v) left s

-- one statement after another
abbrev pub Follows : Type 0
Follows = (p : Sources) (x y : Stmt) (ys : Stmts) (env n : ℕ) (s : Store) →
    eval (inside p) n (comp_stmts p (more_stmt x (more_stmt y ys)) env) s
    ≡ then_go (eval (inside p) n (comp_stmt p x [] env) s) (on_value (λ v left t. eval (inside p) left (comp_stmts p (more_stmt y ys) env) t))

-- with a step left, the turn of a loop; with none, none
abbrev pub with_step : (ℕ → Result) → ℕ → Store → Result
with_step f zero s = Stopped s
with_step f (suc left) s = f left

-- a loop asks for a step at each turn, after its test
abbrev pub TurnsByStep : Type 0
TurnsByStep = (p : Sources) (loc : Option Loc) (test : Expr) (body : Stmt) (labels : List (List ℕ)) (env n : ℕ) (s : Store) →
    eval (inside p) n (comp_stmt p (While loc test body) labels env) s
    ≡ then_go (eval (inside p) n (comp_expr p test env) s)
    (on_value (λ v left t. if to_boolean v
    then with_step (λ fewer. eval (inside p) fewer (comp_turn p (While loc test body) labels env) t) left t
    else Completed (Normal undefined) left t))

-- a turn is the body, and then the loop once more where its completion asks for it
abbrev pub TurnsAgain : Type 0
TurnsAgain = (p : Sources) (loc : Option Loc) (test : Expr) (body : Stmt) (labels : List (List ℕ)) (env n : ℕ) (s : Store) →
    eval (inside p) n (comp_turn p (While loc test body) labels env) s
    ≡ then_go (eval (inside p) n (comp_stmt p body [] env) s)
    (λ c left t. eval (inside p) left (after_turn labels (comp_stmt p (While loc test body) labels env) c) t)

-- an `if` is its test, and then one of its arms
abbrev pub ChoosesArm : Type 0
ChoosesArm = (p : Sources) (loc : Option Loc) (test : Expr) (holds : Stmt) (fails : MaybeStmt) (labels : List (List ℕ)) (env n : ℕ) (s : Store) →
    eval (inside p) n (comp_stmt p (If loc test holds fails) labels env) s
    ≡ then_go (eval (inside p) n (comp_expr p test env) s)
    (on_value (λ v left t. if to_boolean v
    then eval (inside p) left (comp_stmt p holds [] env) t
    else eval (inside p) left (comp_stmt_if p fails env) t))

-- a construct of a counted file is charged, noted, and then done
abbrev pub NotesConstruct : Type 0
NotesConstruct = (p : Sources) (mark : Mark) (n : ℕ) (c : Comp) (s : Store) →
    eval (inside p) (suc n) (entering mark c) s ≡ eval (inside p) n c (note mark s)

-- Two runs

abbrev pub is_counted : Option Source → Bool
is_counted None = false
is_counted (Some source) = source.counted

-- how many of the starts are of counted files
abbrev pub counted_starts : Sources → List ℕ → ℕ
counted_starts p [] = 0
counted_starts p (file ∷ files) = one_if (is_counted (slice_get p.files file)) + counted_starts p files

-- the steps that were charged for entries of constructs and for starts
abbrev pub charged : Sources → Store → ℕ
charged p s = length s.log + counted_starts p s.starts

-- the same store but for the log and the files started
abbrev pub but_for : List Mark → List ℕ → Store → Store
but_for log started s = record s { log = log; started = started }

-- a run without counting is that with counting, where it has as many steps less as that was charged for counting: where one is
-- over, so is the other, with the same outcome, and the same store but for what tells of the constructs; else what the one printed
-- begins what the other printed
pub record RunsAlike (counted plain : Ran) : Type 0 where
  pub outcome : IsOver counted.outcome → plain.outcome ≡ counted.outcome
  pub store : IsOver counted.outcome → plain.store ≡ but_for plain.store.log plain.store.started counted.store
  pub output : Continues counted.store.output plain.store.output

abbrev pub RunsWithoutCounting : Type 0
RunsWithoutCounting = (p : Sources) (file n : ℕ) → (charged p (meaning p file n).store ≤ n)
    × RunsAlike (meaning p file n) (meaning (uncounted p) file (n - charged p (meaning p file n).store))

-- The program

-- the function that a program has at a number has that number
abbrev pub NamesFunctions : Type 0
NamesFunctions = (p : Sources) (n : ℕ) (code : Code) → function_at (linked p) n ≡ Some code → number_of code ≡ n

-- the same as it is told: the steps that a run was charged for entries of constructs and for starts of counted files
abbrev pub charged_in : Sources → World → ℕ
charged_in p w = length w.log + counted_starts p w.starts

-- what a run that has ended says and prints, a run without counting says and prints in as many steps less; and it prints more than a
-- run that is going on, or as much
abbrev pub EndsPlainly : Type 0
EndsPlainly = (p : Sources) (path : List ℕ) (n : ℕ) (w : World) (r : PlainRun) →
    world p path n ≡ Some w → plain p path (n - charged_in p w) ≡ Some r →
    ((w.end ≡ Going → ⊥) → (r.end ≡ w.end) × (r.store.output ≡ w.output)) × Continues w.output r.store.output
