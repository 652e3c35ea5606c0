-- Where a computation comes to without a step: the cheapest way to reason about one over a heap of which only a part is known.
use Rattle.std.specs.Prelude.{◌≡◌, ℕ, zero, suc, List, [], ◌∷◌, ◌++◌, Some}
use Rattle.js_value.specs.declared.value.Value.{Value}
use Rattle.js_value.specs.declared.value.Kind.{Kind}
use Rattle.js_value.specs.State.{Written, Binding, Heap, Store}
use Rattle.js_value.specs.Objects.{kind_of}
use Rattle.js_value.specs.Environments.{Cell, lookup, value_of, init, assign, assign_answer, Done}
use Rattle.js_value.specs.Realm.{object}
use Rattle.js_value.specs.Running.{on_heap}
use Rattle.js_meaning.specs.declared.outcome.Completion.{Completion}
use Rattle.js_meaning.specs.declared.outcome.Completion.TheVariants.{Normal}
use Rattle.js_meaning.specs.Effects.{Entry, Call, Comp, ret, refuse, act, enter, handle}
use Rattle.js_meaning.specs.Steps.{Result, Completed, Refused, Stopped, eval}
use Rattle.js_meaning.specs.Program.{Sources}
use Rattle.js_meaning.specs.Scopes.{scope_made}
use Rattle.js_meaning.specs.Meaning.{read, write, initialize, call}
use Rattle.js_meaning.specs.Files.{inside}

-- it completes, is refused, or asks for a step
pub data Point : Type 0 where
  Comes : (c : Completion) → (s : Store) → Point
  Denied : (k : Kind) → (s : Store) → Point
  Asks : (e : Entry) → (next : Completion → Comp) → (s : Store) → Point

abbrev pub point : Comp → Store → Point
point (ret c) s = Comes c s
point (refuse k) s = Denied k s
point (act f j) s = point (j s) (f s)
point (enter e j) s = Asks e j s

-- and then another computation, by how it completes
abbrev pub onward : Point → (Completion → Comp) → Point
onward (Comes c s) next = point (next c) s
onward (Denied k s) next = Denied k s
onward (Asks e j s) next = Asks e (λ c. handle (j c) next) s

-- with so many steps from there
abbrev pub from_point : (Entry → Comp) → ℕ → Point → Result
from_point inside n (Comes c s) = Completed c n s
from_point inside n (Denied k s) = Refused k s
from_point inside zero (Asks e j s) = Stopped s
from_point inside (suc n) (Asks e j s) = eval inside n (handle (inside e) j) s

abbrev pub RunsFromPoint : Type 0
RunsFromPoint = (p : Sources) (n : ℕ) (c : Comp) (s : Store) → eval (inside p) n c s ≡ from_point (inside p) n (point c s)

abbrev pub PointsOnward : Type 0
PointsOnward = (c : Comp) (next : Completion → Comp) (s : Store) → point (handle c next) s ≡ onward (point c s) next

-- Names

abbrev pub ReadsName : Type 0
ReadsName = (s : Store) (name : List ℕ) (env : ℕ) (cell : Cell) (v : Value) → lookup s.heap env name ≡ Some cell → value_of s.heap cell ≡ Some v →
    point (read name env) s ≡ Comes (Normal v) s

abbrev pub WritesName : Type 0
WritesName = (s : Store) (name : List ℕ) (env : ℕ) (cell : Cell) (v : Value) → lookup s.heap env name ≡ Some cell → assign_answer s.heap cell ≡ Done →
    point (write name env v) s ≡ Comes (Normal v) (on_heap (assign cell v) s)

abbrev pub InitializesName : Type 0
InitializesName = (s : Store) (name : List ℕ) (env : ℕ) (cell : Cell) (v : Value) → lookup s.heap env name ≡ Some cell →
    point (initialize name env v) s ≡ Comes (Normal v) (on_heap (init cell v) s)

-- a scope is one environment more, with its names
abbrev pub scoped : List Binding → ℕ → Heap → Heap
scoped names env h = record h { environments = h.environments ++ record { outer = Some env; bindings = names } ∷ [] }

abbrev pub MakesScope : Type 0
MakesScope = (names : List Binding) (env : ℕ) (h : Heap) → scope_made names env h ≡ scoped names env h

-- Steps

-- a call of a function of the program asks for a step
abbrev pub AsksCall : Type 0
AsksCall = (s : Store) (f code env : ℕ) (this : Value) (arguments : List Value) → kind_of s.heap f ≡ Written code env →
    point (call (object f) this arguments) s ≡ Asks (Call code env this arguments) ret s

-- a computation that stops where no step is left, with nothing done; with one it takes it, and comes to a value in a store, whatever
-- follows
pub record TakesOne (p : Sources) (c : Comp) (s : Store) (v : Value) (t : Store) : Type 0 where
  pub none : (next : Completion → Comp) → eval (inside p) 0 (handle c next) s ≡ Stopped s
  pub one : (n : ℕ) (next : Completion → Comp) → eval (inside p) (suc n) (handle c next) s ≡ eval (inside p) n (next (Normal v)) t

-- one that asks for a step, and then for nothing more
abbrev pub TakesStep : Type 0
TakesStep = (p : Sources) (c : Comp) (s : Store) (e : Entry) (next : Completion → Comp) (v w : Value) (mid t : Store) →
    point c s ≡ Asks e next s → point (inside p e) s ≡ Comes (Normal v) mid → point (next (Normal v)) mid ≡ Comes (Normal w) t → TakesOne p c s w t
