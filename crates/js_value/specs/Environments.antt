-- What can be done with environments (ECMA-262, 9.1): nothing else reads or changes one.
use Rattle.std.specs.Prelude.{ℕ, zero, suc, false, List, [], ◌∷◌, ◌++◌, length, Option, Some, None, option_map, slice_index_or, slice_set, if◌then◌else◌}
use Rattle.std.specs.Str.{bytes_eq}
use Rattle.js_value.specs.declared.value.Value.{Value}
use Rattle.js_value.specs.State.{Binding, Environment, Heap}

-- stands for what is not there: no run refers to it
abbrev pub no_environment : Environment
no_environment = record { outer = None; bindings = [] }

abbrev pub no_binding : Binding
no_binding = record { name = []; value = None; constant = false }

abbrev pub environment_in : List Environment → ℕ → Environment
environment_in environments e = slice_index_or environments e no_environment

abbrev pub environment_at : Heap → ℕ → Environment
environment_at h e = environment_in h.environments e

-- the number of the environment that is made next
abbrev pub next_environment : Heap → ℕ
next_environment h = length h.environments

-- 9.1.2.2: an environment of no names
abbrev pub new_environment : Option ℕ → Heap → Heap
new_environment outer h = record h { environments = h.environments ++ record { outer = outer; bindings = [] } ∷ [] }

abbrev pub with_bindings : ℕ → List Binding → Heap → Heap
with_bindings e bindings h = record h {
  environments = slice_set h.environments e (record { outer = (environment_at h e).outer; bindings = bindings });
}

-- 9.1.1.1.2 and 9.1.1.1.3: one more name, with a value or without
abbrev pub declare : ℕ → Binding → Heap → Heap
declare e binding h = with_bindings e ((environment_at h e).bindings ++ binding ∷ []) h

-- a cell: the place of a name in an environment
pub record Cell : Type 0 where
  pub environment : ℕ
  pub place : ℕ

-- the place of the first of a name
abbrev pub place_in : List Binding → List ℕ → Option ℕ
place_in [] name = None
place_in (b ∷ bs) name = if bytes_eq b.name name then Some 0 else option_map suc (place_in bs name)

abbrev pub place_of : Environment → List ℕ → Option ℕ
place_of environment name = place_in environment.bindings name

-- 9.1.2.1: the cell of the first that has the name, from an environment outward. In a run what is around an environment is
-- older, so there are at most as many as the number of the first one, and it.
abbrev pub resolved : ℕ → List Environment → Option ℕ → List ℕ → Option Cell
resolved zero environments chain name = None
resolved (suc n) environments None name = None
resolved (suc n) environments (Some e) name = elim (place_of (environment_in environments e) name) [
  | Some at ↦ Some (record { environment = e; place = at })
  | None ↦ resolved n environments (environment_in environments e).outer name
]

abbrev pub lookup : Heap → ℕ → List ℕ → Option Cell
lookup h e name = resolved (suc e) h.environments (Some e) name

abbrev pub binding_at : Heap → Cell → Binding
binding_at h cell = slice_index_or (environment_at h cell.environment).bindings cell.place no_binding

-- 9.1.1.1.6: none where the cell is not initialized
abbrev pub value_of : Heap → Cell → Option Value
value_of h cell = (binding_at h cell).value

abbrev pub with_binding : Cell → Binding → Heap → Heap
with_binding cell binding h =
    with_bindings cell.environment (slice_set (environment_at h cell.environment).bindings cell.place binding) h

-- 9.1.1.1.4: the first value of a cell
abbrev pub init : Cell → Value → Heap → Heap
init cell v h = with_binding cell (record (binding_at h cell) { value = Some v }) h

-- what an assignment answers: a name that is not initialized, or else one that is constant, is not assigned to
pub data Assign : Type 0 where
  Done : Assign
  Dead : Assign
  Constant : Assign

abbrev pub assign_to : Binding → Assign
assign_to b = elim b.value [ None ↦ Dead | Some _ ↦ if b.constant then Constant else Done ]

abbrev pub assign_answer : Heap → Cell → Assign
assign_answer h cell = assign_to (binding_at h cell)

abbrev pub assigned : Assign → Value → Binding → Binding
assigned Done v b = record b { value = Some v }
assigned Dead v b = b
assigned Constant v b = b

-- 9.1.1.1.5
abbrev pub assign : Cell → Value → Heap → Heap
assign cell v h = with_binding cell (assigned (assign_answer h cell) v (binding_at h cell)) h

-- New scopes

-- 14.7.4.4: one with the same names and values, within the same
abbrev pub copy_environment : ℕ → Heap → Heap
copy_environment e h = record h { environments = h.environments ++ environment_at h e ∷ [] }

abbrev pub declare_all : ℕ → List Binding → Heap → Heap
declare_all e [] h = h
declare_all e (b ∷ bs) h = declare_all e bs (declare e b h)

-- Names, from an environment outward

-- the first value of a name, where it is there
abbrev pub init_name : ℕ → List ℕ → Value → Heap → Heap
init_name e name v h = elim (lookup h e name) [ None ↦ h | Some cell ↦ init cell v h ]

-- a name takes a value, where it is there and may
abbrev pub assign_name : ℕ → List ℕ → Value → Heap → Heap
assign_name e name v h = elim (lookup h e name) [ None ↦ h | Some cell ↦ assign cell v h ]

-- what that answers: none where the name isn't there
abbrev pub name_answer : Heap → ℕ → List ℕ → Option Assign
name_answer h e name = option_map (assign_answer h) (lookup h e name)
