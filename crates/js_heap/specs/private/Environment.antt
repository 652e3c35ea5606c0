-- What a call does to one environment.
use Rattle.std.specs.Prelude.{ℕ, [], ◌∷◌, ◌++◌}
use Rattle.js_value.specs.declared.value.Value.{Value}
use Rattle.js_value.specs.State as state
use Rattle.js_value.specs.Environments as environments
use Rattle.js_heap.specs.private.Bindings.{with_initialized_among, with_assigned_among}

-- the environment with one more name
abbrev pub with_declared : state.Binding → state.Environment → state.Environment
with_declared binding e = record e { bindings = e.bindings ++ binding ∷ [] }

-- the cell at a place of an environment
abbrev pub cell_at : ℕ → ℕ → environments.Cell
cell_at e place = record { environment = e; place = place }

-- the environment whose name at a place has its first value
abbrev pub with_initialized : ℕ → Value → state.Environment → state.Environment
with_initialized place v e = record e { bindings = with_initialized_among place v e.bindings }

-- the environment after an assignment to the name at a place
abbrev pub with_assigned : ℕ → Value → state.Environment → state.Environment
with_assigned place v e = record e { bindings = with_assigned_among place v e.bindings }
