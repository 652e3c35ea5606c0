-- What a call does to the names of one environment, and what their index tells.
use Rattle.std.specs.Prelude.{◌≡◌, ℕ, Bool, List, Option, Some, None, position, slice_index_or, slice_set, if◌then◌else◌}
use Rattle.std.specs.Str.{bytes_eq}
use Rattle.js_value.specs.declared.value.Value.{Value}
use Rattle.js_value.specs.State as state
use Rattle.js_value.specs.Environments as environments

-- what was found, or else the place, where it is here
abbrev pub or_place : Option ℕ → Bool → ℕ → Option ℕ
or_place (Some found) here place = Some found
or_place None here place = if here then Some place else None

-- it tells the first place of each name
abbrev pub IsIndexOf : (List ℕ → Option ℕ) → List (List ℕ) → Type 0
IsIndexOf places names = (name : List ℕ) → places name ≡ position (λ n. bytes_eq n name) names

-- the name at a place
abbrev pub binding_among : List state.Binding → ℕ → state.Binding
binding_among bindings place = slice_index_or bindings place environments.no_binding

-- the name at a place has its first value
abbrev pub with_initialized_among : ℕ → Value → List state.Binding → List state.Binding
with_initialized_among place v bindings = slice_set bindings place (record (binding_among bindings place) { value = Some v })

-- after an assignment to the name at a place
abbrev pub with_assigned_among : ℕ → Value → List state.Binding → List state.Binding
with_assigned_among place v bindings =
    let binding = binding_among bindings place in
    slice_set bindings place (environments.assigned (environments.assign_to binding) v binding)
