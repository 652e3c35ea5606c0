-- Where the machine is, and what a transition does.
use Rattle.std.specs.Prelude.{◌≡◌, ℕ, ◌+◌, List, []}
use Rattle.js_value.specs.State.{Store}
use Rattle.js_meaning.specs.Effects as E
use Rattle.js_meaning.specs.Effects.{Comp, exec}
use Rattle.js_machine.specs.declared.data.Control.{Control}
use Rattle.js_machine.specs.declared.data.Control.TheVariants as control
use Rattle.js_machine.specs.declared.data.Frame.{Frame}
use Rattle.js_machine.specs.declared.data.Rest.{Rest}
use Rattle.js_machine.specs.declared.data.Rest.TheVariants as rest
use Rattle.js_machine.specs.declared.state.State.{State}
use Rattle.js_machine.specs.private.Config.{View, control_comp, plug}
use Rattle.js_machine.specs.private.Weight.{place_weight, control_weight, frames_weight}
use Rattle.js_machine.specs.private.State.{Held, held, store_of}

-- what waits, what is next, and what the program can change
pub record Here : Type 0 where
  pub frames : List Frame
  pub control : Control
  pub state : Held

-- all that is left to do
abbrev pub todo : View → Here → Comp
todo t h = plug t h.frames (control_comp t h.control)

-- with any steps left, and whatever else is in the store, both do the same
pub record Leads (t : View) (a b : Here) : Type 0 where
  pub same : (base : Store) (inside : E.Entry → Comp) (n : ℕ) →
      exec inside n (todo t a) (store_of base a.state) ≡ exec inside n (todo t b) (store_of base b.state)

-- the work that is left up to the next step that is asked for
abbrev pub work : Here → ℕ
work h = frames_weight place_weight h.frames + control_weight place_weight h.control

-- where the machine can't go on by itself; where it is done, nothing waits
abbrev pub IsAt : Rest → Control → List Frame → Type 0
IsAt (rest.Completed c) next fs = (next ≡ control.Give c) × (fs ≡ [])
IsAt (rest.Refused k) next fs = next ≡ control.Refuse k
IsAt (rest.Asks e) next fs = next ≡ control.Enter e

abbrev pub rest_control : Rest → Control
rest_control (rest.Completed c) = control.Give c
rest_control (rest.Refused k) = control.Refuse k
rest_control (rest.Asks e) = control.Enter e

abbrev pub here : List Frame → Control → State → Here
here frames next s = record { frames = frames; control = next; state = held s }

-- transitions lead to where the machine can't go on by itself
abbrev pub Rests : View → Here → Rest → List Frame → State → Type 0
Rests t h r fs s = Leads t h (here fs (rest_control r) s) × IsAt r (rest_control r) fs
