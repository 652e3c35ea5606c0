-- What a transition makes of what waits and what is next.
use Rattle.std.specs.Prelude.{◌≡◌, ℕ, ◌+◌, ◌<◌, List}
use Rattle.js_meaning.specs.Effects.{Comp}
use Rattle.js_machine.specs.declared.data.Control.{Control}
use Rattle.js_machine.specs.declared.data.Frame.{Frame}
use Rattle.js_machine.specs.private.Config.{View, control_comp, plug}
use Rattle.js_machine.specs.private.Weight.{Weights, control_weight, frames_weight}

-- what a computation is under the old frames is what is next under the new ones
abbrev pub ComesTo : View → List Frame → Comp → List Frame → Control → Type 0
ComesTo t old comp new next = plug t new (control_comp t next) ≡ plug t old comp

-- what is next and what waits weigh less than so much under the old frames
abbrev pub Lighter : Weights → List Frame → ℕ → List Frame → Control → Type 0
Lighter w old weight new next = frames_weight w new + control_weight w next < frames_weight w old + weight
