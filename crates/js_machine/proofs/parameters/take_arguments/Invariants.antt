use Rattle.std.specs.Prelude.{◌≡◌, true, drop}
use Rattle.js_code.specs.Code.{reader}
use Rattle.js_code.specs.Part.{as_params}
use Rattle.js_meaning.specs.Program.{Sources}
use Rattle.js_meaning.specs.Meaning as M
use Rattle.js_machine.specs.private.AtOnce.{are_plain}
use Rattle.js_machine.specs.private.State.{Turns}
use Rattle.js_machine.proofs.parameters.take_arguments.Given as goal

abbrev pub invariant-params : goal.invariant-params
invariant-params l = (are_plain (as_params (reader l.code.nodes l.at)) ≡ true) × ((p : Sources) →
    Turns (M.comp_params p (as_params (reader l.code.nodes l.fn.params)) l.fn.env.index l.arguments) l.fn.heap (M.comp_params p (as_params (reader l.code.nodes l.at)) l.fn.env.index (drop l.next l.arguments)) l.heap)

abbrev pub decreases-params : goal.decreases-params
decreases-params l = l.at
