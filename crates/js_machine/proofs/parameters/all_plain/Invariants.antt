use Rattle.std.specs.Prelude.{◌≡◌}
use Rattle.js_code.specs.Code.{reader}
use Rattle.js_code.specs.Part.{as_params}
use Rattle.js_machine.specs.private.AtOnce.{are_plain}
use Rattle.js_machine.proofs.parameters.all_plain.Given as goal

abbrev pub invariant-params : goal.invariant-params
invariant-params l = are_plain (as_params (reader l.code.nodes l.fn.params)) ≡ are_plain (as_params (reader l.code.nodes l.at))

abbrev pub decreases-params : goal.decreases-params
decreases-params l = l.at
