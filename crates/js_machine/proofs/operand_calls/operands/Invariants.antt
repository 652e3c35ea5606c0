use Rattle.std.specs.Prelude.{List, []}
use Rattle.js_value.specs.declared.value.Value.{Value}
use Rattle.js_code.specs.Code.{reader}
use Rattle.js_code.specs.Part.{as_exprs}
use Rattle.js_meaning.specs.Effects.{Comp}
use Rattle.js_meaning.specs.Program.{Sources}
use Rattle.js_meaning.specs.Meaning as M
use Rattle.js_machine.specs.private.State.{Turns}
use Rattle.js_machine.proofs.operand_calls.operands.Given as goal

abbrev pub invariant-values : goal.invariant-values
invariant-values l = (p : Sources) (next : List Value → Comp) →
    Turns (M.comp_values p (as_exprs (reader l.code.nodes l.fn.place)) l.fn.env.index [] next) l.heap (M.comp_values p (as_exprs (reader l.code.nodes l.at)) l.fn.env.index l.values next) l.heap

abbrev pub decreases-values : goal.decreases-values
decreases-values l = l.at
