use Rattle.std.proofs.Common.{arith}
use Rattle.js_machine.proofs.Forms.{drop_rest, drop_past}
use Rattle.js_machine.proofs.operators.next_place.Goals as goal

pub returns-then-place-len : goal.returns-then-place-len
returns-then-place-len c = drop_rest c.args.arguments.now c.args.place (omega (arith, c.len.ensures, c.if-place-len.true))

pub returns-else-place-len : goal.returns-else-place-len
returns-else-place-len c = drop_past c.args.arguments.now c.args.place (omega (arith, c.len.ensures, c.if-place-len.false))
