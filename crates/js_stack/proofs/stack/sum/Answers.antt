-- Both are added where the sum fits.
use Rattle.std.proofs.Common.{◌+◌, ◌<◌}
use Rattle.js_stack.proofs.OnStack.{sum_if}
use Rattle.js_stack.proofs.stack.sum.Goals as goal

pub returns : goal.returns
returns c = sum_if _ c.ok_or.result c.checked_add.result (c.args.one + c.args.other < 18446744073709551616) (c.args.one + c.args.other) c.ok_or.ensures.value c.checked_add.ensures
