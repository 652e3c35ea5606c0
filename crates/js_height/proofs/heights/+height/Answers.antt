use Rattle.std.proofs.Common.{arith}
use Rattle.js_height.proofs.Held.{param_defaulted, height_rules}
use Rattle.js_height.proofs.heights.+height.Goals as goal

pub of_param-returns-in-Some : goal.of_param-returns-in-Some
of_param-returns-in-Some _ c = grind (arith, param_defaulted c.args.param.now c.in-Some.default c.in-Some.is, height_rules)
