use Rattle.std.proofs.Common.{refl}
use Rattle.js_code.proofs.Told.{defaults_at, defaults_end, defaults_on}
use Rattle.js_code.proofs.names.has_defaults.Goals as goal

pub loop-param-init : goal.loop-param-init
loop-param-init c = refl

pub loop-param-preserved : goal.loop-param-preserved
loop-param-preserved c = defaults_on c.args.params.now c.loop-param-test.true c.param-item.is c.if-has_default.ensures c.loop-param.invariant

pub returns-then-has_default : goal.returns-then-has_default
returns-then-has_default c = defaults_at c.args.params.now c.loop-param-test.true c.param-item.is c.if-has_default.ensures c.loop-param.invariant

pub returns : goal.returns
returns c = defaults_end c.args.params.now c.loop-param-test.false c.loop-param.invariant
