use Rattle.js_code.proofs.BoundNames.{param_goes_on}
use Rattle.js_code.proofs.names.param_names.Goals as goal

pub loop-param-preserved : goal.loop-param-preserved
loop-param-preserved c = param_goes_on c.loop-param.names c.args.params.now c.loop-param-test.true c.param-item.is c.in_ok-bound_name.ensures c.in_ok-push.ensures.ok c.loop-param.invariant
