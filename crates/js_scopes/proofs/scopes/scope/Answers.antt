-- Each name is the next of those that are left.
use Rattle.js_scopes.proofs.Steps.{goes_next}
use Rattle.js_scopes.proofs.scopes.scope.Goals as goal

pub loop-name-preserved : goal.loop-name-preserved
loop-name-preserved c =
    goes_next c.args.names.now c.loop-name.name-index _ c.loop-name.table c.next.new.table c.loop-name.out c.next.new.out _ c.loop-name-test.true
    c.in_ok-next.ensures.noted c.in_ok-next.ensures.found c.loop-name.invariant
