-- The frame is kept with what the others come to, and what all come to is kept over it.
use Rattle.js_stack.proofs.OnStack.{pushed}
use Rattle.js_stack.proofs.stack.Stack.push.Goals as goal

pub invariant_of-self-2 : goal.invariant_of-self-2
invariant_of-self-2 c =
    pushed
    c.self.inside.held.items
    _
    (record { frame = c.args.inner; outside = c.self.inside.counts })
    c.in-Ok.counts
    c.in_ok-push.ensures.items
    c.self.invariant.0
    c.self.invariant.1
    c.in-Ok.ensures
