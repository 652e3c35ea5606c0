-- The place of an expression is kept.
use Rattle.std.proofs.Common.{ap, ◌∙◌}
use Rattle.js_reading.specs.Turns.{place}
use Rattle.js_stack.specs.View.{frames}
use Rattle.js_stack.proofs.stack.Stack.place.Goals as goal

pub returns : goal.returns
returns c = c.self.invariant.0.2 ∙ ap (λ stack. place (frames stack)) c.self.view_is
