-- Whether the frames stand in a function is kept.
use Rattle.std.proofs.Common.{ap, ◌∙◌}
use Rattle.js_reading.specs.Unsupported.{in_function}
use Rattle.js_stack.specs.View.{frames}
use Rattle.js_stack.proofs.stack.Stack.in_function.Goals as goal

pub returns : goal.returns
returns c = c.self.invariant.0.4 ∙ ap (λ stack. in_function (frames stack)) c.self.view_is
