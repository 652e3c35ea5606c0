-- Whether the innermost open part is a template's is kept.
use Rattle.std.proofs.Common.{ap, ◌∙◌}
use Rattle.js_reading.specs.Turns.{template_due}
use Rattle.js_stack.specs.View.{frames}
use Rattle.js_stack.proofs.stack.Stack.in_template.Goals as goal

pub returns : goal.returns
returns c = c.self.invariant.0.3 ∙ ap (λ stack. template_due (frames stack)) c.self.view_is
