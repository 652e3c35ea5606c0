-- The innermost frame is that of the last that is held.
use Rattle.std.proofs.Common.{ap, sym, length, ◌∙◌}
use Rattle.js_stack.specs.Stack.{first_frame, stack_of}
use Rattle.js_stack.proofs.OnStack.{innermost_none, stack_push}
use Rattle.js_stack.proofs.stack.Stack.innermost.Goals as goal

pub returns-in-Some : goal.returns-in-Some
returns-in-Some c =
    sym (ap first_frame (sym c.self.view_is ∙ (ap stack_of (sym c.as_slice.ensures.value ∙ c.in-Some.ensures.cases.0) ∙ stack_push c.in-Some.field-0-1.now c.in-Some.held.now)))

pub returns-in-None : goal.returns-in-None
returns-in-None c =
    sym (ap first_frame (sym c.self.view_is) ∙ innermost_none c.self.inside.held.items (sym (ap length c.as_slice.ensures.value) ∙ c.in-None.ensures.cases))
