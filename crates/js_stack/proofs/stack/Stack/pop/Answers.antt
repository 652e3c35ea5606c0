-- What is left is counted as it was kept with the frame that is taken off.
use Rattle.std.proofs.Common.{ap, subst, sym, ◌∙◌}
use Rattle.std.proofs.lemmas.List.{append-nil}
use Rattle.js_stack.specs.Stack.{Counted, is_counted, stack_of}
use Rattle.js_stack.specs.View.{frames}
use Rattle.js_stack.proofs.OnStack.{popped, stack_push}
use Rattle.js_stack.proofs.stack.Stack.pop.Goals as goal

pub invariant_of-self : goal.invariant_of-self
invariant_of-self c =
    subst (λ held. Counted c.self.inside.counts (frames (stack_of held)) × is_counted held) (c.in_err-frame.ensures.items ∙ append-nil c.pop.new.self.items) c.self.invariant

pub returns-in_err-frame-clause-some : goal.returns-in_err-frame-clause-some
returns-in_err-frame-clause-some c = rw c.from_residual.ensures tt

pub invariant_of-self-2 : goal.invariant_of-self-2
invariant_of-self-2 c = popped c.self.inside.held.items _ c.in_ok-frame.field-0 c.in_ok-frame.ensures.items c.self.invariant.1

pub returns-clause-some : goal.returns-clause-some
returns-clause-some c = sym c.self.view_is ∙ (ap stack_of c.in_ok-frame.ensures.items ∙ stack_push c.pop.new.self.items c.in_ok-frame.field-0)
