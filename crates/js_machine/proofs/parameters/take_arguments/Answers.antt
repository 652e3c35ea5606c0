use Rattle.std.proofs.Common.{◌≡◌, true, false, drop, sym, subst, ap, ◌∙◌, if◌then◌else◌}
use Rattle.js_value.specs.declared.deed.Complaint.TheVariants.{NotDefined}
use Rattle.js_code.specs.Code.{reader}
use Rattle.js_code.specs.Node.{build}
use Rattle.js_code.specs.Part.{as_param, as_params}
use Rattle.js_meaning.specs.Meaning as M
use Rattle.js_machine.specs.private.AtOnce.{are_plain}
use Rattle.js_machine.specs.private.State.{Turns}
use Rattle.js_machine.proofs.Assigned.{turns_on}
use Rattle.js_machine.proofs.Bound.{plain_parts, taken_turns}
use Rattle.js_machine.proofs.parameters.take_arguments.Goals as goal

pub params-preserved : goal.params-preserved
params-preserved c = (
  (plain_parts (as_param (reader c.args.code.now.nodes c.in-Some.first)) (as_params (reader c.args.code.now.nodes c.in-Some.rest)) (subst (λ ps. are_plain ps ≡ true) (ap as_params (c.node.ensures.read ∙ ap (build (reader c.args.code.now.nodes)) c.in-Some.ensures.more)) c.params.invariant.0)).1,
  λ p. turns_on _ _ _ _ _ _ (c.params.invariant.1 p)
      (subst (λ vs. Turns (M.comp_params p (as_params (reader c.args.code.now.nodes c.params.at)) c.args.env.index (drop c.params.next c.args.arguments.now)) c.params.heap (M.comp_params p (as_params (reader c.args.code.now.nodes c.in-Some.rest)) c.args.env.index vs) c.take_argument.new.heap)
      (sym c.next_place-next.ensures)
      (taken_turns c.in_ok-take_argument-in-Some.field-0 true (M.comp_params p (as_params (reader c.args.code.now.nodes c.params.at)) c.args.env.index (drop c.params.next c.args.arguments.now)) (M.comp_params p (as_params (reader c.args.code.now.nodes c.in-Some.rest)) c.args.env.index (M.rest_of (drop c.params.next c.args.arguments.now))) (M.complain NotDefined) c.params.heap c.take_argument.new.heap
      c.if-not-branch.false
      (subst (λ ps. Turns (M.comp_params p ps c.args.env.index (drop c.params.next c.args.arguments.now)) c.params.heap
      (if c.in_ok-take_argument-in-Some.field-0 then M.comp_params p (as_params (reader c.args.code.now.nodes c.in-Some.rest)) c.args.env.index (M.rest_of (drop c.params.next c.args.arguments.now)) else M.complain NotDefined) c.take_argument.new.heap) (sym (ap as_params (c.node.ensures.read ∙ ap (build (reader c.args.code.now.nodes)) c.in-Some.ensures.more)))
      (c.in_ok-take_argument-in-Some.ensures p (as_params (reader c.args.code.now.nodes c.in-Some.rest)))))),
)

pub take_argument-requires : goal.take_argument-requires
take_argument-requires c = record { plain = (plain_parts (as_param (reader c.args.code.now.nodes c.in-Some.first)) (as_params (reader c.args.code.now.nodes c.in-Some.rest)) (subst (λ ps. are_plain ps ≡ true) (ap as_params (c.node.ensures.read ∙ ap (build (reader c.args.code.now.nodes)) c.in-Some.ensures.more)) c.params.invariant.0)).0 }

pub returns-then-not-branch : goal.returns-then-not-branch
returns-then-not-branch c = λ p. turns_on _ _ _ _ _ _ (c.params.invariant.1 p)
    (taken_turns c.in_ok-take_argument-in-Some.field-0 false (M.comp_params p (as_params (reader c.args.code.now.nodes c.params.at)) c.args.env.index (drop c.params.next c.args.arguments.now)) (M.comp_params p (as_params (reader c.args.code.now.nodes c.in-Some.rest)) c.args.env.index (M.rest_of (drop c.params.next c.args.arguments.now))) (M.complain NotDefined) c.params.heap c.take_argument.new.heap
    c.if-not-branch.true
    (subst (λ ps. Turns (M.comp_params p ps c.args.env.index (drop c.params.next c.args.arguments.now)) c.params.heap
    (if c.in_ok-take_argument-in-Some.field-0 then M.comp_params p (as_params (reader c.args.code.now.nodes c.in-Some.rest)) c.args.env.index (M.rest_of (drop c.params.next c.args.arguments.now)) else M.complain NotDefined) c.take_argument.new.heap) (sym (ap as_params (c.node.ensures.read ∙ ap (build (reader c.args.code.now.nodes)) c.in-Some.ensures.more)))
    (c.in_ok-take_argument-in-Some.ensures p (as_params (reader c.args.code.now.nodes c.in-Some.rest)))))
