use Rattle.std.proofs.Common.{sym, ap, ◌∙◌}
use Rattle.js_code.specs.Code.{reader}
use Rattle.js_code.specs.Node.{build}
use Rattle.js_code.specs.Part.{as_expr}
use Rattle.js_machine.specs.private.Config.{view_of}
use Rattle.js_machine.proofs.AtOnce.{found_then, some_is, inside_has, binary_has, named_has, computed_has}
use Rattle.js_machine.proofs.operands.+operand.Goals as goal

pub returns-in-Parenthesized : goal.returns-in-Parenthesized
returns-in-Parenthesized t c = found_then c.operand.result _ _ c.operand.ensures (λ v has p.
    inside_has (view_of p c.args.code.now.nodes) c.args.place c.args.env.index c.args.heap.now c.in-Parenthesized.loc c.in-Parenthesized.inner v
    (ap as_expr (c.node.ensures.read ∙ ap (build (reader c.args.code.now.nodes)) c.in-Parenthesized.is)) (has p))

pub returns-in-Some-2 : goal.returns-in-Some-2
returns-in-Some-2 t c = found_then c.operated.result _ _ c.operated.ensures (λ u turns p.
    binary_has (view_of p c.args.code.now.nodes) c.args.place c.args.env.index c.args.heap.now c.in-Binary.loc c.in-Binary.operator c.in-Binary.left c.in-Binary.right c.in-Some.first c.in-Some-2.second u
    (ap as_expr (c.node.ensures.read ∙ ap (build (reader c.args.code.now.nodes)) c.in-Binary.is))
    (some_is _ _ _ c.in-Some.is c.in_ok-first-in-Binary.ensures p) (some_is _ _ _ c.in-Some-2.is c.in_ok-second-in-Binary.ensures p) (turns c.args.heap.now))

pub returns-in-Some-3 : goal.returns-in-Some-3
returns-in-Some-3 t c = found_then c.named_member.result _ _ c.named_member.ensures (λ w gives p.
    named_has (view_of p c.args.code.now.nodes) c.args.place c.args.env.index c.args.heap.now c.in-NamedMember.loc c.in-NamedMember.object c.in-NamedMember.name c.in-Some-3.base w
    (ap as_expr (c.node.ensures.read ∙ ap (build (reader c.args.code.now.nodes)) c.in-NamedMember.is))
    (some_is _ _ _ c.in-Some-3.is c.in_ok-base-in-NamedMember.ensures p) (rw (sym c.units.ensures) gives))

pub returns-in-Some-5 : goal.returns-in-Some-5
returns-in-Some-5 t c = found_then c.member.result _ _ c.member.ensures (λ w gives p.
    computed_has (view_of p c.args.code.now.nodes) c.args.place c.args.env.index c.args.heap.now c.in-ComputedMember.loc c.in-ComputedMember.object c.in-ComputedMember.key c.in-Some-4.base c.in-Some-5.key w
    (ap as_expr (c.node.ensures.read ∙ ap (build (reader c.args.code.now.nodes)) c.in-ComputedMember.is))
    (some_is _ _ _ c.in-Some-4.is c.in_ok-base-in-ComputedMember.ensures p) (some_is _ _ _ c.in-Some-5.is c.in_ok-key-in-ComputedMember.ensures p) gives)
