use Rattle.std.proofs.Common.{sym, subst, ap, ◌∙◌}
use Rattle.js_code.specs.Code.{reader}
use Rattle.js_code.specs.Node.{build}
use Rattle.js_code.specs.Part.{as_expr}
use Rattle.js_value.specs.Functions.{name_units}
use Rattle.js_value.specs.Realm.{text}
use Rattle.js_meaning.specs.Meaning as M
use Rattle.js_machine.specs.private.Config.{view_of, expr_at, name_of}
use Rattle.js_machine.specs.private.State.{Turns}
use Rattle.js_machine.proofs.AtOnce.{some_is}
use Rattle.js_machine.proofs.Assigned.{named_refers, computed_refers}
use Rattle.js_machine.proofs.assignments.refer.Goals as goal

pub returns-in-Some : goal.returns-in-Some
returns-in-Some c = λ p otherwise next.
    subst (λ n. Turns (M.comp_reference p (expr_at (view_of p c.args.code.now.nodes) c.args.place) c.args.env.index otherwise next) c.args.heap.now (next (M.Member c.in-Some.base (text (name_units n)))) c.args.heap.now)
    (ap name_of (sym c.in-NamedMember.is ∙ c.node.ensures.is))
    (named_refers (view_of p c.args.code.now.nodes) c.args.place c.args.env.index c.args.heap.now c.in-NamedMember.loc otherwise next c.in-NamedMember.object c.in-NamedMember.name c.in-Some.base
    (ap as_expr (c.node.ensures.read ∙ ap (build (reader c.args.code.now.nodes)) c.in-NamedMember.is)) (some_is _ _ _ c.in-Some.is c.in_ok-base-in-NamedMember.ensures p))

pub returns-in-Ok-Some : goal.returns-in-Ok-Some
returns-in-Ok-Some c = λ p otherwise next.
    computed_refers (view_of p c.args.code.now.nodes) c.args.place c.args.env.index c.args.heap.now c.in-ComputedMember.loc otherwise next c.in-ComputedMember.object c.in-ComputedMember.key c.in-Some-2.base c.in-Ok-Some.key
    (ap as_expr (c.node.ensures.read ∙ ap (build (reader c.args.code.now.nodes)) c.in-ComputedMember.is))
    (some_is _ _ _ c.in-Some-2.is c.in_ok-base-in-ComputedMember.ensures p) (some_is _ _ _ c.in-Ok-Some.field-0-is c.in-Ok-Some.ensures p)
