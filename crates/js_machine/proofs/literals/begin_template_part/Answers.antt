use Rattle.std.proofs.lemmas.Result.{IfOk-weaker}
use Rattle.std.proofs.Common.{sym, ap, ◌∙◌, arith}
use Rattle.js_machine.specs.private.Config.{text_after, plug}
use Rattle.js_value.specs.Arguments.{seen, to_text}
use Rattle.std.proofs.Common.{◌++◌}
use Rattle.js_meaning.specs.Meaning as M
use Rattle.js_meaning.specs.Effects.{handle, ret}
use Rattle.js_meaning.specs.declared.outcome.Completion.TheVariants as completion
use Rattle.js_value.specs.declared.value.Value.TheVariants as value
use Rattle.js_value.specs.declared.value.Primitive.TheVariants as primitive
use Rattle.js_tree.specs.Plain as P
use Rattle.js_code.specs.Node.{build}
use Rattle.js_machine.proofs.OtherNodes as other
use Rattle.js_code.specs.Part.{as_expr, as_template_part, as_template_parts}
use Rattle.js_machine.proofs.literals.begin_template_part.Goals as goal

pub returns-in-TemplatePart-clause-means : goal.returns-in-TemplatePart-clause-means
returns-in-TemplatePart-clause-means c = IfOk-weaker c.with_frame.result _ _ (λ control means t at. rw c.in-TemplatePart.is (means t ∙ ap (plug t c.args.frames.now.items) (ap (λ x. handle (M.comp_expr t.program (as_expr (t.tree c.in-TemplatePart.value)) c.args.env.index) (M.with_value (λ v. M.or_halt (to_text (seen v)) (λ inner.
    M.comp_template_parts t.program (as_template_parts (t.tree c.args.rest)) c.args.env.index (c.args.units ++ inner ++ text_after (as_template_part x))))))
    (at ∙ ap (build t.tree) c.in-TemplatePart.is)))) c.with_frame.ensures.means

pub returns-in-TemplatePart-clause-less : goal.returns-in-TemplatePart-clause-less
returns-in-TemplatePart-clause-less c = IfOk-weaker c.with_frame.result _ _ (λ control weight w. rw c.in-TemplatePart.is (omega (arith, weight w))) c.with_frame.ensures.weight

pub returns-in_default-clause-means : goal.returns-in_default-clause-means
returns-in_default-clause-means c = IfOk-weaker c.with_frame-in_default.result _ _ (λ control means t at.
    let none = other.no_template_part t.tree c.args.node.now c.in_default.not-TemplatePart in
    means t
    ∙ ap (λ x. plug t c.args.frames.now.items (handle (ret (completion.Normal (value.Primitive primitive.Null))) (M.with_value (λ v. M.or_halt (to_text (seen v)) (λ inner.
    M.comp_template_parts t.program (as_template_parts (t.tree c.args.rest)) c.args.env.index (c.args.units ++ inner ++ text_after x)))))) (ap as_template_part at ∙ none)
    ∙ ap (λ x. plug t c.args.frames.now.items (M.comp_template_parts t.program (P.more_template_part x (as_template_parts (t.tree c.args.rest))) c.args.env.index c.args.units)) (sym none)) c.with_frame-in_default.ensures.means

pub returns-in_default-clause-less : goal.returns-in_default-clause-less
returns-in_default-clause-less c = IfOk-weaker c.with_frame-in_default.result _ _ (λ control weight w. omega (arith, weight w)) c.with_frame-in_default.ensures.weight
