use Rattle.std.proofs.lemmas.Result.{IfOk-weaker}
use Rattle.std.proofs.Common.{refl, ap, ◌∙◌, arith}
use Rattle.js_value.specs.Functions.{name_units}
use Rattle.js_meaning.specs.Meaning as M
use Rattle.js_meaning.specs.Effects.{handle}
use Rattle.js_machine.proofs.OtherNodes as other
use Rattle.js_machine.specs.private.Config.{name_of, plug}
use Rattle.js_machine.proofs.literals.begin_property.Goals as goal

pub returns-in-Shorthand-clause-means : goal.returns-in-Shorthand-clause-means
returns-in-Shorthand-clause-means c = IfOk-weaker c.with_frame.result _ _ (λ control means t named nowhere. rw c.in-Shorthand.is (means t ∙ ap (plug t c.args.frames.now.items) (ap (λ n. handle (M.read n c.args.env.index) (M.with_value (M.defines c.args.object.index (name_units n)))) (named ∙ ap name_of c.in-Shorthand.is)))) c.with_frame.ensures.means

pub returns-in-Shorthand-clause-less : goal.returns-in-Shorthand-clause-less
returns-in-Shorthand-clause-less c = IfOk-weaker c.with_frame.result _ _ (λ control weight w. rw c.in-Shorthand.is (omega (arith, weight w))) c.with_frame.ensures.weight

pub returns-in-KeyValue-clause-means : goal.returns-in-KeyValue-clause-means
returns-in-KeyValue-clause-means c = λ t named nowhere. rw c.in-KeyValue.is refl

pub returns-in-Method-clause-means : goal.returns-in-Method-clause-means
returns-in-Method-clause-means c = λ t named nowhere. rw c.in-Method.is refl

pub returns-in_default-clause-means : goal.returns-in_default-clause-means
returns-in_default-clause-means c = IfOk-weaker c.with_frame-in_default.result _ _ (λ control means t named nowhere. rw (other.no_property t.tree c.args.node.now c.in_default.not-Shorthand c.in_default.not-KeyValue c.in_default.not-Method) (means t ∙ ap (plug t c.args.frames.now.items) (ap (λ n. handle (M.read n c.args.env.index) (M.with_value (M.defines c.args.object.index (name_units n)))) nowhere))) c.with_frame-in_default.ensures.means

pub returns-in_default-clause-less : goal.returns-in_default-clause-less
returns-in_default-clause-less c = IfOk-weaker c.with_frame-in_default.result _ _ (λ control weight w. omega (arith, weight w)) c.with_frame-in_default.ensures.weight
