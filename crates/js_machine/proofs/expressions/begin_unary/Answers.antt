use Rattle.std.proofs.lemmas.Result.{IfOk-weaker}
use Rattle.std.proofs.Common.{ap, refl, ◌∙◌, arith}
use Rattle.js_code.specs.Part.{as_expr}
use Rattle.js_machine.proofs.Forms.{unary_other}
use Rattle.js_machine.specs.private.Config.{plug}
use Rattle.js_machine.proofs.expressions.begin_unary.Goals as goal

pub returns-in_default-clause-means : goal.returns-in_default-clause-means
returns-in_default-clause-means c = IfOk-weaker c.with_frame.result _ _ (λ control means t loc. means t ∙ ap (plug t c.args.frames.now.items) (unary_other t.program loc c.args.operator (as_expr (t.tree c.args.operand)) c.args.env.index c.in_default.not-Delete c.in_default.not-TypeOf)) c.with_frame.ensures.means

pub returns-in_default-clause-less : goal.returns-in_default-clause-less
returns-in_default-clause-less c = IfOk-weaker c.with_frame.result _ _ (λ control weight w. omega (arith, weight w)) c.with_frame.ensures.weight

pub returns-in-Delete-clause-means : goal.returns-in-Delete-clause-means
returns-in-Delete-clause-means c = λ t loc. rw c.in-Delete.is refl

pub returns-in-TypeOf-clause-means : goal.returns-in-TypeOf-clause-means
returns-in-TypeOf-clause-means c = λ t loc. rw c.in-TypeOf.is refl
