use Rattle.std.proofs.lemmas.Result.{IfOk-weaker}
use Rattle.std.proofs.Common.{refl, arith}
use Rattle.js_machine.proofs.OtherNodes as other
use Rattle.js_machine.proofs.Forms.{method_body}
use Rattle.js_machine.proofs.functions.begin_body.Goals as goal

pub returns-in-Function-clause-means : goal.returns-in-Function-clause-means
returns-in-Function-clause-means c = λ t. rw (c.in-Function.is, method_body) refl

pub returns-in-ArrowBlock-clause-means : goal.returns-in-ArrowBlock-clause-means
returns-in-ArrowBlock-clause-means c = λ t. rw c.in-ArrowBlock.is refl

pub returns-in-ArrowExpression-clause-means : goal.returns-in-ArrowExpression-clause-means
returns-in-ArrowExpression-clause-means c = IfOk-weaker c.with_frame.result _ _ (λ control means t. rw c.in-ArrowExpression.is (means t)) c.with_frame.ensures.means

pub returns-in-ArrowExpression-clause-less : goal.returns-in-ArrowExpression-clause-less
returns-in-ArrowExpression-clause-less c = IfOk-weaker c.with_frame.result _ _ (λ control weight w. rw c.in-ArrowExpression.is (omega (arith, weight w))) c.with_frame.ensures.weight

pub returns-in_default-clause-means : goal.returns-in_default-clause-means
returns-in_default-clause-means c = λ t. rw (c.undefined.ensures, other.no_code t.tree c.args.node.now c.in_default.not-Function c.in_default.not-ArrowExpression c.in_default.not-ArrowBlock) refl
