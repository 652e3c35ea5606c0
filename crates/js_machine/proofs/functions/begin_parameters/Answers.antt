use Rattle.std.proofs.lemmas.Result.{IfOk-weaker}
use Rattle.std.proofs.Common.{refl, arith}
use Rattle.js_machine.proofs.OtherNodes as other
use Rattle.js_machine.proofs.Forms.{method_params}
use Rattle.js_machine.proofs.functions.begin_parameters.Goals as goal

pub returns-in-Function-clause-means : goal.returns-in-Function-clause-means
returns-in-Function-clause-means c = IfOk-weaker c.bind_all.result _ _ (λ next means t. rw (c.in-Function.is, method_params) (means t)) c.bind_all.ensures.means

pub returns-in-ArrowExpression-clause-means : goal.returns-in-ArrowExpression-clause-means
returns-in-ArrowExpression-clause-means c = IfOk-weaker c.bind_all-in-ArrowExpression.result _ _ (λ next means t. rw c.in-ArrowExpression.is (means t)) c.bind_all-in-ArrowExpression.ensures.means

pub returns-in-ArrowBlock-clause-means : goal.returns-in-ArrowBlock-clause-means
returns-in-ArrowBlock-clause-means c = IfOk-weaker c.bind_all-in-ArrowBlock.result _ _ (λ next means t. rw c.in-ArrowBlock.is (means t)) c.bind_all-in-ArrowBlock.ensures.means

pub returns-in_default-clause-means : goal.returns-in_default-clause-means
returns-in_default-clause-means c = λ t. rw (other.no_code t.tree c.args.node.now c.in_default.not-Function c.in_default.not-ArrowExpression c.in_default.not-ArrowBlock) refl

pub returns-in-Function-clause-less : goal.returns-in-Function-clause-less
returns-in-Function-clause-less c = IfOk-weaker c.bind_all.result _ _ (λ next weight w. rw c.in-Function.is (omega (arith, weight w))) c.bind_all.ensures.weight

pub returns-in-ArrowExpression-clause-less : goal.returns-in-ArrowExpression-clause-less
returns-in-ArrowExpression-clause-less c = IfOk-weaker c.bind_all-in-ArrowExpression.result _ _ (λ next weight w. rw c.in-ArrowExpression.is (omega (arith, weight w))) c.bind_all-in-ArrowExpression.ensures.weight

pub returns-in-ArrowBlock-clause-less : goal.returns-in-ArrowBlock-clause-less
returns-in-ArrowBlock-clause-less c = IfOk-weaker c.bind_all-in-ArrowBlock.result _ _ (λ next weight w. rw c.in-ArrowBlock.is (omega (arith, weight w))) c.bind_all-in-ArrowBlock.ensures.weight
