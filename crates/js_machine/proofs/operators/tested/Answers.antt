use Rattle.std.proofs.lemmas.Result.{IfOk-weaker}
use Rattle.std.proofs.Common.{refl, sym, ◌∙◌, arith}
use Rattle.js_machine.proofs.operators.tested.Goals as goal

pub returns-then-strictly_equal-clause-means : goal.returns-then-strictly_equal-clause-means
returns-then-strictly_equal-clause-means c = IfOk-weaker c.begin_from.result _ _ (λ next means t. rw (sym c.strictly_equal.ensures ∙ c.if-strictly_equal.true) (means t)) c.begin_from.ensures.means

pub returns-else-strictly_equal-clause-means : goal.returns-else-strictly_equal-clause-means
returns-else-strictly_equal-clause-means c = λ t. rw (sym c.strictly_equal.ensures ∙ c.if-strictly_equal.false) refl

pub returns-then-strictly_equal-clause-less : goal.returns-then-strictly_equal-clause-less
returns-then-strictly_equal-clause-less c = IfOk-weaker c.begin_from.result _ _ (λ next less w. omega (arith, less w)) c.begin_from.ensures.less
