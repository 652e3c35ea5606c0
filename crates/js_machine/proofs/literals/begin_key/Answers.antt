use Rattle.std.proofs.Common.{refl, ap, ◌∙◌, arith}
use Rattle.js_machine.proofs.OtherNodes as other
use Rattle.js_meaning.specs.Meaning as M
use Rattle.std.proofs.lemmas.Result.{IfOk-weaker}
use Rattle.js_machine.specs.private.Config.{name_of, keyed, plug}
use Rattle.js_machine.proofs.literals.begin_key.Goals as goal

pub returns-in-NameKey-clause-means : goal.returns-in-NameKey-clause-means
returns-in-NameKey-clause-means c = λ t named nowhere. rw (c.in-NameKey.is, named ∙ ap name_of c.in-NameKey.is) refl

pub returns-in_ok-copy-in-StringKey-clause-means : goal.returns-in_ok-copy-in-StringKey-clause-means
returns-in_ok-copy-in-StringKey-clause-means c = λ t named nowhere. rw (c.in-StringKey.is, c.in_ok-copy-in-StringKey.ensures) refl

pub returns-in-NumberKey-clause-means : goal.returns-in-NumberKey-clause-means
returns-in-NumberKey-clause-means c = IfOk-weaker c.begin_number_key.result _ _ (λ next means t named nowhere. rw c.in-NumberKey.is (ap (plug t c.args.frames.now.items) (means t ∙ ap (λ n. M.number_key n (keyed t c.args.next c.args.env.index)) c.value.ensures))) c.begin_number_key.ensures.means

pub returns-in-NumberKey-clause-less : goal.returns-in-NumberKey-clause-less
returns-in-NumberKey-clause-less c = IfOk-weaker c.begin_number_key.result _ _ (λ step less w. rw c.in-NumberKey.is (omega (arith, less w))) c.begin_number_key.ensures.less

pub returns-in-ComputedKey-clause-means : goal.returns-in-ComputedKey-clause-means
returns-in-ComputedKey-clause-means c = IfOk-weaker c.with_frame.result _ _ (λ control means t named nowhere. rw c.in-ComputedKey.is (means t)) c.with_frame.ensures.means

pub returns-in-ComputedKey-clause-less : goal.returns-in-ComputedKey-clause-less
returns-in-ComputedKey-clause-less c = IfOk-weaker c.with_frame.result _ _ (λ control weight w. rw c.in-ComputedKey.is (omega (arith, weight w))) c.with_frame.ensures.weight

pub returns-in_default-clause-means : goal.returns-in_default-clause-means
returns-in_default-clause-means c = λ t named nowhere. rw (other.no_key t.tree c.args.node.now c.in_default.not-NameKey c.in_default.not-StringKey c.in_default.not-NumberKey c.in_default.not-ComputedKey, nowhere) refl
