use Rattle.js_machine.specs.private.Config.{plug}
use Rattle.std.proofs.lemmas.Result.{IfOk-weaker}
use Rattle.std.proofs.Common.{sym, ap, arith, ◌∙◌}
use Rattle.js_meaning.specs.Meaning as M
use Rattle.js_meaning.specs.Effects.{handle}
use Rattle.std.proofs.Common.{drop}
use Rattle.js_code.specs.Part.{as_params}
use Rattle.js_machine.proofs.functions.begin_param.Goals as goal

pub returns-in-Some-clause-means : goal.returns-in-Some-clause-means
returns-in-Some-clause-means c = IfOk-weaker c.begin_default.result _ _ (λ control means t loc name_loc. rw (c.in-Some.is, sym c.in_ok-value.ensures) (means t)) c.begin_default.ensures.means

pub returns-in-None-clause-means : goal.returns-in-None-clause-means
returns-in-None-clause-means c = IfOk-weaker c.take_argument.result _ _ (λ control means t loc name_loc. rw c.in-None.is (means t ∙ ap (plug t c.args.frames.now.items)
    (ap (λ v. handle (M.initialize (t.name c.args.name) c.args.env.index v) (M.with_value (λ w. M.comp_params t.program (as_params (t.tree c.args.rest)) c.args.env.index (M.rest_of (drop c.args.next c.args.arguments))))) c.in_ok-value.ensures))) c.take_argument.ensures.means

pub returns-in-Some-clause-less : goal.returns-in-Some-clause-less
returns-in-Some-clause-less c = IfOk-weaker c.begin_default.result _ _ (λ control less w. rw c.in-Some.is (omega (arith, less w))) c.begin_default.ensures.less

pub returns-in-None-clause-less : goal.returns-in-None-clause-less
returns-in-None-clause-less c = IfOk-weaker c.take_argument.result _ _ (λ control weight w. rw c.in-None.is (omega (arith, weight w))) c.take_argument.ensures.weight
