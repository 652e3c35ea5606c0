-- Each option stands after those before it.
use Rattle.std.proofs.Common.{◌∙◌, ap}
use Rattle.std.specs.Prelude.{codes}
use Rattle.std.proofs.lemmas.Result.{IfOk-weaker}
use Rattle.clap.specs.Simple.{with_rule}
use Rattle.cov_words.specs.Words.{threshold_rule}
use Rattle.cov_words.proofs.forms.with_thresholds.Goals as goal

pub returns : goal.returns
returns c =
    let first = c.in_ok-form.ensures.0 in
    let second = c.in_ok-form-2.ensures.0 ∙ ap (λ form. with_rule form (threshold_rule (codes "statements"))) first in
    let third = c.in_ok-form-3.ensures.0 ∙ ap (λ form. with_rule form (threshold_rule (codes "branches"))) second in
    IfOk-weaker c.with_threshold-4.result _ _
    (λ form is. (is.0 ∙ ap (λ before. with_rule before (threshold_rule (codes "functions"))) third, is.1)) c.with_threshold-4.ensures
