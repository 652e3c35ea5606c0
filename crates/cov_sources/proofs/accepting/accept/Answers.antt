-- What is said of the text is said of the bytes, which it is.
use Rattle.std.proofs.Common.{◌≡◌, IfOk, IfErr, subst}
use Rattle.js_tree.specs.Tree.{plain_file}
use Rattle.cov_sources.specs.Refused.{HasOnly, IsRefused}
use Rattle.cov_sources.proofs.Unaccepted.{none_accepted, unaccepted}
use Rattle.cov_sources.proofs.accepting.accept.Goals as goal

pub returns-in-Ok-clause-only : goal.returns-in-Ok-clause-only
returns-in-Ok-clause-only c =
    let same : c.in-Ok.text ≡ c.args.bytes.items = subst (λ answer. IfOk answer (λ text. text ≡ c.args.bytes.items)) c.in-Ok.is c.in_ok-text.ensures.text in
    subst (λ bytes. IfOk c.with_tree.result (λ answer. IfOk answer (λ source. HasOnly bytes (plain_file source.1)))) same c.with_tree.ensures.only

pub returns-in-Ok-clause-no_source : goal.returns-in-Ok-clause-no_source
returns-in-Ok-clause-no_source c =
    let same : c.in-Ok.text ≡ c.args.bytes.items = subst (λ answer. IfOk answer (λ text. text ≡ c.args.bytes.items)) c.in-Ok.is c.in_ok-text.ensures.text in
    none_accepted c.args.bytes.items c.with_tree.result
    (subst (λ bytes. IfOk c.with_tree.result (λ answer. IfErr answer (λ why. IsRefused why bytes))) same c.with_tree.ensures.refused)

pub returns-in-Err-clause-no_source : goal.returns-in-Err-clause-no_source
returns-in-Err-clause-no_source c =
    unaccepted c.in-Err.why c.args.bytes.items (subst (λ answer. IfErr answer (λ why. IsRefused why c.args.bytes.items)) c.in-Err.is c.in_ok-text.ensures.refused)
