-- The tree is the one that the text is known to have, which breaks no early rule.
use Rattle.std.proofs.Common.{◌≡◌, true, None, Some, sym, ap, ◌∙◌, subst, rules}
use Rattle.js_tree.specs.Tree.{plain_file}
use Rattle.js_scopes.specs.Accepted.{AcceptedAgain}
use Rattle.js_scopes.specs.Checks.{first_fault}
use Rattle.cov_sources.specs.Refused.{HasOnly}
use Rattle.cov_sim.proofs.ReadAgain.{that_tree}
use Rattle.cov_sim.proofs.counting.read_again.Goals as goal

pub returns-in-Ok-clause-accepted : goal.returns-in-Ok-clause-accepted
returns-in-Ok-clause-accepted c =
    let only : HasOnly c.args.text (plain_file c.in_ok-file.file) = subst (λ t. HasOnly t (plain_file c.in_ok-file.file)) c.in_ok-text.ensures c.in_ok-file.ensures.only in
    subst (AcceptedAgain c.args.text) (that_tree c.args.text c.requires.0 c.requires.1 (plain_file c.in_ok-file.file) only ∙ ap plain_file (sym c.in-Ok.ensures.file)) c.requires.1.accepted

pub returns-in-Ok-clause-only : goal.returns-in-Ok-clause-only
returns-in-Ok-clause-only c = λ other reads.
    subst (λ t. HasOnly t (plain_file c.in_ok-file.file)) c.in_ok-text.ensures c.in_ok-file.ensures.only other reads ∙ ap plain_file (sym c.in-Ok.ensures.file)

pub unreachable-requires : goal.unreachable-requires
unreachable-requires c =
    let only : HasOnly c.args.text (plain_file c.in_ok-file.file) = subst (λ t. HasOnly t (plain_file c.in_ok-file.file)) c.in_ok-text.ensures c.in_ok-file.ensures.only in
    let same = that_tree c.args.text c.requires.0 c.requires.1 (plain_file c.in_ok-file.file) only in
    let unbroken : first_fault true (plain_file c.in_ok-file.file) ≡ None = sym (ap (first_fault true) same) ∙ c.requires.1.accepted.unbroken in
    let broken : first_fault true (plain_file c.in_ok-file.file) ≡ Some c.in-Err.fault = search rules in
    let both = sym unbroken ∙ broken in cc
