-- The session is that of the file that is made; its output and its sums make the answer.
use Rattle.std.proofs.Common.{◌≡◌, ◌∙◌, sym, subst}
use Rattle.std.specs.Prelude.{Err}
use Rattle.cov_run.specs.Session.{Leaves}
use Rattle.cov_run.specs.declared.fault.LoadFault.TheVariants as fault
use Rattle.cov_words.specs.declared.command.SourceTask.TheVariants.{Demo}
use Rattle.cov_commands.specs.Demo.{demo_turns}
use Rattle.cov_commands.specs.Source.{ComesTo}
use Rattle.cov_commands.proofs.Answered.{demo_answer, demo_unshown, never_unread, wants}
use Rattle.cov_commands.proofs.demo.demo.Goals as goal

pub returns-in_default-clause-comes : goal.returns-in_default-clause-comes
returns-in_default-clause-comes c = λ told. wants c.args.path.now told (Demo c.args.seed c.args.count)

pub returns-in-Ok-summed-clause-comes : goal.returns-in-Ok-summed-clause-comes
returns-in-Ok-summed-clause-comes c = λ told.
    let left = c.in-Ok-session.left in
    demo_answer c.args.path.now told c.in-Ok-summed.answer (subst (λ s. Leaves s demo_turns left.end left.output left.coverage) c.in-Ok.ensures c.in-Ok-session.ensures.left) c.in-Ok-summed.ensures

pub returns-in-Ok-session-clause-comes : goal.returns-in-Ok-session-clause-comes
returns-in-Ok-session-clause-comes c = λ told. wants c.args.path.now told (Demo c.args.seed c.args.count)

pub returns-clause-comes : goal.returns-clause-comes
returns-clause-comes c = λ told.
    subst (λ f. ComesTo c.args.path.now told (Demo c.args.seed c.args.count) (Err f)) (sym c.unshown.ensures)
    (demo_unshown c.args.path.now c.args.seed c.args.count told demo_turns c.in-Err.fault c.in-Ok.ensures c.in-Err.ensures.fault)

pub returns-clause-read : goal.returns-clause-read
returns-clause-read c = λ at is.
    let same : c.unshown.result ≡ fault.ReadFault at = cc in
    never_unread at c.in-Err.fault (sym c.unshown.ensures ∙ same)
