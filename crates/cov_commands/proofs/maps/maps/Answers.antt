-- The text of the file by itself is the answer.
use Rattle.std.proofs.Common.{refl, ◌∙◌}
use Rattle.cov_run.specs.declared.fault.LoadFault.TheVariants.{ReadFault}
use Rattle.cov_run.proofs.Loading.{same_fault}
use Rattle.cov_words.specs.declared.command.SourceTask.TheVariants.{Maps}
use Rattle.cov_commands.specs.Source.{unread}
use Rattle.cov_commands.proofs.Answered.{maps_answer, wants}
use Rattle.cov_commands.proofs.maps.maps.Goals as goal

pub returns-in-Ok-printed_for-clause-comes : goal.returns-in-Ok-printed_for-clause-comes
returns-in-Ok-printed_for-clause-comes g c =
    maps_answer c.args.path.now (g.S.Store.held c.args.store.now) c.in-Ok.ensures.source (c.from_vec.ensures ∙ c.in-Ok-printed_for.ensures) refl

pub returns-in-Ok-clause-comes : goal.returns-in-Ok-clause-comes
returns-in-Ok-clause-comes g c = wants c.args.path.now (g.S.Store.held c.args.store.now) Maps

pub returns-clause-comes : goal.returns-clause-comes
returns-clause-comes g c = unread c.in-Err.ensures.fault

pub returns-clause-failed : goal.returns-clause-failed
returns-clause-failed g c = λ at is. (c.args.store.now, c.in-Err.ensures.failed at (same_fault c.in-Err.fault (ReadFault at) is))
