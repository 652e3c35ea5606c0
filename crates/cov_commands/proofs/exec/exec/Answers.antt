-- The sources are those that the file is loaded from, and their run is its answer.
use Rattle.std.proofs.Common.{[], sym, subst}
use Rattle.cov_run.specs.Exec.{AreRead, EndsAs, IsFirst}
use Rattle.cov_run.proofs.Sources.{all_are_read, begins_with_entry}
use Rattle.cov_commands.specs.Source.{unloaded}
use Rattle.cov_commands.proofs.Answered.{exec_answer, wants}
use Rattle.cov_words.specs.declared.command.SourceTask.TheVariants.{Exec}
use Rattle.cov_commands.proofs.exec.exec.Goals as goal

pub run_of-requires-clause-first : goal.run_of-requires-clause-first
run_of-requires-clause-first g c =
    subst (IsFirst c.args.path.now) (sym c.as_slice.ensures.value) (begins_with_entry (g.S.Store.held c.args.store.now) c.args.path.now [] c.in-Ok.sources.items c.in-Ok.ensures.sources)

pub run_of-requires-clause-read : goal.run_of-requires-clause-read
run_of-requires-clause-read g c = subst AreRead (sym c.as_slice.ensures.value) (all_are_read (g.S.Store.held c.args.store.now) c.args.path.now [] c.in-Ok.sources.items c.in-Ok.ensures.sources)

pub returns-in-Ok-run_of-clause-comes : goal.returns-in-Ok-run_of-clause-comes
returns-in-Ok-run_of-clause-comes g c =
    exec_answer c.args.path.now (g.S.Store.held c.args.store.now) c.in-Ok.ensures.sources
    (subst (λ s. EndsAs s c.args.path.now c.args.turns c.in-Ok-run_of.answer.end c.in-Ok-run_of.answer.output) c.as_slice.ensures.value c.in-Ok-run_of.ensures.ends) c.in-Ok-run_of.ensures.none

pub returns-in-Ok-clause-comes : goal.returns-in-Ok-clause-comes
returns-in-Ok-clause-comes g c = wants c.args.path.now (g.S.Store.held c.args.store.now) (Exec c.args.turns)

pub returns-clause-comes : goal.returns-clause-comes
returns-clause-comes g c = unloaded c.in-Err.ensures.fault
