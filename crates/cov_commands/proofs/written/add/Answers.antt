-- Why a file ends the work.
use Rattle.std.proofs.Common.{subst, arith}
use Rattle.cov_run.specs.Loaded.{map_wanting}
use Rattle.cov_commands.specs.Instrument.{HoldsSource, here, too_many}
use Rattle.cov_commands.proofs.Texts.{written_source}
use Rattle.cov_commands.proofs.written.add.Goals as goal
use Rattle.cov_commands.proofs.written.add.Goals.{in-Ok-push, in-Err-push}

pub returns-in-Err-clause-stops : goal.returns-in-Err-clause-stops
returns-in-Err-clause-stops g c = λ files. here c.in-Err.ensures.unread

pub returns-then-len-ge-MOST_SOURCES-clause-stops : goal.returns-then-len-ge-MOST_SOURCES-clause-stops
returns-then-len-ge-MOST_SOURCES-clause-stops g c = λ files.
    let told = g.S.Store.held c.args.store.now in
    too_many (subst (HoldsSource told) c.in-Ok.ensures.file (written_source told c.in-Ok.written c.in-Ok.ensures.written))
    (omega (arith, c.args.list.now.ok.0, c.len.ensures, c.if-len-ge-MOST_SOURCES.true))

pub returns-clause-stops : goal.returns-clause-stops
returns-clause-stops g c = elim c.match-push.branch [
  | in-Ok-push w ↦ rw w.result-is tt
  | in-Err-push w ↦ rw w.result-is (λ files. here map_wanting)
]
