-- The files that stand for the sources are the program that the machine runs.
use Rattle.cov_run.specs.Exec.{program_of}
use Rattle.cov_run.specs.Session.{first_path}
use Rattle.cov_run.proofs.Counting.{faults, leaves, unmade}
use Rattle.cov_run.proofs.sessions.run_first.Goals as goal

pub ended-requires : goal.ended-requires
ended-requires c = c.in-Ok.ensures.begins.2.given

pub returns-in-Ok-clause-left : goal.returns-in-Ok-clause-left
returns-in-Ok-clause-left c =
    let begun = c.in-Ok.ensures.begins in
    leaves c.args.sources.now c.args.steps begun.0 begun.1 c.ended.result (c.ended.ensures (program_of begun.0) (first_path c.args.sources.now) begun.2)

pub returns-in-Ok-clause-fault : goal.returns-in-Ok-clause-fault
returns-in-Ok-clause-fault c =
    let begun = c.in-Ok.ensures.begins in
    faults c.args.sources.now c.args.steps begun.0 begun.1 c.ended.result (c.ended.ensures (program_of begun.0) (first_path c.args.sources.now) begun.2)

pub returns-in-Err-clause-fault : goal.returns-in-Err-clause-fault
returns-in-Err-clause-fault c = unmade c.args.sources.now c.args.steps c.in-Err.fault c.in-Err.ensures.fault
