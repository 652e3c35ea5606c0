-- The run is that of the file, with all the steps.
use Rattle.std.proofs.Common.{Err, refl, ap}
use Rattle.cov_run.proofs.Counting.{has_left, has_left_none}
use Rattle.cov_run.proofs.sessions.ended.Goals as goal

pub returns-in-Ok : goal.returns-in-Ok
returns-in-Ok c = λ p path begins.
    has_left p path c.args.steps c.args.machine c.run.new.self c.in_ok-end.end begins c.in_ok-end.ensures.goes c.run.ensures.given _ refl c.into_output.ensures c.in-Ok.ensures.coverage

pub returns-in-Err-NotCoverage : goal.returns-in-Err-NotCoverage
returns-in-Err-NotCoverage c = λ p path begins.
    has_left_none p path c.args.steps c.args.machine c.run.new.self c.in_ok-end.end begins c.in_ok-end.ensures.goes c.run.ensures.given (c.in-Err-NotCoverage.ensures.none (ap Err c.in-Err-NotCoverage.field-0-is))
