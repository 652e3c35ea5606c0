use Rattle.cov_run.proofs.Sources.{all_are_read, begins_with_entry, one_run}
use Rattle.cov_run.proofs.Apart.{loaded_apart}
use Rattle.cov_run.proofs.Outcomes.{one_outcome, refuses}
use Rattle.cov_run.proofs.OneSession.{one_coverage, one_session, refuses_none}
use Rattle.cov_run.proofs.laws.programs.Goals as goal

pub returns-clause-one_outcome : goal.returns-clause-one_outcome
returns-clause-one_outcome c = one_outcome

pub returns-clause-begins : goal.returns-clause-begins
returns-clause-begins c = begins_with_entry

pub returns-clause-all_are_read : goal.returns-clause-all_are_read
returns-clause-all_are_read c = all_are_read

pub returns-clause-one_run : goal.returns-clause-one_run
returns-clause-one_run c = one_run

pub returns-clause-one_session : goal.returns-clause-one_session
returns-clause-one_session c = one_session

pub returns-clause-one_coverage : goal.returns-clause-one_coverage
returns-clause-one_coverage c = one_coverage

pub returns-clause-refuses_none : goal.returns-clause-refuses_none
returns-clause-refuses_none c = refuses_none

pub returns-clause-refuses : goal.returns-clause-refuses
returns-clause-refuses c = refuses

pub returns-clause-apart : goal.returns-clause-apart
returns-clause-apart c = loaded_apart
