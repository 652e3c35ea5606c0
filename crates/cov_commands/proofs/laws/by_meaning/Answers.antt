use Rattle.cov_commands.proofs.Meanings.{acts_are_meant, demos_are_meant, runs_are_meant}
use Rattle.cov_commands.proofs.laws.by_meaning.Goals as goal

pub returns-clause-runs : goal.returns-clause-runs
returns-clause-runs c = runs_are_meant c.sessions_mean.ensures c.programs.ensures.apart

pub returns-clause-demos : goal.returns-clause-demos
returns-clause-demos c = demos_are_meant c.sessions_mean.ensures c.programs.ensures.apart

pub returns-clause-acts : goal.returns-clause-acts
returns-clause-acts c = acts_are_meant c.sessions_mean.ensures c.programs.ensures.apart c.simulating.ensures
