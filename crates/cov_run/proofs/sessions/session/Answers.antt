-- What the run of the texts leaves is what the sources mean.
use Rattle.std.proofs.Common.{subst}
use Rattle.std.specs.Prelude.{IfOk, IfErr}
use Rattle.cov_run.specs.Session.{IsFault, Leaves}
use Rattle.cov_run.proofs.Meaning.{result_counts, result_is_meant, sessions_mean}
use Rattle.cov_run.proofs.sessions.session.Goals as goal

pub returns-clause-meant : goal.returns-clause-meant
returns-clause-meant c = λ apart within.
    result_is_meant c.args.sources.now.items c.args.steps (sessions_mean c.simulating.ensures) apart c.requires within c.run_first.result
    (subst (λ s. IfOk c.run_first.result (λ left. Leaves s c.args.steps left.end left.output left.coverage)) c.as_slice.ensures.value c.run_first.ensures.left)

pub returns-clause-counts : goal.returns-clause-counts
returns-clause-counts c = λ apart within.
    result_counts c.args.sources.now.items c.args.steps (sessions_mean c.simulating.ensures) apart c.requires within c.run_first.result
    (subst (λ s. IfErr c.run_first.result (λ f. IsFault s c.args.steps f)) c.as_slice.ensures.value c.run_first.ensures.fault)
