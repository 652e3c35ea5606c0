use Rattle.std.proofs.Common.{refl}
use Rattle.clap.proofs.OnLiterals.{clap_on_literals}
use Rattle.cov_words.proofs.rows.worked_words.Goals as goal

pub returns-clause-help_alone : goal.returns-clause-help_alone
unfolding clap_on_literals
returns-clause-help_alone c = refl

pub returns-clause-maps : goal.returns-clause-maps
unfolding clap_on_literals
returns-clause-maps c = refl

pub returns-clause-exec : goal.returns-clause-exec
unfolding clap_on_literals
returns-clause-exec c = refl

pub returns-clause-instruments : goal.returns-clause-instruments
unfolding clap_on_literals
returns-clause-instruments c = refl

pub returns-clause-runs : goal.returns-clause-runs
unfolding clap_on_literals
returns-clause-runs c = refl

pub returns-clause-demos : goal.returns-clause-demos
unfolding clap_on_literals
returns-clause-demos c = refl

pub returns-clause-merges : goal.returns-clause-merges
unfolding clap_on_literals
returns-clause-merges c = refl

pub returns-clause-reports : goal.returns-clause-reports
unfolding clap_on_literals
returns-clause-reports c = refl

pub returns-clause-checks : goal.returns-clause-checks
unfolding clap_on_literals
returns-clause-checks c = refl

pub returns-clause-v8s : goal.returns-clause-v8s
unfolding clap_on_literals
returns-clause-v8s c = refl

pub returns-clause-no_reading : goal.returns-clause-no_reading
unfolding clap_on_literals
returns-clause-no_reading c = refl
