use Rattle.js_alike.proofs.Programs.{runs_as_bare, links_as_bare, means_alike, runs_plainly_alike}
use Rattle.js_alike.proofs.alike.Goals as goal

pub returns-clause-runs : goal.returns-clause-runs
returns-clause-runs c = runs_as_bare

pub returns-clause-links : goal.returns-clause-links
returns-clause-links c = links_as_bare

pub returns-clause-means : goal.returns-clause-means
returns-clause-means c = means_alike

pub returns-clause-plainly : goal.returns-clause-plainly
returns-clause-plainly c = runs_plainly_alike
