use Rattle.cov_object.proofs.ReadLemmas.{all_fit-unlike}
use Rattle.cov_object.proofs.things.all_fit.Goals as goal

pub returns-then-things-counts : goal.returns-then-things-counts
returns-then-things-counts g c = all_fit-unlike g.T.Described.fits c.args.things.now c.args.counts.now c.if-things-counts.true
