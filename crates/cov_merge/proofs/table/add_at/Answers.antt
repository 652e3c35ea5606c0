use Rattle.cov_merge.proofs.Places.{set-added_at}
use Rattle.cov_merge.proofs.table.add_at.Goals as goal

pub returns : goal.returns
returns g c =
    set-added_at c.args.tallies.now.items c.args.place c.index_mut-tally.result.now c.add_to.new.sums (g.T.Counted.kind.counts c.args.entry.now) c.index_mut-tally.ensures.value c.add_to.ensures
