use Rattle.std.proofs.Common.{◌<◌, [], length, map, subst, sym, rules}
use Rattle.cov_merge.specs.Entries.{entries_of}
use Rattle.cov_merge.specs.private.Lengths.{AreLong}
use Rattle.cov_merge.specs.private.Table.{tallies_of}
use Rattle.cov_merge.proofs.Lengths.{long-folded, long-at}
use Rattle.cov_merge.proofs.entries.merge_entries.Goals as goal

pub total_of-requires : goal.total_of-requires
total_of-requires g c =
    let kind = g.T.Counted.kind in
    let items = c.deref-tally-items.result.now in
    let index = c.loop-tally.tally-index in
    let below : index < length items = search rules in
    let long : AreLong kind (tallies_of c.in_ok-tallies.tallies.items) =
    subst (AreLong kind) (sym c.in_ok-tallies.ensures) (long-folded kind g.met.T.Counted.long [] (entries_of kind (map (λ file. file.now) c.args.files.now)) tt) in
    long-at kind items index c.tally-item.result below (sym c.tally-item.is) (subst (λ ts. AreLong kind (tallies_of ts)) (sym c.deref-tally-items.ensures.value) long)
