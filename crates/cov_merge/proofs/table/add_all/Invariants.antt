use Rattle.std.proofs.Common.{◌≡◌, fold, map, drop}
use Rattle.cov_merge.specs.Sums.{added}
use Rattle.cov_merge.specs.private.Table.{tallies_of, AreFound}
use Rattle.cov_merge.proofs.table.add_all.Given as goal

-- with the entries that are left, the sums are those of all
abbrev pub invariant-loop-entry : goal.invariant-loop-entry
invariant-loop-entry g l = record {
  found : AreFound g.T.Counted.kind g.T.Counted.order l.places (tallies_of l.tallies.items);
  rest : fold (added g.T.Counted.kind) (tallies_of l.tallies.items) (map (λ entry. entry.1) (drop l.entry-index l.entries))
      ≡ fold (added g.T.Counted.kind) (tallies_of l.fn.tallies.items) (map (λ entry. entry.1) l.entries);
}
