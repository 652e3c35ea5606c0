use Rattle.std.proofs.Common.{◌≡◌, fold, map, drop}
use Rattle.cov_merge.specs.Sums.{added, summed}
use Rattle.cov_merge.specs.Entries.{entries_of}
use Rattle.cov_merge.specs.private.Table.{tallies_of, AreFound}
use Rattle.cov_merge.proofs.entries.sum_up.Given as goal

-- with the files that are left, the sums are those of all
abbrev pub invariant-loop-file : goal.invariant-loop-file
invariant-loop-file g l = record {
  found : AreFound g.T.Counted.kind g.T.Counted.order l.places (tallies_of l.tallies.items);
  rest : fold (added g.T.Counted.kind) (tallies_of l.tallies.items) (entries_of g.T.Counted.kind (map (λ file. file.now) (drop l.file-index l.files)))
      ≡ summed g.T.Counted.kind (entries_of g.T.Counted.kind (map (λ file. file.now) l.files));
}
