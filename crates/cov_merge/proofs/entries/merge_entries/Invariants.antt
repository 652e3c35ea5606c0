use Rattle.std.proofs.Common.{◌≡◌, ◌++◌, Ok, drop}
use Rattle.cov_merge.specs.Answer.{and_then}
use Rattle.cov_merge.specs.Entries.{totals}
use Rattle.cov_merge.specs.private.Table.{tallies_of}
use Rattle.cov_merge.proofs.entries.merge_entries.Given as goal

-- with those that are left, the entries are all
abbrev pub invariant-loop-tally : goal.invariant-loop-tally
invariant-loop-tally g l =
    and_then (totals g.T.Counted.kind l.path (tallies_of (drop l.tally-index l.tally-items))) (λ rest. Ok (l.entries ++ rest))
    ≡ totals g.T.Counted.kind l.path (tallies_of l.tally-items)
