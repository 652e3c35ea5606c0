use Rattle.std.proofs.Common.{◌≡◌, length, map, take}
use Rattle.cov_merge.proofs.SumsLemmas.{plus_first}
use Rattle.cov_merge.proofs.sums.add_paths.Given as goal

-- the sums before the place have their counts
abbrev pub invariant-loop-place : goal.invariant-loop-place
invariant-loop-place l = l.sums.items ≡ plus_first l.place (take (length l.paths) l.fn.sums.items) (map (λ path. path.count) l.paths)
