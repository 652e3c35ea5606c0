use Rattle.std.proofs.Common.{◌≡◌, length}
use Rattle.cov_remap.specs.SourcePath.{has_scheme}
use Rattle.cov_remap.proofs.path.has_scheme.Given as goal

abbrev pub invariant-bytes : goal.invariant-bytes
invariant-bytes l = has_scheme l.rest ≡ has_scheme l.text

abbrev pub decreases-bytes : goal.decreases-bytes
decreases-bytes l = length l.rest
