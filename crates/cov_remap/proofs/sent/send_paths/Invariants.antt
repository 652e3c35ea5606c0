use Rattle.std.proofs.Common.{◌≡◌, ◌++◌, length}
use Rattle.std.specs.List.{filter_map}
use Rattle.cov_remap.specs.Sent.{send_path}
use Rattle.cov_remap.proofs.sent.send_paths.Given as goal

abbrev pub invariant-paths : goal.invariant-paths
invariant-paths l = l.sent.items ++ filter_map (send_path l.map l.number) l.rest ≡ filter_map (send_path l.map l.number) l.paths

abbrev pub decreases-paths : goal.decreases-paths
decreases-paths l = length l.rest
