use Rattle.std.proofs.Common.{◌≡◌, [], drop}
use Rattle.cov_merge.specs.Maps.{merged_groups}
use Rattle.cov_merge.specs.private.Groups.{groups_of}
use Rattle.cov_merge.proofs.maps.merge_list.Given as goal

-- with the groups that are left, the map is that of all
abbrev pub invariant-loop-path : goal.invariant-loop-path
invariant-loop-path l = merged_groups l.map (groups_of (drop l.path-index l.groups)) ≡ merged_groups [] (groups_of l.groups)
