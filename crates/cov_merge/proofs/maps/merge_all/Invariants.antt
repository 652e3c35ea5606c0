use Rattle.std.proofs.Common.{◌≡◌, fold, drop}
use Rattle.std.specs.List.{flat_map}
use Rattle.cov_merge.specs.Maps.{with_file, by_path}
use Rattle.cov_merge.specs.private.Groups.{groups_of}
use Rattle.cov_merge.proofs.maps.merge_all.Given as goal

-- with the maps that are left, the files are those of all
abbrev pub invariant-loop-map : goal.invariant-loop-map
invariant-loop-map l = fold with_file (groups_of l.groups.entries) (flat_map (λ map. map) (drop l.map-index l.maps)) ≡ by_path (flat_map (λ map. map) l.maps)
