use Rattle.std.proofs.Common.{◌≡◌, fold, map}
use Rattle.cov_merge.specs.Maps.{with_file}
use Rattle.cov_merge.specs.private.Groups.{groups_of}
use Rattle.cov_merge.proofs.maps.add_map.Given as goal

-- the files so far are in
abbrev pub invariant-loop-file : goal.invariant-loop-file
invariant-loop-file l = groups_of l.groups.entries ≡ fold with_file (groups_of l.fn.groups.entries) (map (λ file. file.now) l.yielded)
