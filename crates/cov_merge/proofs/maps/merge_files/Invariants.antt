use Rattle.std.proofs.Common.{◌≡◌, [], take, map, fold}
use Rattle.cov_merge.specs.Maps.{with_file}
use Rattle.cov_merge.specs.private.Groups.{groups_of}
use Rattle.cov_merge.proofs.maps.merge_files.Given as goal

abbrev pub invariant-loop-file : goal.invariant-loop-file
invariant-loop-file l = groups_of l.groups.entries ≡ fold with_file [] (map (λ file. file.now) (take l.file-index l.files))
