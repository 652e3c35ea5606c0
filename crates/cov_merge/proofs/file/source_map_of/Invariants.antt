use Rattle.std.proofs.Common.{◌≡◌, map, drop}
use Rattle.cov_merge.specs.Files.{source_map_of}
use Rattle.cov_merge.proofs.file.source_map_of.Given as goal

-- the first source map is among the files that are left
abbrev pub invariant-loop-file : goal.invariant-loop-file
invariant-loop-file l = source_map_of (map (λ file. file.now) (drop l.file-index l.files)) ≡ source_map_of (map (λ file. file.now) l.files)
