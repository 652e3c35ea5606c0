use Rattle.std.proofs.Common.{◌≡◌, map, drop}
use Rattle.std.specs.List.{list_all}
use Rattle.std.specs.Option.{option_eq}
use Rattle.cov_merge.specs.Same.{same_text}
use Rattle.cov_merge.proofs.file.have_hash.Given as goal

-- whether all of them do is left to the files that are left
abbrev pub invariant-loop-file : goal.invariant-loop-file
invariant-loop-file l =
    list_all (λ file. option_eq same_text l.hash file.hash) (map (λ file. file.now) (drop l.file-index l.files))
    ≡ list_all (λ file. option_eq same_text l.hash file.hash) (map (λ file. file.now) l.files)
