use Rattle.std.proofs.Common.{◌≡◌, map}
use Rattle.cov_remap.proofs.remapped.files_of.Given as goal

-- the files so far are in
abbrev pub invariant-loop-file : goal.invariant-loop-file
invariant-loop-file l = map (λ file. file.now) l.files.items ≡ map (λ file. file.now) l.yielded
