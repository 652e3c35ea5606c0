use Rattle.std.proofs.Common.{map, take}
use Rattle.cov_merge.proofs.OntoLemmas.{AreOnto}
use Rattle.cov_merge.proofs.onto.with_files.Given as goal

-- the files so far are in
abbrev pub invariant-loop-file : goal.invariant-loop-file
invariant-loop-file l = AreOnto l.fn.sums (map (λ file. file.now) (take l.file-index l.files)) l.sums
