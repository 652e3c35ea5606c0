use Rattle.std.proofs.Common.{◌≡◌, ◌∷◌, false, map}
use Rattle.cov_object.specs.private.Formed.{AreFormed}
use Rattle.cov_object.proofs.WriteLemmas.{begun, is_later}
use Rattle.cov_object.proofs.write.write_json.Given as goal

-- the text so far is that of the files so far, without the closing brace
abbrev pub invariant-loop-file : goal.invariant-loop-file
invariant-loop-file l = record {
  text : l.out.items ≡ 123 ∷ begun false (map (λ file. file.now) l.yielded);
  comma : l.later ≡ is_later false (map (λ file. file.now) l.yielded);
  formed : AreFormed (map (λ file. file.now) l.yielded);
}
