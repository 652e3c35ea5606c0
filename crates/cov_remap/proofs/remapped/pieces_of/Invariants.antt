use Rattle.std.proofs.Common.{◌≡◌, [], drop, map}
use Rattle.cov_remap.specs.Remapped.{spread_all}
use Rattle.cov_remap.specs.private.Piece.{now, onto}
use Rattle.cov_remap.proofs.remapped.pieces_of.Given as goal

abbrev pub invariant-loop-file : goal.invariant-loop-file
invariant-loop-file l = onto (map now l.pieces.items) (spread_all (map (λ file. file.now) (drop l.file-index l.files))) ≡ onto [] (spread_all (map (λ file. file.now) l.files))
