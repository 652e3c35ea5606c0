use Rattle.std.proofs.Common.{◌≡◌, take, map}
use Rattle.cov_remap.specs.private.Piece.{now}
use Rattle.cov_remap.proofs.remapped.merge_pieces.Given as goal

abbrev pub invariant-loop-piece : goal.invariant-loop-piece
invariant-loop-piece l = map (λ file. file.now) l.files.items ≡ map now (take l.piece-index l.pieces)
