use Rattle.std.proofs.Common.{◌≡◌, ◌++◌, map}
use Rattle.cov_remap.specs.private.Piece.{now}
use Rattle.cov_remap.proofs.remapped.push_parts.Given as goal

abbrev pub invariant-parts : goal.invariant-parts
invariant-parts l = map now l.pieces.items ≡ map now l.initial.pieces.items ++ l.yielded
