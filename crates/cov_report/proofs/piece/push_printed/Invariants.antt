-- With what is left, the text is the whole.
use Rattle.std.proofs.Common.{◌≡◌, ◌++◌, drop}
use Rattle.cov_report.specs.Piece.{printed}
use Rattle.cov_report.proofs.piece.push_printed.Given as goal

abbrev pub invariant-loop-byte : goal.invariant-loop-byte
invariant-loop-byte l =
    l.out.items ++ printed (drop l.byte-index l.bytes) ≡ l.fn.out.items ++ printed l.bytes
