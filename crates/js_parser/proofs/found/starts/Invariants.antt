-- One starts there where one of the others that are left does.
use Rattle.std.proofs.Common.{◌≡◌, drop}
use Rattle.js_reading.specs.Found.{starts}
use Rattle.js_parser.proofs.found.starts.Given as goal

abbrev pub invariant-loop-other : goal.invariant-loop-other
invariant-loop-other l = starts l.fn.location l.fn.others ≡ starts l.fn.location (drop l.other-index l.fn.others)
