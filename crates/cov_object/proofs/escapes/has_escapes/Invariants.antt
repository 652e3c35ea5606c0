-- None so far has an escape.
use Rattle.std.proofs.Common.{◌≡◌, false, take}
use Rattle.std.specs.List.{list_any}
use Rattle.cov_object.specs.private.Escapes.{is_escaped}
use Rattle.cov_object.proofs.escapes.has_escapes.Given as goal

abbrev pub invariant-loop-byte : goal.invariant-loop-byte
invariant-loop-byte l = list_any is_escaped (take l.byte-index l.text) ≡ false
