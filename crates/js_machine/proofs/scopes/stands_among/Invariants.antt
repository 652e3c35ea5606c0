use Rattle.std.proofs.Common.{◌≡◌, drop}
use Rattle.js_meaning.specs.Scopes.{stands_in}
use Rattle.js_machine.proofs.scopes.stands_among.Given as goal

abbrev pub invariant-loop-other : goal.invariant-loop-other
invariant-loop-other l = stands_in l.name (drop l.other-index l.names) ≡ stands_in l.name l.names
