-- What is found is the first of those that came.
use Rattle.std.proofs.Common.{◌≡◌, drop}
use Rattle.js_scopes.specs.Order.{first}
use Rattle.js_scopes.proofs.faults.Faults.first.Given as goal

abbrev pub invariant-loop-index : goal.invariant-loop-index
invariant-loop-index l = l.found ≡ first (drop l.index l.list)
