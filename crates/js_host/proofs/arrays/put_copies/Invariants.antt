use Rattle.std.proofs.Common.{◌≡◌, ◌++◌, take}
use Rattle.js_host.proofs.arrays.put_copies.Given as goal

abbrev pub invariant-loop-value : goal.invariant-loop-value
invariant-loop-value l = l.elements ≡ l.fn.elements ++ take l.value-index l.values
