use Rattle.std.proofs.Common.{◌≡◌, drop}
use Rattle.js_names.specs.Name.{numeral}
use Rattle.js_names.proofs.name.numeral.Given as goal

-- the number of what is behind
abbrev pub invariant-loop-index : goal.invariant-loop-index
invariant-loop-index l = l.number ≡ numeral (drop l.index l.bytes)
