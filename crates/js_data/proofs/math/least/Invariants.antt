use Rattle.std.proofs.Common.{◌≡◌, drop, map}
use Rattle.js_value.specs.Arguments.{seen}
use Rattle.js_value.specs.OnData.{least}
use Rattle.js_data.proofs.math.least.Given as goal

abbrev pub invariant-loop-value : goal.invariant-loop-value
invariant-loop-value l = least l.least (map seen (drop l.value-index l.values)) ≡ least l.first (map seen l.values)
