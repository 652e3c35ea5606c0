use Rattle.std.proofs.Common.{◌≡◌, drop, map}
use Rattle.js_value.specs.Arguments.{seen}
use Rattle.js_value.specs.OnData.{greatest}
use Rattle.js_data.proofs.math.greatest.Given as goal

abbrev pub invariant-loop-value : goal.invariant-loop-value
invariant-loop-value l = greatest l.greatest (map seen (drop l.value-index l.values)) ≡ greatest l.first (map seen l.values)
