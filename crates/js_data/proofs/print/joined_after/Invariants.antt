use Rattle.std.proofs.Common.{◌≡◌, drop, map}
use Rattle.js_value.specs.Arguments.{seen}
use Rattle.js_value.specs.OnData.{joined_after}
use Rattle.js_data.proofs.print.joined_after.Given as goal

abbrev pub invariant-loop-value : goal.invariant-loop-value
invariant-loop-value l =
    joined_after l.units.items l.separator (map seen (drop l.value-index l.values)) ≡ joined_after l.before l.separator (map seen l.values)
