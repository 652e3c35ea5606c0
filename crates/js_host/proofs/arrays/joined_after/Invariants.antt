use Rattle.std.proofs.Common.{◌≡◌, drop, map}
use Rattle.js_value.specs.OnData.{joined_after}
use Rattle.js_value.specs.OnObjects.{joining}
use Rattle.js_host.proofs.arrays.joined_after.Given as goal

abbrev pub invariant-loop-element : goal.invariant-loop-element
invariant-loop-element l =
    joined_after l.units.items l.separator (map joining (drop l.element-index l.elements)) ≡ joined_after l.before l.separator (map joining l.elements)
