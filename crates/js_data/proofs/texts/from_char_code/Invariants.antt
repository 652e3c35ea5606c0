use Rattle.std.proofs.Common.{◌≡◌, [], drop, map}
use Rattle.js_value.specs.Arguments.{seen}
use Rattle.js_value.specs.OnData.{units_of}
use Rattle.js_data.proofs.texts.from_char_code.Given as goal

abbrev pub invariant-loop-value : goal.invariant-loop-value
invariant-loop-value l = units_of l.units.items (map seen (drop l.value-index l.arguments)) ≡ units_of [] (map seen l.arguments)
