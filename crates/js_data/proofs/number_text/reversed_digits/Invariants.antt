use Rattle.std.proofs.Common.{◌≡◌, ◌-◌, [], reverse}
use Rattle.js_value.specs.OnData.{digits_before}
use Rattle.js_data.proofs.number_text.reversed_digits.Given as goal

abbrev pub invariant-loop : goal.invariant-loop
invariant-loop l = digits_before (64 - l.counter) l.radix l.left (reverse l.units.items) ≡ digits_before 64 l.radix l.number []
