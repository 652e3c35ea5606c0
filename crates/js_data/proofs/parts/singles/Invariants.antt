use Rattle.std.proofs.Common.{◌≡◌, take}
use Rattle.js_value.specs.OnData.{singles}
use Rattle.js_data.proofs.parts.singles.Given as goal

abbrev pub invariant-loop-unit : goal.invariant-loop-unit
invariant-loop-unit l = l.parts ≡ singles (take l.unit-index l.units)
