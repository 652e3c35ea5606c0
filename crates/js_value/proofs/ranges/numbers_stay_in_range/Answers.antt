use Rattle.js_value.proofs.RangesLemmas.{literals, conversions, binary_in, unary_in, steps}
use Rattle.js_value.proofs.ranges.numbers_stay_in_range.Goals as goal

pub returns : goal.returns
returns c = record {
  literals = literals;
  conversions = conversions;
  binary = binary_in;
  unary = unary_in;
  steps = steps;
}
