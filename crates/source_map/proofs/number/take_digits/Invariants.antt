use Rattle.std.proofs.Common.{◌≡◌, ◌<◌, ◌^◌, length}
use Rattle.source_map.specs.private.Numbers.{taken}
use Rattle.source_map.proofs.number.take_digits.Given as goal

abbrev pub invariant-digits : goal.invariant-digits
invariant-digits l = record {
  low : l.value < 2 ^ 33;
  light : l.weight < 2 ^ 40;
  rest : taken l.value l.weight l.rest ≡ taken 0 1 l.bytes;
}

abbrev pub decreases-digits : goal.decreases-digits
decreases-digits l = length l.rest
