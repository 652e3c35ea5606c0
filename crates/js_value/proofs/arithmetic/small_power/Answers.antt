use Rattle.std.proofs.Common.{◌≡◌, ◌==◌, ◌%◌, true, false, pos, int_lt, w64, ◌∙◌, arith}
use Rattle.std.proofs.lemmas.Bool.Decides.{nat_tests}
use Rattle.std.proofs.lemmas.Int.{ints, to_z-of_z}
use Rattle.js_value.proofs.PowerLemmas.{small_positive, small_even, small_odd}
use Rattle.js_value.proofs.arithmetic.small_power.Goals as goal

pub returns-then-base-ge0 : goal.returns-then-base-ge0
returns-then-base-ge0 c =
    let natural : int_lt c.args.base (pos 0) ≡ false = grind (arith, ints) in
    to_z-of_z w64 c.args.base c.ranges.base ∙ small_positive c.args.base c.args.exponent c.requires (omega arith) natural

pub returns-then-exponent-eq0-2 : goal.returns-then-exponent-eq0-2
returns-then-exponent-eq0-2 c =
    let negative : int_lt c.args.base (pos 0) ≡ true = grind (arith, ints) in
    let even : (c.args.exponent % 2 == 0) ≡ true = grind (arith, nat_tests) in
    small_even c.args.base c.args.exponent c.requires negative even

pub returns-else-exponent-eq0-2 : goal.returns-else-exponent-eq0-2
returns-else-exponent-eq0-2 c =
    let negative : int_lt c.args.base (pos 0) ≡ true = grind (arith, ints) in
    let odd : (c.args.exponent % 2 == 0) ≡ false = grind (arith, nat_tests) in
    small_odd c.args.base c.args.exponent c.requires negative odd
