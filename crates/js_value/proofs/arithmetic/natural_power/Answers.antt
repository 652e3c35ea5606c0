use Rattle.std.proofs.Common.{Some, unsigned_abs, w64, ap, sym, ◌∙◌, arith}
use Rattle.std.proofs.lemmas.Int.{to_z-of_z}
use Rattle.std.specs.Int.{int_pow}
use Rattle.js_value.proofs.PowerLemmas.{small_ranged, power_past}
use Rattle.js_value.proofs.arithmetic.natural_power.Goals as goal

pub returns-then-unsigned_abs-lt2 : goal.returns-then-unsigned_abs-lt2
returns-then-unsigned_abs-lt2 c =
    let same = to_z-of_z w64 c.args.base c.ranges.base in
    let size = c.unsigned_abs.ensures.value ∙ ap unsigned_abs same in
    let given = to_z-of_z w64 c.small_power.result (record { sfits = c.small_power.type_inv }) in
    ap Some (given ∙ c.small_power.ensures ∙ ap (λ b. int_pow b c.args.exponent) same)
    ∙ small_ranged c.args.base c.args.exponent (omega (arith, size))

pub returns-then-exponent-gt52 : goal.returns-then-exponent-gt52
returns-then-exponent-gt52 c =
    let size = c.unsigned_abs.ensures.value ∙ ap unsigned_abs (to_z-of_z w64 c.args.base c.ranges.base) in
    sym (power_past c.args.base c.args.exponent (omega (arith, size)) (omega arith))
