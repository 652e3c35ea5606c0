use Rattle.std.proofs.Common.{◌≡◌, suc, ◌-◌, Some, drop, drop-cons, get_or, sym, ap, ◌∙◌, arith}
use Rattle.std.proofs.lemmas.Bool.Decides.{nat_tests}
use Rattle.js_value.specs.Key.{digit_of, digits_after, if_index}
use Rattle.js_value.proofs.KeyLemmas.{one_digit}
use Rattle.js_value.proofs.key.digits.Goals as goal

pub returns-then-number-from : goal.returns-then-number-from
returns-then-number-from c =
    let i = c.loop-unit.unit-index in
    let us = c.args.units.now in
    let u = get_or us i 0 in
    let d : digit_of u ≡ Some (u - 48) = grind (arith, nat_tests) in
    sym (ap if_index (sym c.loop-unit.invariant.same)
    ∙ ap (λ x. if_index (digits_after c.loop-unit.number x)) (drop-cons us i 0 c.loop-unit-test.true)
    ∙ one_digit c.loop-unit.number u (u - 48) (drop (suc i) us) d (omega arith))
