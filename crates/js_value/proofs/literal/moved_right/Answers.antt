use Rattle.std.proofs.Common.{◌≡◌, ◌-◌, ◌*◌, ◌^◌, true, false, Some, drop, ap, sym, ◌∙◌, arith}
use Rattle.std.specs.List.{list_all}
use Rattle.std.specs.Str.Parse.{digits_value, digits_value_after}
use Rattle.js_value.specs.private.Capped.{capped}
use Rattle.js_value.specs.Numbers.{without_separators}
use Rattle.js_value.proofs.PointLemmas.{is_zero, right_none, right_some}
use Rattle.js_value.proofs.literal.moved_right.Goals as goal

pub returns-then-not-are_zeros : goal.returns-then-not-are_zeros
returns-then-not-are_zeros c = λ size same.
    let cut : list_all is_zero (drop c.min-shift.result (without_separators c.args.fraction.now)) ≡ false = ap (list_all is_zero) (sym c.split_at_digit.ensures.cut) ∙ sym c.are_zeros.ensures ∙ c.if-not-are_zeros.true in
    right_none (without_separators c.args.whole.now) (without_separators c.args.fraction.now) size c.args.places c.min-shift.result c.requires.fraction_digits (omega arith) same (omega arith) cut

pub returns : goal.returns
returns c = λ size same.
    let cut : list_all is_zero (drop c.min-shift.result (without_separators c.args.fraction.now)) ≡ true = ap (list_all is_zero) (sym c.split_at_digit.ensures.cut) ∙ sym c.are_zeros.ensures ∙ c.if-not-are_zeros.false in
    let digits = c.digits_after-digits.ensures
    ∙ ap (λ n. capped (digits_value_after 10 n (without_separators c.split_at_digit.result.0.now))) c.digits_after.ensures
    ∙ ap (λ ds. capped (digits_value_after 10 (capped (digits_value 10 (without_separators c.args.whole.now))) ds)) c.split_at_digit.ensures.kept in
    ap Some (c.with_zeros.ensures ∙ ap (λ n. capped (n * 10 ^ (c.args.places - c.min-shift.result))) digits)
    ∙ right_some (without_separators c.args.whole.now) (without_separators c.args.fraction.now) size c.args.places c.min-shift.result c.requires.fraction_digits (omega arith) same (omega arith) cut
