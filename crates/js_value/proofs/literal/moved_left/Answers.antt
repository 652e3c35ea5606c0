use Rattle.std.proofs.Common.{◌≡◌, ◌&&◌, Bool, true, false, Some, drop, refl, ap, sym, ◌∙◌, arith}
use Rattle.std.specs.List.{list_all}
use Rattle.std.specs.Str.Parse.{digits_value}
use Rattle.js_value.specs.private.Capped.{capped}
use Rattle.js_value.specs.Numbers.{without_separators}
use Rattle.js_value.proofs.PointLemmas.{is_zero, left_none, left_some}
use Rattle.js_value.proofs.literal.moved_left.Goals as goal
use Rattle.js_value.proofs.literal.moved_left.Goals.{else-are_zeros-via-then-are_zeros+else-are_zeros-2, else-are_zeros-via-else-are_zeros}

both : (a b : Bool) → a ≡ true → b ≡ true → (a && b) ≡ true
both a b p q = rw (p, q) refl

first_false : (a b : Bool) → a ≡ false → (a && b) ≡ false
first_false a b p = rw p refl

second_false : (a b : Bool) → b ≡ false → (a && b) ≡ false
second_false true b p = p
second_false false b p = refl

pub returns-then-are_zeros-2 : goal.returns-then-are_zeros-2
returns-then-are_zeros-2 c = λ size same.
    let cut : list_all is_zero (drop c.saturating_sub-point.result (without_separators c.args.whole.now)) ≡ true = ap (list_all is_zero) (sym c.split_at_digit.ensures.cut) ∙ sym c.are_zeros.ensures ∙ c.if-are_zeros.true in
    let fraction : list_all is_zero (without_separators c.args.fraction.now) ≡ true = sym c.are_zeros-then-are_zeros.ensures ∙ c.if-are_zeros-2.true in
    ap Some (c.digits_after.ensures ∙ ap (λ ds. capped (digits_value 10 ds)) c.split_at_digit.ensures.kept)
    ∙ left_some (without_separators c.args.whole.now) (without_separators c.args.fraction.now) size c.args.places c.saturating_sub-point.result c.requires.whole_digits c.requires.fraction_digits (omega arith) same (omega arith) (both _ _ cut fraction)

pub returns-else-are_zeros : goal.returns-else-are_zeros
returns-else-are_zeros c = λ size same.
    let back = ap (list_all is_zero) (sym c.split_at_digit.ensures.cut) ∙ sym c.are_zeros.ensures in
    let none = left_none (without_separators c.args.whole.now) (without_separators c.args.fraction.now) size c.args.places c.saturating_sub-point.result c.requires.whole_digits c.requires.fraction_digits (omega arith) same (omega arith) in
    let cut = list_all is_zero (drop c.saturating_sub-point.result (without_separators c.args.whole.now)) in
    let fraction = list_all is_zero (without_separators c.args.fraction.now) in
    elim c.else-are_zeros.branch [
      | else-are_zeros-via-then-are_zeros+else-are_zeros-2 w ↦ none (second_false cut fraction (sym w.are_zeros-then-are_zeros.ensures ∙ w.if-are_zeros-2.false))
      | else-are_zeros-via-else-are_zeros w ↦ none (first_false cut fraction (back ∙ w.if-are_zeros.false))
    ]
