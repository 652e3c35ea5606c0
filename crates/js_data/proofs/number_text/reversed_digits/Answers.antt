use Rattle.std.proofs.Common.{◌≡◌, ◌-◌, ◌%◌, ◌∷◌, [], reverse, ap, sym, ◌∙◌}
use Rattle.std.proofs.lemmas.List.{reverse-append}
use Rattle.js_value.specs.OnData.{digit_unit}
use Rattle.js_data.proofs.Steps.{digits_step, digit_last, digits_none, less, not_less}
use Rattle.js_data.proofs.number_text.reversed_digits.Goals as goal
use Rattle.js_data.proofs.number_text.reversed_digits.Goals.{else-loop-test, then-loop-test+then-left-radix}

pub loop-preserved : goal.loop-preserved
loop-preserved c =
    let more = not_less c.loop.left c.args.radix c.if-left-radix.false in
    digits_step 64 c.loop.counter c.args.radix c.loop.left (reverse c.loop.units.items) (reverse c.put.new.units.items) _ c.loop-test.true more
    (ap reverse c.in_ok-put.ensures ∙ reverse-append c.loop.units.items (c.digit_unit.result ∷ []) ∙ ap (λ d. d ∷ reverse c.loop.units.items) c.digit_unit.ensures)
    c.loop.invariant

pub returns : goal.returns
returns c =
    let made : reverse c.put-2.new.units.items ≡ digit_unit (c.loop.left % c.args.radix) ∷ reverse c.loop.units.items =
    ap reverse c.in_ok-put-2.ensures ∙ reverse-append c.loop.units.items (c.digit_unit-2.result ∷ []) ∙ ap (λ d. d ∷ reverse c.loop.units.items) c.digit_unit-2.ensures in
    elim c.loop-test.branch [
      | else-loop-test w ↦ made ∙ sym (digits_none 64 c.loop.counter c.args.radix c.loop.left (reverse c.loop.units.items) w.loop-test.false) ∙ c.loop.invariant
      | then-loop-test+then-left-radix w ↦
          let last = less c.loop.left c.args.radix w.if-left-radix.true in
          made ∙ sym (digit_last (64 - c.loop.counter) c.args.radix c.loop.left (reverse c.loop.units.items) last) ∙ c.loop.invariant
    ]
