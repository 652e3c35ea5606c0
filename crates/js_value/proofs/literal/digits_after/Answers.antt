use Rattle.std.proofs.Common.{◌≡◌, ◌==◌, take, get_or, true, false, ap, sym, ◌∙◌, arith}
use Rattle.std.specs.Str.Parse.{digits_value_after}
use Rattle.std.proofs.lemmas.Bool.Decides.{nat_tests}
use Rattle.js_value.specs.Numbers.{without_separators}
use Rattle.js_value.specs.private.Capped.{capped}
use Rattle.js_value.proofs.DigitsLemmas.{capped_step}
use Rattle.js_value.proofs.SeparatedLemmas.{value-stays, without-take_passes}
use Rattle.js_value.proofs.literal.digits_after.Goals as goal
use Rattle.js_value.proofs.literal.digits_after.Goals.{then-byte-ne95, else-byte-ne95}

pub loop-byte-preserved : goal.loop-byte-preserved
loop-byte-preserved c =
    let i = c.loop-byte.byte-index in
    let bytes = c.args.bytes.now in
    elim c.if-byte-ne95.branch [
      | then-byte-ne95 w ↦ (
          let other : (get_or bytes i 0 == 0x5F) ≡ false = grind (arith, nat_tests) in
          let more = value-stays c.args.base c.args.before bytes i c.loop-byte-test.true other in
          let step = capped_step (digits_value_after c.args.base c.args.before (without_separators (take i bytes))) c.args.base w.digit_value.result in
          cc (more, step))
      | else-byte-ne95 w ↦ (
          let same : (get_or bytes i 0 == 0x5F) ≡ true = grind (arith, nat_tests) in
          w.total-is ∙ c.loop-byte.invariant ∙ ap (λ ds. capped (digits_value_after c.args.base c.args.before ds)) (sym (without-take_passes bytes i c.loop-byte-test.true same)))
    ]
