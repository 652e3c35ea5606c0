use Rattle.std.proofs.Common.{◌≡◌, length, take, drop, ap, ◌∙◌, arith}
use Rattle.js_value.specs.Numbers.{without_separators}
use Rattle.js_value.proofs.SeparatedLemmas.{kept_at, cut_at}
use Rattle.js_value.proofs.literal.place_of_digit.Goals as goal

pub returns-then-left-eq0-clause-kept : goal.returns-then-left-eq0-clause-kept
returns-then-left-eq0-clause-kept c =
    let bytes = c.args.bytes.now in
    let passed : length (without_separators (take c.loop-byte.byte-index bytes)) ≡ c.args.digits = omega (arith, c.loop-byte.invariant.1) in
    ap (λ i. without_separators (take i bytes)) c.loop-byte.invariant.0 ∙ kept_at bytes c.loop-byte.byte-index c.args.digits passed

pub returns-then-left-eq0-clause-cut : goal.returns-then-left-eq0-clause-cut
returns-then-left-eq0-clause-cut c =
    let bytes = c.args.bytes.now in
    let passed : length (without_separators (take c.loop-byte.byte-index bytes)) ≡ c.args.digits = omega (arith, c.loop-byte.invariant.1) in
    ap (λ i. without_separators (drop i bytes)) c.loop-byte.invariant.0 ∙ cut_at bytes c.loop-byte.byte-index c.args.digits passed
