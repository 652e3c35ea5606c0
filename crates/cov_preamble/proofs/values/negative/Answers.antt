-- A number's text is ASCII, and has a byte.
use Rattle.std.proofs.Common.{◌≡◌, ◌≤◌, ℤ, pos, negsuc, length, SFits, w64, sym, subst, arith, rules}
use Rattle.std.specs.Str.{IsCharBoundary}
use Rattle.std.specs.Fmt.{signed_decimal}
use Rattle.std.proofs.lemmas.Fmt.{IsAscii-signed, decimal_nonempty}
use Rattle.std.proofs.lemmas.Str.{IsCharBoundary-from_ascii}
use Rattle.cov_preamble.proofs.values.negative.Goals as goal

some_byte : (z : ℤ) → SFits w64 z → 1 ≤ length (signed_decimal z)
some_byte (pos n) fits = omega (arith, decimal_nonempty n (omega arith))
some_byte (negsuc n) fits = omega arith

pub range_from-requires : goal.range_from-requires
range_from-requires c later =
    let number = c.args.number in
    let text : c.as_str.result.now ≡ signed_decimal number = search rules in
    subst (λ s. IsCharBoundary s 1) (sym text)
    (IsCharBoundary-from_ascii (signed_decimal number) 1 (IsAscii-signed number c.ranges.number.sfits) (some_byte number c.ranges.number))
