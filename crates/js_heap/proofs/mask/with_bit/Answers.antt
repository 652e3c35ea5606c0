use Rattle.std.proofs.Common.{ap, ◌∙◌, ◌*◌, ◌%◌, ◌^◌, bit_or, sym}
use Rattle.std.specs.Int.{bit_at}
use Rattle.js_heap.proofs.MaskLemmas.{bit_set, bits_kept}
use Rattle.js_heap.proofs.mask.with_bit.Goals as goal

pub returns-clause-bit : goal.returns-clause-bit
returns-clause-bit c =
    ap (λ n. bit_at (bit_or c.args.mask (1 * 2 ^ (c.number.result % 64) % 2 ^ 64)) (n % 64)) (sym c.number.ensures) ∙ bit_set c.args.mask c.number.result

pub returns-clause-others : goal.returns-clause-others
returns-clause-others c = bits_kept c.args.mask _
