use Rattle.std.proofs.Common.{◌≡◌, ◌+◌, ◌-◌, ◌*◌, drop, sym, ap, ◌∙◌, arith}
use Rattle.js_names.specs.Name.{numeral}
use Rattle.js_names.proofs.Numerals.{below, behind_range, one_before}
use Rattle.js_names.proofs.name.numeral.Goals as goal

pub overflow_mul-number : goal.overflow_mul-number
overflow_mul-number c =
    let is : c.loop-index.number ≡ numeral (drop c.loop-index.index c.args.bytes.now) = c.loop-index.invariant in
    omega (arith, is, behind_range c.args.bytes.now (λ i. omega (arith, c.type_inv.bytes i)) c.requires.short c.loop-index.index c.loop-index-test.true c.loop-index.auto.index 0 (omega arith))

pub overflow_add-number-in-loop-index : goal.overflow_add-number-in-loop-index
overflow_add-number-in-loop-index c =
    let is : c.loop-index.number ≡ numeral (drop c.loop-index.index c.args.bytes.now) = c.loop-index.invariant in
    omega (arith, is, behind_range c.args.bytes.now (λ i. omega (arith, c.type_inv.bytes i)) c.requires.short c.loop-index.index c.loop-index-test.true c.loop-index.auto.index c.from.result (omega (arith, c.from.ensures, c.type_inv.bytes (c.loop-index.index - 1))))

pub loop-index-preserved : goal.loop-index-preserved
loop-index-preserved c =
    let is : c.loop-index.number ≡ numeral (drop c.loop-index.index c.args.bytes.now) = c.loop-index.invariant in
    ap (λ n. n * 257 + (c.from.result + 1)) is ∙ ap (λ b. numeral (drop c.loop-index.index c.args.bytes.now) * 257 + (b + 1)) c.from.ensures
    ∙ one_before c.args.bytes.now (λ i. omega (arith, c.type_inv.bytes i)) c.requires.short c.loop-index.index c.loop-index-test.true c.loop-index.auto.index

pub returns-clause-below : goal.returns-clause-below
returns-clause-below c =
    let is : c.loop-index.number ≡ numeral (drop c.loop-index.index c.args.bytes.now) = c.loop-index.invariant in
    let first : c.loop-index.index ≡ 0 = omega (arith, c.loop-index-test.false) in
    let all : c.loop-index.number ≡ numeral c.args.bytes.now = is ∙ ap (λ i. numeral (drop i c.args.bytes.now)) first in
    omega (arith, all, below c.args.bytes.now (λ i. omega (arith, c.type_inv.bytes i)) c.requires.short)
