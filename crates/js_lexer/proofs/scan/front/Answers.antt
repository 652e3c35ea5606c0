-- The cut is where the end begins, and that is text.
use Rattle.std.proofs.Common.{◌≡◌, ◌-◌, ℕ, List, ◌++◌, length, take, ap, ◌∙◌, subst, arith, length-append}
use Rattle.std.specs.Str.{IsCharBoundary}
use Rattle.std.proofs.Math.Seq.{take-append_seam}
use Rattle.std.proofs.lemmas.Str.{IsCharBoundary-at_seam}
use Rattle.js_lexer.proofs.scan.front.Goals as goal

cut : (whole before rest : List ℕ) → whole ≡ before ++ rest → length before ≡ length whole - length rest
cut whole before rest e = omega (arith, ap length e, length-append before rest)

pub range-requires-clause-end_boundary : goal.range-requires-clause-end_boundary
range-requires-clause-end_boundary c =
    subst (λ n. IsCharBoundary c.args.whole.now n) (cut _ c.requires.0 c.args.rest.now c.requires.1)
    (IsCharBoundary-at_seam c.args.whole.now c.requires.0 c.args.rest.now c.requires.1 c.utf8.rest)

pub returns : goal.returns
returns c = λ before e.
    let end = length c.args.whole.now - length c.args.rest.now in
    let to_end : end - 0 ≡ length before = omega (arith, cut _ before c.args.rest.now e) in
    c.range.ensures.value ∙ ap (λ n. take n c.args.whole.now) to_end ∙ ap (take (length before)) e ∙ take-append_seam before c.args.rest.now
