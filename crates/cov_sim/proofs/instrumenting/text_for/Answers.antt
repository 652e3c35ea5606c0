use Rattle.std.proofs.Common.{◌≡◌, true, false, Some, sym, subst, rules}
use Rattle.js_tree.specs.Tree.{plain_file}
use Rattle.cov_sim.specs.Again.{IsReadAgain}
use Rattle.cov_sim.specs.Instrumented.{instrumented, is_left_out, Instruments, left, made}
use Rattle.cov_sim.specs.declared.instrumented.MappedText.{MappedText}
use Rattle.cov_sim.proofs.instrumenting.text_for.Goals as goal

pub returns-then-is_left : goal.returns-then-is_left
returns-then-is_left c =
    let out : is_left_out c.args.source.now (plain_file c.args.file) ≡ true = search rules in
    left out

pub returns : goal.returns
returns c =
    let source = c.args.source.now in
    let tree = plain_file c.args.file in
    let kept : is_left_out source tree ≡ false = search rules in
    let again = subst (λ (m : MappedText). IsReadAgain m.text (instrumented source.path source.bytes source.input tree)) c.in_ok-made.ensures.made c.in_ok-made.ensures.again in
    subst (λ made. Instruments source tree (Some made)) (sym c.in_ok-made.ensures.made) (made kept again)
