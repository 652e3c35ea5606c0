use Rattle.std.proofs.Common.{◌≡◌, drop, ap, ◌∙◌, arith}
use Rattle.js_text.specs.Lex.{past}
use Rattle.js_value.specs.private.Separated.{is_separator}
use Rattle.js_value.proofs.PointLemmas.{drop-prefix_len}
use Rattle.js_value.proofs.SeparatedLemmas.{first-none, first-some}
use Rattle.js_value.proofs.literal.first.Goals as goal

pub returns-in-empty : goal.returns-in-empty
returns-in-empty c =
    let bytes = c.args.bytes.now in
    let found : c.split_at.result.1.now ≡ past is_separator bytes = c.split_at.ensures.back ∙ ap (λ n. drop n bytes) c.separators_at_start.ensures.count ∙ drop-prefix_len is_separator bytes in
    first-none bytes c.split_at.result.1.now found (omega arith)

pub returns-in-len1-up : goal.returns-in-len1-up
returns-in-len1-up c =
    let bytes = c.args.bytes.now in
    let found : c.split_at.result.1.now ≡ past is_separator bytes = c.split_at.ensures.back ∙ ap (λ n. drop n bytes) c.separators_at_start.ensures.count ∙ drop-prefix_len is_separator bytes in
    first-some bytes c.split_at.result.1.now 0 found (omega arith)
