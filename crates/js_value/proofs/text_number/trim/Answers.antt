-- What stands after the gaps at the start, without those at its end.
use Rattle.std.proofs.Common.{◌≡◌, ◌-◌, length, take, drop, ap, ◌∙◌, arith}
use Rattle.std.proofs.lemmas.List.{length-drop, take_all}
use Rattle.js_text.specs.Character.{is_gap}
use Rattle.js_text.specs.Lex.{past}
use Rattle.js_value.specs.Numbers.{before_last}
use Rattle.js_value.proofs.PointLemmas.{drop-prefix_len}
use Rattle.js_value.proofs.text_number.trim.Goals as goal

pub returns : goal.returns
returns c =
    let units = c.args.units.now in
    let start = c.gaps_at_start.result in
    let rest = take (length units - start) (drop start units) in
    let after : rest ≡ past is_gap units =
    take_all (length units - start) (drop start units) (omega (arith, length-drop start units))
    ∙ ap (λ n. drop n units) c.gaps_at_start.ensures.count ∙ drop-prefix_len is_gap units in
    ap (λ n. take (length rest - n) rest) c.gaps_at_end.ensures.count ∙ ap (before_last is_gap) after
