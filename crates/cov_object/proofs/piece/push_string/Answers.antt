use Rattle.std.proofs.Common.{◌≡◌, [], ◌∷◌, ◌++◌, false, sym, ap, ◌∙◌}
use Rattle.std.specs.List.{list_any}
use Rattle.std.proofs.lemmas.Result.{on_ok_weaker}
use Rattle.cov_object.specs.private.Escapes.{is_escaped}
use Rattle.cov_object.proofs.EscapeLemmas.{text-itself}
use Rattle.cov_object.proofs.piece.push_string.Goals as goal

pub returns-else-has_escapes : goal.returns-else-has_escapes
returns-else-has_escapes c =
    let text = c.args.text.now in
    let plain : list_any is_escaped text ≡ false = ap (list_any is_escaped) (sym c.as_bytes.ensures.value) ∙ sym c.has_escapes.ensures ∙ c.if-has_escapes.false in
    on_ok_weaker c.push_quoted.result (λ written. written ∙ ap (λ inner. c.args.out.now.items ++ 34 ∷ (inner ++ 34 ∷ [])) (sym (text-itself text plain))) c.push_quoted.ensures
