use Rattle.std.proofs.Common.{◌≡◌, ◌∙◌, ap, sym}
use Rattle.std.specs.Prelude.{◌&&◌, ◌||◌}
use Rattle.js_text.specs.declared.punctuator.Punctuator.TheVariants as P
use Rattle.js_lexer.specs.Token.{plain_token}
use Rattle.js_reading.specs.Productions.{is_mark}
use Rattle.js_parser.proofs.found.opens_pattern.Goals as goal
use Rattle.js_parser.proofs.found.opens_pattern.Goals.{then-is, else-is}

pub returns-then-is-2 : goal.returns-then-is-2
returns-then-is-2 c =
    let t = plain_token c.args.token in
    let so : (is_mark P.OpenBracket t || is_mark P.OpenBrace t) ≡ c.if-is.value = elim c.if-is.branch [
      | then-is w ↦ ap (λ b. b || is_mark P.OpenBrace t) (sym c.is.ensures ∙ w.if-is.true) ∙ sym (w.value-is ∙ w.if-is.true)
      | else-is w ↦ ap (λ b. b || is_mark P.OpenBrace t) (sym c.is.ensures ∙ w.if-is.false) ∙ sym (w.value-is ∙ w.is-else-is.ensures)
    ] in
    ap (λ b. b && c.args.bound) (sym (so ∙ c.if-is-2.true))

pub returns-else-is-2 : goal.returns-else-is-2
returns-else-is-2 c =
    let t = plain_token c.args.token in
    let so : (is_mark P.OpenBracket t || is_mark P.OpenBrace t) ≡ c.if-is.value = elim c.if-is.branch [
      | then-is w ↦ ap (λ b. b || is_mark P.OpenBrace t) (sym c.is.ensures ∙ w.if-is.true) ∙ sym (w.value-is ∙ w.if-is.true)
      | else-is w ↦ ap (λ b. b || is_mark P.OpenBrace t) (sym c.is.ensures ∙ w.if-is.false) ∙ sym (w.value-is ∙ w.is-else-is.ensures)
    ] in
    c.if-is-2.false ∙ ap (λ b. b && c.args.bound) (sym (so ∙ c.if-is-2.false))
