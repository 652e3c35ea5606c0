use Rattle.std.proofs.Common.{◌≡◌, ℕ, List, [], ◌∷◌, reverse, ap, ◌∙◌}
use Rattle.std.proofs.lemmas.List.{reverse-append}
use Rattle.std.proofs.lemmas.Result.{IfOk-weaker}
use Rattle.js_data.proofs.number_text.signed.Goals as goal

pub returns-then-negative : goal.returns-then-negative
returns-then-negative c =
    rw c.if-negative.true (IfOk-weaker c.forward.result (λ (text : List ℕ). text ≡ reverse c.put.new.units.items) (λ (text : List ℕ). text ≡ 45 ∷ reverse c.args.units.items)
    (λ text is. is ∙ ap reverse c.in_ok-put.ensures ∙ reverse-append c.args.units.items (45 ∷ [])) c.forward.ensures)
