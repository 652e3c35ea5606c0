-- Items begin where their end is not there.
use Rattle.std.proofs.Common.{◌≡◌, ◌∷◌, ◌++◌, [], true, ap, if◌then◌else◌, subst, sym, ◌∙◌}
use Rattle.js_tree.specs.Plain.{no_expr}
use Rattle.js_lexer.specs.Token.{plain_token}
use Rattle.js_reading.specs.Slots.{TheExprs}
use Rattle.js_reading.specs.Turns.{InItems, enter, want}
use Rattle.js_grammar.specs.View.{plain_slots}
use Rattle.js_build.specs.View.{plain_pieces}
use Rattle.js_stack.specs.View.{frames, Gives}
use Rattle.js_stack.proofs.PartsLemmas.{pieces_push}
use Rattle.js_stack.proofs.take.take_items.Goals as goal

pub returns-in_ok-push : goal.returns-in_ok-push
returns-in_ok-push c =
    let p = c.args.production in
    let more : plain_pieces c.push.new.self ≡ plain_pieces p.parts ++ TheExprs true no_expr ∷ [] = ap plain_pieces c.in_ok-push.ensures ∙ (pieces_push p.parts _ ∙ ap (λ xs. plain_pieces p.parts ++ TheExprs true xs ∷ []) c.new-items.ensures) in
    ap (λ is. if is then enter p.form p.start (plain_slots p.left) (plain_pieces p.parts ++ TheExprs true no_expr ∷ []) c.args.token.loc (frames c.args.stack.now) else want (plain_token c.args.token) (InItems p.form p.start c.args.mark (plain_slots p.left) (plain_pieces p.parts) no_expr ∷ frames c.args.stack.now)) (sym c.is_mark.ensures ∙ c.if-is_mark.true)
    ∙ ap (λ ps. enter p.form p.start (plain_slots p.left) ps c.args.token.loc (frames c.args.stack.now)) (sym more)

pub returns-else-is_mark : goal.returns-else-is_mark
returns-else-is_mark c =
    let p = c.args.production in
    let due = ap (λ is. if is then enter p.form p.start (plain_slots p.left) (plain_pieces p.parts ++ TheExprs true no_expr ∷ []) c.args.token.loc (frames c.args.stack.now) else want (plain_token c.args.token) (InItems p.form p.start c.args.mark (plain_slots p.left) (plain_pieces p.parts) no_expr ∷ frames c.args.stack.now)) (sym c.is_mark.ensures ∙ c.if-is_mark.false) in
    subst (λ config. Gives c.want.result (frames c.want.new.stack) config) (ap (λ xs. want (plain_token c.args.token) (InItems p.form p.start c.args.mark (plain_slots p.left) (plain_pieces p.parts) xs ∷ frames c.args.stack.now)) c.new-items.ensures ∙ sym due) c.want.ensures
