-- The items go on after a comma, and end with their punctuator.
use Rattle.std.proofs.Common.{◌∷◌, ◌++◌, [], Some, None, false, ap, if◌then◌else◌, sym, ◌∙◌}
use Rattle.js_tree.specs.Tree.{plain_exprs}
use Rattle.js_lexer.specs.Token.{plain_token}
use Rattle.js_reading.specs.Productions.{is_mark}
use Rattle.js_reading.specs.Slots.{TheExprs}
use Rattle.js_reading.specs.Turns.{InItems, Item, enter}
use Rattle.js_grammar.specs.View.{plain_slots}
use Rattle.js_build.specs.View.{plain_pieces}
use Rattle.js_stack.specs.View.{frames}
use Rattle.js_stack.proofs.PartsLemmas.{pieces_push}
use Rattle.js_stack.proofs.leave.listed.Goals as goal

pub returns-in_ok-push : goal.returns-in_ok-push
returns-in_ok-push c =
    let p = c.args.production in
    let fs = frames c.args.stack.now in
    let xs = plain_exprs c.args.items.items in
    ap (λ is. if is then Some (Item (InItems p.form p.start c.args.mark (plain_slots p.left) (plain_pieces p.parts) xs ∷ fs)) else (if is_mark c.args.mark (plain_token c.args.token) then enter p.form p.start (plain_slots p.left) (plain_pieces p.parts ++ TheExprs false xs ∷ []) c.args.token.loc fs else None)) (sym c.is_mark.ensures ∙ c.if-is_mark.true)
    ∙ ap (λ stack. Some (Item (frames stack))) (sym c.in_ok-push.ensures)

pub returns-in_ok-push-2 : goal.returns-in_ok-push-2
returns-in_ok-push-2 c =
    let p = c.args.production in
    let fs = frames c.args.stack.now in
    let xs = plain_exprs c.args.items.items in
    ap (λ is. if is then Some (Item (InItems p.form p.start c.args.mark (plain_slots p.left) (plain_pieces p.parts) xs ∷ fs)) else (if is_mark c.args.mark (plain_token c.args.token) then enter p.form p.start (plain_slots p.left) (plain_pieces p.parts ++ TheExprs false xs ∷ []) c.args.token.loc fs else None)) (sym c.is_mark.ensures ∙ c.if-is_mark.false)
    ∙ ap (λ is. if is then enter p.form p.start (plain_slots p.left) (plain_pieces p.parts ++ TheExprs false xs ∷ []) c.args.token.loc fs else None) (sym c.is_mark-else-is_mark.ensures ∙ c.if-is_mark-2.true)
    ∙ ap (λ ps. enter p.form p.start (plain_slots p.left) ps c.args.token.loc fs) (sym (ap plain_pieces c.in_ok-push-2.ensures ∙ pieces_push p.parts _))

pub returns-else-is_mark-2 : goal.returns-else-is_mark-2
returns-else-is_mark-2 c =
    let p = c.args.production in
    let fs = frames c.args.stack.now in
    let xs = plain_exprs c.args.items.items in
    ap (λ is. if is then Some (Item (InItems p.form p.start c.args.mark (plain_slots p.left) (plain_pieces p.parts) xs ∷ fs)) else (if is_mark c.args.mark (plain_token c.args.token) then enter p.form p.start (plain_slots p.left) (plain_pieces p.parts ++ TheExprs false xs ∷ []) c.args.token.loc fs else None)) (sym c.is_mark.ensures ∙ c.if-is_mark.false)
    ∙ ap (λ is. if is then enter p.form p.start (plain_slots p.left) (plain_pieces p.parts ++ TheExprs false xs ∷ []) c.args.token.loc fs else None) (sym c.is_mark-else-is_mark.ensures ∙ c.if-is_mark-2.false)
