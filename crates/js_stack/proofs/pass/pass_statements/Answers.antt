-- Statements begin where their end is not there.
use Rattle.std.proofs.Common.{◌≡◌, ◌∷◌, ◌++◌, [], ap, if◌then◌else◌, refl, sym, ◌∙◌}
use Rattle.js_tree.specs.Plain.{no_stmt}
use Rattle.js_lexer.specs.Token.{plain_token}
use Rattle.js_reading.specs.Slots.{TheStmts}
use Rattle.js_reading.specs.Turns.{InStmts, begin}
use Rattle.js_grammar.specs.View.{plain_slots}
use Rattle.js_build.specs.View.{plain_pieces}
use Rattle.js_stack.specs.View.{frames, passed}
use Rattle.js_stack.proofs.PartsLemmas.{pieces_push}
use Rattle.js_stack.proofs.pass.pass_statements.Goals as goal

pub returns-in_ok-push : goal.returns-in_ok-push
returns-in_ok-push c =
    let p = c.args.production in
    let t = plain_token c.args.token in
    let fs = frames c.args.stack.now in
    let more : plain_pieces c.push.new.self ≡ plain_pieces p.parts ++ TheStmts no_stmt ∷ [] = ap plain_pieces c.in_ok-push.ensures ∙ (pieces_push p.parts _ ∙ ap (λ ss. plain_pieces p.parts ++ TheStmts ss ∷ []) c.new-none.ensures) in (
      ap (λ is. if is then passed p.form p.start (plain_slots p.left) (plain_pieces p.parts ++ TheStmts no_stmt ∷ []) c.args.last fs t else begin t (InStmts p.form p.start (plain_slots p.left) (plain_pieces p.parts) no_stmt ∷ fs)) (sym c.closes.ensures ∙ c.if-closes.true)
          ∙ ap (λ ps. passed p.form p.start (plain_slots p.left) ps c.args.last fs t) (sym more),
      refl,
      refl,
    )

pub returns-in_ok-begin : goal.returns-in_ok-begin
returns-in_ok-begin c =
    let p = c.args.production in
    let t = plain_token c.args.token in
    let fs = frames c.args.stack.now in
    ap (λ is. if is then passed p.form p.start (plain_slots p.left) (plain_pieces p.parts ++ TheStmts no_stmt ∷ []) c.args.last fs t else begin t (InStmts p.form p.start (plain_slots p.left) (plain_pieces p.parts) no_stmt ∷ fs)) (sym c.closes.ensures ∙ c.if-closes.false)
    ∙ (ap (λ ss. begin t (InStmts p.form p.start (plain_slots p.left) (plain_pieces p.parts) ss ∷ fs)) (sym c.new-none.ensures) ∙ c.in_ok-begin.ensures)
