-- The statement is put after the others, and the next begins where their end is not there.
use Rattle.std.proofs.Common.{◌≡◌, ◌+◌, ◌∷◌, ◌++◌, [], length, ap, arith, if◌then◌else◌, subst, sym, ◌∙◌}
use Rattle.js_tree.specs.Plain.{push_stmts}
use Rattle.js_tree.specs.Tree.{plain_stmt, plain_stmts}
use Rattle.js_lexer.specs.Token.{plain_token}
use Rattle.js_reading.specs.Slots.{TheStmts}
use Rattle.js_reading.specs.Turns.{InStmts, begin}
use Rattle.js_grammar.specs.View.{plain_slots}
use Rattle.js_build.specs.View.{plain_pieces}
use Rattle.js_stack.specs.View.{frames, passed, Turns}
use Rattle.js_stack.proofs.PartsLemmas.{pieces_push}
use Rattle.js_stack.proofs.leave.left_statements.Goals as goal

pub returns-in_ok-push : goal.returns-in_ok-push
returns-in_ok-push c =
    let p = c.args.production in
    let t = plain_token c.args.token in
    let fs = frames c.args.stack.now in
    let all = push_stmts (plain_stmts c.args.statements.items) (plain_stmt c.args.body.tree) in
    let more : plain_pieces c.push.new.self ≡ plain_pieces p.parts ++ TheStmts all ∷ [] = ap plain_pieces c.in_ok-push.ensures ∙ (pieces_push p.parts _ ∙ ap (λ ss. plain_pieces p.parts ++ TheStmts ss ∷ []) c.in_ok-statements.ensures) in
    let due = ap (λ is. if is then passed p.form p.start (plain_slots p.left) (plain_pieces p.parts ++ TheStmts all ∷ []) c.args.last fs t else begin t (InStmts p.form p.start (plain_slots p.left) (plain_pieces p.parts) all ∷ fs)) (sym c.closes.ensures ∙ c.if-closes.true) in
    subst (λ config. Turns c.pass.result (frames c.pass.new.stack) config t (length fs + 2)) (ap (λ ps. passed p.form p.start (plain_slots p.left) ps c.args.last fs t) more ∙ sym due) c.pass.ensures

pub returns-in_ok-begin : goal.returns-in_ok-begin
returns-in_ok-begin c =
    let p = c.args.production in
    let t = plain_token c.args.token in
    let fs = frames c.args.stack.now in
    let all = push_stmts (plain_stmts c.args.statements.items) (plain_stmt c.args.body.tree) in (
      ap (λ is. if is then passed p.form p.start (plain_slots p.left) (plain_pieces p.parts ++ TheStmts all ∷ []) c.args.last fs t else begin t (InStmts p.form p.start (plain_slots p.left) (plain_pieces p.parts) all ∷ fs)) (sym c.closes.ensures ∙ c.if-closes.false)
          ∙ (ap (λ ss. begin t (InStmts p.form p.start (plain_slots p.left) (plain_pieces p.parts) ss ∷ fs)) (sym c.in_ok-statements.ensures) ∙ c.in_ok-begin.ensures),
      omega arith,
    )
