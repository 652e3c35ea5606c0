-- The expression is put after the parts, where the place takes it.
use Rattle.std.proofs.Common.{◌+◌, ◌∷◌, ◌++◌, [], None, length, ap, if◌then◌else◌, subst, sym, ◌∙◌}
use Rattle.js_tree.specs.Tree.{plain_expr}
use Rattle.js_lexer.specs.Token.{plain_token}
use Rattle.js_reading.specs.Slots.{AnExpr}
use Rattle.js_grammar.specs.View.{plain_slots}
use Rattle.js_build.specs.View.{plain_pieces}
use Rattle.js_stack.specs.View.{frames, passed, Turns}
use Rattle.js_stack.proofs.PartsLemmas.{pieces_push}
use Rattle.js_stack.proofs.leave.leave_production.Goals as goal

pub returns-then-not-takes : goal.returns-then-not-takes
returns-then-not-takes c =
    let p = c.args.production in
    let x = c.args.operand in
    ap (λ is. if is then passed p.form p.start (plain_slots p.left) (plain_pieces p.parts ++ AnExpr x.level (plain_expr x.tree) ∷ []) c.args.last (frames c.args.stack.now) (plain_token c.args.token) else None) (sym c.takes.ensures ∙ c.if-not-takes.true)

pub returns : goal.returns
returns c =
    let p = c.args.production in
    let x = c.args.operand in
    let t = plain_token c.args.token in
    let fs = frames c.args.stack.now in
    let due = ap (λ is. if is then passed p.form p.start (plain_slots p.left) (plain_pieces p.parts ++ AnExpr x.level (plain_expr x.tree) ∷ []) c.args.last fs t else None) (sym c.takes.ensures ∙ c.if-not-takes.false) in
    subst (λ config. Turns c.pass.result (frames c.pass.new.stack) config t (length fs + 2)) (ap (λ ps. passed p.form p.start (plain_slots p.left) ps c.args.last fs t) (ap plain_pieces c.in_ok-push.ensures ∙ pieces_push p.parts _) ∙ sym due) c.pass.ensures
