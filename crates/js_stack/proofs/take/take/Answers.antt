-- Each slot is taken as its own kind.
use Rattle.std.proofs.Common.{subst, sym}
use Rattle.js_lexer.specs.Token.{plain_token}
use Rattle.js_reading.specs.Turns as turns
use Rattle.js_grammar.specs.View.{plain_slot, plain_slots}
use Rattle.js_build.specs.View.{plain_pieces}
use Rattle.js_stack.specs.View.{frames, Gives}
use Rattle.js_stack.proofs.take.take.Goals as goal

pub returns-in-Sign : goal.returns-in-Sign
returns-in-Sign c =
    let p = c.args.production in
    subst (λ slot. Gives c.take_sign.result (frames c.args.stack.now) (turns.take p.form p.start (plain_slot slot) (plain_slots p.left) (plain_pieces p.parts) (frames c.args.stack.now) (plain_token c.args.token))) (sym c.in-Sign.is) c.take_sign.ensures

pub returns-in-Text : goal.returns-in-Text
returns-in-Text c =
    let p = c.args.production in
    subst (λ slot. Gives c.take_text.result (frames c.args.stack.now) (turns.take p.form p.start (plain_slot slot) (plain_slots p.left) (plain_pieces p.parts) (frames c.args.stack.now) (plain_token c.args.token))) (sym c.in-Text.is) c.take_text.ensures

pub returns-in-Expr : goal.returns-in-Expr
returns-in-Expr c =
    let p = c.args.production in
    subst (λ slot. Gives c.want.result (frames c.want.new.stack) (turns.take p.form p.start (plain_slot slot) (plain_slots p.left) (plain_pieces p.parts) (frames c.args.stack.now) (plain_token c.args.token))) (sym c.in-Expr.is) c.want.ensures

pub returns-in-Stmt : goal.returns-in-Stmt
returns-in-Stmt c =
    let p = c.args.production in
    subst (λ slot. Gives c.begin.result (frames c.begin.new.stack) (turns.take p.form p.start (plain_slot slot) (plain_slots p.left) (plain_pieces p.parts) (frames c.args.stack.now) (plain_token c.args.token))) (sym c.in-Stmt.is) c.begin.ensures

pub returns-in-Items : goal.returns-in-Items
returns-in-Items c =
    let p = c.args.production in
    subst (λ slot. Gives c.take_items.result (frames c.take_items.new.stack) (turns.take p.form p.start (plain_slot slot) (plain_slots p.left) (plain_pieces p.parts) (frames c.args.stack.now) (plain_token c.args.token))) (sym c.in-Items.is) c.take_items.ensures
