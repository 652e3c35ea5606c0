-- Each slot is passed as its own kind.
use Rattle.std.proofs.Common.{◌∷◌, length, subst, sym}
use Rattle.js_lexer.specs.Token.{plain_token}
use Rattle.js_grammar.specs.View.{plain_slot, plain_slots}
use Rattle.js_build.specs.View.{plain_pieces}
use Rattle.js_stack.specs.Pass.{Passes}
use Rattle.js_stack.specs.View.{frames, passed}
use Rattle.js_stack.proofs.pass.pass_slot.Goals as goal

pub returns-in-Place : goal.returns-in-Place
returns-in-Place c =
    let p = c.args.production in
    let t = plain_token c.args.token in
    let fs = frames c.args.stack.now in
    subst (λ slot. Passes c.pass_place.result fs fs (passed p.form p.start (plain_slot slot ∷ plain_slots p.left) (plain_pieces p.parts) c.args.last fs t) c.args.last t (length p.left)) (sym c.in-Place.is) c.pass_place.ensures

pub returns-in-Stmts : goal.returns-in-Stmts
returns-in-Stmts c =
    let p = c.args.production in
    let t = plain_token c.args.token in
    let fs = frames c.args.stack.now in
    subst (λ slot. Passes c.pass_statements.result fs (frames c.pass_statements.new.stack) (passed p.form p.start (plain_slot slot ∷ plain_slots p.left) (plain_pieces p.parts) c.args.last fs t) c.args.last t (length p.left)) (sym c.in-Stmts.is) c.pass_statements.ensures

pub returns-in-By : goal.returns-in-By
returns-in-By c =
    let p = c.args.production in
    let t = plain_token c.args.token in
    let fs = frames c.args.stack.now in
    subst (λ slot. Passes c.pass_choice.result fs (frames c.pass_choice.new.stack) (passed p.form p.start (plain_slot slot ∷ plain_slots p.left) (plain_pieces p.parts) c.args.last fs t) c.args.last t (length p.left)) (sym c.in-By.is) c.pass_choice.ensures
