use Rattle.std.proofs.Common.{◌≡◌, ◌∙◌, Some, None, sym, ap, rules}
use Rattle.js_tree.specs.Tree.{plain_declarators}
use Rattle.js_reading.specs.Makes.{declarators_of, is_const, variables_of}
use Rattle.js_build.specs.DeclaratorPieces.{cons_if, front, settled}
use Rattle.js_build.specs.View.{plain_pieces}
use Rattle.js_build.proofs.DeclarationLaws.{variables_form}
use Rattle.js_build.proofs.MadeAs.{makes_as}
use Rattle.js_build.proofs.declarations.variables.Goals as goal

pub returns-in-None : goal.returns-in-None
returns-in-None c =
    let found : settled (declarators_of (is_const c.args.kind) (plain_pieces c.args.pieces)) ≡ None = ap (λ b. settled (declarators_of b (plain_pieces c.args.pieces))) (sym c.is_const.ensures) ∙ (ap (λ ds. front ds (settled (declarators_of c.is_const.result (plain_pieces c.args.pieces)))) (sym c.no_declarators.ensures) ∙ sym (rw c.in-None.is at c.in_ok-declarators.ensures)) in
    makes_as c.nothing.result (variables_form c.args.place c.args.kind (plain_pieces c.args.pieces) ∙ ap (variables_of c.args.place c.args.kind) found) c.nothing.ensures

pub returns-in-None-next : goal.returns-in-None-next
returns-in-None-next c =
    let found : settled (declarators_of (is_const c.args.kind) (plain_pieces c.args.pieces)) ≡ Some (plain_declarators c.in-Some.made.items, cons_if c.in-Some.next (plain_pieces c.declarators.new.pieces)) = ap (λ b. settled (declarators_of b (plain_pieces c.args.pieces))) (sym c.is_const.ensures) ∙ (ap (λ ds. front ds (settled (declarators_of c.is_const.result (plain_pieces c.args.pieces)))) (sym c.no_declarators.ensures) ∙ sym (rw c.in-Some.is at c.in_ok-declarators.ensures)) in
    let alone = ap (λ n. variables_of c.args.place c.args.kind (Some (plain_declarators c.in-Some.made.items, cons_if n (plain_pieces c.declarators.new.pieces)))) c.in-None-next.is in
    makes_as c.variables_node.result (variables_form c.args.place c.args.kind (plain_pieces c.args.pieces) ∙ (ap (variables_of c.args.place c.args.kind) found ∙ alone)) c.variables_node.ensures

pub returns : goal.returns
returns c =
    let found : settled (declarators_of (is_const c.args.kind) (plain_pieces c.args.pieces)) ≡ Some (plain_declarators c.in-Some.made.items, cons_if c.in-Some.next (plain_pieces c.declarators.new.pieces)) = ap (λ b. settled (declarators_of b (plain_pieces c.args.pieces))) (sym c.is_const.ensures) ∙ (ap (λ ds. front ds (settled (declarators_of c.is_const.result (plain_pieces c.args.pieces)))) (sym c.no_declarators.ensures) ∙ sym (rw c.in-Some.is at c.in_ok-declarators.ensures)) in
    let more : variables_of c.args.place c.args.kind (Some (plain_declarators c.in-Some.made.items, cons_if c.in-Some.next (plain_pieces c.declarators.new.pieces))) ≡ None = search rules in
    sym (variables_form c.args.place c.args.kind (plain_pieces c.args.pieces) ∙ (ap (variables_of c.args.place c.args.kind) found ∙ more))
