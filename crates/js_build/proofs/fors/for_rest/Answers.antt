use Rattle.std.proofs.Common.{◌∙◌, sym, ap}
use Rattle.js_tree.specs.Tree.{plain_for_init}
use Rattle.js_build.specs.Lists.{test_view}
use Rattle.js_build.specs.View.{plain_pieces}
use Rattle.js_build.proofs.ForLaws.{after_init, after_test, after_update, rest_form}
use Rattle.js_build.proofs.MadeAs.{makes_as}
use Rattle.js_build.proofs.fors.for_rest.Goals as goal

pub for_node-requires : goal.for_node-requires
for_node-requires c = c.requires

pub returns-in-None : goal.returns-in-None
returns-in-None c = makes_as c.nothing.result (rest_form c.args.place (plain_for_init c.args.init) c.args.next (plain_pieces c.args.pieces) ∙ ap (λ m. after_init c.args.place (plain_for_init c.args.init) m (plain_pieces c.args.pieces)) (sym c.in-None.ensures)) c.nothing.ensures

pub returns-in-None-take_maybe : goal.returns-in-None-take_maybe
returns-in-None-take_maybe c =
    let test = rest_form c.args.place (plain_for_init c.args.init) c.args.next (plain_pieces c.args.pieces) ∙ ap (λ m. after_init c.args.place (plain_for_init c.args.init) m (plain_pieces c.args.pieces)) (sym c.in-Some.ensures) in
    makes_as c.nothing-in-None-take_maybe.result (test ∙ ap (after_test c.args.place (plain_for_init c.args.init) (test_view c.in-Some.test)) (sym c.in-None-take_maybe.ensures)) c.nothing-in-None-take_maybe.ensures

pub returns-in-None-one_statement : goal.returns-in-None-one_statement
returns-in-None-one_statement c =
    let test = rest_form c.args.place (plain_for_init c.args.init) c.args.next (plain_pieces c.args.pieces) ∙ ap (λ m. after_init c.args.place (plain_for_init c.args.init) m (plain_pieces c.args.pieces)) (sym c.in-Some.ensures) in
    let update = test ∙ ap (after_test c.args.place (plain_for_init c.args.init) (test_view c.in-Some.test)) (sym c.in-Some-take_maybe.ensures) in
    makes_as c.nothing-in-None-one_statement.result (update ∙ ap (after_update c.args.place (plain_for_init c.args.init) (test_view c.in-Some.test) (test_view c.in-Some-take_maybe.update)) (sym c.in-None-one_statement.ensures)) c.nothing-in-None-one_statement.ensures

pub returns-in-Some-one_statement : goal.returns-in-Some-one_statement
returns-in-Some-one_statement c =
    let test = rest_form c.args.place (plain_for_init c.args.init) c.args.next (plain_pieces c.args.pieces) ∙ ap (λ m. after_init c.args.place (plain_for_init c.args.init) m (plain_pieces c.args.pieces)) (sym c.in-Some.ensures) in
    let update = test ∙ ap (after_test c.args.place (plain_for_init c.args.init) (test_view c.in-Some.test)) (sym c.in-Some-take_maybe.ensures) in
    makes_as c.for_node.result (update ∙ ap (after_update c.args.place (plain_for_init c.args.init) (test_view c.in-Some.test) (test_view c.in-Some-take_maybe.update)) (sym c.in-Some-one_statement.ensures)) c.for_node.ensures
