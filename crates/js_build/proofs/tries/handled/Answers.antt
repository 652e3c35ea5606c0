use Rattle.std.proofs.Common.{◌∙◌, sym, ap}
use Rattle.js_tree.specs.Tree.{plain_stmts}
use Rattle.js_build.specs.Tries.{caught}
use Rattle.js_build.specs.View.{plain_pieces}
use Rattle.js_build.proofs.MadeAs.{makes_as}
use Rattle.js_build.proofs.TryForms.{handled_after, handled_form, handled_last}
use Rattle.js_build.proofs.tries.handled.Goals as goal

pub returns-in-None : goal.returns-in-None
returns-in-None c = makes_as c.nothing.result (handled_form c.args.place (plain_stmts c.args.block.items) (caught c.args.name) (plain_pieces c.args.pieces) ∙ ap (handled_after c.args.place (plain_stmts c.args.block.items) (caught c.args.name)) (sym c.in-None.ensures.read)) c.nothing.ensures

pub returns-in-None-last_block : goal.returns-in-None-last_block
returns-in-None-last_block c = makes_as c.nothing-in-None-last_block.result (handled_form c.args.place (plain_stmts c.args.block.items) (caught c.args.name) (plain_pieces c.args.pieces) ∙ (ap (handled_after c.args.place (plain_stmts c.args.block.items) (caught c.args.name)) (sym c.in-Some.ensures.read) ∙ ap (handled_last c.args.place (plain_stmts c.args.block.items) (caught c.args.name) (plain_stmts c.in-Some.statements.items)) (sym c.in-None-last_block.ensures))) c.nothing-in-None-last_block.ensures

pub returns-in-Some-None : goal.returns-in-Some-None
returns-in-Some-None c = makes_as c.catch_node.result (handled_form c.args.place (plain_stmts c.args.block.items) (caught c.args.name) (plain_pieces c.args.pieces) ∙ (ap (handled_after c.args.place (plain_stmts c.args.block.items) (caught c.args.name)) (sym c.in-Some.ensures.read) ∙ ap (handled_last c.args.place (plain_stmts c.args.block.items) (caught c.args.name) (plain_stmts c.in-Some.statements.items)) (sym (rw c.in-Some-None.field-0-is at c.in-Some-None.ensures)))) c.catch_node.ensures

pub returns-in-Some-Some : goal.returns-in-Some-Some
returns-in-Some-Some c = makes_as c.both_node.result (handled_form c.args.place (plain_stmts c.args.block.items) (caught c.args.name) (plain_pieces c.args.pieces) ∙ (ap (handled_after c.args.place (plain_stmts c.args.block.items) (caught c.args.name)) (sym c.in-Some.ensures.read) ∙ ap (handled_last c.args.place (plain_stmts c.args.block.items) (caught c.args.name) (plain_stmts c.in-Some.statements.items)) (sym (rw c.in-Some-Some.field-0-is at c.in-Some-Some.ensures)))) c.both_node.ensures
