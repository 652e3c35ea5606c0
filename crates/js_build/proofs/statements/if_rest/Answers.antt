use Rattle.std.proofs.Common.{◌∙◌, sym, ap}
use Rattle.js_tree.specs.Tree.{plain_expr, plain_stmt}
use Rattle.js_build.specs.View.{plain_pieces}
use Rattle.js_build.proofs.MadeAs.{makes_as}
use Rattle.js_build.proofs.StatementForms.{then_form, then_of}
use Rattle.js_build.proofs.statements.if_rest.Goals as goal

pub returns-in-None : goal.returns-in-None
returns-in-None c = makes_as c.nothing.result (then_form c.args.place c.args.test.level (plain_expr c.args.test.tree) (plain_stmt c.args.then.tree) (plain_pieces c.args.pieces) ∙ ap (then_of c.args.place (plain_expr c.args.test.tree) (plain_stmt c.args.then.tree)) (sym c.in-None.ensures)) c.nothing.ensures

pub returns-in-Some-None : goal.returns-in-Some-None
returns-in-Some-None c = makes_as c.if_node.result (then_form c.args.place c.args.test.level (plain_expr c.args.test.tree) (plain_stmt c.args.then.tree) (plain_pieces c.args.pieces) ∙ ap (then_of c.args.place (plain_expr c.args.test.tree) (plain_stmt c.args.then.tree)) (sym (rw c.in-Some-None.field-0-is at c.in-Some-None.ensures))) c.if_node.ensures

pub returns-in-Some-Some : goal.returns-in-Some-Some
returns-in-Some-Some c = makes_as c.if_else_node.result (then_form c.args.place c.args.test.level (plain_expr c.args.test.tree) (plain_stmt c.args.then.tree) (plain_pieces c.args.pieces) ∙ ap (then_of c.args.place (plain_expr c.args.test.tree) (plain_stmt c.args.then.tree)) (sym (rw c.in-Some-Some.field-0-is at c.in-Some-Some.ensures))) c.if_else_node.ensures
