use Rattle.std.proofs.Common.{subst, sym}
use Rattle.js_tree.specs.Tree.{plain_expr}
use Rattle.js_build.specs.View.{plain_pieces, Makes}
use Rattle.js_build.proofs.ForLaws.{expression_each}
use Rattle.js_build.proofs.fors.for_expression.Goals as goal

pub returns-in-Ok : goal.returns-in-Ok
returns-in-Ok c = subst (λ due. Makes c.for_each_expression.result due) (sym (expression_each c.args.place c.args.operand.level (plain_expr c.args.operand.tree) (plain_pieces c.args.pieces) c.in-Ok.of (plain_pieces c.each_next.new.pieces) c.in-Ok.ensures.each)) c.for_each_expression.ensures
