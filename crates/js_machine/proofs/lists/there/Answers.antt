use Rattle.std.proofs.Common.{sym, ap, ◌∙◌}
use Rattle.js_tree.specs.Plain as P
use Rattle.js_code.specs.Code.{reader}
use Rattle.js_code.specs.Node.{build}
use Rattle.js_code.specs.Part.{as_expr, as_stmt, as_expr_if, as_stmt_if}
use Rattle.js_machine.proofs.OtherNodes as other
use Rattle.js_machine.proofs.lists.there.Goals as goal

pub returns-in-Missing-clause-expr : goal.returns-in-Missing-clause-expr
returns-in-Missing-clause-expr c = λ p. ap as_expr_if (c.node.ensures.read ∙ ap (build (reader c.args.code.now.nodes)) c.in-Missing.is)

pub returns-in-Missing-clause-stmt : goal.returns-in-Missing-clause-stmt
returns-in-Missing-clause-stmt c = λ p. ap as_stmt_if (c.node.ensures.read ∙ ap (build (reader c.args.code.now.nodes)) c.in-Missing.is)

pub returns-in_default-clause-expr : goal.returns-in_default-clause-expr
returns-in_default-clause-expr c = λ p. ap as_expr_if c.node.ensures.read ∙ other.some_expr_if (reader c.args.code.now.nodes) c.node.result.now c.in_default.not-Missing ∙ ap (λ x. P.some_expr (as_expr x)) (sym c.node.ensures.read)

pub returns-in_default-clause-stmt : goal.returns-in_default-clause-stmt
returns-in_default-clause-stmt c = λ p. ap as_stmt_if c.node.ensures.read ∙ other.some_stmt_if (reader c.args.code.now.nodes) c.node.result.now c.in_default.not-Missing ∙ ap (λ x. P.some_stmt (as_stmt x)) (sym c.node.ensures.read)
