use Rattle.std.proofs.Common.{◌∙◌, sym, ap}
use Rattle.js_reading.specs.Makes.{build}
use Rattle.js_reading.specs.declared.form.Form.TheVariants as form
use Rattle.js_build.specs.View.{plain_pieces}
use Rattle.js_build.proofs.MadeAs.{makes_as}
use Rattle.js_build.proofs.productions.build.Goals as goal

pub returns-in-Parentheses : goal.returns-in-Parentheses
returns-in-Parentheses c = makes_as c.parentheses.result (ap (λ f. build f c.args.place (plain_pieces c.args.pieces.items)) c.in-Parentheses.is ∙ ap (λ ps. build form.Parentheses c.args.place (plain_pieces ps)) (sym c.new-pieces.ensures)) c.parentheses.ensures

pub returns-in-ArrayLiteral : goal.returns-in-ArrayLiteral
returns-in-ArrayLiteral c = makes_as c.array.result (ap (λ f. build f c.args.place (plain_pieces c.args.pieces.items)) c.in-ArrayLiteral.is ∙ ap (λ ps. build form.ArrayLiteral c.args.place (plain_pieces ps)) (sym c.new-pieces.ensures)) c.array.ensures

pub returns-in-ObjectLiteral : goal.returns-in-ObjectLiteral
returns-in-ObjectLiteral c = makes_as c.object.result (ap (λ f. build f c.args.place (plain_pieces c.args.pieces.items)) c.in-ObjectLiteral.is ∙ ap (λ ps. build form.ObjectLiteral c.args.place (plain_pieces ps)) (sym c.new-pieces.ensures)) c.object.ensures

pub returns-in-Template : goal.returns-in-Template
returns-in-Template c = makes_as c.template.result (ap (λ f. build f c.args.place (plain_pieces c.args.pieces.items)) c.in-Template.is ∙ ap (λ ps. build form.Template c.args.place (plain_pieces ps)) (sym c.new-pieces.ensures)) c.template.ensures

pub returns-in-FunctionExpression : goal.returns-in-FunctionExpression
returns-in-FunctionExpression c = makes_as c.function_expression.result (ap (λ f. build f c.args.place (plain_pieces c.args.pieces.items)) c.in-FunctionExpression.is ∙ ap (λ ps. build form.FunctionExpression c.args.place (plain_pieces ps)) (sym c.new-pieces.ensures)) c.function_expression.ensures

pub returns-in-New : goal.returns-in-New
returns-in-New c = makes_as c.new.result (ap (λ f. build f c.args.place (plain_pieces c.args.pieces.items)) c.in-New.is ∙ ap (λ ps. build form.New c.args.place (plain_pieces ps)) (sym c.new-pieces.ensures)) c.new.ensures

pub returns-in-Call : goal.returns-in-Call
returns-in-Call c = makes_as c.call.result (ap (λ f. build f c.args.place (plain_pieces c.args.pieces.items)) c.in-Call.is ∙ ap (λ ps. build form.Call c.args.place (plain_pieces ps)) (sym c.new-pieces.ensures)) c.call.ensures

pub returns-in-Dot : goal.returns-in-Dot
returns-in-Dot c = makes_as c.dot.result (ap (λ f. build f c.args.place (plain_pieces c.args.pieces.items)) c.in-Dot.is ∙ ap (λ ps. build form.Dot c.args.place (plain_pieces ps)) (sym c.new-pieces.ensures)) c.dot.ensures

pub returns-in-Member : goal.returns-in-Member
returns-in-Member c = makes_as c.member.result (ap (λ f. build f c.args.place (plain_pieces c.args.pieces.items)) c.in-Member.is ∙ ap (λ ps. build form.Member c.args.place (plain_pieces ps)) (sym c.new-pieces.ensures)) c.member.ensures

pub returns-in-Postfix : goal.returns-in-Postfix
returns-in-Postfix c = makes_as c.postfix.result (ap (λ f. build f c.args.place (plain_pieces c.args.pieces.items)) c.in-Postfix.is ∙ ap (λ ps. build (form.Postfix c.in-Postfix.operator) c.args.place (plain_pieces ps)) (sym c.new-pieces.ensures)) c.postfix.ensures

pub returns-in-PrefixUpdate : goal.returns-in-PrefixUpdate
returns-in-PrefixUpdate c = makes_as c.prefix_update.result (ap (λ f. build f c.args.place (plain_pieces c.args.pieces.items)) c.in-PrefixUpdate.is ∙ ap (λ ps. build (form.PrefixUpdate c.in-PrefixUpdate.operator) c.args.place (plain_pieces ps)) (sym c.new-pieces.ensures)) c.prefix_update.ensures

pub returns-in-Unary : goal.returns-in-Unary
returns-in-Unary c = makes_as c.unary.result (ap (λ f. build f c.args.place (plain_pieces c.args.pieces.items)) c.in-Unary.is ∙ ap (λ ps. build (form.Unary c.in-Unary.operator) c.args.place (plain_pieces ps)) (sym c.new-pieces.ensures)) c.unary.ensures

pub returns-in-Binary : goal.returns-in-Binary
returns-in-Binary c = makes_as c.binary.result (ap (λ f. build f c.args.place (plain_pieces c.args.pieces.items)) c.in-Binary.is ∙ ap (λ ps. build (form.Binary c.in-Binary.operator) c.args.place (plain_pieces ps)) (sym c.new-pieces.ensures)) c.binary.ensures

pub returns-in-Logical : goal.returns-in-Logical
returns-in-Logical c = makes_as c.logical.result (ap (λ f. build f c.args.place (plain_pieces c.args.pieces.items)) c.in-Logical.is ∙ ap (λ ps. build (form.Logical c.in-Logical.operator) c.args.place (plain_pieces ps)) (sym c.new-pieces.ensures)) c.logical.ensures

pub returns-in-Conditional : goal.returns-in-Conditional
returns-in-Conditional c = makes_as c.conditional.result (ap (λ f. build f c.args.place (plain_pieces c.args.pieces.items)) c.in-Conditional.is ∙ ap (λ ps. build form.Conditional c.args.place (plain_pieces ps)) (sym c.new-pieces.ensures)) c.conditional.ensures

pub returns-in-Assignment : goal.returns-in-Assignment
returns-in-Assignment c = makes_as c.assignment.result (ap (λ f. build f c.args.place (plain_pieces c.args.pieces.items)) c.in-Assignment.is ∙ ap (λ ps. build (form.Assignment c.in-Assignment.operator) c.args.place (plain_pieces ps)) (sym c.new-pieces.ensures)) c.assignment.ensures

pub returns-in-ArrowOfName : goal.returns-in-ArrowOfName
returns-in-ArrowOfName c = makes_as c.arrow_of_name.result (ap (λ f. build f c.args.place (plain_pieces c.args.pieces.items)) c.in-ArrowOfName.is ∙ ap (λ ps. build form.ArrowOfName c.args.place (plain_pieces ps)) (sym c.new-pieces.ensures)) c.arrow_of_name.ensures

pub returns-in-Comma : goal.returns-in-Comma
returns-in-Comma c = makes_as c.comma.result (ap (λ f. build f c.args.place (plain_pieces c.args.pieces.items)) c.in-Comma.is ∙ ap (λ ps. build form.Comma c.args.place (plain_pieces ps)) (sym c.new-pieces.ensures)) c.comma.ensures

pub returns-in-Expression : goal.returns-in-Expression
returns-in-Expression c = makes_as c.expression_statement.result (ap (λ f. build f c.args.place (plain_pieces c.args.pieces.items)) c.in-Expression.is ∙ ap (λ ps. build form.Expression c.args.place (plain_pieces ps)) (sym c.new-pieces.ensures)) c.expression_statement.ensures

pub returns-in-Labelled : goal.returns-in-Labelled
returns-in-Labelled c = makes_as c.labelled.result (ap (λ f. build f c.args.place (plain_pieces c.args.pieces.items)) c.in-Labelled.is ∙ ap (λ ps. build form.Labelled c.args.place (plain_pieces ps)) (sym c.new-pieces.ensures)) c.labelled.ensures

pub returns-in-Block : goal.returns-in-Block
returns-in-Block c = makes_as c.block.result (ap (λ f. build f c.args.place (plain_pieces c.args.pieces.items)) c.in-Block.is ∙ ap (λ ps. build form.Block c.args.place (plain_pieces ps)) (sym c.new-pieces.ensures)) c.block.ensures

pub returns-in-Variables : goal.returns-in-Variables
returns-in-Variables c = makes_as c.variables.result (ap (λ f. build f c.args.place (plain_pieces c.args.pieces.items)) c.in-Variables.is ∙ ap (λ ps. build (form.Variables c.in-Variables.kind) c.args.place (plain_pieces ps)) (sym c.new-pieces.ensures)) c.variables.ensures

pub returns-in-FunctionDeclaration : goal.returns-in-FunctionDeclaration
returns-in-FunctionDeclaration c = makes_as c.function_declaration.result (ap (λ f. build f c.args.place (plain_pieces c.args.pieces.items)) c.in-FunctionDeclaration.is ∙ ap (λ ps. build form.FunctionDeclaration c.args.place (plain_pieces ps)) (sym c.new-pieces.ensures)) c.function_declaration.ensures

pub returns-in-Empty : goal.returns-in-Empty
returns-in-Empty c = makes_as c.empty.result (ap (λ f. build f c.args.place (plain_pieces c.args.pieces.items)) c.in-Empty.is ∙ ap (λ ps. build form.Empty c.args.place (plain_pieces ps)) (sym c.new-pieces.ensures)) c.empty.ensures

pub returns-in-If : goal.returns-in-If
returns-in-If c = makes_as c.if_statement.result (ap (λ f. build f c.args.place (plain_pieces c.args.pieces.items)) c.in-If.is ∙ ap (λ ps. build form.If c.args.place (plain_pieces ps)) (sym c.new-pieces.ensures)) c.if_statement.ensures

pub returns-in-For : goal.returns-in-For
returns-in-For c = makes_as c.for_statement.result (ap (λ f. build f c.args.place (plain_pieces c.args.pieces.items)) c.in-For.is ∙ ap (λ ps. build form.For c.args.place (plain_pieces ps)) (sym c.new-pieces.ensures)) c.for_statement.ensures

pub returns-in-While : goal.returns-in-While
returns-in-While c = makes_as c.while_loop.result (ap (λ f. build f c.args.place (plain_pieces c.args.pieces.items)) c.in-While.is ∙ ap (λ ps. build form.While c.args.place (plain_pieces ps)) (sym c.new-pieces.ensures)) c.while_loop.ensures

pub returns-in-DoWhile : goal.returns-in-DoWhile
returns-in-DoWhile c = makes_as c.do_while.result (ap (λ f. build f c.args.place (plain_pieces c.args.pieces.items)) c.in-DoWhile.is ∙ ap (λ ps. build form.DoWhile c.args.place (plain_pieces ps)) (sym c.new-pieces.ensures)) c.do_while.ensures

pub returns-in-Continue : goal.returns-in-Continue
returns-in-Continue c = makes_as c.continue_statement.result (ap (λ f. build f c.args.place (plain_pieces c.args.pieces.items)) c.in-Continue.is ∙ ap (λ ps. build form.Continue c.args.place (plain_pieces ps)) (sym c.new-pieces.ensures)) c.continue_statement.ensures

pub returns-in-Break : goal.returns-in-Break
returns-in-Break c = makes_as c.break_statement.result (ap (λ f. build f c.args.place (plain_pieces c.args.pieces.items)) c.in-Break.is ∙ ap (λ ps. build form.Break c.args.place (plain_pieces ps)) (sym c.new-pieces.ensures)) c.break_statement.ensures

pub returns-in-Return : goal.returns-in-Return
returns-in-Return c = makes_as c.return_statement.result (ap (λ f. build f c.args.place (plain_pieces c.args.pieces.items)) c.in-Return.is ∙ ap (λ ps. build form.Return c.args.place (plain_pieces ps)) (sym c.new-pieces.ensures)) c.return_statement.ensures

pub returns-in-Switch : goal.returns-in-Switch
returns-in-Switch c = makes_as c.switch.result (ap (λ f. build f c.args.place (plain_pieces c.args.pieces.items)) c.in-Switch.is ∙ ap (λ ps. build form.Switch c.args.place (plain_pieces ps)) (sym c.new-pieces.ensures)) c.switch.ensures

pub returns-in-Throw : goal.returns-in-Throw
returns-in-Throw c = makes_as c.throw.result (ap (λ f. build f c.args.place (plain_pieces c.args.pieces.items)) c.in-Throw.is ∙ ap (λ ps. build form.Throw c.args.place (plain_pieces ps)) (sym c.new-pieces.ensures)) c.throw.ensures

pub returns-in-Try : goal.returns-in-Try
returns-in-Try c = makes_as c.try_statement.result (ap (λ f. build f c.args.place (plain_pieces c.args.pieces.items)) c.in-Try.is ∙ ap (λ ps. build form.Try c.args.place (plain_pieces ps)) (sym c.new-pieces.ensures)) c.try_statement.ensures

pub returns-in-Debugger : goal.returns-in-Debugger
returns-in-Debugger c = makes_as c.debugger.result (ap (λ f. build f c.args.place (plain_pieces c.args.pieces.items)) c.in-Debugger.is ∙ ap (λ ps. build form.Debugger c.args.place (plain_pieces ps)) (sym c.new-pieces.ensures)) c.debugger.ensures
