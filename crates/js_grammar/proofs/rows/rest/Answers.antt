use Rattle.std.proofs.Common.{◌∙◌, sym, ap}
use Rattle.js_reading.specs.Productions.{slots}
use Rattle.js_grammar.specs.View.{after_told}
use Rattle.js_grammar.proofs.rows.rest.Goals as goal

pub returns-in-Parentheses : goal.returns-in-Parentheses
returns-in-Parentheses c = ap (λ f. after_told (slots f)) (sym c.in-Parentheses.is)

pub returns-in-ArrayLiteral : goal.returns-in-ArrayLiteral
returns-in-ArrayLiteral c = ap (λ f. after_told (slots f)) (sym c.in-ArrayLiteral.is)

pub returns-in-ObjectLiteral : goal.returns-in-ObjectLiteral
returns-in-ObjectLiteral c = ap (λ f. after_told (slots f)) (sym c.in-ObjectLiteral.is)

pub returns-in-Template : goal.returns-in-Template
returns-in-Template c = ap (λ f. after_told (slots f)) (sym c.in-Template.is)

pub returns-in-FunctionExpression : goal.returns-in-FunctionExpression
returns-in-FunctionExpression c = ap (λ f. after_told (slots f)) (sym c.in-FunctionExpression.is)

pub returns-in-New : goal.returns-in-New
returns-in-New c = ap (λ f. after_told (slots f)) (sym c.in-New.is)

pub returns-in-Call : goal.returns-in-Call
returns-in-Call c = ap (λ f. after_told (slots f)) (sym c.in-Call.is)

pub returns-in-Dot : goal.returns-in-Dot
returns-in-Dot c = ap (λ f. after_told (slots f)) (sym c.in-Dot.is)

pub returns-in-Member : goal.returns-in-Member
returns-in-Member c = ap (λ f. after_told (slots f)) (sym c.in-Member.is)

pub returns-in-Postfix : goal.returns-in-Postfix
returns-in-Postfix c = ap (λ f. after_told (slots f)) (sym c.in-Postfix.is)

pub returns-in-PrefixUpdate : goal.returns-in-PrefixUpdate
returns-in-PrefixUpdate c = ap (λ f. after_told (slots f)) (sym c.in-PrefixUpdate.is)

pub returns-in-Unary : goal.returns-in-Unary
returns-in-Unary c = ap (λ f. after_told (slots f)) (sym c.in-Unary.is)

pub returns-in-Binary : goal.returns-in-Binary
returns-in-Binary c = c.operand.ensures ∙ ap (λ f. after_told (slots f)) (sym c.in-Binary.is)

pub returns-in-Logical : goal.returns-in-Logical
returns-in-Logical c = c.logical_operand.ensures ∙ ap (λ f. after_told (slots f)) (sym c.in-Logical.is)

pub returns-in-Conditional : goal.returns-in-Conditional
returns-in-Conditional c = ap (λ f. after_told (slots f)) (sym c.in-Conditional.is)

pub returns-in-Assignment : goal.returns-in-Assignment
returns-in-Assignment c = ap (λ f. after_told (slots f)) (sym c.in-Assignment.is)

pub returns-in-ArrowOfName : goal.returns-in-ArrowOfName
returns-in-ArrowOfName c = ap (λ f. after_told (slots f)) (sym c.in-ArrowOfName.is)

pub returns-in-Comma : goal.returns-in-Comma
returns-in-Comma c = ap (λ f. after_told (slots f)) (sym c.in-Comma.is)

pub returns-in-Expression : goal.returns-in-Expression
returns-in-Expression c = ap (λ f. after_told (slots f)) (sym c.in-Expression.is)

pub returns-in-Labelled : goal.returns-in-Labelled
returns-in-Labelled c = ap (λ f. after_told (slots f)) (sym c.in-Labelled.is)

pub returns-in-Block : goal.returns-in-Block
returns-in-Block c = ap (λ f. after_told (slots f)) (sym c.in-Block.is)

pub returns-in-Variables : goal.returns-in-Variables
returns-in-Variables c = ap (λ f. after_told (slots f)) (sym c.in-Variables.is)

pub returns-in-FunctionDeclaration : goal.returns-in-FunctionDeclaration
returns-in-FunctionDeclaration c = ap (λ f. after_told (slots f)) (sym c.in-FunctionDeclaration.is)

pub returns-in-If : goal.returns-in-If
returns-in-If c = ap (λ f. after_told (slots f)) (sym c.in-If.is)

pub returns-in-For : goal.returns-in-For
returns-in-For c = ap (λ f. after_told (slots f)) (sym c.in-For.is)

pub returns-in-While : goal.returns-in-While
returns-in-While c = ap (λ f. after_told (slots f)) (sym c.in-While.is)

pub returns-in-DoWhile : goal.returns-in-DoWhile
returns-in-DoWhile c = ap (λ f. after_told (slots f)) (sym c.in-DoWhile.is)

pub returns-in-Continue : goal.returns-in-Continue
returns-in-Continue c = ap (λ f. after_told (slots f)) (sym c.in-Continue.is)

pub returns-in-Break : goal.returns-in-Break
returns-in-Break c = ap (λ f. after_told (slots f)) (sym c.in-Break.is)

pub returns-in-Return : goal.returns-in-Return
returns-in-Return c = ap (λ f. after_told (slots f)) (sym c.in-Return.is)

pub returns-in-Switch : goal.returns-in-Switch
returns-in-Switch c = ap (λ f. after_told (slots f)) (sym c.in-Switch.is)

pub returns-in-Throw : goal.returns-in-Throw
returns-in-Throw c = ap (λ f. after_told (slots f)) (sym c.in-Throw.is)

pub returns-in-Try : goal.returns-in-Try
returns-in-Try c = ap (λ f. after_told (slots f)) (sym c.in-Try.is)

pub returns-in-Empty : goal.returns-in-Empty
returns-in-Empty c = ap (λ f. after_told (slots f)) (sym c.in-Empty.is)

pub returns-in-Debugger : goal.returns-in-Debugger
returns-in-Debugger c = ap (λ f. after_told (slots f)) (sym c.in-Debugger.is)
