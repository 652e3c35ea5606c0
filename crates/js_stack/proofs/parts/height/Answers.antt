-- A part is as high as what it has.
use Rattle.std.proofs.Common.{ap, sym, rules, ◌∙◌}
use Rattle.js_reading.specs.Open.{height}
use Rattle.js_build.specs.View.{plain_piece}
use Rattle.js_stack.proofs.parts.height.Goals as goal

pub returns-in-Expression : goal.returns-in-Expression
returns-in-Expression c = c.in-Expression.operand.height_exact ∙ ap (λ piece. height (plain_piece piece)) (sym c.in-Expression.is)

pub returns-in-Statement : goal.returns-in-Statement
returns-in-Statement c = c.in-Statement.body.height_exact ∙ ap (λ piece. height (plain_piece piece)) (sym c.in-Statement.is)

pub returns-in-Statements : goal.returns-in-Statements
returns-in-Statements c = c.in-Statements.statements.height_exact ∙ ap (λ piece. height (plain_piece piece)) (sym c.in-Statements.is)

pub returns-in-Expressions : goal.returns-in-Expressions
returns-in-Expressions c = c.in-Expressions.list.height_exact ∙ ap (λ piece. height (plain_piece piece)) (sym c.in-Expressions.is)

pub returns-in_default : goal.returns-in_default
returns-in_default c = search rules
