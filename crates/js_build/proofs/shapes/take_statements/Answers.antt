use Rattle.std.proofs.Common.{◌∙◌, ◌∷◌, sym, ap, rules}
use Rattle.js_build.specs.Shapes.{first_stmts}
use Rattle.js_build.specs.View.{plain_pieces}
use Rattle.js_build.proofs.shapes.take_statements.Goals as goal

pub returns-in-Some-Statements-clause-read : goal.returns-in-Some-Statements-clause-read
returns-in-Some-Statements-clause-read c = sym (ap (λ ps. first_stmts (plain_pieces ps)) (c.in-Some-Statements.ensures.next ∙ ap (λ p. p ∷ c.next.new.self) c.in-Some-Statements.field-0-is))

pub returns-in-Some-Statements-clause-shorter : goal.returns-in-Some-Statements-clause-shorter
returns-in-Some-Statements-clause-shorter c = c.in-Some-Statements.ensures.shorter

pub returns-in_default-clause-read : goal.returns-in_default-clause-read
returns-in_default-clause-read c = search rules

pub returns-in_default-clause-shorter : goal.returns-in_default-clause-shorter
returns-in_default-clause-shorter c = c.next.ensures.shorter
