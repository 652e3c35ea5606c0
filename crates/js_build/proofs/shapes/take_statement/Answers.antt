use Rattle.std.proofs.Common.{◌∙◌, ◌∷◌, sym, ap, rules}
use Rattle.js_build.specs.Shapes.{first_stmt}
use Rattle.js_build.specs.View.{plain_pieces}
use Rattle.js_build.proofs.shapes.take_statement.Goals as goal

pub returns-in-Some-Statement : goal.returns-in-Some-Statement
returns-in-Some-Statement c = sym (ap (λ ps. first_stmt (plain_pieces ps)) (c.in-Some-Statement.ensures.next ∙ ap (λ p. p ∷ c.next.new.self) c.in-Some-Statement.field-0-is))

pub returns-in_default : goal.returns-in_default
returns-in_default c = search rules
