use Rattle.std.proofs.Common.{◌∙◌, ◌∷◌, sym, ap, arith, rules}
use Rattle.js_tree.specs.Tree.{plain_expr, plain_stmts}
use Rattle.js_build.specs.Lists.{clause_of}
use Rattle.js_build.specs.View.{plain_pieces}
use Rattle.js_build.proofs.ListLaws.{clause_tested, clause_untested, tested, untested}
use Rattle.js_build.proofs.switches.clause.Goals as goal

pub returns-in-None-clause-read : goal.returns-in-None-clause-read
returns-in-None-clause-read c = sym (ap (λ ps. clause_of (plain_pieces ps)) (c.in-Some-Expression.ensures.next ∙ ap (λ p. p ∷ c.next.new.self) c.in-Some-Expression.field-0-is) ∙ (clause_tested c.in-Some-Expression.test.level (plain_expr c.in-Some-Expression.test.tree) (plain_pieces c.next.new.self) ∙ ap (tested (plain_expr c.in-Some-Expression.test.tree)) (sym c.in-None.ensures.read)))

pub returns-in-Some-clause-read : goal.returns-in-Some-clause-read
returns-in-Some-clause-read c = sym (ap (λ ps. clause_of (plain_pieces ps)) (c.in-Some-Expression.ensures.next ∙ ap (λ p. p ∷ c.next.new.self) c.in-Some-Expression.field-0-is) ∙ (clause_tested c.in-Some-Expression.test.level (plain_expr c.in-Some-Expression.test.tree) (plain_pieces c.next.new.self) ∙ ap (tested (plain_expr c.in-Some-Expression.test.tree)) (sym c.in-Some.ensures.read)))

pub returns-in-None-take_place-clause-read : goal.returns-in-None-take_place-clause-read
returns-in-None-take_place-clause-read c = sym (ap (λ ps. clause_of (plain_pieces ps)) (c.in-Some-Statements.ensures.next ∙ ap (λ p. p ∷ c.next.new.self) c.in-Some-Statements.field-0-is) ∙ (clause_untested (plain_stmts c.in-Some-Statements.statements.items) (plain_pieces c.next.new.self) ∙ ap (untested (plain_stmts c.in-Some-Statements.statements.items)) (sym c.in-None-take_place.ensures.read)))

pub returns-in-Some-take_place-clause-read : goal.returns-in-Some-take_place-clause-read
returns-in-Some-take_place-clause-read c = sym (ap (λ ps. clause_of (plain_pieces ps)) (c.in-Some-Statements.ensures.next ∙ ap (λ p. p ∷ c.next.new.self) c.in-Some-Statements.field-0-is) ∙ (clause_untested (plain_stmts c.in-Some-Statements.statements.items) (plain_pieces c.next.new.self) ∙ ap (untested (plain_stmts c.in-Some-Statements.statements.items)) (sym c.in-Some-take_place.ensures.read)))

pub returns-in-None-clause-shorter : goal.returns-in-None-clause-shorter
returns-in-None-clause-shorter c = omega (arith, c.in-Some-Expression.ensures.shorter, c.in-None.ensures.shorter)

pub returns-in-Some-clause-shorter : goal.returns-in-Some-clause-shorter
returns-in-Some-clause-shorter c = omega (arith, c.in-Some-Expression.ensures.shorter, c.in-Some.ensures.shorter)

pub returns-in-None-take_place-clause-shorter : goal.returns-in-None-take_place-clause-shorter
returns-in-None-take_place-clause-shorter c = omega (arith, c.in-Some-Statements.ensures.shorter, c.in-None-take_place.ensures.shorter)

pub returns-in-Some-take_place-clause-shorter : goal.returns-in-Some-take_place-clause-shorter
returns-in-Some-take_place-clause-shorter c = omega (arith, c.in-Some-Statements.ensures.shorter, c.in-Some-take_place.ensures.shorter)

pub returns-in_default-clause-read : goal.returns-in_default-clause-read
returns-in_default-clause-read c = search rules

pub returns-in_default-clause-shorter : goal.returns-in_default-clause-shorter
returns-in_default-clause-shorter c = c.next.ensures.shorter
