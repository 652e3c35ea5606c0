use Rattle.std.proofs.Common.{◌∙◌, ◌∷◌, Some, sym, ap, rules}
use Rattle.js_tree.specs.Plain as tree
use Rattle.js_tree.specs.Tree.{plain_stmts}
use Rattle.js_reading.specs.Makes.{build}
use Rattle.js_reading.specs.Slots.{AStmt, TheStmts}
use Rattle.js_reading.specs.declared.form.Form.TheVariants as form
use Rattle.js_build.specs.Shapes.{if_over}
use Rattle.js_build.specs.View.{plain_pieces}
use Rattle.js_build.proofs.MadeAs.{makes_as}
use Rattle.js_build.proofs.TryForms.{try_finally, try_missing, try_word}
use Rattle.js_build.proofs.tries.after_block.Goals as goal

pub returns-in-Some-Missing : goal.returns-in-Some-Missing
returns-in-Some-Missing c = makes_as c.handled.result (ap (λ ps. build form.Try c.args.place (TheStmts (plain_stmts c.args.block.items) ∷ plain_pieces ps)) (c.in-Some-Missing.ensures.next ∙ ap (λ p. p ∷ c.next.new.self) c.in-Some-Missing.field-0-is) ∙ try_missing c.args.place (plain_stmts c.args.block.items) (plain_pieces c.next.new.self)) c.handled.ensures

pub returns-in-Some-Word : goal.returns-in-Some-Word
returns-in-Some-Word c = makes_as c.handled-in-Some-Word.result (ap (λ ps. build form.Try c.args.place (TheStmts (plain_stmts c.args.block.items) ∷ plain_pieces ps)) (c.in-Some-Word.ensures.next ∙ ap (λ p. p ∷ c.next.new.self) c.in-Some-Word.field-0-is) ∙ try_word c.args.place (plain_stmts c.args.block.items) c.in-Some-Word.name c.in-Some-Word.at (plain_pieces c.next.new.self)) c.handled-in-Some-Word.ensures

pub returns-then-is_over : goal.returns-then-is_over
returns-then-is_over c = makes_as c.finally_node.result (ap (λ ps. build form.Try c.args.place (TheStmts (plain_stmts c.args.block.items) ∷ plain_pieces ps)) (c.in-Some-Statements.ensures.next ∙ ap (λ p. p ∷ c.next.new.self) c.in-Some-Statements.field-0-is) ∙ (try_finally c.args.place (plain_stmts c.args.block.items) (plain_stmts c.in-Some-Statements.last.items) (plain_pieces c.next.new.self) ∙ ap (λ b. if_over b (AStmt (tree.TryFinally (Some c.args.place) (plain_stmts c.args.block.items) (plain_stmts c.in-Some-Statements.last.items)))) (sym c.is_over.ensures ∙ c.if-is_over.true))) c.finally_node.ensures

pub returns-else-is_over : goal.returns-else-is_over
returns-else-is_over c = makes_as c.nothing.result (ap (λ ps. build form.Try c.args.place (TheStmts (plain_stmts c.args.block.items) ∷ plain_pieces ps)) (c.in-Some-Statements.ensures.next ∙ ap (λ p. p ∷ c.next.new.self) c.in-Some-Statements.field-0-is) ∙ (try_finally c.args.place (plain_stmts c.args.block.items) (plain_stmts c.in-Some-Statements.last.items) (plain_pieces c.next.new.self) ∙ ap (λ b. if_over b (AStmt (tree.TryFinally (Some c.args.place) (plain_stmts c.args.block.items) (plain_stmts c.in-Some-Statements.last.items)))) (sym c.is_over.ensures ∙ c.if-is_over.false))) c.nothing.ensures

pub returns-in_default : goal.returns-in_default
returns-in_default c = search rules
