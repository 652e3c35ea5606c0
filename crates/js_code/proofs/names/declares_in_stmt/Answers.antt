use Rattle.std.proofs.Common.{Some, false, sym, ap, ◌∙◌}
use Rattle.js_tree.proofs.Equations as tree
use Rattle.js_meaning.specs.VarNames.{declares}
use Rattle.js_walk.specs.Part.{AStmt}
use Rattle.js_code.proofs.Statements.{of_node}
use Rattle.js_code.proofs.names.declares_in_stmt.Goals as goal

pub returns-in-Directive : goal.returns-in-Directive
returns-in-Directive c = ap (λ s. declares false (AStmt s)) (sym (of_node c.args.stmt.now c.in-Directive.is (tree.stmt_directive _ _)))

pub returns-in-Block : goal.returns-in-Block
returns-in-Block c = ap (λ s. declares false (AStmt s)) (sym (of_node c.args.stmt.now c.in-Block.is (tree.stmt_block _ _)))

pub returns-in-Empty : goal.returns-in-Empty
returns-in-Empty c = ap (λ s. declares false (AStmt s)) (sym (of_node c.args.stmt.now c.in-Empty.is (tree.stmt_empty _)))

pub returns-in-Expression : goal.returns-in-Expression
returns-in-Expression c = ap (λ s. declares false (AStmt s)) (sym (of_node c.args.stmt.now c.in-Expression.is (tree.stmt_expression _ _)))

pub returns-in-If : goal.returns-in-If
returns-in-If c = ap (λ s. declares false (AStmt s)) (sym (of_node c.args.stmt.now c.in-If.is (tree.stmt_if _ _ _ _)))

pub returns-in-DoWhile : goal.returns-in-DoWhile
returns-in-DoWhile c = ap (λ s. declares false (AStmt s)) (sym (of_node c.args.stmt.now c.in-DoWhile.is (tree.stmt_do_while _ _ _)))

pub returns-in-While : goal.returns-in-While
returns-in-While c = ap (λ s. declares false (AStmt s)) (sym (of_node c.args.stmt.now c.in-While.is (tree.stmt_while _ _ _)))

pub returns-in-For : goal.returns-in-For
returns-in-For c = ap (λ s. declares false (AStmt s)) (sym (of_node c.args.stmt.now c.in-For.is (tree.stmt_for _ _ _ _ _)))

pub returns-in-ForIn : goal.returns-in-ForIn
returns-in-ForIn c = ap (λ s. declares false (AStmt s)) (sym (of_node c.args.stmt.now c.in-ForIn.is (tree.stmt_for_in _ _ _ _)))

pub returns-in-ForOf : goal.returns-in-ForOf
returns-in-ForOf c = ap (λ s. declares false (AStmt s)) (sym (of_node c.args.stmt.now c.in-ForOf.is (tree.stmt_for_of _ _ _ _)))

pub returns-in-Continue : goal.returns-in-Continue
returns-in-Continue c = ap (λ s. declares false (AStmt s)) (sym (of_node c.args.stmt.now c.in-Continue.is (tree.stmt_continue _ _)))

pub returns-in-Break : goal.returns-in-Break
returns-in-Break c = ap (λ s. declares false (AStmt s)) (sym (of_node c.args.stmt.now c.in-Break.is (tree.stmt_break _ _)))

pub returns-in-Return : goal.returns-in-Return
returns-in-Return c = ap (λ s. declares false (AStmt s)) (sym (of_node c.args.stmt.now c.in-Return.is (tree.stmt_return _ _)))

pub returns-in-Switch : goal.returns-in-Switch
returns-in-Switch c = ap (λ s. declares false (AStmt s)) (sym (of_node c.args.stmt.now c.in-Switch.is (tree.stmt_switch _ _ _)))

pub returns-in-Labelled : goal.returns-in-Labelled
returns-in-Labelled c = ap (λ s. declares false (AStmt s)) (sym (of_node c.args.stmt.now c.in-Labelled.is (tree.stmt_labelled _ _ _)))

pub returns-in-Throw : goal.returns-in-Throw
returns-in-Throw c = ap (λ s. declares false (AStmt s)) (sym (of_node c.args.stmt.now c.in-Throw.is (tree.stmt_throw _ _)))

pub returns-in-TryCatch : goal.returns-in-TryCatch
returns-in-TryCatch c = ap (λ s. declares false (AStmt s)) (sym (of_node c.args.stmt.now c.in-TryCatch.is (tree.stmt_try_catch _ _ _)))

pub returns-in-TryFinally : goal.returns-in-TryFinally
returns-in-TryFinally c = ap (λ s. declares false (AStmt s)) (sym (of_node c.args.stmt.now c.in-TryFinally.is (tree.stmt_try_finally _ _ _)))

pub returns-in-TryCatchFinally : goal.returns-in-TryCatchFinally
returns-in-TryCatchFinally c = ap (λ s. declares false (AStmt s)) (sym (of_node c.args.stmt.now c.in-TryCatchFinally.is (tree.stmt_try_catch_finally _ _ _ _)))

pub returns-in-Debugger : goal.returns-in-Debugger
returns-in-Debugger c = ap (λ s. declares false (AStmt s)) (sym (of_node c.args.stmt.now c.in-Debugger.is (tree.stmt_debugger _)))

pub returns-in-FunctionDeclaration : goal.returns-in-FunctionDeclaration
returns-in-FunctionDeclaration c = ap (λ s. declares false (AStmt s)) (sym (of_node c.args.stmt.now c.in-FunctionDeclaration.is (tree.stmt_function_declaration _ _ _)))

pub returns-in-VariableDeclaration : goal.returns-in-VariableDeclaration
returns-in-VariableDeclaration c = ap Some c.is_the_var.ensures ∙ ap (λ s. declares false (AStmt s)) (sym (of_node c.args.stmt.now c.in-VariableDeclaration.is (tree.stmt_variable_declaration _ _ _)))
