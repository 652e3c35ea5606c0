use Rattle.std.proofs.Common.{arith}
use Rattle.js_tree.specs.declared.tree.ConciseBody.TheViews.{the_lemmas}
use Rattle.js_tree.proofs.Equations.{stmt_made, stmt_directive, stmt_block, stmt_variable_declaration, stmt_empty, stmt_expression, stmt_if, stmt_do_while, stmt_while, stmt_for, stmt_for_in, stmt_for_of, stmt_continue, stmt_break, stmt_return, stmt_switch, stmt_labelled, stmt_throw, stmt_try_catch, stmt_try_finally, stmt_try_catch_finally, stmt_debugger, stmt_function_declaration}
use Rattle.js_build.proofs.tests.is_declaration.Goals as goal

pub returns-in_default : goal.returns-in_default
returns-in_default c = grind (arith, the_lemmas, stmt_made, stmt_variable_declaration)

pub returns-in_default-2 : goal.returns-in_default-2
returns-in_default-2 c = grind (arith, the_lemmas, stmt_made, stmt_directive, stmt_block, stmt_variable_declaration, stmt_empty, stmt_expression, stmt_if, stmt_do_while, stmt_while, stmt_for, stmt_for_in, stmt_for_of, stmt_continue, stmt_break, stmt_return, stmt_switch, stmt_labelled, stmt_throw, stmt_try_catch, stmt_try_finally, stmt_try_catch_finally, stmt_debugger, stmt_function_declaration)

pub returns-in-FunctionDeclaration : goal.returns-in-FunctionDeclaration
returns-in-FunctionDeclaration c = grind (arith, stmt_made, stmt_function_declaration, stmt_variable_declaration)

pub returns-in-FunctionDeclaration-2 : goal.returns-in-FunctionDeclaration-2
returns-in-FunctionDeclaration-2 c = grind (arith, the_lemmas, stmt_made, stmt_function_declaration, stmt_variable_declaration)
