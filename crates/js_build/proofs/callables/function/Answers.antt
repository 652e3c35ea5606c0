use Rattle.std.proofs.Common.{◌∙◌, sym, ap}
use Rattle.js_tree.specs.Tree.{plain_function}
use Rattle.js_build.specs.Shapes.{if_over}
use Rattle.js_build.specs.View.{plain_pieces}
use Rattle.js_build.proofs.CallableLaws.{ended, function_whole}
use Rattle.js_build.proofs.callables.function.Goals as goal

pub returns-in-None : goal.returns-in-None
returns-in-None c = sym (function_whole (plain_pieces c.args.pieces) ∙ ap ended (sym (rw c.in-None.is at c.in_ok-callable.ensures)))

pub returns-then-is_over : goal.returns-then-is_over
returns-then-is_over c = sym (function_whole (plain_pieces c.args.pieces) ∙ (ap ended (sym (rw c.in-Some.is at c.in_ok-callable.ensures)) ∙ ap (λ b. if_over b (plain_function c.in-Some.function.tree)) (sym c.is_over.ensures ∙ c.if-is_over.true)))

pub returns-else-is_over : goal.returns-else-is_over
returns-else-is_over c = sym (function_whole (plain_pieces c.args.pieces) ∙ (ap ended (sym (rw c.in-Some.is at c.in_ok-callable.ensures)) ∙ ap (λ b. if_over b (plain_function c.in-Some.function.tree)) (sym c.is_over.ensures ∙ c.if-is_over.false)))
