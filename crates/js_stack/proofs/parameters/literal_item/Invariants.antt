-- What is left of the items has the first of them, where none was before.
use Rattle.std.proofs.Common.{◌≡◌, drop}
use Rattle.js_tree.specs.Tree.{plain_exprs}
use Rattle.js_reading.specs.Found.{literal_item}
use Rattle.js_stack.proofs.parameters.literal_item.Given as goal

abbrev pub invariant-loop-expression : goal.invariant-loop-expression
invariant-loop-expression l = literal_item (plain_exprs (drop l.expression-index l.expressions)) ≡ literal_item (plain_exprs l.expressions)
