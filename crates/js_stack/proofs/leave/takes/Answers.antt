-- An operand has a bare `in` where its tree has one.
use Rattle.js_tree.specs.Tree.{plain_expr}
use Rattle.js_stack.proofs.leave.takes.Goals as goal

pub returns : goal.returns
returns c = c.fits.ensures (plain_expr c.args.operand.now.tree) c.args.operand.now.bare_exact
