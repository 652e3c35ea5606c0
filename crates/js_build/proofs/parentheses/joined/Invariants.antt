use Rattle.std.proofs.Common.{◌≡◌, length}
use Rattle.js_tree.specs.Tree.{plain_expr, plain_exprs}
use Rattle.js_build.specs.Parentheses.{joined}
use Rattle.js_build.proofs.parentheses.joined.Given as goal

abbrev pub invariant-each : goal.invariant-each
invariant-each l = joined (plain_expr l.made) (plain_exprs l.left) ≡ joined (plain_expr l.fn.first) (plain_exprs l.fn.rest)

abbrev pub decreases-each : goal.decreases-each
decreases-each l = length l.left
