use Rattle.std.proofs.Common.{◌≡◌, length}
use Rattle.js_tree.specs.Tree.{plain_stmts}
use Rattle.js_reading.specs.Makes as makes
use Rattle.js_build.proofs.Directives.{joined, rest}
use Rattle.js_build.proofs.prologue.with_directives.Given as goal

abbrev pub invariant-each : goal.invariant-each
invariant-each l = joined (plain_stmts l.items) (rest l.prologue (plain_stmts l.left)) ≡ makes.with_directives (plain_stmts l.fn.statements.items)

abbrev pub decreases-each : goal.decreases-each
decreases-each l = length l.left
