-- What is out, with what waits.
use Rattle.js_tree.specs.Tree.{plain_stmts}
use Rattle.cov_rewrite.proofs.Directives.{Waits}
use Rattle.cov_rewrite.proofs.blocks.after_directives.Given as goal

abbrev pub invariant-loop-statement : goal.invariant-loop-statement
invariant-loop-statement l = Waits (plain_stmts l.fn.inserted) (plain_stmts l.yielded) (plain_stmts l.out) l.waiting
