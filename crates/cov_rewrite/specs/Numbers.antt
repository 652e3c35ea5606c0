-- The next numbers that the code keeps.
use Rattle.js_tree.specs.Linked.{Counts}
use Rattle.cov_rewrite.specs.declared.numbering.Numbers.{Numbers}

abbrev pub counts_of : Numbers → Counts
counts_of n = record { statements = n.statements; functions = n.functions; branches = n.branches }
