-- What is left of the cases comes after what is out already.
use Rattle.std.proofs.Common.{◌≡◌, ◌++◌, drop}
use Rattle.cov_hints.specs.Left.{left_of}
use Rattle.js_tree.specs.Hints.{case_paths}
use Rattle.js_tree.specs.Tree.{plain_cases}
use Rattle.cov_maps.proofs.paths.push_case_paths.Given as goal

abbrev pub invariant-loop-case : goal.invariant-loop-case
invariant-loop-case l = l.out ++ case_paths (left_of l.left) (plain_cases (drop l.case-index l.cases)) ≡ l.fn.out ++ case_paths (left_of l.left) (plain_cases l.cases)
