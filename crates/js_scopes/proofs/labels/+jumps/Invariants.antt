-- What is left of a list is found after what is found already, and the labels stay.
use Rattle.std.proofs.Common.{◌≡◌, ◌++◌, drop}
use Rattle.js_scopes.specs.Labels.{jumps_stmts, jumps_cases}
use Rattle.js_scopes.specs.private.Plain.{plain_around}
use Rattle.js_tree.specs.Tree.{plain_stmts, plain_cases}
use Rattle.js_scopes.proofs.labels.+jumps.Given as goal

abbrev pub invariant-in_stmts-loop-stmt : goal.invariant-in_stmts-loop-stmt
invariant-in_stmts-loop-stmt l = record {
  found : l.out ++ jumps_stmts (plain_stmts (drop l.stmt-index l.list)) (plain_around l.fn.labels.items l.inside) ≡ l.fn.out ++ jumps_stmts (plain_stmts l.list) (plain_around l.fn.labels.items l.inside);
  labels : l.labels.items ≡ l.fn.labels.items;
}

abbrev pub invariant-in_cases-loop-case : goal.invariant-in_cases-loop-case
invariant-in_cases-loop-case l = record {
  found : l.out ++ jumps_cases (plain_cases (drop l.case-index l.list)) (plain_around l.fn.labels.items l.inside) ≡ l.fn.out ++ jumps_cases (plain_cases l.list) (plain_around l.fn.labels.items l.inside);
  labels : l.labels.items ≡ l.fn.labels.items;
}
