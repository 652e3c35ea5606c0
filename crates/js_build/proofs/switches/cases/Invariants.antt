use Rattle.std.proofs.Common.{◌≡◌, false, length}
use Rattle.js_tree.specs.Height.{height_cases}
use Rattle.js_tree.specs.Tree.{plain_cases}
use Rattle.js_reading.specs.Makes.{cases_of}
use Rattle.js_build.specs.View.{plain_pieces}
use Rattle.js_build.proofs.ListLaws.{front_cases}
use Rattle.js_build.proofs.switches.cases.Given as goal

abbrev pub invariant-each : goal.invariant-each
invariant-each l = record {
  made : front_cases (plain_cases l.items) (cases_of l.defaulted (plain_pieces l.pieces)) ≡ cases_of false (plain_pieces l.initial.pieces);
  high : l.height ≡ height_cases (plain_cases l.items);
}

abbrev pub decreases-each : goal.decreases-each
decreases-each l = length l.pieces
