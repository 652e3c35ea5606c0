use Rattle.std.proofs.Common.{◌≡◌, length}
use Rattle.js_tree.specs.Height.{height_declarators}
use Rattle.js_tree.specs.Tree.{plain_declarators}
use Rattle.js_reading.specs.Makes.{declarators_of}
use Rattle.js_build.specs.DeclaratorPieces.{front, settled}
use Rattle.js_build.specs.View.{plain_pieces}
use Rattle.js_build.proofs.declarations.declarators.Given as goal

abbrev pub invariant-each : goal.invariant-each
invariant-each l = record {
  made : front (plain_declarators l.items) (settled (declarators_of l.strict (plain_pieces l.pieces))) ≡ front (plain_declarators l.initial.items) (settled (declarators_of l.strict (plain_pieces l.initial.pieces)));
  high : l.height ≡ height_declarators (plain_declarators l.items);
}

abbrev pub decreases-each : goal.decreases-each
decreases-each l = length l.pieces
