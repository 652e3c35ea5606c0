use Rattle.std.proofs.Common.{◌≡◌, length}
use Rattle.js_tree.specs.Height.{height_params}
use Rattle.js_tree.specs.Tree.{plain_params}
use Rattle.js_reading.specs.Makes.{method_of}
use Rattle.js_build.specs.Callables.{prepend}
use Rattle.js_build.specs.View.{plain_pieces}
use Rattle.js_build.proofs.callables.callable.Given as goal

abbrev pub invariant-each : goal.invariant-each
invariant-each l = record {
  made : prepend (plain_params l.items) (method_of (plain_pieces l.pieces)) ≡ method_of (plain_pieces l.initial.pieces);
  high : l.height ≡ height_params (plain_params l.items);
}

abbrev pub decreases-each : goal.decreases-each
decreases-each l = length l.pieces
