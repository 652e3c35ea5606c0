use Rattle.std.proofs.Common.{◌≡◌}
use Rattle.js_tree.specs.Height.{height_properties}
use Rattle.js_tree.specs.Tree.{plain_properties}
use Rattle.js_reading.specs.Makes.{length_of}
use Rattle.js_build.specs.Objects.{all_properties}
use Rattle.js_build.specs.View.{plain_pieces}
use Rattle.js_build.proofs.ObjectLaws.{front}
use Rattle.js_build.proofs.objects.properties.Given as goal

abbrev pub invariant-each : goal.invariant-each
invariant-each l = record {
  made : front (plain_properties l.items) (all_properties (plain_pieces l.pieces)) ≡ all_properties (plain_pieces l.initial.pieces);
  high : l.height ≡ height_properties (plain_properties l.items);
}

abbrev pub decreases-each : goal.decreases-each
decreases-each l = length_of (plain_pieces l.pieces)
