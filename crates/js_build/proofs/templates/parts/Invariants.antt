use Rattle.std.proofs.Common.{◌≡◌, length}
use Rattle.js_tree.specs.Height.{height_template_parts}
use Rattle.js_tree.specs.Tree.{plain_template_parts}
use Rattle.js_reading.specs.Makes.{template_parts}
use Rattle.js_build.specs.View.{plain_pieces}
use Rattle.js_build.proofs.ListLaws.{front_parts}
use Rattle.js_build.proofs.templates.parts.Given as goal

abbrev pub invariant-each : goal.invariant-each
invariant-each l = record {
  made : front_parts (plain_template_parts l.items) (template_parts (plain_pieces l.pieces)) ≡ template_parts (plain_pieces l.initial.pieces);
  high : l.height ≡ height_template_parts (plain_template_parts l.items);
}

abbrev pub decreases-each : goal.decreases-each
decreases-each l = length l.pieces
