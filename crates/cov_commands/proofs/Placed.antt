-- The constructs of a text that was read stand somewhere.
use Rattle.std.proofs.Common.{◌≡◌, ℕ, List, sym, subst}
use Rattle.js_tree.specs.Plain.{File}
use Rattle.js_terms.specs.declared.construct.Construct.{Construct}
use Rattle.js_walk.specs.Constructs.{constructs_file}
use Rattle.js_reading.specs.Reads.{Reads}
use Rattle.js_reading.proofs.placed.PlacedTexts.{reads_placed}
use Rattle.cov_maps.specs.Placed.{ArePlaced}

pub placed : {text : List ℕ} {tree : File} {list : List Construct} → Reads text tree → list ≡ constructs_file tree → ArePlaced list
placed {text = text} {tree = tree} reads same = subst ArePlaced (sym same) (reads_placed text tree reads)
