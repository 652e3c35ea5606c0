-- The tree that is read again is at most twice as high as the printed one.
use Rattle.std.proofs.Common.{◌≡◌, ◌∙◌, ◌*◌, ◌≤◌, sym, ap, subst}
use Rattle.js_tree.specs.Plain.{File}
use Rattle.js_tree.specs.Height.{height_file}
use Rattle.js_layout.specs.Neat.{neat_file}
use Rattle.js_layout.specs.Unplaced.{unplaced_file}
use Rattle.js_layout.specs.Laws.{ReadsLow}
use Rattle.js_layout.proofs.HeightUnplaced.{height_unplaced_file}
use Rattle.js_layout.proofs.Raised.{raised_file}

-- trees that are alike but for places are as high
as_high : (a b : File) → unplaced_file a ≡ unplaced_file b → height_file a ≡ height_file b
as_high a b h = sym (height_unplaced_file a) ∙ ap height_file h ∙ height_unplaced_file b

pub reads_low : ReadsLow
reads_low file read = subst (λ n. n ≤ 2 * height_file file) (sym (as_high read.tree (neat_file file) read.alike)) (raised_file file)
