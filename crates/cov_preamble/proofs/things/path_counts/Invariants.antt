-- Those so far.
use Rattle.std.proofs.Common.{◌≡◌, map, take}
use Rattle.serde_json.specs.View.{items_of}
use Rattle.js_tree.specs.Tree.{plain_exprs}
use Rattle.cov_object.specs.Json.{count_data}
use Rattle.cov_rewritten.specs.Preamble.{literals}
use Rattle.cov_preamble.proofs.things.path_counts.Given as goal

abbrev pub invariant-loop-path : goal.invariant-loop-path
invariant-loop-path l = plain_exprs l.list ≡ literals (items_of (map (λ path. count_data path.count) (take l.path-index l.paths)))
