use Rattle.std.proofs.Common.{◌≡◌, Some, codes, rules}
use Rattle.serde_json.specs.Find.{get}
use Rattle.serde_json.specs.View.{view}
use Rattle.cov_object.specs.SourceMapText.{most_depth}
use Rattle.cov_object.proofs.ReadFiles.{get-depth}
use Rattle.cov_object.proofs.parts.source_map_in.Goals as goal

pub from_value-requires : goal.from_value-requires
from_value-requires c =
    let found : get (codes "inputSourceMap") (view c.args.file.now) ≡ Some (view c.in-Some.map.now) = search rules in
    get-depth (codes "inputSourceMap") (view c.args.file.now) (view c.in-Some.map.now) most_depth found c.requires
