-- Parts of a file's coverage as data.
use Rattle.std.specs.Prelude.{List, map}
use Rattle.serde_json.specs.Data.{Data, array}
use Rattle.serde_json.specs.View.{items_of}
use Rattle.cov_object.specs.Json.{location_data}
use Rattle.cov_object.specs.declared.file.PathCoverage.{PathCoverage}

abbrev pub locations_data : List PathCoverage → Data
locations_data paths = array (items_of (map (λ path. location_data path.location) paths))
