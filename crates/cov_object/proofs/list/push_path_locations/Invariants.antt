-- With the paths that are left, the text is the whole.
use Rattle.std.proofs.Common.{◌≡◌, ◌++◌, map, drop, nat_lt}
use Rattle.serde_json.specs.Data.{array}
use Rattle.serde_json.specs.View.{items_of}
use Rattle.serde_json.specs.Written.{compact_text, items_text}
use Rattle.cov_object.specs.Json.{location_data}
use Rattle.cov_object.proofs.list.push_path_locations.Given as goal

abbrev pub invariant-loop-place : goal.invariant-loop-place
invariant-loop-place l =
    l.out.items ++ items_text (nat_lt 0 l.place) (items_of (map (λ path. location_data path.location) (drop l.place l.paths)))
    ≡ l.fn.out.items ++ compact_text (array (items_of (map (λ path. location_data path.location) l.paths)))
