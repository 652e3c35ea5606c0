-- What was made is what the parts so far are.
use Rattle.std.proofs.Common.{◌≡◌, ◌≤◌, take, map}
use Rattle.serde_json.specs.Data.{items_depth, members_depth}
use Rattle.serde_json.specs.View.{view, items_view, members_view}
use Rattle.cov_object.specs.Data.{value_of, member_of, deepest, depth_of, property_depth}
use Rattle.cov_object.specs.Json.{by_key}
use Rattle.cov_object.proofs.data.+value.Given as goal

abbrev pub invariant-values_of-loop-item : goal.invariant-values_of-loop-item
invariant-values_of-loop-item l =
    (map view l.values.items ≡ map value_of (take l.item-index l.items))
    × (items_depth (items_view l.values.items) ≤ deepest (map depth_of (take l.item-index l.items)))

abbrev pub invariant-members_of-loop-property : goal.invariant-members_of-loop-property
invariant-members_of-loop-property l =
    (members_view l.members.entries ≡ by_key (map member_of (take l.property-index l.properties)))
    × (members_depth (members_view l.members.entries) ≤ deepest (map property_depth (take l.property-index l.properties)))
