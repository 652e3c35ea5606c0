-- The parts so far nest no deeper.
use Rattle.std.proofs.Common.{◌≤◌, take, map}
use Rattle.cov_object.specs.Data.{deepest, depth_of, property_depth}
use Rattle.cov_object.proofs.data.+nests.Given as goal

abbrev pub invariant-items_nest_within-loop-item : goal.invariant-items_nest_within-loop-item
invariant-items_nest_within-loop-item l = deepest (map depth_of (take l.item-index l.items)) ≤ l.depth

abbrev pub invariant-properties_nest_within-loop-property : goal.invariant-properties_nest_within-loop-property
invariant-properties_nest_within-loop-property l = deepest (map property_depth (take l.property-index l.properties)) ≤ l.depth
