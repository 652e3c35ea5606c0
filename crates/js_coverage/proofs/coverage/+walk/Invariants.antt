-- Each call goes a level down, or comes nearer to one that does. What a loop made stands before what the rest makes.
use Rattle.std.proofs.Common.{◌≡◌, ◌+◌, ◌*◌, ◌++◌, drop, option_map}
use Rattle.js_heap.specs.Heap.{heap_of}
use Rattle.js_coverage.specs.Coverage.{items_data, properties_data, data_within}
use Rattle.js_coverage.proofs.coverage.+walk.Given as goal

abbrev pub decreases-value_data : goal.decreases-value_data
decreases-value_data l = 6 * l.levels + 1

abbrev pub decreases-object_within : goal.decreases-object_within
decreases-object_within l = 6 * l.levels

abbrev pub decreases-object_data : goal.decreases-object_data
decreases-object_data l = 6 * l.levels + 5

abbrev pub decreases-array_data : goal.decreases-array_data
decreases-array_data l = 6 * l.levels + 4

abbrev pub decreases-own_data : goal.decreases-own_data
decreases-own_data l = 6 * l.levels + 4

abbrev pub decreases-items_data : goal.decreases-items_data
decreases-items_data l = 6 * l.levels + 3

abbrev pub decreases-properties_data : goal.decreases-properties_data
decreases-properties_data l = 6 * l.levels + 3

abbrev pub decreases-property_data : goal.decreases-property_data
decreases-property_data l = 6 * l.levels + 2

abbrev pub invariant-items_data-loop-value : goal.invariant-items_data-loop-value
invariant-items_data-loop-value l =
    option_map (λ rest. l.items ++ rest) (items_data (data_within l.levels (heap_of l.heap)) (drop l.value-index l.values))
    ≡ items_data (data_within l.levels (heap_of l.heap)) l.values

abbrev pub invariant-properties_data-loop-key : goal.invariant-properties_data-loop-key
invariant-properties_data-loop-key l =
    option_map (λ rest. l.properties ++ rest) (properties_data (data_within l.levels (heap_of l.heap)) (heap_of l.heap) l.object.index (drop l.key-index l.keys))
    ≡ properties_data (data_within l.levels (heap_of l.heap)) (heap_of l.heap) l.object.index l.keys
