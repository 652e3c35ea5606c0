use Rattle.std.proofs.Common.{◌≡◌}
use Rattle.js_heap.specs.Heap.{heap_of}
use Rattle.js_code.specs.Code.{reader}
use Rattle.js_code.specs.Part.{as_properties}
use Rattle.js_meaning.specs.Prelude.{properties_made}
use Rattle.js_machine.proofs.opening.make_properties.Given as goal

abbrev pub invariant-each : goal.invariant-each
invariant-each l = properties_made (as_properties (reader l.code.nodes l.list)) (heap_of l.heap) ≡ properties_made (as_properties (reader l.code.nodes l.properties)) (heap_of l.fn.heap)

abbrev pub decreases-each : goal.decreases-each
decreases-each l = l.list
