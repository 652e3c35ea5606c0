use Rattle.std.proofs.Common.{◌≡◌}
use Rattle.js_heap.specs.Heap.{heap_of}
use Rattle.js_code.specs.Code.{reader}
use Rattle.js_code.specs.Part.{as_expr}
use Rattle.js_meaning.specs.Prelude.{literal_made}
use Rattle.js_machine.proofs.opening.make_literal.Given as goal

abbrev pub invariant-each : goal.invariant-each
invariant-each l = literal_made (as_expr (reader l.code.nodes l.place)) (heap_of l.heap) ≡ literal_made (as_expr (reader l.code.nodes l.expression)) (heap_of l.fn.heap)

abbrev pub decreases-each : goal.decreases-each
decreases-each l = l.place
