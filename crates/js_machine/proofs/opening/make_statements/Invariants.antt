use Rattle.std.proofs.Common.{◌≡◌}
use Rattle.js_heap.specs.Heap.{heap_of}
use Rattle.js_code.specs.Code.{reader}
use Rattle.js_code.specs.Part.{as_stmts}
use Rattle.js_meaning.specs.Prelude.{prelude_stmts}
use Rattle.js_machine.proofs.opening.make_statements.Given as goal

abbrev pub invariant-each : goal.invariant-each
invariant-each l = prelude_stmts (as_stmts (reader l.code.nodes l.list)) (heap_of l.heap) ≡ prelude_stmts (as_stmts (reader l.code.nodes l.code.prelude)) (heap_of l.fn.heap)

abbrev pub decreases-each : goal.decreases-each
decreases-each l = l.list
