use Rattle.js_value.specs.Realm.{name_function}
use Rattle.js_heap.specs.Heap.{heap_of}
use Rattle.js_realm.specs.private.Opening.{row_seen}
use Rattle.js_realm.proofs.OpeningLemmas.{one_more, none_more}
use Rattle.js_realm.proofs.opening.name_functions.Goals as goal

pub loop-number-preserved : goal.loop-number-preserved
loop-number-preserved c = one_more name_function row_seen c.args.table.now c.loop-number.number _ (heap_of c.loop-number.heap) _ _ c.loop-number-test.true c.loop-number.invariant c.in_ok-name_function.ensures

pub returns : goal.returns
returns c = none_more name_function row_seen c.args.table.now c.loop-number.number (heap_of c.loop-number.heap) _ c.loop-number-test.false c.loop-number.invariant
