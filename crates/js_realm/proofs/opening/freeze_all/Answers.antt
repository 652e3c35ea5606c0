use Rattle.js_value.specs.Realm.{built_in_count}
use Rattle.js_heap.specs.Heap.{heap_of}
use Rattle.js_realm.proofs.OpeningLemmas.{freeze_next, freeze_none}
use Rattle.js_realm.proofs.opening.freeze_all.Goals as goal

pub loop-index-preserved : goal.loop-index-preserved
loop-index-preserved c = freeze_next built_in_count c.loop-index.index (heap_of c.loop-index.heap) _ _ c.loop-index-test.true c.loop-index.invariant c.freeze.ensures

pub returns : goal.returns
returns c = freeze_none built_in_count c.loop-index.index (heap_of c.loop-index.heap) _ c.loop-index-test.false c.loop-index.invariant
