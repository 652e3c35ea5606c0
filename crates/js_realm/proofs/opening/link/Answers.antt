use Rattle.js_value.specs.Realm.{link}
use Rattle.js_heap.specs.Heap.{heap_of}
use Rattle.js_realm.proofs.OpeningLemmas.{next_one, no_more}
use Rattle.js_realm.proofs.opening.link.Goals as goal

pub loop-pair-preserved : goal.loop-pair-preserved
loop-pair-preserved c = next_one link c.args.table.now c.loop-pair.pair-index _ (heap_of c.loop-pair.heap) _ _ c.loop-pair-test.true c.loop-pair.invariant c.in_ok-link_pair.ensures

pub returns : goal.returns
returns c = no_more link c.args.table.now c.loop-pair.pair-index (heap_of c.loop-pair.heap) _ c.loop-pair-test.false c.loop-pair.invariant
