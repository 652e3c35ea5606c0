use Rattle.js_value.specs.declared.built_in.TheConstants.{PROTOTYPES}
use Rattle.js_value.specs.Realm.{make_object}
use Rattle.js_heap.specs.Heap.{heap_of}
use Rattle.js_realm.proofs.OpeningLemmas.{next_one, no_more}
use Rattle.js_realm.proofs.opening.make_objects.Goals as goal

pub loop-row-preserved : goal.loop-row-preserved
loop-row-preserved c = next_one make_object PROTOTYPES c.loop-row.row-index _ (heap_of c.loop-row.heap) _ _ c.loop-row-test.true c.loop-row.invariant c.in_ok-make_object.ensures

pub returns : goal.returns
returns c = no_more make_object PROTOTYPES c.loop-row.row-index (heap_of c.loop-row.heap) _ c.loop-row-test.false c.loop-row.invariant
