use Rattle.js_value.specs.Realm.{name_object}
use Rattle.js_heap.specs.Heap.{heap_of}
use Rattle.js_realm.specs.private.Opening.{named_seen}
use Rattle.js_realm.proofs.OpeningLemmas.{one_more, none_more}
use Rattle.js_realm.proofs.opening.name_objects.Goals as goal

pub loop-named-preserved : goal.loop-named-preserved
loop-named-preserved c = one_more name_object named_seen c.args.table.now c.loop-named.named-index _ (heap_of c.loop-named.heap) _ _ c.loop-named-test.true c.loop-named.invariant c.in_ok-name_object.ensures

pub returns : goal.returns
returns c = none_more name_object named_seen c.args.table.now c.loop-named.named-index (heap_of c.loop-named.heap) _ c.loop-named-test.false c.loop-named.invariant
