use Rattle.js_value.specs.Realm.{name_error}
use Rattle.js_heap.specs.Heap.{heap_of}
use Rattle.js_realm.specs.private.Opening.{error_seen}
use Rattle.js_realm.proofs.OpeningLemmas.{one_more, none_more}
use Rattle.js_realm.proofs.opening.name_errors.Goals as goal

pub loop-pair-preserved : goal.loop-pair-preserved
loop-pair-preserved c = one_more name_error error_seen c.args.table.now c.loop-pair.pair-index _ (heap_of c.loop-pair.heap) _ _ c.loop-pair-test.true c.loop-pair.invariant c.in_ok-name_error.ensures

pub returns : goal.returns
returns c = none_more name_error error_seen c.args.table.now c.loop-pair.pair-index (heap_of c.loop-pair.heap) _ c.loop-pair-test.false c.loop-pair.invariant
