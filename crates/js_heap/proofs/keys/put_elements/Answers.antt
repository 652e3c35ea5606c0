use Rattle.std.proofs.Common.{true, ap, ◌∙◌}
use Rattle.js_heap.proofs.KeysLemmas.{index_keys-more}
use Rattle.js_heap.proofs.keys.put_elements.Goals as goal

pub loop-index-preserved : goal.loop-index-preserved
loop-index-preserved c =
    index_keys-more c.loop-index.keys c.push.new.self _ c.args.count c.loop-index.index c.loop-index-test.true (ap (λ key. record { key = key; enumerable = true }) c.in_ok-key.ensures) c.in_ok-push.ensures.ok ∙ c.loop-index.invariant
