use Rattle.std.proofs.Common.{◌||◌, ap, ◌∙◌}
use Rattle.std.specs.List.{list_any}
use Rattle.std.specs.Str.{bytes_eq}
use Rattle.indexmap.specs.IndexSet.{keys}
use Rattle.js_host.proofs.IterationLemmas.{inserted, met_more}
use Rattle.js_host.proofs.iterations.put_met.Goals as goal

pub loop-key-preserved : goal.loop-key-preserved
loop-key-preserved c = λ q.
    let met = keys c.loop-key.met in
    let own = c.args.own.now in
    let k = c.key-item.result in
    ap (λ ks. list_any (bytes_eq q) ks) c.in_ok-insert.ensures.keys
    ∙ inserted q c.in_ok-copy.field-0 met
    ∙ ap (λ x. bytes_eq q x || list_any (bytes_eq q) met) c.in_ok-copy.ensures
    ∙ ap (λ b. bytes_eq q k.key || b) (c.loop-key.invariant q)
    ∙ met_more q own c.loop-key.key-index k (keys c.args.met.now) c.loop-key-test.true c.key-item.is
