use Rattle.std.proofs.Common.{◌≡◌, None, sym, ap, ◌∙◌, map-id, rules}
use Rattle.std.proofs.lemmas.Iterator.Adapters.{YieldsList-from_vec}
use Rattle.std.proofs.lemmas.Iterator.Consumers.{YieldsList-end}
use Rattle.js_tree.specs.Plain.{ObjectLiteral}
use Rattle.js_tree.specs.Tree.{plain_expr, plain_properties}
use Rattle.cov_object.proofs.OrderLemmas.{by_bytes}
use Rattle.cov_preamble.proofs.Members.{thing_more, things_all}
use Rattle.cov_preamble.proofs.zero.all_counts.Goals as goal

pub loop-id-preserved : goal.loop-id-preserved
loop-id-preserved g c =
    thing_more g.T.Told.counts c.loop-id.yielded (c.in-Some.id, c.in-Some.thing) (plain_properties c.loop-id.members) (plain_properties c.put.new.members) c.as_str.result.now (plain_expr c.in_ok-value.value)
    c.loop-id.invariant c.in_ok-put.ensures c.as_str.ensures.value c.in_ok-value.ensures

pub returns : goal.returns
returns g c =
    let end = YieldsList-end (YieldsList-from_vec {s = c.into_iter-id-iterator.result} c.in_ok-items.items.items (search rules) (search rules))
    c.loop-id.yielded c.loop-id.id-iterator c.loop-id.yielded_by c.next.result c.next.new.self c.in-None.is c.next.ensures.steps in
    let all : c.loop-id.yielded ≡ c.in_ok-items.items.items = sym (map-id c.loop-id.yielded) ∙ end.0 in
    c.object.ensures ∙ ap (ObjectLiteral None) c.loop-id.invariant
    ∙ things_all g.T.Told.counts c.args.things.now c.loop-id.yielded (ap by_bytes all ∙ c.in_ok-items.ensures)
