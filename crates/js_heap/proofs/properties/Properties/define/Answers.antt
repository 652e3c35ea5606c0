use Rattle.std.proofs.Common.{map, position, sym, ap, ◌∙◌}
use Rattle.std.specs.Str.{bytes_eq}
use Rattle.js_heap.specs.Object.{plain_property}
use Rattle.js_heap.proofs.ObjectLemmas.{keys-kept, with_property-placed, with_property-absent}
use Rattle.js_heap.proofs.Outcomes.{OnOk_then}
use Rattle.js_heap.proofs.properties.Properties.define.Goals as goal

pub invariant_of-self : goal.invariant_of-self
invariant_of-self c =
    record {
      unindexed = λ none q is. ap (position (λ k. bytes_eq k q)) (keys-kept c.args.property c.args.self.now.items.items c.in-Some.place (sym c.in-Some.ensures)) ∙ c.args.self.now.unindexed none q is;
      indexed = λ i is. c.args.self.now.indexed i is
          ∙ sym (keys-kept c.args.property c.args.self.now.items.items c.in-Some.place (sym c.in-Some.ensures));
    }

pub returns-in-Some-clause-ok : goal.returns-in-Some-clause-ok
returns-in-Some-clause-ok c =
    sym (with_property-placed c.args.property c.args.self.now.items.items c.in-Some.place (sym c.in-Some.ensures))

pub returns-in-None-clause-ok : goal.returns-in-None-clause-ok
returns-in-None-clause-ok c =
    OnOk_then c.push.result c.push.ensures.ok (λ pushed.
    ap (map plain_property) pushed ∙ sym (with_property-absent c.args.property c.args.self.now.items.items (sym c.in-None.ensures)))
