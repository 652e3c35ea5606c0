use Rattle.std.proofs.Common.{◌≤◌, length, position, refl, sym, ap, ◌∙◌, arith}
use Rattle.std.specs.Str.{bytes_eq}
use Rattle.js_heap.specs.declared.object.Property.{Property}
use Rattle.js_heap.specs.Object.{plain_property}
use Rattle.js_heap.proofs.Lists.{map-set_same}
use Rattle.js_heap.proofs.ObjectLemmas.{with_value_at-set, with_value_at-past}
use Rattle.js_heap.proofs.properties.Properties.put.Goals as goal

pub invariant_of-self : goal.invariant_of-self
invariant_of-self c =
    let x : Property = record { key = c.in-Some.property.now.key; value = c.write_over.new.held; flags = c.in-Some.property.now.flags } in
    record {
      unindexed = λ none q is. ap (position (λ k. bytes_eq k q)) (map-set_same (λ (p : Property). p.key) c.args.self.now.items.items c.args.place c.args.place x c.in-Some.property.now x.key refl c.in-Some.ensures.item.3.0 c.in-Some.ensures.value refl) ∙ c.args.self.now.unindexed none q is;
      indexed = λ i is. c.args.self.now.indexed i is
          ∙ sym (map-set_same (λ (p : Property). p.key) c.args.self.now.items.items c.args.place c.args.place x c.in-Some.property.now x.key refl c.in-Some.ensures.item.3.0 c.in-Some.ensures.value refl);
    }

pub returns-in-Some : goal.returns-in-Some
returns-in-Some c =
    let x : Property = record { key = c.in-Some.property.now.key; value = c.write_over.new.held; flags = c.in-Some.property.now.flags } in
    sym (with_value_at-set c.args.value c.args.self.now.items.items c.args.place x c.in-Some.property.now c.in-Some.ensures.item.3.0 c.in-Some.ensures.value
    (ap (λ v. record (plain_property c.in-Some.property.now) { value = v }) c.write_over.ensures))

pub returns-in-None : goal.returns-in-None
returns-in-None c =
    let past : length c.args.self.now.items.items ≤ c.args.place = omega (arith, c.in-None.ensures.item.3) in
    sym (with_value_at-past c.args.value c.args.self.now.items.items c.args.place past)
