use Rattle.std.proofs.Common.{Some, refl, sym, ap, ◌∙◌, position}
use Rattle.std.specs.Str.{bytes_eq}
use Rattle.js_value.specs.Environments.{no_binding}
use Rattle.js_value.specs.State as state
use Rattle.js_heap.specs.declared.environment.Binding.{Binding}
use Rattle.js_heap.specs.Environment.{plain_binding}
use Rattle.js_heap.proofs.Lists.{map-set_by, map-set_same}
use Rattle.js_heap.proofs.bindings.Bindings.init.Goals as goal

pub invariant_of-self : goal.invariant_of-self
invariant_of-self c =
    let b = c.in-Some.binding.now in
    let names = map-set_same (λ (b : Binding). b.name) c.args.self.now.items.items c.args.place c.args.place c.init.new.self b b.name refl c.in-Some.ensures.item.3.0 c.in-Some.ensures.value c.init.ensures.name in
    record {
      masked = λ q absent. ap (position (λ n. bytes_eq n q)) names ∙ c.args.self.now.masked q absent;
      indexed = λ i is q. c.args.self.now.indexed i is q ∙ ap (position (λ n. bytes_eq n q)) (sym names);
    }

pub returns-in-Some : goal.returns-in-Some
returns-in-Some c =
    map-set_by plain_binding (λ (b : state.Binding). record b { value = Some c.args.value }) c.args.self.now.items.items c.args.place _ c.init.new.self _ no_binding refl c.in-Some.ensures.item.3.0 c.in-Some.ensures.value c.init.ensures.after
