use Rattle.std.proofs.Common.{Some, option_map, sym, ap, ◌∙◌, if◌then◌else◌}
use Rattle.js_value.specs.Objects.{Replaces, ReadOnly}
use Rattle.js_heap.specs.Object.{plain_property, plain_object}
use Rattle.js_heap.specs.private.Write.{if_writable}
use Rattle.js_heap.proofs.ObjectLemmas.{property_of-placed, property_of-absent, with_value_at-key}
use Rattle.js_heap.proofs.object.ObjectRecord.write_of_property.Goals as goal

pub returns-in_err-place-clause-write : goal.returns-in_err-place-clause-write
returns-in_err-place-clause-write c =
    rw c.from_residual.ensures (sym (ap (option_map (if_writable Replaces (plain_object c.args.self.now))) (property_of-absent c.args.self.now.properties.items.items c.args.key.now (sym c.in_err-place.ensures))))

pub returns-then-may_write-clause-write : goal.returns-then-may_write-clause-write
returns-then-may_write-clause-write c =
    let found = ap (λ q. Some (plain_property q)) c.index.ensures ∙ sym (property_of-placed c.args.self.now.properties.items.items c.args.key.now _ _ (sym c.in_ok-place.ensures)) in
    ap (λ b. Some (if b then Replaces else ReadOnly)) (sym c.if-may_write.true ∙ c.may_write.ensures) ∙ ap (option_map (if_writable Replaces (plain_object c.args.self.now))) found

pub returns-then-may_write-clause-place : goal.returns-then-may_write-clause-place
returns-then-may_write-clause-place c =
    with_value_at-key c.args.key.now c.args.self.now.properties.items.items c.in_ok-place.place c.index.result.now (sym c.in_ok-place.ensures) c.index.ensures

pub returns-else-may_write-clause-write : goal.returns-else-may_write-clause-write
returns-else-may_write-clause-write c =
    let found = ap (λ q. Some (plain_property q)) c.index.ensures ∙ sym (property_of-placed c.args.self.now.properties.items.items c.args.key.now _ _ (sym c.in_ok-place.ensures)) in
    ap (λ b. Some (if b then Replaces else ReadOnly)) (sym c.if-may_write.false ∙ c.may_write.ensures) ∙ ap (option_map (if_writable Replaces (plain_object c.args.self.now))) found
