use Rattle.std.proofs.Common.{ℕ, Bool, List, ap, ◌∙◌}
use Rattle.js_value.specs.State.{Heap}
use Rattle.js_value.specs.Environments.{assign_name}
use Rattle.js_value.specs.Functions.{name_units}
use Rattle.js_value.specs.Objects.{next_object}
use Rattle.js_value.specs.Realm.{object}
use Rattle.js_heap.specs.Heap.{heap_of}
use Rattle.js_meaning.specs.Scopes.{closed}
use Rattle.js_machine.proofs.scopes.hoist_one.Goals as goal

pub returns : goal.returns
returns c = let e : ℕ = c.args.env.index in
    let h : Heap = heap_of c.args.heap.now in
    let f : ℕ → ℕ → Bool → List ℕ → Heap = λ number length constructs name. closed (record { number = number; length = length; constructs = constructs }) name e h in
    c.assign_name.ensures.after
    ∙ ap (λ name. assign_name e name (object c.in_ok-object.object.index) (heap_of c.make_function.new.heap)) (c.name-3.ensures ∙ c.name-2.ensures)
    ∙ ap (λ i. assign_name e c.args.function.now.name (object i) (heap_of c.make_function.new.heap)) c.in_ok-object.ensures.object
    ∙ ap (assign_name e c.args.function.now.name (object (next_object h))) (c.in_ok-object.ensures.made
    ∙ ap (λ n. f n c.length.result c.constructs.result c.units.result.now) c.number.ensures
    ∙ ap (λ n. f c.args.function.now.shape.number n c.constructs.result c.units.result.now) c.length.ensures
    ∙ ap (λ n. f c.args.function.now.shape.number c.args.function.now.shape.length n c.units.result.now) c.constructs.ensures
    ∙ ap (f c.args.function.now.shape.number c.args.function.now.shape.length c.args.function.now.shape.constructs) (c.units.ensures ∙ ap name_units c.name.ensures))
