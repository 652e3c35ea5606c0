use Rattle.std.proofs.Common.{refl, ◌∙◌}
use Rattle.std.proofs.Common.{◌+◌}
use Rattle.js_heap.specs.Heap.{heap_of}
use Rattle.js_value.specs.Objects.{next_object}
use Rattle.js_machine.specs.declared.state.State.{State}
use Rattle.js_machine.proofs.Started.{cached_more, requiring_more, file_scope_is, file_turns, starts_file}
use Rattle.js_machine.proofs.file_actions.start_source.Goals as goal

pub returns-clause-becomes : goal.returns-clause-becomes
returns-clause-becomes c = λ p nodes of base reads counted.
    let n = next_object (heap_of c.args.state.now.heap) in
    let u : State = record { heap = c.make_objects.new.heap; output = c.args.state.now.output; cache = c.push-2.new.self; requiring = c.push-3.new.self; starts = c.push.new.self } in
    let path = c.in_ok-from_str.ensures ∙ c.as_str.ensures ∙ reads.path in
    let again = c.in_ok-from_str-2.ensures ∙ c.as_str-2.ensures ∙ reads.path in
    starts_file base c.args.state.now u of c.args.file c.in_ok-objects.ensures.made refl
    (cached_more c.args.state.now.cache.items u.cache.items _ of.path (n + 1) c.in_ok-push-2.ensures.items path c.in_ok-objects.ensures.module_object)
    (requiring_more c.args.state.now.requiring.items u.requiring.items _ of.path (n + 2) c.in_ok-push-3.ensures.items c.in_ok-objects.ensures.require again)
    c.in_ok-push.ensures.items counted p _ c.enter_body.new.heap
    (file_turns p nodes c.args.source.now of n c.in_ok-env.env.index c.in_ok-inner.inner.index c.make_objects.new.heap c.make_file_scope.new.heap c.enter_body.new.heap reads
    (c.in_ok-env.ensures.made ∙ file_scope_is n _ _ _ (heap_of c.make_objects.new.heap) c.in_ok-objects.ensures.exports c.in_ok-objects.ensures.require c.in_ok-objects.ensures.module_object)
    c.in_ok-env.ensures.environment c.in_ok-inner.ensures)
