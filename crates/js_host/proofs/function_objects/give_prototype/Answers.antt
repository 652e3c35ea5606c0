use Rattle.std.proofs.Common.{codes, Some, ap, ◌∙◌}
use Rattle.js_value.specs.State.{Plain}
use Rattle.js_value.specs.Objects.{define, next_object, new_object}
use Rattle.js_value.specs.Realm.{hidden, object}
use Rattle.js_heap.specs.Heap.{heap_of}
use Rattle.js_heap.proofs.Outcomes.{OnOk_then}
use Rattle.js_host.proofs.function_objects.give_prototype.Goals as goal

pub returns : goal.returns
returns c =
    let f = c.args.function.index in
    let before = heap_of c.args.heap.now in
    let proto = c.in_ok-prototype.prototype.index in
    let made = heap_of c.object.new.self in
    OnOk_then c.define-2.result c.define-2.ensures.ok (λ is. is
    ∙ ap (λ key. define f (hidden key (object proto)) (heap_of c.define.new.self)) c.in_ok-key.ensures
    ∙ ap (define f (hidden (codes "prototype") (object proto))) (c.in_ok-define.ensures.ok ∙ ap (λ key. define proto (hidden key (object f)) made) c.in_ok-constructor.ensures)
    ∙ ap (λ p. define f (hidden (codes "prototype") (object p)) (define p (hidden (codes "constructor") (object f)) made)) c.in_ok-prototype.ensures.object
    ∙ ap (λ h. define f (hidden (codes "prototype") (object (next_object before))) (define (next_object before) (hidden (codes "constructor") (object f)) h))
    (c.in_ok-prototype.ensures.ok ∙ ap (λ p. new_object Plain (Some p) before) c.object_at.ensures))
