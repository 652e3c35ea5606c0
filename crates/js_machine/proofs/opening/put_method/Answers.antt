use Rattle.std.proofs.Common.{ap, ◌∙◌}
use Rattle.std.proofs.lemmas.Result.{IfOk-weaker}
use Rattle.js_heap.specs.Heap.{heap_of}
use Rattle.js_value.specs.Objects.{next_object, define, freeze}
use Rattle.js_value.specs.Realm.{number_of, object, hidden}
use Rattle.js_value.specs.declared.built_in.Place.TheVariants.{ArrayPrototype}
use Rattle.js_tree.specs.Codes.{OfMethod}
use Rattle.js_code.specs.Code.{reader}
use Rattle.js_code.specs.Node.{function_of}
use Rattle.js_code.specs.Part.{as_code}
use Rattle.js_meaning.specs.Scopes.{closed, shape_of}
use Rattle.js_machine.proofs.opening.put_method.Goals as goal

pub returns : goal.returns
returns c = IfOk-weaker c.define.result _ _ (λ u e. e
    ∙ ap (λ i. define i (hidden c.args.name.now (object c.in_ok-object.object.index)) (heap_of c.freeze.new.self)) c.object_at-prototype.ensures
    ∙ ap (λ i. define (number_of ArrayPrototype) (hidden c.args.name.now (object i)) (heap_of c.freeze.new.self)) c.in_ok-object.ensures.object
    ∙ ap (define (number_of ArrayPrototype) (hidden c.args.name.now (object (next_object (heap_of c.args.heap.now)))))
    (c.freeze.ensures ∙ ap (λ i. freeze i (heap_of c.close.new.heap)) c.in_ok-object.ensures.object
    ∙ ap (freeze (next_object (heap_of c.args.heap.now))) (c.in_ok-object.ensures.made ∙ ap (λ i. closed (shape_of (OfMethod (function_of (as_code (reader c.args.code.now.nodes c.args.function))))) c.args.name.now i (heap_of c.args.heap.now)) c.global_environment.ensures))) c.define.ensures.ok
