use Rattle.std.proofs.Common.{sym, ap, ◌∙◌}
use Rattle.std.proofs.lemmas.Result.{IfOk-weaker}
use Rattle.js_heap.specs.Heap.{heap_of}
use Rattle.js_code.specs.Code.{reader}
use Rattle.js_code.specs.Node.{build}
use Rattle.js_code.specs.Node.{function_of}
use Rattle.js_code.specs.Part.{as_code, as_property, as_property_key}
use Rattle.js_meaning.specs.Prelude.{property_made}
use Rattle.js_machine.proofs.Openings.{property_else, method_anywhere}
use Rattle.js_machine.proofs.opening.make_property.Goals as goal

pub returns-in-Method : goal.returns-in-Method
returns-in-Method c = IfOk-weaker c.make_method.result _ _ (λ u e. e ∙ method_anywhere c.in-Method.loc (as_property_key ((reader c.args.code.now.nodes) c.in-Method.key)) (function_of (as_code ((reader c.args.code.now.nodes) c.in-Method.function))) (heap_of c.args.heap.now)
    ∙ ap (λ x. property_made (as_property x) (heap_of c.args.heap.now)) (sym (c.node.ensures.read ∙ ap (build (reader c.args.code.now.nodes)) c.in-Method.is))) c.make_method.ensures

pub returns-in_default : goal.returns-in_default
returns-in_default c = sym (ap (λ x. property_made (as_property x) (heap_of c.args.heap.now)) c.node.ensures.read ∙ property_else (heap_of c.args.heap.now) (reader c.args.code.now.nodes) c.node.result.now c.in_default.not-Method)
