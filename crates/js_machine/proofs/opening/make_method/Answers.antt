use Rattle.std.proofs.Common.{sym, ap, ◌∙◌}
use Rattle.std.proofs.lemmas.Result.{IfOk-weaker}
use Rattle.std.proofs.Common.{None}
use Rattle.js_heap.specs.Heap.{heap_of}
use Rattle.js_tree.specs.Plain as P
use Rattle.js_value.specs.Functions.{name_units}
use Rattle.js_code.specs.Code.{reader}
use Rattle.js_code.specs.Node.{build, function_of}
use Rattle.js_code.specs.Part.{as_code, as_property_key}
use Rattle.js_meaning.specs.Prelude.{property_made}
use Rattle.js_machine.specs.private.Config.{name_of}
use Rattle.js_machine.specs.private.Opening.{method_put}
use Rattle.js_machine.proofs.OtherNodes as other
use Rattle.js_machine.proofs.opening.make_method.Goals as goal

pub returns-in_ok-name-in-NameKey : goal.returns-in_ok-name-in-NameKey
returns-in_ok-name-in-NameKey c = IfOk-weaker c.put_method.result _ _ (λ u e. e
    ∙ ap (λ us. method_put us (function_of (as_code (reader c.args.code.now.nodes c.args.function))) (heap_of c.args.heap.now)) (c.in_ok-name-in-NameKey.ensures ∙ ap (λ n. name_units (name_of n)) (sym c.node.ensures.is ∙ c.in-NameKey.is))
    ∙ ap (λ x. property_made (P.Method None (as_property_key x) (function_of (as_code (reader c.args.code.now.nodes c.args.function)))) (heap_of c.args.heap.now)) (sym (c.node.ensures.read ∙ ap (build (reader c.args.code.now.nodes)) c.in-NameKey.is))) c.put_method.ensures

pub returns-in-StringKey : goal.returns-in-StringKey
returns-in-StringKey c = ap (λ x. property_made (P.Method None (as_property_key x) (function_of (as_code (reader c.args.code.now.nodes c.args.function)))) (heap_of c.args.heap.now)) (sym (c.node.ensures.read ∙ ap (build (reader c.args.code.now.nodes)) c.in-StringKey.is))

pub returns-in-NumberKey : goal.returns-in-NumberKey
returns-in-NumberKey c = ap (λ x. property_made (P.Method None (as_property_key x) (function_of (as_code (reader c.args.code.now.nodes c.args.function)))) (heap_of c.args.heap.now)) (sym (c.node.ensures.read ∙ ap (build (reader c.args.code.now.nodes)) c.in-NumberKey.is))

pub returns-in-ComputedKey : goal.returns-in-ComputedKey
returns-in-ComputedKey c = ap (λ x. property_made (P.Method None (as_property_key x) (function_of (as_code (reader c.args.code.now.nodes c.args.function)))) (heap_of c.args.heap.now)) (sym (c.node.ensures.read ∙ ap (build (reader c.args.code.now.nodes)) c.in-ComputedKey.is))

pub returns-in_ok-name-in_default : goal.returns-in_ok-name-in_default
returns-in_ok-name-in_default c = IfOk-weaker c.put_method-in_default.result _ _ (λ u e. e
    ∙ ap (λ us. method_put us (function_of (as_code (reader c.args.code.now.nodes c.args.function))) (heap_of c.args.heap.now)) c.in_ok-name-in_default.ensures
    ∙ ap (λ key. property_made (P.Method None key (function_of (as_code (reader c.args.code.now.nodes c.args.function)))) (heap_of c.args.heap.now)) (sym (ap as_property_key c.node.ensures.read ∙ other.no_key (reader c.args.code.now.nodes) c.node.result.now c.in_default.not-NameKey c.in_default.not-StringKey c.in_default.not-NumberKey c.in_default.not-ComputedKey)))
    c.put_method-in_default.ensures
