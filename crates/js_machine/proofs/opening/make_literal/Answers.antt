use Rattle.std.proofs.Common.{sym, subst, ap, ◌∙◌}
use Rattle.std.proofs.lemmas.Result.{IfOk-weaker}
use Rattle.js_heap.specs.Heap.{heap_of}
use Rattle.js_code.specs.Code.{reader}
use Rattle.js_code.specs.Node.{PartsBelow, build}
use Rattle.js_code.specs.Part.{as_expr}
use Rattle.js_meaning.specs.Prelude.{literal_made}
use Rattle.js_machine.proofs.Openings.{literal_else}
use Rattle.js_machine.proofs.opening.make_literal.Goals as goal

pub each-smaller : goal.each-smaller
each-smaller c = subst (PartsBelow c.each.place) c.in-Parenthesized.is c.node.ensures.below

pub each-preserved : goal.each-preserved
each-preserved c = ap (λ x. literal_made (as_expr x) (heap_of c.each.heap)) (sym (c.node.ensures.read ∙ ap (build (reader c.args.code.now.nodes)) c.in-Parenthesized.is)) ∙ c.each.invariant

pub returns-in-ObjectLiteral : goal.returns-in-ObjectLiteral
returns-in-ObjectLiteral c = IfOk-weaker c.make_properties.result _ _ (λ u e. e
    ∙ ap (λ x. literal_made (as_expr x) (heap_of c.each.heap)) (sym (c.node.ensures.read ∙ ap (build (reader c.args.code.now.nodes)) c.in-ObjectLiteral.is)) ∙ c.each.invariant) c.make_properties.ensures

pub returns-in_default : goal.returns-in_default
returns-in_default c = sym (ap (λ x. literal_made (as_expr x) (heap_of c.each.heap)) c.node.ensures.read
    ∙ literal_else (heap_of c.each.heap) (reader c.args.code.now.nodes) c.node.result.now c.in_default.not-Parenthesized c.in_default.not-ObjectLiteral) ∙ c.each.invariant
