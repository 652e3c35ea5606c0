use Rattle.std.proofs.Common.{sym, subst, ap, ◌∙◌}
use Rattle.js_heap.specs.Heap.{heap_of}
use Rattle.js_code.specs.Code.{reader}
use Rattle.js_code.specs.Node.{PartsBelow, build}
use Rattle.js_code.specs.Part.{as_stmts}
use Rattle.js_meaning.specs.Prelude.{prelude_stmts}
use Rattle.js_machine.proofs.OtherNodes as other
use Rattle.js_machine.proofs.opening.make_statements.Goals as goal

pub each-init : goal.each-init
each-init c = ap (λ n. prelude_stmts (as_stmts ((reader c.args.code.now.nodes) n)) (heap_of c.args.heap.now)) c.prelude-list.ensures

pub each-smaller : goal.each-smaller
each-smaller c = (subst (PartsBelow c.each.list) c.in-Some.ensures.more c.node.ensures.below).1

pub each-preserved : goal.each-preserved
each-preserved c = ap (prelude_stmts (as_stmts ((reader c.args.code.now.nodes) c.in-Some.rest))) c.in_ok-make_statement-in-Some.ensures
    ∙ ap (λ x. prelude_stmts (as_stmts x) (heap_of c.each.heap)) (sym (c.node.ensures.read ∙ ap (build (reader c.args.code.now.nodes)) c.in-Some.ensures.more)) ∙ c.each.invariant

pub returns-in-None : goal.returns-in-None
returns-in-None c = ap (λ xs. prelude_stmts xs (heap_of c.each.heap)) (sym (ap as_stmts c.node.ensures.read ∙ other.no_stmts (reader c.args.code.now.nodes) c.node.result.now (c.list_of.ensures.end c.in-None.is))) ∙ c.each.invariant
