use Rattle.std.proofs.Common.{sym, ap, ◌∙◌, arith}
use Rattle.std.proofs.Common.{subst}
use Rattle.js_heap.specs.Heap.{heap_of}
use Rattle.js_meaning.specs.Meaning as M
use Rattle.js_code.specs.Code.{reader}
use Rattle.js_code.specs.Node.{ScopeHolds, build}
use Rattle.js_code.specs.Part.{as_scope, as_stmts}
use Rattle.js_code.specs.declared.scopes.BlockScope.{BlockScope}
use Rattle.js_meaning.specs.Scopes.{block_scope}
use Rattle.js_machine.specs.private.Config.{view_of, control_comp}
use Rattle.js_machine.specs.private.Scopes.{Enters}
use Rattle.js_machine.specs.private.State.{Turns}
use Rattle.js_machine.specs.private.Weight.{place_weight, node_weight}
use Rattle.js_machine.proofs.Acts.{same_comp}
use Rattle.js_machine.proofs.Entered.{enters_names}
use Rattle.js_machine.proofs.OtherNodes as other
use Rattle.js_machine.proofs.Weights.{heavy, lighter}
use Rattle.js_machine.proofs.scope_actions.enter_block.Goals as goal

pub returns-in_ok-inner-in-Scope-clause-means : goal.returns-in_ok-inner-in-Scope-clause-means
returns-in_ok-inner-in-Scope-clause-means c = λ p.
    let xs = as_stmts ((reader c.args.code.now.nodes) c.in-Scope.statements) in
    let holds = subst (ScopeHolds (reader c.args.code.now.nodes)) c.in-Scope.is c.node.ensures.scope in
    subst (λ ys. Turns (M.in_scope (block_scope ys) c.args.env.index (M.comp_stmts p ys)) c.args.heap.now (M.comp_stmts p xs c.in_ok-inner-in-Scope.inner.index) c.enter_scope.new.heap)
    (sym (ap as_scope (c.node.ensures.read ∙ ap (build (reader c.args.code.now.nodes)) c.in-Scope.is)))
    (enters_names _ _ c.args.env.index c.in_ok-inner-in-Scope.inner.index c.args.heap.now c.enter_scope.new.heap (M.comp_stmts p xs)
    (subst (λ (s : BlockScope). Enters s.names s.functions c.args.env.index (heap_of c.args.heap.now) c.in_ok-inner-in-Scope.inner.index (heap_of c.enter_scope.new.heap)) holds c.in_ok-inner-in-Scope.ensures))

pub returns-in_default-clause-means : goal.returns-in_default-clause-means
returns-in_default-clause-means c = λ p.
    subst (λ ys. Turns (M.in_scope (block_scope ys) c.args.env.index (M.comp_stmts p ys)) c.args.heap.now (control_comp (view_of p c.args.code.now.nodes) c.undefined.result) c.args.heap.now)
    (sym (ap as_scope c.node.ensures.read ∙ other.no_scope (reader c.args.code.now.nodes) c.node.result.now c.in_default.not-Scope))
    (same_comp c.args.heap.now M.done (control_comp (view_of p c.args.code.now.nodes) c.undefined.result) (ap (control_comp (view_of p c.args.code.now.nodes)) c.undefined.ensures))

pub returns-in_ok-inner-in-Scope-clause-less : goal.returns-in_ok-inner-in-Scope-clause-less
returns-in_ok-inner-in-Scope-clause-less c = omega (arith, lighter c.args.block c.node.result.now c.node.ensures.below, ap (node_weight place_weight) c.in-Scope.is)

pub returns-in_default-clause-less : goal.returns-in_default-clause-less
returns-in_default-clause-less c = rw c.undefined.ensures (omega (arith, heavy c.args.block))
