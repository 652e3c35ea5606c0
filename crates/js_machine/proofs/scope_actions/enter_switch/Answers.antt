use Rattle.std.proofs.Common.{sym, ap, ◌∙◌, arith}
use Rattle.std.proofs.Common.{subst}
use Rattle.js_heap.specs.Heap.{heap_of}
use Rattle.js_meaning.specs.Meaning as M
use Rattle.js_code.specs.Code.{reader}
use Rattle.js_code.specs.Node.{ScopeHolds, build}
use Rattle.js_code.specs.Part.{as_case_scope, as_cases}
use Rattle.js_code.specs.declared.scopes.BlockScope.{BlockScope}
use Rattle.js_meaning.specs.Scopes.{block_scope, cases_stmts}
use Rattle.js_machine.specs.private.Config.{view_of, cases_comp, control_comp}
use Rattle.js_machine.specs.private.Scopes.{Enters}
use Rattle.js_machine.specs.private.State.{Turns}
use Rattle.js_machine.specs.private.Weight.{place_weight, node_weight}
use Rattle.js_machine.proofs.Acts.{same_comp}
use Rattle.js_machine.proofs.Entered.{enters_names}
use Rattle.js_machine.proofs.OtherNodes as other
use Rattle.js_machine.proofs.Weights.{heavy, lighter}
use Rattle.js_machine.proofs.scope_actions.enter_switch.Goals as goal

pub returns-in_ok-inner-in-CaseScope-clause-means : goal.returns-in_ok-inner-in-CaseScope-clause-means
returns-in_ok-inner-in-CaseScope-clause-means c = λ p.
    let xs = as_cases ((reader c.args.code.now.nodes) c.in-CaseScope.cases) in
    let holds = subst (ScopeHolds (reader c.args.code.now.nodes)) c.in-CaseScope.is c.node.ensures.scope in
    subst (λ ys. Turns (M.in_scope (block_scope (cases_stmts ys)) c.args.env.index (cases_comp (view_of p c.args.code.now.nodes) ys c.args.value)) c.args.heap.now (cases_comp (view_of p c.args.code.now.nodes) xs c.args.value c.in_ok-inner-in-CaseScope.inner.index) c.enter_scope.new.heap)
    (sym (ap as_case_scope (c.node.ensures.read ∙ ap (build (reader c.args.code.now.nodes)) c.in-CaseScope.is)))
    (enters_names _ _ c.args.env.index c.in_ok-inner-in-CaseScope.inner.index c.args.heap.now c.enter_scope.new.heap (cases_comp (view_of p c.args.code.now.nodes) xs c.args.value)
    (subst (λ (s : BlockScope). Enters s.names s.functions c.args.env.index (heap_of c.args.heap.now) c.in_ok-inner-in-CaseScope.inner.index (heap_of c.enter_scope.new.heap)) holds c.in_ok-inner-in-CaseScope.ensures))

pub returns-in_default-clause-means : goal.returns-in_default-clause-means
returns-in_default-clause-means c = λ p.
    subst (λ ys. Turns (M.in_scope (block_scope (cases_stmts ys)) c.args.env.index (cases_comp (view_of p c.args.code.now.nodes) ys c.args.value)) c.args.heap.now (control_comp (view_of p c.args.code.now.nodes) c.undefined.result) c.args.heap.now)
    (sym (ap as_case_scope c.node.ensures.read ∙ other.no_case_scope (reader c.args.code.now.nodes) c.node.result.now c.in_default.not-CaseScope))
    (same_comp c.args.heap.now M.done (control_comp (view_of p c.args.code.now.nodes) c.undefined.result) (ap (control_comp (view_of p c.args.code.now.nodes)) c.undefined.ensures))

pub returns-in_ok-inner-in-CaseScope-clause-less : goal.returns-in_ok-inner-in-CaseScope-clause-less
returns-in_ok-inner-in-CaseScope-clause-less c = omega (arith, lighter c.args.cases c.node.result.now c.node.ensures.below, ap (node_weight place_weight) c.in-CaseScope.is)

pub returns-in_default-clause-less : goal.returns-in_default-clause-less
returns-in_default-clause-less c = rw c.undefined.ensures (omega (arith, heavy c.args.cases))
