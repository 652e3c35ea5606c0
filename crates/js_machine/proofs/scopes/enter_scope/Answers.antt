use Rattle.std.proofs.Common.{refl, sym, ap, ◌∙◌}
use Rattle.std.proofs.Common.{subst}
use Rattle.std.proofs.lemmas.Bool.{false≢true}
use Rattle.js_heap.specs.Heap.{heap_of}
use Rattle.js_value.specs.Environments.{next_environment}
use Rattle.js_meaning.specs.Scopes.{hoisted, scope_made}
use Rattle.js_machine.proofs.Entered.{enters}
use Rattle.js_machine.specs.private.Scopes.{Enters}
use Rattle.js_machine.proofs.scopes.enter_scope.Goals as goal

pub returns-then-is_empty : goal.returns-then-is_empty
returns-then-is_empty c =
    subst (λ xs. Enters xs c.args.scope.now.functions c.args.env.index (heap_of c.args.heap.now) c.args.env.index (heap_of c.args.heap.now)) (sym (c.is_empty.ensures.0 c.if-is_empty.true)) (refl, refl)

pub returns : goal.returns
returns c =
    enters c.args.scope.now.names c.args.scope.now.functions c.args.env.index (heap_of c.args.heap.now) c.in_ok-inner.inner.index (heap_of c.hoist.new.heap)
    (λ e. false≢true (sym c.if-is_empty.false ∙ c.is_empty.ensures.1 e)) c.in_ok-inner.ensures.environment
    (c.in_ok-hoist.ensures ∙ ap (λ fs. hoisted fs c.in_ok-inner.inner.index (heap_of c.make_scope.new.heap)) c.as_slice-2.ensures
    ∙ ap (λ i. hoisted c.args.scope.now.functions i (heap_of c.make_scope.new.heap)) c.in_ok-inner.ensures.environment
    ∙ ap (hoisted c.args.scope.now.functions (next_environment (heap_of c.args.heap.now))) (c.in_ok-inner.ensures.made ∙ ap (λ xs. scope_made xs c.args.env.index (heap_of c.args.heap.now)) (c.in_ok-names.ensures ∙ c.as_slice.ensures)))
