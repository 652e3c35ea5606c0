use Rattle.std.proofs.Common.{sym, ap, ◌∙◌}
use Rattle.std.proofs.Common.{[], map}
use Rattle.std.proofs.lemmas.Bool.{false≢true}
use Rattle.std.proofs.lemmas.Result.{IfOk-weaker}
use Rattle.js_heap.specs.Heap.{heap_of}
use Rattle.js_heap.specs.Environment.{plain_binding}
use Rattle.js_meaning.specs.Scopes.{scope_made}
use Rattle.js_machine.specs.private.Config.{view_of, scope_of, scoped_comp}
use Rattle.js_machine.proofs.Acts.{both}
use Rattle.js_machine.proofs.Entered.{enters, enters_none, enters_loop, some_names}
use Rattle.js_machine.proofs.scope_actions.loop_scope.Goals as goal

pub returns-then-is_empty : goal.returns-then-is_empty
returns-then-is_empty c = λ p.
    enters_loop (view_of p c.args.code.now.nodes) c.args.next.now c.args.env.index c.args.env.index c.args.heap.now c.args.heap.now (scoped_comp (view_of p c.args.code.now.nodes) c.args.next.now)
    (enters_none (scope_of (view_of p c.args.code.now.nodes) c.args.next.now).lexical c.args.env.index (heap_of c.args.heap.now) (sym (c.in_ok-names.ensures p) ∙ ap (map plain_binding) (c.is_empty.ensures.0 c.if-is_empty.true)))

pub returns : goal.returns
returns c = IfOk-weaker c.make_scope.result _ _ (λ inner w p.
    enters_loop (view_of p c.args.code.now.nodes) c.args.next.now c.args.env.index inner.index c.args.heap.now c.make_scope.new.heap (scoped_comp (view_of p c.args.code.now.nodes) c.args.next.now)
    (enters (scope_of (view_of p c.args.code.now.nodes) c.args.next.now).lexical [] c.args.env.index (heap_of c.args.heap.now) inner.index (heap_of c.make_scope.new.heap)
    (λ e. some_names c.in_ok-names.names (λ n. false≢true (sym c.if-is_empty.false ∙ c.is_empty.ensures.1 n)) (c.in_ok-names.ensures p ∙ e))
    w.1 (w.0 ∙ ap (λ xs. scope_made xs c.args.env.index (heap_of c.args.heap.now)) (c.in_ok-names.ensures p))))
    (both c.make_scope.result _ _ c.make_scope.ensures.made c.make_scope.ensures.environment)
