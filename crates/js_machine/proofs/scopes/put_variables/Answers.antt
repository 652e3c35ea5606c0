use Rattle.std.proofs.Common.{refl, sym, ap, ◌∙◌}
use Rattle.js_heap.specs.Heap.{heap_of}
use Rattle.std.proofs.Common.{◌+◌, ◌++◌, map, drop, List, ℕ, Some}
use Rattle.js_value.specs.State.{Binding}
use Rattle.js_heap.specs.Environment.{plain_binding}
use Rattle.js_meaning.specs.Scopes.{first_value, variable_of}
use Rattle.js_machine.proofs.Pushed.{pushed, same_binding, unrolled}
use Rattle.js_machine.proofs.scopes.put_variables.Goals as goal

pub loop-name-preserved : goal.loop-name-preserved
loop-name-preserved c =
    let first : List ℕ → Binding = λ name. variable_of (first_value c.args.params.now c.args.env.index (heap_of c.args.heap.now) name) name in
    pushed c.loop-name.names c.put_binding.new.names _ (first c.name-item.result) (map first (drop (c.loop-name.name-index + 1) c.args.variables.now)) c.in_ok-put_binding.ensures
    (same_binding _ _ _ (first c.name-item.result) refl (ap Some c.in_ok-value.ensures) refl)
    ∙ ap (λ xs. map plain_binding c.loop-name.names ++ map first xs) (sym (unrolled c.args.variables.now c.loop-name.name-index c.name-item.result c.loop-name-test.true c.name-item.is))
    ∙ c.loop-name.invariant
