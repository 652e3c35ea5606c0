use Rattle.std.proofs.Common.{sym, ap, ◌∙◌}
use Rattle.std.proofs.Common.{◌+◌, ◌++◌, map, drop}
use Rattle.js_heap.specs.Environment.{plain_binding}
use Rattle.js_machine.proofs.Pushed.{pushed, same_binding, unrolled}
use Rattle.js_machine.proofs.scopes.bindings.Goals as goal

pub loop-name-preserved : goal.loop-name-preserved
loop-name-preserved c =
    pushed c.loop-name.made c.put_binding.new.names _ c.name-item.result (drop (c.loop-name.name-index + 1) c.args.names.now) c.in_ok-put_binding.ensures
    (same_binding _ _ _ c.name-item.result c.name.ensures c.value.ensures c.is_constant.ensures)
    ∙ ap (λ xs. map plain_binding c.loop-name.made ++ xs) (sym (unrolled c.args.names.now c.loop-name.name-index c.name-item.result c.loop-name-test.true c.name-item.is))
    ∙ c.loop-name.invariant
