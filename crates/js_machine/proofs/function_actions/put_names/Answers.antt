use Rattle.std.proofs.Common.{refl, sym, ap, ◌∙◌}
use Rattle.std.proofs.Common.{◌+◌, ◌++◌, map, drop, false}
use Rattle.js_heap.specs.Environment.{plain_binding}
use Rattle.js_meaning.specs.Scopes.{uninitialized}
use Rattle.js_machine.proofs.Pushed.{pushed, unrolled}
use Rattle.js_machine.proofs.function_actions.put_names.Goals as goal

pub loop-name-preserved : goal.loop-name-preserved
loop-name-preserved c =
    pushed c.loop-name.names c.put_binding.new.names _ (uninitialized false c.name-item.result) (map (uninitialized false) (drop (c.loop-name.name-index + 1) c.args.more.now)) c.in_ok-put_binding.ensures
    refl
    ∙ ap (λ xs. map plain_binding c.loop-name.names ++ map (uninitialized false) xs) (sym (unrolled c.args.more.now c.loop-name.name-index c.name-item.result c.loop-name-test.true c.name-item.is))
    ∙ c.loop-name.invariant
