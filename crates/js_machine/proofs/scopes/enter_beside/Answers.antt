use Rattle.std.proofs.Common.{ap, ◌∙◌}
use Rattle.std.proofs.Common.{map}
use Rattle.js_heap.specs.Heap.{heap_of}
use Rattle.js_value.specs.Environments.{declare_all}
use Rattle.js_value.specs.Realm.{undefined}
use Rattle.js_meaning.specs.Scopes.{hoisted, variable_of}
use Rattle.js_machine.proofs.Entered.{declared_both}
use Rattle.js_machine.proofs.scopes.enter_beside.Goals as goal

pub returns-clause-made : goal.returns-clause-made
returns-clause-made c =
    c.in_ok-hoist.ensures ∙ ap (λ fs. hoisted fs c.args.env.index (heap_of c.declare_lexical.new.heap)) c.as_slice-3.ensures
    ∙ ap (hoisted c.args.scope.now.functions c.args.env.index)
    (c.in_ok-declare_lexical.ensures ∙ ap (λ xs. declare_all c.args.env.index xs (heap_of c.declare_variables.new.heap)) c.as_slice-2.ensures
    ∙ ap (declare_all c.args.env.index c.args.scope.now.lexical)
    (c.in_ok-declare_variables.ensures ∙ ap (λ xs. declare_all c.args.env.index (map (variable_of undefined) xs) (heap_of c.args.heap.now)) c.as_slice.ensures)
    ∙ declared_both c.args.env.index (map (variable_of undefined) c.args.scope.now.variables) c.args.scope.now.lexical (heap_of c.args.heap.now))
