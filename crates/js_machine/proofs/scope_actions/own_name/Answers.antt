use Rattle.std.proofs.Common.{ap, ◌∙◌}
use Rattle.std.proofs.Common.{true, [], ◌∷◌}
use Rattle.js_heap.specs.Heap.{heap_of}
use Rattle.js_value.specs.Functions.{name_units}
use Rattle.js_meaning.specs.Effects.{handle}
use Rattle.js_meaning.specs.Scopes.{scope_made, uninitialized}
use Rattle.js_meaning.specs.Meaning as M
use Rattle.js_machine.specs.declared.parts.Form.TheVariants as form
use Rattle.js_machine.specs.private.Config.{code_of}
use Rattle.js_machine.proofs.Entered.{enters_within}
use Rattle.js_machine.proofs.scope_actions.own_name.Goals as goal

pub returns-clause-means : goal.returns-clause-means
returns-clause-means c = λ t named. enters_within (scope_made (uninitialized true (t.name c.args.name) ∷ []) c.args.env.index) c.in_ok-inner.inner.index c.args.heap.now c.make_name.new.heap
    (λ e. handle (M.closure (code_of t form.Ordinary c.args.function) (name_units (t.name c.args.name)) e) (M.with_value (M.initialize (t.name c.args.name) e)))
    (c.in_ok-inner.ensures.made ∙ ap (λ n. scope_made (uninitialized true n ∷ []) c.args.env.index (heap_of c.args.heap.now)) named) c.in_ok-inner.ensures.environment
