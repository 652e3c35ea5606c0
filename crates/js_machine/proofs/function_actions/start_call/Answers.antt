use Rattle.std.proofs.Common.{ap, ◌∙◌}
use Rattle.std.proofs.lemmas.Result.{IfOk-weaker}
use Rattle.std.proofs.Common.{◌++◌, map, false}
use Rattle.js_heap.specs.Heap.{heap_of}
use Rattle.js_code.specs.Code.{reader}
use Rattle.js_code.specs.Part.{as_code}
use Rattle.js_meaning.specs.Scopes.{param_names, params_of, scope_made, uninitialized}
use Rattle.js_machine.proofs.function_actions.start_call.Goals as goal

pub returns-clause-made : goal.returns-clause-made
returns-clause-made c = IfOk-weaker c.make_scope.result _ _ (λ inner made. made
    ∙ ap (λ xs. scope_made xs c.args.env.index (heap_of c.args.heap.now)) (c.in_ok-put_params.ensures ∙ ap (λ xs. xs ++ map (uninitialized false) (param_names (params_of (as_code (reader c.args.code.now.nodes c.args.function))))) c.in_ok-names.ensures))
    c.make_scope.ensures.made
