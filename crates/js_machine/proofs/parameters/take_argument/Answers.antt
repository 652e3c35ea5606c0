use Rattle.std.proofs.Common.{drop, sym, ap, ◌∙◌}
use Rattle.js_value.specs.Environments.{init_name, lookup}
use Rattle.js_code.specs.Code.{reader}
use Rattle.js_code.specs.Part.{as_param}
use Rattle.js_heap.specs.Environment.{plain_cell}
use Rattle.js_heap.specs.Heap.{heap_of}
use Rattle.js_machine.specs.private.AtOnce.{param_name}
use Rattle.js_machine.proofs.Bound.{param_turns, param_stops}
use Rattle.js_machine.proofs.parameters.take_argument.Goals as goal

pub returns-in-Some : goal.returns-in-Some
returns-in-Some c = λ p xs. param_turns p (as_param (reader c.args.code.now.nodes c.args.param)) xs c.args.env.index (drop c.args.next c.args.arguments.now) (plain_cell c.in-Some.field-0) c.args.heap.now c.init_name.new.self c.requires.plain
    (c.in-Some.ensures.after ∙ ap (λ n. init_name c.args.env.index n c.in_ok-value.value (heap_of c.args.heap.now)) c.name_of_param.ensures
    ∙ ap (λ v. init_name c.args.env.index (param_name (as_param (reader c.args.code.now.nodes c.args.param))) v (heap_of c.args.heap.now)) c.in_ok-value.ensures)
    (sym (c.in-Some.ensures.cell ∙ ap (lookup (heap_of c.args.heap.now) c.args.env.index) c.name_of_param.ensures))

pub returns-in-None : goal.returns-in-None
returns-in-None c = λ p xs. param_stops p (as_param (reader c.args.code.now.nodes c.args.param)) xs c.args.env.index (drop c.args.next c.args.arguments.now) c.args.heap.now c.init_name.new.self c.requires.plain
    (c.in-None.ensures.after ∙ ap (λ n. init_name c.args.env.index n c.in_ok-value.value (heap_of c.args.heap.now)) c.name_of_param.ensures
    ∙ ap (λ v. init_name c.args.env.index (param_name (as_param (reader c.args.code.now.nodes c.args.param))) v (heap_of c.args.heap.now)) c.in_ok-value.ensures)
    (sym (c.in-None.ensures.cell ∙ ap (lookup (heap_of c.args.heap.now) c.args.env.index) c.name_of_param.ensures))
