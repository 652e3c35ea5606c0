use Rattle.std.proofs.Common.{ap, ◌∙◌}
use Rattle.js_heap.specs.Heap.{heap_of}
use Rattle.js_value.specs.Functions.{closed}
use Rattle.js_code.specs.Code.{reader}
use Rattle.js_code.specs.Part.{as_code}
use Rattle.js_meaning.specs.Scopes.{shape_of}
use Rattle.js_machine.specs.private.Config.{form_code}
use Rattle.js_machine.proofs.perform.close_titled.Goals as goal

pub returns-clause-after : goal.returns-clause-after
returns-clause-after c = c.in_ok-object.ensures.made ∙ ap (λ us. closed (shape_of (form_code c.args.form (as_code ((reader c.args.code.now.nodes) c.args.function)))) us c.args.env.index (heap_of c.args.heap.now)) c.in_ok-name.ensures
