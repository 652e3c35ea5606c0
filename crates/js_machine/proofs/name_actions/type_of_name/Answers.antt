use Rattle.std.proofs.Common.{refl, sym, ap, ◌∙◌}
use Rattle.std.proofs.lemmas.Result.{IfOk-weaker}
use Rattle.js_heap.specs.Heap.{heap_of}
use Rattle.js_machine.specs.private.Config.{type_in_cell}
use Rattle.js_machine.proofs.name_actions.type_of_name.Goals as goal

pub returns-in-Some-clause-means : goal.returns-in-Some-clause-means
returns-in-Some-clause-means c = IfOk-weaker c.type_of_cell.result _ _ (λ control means t. means t ∙ ap (type_in_cell (heap_of c.args.heap.now)) c.in-Some.ensures) c.type_of_cell.ensures.means

pub returns-in_ok-ascii-in-None-clause-means : goal.returns-in_ok-ascii-in-None-clause-means
returns-in_ok-ascii-in-None-clause-means c = λ t. rw (sym c.in-None.ensures, c.in_ok-ascii-in-None.ensures) refl
