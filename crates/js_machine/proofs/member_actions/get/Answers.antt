use Rattle.std.proofs.Common.{ap, ◌∙◌}
use Rattle.std.proofs.lemmas.Result.{IfOk-weaker}
use Rattle.js_heap.specs.Heap.{heap_of}
use Rattle.js_meaning.specs.Meaning as M
use Rattle.js_value.specs.Members.{get_member}
use Rattle.js_value.specs.Realm.{text}
use Rattle.js_machine.proofs.member_actions.get.Goals as goal

pub returns-in_ok-units-in-Name-clause-means : goal.returns-in_ok-units-in-Name-clause-means
returns-in_ok-units-in-Name-clause-means c = IfOk-weaker c.get_by_name.result _ _
    (λ control means t. rw c.in-Name.is (means t ∙ ap (λ us. M.or_halt (get_member (heap_of c.args.heap.now) c.args.base.now (text us)) M.give) c.in_ok-units-in-Name.ensures)) c.get_by_name.ensures.means

pub returns-in-Value-clause-means : goal.returns-in-Value-clause-means
returns-in-Value-clause-means c = rw c.in-Value.is c.get_by_value-control.ensures.means
