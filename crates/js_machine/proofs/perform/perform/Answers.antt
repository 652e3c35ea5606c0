use Rattle.std.proofs.Common.{refl, sym, ap, ◌∙◌, arith}
use Rattle.std.proofs.lemmas.Result.{IfOk-weaker}
use Rattle.js_value.specs.Environments.{lookup, assign_name, init_name, name_answer}
use Rattle.js_heap.specs.Heap.{heap_of}
use Rattle.js_code.specs.Code.{node_at}
use Rattle.js_meaning.specs.Meaning as M
use Rattle.js_machine.specs.declared.data.Action.TheVariants as action
use Rattle.js_machine.specs.declared.data.Control.{Control}
use Rattle.js_machine.specs.declared.data.Control.TheVariants as control
use Rattle.std.proofs.Common.{◌≡◌}
use Rattle.js_machine.specs.private.Config.{view_of, name_of, control_comp}
use Rattle.js_machine.proofs.Acts.{acts, looks_at, turns_as, both, performs}
use Rattle.js_value.specs.Members.{get_member, put_member}
use Rattle.std.proofs.Common.{Some}
use Rattle.js_value.specs.Functions.{closed}
use Rattle.js_value.specs.Host.{error_made, error_of, message_of}
use Rattle.js_value.specs.Iterations.{iterated, keys_of, next_of, Keys}
use Rattle.js_value.specs.Objects.{next_object}
use Rattle.js_value.specs.Realm.{object}
use Rattle.js_host.specs.Iteration.{plain_iteration}
use Rattle.js_meaning.specs.declared.outcome.Completion.TheVariants as completion
use Rattle.js_meaning.specs.Effects.{ret}
use Rattle.js_meaning.specs.Scopes.{scope_made, shape_of, variable_of}
use Rattle.js_machine.specs.private.Config.{code_of, goes_through, takes_next_of, block_comp, key_of, units_of}
use Rattle.js_machine.proofs.Looked.{operated_turns, unary_turns, type_turns}
use Rattle.js_machine.proofs.Told.{key_told, units_told}
use Rattle.js_value.specs.Running.{leave_cache}
use Rattle.js_machine.specs.private.Config.{path_at, type_in_cell}
use Rattle.js_machine.specs.private.State.{store_in}
use Rattle.js_machine.proofs.Stores.{act_becomes, becomes_same}
use Rattle.std.proofs.Common.{[], ◌∷◌}
use Rattle.js_value.specs.Running.{cached}
use Rattle.js_meaning.specs.Files as F
use Rattle.js_machine.proofs.Stores.{looks_becomes}
use Rattle.js_machine.specs.private.Weight.{place_weight}
use Rattle.js_machine.proofs.perform.perform.Goals as goal

pub returns-in-Read-clause-becomes : goal.returns-in-Read-clause-becomes
returns-in-Read-clause-becomes c = performs c.args.code.now c.args.state.now c.args.action (action.Read c.in-Read.name c.in-Read.env) c.in-Read.is c.read.result c.args.state.now.heap
    (IfOk-weaker c.read.result _ _ (λ control means p of. looks_at c.args.state.now.heap (λ h. M.value_in h (lookup h c.in-Read.env.index (name_of (node_at c.args.code.now.nodes c.in-Read.name)))) (control_comp (view_of p c.args.code.now.nodes) control)
    (means (view_of p c.args.code.now.nodes) ∙ ap (λ n. M.value_in (heap_of c.args.state.now.heap) (lookup (heap_of c.args.state.now.heap) c.in-Read.env.index n)) c.name_at.ensures)) c.read.ensures.means)

pub returns-in-Write-clause-becomes : goal.returns-in-Write-clause-becomes
returns-in-Write-clause-becomes c = performs c.args.code.now c.args.state.now c.args.action (action.Write c.in-Write.name c.in-Write.env c.in-Write.value) c.in-Write.is c.write.result c.write.new.heap
    (IfOk-weaker c.write.result _ _ (λ control w p of.
    acts c.args.state.now.heap c.write.new.heap (assign_name c.in-Write.env.index (name_of (node_at c.args.code.now.nodes c.in-Write.name)) c.in-Write.value)
    (λ h. M.assigns c.in-Write.value (name_answer h c.in-Write.env.index (name_of (node_at c.args.code.now.nodes c.in-Write.name)))) (control_comp (view_of p c.args.code.now.nodes) control)
    (w.0 ∙ ap (λ n. assign_name c.in-Write.env.index n c.in-Write.value (heap_of c.args.state.now.heap)) c.name_at-in-Write.ensures)
    (w.1 (view_of p c.args.code.now.nodes) ∙ ap (λ n. M.assigns c.in-Write.value (name_answer (heap_of c.args.state.now.heap) c.in-Write.env.index n)) c.name_at-in-Write.ensures))
    (both c.write.result _ _ c.write.ensures.after c.write.ensures.means))

pub returns-in-Initialize-clause-becomes : goal.returns-in-Initialize-clause-becomes
returns-in-Initialize-clause-becomes c = performs c.args.code.now c.args.state.now c.args.action (action.Initialize c.in-Initialize.name c.in-Initialize.env c.in-Initialize.value) c.in-Initialize.is c.initialize.result c.initialize.new.heap
    (IfOk-weaker c.initialize.result _ _ (λ control w p of.
    acts c.args.state.now.heap c.initialize.new.heap (init_name c.in-Initialize.env.index (name_of (node_at c.args.code.now.nodes c.in-Initialize.name)) c.in-Initialize.value)
    (λ h. M.initializes c.in-Initialize.value (lookup h c.in-Initialize.env.index (name_of (node_at c.args.code.now.nodes c.in-Initialize.name)))) (control_comp (view_of p c.args.code.now.nodes) control)
    (w.0 ∙ ap (λ n. init_name c.in-Initialize.env.index n c.in-Initialize.value (heap_of c.args.state.now.heap)) c.name_at-in-Initialize.ensures)
    (w.1 (view_of p c.args.code.now.nodes) ∙ ap (λ n. M.initializes c.in-Initialize.value (lookup (heap_of c.args.state.now.heap) c.in-Initialize.env.index n)) c.name_at-in-Initialize.ensures))
    (both c.initialize.result _ _ c.initialize.ensures.after c.initialize.ensures.means))

pub returns-in-EnterBlock-clause-becomes : goal.returns-in-EnterBlock-clause-becomes
returns-in-EnterBlock-clause-becomes c = performs c.args.code.now c.args.state.now c.args.action (action.EnterBlock c.in-EnterBlock.block c.in-EnterBlock.env) c.in-EnterBlock.is c.enter_block.result c.enter_block.new.heap
    (IfOk-weaker c.enter_block.result _ _ (λ control turns p of. turns p) c.enter_block.ensures.means)

pub returns-in-EnterSwitch-clause-becomes : goal.returns-in-EnterSwitch-clause-becomes
returns-in-EnterSwitch-clause-becomes c = performs c.args.code.now c.args.state.now c.args.action (action.EnterSwitch c.in-EnterSwitch.cases c.in-EnterSwitch.value c.in-EnterSwitch.env) c.in-EnterSwitch.is c.enter_switch.result c.enter_switch.new.heap
    (IfOk-weaker c.enter_switch.result _ _ (λ control turns p of. turns p) c.enter_switch.ensures.means)

pub returns-in-EnterLoop-clause-becomes : goal.returns-in-EnterLoop-clause-becomes
returns-in-EnterLoop-clause-becomes c = performs c.args.code.now c.args.state.now c.args.action (action.EnterLoop c.in-EnterLoop.next c.in-EnterLoop.env) c.in-EnterLoop.is c.enter_loop.result c.enter_loop.new.heap
    (IfOk-weaker c.enter_loop.result _ _ (λ control turns p of. turns p) c.enter_loop.ensures.means)

pub returns-in-Anew-clause-becomes : goal.returns-in-Anew-clause-becomes
returns-in-Anew-clause-becomes c = performs c.args.code.now c.args.state.now c.args.action (action.Anew c.in-Anew.init c.in-Anew.next c.in-Anew.env) c.in-Anew.is c.make_anew.result c.make_anew.new.heap
    (IfOk-weaker c.make_anew.result _ _ (λ control turns p of. turns p) c.make_anew.ensures.means)

pub returns-in-Delete-clause-becomes : goal.returns-in-Delete-clause-becomes
returns-in-Delete-clause-becomes c = performs c.args.code.now c.args.state.now c.args.action (action.Delete c.in-Delete.reference) c.in-Delete.is c.delete_reference.result c.delete_reference.new.heap
    (IfOk-weaker c.delete_reference.result _ _ (λ control turns p of. turns p) c.delete_reference.ensures.means)

pub returns-in-EnterBody-clause-becomes : goal.returns-in-EnterBody-clause-becomes
returns-in-EnterBody-clause-becomes c = performs c.args.code.now c.args.state.now c.args.action (action.EnterBody c.in-EnterBody.function c.in-EnterBody.env) c.in-EnterBody.is c.enter_function.result c.enter_function.new.heap
    (IfOk-weaker c.enter_function.result _ _ (λ control turns p of. turns p) c.enter_function.ensures.means)

pub returns-in-Gathered-clause-becomes : goal.returns-in-Gathered-clause-becomes
returns-in-Gathered-clause-becomes c = performs c.args.code.now c.args.state.now c.args.action (action.Gathered c.in-Gathered.gathering c.in-Gathered.values) c.in-Gathered.is c.gathered.result c.gathered.new.heap c.gathered.ensures.means

pub returns-in-GetMember-clause-becomes : goal.returns-in-GetMember-clause-becomes
returns-in-GetMember-clause-becomes c = performs c.args.code.now c.args.state.now c.args.action (action.GetMember c.in-GetMember.base c.in-GetMember.key) c.in-GetMember.is c.get-control.result c.args.state.now.heap
    (IfOk-weaker c.get-control.result _ _ (λ control means p of. looks_at c.args.state.now.heap (λ h. M.or_halt (get_member h c.in-GetMember.base (key_of (view_of p c.args.code.now.nodes) c.in-GetMember.key)) M.give) (control_comp (view_of p c.args.code.now.nodes) control)
    (means (view_of p c.args.code.now.nodes) ∙ ap (λ k. M.or_halt (get_member (heap_of c.args.state.now.heap) c.in-GetMember.base k) M.give) (key_told p c.args.code.now.nodes c.in-GetMember.key))) c.get-control.ensures.means)

pub returns-in-PutMember-clause-becomes : goal.returns-in-PutMember-clause-becomes
returns-in-PutMember-clause-becomes c = performs c.args.code.now c.args.state.now c.args.action (action.PutMember c.in-PutMember.base c.in-PutMember.key c.in-PutMember.value) c.in-PutMember.is c.put_by_key-control.result c.put_by_key-control.new.heap
    (IfOk-weaker c.put_by_key-control.result _ _ (λ control w p of.
    acts c.args.state.now.heap c.put_by_key-control.new.heap (λ h. (put_member c.in-PutMember.base (key_of (view_of p c.args.code.now.nodes) c.in-PutMember.key) c.in-PutMember.value h).heap)
    (λ h. M.unless_halted (put_member c.in-PutMember.base (key_of (view_of p c.args.code.now.nodes) c.in-PutMember.key) c.in-PutMember.value h).halt (M.give c.in-PutMember.value)) (control_comp (view_of p c.args.code.now.nodes) control)
    (w.0 ∙ ap (λ k. (put_member c.in-PutMember.base k c.in-PutMember.value (heap_of c.args.state.now.heap)).heap) (key_told p c.args.code.now.nodes c.in-PutMember.key))
    (w.1 (view_of p c.args.code.now.nodes) ∙ ap (λ k. M.unless_halted (put_member c.in-PutMember.base k c.in-PutMember.value (heap_of c.args.state.now.heap)).halt (M.give c.in-PutMember.value)) (key_told p c.args.code.now.nodes c.in-PutMember.key)))
    (both c.put_by_key-control.result _ _ c.put_by_key-control.ensures.after c.put_by_key-control.ensures.means))

pub returns-in-Operate-clause-becomes : goal.returns-in-Operate-clause-becomes
returns-in-Operate-clause-becomes c = performs c.args.code.now c.args.state.now c.args.action (action.Operate c.in-Operate.operator c.in-Operate.left c.in-Operate.right) c.in-Operate.is c.operate-control.result c.args.state.now.heap
    (IfOk-weaker c.operate-control.result _ _ (λ control means p of. operated_turns c.in-Operate.operator c.in-Operate.left c.in-Operate.right c.args.state.now.heap (control_comp (view_of p c.args.code.now.nodes) control) (means (view_of p c.args.code.now.nodes))) c.operate-control.ensures.means)

pub returns-in-OperateUnary-clause-becomes : goal.returns-in-OperateUnary-clause-becomes
returns-in-OperateUnary-clause-becomes c = performs c.args.code.now c.args.state.now c.args.action (action.OperateUnary c.in-OperateUnary.operator c.in-OperateUnary.value) c.in-OperateUnary.is c.operate_unary-control.result c.args.state.now.heap
    (IfOk-weaker c.operate_unary-control.result _ _ (λ control means p of. unary_turns c.in-OperateUnary.operator c.in-OperateUnary.value c.args.state.now.heap (control_comp (view_of p c.args.code.now.nodes) control) (means (view_of p c.args.code.now.nodes))) c.operate_unary-control.ensures.means)

pub returns-in-TypeOfName-clause-becomes : goal.returns-in-TypeOfName-clause-becomes
returns-in-TypeOfName-clause-becomes c = performs c.args.code.now c.args.state.now c.args.action (action.TypeOfName c.in-TypeOfName.name c.in-TypeOfName.env) c.in-TypeOfName.is c.type_of_name.result c.args.state.now.heap
    (IfOk-weaker c.type_of_name.result _ _ (λ control means p of. type_turns (name_of (node_at c.args.code.now.nodes c.in-TypeOfName.name)) c.in-TypeOfName.env.index c.args.state.now.heap (control_comp (view_of p c.args.code.now.nodes) control)
    (means (view_of p c.args.code.now.nodes) ∙ ap (λ n. type_in_cell (heap_of c.args.state.now.heap) (lookup (heap_of c.args.state.now.heap) c.in-TypeOfName.env.index n)) c.name_at-in-TypeOfName.ensures)) c.type_of_name.ensures.means)

pub returns-in-Throw-clause-becomes : goal.returns-in-Throw-clause-becomes
returns-in-Throw-clause-becomes c = performs c.args.code.now c.args.state.now c.args.action (action.Throw c.in-Throw.complaint) c.in-Throw.is c.throw.result c.throw.new.heap
    (IfOk-weaker c.throw.result _ _ (λ control w p of. acts c.args.state.now.heap c.throw.new.heap (error_made (error_of c.in-Throw.complaint) (Some (message_of c.in-Throw.complaint))) (λ h. ret (completion.Throw (object (next_object h))))
    (control_comp (view_of p c.args.code.now.nodes) control) w.0 (ap (control_comp (view_of p c.args.code.now.nodes)) w.1)) (both c.throw.result _ _ c.throw.ensures.after c.throw.ensures.control))

pub returns-in-GoThrough-clause-becomes : goal.returns-in-GoThrough-clause-becomes
returns-in-GoThrough-clause-becomes c = performs c.args.code.now c.args.state.now c.args.action (action.GoThrough c.in-GoThrough.round c.in-GoThrough.rest) c.in-GoThrough.is c.go_through.result c.args.state.now.heap
    (IfOk-weaker c.go_through.result _ _ (λ control means p of. looks_at c.args.state.now.heap (λ h. takes_next_of (view_of p c.args.code.now.nodes) c.in-GoThrough.round (next_of h (plain_iteration c.in-GoThrough.rest))) (control_comp (view_of p c.args.code.now.nodes) control) (means (view_of p c.args.code.now.nodes))) c.go_through.ensures.means)

pub returns-in-GoThroughKeys-clause-becomes : goal.returns-in-GoThroughKeys-clause-becomes
returns-in-GoThroughKeys-clause-becomes c = performs c.args.code.now c.args.state.now c.args.action (action.GoThroughKeys c.in-GoThroughKeys.round c.in-GoThroughKeys.value) c.in-GoThroughKeys.is c.go_through_keys.result c.args.state.now.heap
    (IfOk-weaker c.go_through_keys.result _ _ (λ control means p of. looks_at c.args.state.now.heap (λ h. goes_through (view_of p c.args.code.now.nodes) c.in-GoThroughKeys.round (Keys c.in-GoThroughKeys.value (keys_of h c.in-GoThroughKeys.value))) (control_comp (view_of p c.args.code.now.nodes) control) (means (view_of p c.args.code.now.nodes))) c.go_through_keys.ensures.means)

pub returns-in-GoThroughItems-clause-becomes : goal.returns-in-GoThroughItems-clause-becomes
returns-in-GoThroughItems-clause-becomes c = performs c.args.code.now c.args.state.now c.args.action (action.GoThroughItems c.in-GoThroughItems.round c.in-GoThroughItems.value) c.in-GoThroughItems.is c.go_through_items-control.result c.args.state.now.heap
    (IfOk-weaker c.go_through_items-control.result _ _ (λ control means p of. looks_at c.args.state.now.heap (λ h. M.or_halt (iterated h c.in-GoThroughItems.value) (goes_through (view_of p c.args.code.now.nodes) c.in-GoThroughItems.round)) (control_comp (view_of p c.args.code.now.nodes) control) (means (view_of p c.args.code.now.nodes))) c.go_through_items-control.ensures.means)

pub returns-in-Caught-clause-becomes : goal.returns-in-Caught-clause-becomes
returns-in-Caught-clause-becomes c = performs c.args.code.now c.args.state.now c.args.action (action.Caught c.in-Caught.name c.in-Caught.value c.in-Caught.block c.in-Caught.env) c.in-Caught.is c.catch_name.result c.catch_name.new.heap
    (IfOk-weaker c.catch_name.result _ _ (λ control turns p of. turns_as _ _ c.args.state.now.heap c.catch_name.new.heap _ _
    (ap (λ n. M.within (scope_made (variable_of c.in-Caught.value n ∷ []) c.in-Caught.env.index) (block_comp (view_of p c.args.code.now.nodes) c.in-Caught.block)) (sym c.name_at-name.ensures)) refl (turns (view_of p c.args.code.now.nodes))) c.catch_name.ensures.means)

pub returns-in-OwnName-clause-becomes : goal.returns-in-OwnName-clause-becomes
returns-in-OwnName-clause-becomes c = performs c.args.code.now c.args.state.now c.args.action (action.OwnName c.in-OwnName.name c.in-OwnName.function c.in-OwnName.env) c.in-OwnName.is c.own_name.result c.own_name.new.heap
    (IfOk-weaker c.own_name.result _ _ (λ control turns p of. turns (view_of p c.args.code.now.nodes) c.name_at-own.ensures) c.own_name.ensures.means)

pub returns-in-Close-clause-becomes : goal.returns-in-Close-clause-becomes
returns-in-Close-clause-becomes c = performs c.args.code.now c.args.state.now c.args.action (action.Close c.in-Close.form c.in-Close.function c.in-Close.title c.in-Close.env) c.in-Close.is c.close_titled.result c.close_titled.new.heap
    (IfOk-weaker c.close_titled.result _ _ (λ control w p of.
    acts c.args.state.now.heap c.close_titled.new.heap (closed (shape_of (code_of (view_of p c.args.code.now.nodes) c.in-Close.form c.in-Close.function)) (units_of (view_of p c.args.code.now.nodes) c.in-Close.title) c.in-Close.env.index) (λ h. M.give (object (next_object h)))
    (control_comp (view_of p c.args.code.now.nodes) control) (w.0 ∙ ap (λ us. closed (shape_of (code_of (view_of p c.args.code.now.nodes) c.in-Close.form c.in-Close.function)) us c.in-Close.env.index (heap_of c.args.state.now.heap)) (units_told p c.args.code.now.nodes c.in-Close.title)) (ap (control_comp (view_of p c.args.code.now.nodes)) w.1))
    (both c.close_titled.result _ _ c.close_titled.ensures.after c.close_titled.ensures.control))

pub returns-in-StartCall-clause-becomes : goal.returns-in-StartCall-clause-becomes
returns-in-StartCall-clause-becomes c = performs c.args.code.now c.args.state.now c.args.action (action.StartCall c.in-StartCall.this c.in-StartCall.function c.in-StartCall.env c.in-StartCall.arguments) c.in-StartCall.is c.start_function.result c.start_function.new.heap
    (IfOk-weaker c.start_function.result _ _ (λ control turns p of. turns p) c.start_function.ensures.means)

pub returns-in-Exports-clause-becomes : goal.returns-in-Exports-clause-becomes
returns-in-Exports-clause-becomes c = IfOk-weaker c.exports.result _ _ (λ control means p base of. rw c.in-Exports.is
    (looks_becomes (λ s. M.give (F.exports_in s.heap (cached s (path_at p c.in-Exports.file)))) (control_comp (view_of p c.args.code.now.nodes) control) (store_in base c.args.state.now)
    (means (view_of p c.args.code.now.nodes) base ∙ ap (λ path. M.give (F.exports_in (heap_of c.args.state.now.heap) (cached (store_in base c.args.state.now) path))) (c.path_at.ensures p of)))) c.exports.ensures.means

pub returns-in-LeaveCache-clause-becomes : goal.returns-in-LeaveCache-clause-becomes
returns-in-LeaveCache-clause-becomes c = λ p base of. rw c.in-LeaveCache.is
    (act_becomes (leave_cache (path_at p c.in-LeaveCache.file)) (λ s. ret (completion.Throw c.in-LeaveCache.thrown)) (store_in base c.args.state.now) (store_in base c.leave_cache.new.state) (store_in base c.leave_cache.new.state)
    (ret (completion.Throw c.in-LeaveCache.thrown)) (c.leave_cache.ensures base ∙ ap (λ path. leave_cache path (store_in base c.args.state.now)) (c.path_at-in-LeaveCache.ensures p of)) (becomes_same _ _ _ refl))

pub returns-in-Read-clause-less : goal.returns-in-Read-clause-less
returns-in-Read-clause-less c = IfOk-weaker c.read.result _ _ (λ control less. rw c.in-Read.is (less place_weight)) c.read.ensures.less

pub returns-in-Write-clause-less : goal.returns-in-Write-clause-less
returns-in-Write-clause-less c = IfOk-weaker c.write.result _ _ (λ control less. rw c.in-Write.is (less place_weight)) c.write.ensures.less

pub returns-in-Initialize-clause-less : goal.returns-in-Initialize-clause-less
returns-in-Initialize-clause-less c = IfOk-weaker c.initialize.result _ _ (λ control less. rw c.in-Initialize.is (less place_weight)) c.initialize.ensures.less

pub returns-in-GetMember-clause-less : goal.returns-in-GetMember-clause-less
returns-in-GetMember-clause-less c = IfOk-weaker c.get-control.result _ _ (λ control less. rw c.in-GetMember.is (less place_weight)) c.get-control.ensures.less

pub returns-in-Operate-clause-less : goal.returns-in-Operate-clause-less
returns-in-Operate-clause-less c = IfOk-weaker c.operate-control.result _ _ (λ control less. rw c.in-Operate.is (less place_weight)) c.operate-control.ensures.less

pub returns-in-TypeOfName-clause-less : goal.returns-in-TypeOfName-clause-less
returns-in-TypeOfName-clause-less c = IfOk-weaker c.type_of_name.result _ _ (λ control less. rw c.in-TypeOfName.is (less place_weight)) c.type_of_name.ensures.less

pub returns-in-Delete-clause-less : goal.returns-in-Delete-clause-less
returns-in-Delete-clause-less c = IfOk-weaker c.delete_reference.result _ _ (λ control less. rw c.in-Delete.is (less place_weight)) c.delete_reference.ensures.less

pub returns-in-Gathered-clause-less : goal.returns-in-Gathered-clause-less
returns-in-Gathered-clause-less c = IfOk-weaker c.gathered.result _ _ (λ control less. rw c.in-Gathered.is (less place_weight)) c.gathered.ensures.less

pub returns-in-GoThrough-clause-less : goal.returns-in-GoThrough-clause-less
returns-in-GoThrough-clause-less c = IfOk-weaker c.go_through.result _ _ (λ control less. rw c.in-GoThrough.is (less place_weight)) c.go_through.ensures.less

pub returns-in-GoThroughKeys-clause-less : goal.returns-in-GoThroughKeys-clause-less
returns-in-GoThroughKeys-clause-less c = IfOk-weaker c.go_through_keys.result _ _ (λ control less. rw c.in-GoThroughKeys.is (less place_weight)) c.go_through_keys.ensures.less

pub returns-in-GoThroughItems-clause-less : goal.returns-in-GoThroughItems-clause-less
returns-in-GoThroughItems-clause-less c = IfOk-weaker c.go_through_items-control.result _ _ (λ control less. rw c.in-GoThroughItems.is (less place_weight)) c.go_through_items-control.ensures.less

pub returns-in-EnterBody-clause-less : goal.returns-in-EnterBody-clause-less
returns-in-EnterBody-clause-less c = IfOk-weaker c.enter_function.result _ _ (λ control less. rw c.in-EnterBody.is less) c.enter_function.ensures.less

pub returns-in-PutMember-clause-less : goal.returns-in-PutMember-clause-less
returns-in-PutMember-clause-less c = IfOk-weaker c.put_by_key-control.result _ _ (λ control less. rw c.in-PutMember.is (less place_weight)) c.put_by_key-control.ensures.less

pub returns-in-EnterBlock-clause-less : goal.returns-in-EnterBlock-clause-less
returns-in-EnterBlock-clause-less c = IfOk-weaker c.enter_block.result _ _ (λ control less. rw c.in-EnterBlock.is less) c.enter_block.ensures.less

pub returns-in-EnterSwitch-clause-less : goal.returns-in-EnterSwitch-clause-less
returns-in-EnterSwitch-clause-less c = IfOk-weaker c.enter_switch.result _ _ (λ control less. rw c.in-EnterSwitch.is less) c.enter_switch.ensures.less

pub returns-in-OperateUnary-clause-less : goal.returns-in-OperateUnary-clause-less
returns-in-OperateUnary-clause-less c = IfOk-weaker c.operate_unary-control.result _ _ (λ control less. rw c.in-OperateUnary.is (omega (arith, less place_weight))) c.operate_unary-control.ensures.less

pub returns-in-EnterLoop-clause-less : goal.returns-in-EnterLoop-clause-less
returns-in-EnterLoop-clause-less c = IfOk-weaker c.enter_loop.result _ _ (λ control less. rw c.in-EnterLoop.is (omega (arith, less place_weight))) c.enter_loop.ensures.less

pub returns-in-Anew-clause-less : goal.returns-in-Anew-clause-less
returns-in-Anew-clause-less c = IfOk-weaker c.make_anew.result _ _ (λ control less. rw c.in-Anew.is (omega (arith, less place_weight))) c.make_anew.ensures.less

pub returns-in-Caught-clause-less : goal.returns-in-Caught-clause-less
returns-in-Caught-clause-less c = IfOk-weaker c.catch_name.result _ _ (λ control less. rw c.in-Caught.is (omega (arith, less place_weight))) c.catch_name.ensures.less

pub returns-in-OwnName-clause-less : goal.returns-in-OwnName-clause-less
returns-in-OwnName-clause-less c = IfOk-weaker c.own_name.result _ _ (λ control less. rw c.in-OwnName.is (omega (arith, less place_weight))) c.own_name.ensures.less

pub returns-in-Exports-clause-less : goal.returns-in-Exports-clause-less
returns-in-Exports-clause-less c = IfOk-weaker c.exports.result _ _ (λ control less. rw c.in-Exports.is (omega (arith, less place_weight))) c.exports.ensures.less

pub returns-in-Throw-clause-less : goal.returns-in-Throw-clause-less
returns-in-Throw-clause-less c = IfOk-weaker c.throw.result (λ (k : Control). k ≡ control.Give (completion.Throw (object (next_object (heap_of c.args.state.now.heap))))) _ (λ k is. rw (c.in-Throw.is, is) (omega arith)) c.throw.ensures.control

pub returns-in-Close-clause-less : goal.returns-in-Close-clause-less
returns-in-Close-clause-less c = IfOk-weaker c.close_titled.result (λ (k : Control). k ≡ control.Give (completion.Normal (object (next_object (heap_of c.args.state.now.heap))))) _ (λ k is. rw (c.in-Close.is, is) (omega arith)) c.close_titled.ensures.control

pub returns-in-StartCall-clause-less : goal.returns-in-StartCall-clause-less
returns-in-StartCall-clause-less c = IfOk-weaker c.start_function.result _ _ (λ control less. rw c.in-StartCall.is less) c.start_function.ensures.less

pub returns-in-LeaveCache-clause-less : goal.returns-in-LeaveCache-clause-less
returns-in-LeaveCache-clause-less c = rw c.in-LeaveCache.is (omega arith)

pub returns-in-MakeRegExp-clause-becomes : goal.returns-in-MakeRegExp-clause-becomes
returns-in-MakeRegExp-clause-becomes c = performs c.args.code.now c.args.state.now c.args.action action.MakeRegExp c.in-MakeRegExp.is c.make_reg_exp.result c.make_reg_exp.new.heap
    (IfOk-weaker c.make_reg_exp.result _ _ (λ control turns p of. turns (view_of p c.args.code.now.nodes)) c.make_reg_exp.ensures.means)

pub returns-in-MakeObject-clause-becomes : goal.returns-in-MakeObject-clause-becomes
returns-in-MakeObject-clause-becomes c = performs c.args.code.now c.args.state.now c.args.action (action.MakeObject c.in-MakeObject.properties c.in-MakeObject.env) c.in-MakeObject.is c.make_object.result c.make_object.new.heap
    (IfOk-weaker c.make_object.result _ _ (λ control turns p of. turns (view_of p c.args.code.now.nodes)) c.make_object.ensures.means)

pub returns-in-Define-clause-becomes : goal.returns-in-Define-clause-becomes
returns-in-Define-clause-becomes c = performs c.args.code.now c.args.state.now c.args.action (action.Define c.in-Define.object c.in-Define.key c.in-Define.value) c.in-Define.is c.define_titled.result c.define_titled.new.heap
    (IfOk-weaker c.define_titled.result _ _ (λ control turns p of. turns p) c.define_titled.ensures.means)

pub returns-in-MakeRegExp-clause-less : goal.returns-in-MakeRegExp-clause-less
returns-in-MakeRegExp-clause-less c = IfOk-weaker c.make_reg_exp.result _ _ (λ control less. rw c.in-MakeRegExp.is (less place_weight)) c.make_reg_exp.ensures.less

pub returns-in-MakeObject-clause-less : goal.returns-in-MakeObject-clause-less
returns-in-MakeObject-clause-less c = IfOk-weaker c.make_object.result _ _ (λ control less. rw c.in-MakeObject.is (omega (arith, less place_weight))) c.make_object.ensures.less

pub returns-in-Define-clause-less : goal.returns-in-Define-clause-less
returns-in-Define-clause-less c = IfOk-weaker c.define_titled.result _ _ (λ control less. rw c.in-Define.is (less place_weight)) c.define_titled.ensures.less
