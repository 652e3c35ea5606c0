use Rattle.std.proofs.Common.{refl, sym, ap, ◌∙◌}
use Rattle.js_meaning.specs.Effects.{exec}
use Rattle.js_meaning.specs.Prelude.{opening}
use Rattle.js_machine.specs.private.Config.{view_of, control_comp, plug}
use Rattle.js_machine.specs.private.State.{store_in}
use Rattle.js_machine.specs.declared.state.State.{State}
use Rattle.js_machine.proofs.FileBegins.{opens_same}
use Rattle.js_machine.proofs.machine.Machine.open.Goals as goal

pub returns : goal.returns
returns c =
    let s : State = record { heap = c.in_ok-heap.heap; output = c.new-2.result; cache = c.new-3.result; requiring = c.new-4.result; starts = c.new-5.result } in
    record {
      code_is = refl;
      same = λ p carries inside n. opens_same p s (c.in_ok-heap.ensures p carries.code_of) c.new-2.ensures.items c.new-3.ensures.items c.new-4.ensures.items c.new-5.ensures.items
          c.args.file (control_comp (view_of p c.args.code.nodes) c.in_ok-control.control) c.start_file.new.state (c.in_ok-control.ensures.becomes p (opening p) carries) inside n
          ∙ ap (λ fs. exec inside n (plug (view_of p c.args.code.nodes) fs (control_comp (view_of p c.args.code.nodes) c.in_ok-control.control)) (store_in (opening p) c.start_file.new.state))
          (sym c.new-6.ensures.items);
      printed = c.in_ok-control.ensures.output ∙ c.new-2.ensures.items;
      given = refl;
      lost = refl;
    }
