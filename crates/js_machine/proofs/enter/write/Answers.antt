use Rattle.std.proofs.Common.{refl}
use Rattle.js_machine.proofs.Natives.{writes}
use Rattle.js_machine.proofs.enter.write.Goals as goal

pub returns : goal.returns
returns c = λ t base. rw c.undefined.ensures
    (writes c.args.state.now (record c.args.state.now { output = c.extend_from_slice.new.self }) c.args.bytes.now base c.in_ok-extend_from_slice.ensures.items refl)
