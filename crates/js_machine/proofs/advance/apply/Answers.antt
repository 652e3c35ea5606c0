use Rattle.std.proofs.Common.{sym, ap, ◌∙◌, arith}
use Rattle.js_machine.specs.private.Config.{control_comp, step_comp, plug}
use Rattle.js_machine.specs.private.Weight.{step_weight, frames_weight}
use Rattle.js_machine.proofs.Plug.{plug_push, frames_weight-push}
use Rattle.js_machine.proofs.advance.apply.Goals as goal

pub returns-in-Ok-clause-means : goal.returns-in-Ok-clause-means
returns-in-Ok-clause-means c = λ t.
    ap (λ fs. plug t fs (control_comp t c.in-Push.control)) c.in-Ok.ensures.items
    ∙ plug_push t c.args.frames.now.items c.in-Push.frame (control_comp t c.in-Push.control)
    ∙ ap (λ s. plug t c.args.frames.now.items (step_comp t s)) (sym c.in-Push.is)

pub returns-in-Ok-clause-weight : goal.returns-in-Ok-clause-weight
returns-in-Ok-clause-weight c = λ w.
    let pushed = ap (frames_weight w) c.in-Ok.ensures.items ∙ frames_weight-push w c.args.frames.now.items c.in-Push.frame in
    let stepped = ap (step_weight w) c.in-Push.is in
    omega (arith, pushed, stepped)
