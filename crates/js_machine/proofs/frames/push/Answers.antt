use Rattle.std.proofs.Common.{ap, ◌∙◌}
use Rattle.js_machine.specs.private.Config.{plug}
use Rattle.js_machine.specs.private.Weight.{frames_weight}
use Rattle.js_machine.proofs.Plug.{plug_push, frames_weight-push}
use Rattle.js_machine.proofs.frames.push.Goals as goal

pub returns-in-Ok-clause-means : goal.returns-in-Ok-clause-means
returns-in-Ok-clause-means c = λ t comp. ap (λ fs. plug t fs comp) c.in-Ok.ensures.items ∙ plug_push t c.args.frames.now.items c.args.frame comp

pub returns-in-Ok-clause-weight : goal.returns-in-Ok-clause-weight
returns-in-Ok-clause-weight c = λ w. ap (frames_weight w) c.in-Ok.ensures.items ∙ frames_weight-push w c.args.frames.now.items c.args.frame
