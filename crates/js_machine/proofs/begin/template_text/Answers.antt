use Rattle.std.proofs.Common.{refl, ap, ◌∙◌}
use Rattle.std.proofs.Common.{append-nil}
use Rattle.js_code.specs.Code.{reader}
use Rattle.js_code.specs.Node.{build}
use Rattle.js_code.specs.Part.{as_template_part}
use Rattle.js_machine.proofs.OtherNodes as other
use Rattle.js_machine.proofs.begin.template_text.Goals as goal

pub returns-in_ok-joined-in-TemplatePart-clause-means : goal.returns-in_ok-joined-in-TemplatePart-clause-means
returns-in_ok-joined-in-TemplatePart-clause-means c = λ p. rw (c.in_ok-joined-in-TemplatePart.ensures, ap as_template_part (c.node.ensures.read ∙ ap (build (reader c.args.code.now.nodes)) c.in-TemplatePart.is)) refl

pub returns-in_default-clause-means : goal.returns-in_default-clause-means
returns-in_default-clause-means c = λ p. rw (ap as_template_part c.node.ensures.read ∙ other.no_template_part (reader c.args.code.now.nodes) c.node.result.now c.in_default.not-TemplatePart, append-nil c.args.units) refl
