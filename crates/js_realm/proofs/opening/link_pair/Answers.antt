use Rattle.std.proofs.Common.{◌∙◌, ap}
use Rattle.js_value.specs.Objects.{define}
use Rattle.js_heap.proofs.Outcomes.{OnOk_then}
use Rattle.js_realm.proofs.opening.link_pair.Goals as goal

pub returns : goal.returns
returns c = OnOk_then c.define-2.result c.define-2.ensures (λ e. rw (c.object_at-function.ensures, c.object_at-prototype.ensures) at (e ∙ ap (define _ _) c.in_ok-define.ensures))
