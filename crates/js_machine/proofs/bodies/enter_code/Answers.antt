use Rattle.std.proofs.Common.{sym, subst}
use Rattle.js_code.specs.Code.{reader}
use Rattle.js_code.specs.Node.{arrow_body}
use Rattle.js_code.specs.Part.{as_code}
use Rattle.js_meaning.specs.Effects.{Comp}
use Rattle.js_meaning.specs.Files.{in_body}
use Rattle.js_meaning.specs.Meaning as M
use Rattle.js_meaning.specs.Scopes.{body_scope}
use Rattle.js_machine.specs.private.State.{Turns}
use Rattle.js_machine.proofs.Entered.{enters_body}
use Rattle.js_machine.proofs.bodies.enter_code.Goals as goal

pub returns-clause-means : goal.returns-clause-means
returns-clause-means c = λ p params xs is.
    let body = M.comp_concise p (arrow_body (as_code (reader c.args.code.now.nodes c.args.function))) in
    subst (λ (d : Comp). Turns (in_body params (body_scope xs) c.args.env.index body) c.args.heap.now d c.enter_body.new.heap) (sym (c.run.ensures.means p))
    (enters_body c.args.scope.now params xs c.args.env.index c.in_ok-inner.inner.index c.args.heap.now c.enter_body.new.heap body is c.in_ok-inner.ensures)
