-- What is seen where slots of a production are left holds of all such places.
use Rattle.std.proofs.Common.{subst, sym}
use Rattle.js_build.specs.View.{plain_pieces}
use Rattle.js_stack.specs.Sight.{Sees}
use Rattle.js_stack.specs.View.{config, frames}
use Rattle.js_stack.proofs.sight.seen.Goals as goal

pub returns-in-Due : goal.returns-in-Due
returns-in-Due c =
    subst
    (λ place. Sees c.due.result (config place (frames c.args.stack.now)))
    (sym c.in-Due.is)
    (c.due.ensures c.in-Due.production.start (plain_pieces c.in-Due.production.parts) c.in-Due.field-1 (frames c.args.stack.now))
