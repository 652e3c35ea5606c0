-- What stands in brackets has no bare `in`.
use Rattle.std.proofs.Common.{refl}
use Rattle.js_stack.specs.Groups.{bracketed}
use Rattle.js_stack.proofs.groups.takes.Goals as goal

pub returns : goal.returns
returns c = c.fits.ensures bracketed refl
