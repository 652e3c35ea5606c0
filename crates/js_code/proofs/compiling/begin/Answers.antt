use Rattle.std.proofs.Common.{refl}
use Rattle.js_code.proofs.Reading.{ordered_none, scopes_none}
use Rattle.js_code.proofs.compiling.begin.Goals as goal

pub invariant_of-result : goal.invariant_of-result
invariant_of-result c = (ordered_none _ c.new.ensures, scopes_none _ c.new.ensures, refl)
