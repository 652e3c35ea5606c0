use Rattle.std.proofs.Common.{refl}
use Rattle.js_build.proofs.make.nothing.Goals as goal

pub returns : goal.returns
returns c = refl
