use Rattle.std.specs.Prelude.{slice_get}
use Rattle.js_meaning.specs.Prelude.{opening}
use Rattle.js_meaning.specs.Program.{linked}
use Rattle.js_meaning.specs.Files.{inside, start_file}
use Rattle.js_meaning.proofs.Growth.{adds_more}
use Rattle.js_meaning.proofs.Grown.{grows_inside, grows_start}
use Rattle.js_meaning.proofs.Handle.{over_more}
use Rattle.js_meaning.proofs.laws.more_steps.Goals as goal

pub returns-clause-ended : goal.returns-clause-ended
returns-clause-ended c = λ p file n m. over_more (inside (linked p)) n m (start_file (linked p) file) (opening (linked p))

pub returns-clause-going : goal.returns-clause-going
returns-clause-going c = λ p file n m.
    adds_more (inside (linked p)) (grows_inside (linked p)) n m (start_file (linked p) file) (opening (linked p))
    (grows_start (linked p) (slice_get (linked p).files file) file)
