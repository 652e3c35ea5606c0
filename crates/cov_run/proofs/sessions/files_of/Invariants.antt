-- The files stand for the sources so far.
use Rattle.std.proofs.Common.{map, take}
use Rattle.std.specs.List.{AllZip}
use Rattle.js_meaning.specs.Program as program
use Rattle.cov_run.specs.Session.{IsCounting}
use Rattle.cov_run.proofs.sessions.files_of.Given as goal

abbrev pub invariant-loop-source : goal.invariant-loop-source
invariant-loop-source l = AllZip IsCounting (take l.source-index l.sources) (map program.source_of l.files)
