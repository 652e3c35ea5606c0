-- The files so far, and what is left of the sources.
use Rattle.std.proofs.Common.{drop, map}
use Rattle.js_meaning.specs.Program as program
use Rattle.cov_run.specs.Exec.{AreRead}
use Rattle.cov_run.proofs.Running.{Follow}
use Rattle.cov_run.proofs.run.files_of.Given as goal

abbrev pub invariant-loop-source : goal.invariant-loop-source
invariant-loop-source l = record {
  left : AreRead (drop l.source-index l.sources);
  follow : Follow l.sources (drop l.source-index l.sources) (map program.source_of l.files);
}
