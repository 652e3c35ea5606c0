-- The list has the texts of the sources so far.
use Rattle.std.proofs.Common.{take}
use Rattle.cov_sim.specs.Instrumented.{AreInstrumented}
use Rattle.cov_sim.proofs.instrumenting.all_of.Given as goal

abbrev pub invariant-loop-source : goal.invariant-loop-source
invariant-loop-source l = AreInstrumented (take l.source-index l.sources) l.list.items
