-- Those so far.
use Rattle.std.proofs.Common.{take}
use Rattle.cov_sim.specs.Headline.{HaveTexts}
use Rattle.cov_sim.proofs.instrumenting.look_at_inputs.Given as goal

abbrev pub invariant-loop-source : goal.invariant-loop-source
invariant-loop-source l = HaveTexts (take l.source-index l.sources)
