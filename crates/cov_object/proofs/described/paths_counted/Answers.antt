use Rattle.std.proofs.Common.{◌∙◌, sym, arith}
use Rattle.cov_object.proofs.ReadLemmas.{paths_with-stop, paths_with-end}
use Rattle.cov_object.proofs.described.paths_counted.Goals as goal

pub returns-in_default : goal.returns-in_default
returns-in_default c =
    sym (paths_with-stop c.loop-place.counted.items c.loop-place.place c.args.paths.now c.args.counts.now c.index-paths-place.result (omega arith) (omega arith) (grind arith))
    ∙ c.loop-place.invariant

pub returns : goal.returns
returns c = sym (paths_with-end c.loop-place.counted.items c.loop-place.place c.args.paths.now c.args.counts.now (omega arith)) ∙ c.loop-place.invariant
