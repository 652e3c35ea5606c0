use Rattle.std.proofs.Common.{ℕ, ◌/◌, length, sym, subst}
use Rattle.cov_v8.specs.private.Steps.{AreSteps}
use Rattle.cov_v8.proofs.RangeLemmas.{steps-whole}
use Rattle.cov_v8.proofs.steps.+steps.Goals as goal

pub returns : goal.returns
returns t c =
    let half : ℕ = length c.args.ranges.now / 2 in
    steps-whole c.args.ranges.now half c.in_ok-all.all.items c.deref.result.now c.deref-2.result.now c.in_ok-all.ensures
    (subst (λ ranges. AreSteps ranges c.deref.result.now) c.split_at.ensures.front (subst (AreSteps c.split_at.result.0.now) (sym c.deref.ensures.value) c.in_ok-first.ensures))
    (subst (λ ranges. AreSteps ranges c.deref-2.result.now) c.split_at.ensures.back (subst (AreSteps c.split_at.result.1.now) (sym c.deref-2.ensures.value) c.in_ok-later.ensures))
