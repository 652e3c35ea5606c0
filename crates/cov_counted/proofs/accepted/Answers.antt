use Rattle.cov_counted.proofs.Prepared.{accepted_prepared}
use Rattle.cov_counted.proofs.Tellable.{accepted_tellable}
use Rattle.cov_counted.proofs.accepted.Goals as goal

pub returns-clause-tellable : goal.returns-clause-tellable
returns-clause-tellable c =
    let bounds = c.bounds.ensures in
    accepted_tellable (record { few = bounds.few; names = bounds.names; low = bounds.low; unmarked = bounds.unmarked })

pub returns-clause-prepared : goal.returns-clause-prepared
returns-clause-prepared c =
    let bounds = c.bounds.ensures in
    accepted_prepared (record { few = bounds.few; names = bounds.names; low = bounds.low; unmarked = bounds.unmarked }) c.suits.ensures.inside c.numbering.ensures
