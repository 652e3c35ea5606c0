use Rattle.js_held.proofs.Held.{hold_means, needs_hold}
use Rattle.js_held.proofs.Shifted.{hold_shifts}
use Rattle.js_held.proofs.Unreferenced.{holder_unreferenced, opening_closed}
use Rattle.js_held.proofs.holding.Goals as goal

pub returns-clause-means : goal.returns-clause-means
returns-clause-means c = hold_means c.shapes.ensures.name

pub returns-clause-needs : goal.returns-clause-needs
returns-clause-needs c = needs_hold

pub returns-clause-shifts : goal.returns-clause-shifts
returns-clause-shifts c = hold_shifts

pub returns-clause-unreferenced : goal.returns-clause-unreferenced
returns-clause-unreferenced c = holder_unreferenced

pub returns-clause-opening : goal.returns-clause-opening
returns-clause-opening c = opening_closed
