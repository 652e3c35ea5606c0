use Rattle.js_counted.proofs.Preamble.{preamble_linked, preamble_codes}
use Rattle.js_counted.proofs.preambles.Goals as goal

pub returns-clause-linked : goal.returns-clause-linked
returns-clause-linked c = preamble_linked

pub returns-clause-codes : goal.returns-clause-codes
returns-clause-codes c = preamble_codes
