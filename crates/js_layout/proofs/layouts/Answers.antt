use Rattle.js_spelling.proofs.Ones.{has_tokens}
use Rattle.js_layout.proofs.layouts.Goals as goal
use Rattle.js_layout.proofs.Again.{layout_is_text, reads_again, reads_same_again}
use Rattle.js_layout.proofs.Low.{reads_low}
use Rattle.js_layout.proofs.Alike.{layout_again}
use Rattle.js_layout.proofs.Accepted.{accepted_prints}
use Rattle.js_layout.proofs.Short.{prints_short}

pub returns-clause-text : goal.returns-clause-text
returns-clause-text c = layout_is_text

pub returns-clause-again : goal.returns-clause-again
returns-clause-again c = reads_again

pub returns-clause-same : goal.returns-clause-same
returns-clause-same c = reads_same_again

pub returns-clause-low : goal.returns-clause-low
returns-clause-low c = reads_low

pub returns-clause-twice : goal.returns-clause-twice
returns-clause-twice c = layout_again

pub returns-clause-accepted : goal.returns-clause-accepted
returns-clause-accepted c = accepted_prints has_tokens

pub returns-clause-short : goal.returns-clause-short
returns-clause-short c = prints_short
