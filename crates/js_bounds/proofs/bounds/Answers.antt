use Rattle.js_bounds.proofs.LowTexts.{reads_low}
use Rattle.js_bounds.proofs.Unmarked.{has_no_marks}
use Rattle.js_bounds.proofs.Whole.{counts_few, names_are_texts}
use Rattle.js_bounds.proofs.bounds.Goals as goal

pub returns-clause-few : goal.returns-clause-few
returns-clause-few c = counts_few

pub returns-clause-names : goal.returns-clause-names
returns-clause-names c = names_are_texts

pub returns-clause-low : goal.returns-clause-low
returns-clause-low c = reads_low

pub returns-clause-unmarked : goal.returns-clause-unmarked
returns-clause-unmarked c = has_no_marks
