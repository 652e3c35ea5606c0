use Rattle.js_counter.proofs.Decimals.{spells, index_read, keys_differ, counts_found}
use Rattle.js_counter.proofs.numerals.Goals as goal

pub returns-clause-spelled : goal.returns-clause-spelled
returns-clause-spelled c = spells

pub returns-clause-indices : goal.returns-clause-indices
returns-clause-indices c = index_read

pub returns-clause-differ : goal.returns-clause-differ
returns-clause-differ c = keys_differ

pub returns-clause-found : goal.returns-clause-found
returns-clause-found c = counts_found
