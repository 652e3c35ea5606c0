use Rattle.js_meaning.proofs.Ends.{ends_plainly}
use Rattle.js_meaning.proofs.Uncounted.{without_counting}
use Rattle.js_meaning.proofs.laws.without_counting.Goals as goal

pub returns-clause-alike : goal.returns-clause-alike
returns-clause-alike c = without_counting

pub returns-clause-told : goal.returns-clause-told
returns-clause-told c = ends_plainly
