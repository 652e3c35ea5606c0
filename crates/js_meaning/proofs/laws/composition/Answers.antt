use Rattle.js_meaning.specs.Files.{inside}
use Rattle.js_meaning.proofs.Handle.{exec_eval, eval_handle}
use Rattle.js_meaning.proofs.laws.composition.Goals as goal

pub returns-clause-runs : goal.returns-clause-runs
returns-clause-runs c = λ p n. exec_eval (inside p) n

pub returns-clause-composes : goal.returns-clause-composes
returns-clause-composes c = λ p n. eval_handle (inside p) n
