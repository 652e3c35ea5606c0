use Rattle.std.proofs.Common.{refl, sym}
use Rattle.js_machine.proofs.call_actions.call_object.Goals as goal

pub returns-in-BuiltIn-clause-means : goal.returns-in-BuiltIn-clause-means
returns-in-BuiltIn-clause-means c = λ t. rw (sym c.kind.ensures, c.in-BuiltIn.is) refl

pub returns-in-Written-clause-means : goal.returns-in-Written-clause-means
returns-in-Written-clause-means c = λ t. rw (sym c.kind.ensures, c.in-Written.is) refl

pub returns-in-Plain-clause-means : goal.returns-in-Plain-clause-means
returns-in-Plain-clause-means c = λ t. rw (c.not_a_function.ensures, sym c.kind.ensures, c.in-Plain.is) refl

pub returns-in-Array-clause-means : goal.returns-in-Array-clause-means
returns-in-Array-clause-means c = λ t. rw (c.not_a_function-in-Array.ensures, sym c.kind.ensures, c.in-Array.is) refl

pub returns-in-Error-clause-means : goal.returns-in-Error-clause-means
returns-in-Error-clause-means c = λ t. rw (c.not_a_function-in-Error.ensures, sym c.kind.ensures, c.in-Error.is) refl

pub returns-in-RegExp-clause-means : goal.returns-in-RegExp-clause-means
returns-in-RegExp-clause-means c = λ t. rw (c.not_a_function-in-RegExp.ensures, sym c.kind.ensures, c.in-RegExp.is) refl
