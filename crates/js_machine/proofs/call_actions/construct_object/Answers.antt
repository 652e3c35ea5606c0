use Rattle.std.proofs.Common.{refl, sym}
use Rattle.js_machine.specs.private.Config.{view_of}
use Rattle.js_machine.proofs.call_actions.construct_object.Goals as goal

pub returns-in-BuiltIn-clause-means : goal.returns-in-BuiltIn-clause-means
returns-in-BuiltIn-clause-means c = λ p of. rw (sym c.kind.ensures, c.in-BuiltIn.is) (c.construct_built_in.ensures.means (view_of p c.args.code.now.nodes))

pub returns-in-Written-clause-means : goal.returns-in-Written-clause-means
returns-in-Written-clause-means c = λ p of. rw (sym c.kind.ensures, c.in-Written.is) (c.construct_written.ensures.means p of)

pub returns-in-Plain-clause-means : goal.returns-in-Plain-clause-means
returns-in-Plain-clause-means c = λ p of. rw (c.not_a_constructor.ensures, sym c.kind.ensures, c.in-Plain.is) refl

pub returns-in-Array-clause-means : goal.returns-in-Array-clause-means
returns-in-Array-clause-means c = λ p of. rw (c.not_a_constructor-in-Array.ensures, sym c.kind.ensures, c.in-Array.is) refl

pub returns-in-Error-clause-means : goal.returns-in-Error-clause-means
returns-in-Error-clause-means c = λ p of. rw (c.not_a_constructor-in-Error.ensures, sym c.kind.ensures, c.in-Error.is) refl

pub returns-in-RegExp-clause-means : goal.returns-in-RegExp-clause-means
returns-in-RegExp-clause-means c = λ p of. rw (c.not_a_constructor-in-RegExp.ensures, sym c.kind.ensures, c.in-RegExp.is) refl
