use Rattle.std.proofs.lemmas.Result.{IfOk-weaker}
use Rattle.std.proofs.Common.{refl, sym, ap, ◌∙◌, arith}
use Rattle.js_terms.specs.declared.operators.UnaryOperator.TheVariants as unary_operator
use Rattle.js_code.specs.Part.{as_expr}
use Rattle.js_meaning.specs.Effects.{handle}
use Rattle.js_meaning.specs.Meaning as M
use Rattle.js_machine.proofs.OtherForms as forms
use Rattle.js_machine.specs.declared.data.Frame.TheVariants as frame
use Rattle.js_machine.specs.declared.data.Pending.TheVariants as pending
use Rattle.js_machine.specs.private.Config.{frame_comp, name_of, type_of_name, plug}
use Rattle.js_machine.proofs.references.begin_type_of.Goals as goal

pub returns-in-IdentifierReference-clause-means : goal.returns-in-IdentifierReference-clause-means
returns-in-IdentifierReference-clause-means c = λ t named at. rw c.in-IdentifierReference.is (ap (plug t c.args.frames.now.items) (ap (λ n. type_of_name n c.args.env.index) (named ∙ ap name_of c.in-IdentifierReference.is)))

pub returns-in-Parenthesized-clause-means : goal.returns-in-Parenthesized-clause-means
returns-in-Parenthesized-clause-means c = λ t named at. rw c.in-Parenthesized.is refl

pub returns-in_default-clause-means : goal.returns-in_default-clause-means
returns-in_default-clause-means c = IfOk-weaker c.with_frame.result _ _ (λ control means t named here. means t
    ∙ ap (λ x. plug t c.args.frames.now.items (handle (M.comp_expr t.program (as_expr x) c.args.env.index) (frame_comp t (frame.Value (pending.Operand unary_operator.TypeOf))))) here
    ∙ ap (plug t c.args.frames.now.items) (sym (forms.else_type c.args.env.index _ t.tree c.args.node.now c.in_default.not-IdentifierReference c.in_default.not-Parenthesized))) c.with_frame.ensures.means

pub returns-in_default-clause-less : goal.returns-in_default-clause-less
returns-in_default-clause-less c = IfOk-weaker c.with_frame.result _ _ (λ control weight w. omega (arith, weight w)) c.with_frame.ensures.weight
