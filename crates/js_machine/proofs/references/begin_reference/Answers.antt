use Rattle.std.proofs.lemmas.Result.{IfOk-weaker}
use Rattle.std.proofs.Common.{refl, sym, ap, ◌∙◌, arith}
use Rattle.js_value.specs.Realm.{text}
use Rattle.js_value.specs.Functions.{name_units}
use Rattle.js_meaning.specs.Effects.{handle}
use Rattle.js_machine.proofs.OtherForms as forms
use Rattle.js_code.specs.Part.{as_expr}
use Rattle.js_machine.specs.private.Config.{name_of, otherwise, referred, plug}
use Rattle.js_meaning.specs.Meaning as M
use Rattle.js_machine.proofs.Forms.{otherwise_inside}
use Rattle.js_machine.proofs.references.begin_reference.Goals as goal

pub returns-in-IdentifierReference-clause-means : goal.returns-in-IdentifierReference-clause-means
returns-in-IdentifierReference-clause-means c = λ t named at. rw (c.in-IdentifierReference.is, named ∙ ap name_of c.in-IdentifierReference.is) refl

pub returns-in-NamedMember-clause-means : goal.returns-in-NamedMember-clause-means
returns-in-NamedMember-clause-means c = IfOk-weaker c.with_frame.result _ _ (λ control means t named at. rw c.in-NamedMember.is (means t ∙ ap (plug t c.args.frames.now.items) (ap (λ n. handle (M.comp_expr t.program (as_expr (t.tree c.in-NamedMember.object)) c.args.env.index) (M.with_value (λ v. referred t c.args.next c.args.env.index (M.Member v (text (name_units n)))))) (named ∙ ap name_of c.in-NamedMember.is)))) c.with_frame.ensures.means

pub returns-in-NamedMember-clause-less : goal.returns-in-NamedMember-clause-less
returns-in-NamedMember-clause-less c = IfOk-weaker c.with_frame.result _ _ (λ control weight w. rw c.in-NamedMember.is (omega (arith, weight w))) c.with_frame.ensures.weight

pub returns-in-ComputedMember-clause-means : goal.returns-in-ComputedMember-clause-means
returns-in-ComputedMember-clause-means c = IfOk-weaker c.with_frame-in-ComputedMember.result _ _ (λ control means t named at. rw c.in-ComputedMember.is (means t)) c.with_frame-in-ComputedMember.ensures.means

pub returns-in-ComputedMember-clause-less : goal.returns-in-ComputedMember-clause-less
returns-in-ComputedMember-clause-less c = IfOk-weaker c.with_frame-in-ComputedMember.result _ _ (λ control weight w. rw c.in-ComputedMember.is (omega (arith, weight w))) c.with_frame-in-ComputedMember.ensures.weight

pub returns-in-Parenthesized-clause-means : goal.returns-in-Parenthesized-clause-means
returns-in-Parenthesized-clause-means c = λ t named at. rw c.in-Parenthesized.is (ap (plug t c.args.frames.now.items) (ap (λ o. M.comp_reference t.program (as_expr (t.tree c.in-Parenthesized.inner)) c.args.env.index o (referred t c.args.next c.args.env.index))
    (otherwise_inside t c.args.next c.in-Parenthesized.loc (as_expr (t.tree c.in-Parenthesized.inner)) c.args.env.index)))

pub returns-in_default-clause-means : goal.returns-in_default-clause-means
returns-in_default-clause-means c = IfOk-weaker c.no_reference.result _ _ (λ control means t named at. means t ∙ ap (plug t c.args.frames.now.items) (ap (λ x. otherwise t c.args.next (as_expr x) c.args.env.index) at
    ∙ sym (forms.else_reference t.program c.args.env.index _ _ t.tree c.args.node.now c.in_default.not-IdentifierReference c.in_default.not-NamedMember c.in_default.not-ComputedMember c.in_default.not-Parenthesized))) c.no_reference.ensures.means
