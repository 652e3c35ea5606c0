use Rattle.std.proofs.lemmas.Result.{IfOk-weaker}
use Rattle.std.proofs.Common.{refl, sym, ap, ◌∙◌, arith}
use Rattle.js_value.specs.Realm.{text}
use Rattle.js_value.specs.Functions.{name_units}
use Rattle.js_code.specs.Part.{as_expr}
use Rattle.js_meaning.specs.Effects.{handle}
use Rattle.js_meaning.specs.Meaning as M
use Rattle.js_machine.proofs.OtherNodes as other
use Rattle.js_machine.specs.private.Config.{name_of, plug}
use Rattle.js_machine.proofs.expressions.begin_expression.Goals as goal

pub returns-in-IdentifierReference-clause-means : goal.returns-in-IdentifierReference-clause-means
returns-in-IdentifierReference-clause-means c = λ t named. rw c.in-IdentifierReference.is (ap (plug t c.args.frames.now.items) (ap (λ n. M.read n c.args.env.index) (named ∙ ap name_of c.in-IdentifierReference.is)))

pub returns-in-This-clause-means : goal.returns-in-This-clause-means
returns-in-This-clause-means c = λ t named. rw c.in-This.is (ap (plug t c.args.frames.now.items) (ap (λ n. M.read n c.args.env.index) (named ∙ ap name_of c.in-This.is)))

pub returns-in-NullLiteral-clause-means : goal.returns-in-NullLiteral-clause-means
returns-in-NullLiteral-clause-means c = λ t named. rw (c.in-NullLiteral.is, c.primitive.ensures) refl

pub returns-in-BooleanLiteral-clause-means : goal.returns-in-BooleanLiteral-clause-means
returns-in-BooleanLiteral-clause-means c = λ t named. rw (c.in-BooleanLiteral.is, c.primitive-in-BooleanLiteral.ensures) refl

pub returns-in-NumericLiteral-clause-means : goal.returns-in-NumericLiteral-clause-means
returns-in-NumericLiteral-clause-means c = λ t named. rw c.in-NumericLiteral.is (ap (plug t c.args.frames.now.items) (c.number.ensures.means t ∙ ap M.number c.value.ensures))

pub returns-in_ok-copy-in-StringLiteral-clause-means : goal.returns-in_ok-copy-in-StringLiteral-clause-means
returns-in_ok-copy-in-StringLiteral-clause-means c = λ t named. rw (c.in-StringLiteral.is, c.primitive-in-StringLiteral.ensures, c.in_ok-copy-in-StringLiteral.ensures) refl

pub returns-in-ArrayLiteral-clause-means : goal.returns-in-ArrayLiteral-clause-means
returns-in-ArrayLiteral-clause-means c = λ t named. rw (c.in-ArrayLiteral.is, c.new.ensures) refl

pub returns-in-ObjectLiteral-clause-means : goal.returns-in-ObjectLiteral-clause-means
returns-in-ObjectLiteral-clause-means c = λ t named. rw c.in-ObjectLiteral.is refl

pub returns-in-FunctionExpression-clause-means : goal.returns-in-FunctionExpression-clause-means
returns-in-FunctionExpression-clause-means c = λ t named. rw c.in-FunctionExpression.is (ap (plug t c.args.frames.now.items) (c.begin_function.ensures.means t c.in-FunctionExpression.loc (named ∙ ap name_of c.in-FunctionExpression.is)))

pub returns-in-ArrowFunction-clause-means : goal.returns-in-ArrowFunction-clause-means
returns-in-ArrowFunction-clause-means c = λ t named. rw c.in-ArrowFunction.is refl

pub returns-in-RegularExpressionLiteral-clause-means : goal.returns-in-RegularExpressionLiteral-clause-means
returns-in-RegularExpressionLiteral-clause-means c = λ t named. rw c.in-RegularExpressionLiteral.is refl

pub returns-in_ok-copy-in-TemplateLiteral-clause-means : goal.returns-in_ok-copy-in-TemplateLiteral-clause-means
returns-in_ok-copy-in-TemplateLiteral-clause-means c = λ t named. rw (c.in-TemplateLiteral.is, c.in_ok-copy-in-TemplateLiteral.ensures) refl

pub returns-in-Parenthesized-clause-means : goal.returns-in-Parenthesized-clause-means
returns-in-Parenthesized-clause-means c = λ t named. rw c.in-Parenthesized.is refl

pub returns-in-NamedMember-clause-means : goal.returns-in-NamedMember-clause-means
returns-in-NamedMember-clause-means c = IfOk-weaker c.with_frame.result _ _ (λ control means t named. rw c.in-NamedMember.is (means t ∙ ap (plug t c.args.frames.now.items) (ap (λ n. handle (M.comp_expr t.program (as_expr (t.tree c.in-NamedMember.object)) c.args.env.index) (M.with_value (λ v. M.get_member_of v (text (name_units n))))) (named ∙ ap name_of c.in-NamedMember.is)))) c.with_frame.ensures.means

pub returns-in-NamedMember-clause-less : goal.returns-in-NamedMember-clause-less
returns-in-NamedMember-clause-less c = IfOk-weaker c.with_frame.result _ _ (λ control weight w. rw c.in-NamedMember.is (omega (arith, weight w))) c.with_frame.ensures.weight

pub returns-in-ComputedMember-clause-means : goal.returns-in-ComputedMember-clause-means
returns-in-ComputedMember-clause-means c = IfOk-weaker c.with_frame-in-ComputedMember.result _ _ (λ control means t named. rw c.in-ComputedMember.is (means t)) c.with_frame-in-ComputedMember.ensures.means

pub returns-in-ComputedMember-clause-less : goal.returns-in-ComputedMember-clause-less
returns-in-ComputedMember-clause-less c = IfOk-weaker c.with_frame-in-ComputedMember.result _ _ (λ control weight w. rw c.in-ComputedMember.is (omega (arith, weight w))) c.with_frame-in-ComputedMember.ensures.weight

pub returns-in-New-clause-means : goal.returns-in-New-clause-means
returns-in-New-clause-means c = IfOk-weaker c.with_frame-in-New.result _ _ (λ control means t named. rw c.in-New.is (means t)) c.with_frame-in-New.ensures.means

pub returns-in-New-clause-less : goal.returns-in-New-clause-less
returns-in-New-clause-less c = IfOk-weaker c.with_frame-in-New.result _ _ (λ control weight w. rw c.in-New.is (omega (arith, weight w))) c.with_frame-in-New.ensures.weight

pub returns-in-Call-clause-means : goal.returns-in-Call-clause-means
returns-in-Call-clause-means c = λ t named. rw c.in-Call.is refl

pub returns-in-PostfixUpdate-clause-means : goal.returns-in-PostfixUpdate-clause-means
returns-in-PostfixUpdate-clause-means c = λ t named. rw c.in-PostfixUpdate.is refl

pub returns-in-PrefixUpdate-clause-means : goal.returns-in-PrefixUpdate-clause-means
returns-in-PrefixUpdate-clause-means c = λ t named. rw c.in-PrefixUpdate.is refl

pub returns-in-Unary-clause-means : goal.returns-in-Unary-clause-means
returns-in-Unary-clause-means c = IfOk-weaker c.begin_unary.result _ _ (λ next means t named. rw c.in-Unary.is (means t c.in-Unary.loc)) c.begin_unary.ensures.means

pub returns-in-Binary-clause-means : goal.returns-in-Binary-clause-means
returns-in-Binary-clause-means c = IfOk-weaker c.with_frame-in-Binary.result _ _ (λ control means t named. rw c.in-Binary.is (means t)) c.with_frame-in-Binary.ensures.means

pub returns-in-Binary-clause-less : goal.returns-in-Binary-clause-less
returns-in-Binary-clause-less c = IfOk-weaker c.with_frame-in-Binary.result _ _ (λ control weight w. rw c.in-Binary.is (omega (arith, weight w))) c.with_frame-in-Binary.ensures.weight

pub returns-in-Logical-clause-means : goal.returns-in-Logical-clause-means
returns-in-Logical-clause-means c = IfOk-weaker c.with_frame-in-Logical.result _ _ (λ control means t named. rw c.in-Logical.is (means t)) c.with_frame-in-Logical.ensures.means

pub returns-in-Logical-clause-less : goal.returns-in-Logical-clause-less
returns-in-Logical-clause-less c = IfOk-weaker c.with_frame-in-Logical.result _ _ (λ control weight w. rw c.in-Logical.is (omega (arith, weight w))) c.with_frame-in-Logical.ensures.weight

pub returns-in-Conditional-clause-means : goal.returns-in-Conditional-clause-means
returns-in-Conditional-clause-means c = IfOk-weaker c.with_frame-in-Conditional.result _ _ (λ control means t named. rw c.in-Conditional.is (means t)) c.with_frame-in-Conditional.ensures.means

pub returns-in-Conditional-clause-less : goal.returns-in-Conditional-clause-less
returns-in-Conditional-clause-less c = IfOk-weaker c.with_frame-in-Conditional.result _ _ (λ control weight w. rw c.in-Conditional.is (omega (arith, weight w))) c.with_frame-in-Conditional.ensures.weight

pub returns-in-Assignment-clause-means : goal.returns-in-Assignment-clause-means
returns-in-Assignment-clause-means c = λ t named. rw (c.in-Assignment.is, c.operator_of.ensures) refl

pub returns-in-Comma-clause-means : goal.returns-in-Comma-clause-means
returns-in-Comma-clause-means c = IfOk-weaker c.with_frame-in-Comma.result _ _ (λ control means t named. rw c.in-Comma.is (means t)) c.with_frame-in-Comma.ensures.means

pub returns-in-Comma-clause-less : goal.returns-in-Comma-clause-less
returns-in-Comma-clause-less c = IfOk-weaker c.with_frame-in-Comma.result _ _ (λ control weight w. rw c.in-Comma.is (omega (arith, weight w))) c.with_frame-in-Comma.ensures.weight

pub returns-in_default-clause-means : goal.returns-in_default-clause-means
returns-in_default-clause-means c = λ t named. rw c.primitive-in_default.ensures (ap (plug t c.args.frames.now.items) (ap (λ e. M.comp_expr t.program e c.args.env.index) (sym (other.no_expr t.tree c.args.node.now c.in_default.not-IdentifierReference c.in_default.not-This c.in_default.not-NullLiteral c.in_default.not-BooleanLiteral c.in_default.not-NumericLiteral c.in_default.not-StringLiteral c.in_default.not-ArrayLiteral c.in_default.not-ObjectLiteral c.in_default.not-FunctionExpression c.in_default.not-ArrowFunction c.in_default.not-RegularExpressionLiteral c.in_default.not-TemplateLiteral c.in_default.not-Parenthesized c.in_default.not-NamedMember c.in_default.not-ComputedMember c.in_default.not-New c.in_default.not-Call c.in_default.not-PostfixUpdate c.in_default.not-PrefixUpdate c.in_default.not-Unary c.in_default.not-Binary c.in_default.not-Logical c.in_default.not-Conditional c.in_default.not-Assignment c.in_default.not-Comma))))

pub returns-in-Unary-clause-less : goal.returns-in-Unary-clause-less
returns-in-Unary-clause-less c = IfOk-weaker c.begin_unary.result _ _ (λ next less w. rw c.in-Unary.is (omega (arith, less w))) c.begin_unary.ensures.less

pub returns-in-IdentifierReference-clause-less : goal.returns-in-IdentifierReference-clause-less
returns-in-IdentifierReference-clause-less c = λ w. rw c.in-IdentifierReference.is (omega arith)

pub returns-in-This-clause-less : goal.returns-in-This-clause-less
returns-in-This-clause-less c = λ w. rw c.in-This.is (omega arith)

pub returns-in-NullLiteral-clause-less : goal.returns-in-NullLiteral-clause-less
returns-in-NullLiteral-clause-less c = λ w. rw (c.in-NullLiteral.is, c.primitive.ensures) (omega arith)

pub returns-in-BooleanLiteral-clause-less : goal.returns-in-BooleanLiteral-clause-less
returns-in-BooleanLiteral-clause-less c = λ w. rw (c.in-BooleanLiteral.is, c.primitive-in-BooleanLiteral.ensures) (omega arith)

pub returns-in-NumericLiteral-clause-less : goal.returns-in-NumericLiteral-clause-less
returns-in-NumericLiteral-clause-less c = λ w. rw c.in-NumericLiteral.is (omega arith)

pub returns-in_ok-copy-in-StringLiteral-clause-less : goal.returns-in_ok-copy-in-StringLiteral-clause-less
returns-in_ok-copy-in-StringLiteral-clause-less c = λ w. rw (c.in-StringLiteral.is, c.primitive-in-StringLiteral.ensures) (omega arith)

pub returns-in-ArrayLiteral-clause-less : goal.returns-in-ArrayLiteral-clause-less
returns-in-ArrayLiteral-clause-less c = λ w. rw c.in-ArrayLiteral.is (omega arith)

pub returns-in-ObjectLiteral-clause-less : goal.returns-in-ObjectLiteral-clause-less
returns-in-ObjectLiteral-clause-less c = λ w. rw c.in-ObjectLiteral.is (omega arith)

pub returns-in-FunctionExpression-clause-less : goal.returns-in-FunctionExpression-clause-less
returns-in-FunctionExpression-clause-less c = λ w. rw c.in-FunctionExpression.is (omega arith)

pub returns-in-ArrowFunction-clause-less : goal.returns-in-ArrowFunction-clause-less
returns-in-ArrowFunction-clause-less c = λ w. rw c.in-ArrowFunction.is (omega arith)

pub returns-in-RegularExpressionLiteral-clause-less : goal.returns-in-RegularExpressionLiteral-clause-less
returns-in-RegularExpressionLiteral-clause-less c = λ w. rw c.in-RegularExpressionLiteral.is (omega arith)

pub returns-in_ok-copy-in-TemplateLiteral-clause-less : goal.returns-in_ok-copy-in-TemplateLiteral-clause-less
returns-in_ok-copy-in-TemplateLiteral-clause-less c = λ w. rw c.in-TemplateLiteral.is (omega arith)

pub returns-in-Parenthesized-clause-less : goal.returns-in-Parenthesized-clause-less
returns-in-Parenthesized-clause-less c = λ w. rw c.in-Parenthesized.is (omega arith)

pub returns-in-Call-clause-less : goal.returns-in-Call-clause-less
returns-in-Call-clause-less c = λ w. rw c.in-Call.is (omega arith)

pub returns-in-PostfixUpdate-clause-less : goal.returns-in-PostfixUpdate-clause-less
returns-in-PostfixUpdate-clause-less c = λ w. rw c.in-PostfixUpdate.is (omega arith)

pub returns-in-PrefixUpdate-clause-less : goal.returns-in-PrefixUpdate-clause-less
returns-in-PrefixUpdate-clause-less c = λ w. rw c.in-PrefixUpdate.is (omega arith)

pub returns-in-Assignment-clause-less : goal.returns-in-Assignment-clause-less
returns-in-Assignment-clause-less c = λ w. rw c.in-Assignment.is (omega arith)
