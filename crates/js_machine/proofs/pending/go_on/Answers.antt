use Rattle.std.proofs.lemmas.Result.{IfOk-weaker}
use Rattle.std.proofs.Common.{ap, refl, arith}
use Rattle.js_machine.specs.private.Config.{plug}
use Rattle.js_machine.proofs.pending.go_on.Goals as goal

pub returns-in-NamedMember-clause-means : goal.returns-in-NamedMember-clause-means
returns-in-NamedMember-clause-means c = λ t. rw c.in-NamedMember.is refl

pub returns-in-MemberObject-clause-means : goal.returns-in-MemberObject-clause-means
returns-in-MemberObject-clause-means c = IfOk-weaker c.with_frame.result _ _ (λ control means t. rw c.in-MemberObject.is (means t)) c.with_frame.ensures.means

pub returns-in-MemberObject-clause-less : goal.returns-in-MemberObject-clause-less
returns-in-MemberObject-clause-less c = IfOk-weaker c.with_frame.result _ _ (λ control weight w. rw c.in-MemberObject.is (omega (arith, weight w))) c.with_frame.ensures.weight

pub returns-in-MemberKey-clause-means : goal.returns-in-MemberKey-clause-means
returns-in-MemberKey-clause-means c = λ t. rw c.in-MemberKey.is refl

pub returns-in-Constructor-clause-means : goal.returns-in-Constructor-clause-means
returns-in-Constructor-clause-means c = λ t. rw (c.in-Constructor.is, c.new.ensures) refl

pub returns-in-Callee-clause-means : goal.returns-in-Callee-clause-means
returns-in-Callee-clause-means c = λ t. rw (c.in-Callee.is, c.new-in-Callee.ensures) refl

pub returns-in-Operand-clause-means : goal.returns-in-Operand-clause-means
returns-in-Operand-clause-means c = λ t. rw c.in-Operand.is refl

pub returns-in-Left-clause-means : goal.returns-in-Left-clause-means
returns-in-Left-clause-means c = IfOk-weaker c.with_frame-in-Left.result _ _ (λ control means t. rw c.in-Left.is (means t)) c.with_frame-in-Left.ensures.means

pub returns-in-Left-clause-less : goal.returns-in-Left-clause-less
returns-in-Left-clause-less c = IfOk-weaker c.with_frame-in-Left.result _ _ (λ control weight w. rw c.in-Left.is (omega (arith, weight w))) c.with_frame-in-Left.ensures.weight

pub returns-in-Right-clause-means : goal.returns-in-Right-clause-means
returns-in-Right-clause-means c = λ t. rw c.in-Right.is refl

pub returns-in-Logical-clause-means : goal.returns-in-Logical-clause-means
returns-in-Logical-clause-means c = λ t. rw c.in-Logical.is (ap (plug t c.args.frames.now.items) (c.logical.ensures.means t))

pub returns-in-Conditional-clause-means : goal.returns-in-Conditional-clause-means
returns-in-Conditional-clause-means c = λ t. rw c.in-Conditional.is (ap (plug t c.args.frames.now.items) (c.choose-control.ensures.means t))

pub returns-in-Comma-clause-means : goal.returns-in-Comma-clause-means
returns-in-Comma-clause-means c = λ t. rw c.in-Comma.is refl

pub returns-in-ReferNamed-clause-means : goal.returns-in-ReferNamed-clause-means
returns-in-ReferNamed-clause-means c = λ t. rw c.in-ReferNamed.is refl

pub returns-in-ReferObject-clause-means : goal.returns-in-ReferObject-clause-means
returns-in-ReferObject-clause-means c = IfOk-weaker c.with_frame-in-ReferObject.result _ _ (λ control means t. rw c.in-ReferObject.is (means t)) c.with_frame-in-ReferObject.ensures.means

pub returns-in-ReferObject-clause-less : goal.returns-in-ReferObject-clause-less
returns-in-ReferObject-clause-less c = IfOk-weaker c.with_frame-in-ReferObject.result _ _ (λ control weight w. rw c.in-ReferObject.is (omega (arith, weight w))) c.with_frame-in-ReferObject.ensures.weight

pub returns-in-ReferKey-clause-means : goal.returns-in-ReferKey-clause-means
returns-in-ReferKey-clause-means c = λ t. rw c.in-ReferKey.is refl

pub returns-in-Put-clause-means : goal.returns-in-Put-clause-means
returns-in-Put-clause-means c = λ t. rw c.in-Put.is (ap (plug t c.args.frames.now.items) (c.put.ensures.means t))

pub returns-in-Old-clause-means : goal.returns-in-Old-clause-means
returns-in-Old-clause-means c = IfOk-weaker c.with_frame-in-Old.result _ _ (λ control means t. rw c.in-Old.is (means t)) c.with_frame-in-Old.ensures.means

pub returns-in-Old-clause-less : goal.returns-in-Old-clause-less
returns-in-Old-clause-less c = IfOk-weaker c.with_frame-in-Old.result _ _ (λ control weight w. rw c.in-Old.is (omega (arith, weight w))) c.with_frame-in-Old.ensures.weight

pub returns-in-New-clause-means : goal.returns-in-New-clause-means
returns-in-New-clause-means c = IfOk-weaker c.with_frame-in-New.result _ _ (λ control means t. rw c.in-New.is (means t)) c.with_frame-in-New.ensures.means

pub returns-in-New-clause-less : goal.returns-in-New-clause-less
returns-in-New-clause-less c = IfOk-weaker c.with_frame-in-New.result _ _ (λ control weight w. rw c.in-New.is (omega (arith, weight w))) c.with_frame-in-New.ensures.weight

pub returns-in-Update-clause-means : goal.returns-in-Update-clause-means
returns-in-Update-clause-means c = IfOk-weaker c.update-control.result _ _ (λ next means t. rw c.in-Update.is (means t)) c.update-control.ensures.means

pub returns-in-Instead-clause-means : goal.returns-in-Instead-clause-means
returns-in-Instead-clause-means c = λ t. rw c.in-Instead.is refl

pub returns-in-TemplatePart-clause-means : goal.returns-in-TemplatePart-clause-means
returns-in-TemplatePart-clause-means c = IfOk-weaker c.template_text-control.result _ _ (λ next means t. rw c.in-TemplatePart.is (ap (plug t c.args.frames.now.items) (means t))) c.template_text-control.ensures.means

pub returns-in-TemplatePart-clause-less : goal.returns-in-TemplatePart-clause-less
returns-in-TemplatePart-clause-less c = IfOk-weaker c.template_text-control.result _ _ (λ next less w. rw c.in-TemplatePart.is (omega (arith, less w))) c.template_text-control.ensures.less

pub returns-in-Property-clause-means : goal.returns-in-Property-clause-means
returns-in-Property-clause-means c = λ t. rw c.in-Property.is refl

pub returns-in-As-clause-means : goal.returns-in-As-clause-means
returns-in-As-clause-means c = λ t. rw c.in-As.is refl

pub returns-in-Key-clause-means : goal.returns-in-Key-clause-means
returns-in-Key-clause-means c = IfOk-weaker c.key_text-control.result _ _ (λ next means t. rw c.in-Key.is (ap (plug t c.args.frames.now.items) (means t))) c.key_text-control.ensures.means

pub returns-in-Key-clause-less : goal.returns-in-Key-clause-less
returns-in-Key-clause-less c = IfOk-weaker c.key_text-control.result _ _ (λ next less w. rw c.in-Key.is (omega (arith, less w))) c.key_text-control.ensures.less

pub returns-in-BindTo-clause-means : goal.returns-in-BindTo-clause-means
returns-in-BindTo-clause-means c = λ t. rw c.in-BindTo.is (ap (plug t c.args.frames.now.items) (c.bind_to.ensures.means t))

pub returns-in-Declarator-clause-means : goal.returns-in-Declarator-clause-means
returns-in-Declarator-clause-means c = λ t. rw c.in-Declarator.is refl

pub returns-in-Discard-clause-means : goal.returns-in-Discard-clause-means
returns-in-Discard-clause-means c = λ t. rw (c.in-Discard.is, c.undefined.ensures) refl

pub returns-in-Statement-clause-means : goal.returns-in-Statement-clause-means
returns-in-Statement-clause-means c = λ t. rw c.in-Statement.is refl

pub returns-in-Choose-clause-means : goal.returns-in-Choose-clause-means
returns-in-Choose-clause-means c = λ t. rw c.in-Choose.is (ap (plug t c.args.frames.now.items) (c.choose_statement-control.ensures.means t))

pub returns-in-Turn-clause-means : goal.returns-in-Turn-clause-means
returns-in-Turn-clause-means c = λ t. rw c.in-Turn.is (ap (plug t c.args.frames.now.items) (c.turn-control.ensures.means t))

pub returns-in-Started-clause-means : goal.returns-in-Started-clause-means
returns-in-Started-clause-means c = λ t. rw c.in-Started.is refl

pub returns-in-Updated-clause-means : goal.returns-in-Updated-clause-means
returns-in-Updated-clause-means c = λ t. rw c.in-Updated.is refl

pub returns-in-Subject-clause-means : goal.returns-in-Subject-clause-means
returns-in-Subject-clause-means c = λ t. rw c.in-Subject.is (ap (plug t c.args.frames.now.items) (c.subject.ensures.means t))

pub returns-in-Taken-clause-means : goal.returns-in-Taken-clause-means
returns-in-Taken-clause-means c = λ t. rw c.in-Taken.is (ap (plug t c.args.frames.now.items) (c.take_pass.ensures.means t c.args.value))

pub returns-in-Switch-clause-means : goal.returns-in-Switch-clause-means
returns-in-Switch-clause-means c = λ t. rw c.in-Switch.is refl

pub returns-in-Tested-clause-means : goal.returns-in-Tested-clause-means
returns-in-Tested-clause-means c = IfOk-weaker c.tested-control.result _ _ (λ next means t. rw c.in-Tested.is (means t)) c.tested-control.ensures.means

pub returns-in-Fallen-clause-means : goal.returns-in-Fallen-clause-means
returns-in-Fallen-clause-means c = λ t. rw c.in-Fallen.is refl

pub returns-in-Return-clause-means : goal.returns-in-Return-clause-means
returns-in-Return-clause-means c = λ t. rw c.in-Return.is refl

pub returns-in-Throw-clause-means : goal.returns-in-Throw-clause-means
returns-in-Throw-clause-means c = λ t. rw c.in-Throw.is refl

pub returns-in-OwnName-clause-means : goal.returns-in-OwnName-clause-means
returns-in-OwnName-clause-means c = λ t. rw c.in-OwnName.is refl

pub returns-in-Param-clause-means : goal.returns-in-Param-clause-means
returns-in-Param-clause-means c = IfOk-weaker c.with_frame-in-Param.result _ _ (λ control means t. rw c.in-Param.is (means t)) c.with_frame-in-Param.ensures.means

pub returns-in-Param-clause-less : goal.returns-in-Param-clause-less
returns-in-Param-clause-less c = IfOk-weaker c.with_frame-in-Param.result _ _ (λ control weight w. rw c.in-Param.is (omega (arith, weight w))) c.with_frame-in-Param.ensures.weight

pub returns-in-NextParam-clause-means : goal.returns-in-NextParam-clause-means
returns-in-NextParam-clause-means c = λ t. rw c.in-NextParam.is (ap (plug t c.args.frames.now.items) (c.next_param.ensures.means t c.args.value))

pub returns-in-Bound-clause-means : goal.returns-in-Bound-clause-means
returns-in-Bound-clause-means c = λ t. rw c.in-Bound.is refl

pub returns-in_ok-push-in-Item-clause-means : goal.returns-in_ok-push-in-Item-clause-means
returns-in_ok-push-in-Item-clause-means c = λ t. rw (c.in-Item.is, c.in_ok-push-in-Item.ensures.ok) refl

pub returns-in-Update-clause-less : goal.returns-in-Update-clause-less
returns-in-Update-clause-less c = IfOk-weaker c.update-control.result _ _ (λ next less w. rw c.in-Update.is (less w)) c.update-control.ensures.less

pub returns-in-Tested-clause-less : goal.returns-in-Tested-clause-less
returns-in-Tested-clause-less c = IfOk-weaker c.tested-control.result _ _ (λ next less w. rw c.in-Tested.is (less w)) c.tested-control.ensures.less

pub returns-in-Logical-clause-less : goal.returns-in-Logical-clause-less
returns-in-Logical-clause-less c = λ w. rw c.in-Logical.is (omega (arith, c.logical.ensures.less w))

pub returns-in-Conditional-clause-less : goal.returns-in-Conditional-clause-less
returns-in-Conditional-clause-less c = λ w. rw c.in-Conditional.is (omega (arith, c.choose-control.ensures.less w))

pub returns-in-Put-clause-less : goal.returns-in-Put-clause-less
returns-in-Put-clause-less c = λ w. rw c.in-Put.is (omega (arith, c.put.ensures.less w))

pub returns-in-BindTo-clause-less : goal.returns-in-BindTo-clause-less
returns-in-BindTo-clause-less c = λ w. rw c.in-BindTo.is (omega (arith, c.bind_to.ensures.less w))

pub returns-in-Choose-clause-less : goal.returns-in-Choose-clause-less
returns-in-Choose-clause-less c = λ w. rw c.in-Choose.is (omega (arith, c.choose_statement-control.ensures.less w))

pub returns-in-Turn-clause-less : goal.returns-in-Turn-clause-less
returns-in-Turn-clause-less c = λ w. rw c.in-Turn.is (omega (arith, c.turn-control.ensures.less w))

pub returns-in-Subject-clause-less : goal.returns-in-Subject-clause-less
returns-in-Subject-clause-less c = λ w. rw c.in-Subject.is (omega (arith, c.subject.ensures.less w))

pub returns-in-Taken-clause-less : goal.returns-in-Taken-clause-less
returns-in-Taken-clause-less c = λ w. rw c.in-Taken.is (omega (arith, c.take_pass.ensures.less w))

pub returns-in-NextParam-clause-less : goal.returns-in-NextParam-clause-less
returns-in-NextParam-clause-less c = λ w. rw c.in-NextParam.is (omega (arith, c.next_param.ensures.less w))

pub returns-in-NamedMember-clause-less : goal.returns-in-NamedMember-clause-less
returns-in-NamedMember-clause-less c = λ w. rw c.in-NamedMember.is (omega arith)

pub returns-in-MemberKey-clause-less : goal.returns-in-MemberKey-clause-less
returns-in-MemberKey-clause-less c = λ w. rw c.in-MemberKey.is (omega arith)

pub returns-in-Constructor-clause-less : goal.returns-in-Constructor-clause-less
returns-in-Constructor-clause-less c = λ w. rw c.in-Constructor.is (omega arith)

pub returns-in-Callee-clause-less : goal.returns-in-Callee-clause-less
returns-in-Callee-clause-less c = λ w. rw c.in-Callee.is (omega arith)

pub returns-in_ok-push-in-Item-clause-less : goal.returns-in_ok-push-in-Item-clause-less
returns-in_ok-push-in-Item-clause-less c = λ w. rw c.in-Item.is (omega arith)

pub returns-in-Operand-clause-less : goal.returns-in-Operand-clause-less
returns-in-Operand-clause-less c = λ w. rw c.in-Operand.is (omega arith)

pub returns-in-Right-clause-less : goal.returns-in-Right-clause-less
returns-in-Right-clause-less c = λ w. rw c.in-Right.is (omega arith)

pub returns-in-Comma-clause-less : goal.returns-in-Comma-clause-less
returns-in-Comma-clause-less c = λ w. rw c.in-Comma.is (omega arith)

pub returns-in-ReferNamed-clause-less : goal.returns-in-ReferNamed-clause-less
returns-in-ReferNamed-clause-less c = λ w. rw c.in-ReferNamed.is (omega arith)

pub returns-in-ReferKey-clause-less : goal.returns-in-ReferKey-clause-less
returns-in-ReferKey-clause-less c = λ w. rw c.in-ReferKey.is (omega arith)

pub returns-in-Instead-clause-less : goal.returns-in-Instead-clause-less
returns-in-Instead-clause-less c = λ w. rw c.in-Instead.is (omega arith)

pub returns-in-Property-clause-less : goal.returns-in-Property-clause-less
returns-in-Property-clause-less c = λ w. rw c.in-Property.is (omega arith)

pub returns-in-As-clause-less : goal.returns-in-As-clause-less
returns-in-As-clause-less c = λ w. rw c.in-As.is (omega arith)

pub returns-in-Declarator-clause-less : goal.returns-in-Declarator-clause-less
returns-in-Declarator-clause-less c = λ w. rw c.in-Declarator.is (omega arith)

pub returns-in-Discard-clause-less : goal.returns-in-Discard-clause-less
returns-in-Discard-clause-less c = λ w. rw (c.in-Discard.is, c.undefined.ensures) (omega arith)

pub returns-in-Statement-clause-less : goal.returns-in-Statement-clause-less
returns-in-Statement-clause-less c = λ w. rw c.in-Statement.is (omega arith)

pub returns-in-Started-clause-less : goal.returns-in-Started-clause-less
returns-in-Started-clause-less c = λ w. rw c.in-Started.is (omega arith)

pub returns-in-Updated-clause-less : goal.returns-in-Updated-clause-less
returns-in-Updated-clause-less c = λ w. rw c.in-Updated.is (omega arith)

pub returns-in-Switch-clause-less : goal.returns-in-Switch-clause-less
returns-in-Switch-clause-less c = λ w. rw c.in-Switch.is (omega arith)

pub returns-in-Fallen-clause-less : goal.returns-in-Fallen-clause-less
returns-in-Fallen-clause-less c = λ w. rw c.in-Fallen.is (omega arith)

pub returns-in-Return-clause-less : goal.returns-in-Return-clause-less
returns-in-Return-clause-less c = λ w. rw c.in-Return.is (omega arith)

pub returns-in-Throw-clause-less : goal.returns-in-Throw-clause-less
returns-in-Throw-clause-less c = λ w. rw c.in-Throw.is (omega arith)

pub returns-in-OwnName-clause-less : goal.returns-in-OwnName-clause-less
returns-in-OwnName-clause-less c = λ w. rw c.in-OwnName.is (omega arith)

pub returns-in-Bound-clause-less : goal.returns-in-Bound-clause-less
returns-in-Bound-clause-less c = λ w. rw c.in-Bound.is (omega arith)
