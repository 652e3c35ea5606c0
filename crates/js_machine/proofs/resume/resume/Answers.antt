use Rattle.std.proofs.lemmas.Result.{IfOk-weaker}
use Rattle.std.proofs.Common.{ap, arith}
use Rattle.js_machine.specs.private.Config.{plug}
use Rattle.js_machine.proofs.resume.resume.Goals as goal

pub returns-in-Value-clause-means : goal.returns-in-Value-clause-means
returns-in-Value-clause-means c = rw c.in-Value.is c.go_on_with.ensures.means

pub returns-in-Value-clause-less : goal.returns-in-Value-clause-less
returns-in-Value-clause-less c = rw c.in-Value.is c.go_on_with.ensures.less

pub returns-in-AfterTurn-clause-means : goal.returns-in-AfterTurn-clause-means
returns-in-AfterTurn-clause-means c = λ t. rw c.in-AfterTurn.is (ap (plug t c.args.frames.now.items) (c.after_turn.ensures.means t))

pub returns-in-AfterPass-clause-means : goal.returns-in-AfterPass-clause-means
returns-in-AfterPass-clause-means c = λ t. rw c.in-AfterPass.is (ap (plug t c.args.frames.now.items) (c.after_pass.ensures.means t))

pub returns-in-AfterLabel-clause-means : goal.returns-in-AfterLabel-clause-means
returns-in-AfterLabel-clause-means c = λ t. rw c.in-AfterLabel.is (ap (plug t c.args.frames.now.items) (c.after_label.ensures.means t))

pub returns-in-AfterSwitch-clause-means : goal.returns-in-AfterSwitch-clause-means
returns-in-AfterSwitch-clause-means c = λ t. rw c.in-AfterSwitch.is (ap (plug t c.args.frames.now.items) (c.after_switch.ensures.means t))

pub returns-in-Catch-clause-means : goal.returns-in-Catch-clause-means
returns-in-Catch-clause-means c = λ t. rw c.in-Catch.is (ap (plug t c.args.frames.now.items) (c.caught.ensures.means t))

pub returns-in-AfterCall-clause-means : goal.returns-in-AfterCall-clause-means
returns-in-AfterCall-clause-means c = λ t. rw c.in-AfterCall.is (ap (plug t c.args.frames.now.items) (c.after_call.ensures.means t))

pub returns-in-AfterConstruct-clause-means : goal.returns-in-AfterConstruct-clause-means
returns-in-AfterConstruct-clause-means c = λ t. rw c.in-AfterConstruct.is (ap (plug t c.args.frames.now.items) (c.after_construct.ensures.means t))

pub returns-in-AfterStart-clause-means : goal.returns-in-AfterStart-clause-means
returns-in-AfterStart-clause-means c = λ t. rw c.in-AfterStart.is (ap (plug t c.args.frames.now.items) (c.after_start.ensures.means t))

pub returns-in-Finally-clause-means : goal.returns-in-Finally-clause-means
returns-in-Finally-clause-means c = IfOk-weaker c.with_frame.result _ _ (λ control means t. rw c.in-Finally.is (means t)) c.with_frame.ensures.means

pub returns-in-Finally-clause-less : goal.returns-in-Finally-clause-less
returns-in-Finally-clause-less c = IfOk-weaker c.with_frame.result _ _ (λ control weight w. rw c.in-Finally.is (omega (arith, weight w))) c.with_frame.ensures.weight

pub returns-in-AfterTurn-clause-less : goal.returns-in-AfterTurn-clause-less
returns-in-AfterTurn-clause-less c = λ w. rw c.in-AfterTurn.is (omega (arith, c.after_turn.ensures.less w))

pub returns-in-AfterPass-clause-less : goal.returns-in-AfterPass-clause-less
returns-in-AfterPass-clause-less c = λ w. rw c.in-AfterPass.is (omega (arith, c.after_pass.ensures.less w))

pub returns-in-AfterLabel-clause-less : goal.returns-in-AfterLabel-clause-less
returns-in-AfterLabel-clause-less c = λ w. rw c.in-AfterLabel.is (omega (arith, c.after_label.ensures.less w))

pub returns-in-AfterSwitch-clause-less : goal.returns-in-AfterSwitch-clause-less
returns-in-AfterSwitch-clause-less c = λ w. rw c.in-AfterSwitch.is (omega (arith, c.after_switch.ensures.less w))

pub returns-in-Catch-clause-less : goal.returns-in-Catch-clause-less
returns-in-Catch-clause-less c = λ w. rw c.in-Catch.is (omega (arith, c.caught.ensures.less w))

pub returns-in-AfterCall-clause-less : goal.returns-in-AfterCall-clause-less
returns-in-AfterCall-clause-less c = λ w. rw c.in-AfterCall.is (omega (arith, c.after_call.ensures.less w))

pub returns-in-AfterConstruct-clause-less : goal.returns-in-AfterConstruct-clause-less
returns-in-AfterConstruct-clause-less c = λ w. rw c.in-AfterConstruct.is (omega (arith, c.after_construct.ensures.less w))

pub returns-in-AfterStart-clause-less : goal.returns-in-AfterStart-clause-less
returns-in-AfterStart-clause-less c = λ w. rw c.in-AfterStart.is (omega (arith, c.after_start.ensures.less w))
