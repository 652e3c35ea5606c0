use Rattle.std.proofs.Common.{rules, ◌≡◌}
use Rattle.std.proofs.lemmas.Result.{IfOk-weaker}
use Rattle.js_machine.specs.private.Config.{view_of}
use Rattle.js_machine.specs.private.Moves.{here}
use Rattle.js_machine.proofs.Runs.{takes_none, takes_enter, runs_over, runs_out}
use Rattle.js_machine.proofs.run.run_on.Goals as goal

pub loop-init : goal.loop-init
loop-init c = λ p carries. takes_none p (view_of p c.args.code.now.nodes) (here c.args.frames.now.items c.args.control c.args.state.now)

pub returns-in_default : goal.returns-in_default
returns-in_default c = λ p carries.
    runs_over p (view_of p c.args.code.now.nodes) c.loop.counter c.args.steps
    (here c.args.frames.now.items c.args.control c.args.state.now) (here c.loop.frames.items c.loop.at c.loop.state)
    c.in_ok-rest.rest c.advance.new.frames.items c.advance.new.state (search rules) (c.loop.invariant p carries) (c.in_ok-rest.ensures p carries) c.in_default.not-Asks

pub loop-preserved : goal.loop-preserved
loop-preserved c = λ p carries.
    let t = view_of p c.args.code.now.nodes in
    takes_enter p t c.loop.counter
    (here c.args.frames.now.items c.args.control c.args.state.now) (here c.loop.frames.items c.loop.at c.loop.state)
    c.in_ok-rest.rest c.in-Asks.entry c.advance.new.frames.items c.apply.new.frames.items c.advance.new.state c.enter.new.state
    c.in_ok-step-in-Asks.step c.in_ok-at-in-Asks.at
    (c.loop.invariant p carries) c.in-Asks.is (c.in_ok-rest.ensures p carries) (λ base. c.in_ok-step-in-Asks.ensures p base carries) (c.in_ok-at-in-Asks.ensures.means t)

pub returns : goal.returns
returns c =
    let all : c.loop.counter ≡ c.args.steps = search rules in
    IfOk-weaker c.advance-2.result _ _
    (λ rest rests. λ p carries. runs_out p (view_of p c.args.code.now.nodes) c.loop.counter c.args.steps
    (here c.args.frames.now.items c.args.control c.args.state.now) (here c.loop.frames.items c.loop.at c.loop.state)
    rest c.advance-2.new.frames.items c.advance-2.new.state all (c.loop.invariant p carries) (rests p carries))
    c.advance-2.ensures
