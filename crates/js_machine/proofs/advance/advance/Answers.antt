use Rattle.std.proofs.Common.{◌≡◌, [], Ok, refl, ap, ◌∙◌, rules}
use Rattle.js_machine.specs.declared.data.Rest.TheVariants as rest
use Rattle.js_machine.specs.private.Config.{view_of}
use Rattle.js_machine.specs.private.Moves.{here}
use Rattle.js_machine.specs.private.Weight.{place_weight}
use Rattle.js_machine.proofs.AtOnce.{some_is}
use Rattle.js_machine.proofs.Moves.{begins_after, begins_lighter, lessens_at_once, moves_at_once, leads_none, leads_on, perform_lessens, perform_moves, rests_at, resumes, resumes_lighter}
use Rattle.js_machine.proofs.advance.advance.Goals as goal

pub transitions-init : goal.transitions-init
transitions-init c = λ p carries. leads_none (view_of p c.args.code.now.nodes) (here c.args.frames.now.items c.args.control c.args.state.now)

pub transitions-preserved-in-Ok-Some : goal.transitions-preserved-in-Ok-Some
transitions-preserved-in-Ok-Some c = λ p carries. leads_on (view_of p c.args.code.now.nodes) _ _ _ (c.transitions.invariant p carries)
    (moves_at_once (view_of p c.args.code.now.nodes) c.transitions.frames.items c.transitions.at c.in-Ok-Some.control c.in-Begin.task c.transitions.state c.at_once.new.heap
    c.in-Begin.is (some_is _ _ _ c.in-Ok-Some.field-0-is c.in-Ok-Some.ensures.turns p))

pub transitions-smaller-in-Ok-Some : goal.transitions-smaller-in-Ok-Some
transitions-smaller-in-Ok-Some c = lessens_at_once c.transitions.frames.items c.transitions.at c.in-Ok-Some.control c.in-Begin.task c.transitions.state c.transitions.state
    c.in-Begin.is (some_is _ _ _ c.in-Ok-Some.field-0-is c.in-Ok-Some.ensures.less)

pub transitions-preserved-in-Ok-None : goal.transitions-preserved-in-Ok-None
transitions-preserved-in-Ok-None c = λ p carries. leads_on (view_of p c.args.code.now.nodes) _ _ _ (c.transitions.invariant p carries)
    (begins_after (view_of p c.args.code.now.nodes) c.transitions.frames.items c.begin.new.frames.items c.transitions.at c.in_ok-at-in-Ok-None.at c.in-Begin.task c.transitions.state c.at_once.new.heap
    c.in-Begin.is (c.at_once.ensures.none (c.in-Ok-None.is ∙ ap Ok c.in-Ok-None.field-0-is)) (c.in_ok-at-in-Ok-None.ensures.means p))

pub transitions-smaller-in-Ok-None : goal.transitions-smaller-in-Ok-None
transitions-smaller-in-Ok-None c = begins_lighter c.transitions.frames.items c.begin.new.frames.items c.transitions.at c.in_ok-at-in-Ok-None.at c.in-Begin.task c.transitions.state c.transitions.state
    c.in-Begin.is c.in_ok-at-in-Ok-None.ensures.less

pub transitions-preserved-in-Some : goal.transitions-preserved-in-Some
transitions-preserved-in-Some c = λ p carries. leads_on (view_of p c.args.code.now.nodes) _ _ _ (c.transitions.invariant p carries)
    (resumes (view_of p c.args.code.now.nodes) c.transitions.frames.items c.pop.new.self.items c.resume.new.frames.items c.transitions.at c.in_ok-at-in-Some.at c.in-Some.frame c.in-Give.completion c.transitions.state
    c.in-Give.is c.in-Some.ensures.items (c.in_ok-at-in-Some.ensures.means (view_of p c.args.code.now.nodes)))

pub transitions-smaller-in-Some : goal.transitions-smaller-in-Some
transitions-smaller-in-Some c = resumes_lighter c.transitions.frames.items c.pop.new.self.items c.resume.new.frames.items c.transitions.at c.in_ok-at-in-Some.at c.in-Some.frame c.in-Give.completion c.transitions.state c.transitions.state
    c.in-Give.is c.in-Some.ensures.items (c.in_ok-at-in-Some.ensures.less place_weight)

pub transitions-preserved : goal.transitions-preserved
transitions-preserved c = λ p carries. leads_on (view_of p c.args.code.now.nodes) _ _ _ (c.transitions.invariant p carries)
    (perform_moves (view_of p c.args.code.now.nodes) c.transitions.frames.items c.in-Do.action c.transitions.at c.in_ok-at-in-Do.at c.transitions.state c.perform.new.state
    c.in-Do.is (λ base. c.in_ok-at-in-Do.ensures.becomes p base carries.code_of))

pub transitions-smaller : goal.transitions-smaller
transitions-smaller c = perform_lessens c.transitions.frames.items c.in-Do.action c.transitions.at c.in_ok-at-in-Do.at c.transitions.state c.perform.new.state c.in-Do.is c.in_ok-at-in-Do.ensures.less

pub returns-in-None : goal.returns-in-None
returns-in-None c = λ p carries.
    let none : c.pop.new.self.items ≡ [] = search rules in
    let same : c.pop.new.self.items ≡ c.transitions.frames.items = search rules in
    rests_at (view_of p c.args.code.now.nodes) (here c.args.frames.now.items c.args.control c.args.state.now) (rest.Completed c.in-Give.completion) c.transitions.at c.transitions.frames.items c.pop.new.self.items c.transitions.state c.transitions.state
    (c.transitions.invariant p carries) (c.in-Give.is, none) same refl

pub returns-in-Refuse : goal.returns-in-Refuse
returns-in-Refuse c = λ p carries. rests_at (view_of p c.args.code.now.nodes) (here c.args.frames.now.items c.args.control c.args.state.now) (rest.Refused c.in-Refuse.kind) c.transitions.at c.transitions.frames.items c.transitions.frames.items c.transitions.state c.transitions.state
    (c.transitions.invariant p carries) c.in-Refuse.is refl refl

pub returns-in-Enter : goal.returns-in-Enter
returns-in-Enter c = λ p carries. rests_at (view_of p c.args.code.now.nodes) (here c.args.frames.now.items c.args.control c.args.state.now) (rest.Asks c.in-Enter.entry) c.transitions.at c.transitions.frames.items c.transitions.frames.items c.transitions.state c.transitions.state
    (c.transitions.invariant p carries) c.in-Enter.is refl refl
