use Rattle.std.proofs.Common.{◌≡◌, ◌+◌, false, refl, sym, subst, ◌∙◌}
use Rattle.js_machine.specs.private.Config.{view_of}
use Rattle.js_machine.specs.private.Moves.{here, rest_control}
use Rattle.js_machine.specs.private.Runs.{Runs}
use Rattle.js_machine.specs.Whole.{Whole, Goes}
use Rattle.js_machine.proofs.Goes.{goes}
use Rattle.js_machine.proofs.machine.Machine.run.Goals as goal

pub returns-clause-goes : goal.returns-clause-goes
returns-clause-goes c =
    let m = c.self.inside in
    let old : Whole = record { code = m.code; here = here m.frames.items m.control m.state; given = m.given; lost = m.lost } in
    let new : Whole = record {
      code = m.code;
      here = here c.run_on.new.frames.items c.put.new.control c.run_on.new.state;
      given = m.given + c.args.steps;
      lost = false;
    } in
    let next : c.put.new.control ≡ rest_control c.in_ok-rest.rest = c.put.ensures ∙ c.rest_control.ensures in
    subst (λ w. Goes w c.in_ok-end.end new) c.self.view_is
    (goes c.args.steps old new c.in_ok-rest.rest c.in_ok-end.end
    (λ p carries. subst (λ k. Runs p (view_of p m.code.nodes) c.args.steps old.here c.in_ok-rest.rest (here c.run_on.new.frames.items k c.run_on.new.state))
    (sym next)
    (subst (λ k. Runs p (view_of p m.code.nodes) c.args.steps (here m.frames.items k m.state) c.in_ok-rest.rest (here c.run_on.new.frames.items (rest_control c.in_ok-rest.rest) c.run_on.new.state))
    c.take-control.ensures (c.in_ok-rest.ensures p carries)))
    refl refl c.in_ok-end.ensures)
