-- As many steps as were taken lead here.
use Rattle.js_meaning.specs.Program.{Sources}
use Rattle.js_machine.specs.private.Carries.{Carries}
use Rattle.js_machine.specs.private.Config.{view_of}
use Rattle.js_machine.specs.private.Moves.{here}
use Rattle.js_machine.specs.private.Runs.{Takes}
use Rattle.js_machine.proofs.run.run_on.Given as goal

abbrev pub invariant-loop : goal.invariant-loop
invariant-loop l = (p : Sources) → Carries p l.code →
    Takes p (view_of p l.code.nodes) l.counter (here l.fn.frames.items l.fn.control l.fn.state) (here l.frames.items l.at l.state)
