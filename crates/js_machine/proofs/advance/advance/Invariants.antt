-- What was done leads here.
use Rattle.js_meaning.specs.Program.{Sources}
use Rattle.js_machine.specs.private.Carries.{Carries}
use Rattle.js_machine.specs.private.Config.{view_of}
use Rattle.js_machine.specs.private.Moves.{here, Leads, work}
use Rattle.js_machine.proofs.advance.advance.Given as goal

abbrev pub invariant-transitions : goal.invariant-transitions
invariant-transitions l = (p : Sources) → Carries p l.code →
    Leads (view_of p l.code.nodes) (here l.fn.frames.items l.fn.control l.fn.state) (here l.frames.items l.at l.state)

abbrev pub decreases-transitions : goal.decreases-transitions
decreases-transitions l = work (here l.frames.items l.at l.state)
