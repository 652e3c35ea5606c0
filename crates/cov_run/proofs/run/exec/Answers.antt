use Rattle.std.proofs.Common.{sym, subst}
use Rattle.cov_run.specs.Exec.{EndsAs}
use Rattle.cov_run.proofs.Running.{ends_so}
use Rattle.cov_run.proofs.run.exec.Goals as goal

pub returns : goal.returns
returns c =
    let begun = c.in_ok-machine.ensures in
    subst (EndsAs c.args.sources.now c.args.entry.now c.args.turns c.in_ok-end.end) (sym c.into_output.ensures)
    (ends_so c.args.sources.now c.args.entry.now c.args.turns begun.0 begun.1 c.in_ok-machine.machine c.run.new.self c.in_ok-end.end
    begun.2 c.in_ok-end.ensures.goes c.in_ok-end.ensures.given)
