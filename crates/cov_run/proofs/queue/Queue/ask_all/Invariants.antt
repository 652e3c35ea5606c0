-- What is left of the specifiers is asked for after those before.
use Rattle.std.proofs.Common.{◌≡◌, drop}
use Rattle.cov_run.specs.Asked.{with_specifiers}
use Rattle.cov_run.proofs.queue.Queue.ask_all.Given as goal

abbrev pub invariant-loop-specifier : goal.invariant-loop-specifier
invariant-loop-specifier l = with_specifiers l.from l.self (drop l.specifier-index l.specifiers) ≡ with_specifiers l.from l.fn.self l.specifiers
