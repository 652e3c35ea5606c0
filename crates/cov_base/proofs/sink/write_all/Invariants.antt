use Rattle.std.proofs.Common.{◌≡◌, ℕ, List, ◌++◌, ◌≤◌, length}
use Rattle.cov_base.specs.Sink.{after_more}
use Rattle.cov_base.proofs.sink.write_all.Given as goal

-- what was taken is the part of the bytes before the rest, and the count of faults hasn't fallen
abbrev pub invariant-loop-rest : goal.invariant-loop-rest
invariant-loop-rest g l = (done : List ℕ) × record {
  split : l.bytes ≡ done ++ l.rest;
  taken : g.S.Sink.taken l.sink ≡ after_more (g.S.Sink.taken l.initial.sink) done;
  later : g.S.Sink.faults l.initial.sink ≤ g.S.Sink.faults l.sink;
}

-- the bytes that are left
abbrev pub decreases-loop-rest : goal.decreases-loop-rest
decreases-loop-rest g l = length l.rest
