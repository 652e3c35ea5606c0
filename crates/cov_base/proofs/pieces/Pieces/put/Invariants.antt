use Rattle.std.proofs.Common.{◌≡◌, ℕ, List, ◌++◌, ◌≤◌, length}
use Rattle.cov_base.specs.Pieces.{Moves, held_of}
use Rattle.cov_base.proofs.pieces.Pieces.put.Given as goal

-- the bytes before the rest are held or gone, and the count of faults hasn't fallen
abbrev pub invariant-loop-rest : goal.invariant-loop-rest
invariant-loop-rest g l = (done : List ℕ) × record {
  split : l.bytes ≡ done ++ l.rest;
  moved : Moves (held_of l.fn.self ++ done) (held_of l.self) (g.S.Sink.taken l.fn.sink) (g.S.Sink.taken l.sink);
  later : g.S.Sink.faults l.fn.sink ≤ g.S.Sink.faults l.sink;
}

-- the bytes that are left
abbrev pub decreases-loop-rest : goal.decreases-loop-rest
decreases-loop-rest g l = length l.rest
