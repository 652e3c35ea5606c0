-- The texts so far stand below the folder, and the others are those of files that were held.
use Rattle.std.proofs.Common.{◌≤◌, take, drop}
use Rattle.cov_base.specs.Store.{BothTell}
use Rattle.cov_commands.specs.Instrument.{Each, PutsAll}
use Rattle.cov_commands.specs.private.Written.{IsWritten, files_of}
use Rattle.cov_commands.proofs.below.put_all.Given as goal

abbrev pub invariant-loop-written : goal.invariant-loop-written
invariant-loop-written g l = record {
  puts : BothTell (g.S.Store.held l.fn.store) (g.S.Store.held l.store) (PutsAll l.out (files_of (take l.written-index l.list)));
  left : Each (IsWritten (g.S.Store.held l.fn.store)) (drop l.written-index l.list);
  later : g.S.Store.put_faults l.fn.store ≤ g.S.Store.put_faults l.store;
}
