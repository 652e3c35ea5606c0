-- The paths before that aren't held are passed over.
use Rattle.std.proofs.Common.{◌≡◌, ◌≤◌, length}
use Rattle.cov_run.specs.private.Step.{PassesTo}
use Rattle.cov_run.proofs.loader.next_held.Given as goal

abbrev pub invariant-paths : goal.invariant-paths
invariant-paths g l = record {
  passes : PassesTo (g.S.Store.held l.fn.store) l.fn.queue l.queue;
  later : g.S.Store.read_faults l.fn.store ≤ g.S.Store.read_faults l.store;
  held : g.S.Store.held l.store ≡ g.S.Store.held l.fn.store;
  puts : g.S.Store.put_faults l.store ≡ g.S.Store.put_faults l.fn.store;
}

abbrev pub decreases-paths : goal.decreases-paths
decreases-paths g l = length l.queue.waiting
