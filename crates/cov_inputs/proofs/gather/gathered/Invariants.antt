-- The files so far have the sums so far.
use Rattle.std.proofs.Common.{◌≡◌, ◌≤◌, Ok, take}
use Rattle.cov_merge.specs.Maps.{merged}
use Rattle.cov_inputs.specs.Inputs.{HaveSums}
use Rattle.cov_inputs.proofs.gather.gathered.Given as goal

abbrev pub invariant-loop-file : goal.invariant-loop-file
invariant-loop-file g l = record {
  have : HaveSums (g.S.Store.held l.fn.store) (take l.file-index l.files) l.sums;
  again : merged l.sums ≡ Ok l.sums;
  later : g.S.Store.read_faults l.fn.store ≤ g.S.Store.read_faults l.store;
  held : g.S.Store.held l.store ≡ g.S.Store.held l.fn.store;
  puts : g.S.Store.put_faults l.store ≡ g.S.Store.put_faults l.fn.store;
}
