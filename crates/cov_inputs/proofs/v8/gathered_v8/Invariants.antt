-- All files come to what those that are left come to.
use Rattle.std.proofs.Common.{◌≡◌, ◌≤◌, Ok, length}
use Rattle.std.specs.Prelude.{IfSome}
use Rattle.cov_merge.specs.Maps.{merged}
use Rattle.cov_inputs.specs.private.Given.{FilesGoOn}
use Rattle.cov_inputs.proofs.v8.gathered_v8.Given as goal

abbrev pub invariant-files : goal.invariant-files
invariant-files g l = record {
  go_on : IfSome (g.S.Store.held l.fn.store) (λ held. FilesGoOn held l.files l.sums l.left);
  again : merged l.sums ≡ Ok l.sums;
  later : g.S.Store.read_faults l.fn.store ≤ g.S.Store.read_faults l.store;
  held : g.S.Store.held l.store ≡ g.S.Store.held l.fn.store;
  puts : g.S.Store.put_faults l.store ≡ g.S.Store.put_faults l.fn.store;
}

abbrev pub decreases-files : goal.decreases-files
decreases-files g l = length l.left
