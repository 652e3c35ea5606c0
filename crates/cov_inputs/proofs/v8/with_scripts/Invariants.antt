-- All entries come to what those that are left come to.
use Rattle.std.proofs.Common.{◌≡◌, ◌≤◌, Ok, length}
use Rattle.std.specs.Prelude.{IfSome}
use Rattle.std.specs.List.{All}
use Rattle.cov_merge.specs.Maps.{merged}
use Rattle.cov_v8.specs.Form.{IsScript}
use Rattle.cov_inputs.specs.private.Given.{EntriesGoOn}
use Rattle.cov_inputs.proofs.v8.with_scripts.Given as goal

abbrev pub invariant-scripts : goal.invariant-scripts
invariant-scripts g l = record {
  go_on : IfSome (g.S.Store.held l.fn.store) (λ held. EntriesGoOn held l.file l.fn.sums l.scripts l.sums l.left);
  again : merged l.sums ≡ Ok l.sums;
  formed : All IsScript l.left;
  later : g.S.Store.read_faults l.fn.store ≤ g.S.Store.read_faults l.store;
  held : g.S.Store.held l.store ≡ g.S.Store.held l.fn.store;
  puts : g.S.Store.put_faults l.store ≡ g.S.Store.put_faults l.fn.store;
}

abbrev pub decreases-scripts : goal.decreases-scripts
decreases-scripts g l = length l.left
