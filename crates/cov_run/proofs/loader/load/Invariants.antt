-- What comes of the sources so far and of the paths that wait comes of the entry.
use Rattle.std.proofs.Common.{◌≡◌, ◌<◌, ◌≤◌, ◌-◌, List, length, map, string_bytes}
use Rattle.std.specs.Prelude.{Result}
use Rattle.cov_sources.specs.declared.source.Source.{Source}
use Rattle.cov_run.specs.Loaded.{Loads, Loaded, most}
use Rattle.cov_run.specs.declared.fault.LoadFault.{LoadFault}
use Rattle.cov_run.proofs.loader.load.Given as goal

abbrev pub invariant-files : goal.invariant-files
invariant-files g l = record {
  goes : (outcome : Result (List Source) LoadFault) → Loads (g.S.Store.held l.fn.store) (map string_bytes l.exclude) l.sources.items l.queue outcome →
      Loaded (g.S.Store.held l.fn.store) l.entry (map string_bytes l.exclude) outcome;
  some : 0 < length l.sources.items;
  later : g.S.Store.read_faults l.fn.store ≤ g.S.Store.read_faults l.store;
  held : g.S.Store.held l.store ≡ g.S.Store.held l.fn.store;
  puts : g.S.Store.put_faults l.store ≡ g.S.Store.put_faults l.fn.store;
}

abbrev pub decreases-files : goal.decreases-files
decreases-files g l = most - length l.sources.items
