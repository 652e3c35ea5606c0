-- So many files are sources, and what comes of the others comes of all.
use Rattle.std.proofs.Common.{◌≡◌, ◌≤◌, length, take, drop}
use Rattle.cov_run.specs.Loaded.{most}
use Rattle.cov_commands.specs.Instrument.{Each}
use Rattle.cov_commands.specs.private.Written.{IsWritten, files_of}
use Rattle.cov_commands.proofs.Texts.{Goes}
use Rattle.cov_commands.proofs.written.all_written.Given as goal

abbrev pub invariant-loop-file : goal.invariant-loop-file
invariant-loop-file g l = record {
  of : files_of l.list.items ≡ take l.file-index l.files;
  each : Each (IsWritten (g.S.Store.held l.fn.store)) l.list.items;
  within : length l.list.items ≤ most;
  goes : Goes (g.S.Store.held l.fn.store) l.files (length l.list.items) (drop l.file-index l.files);
  later : g.S.Store.read_faults l.fn.store ≤ g.S.Store.read_faults l.store;
  held : g.S.Store.held l.store ≡ g.S.Store.held l.fn.store;
  puts : g.S.Store.put_faults l.store ≡ g.S.Store.put_faults l.fn.store;
}
