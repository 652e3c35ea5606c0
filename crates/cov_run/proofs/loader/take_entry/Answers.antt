-- Why the entry isn't read is why nothing is loaded.
use Rattle.std.proofs.Common.{map, string_bytes}
use Rattle.std.proofs.lemmas.Result.{err_from_is_err_and}
use Rattle.cov_run.specs.Loaded.{wanting}
use Rattle.cov_run.specs.declared.fault.LoadFault.TheVariants.{ReadFault}
use Rattle.cov_run.proofs.Loading.{stops_entry, same_fault}
use Rattle.cov_run.proofs.loader.take_entry.Goals as goal

pub returns-in_err-path-clause-fault : goal.returns-in_err-path-clause-fault
returns-in_err-path-clause-fault g c = let p = err_from_is_err_and c.from_residual.result c.from_residual.ensures.1 in rw (p.1, p.2) wanting

pub returns-in-Err-clause-fault : goal.returns-in-Err-clause-fault
returns-in-Err-clause-fault g c =
    stops_entry (g.S.Store.held c.args.store.now) (map string_bytes c.args.exclude.now) c.args.entry.now c.args.queue.now c.in-Err.fault c.in-Err.ensures.fault

pub returns-in-Err-clause-failed : goal.returns-in-Err-clause-failed
returns-in-Err-clause-failed g c = λ at is. (c.args.store.now, c.in-Err.ensures.failed at (same_fault c.in-Err.fault (ReadFault at) is))
