-- What comes of the last sources, where none is left to read, comes of the entry.
use Rattle.std.proofs.Common.{None, Ok, map, string_bytes, subst}
use Rattle.std.proofs.lemmas.Result.{err_from_is_err_and}
use Rattle.cov_run.specs.Loaded.{wanting}
use Rattle.cov_run.specs.private.Step.{Finds}
use Rattle.cov_run.proofs.Loading.{none_left}
use Rattle.cov_run.proofs.loader.load.Goals as goal

pub returns-in_err-queue-clause-fault : goal.returns-in_err-queue-clause-fault
returns-in_err-queue-clause-fault g c = let p = err_from_is_err_and c.from_residual.result c.from_residual.ensures.1 in rw (p.1, p.2) wanting

pub returns-in-Ok-None-clause-sources : goal.returns-in-Ok-None-clause-sources
returns-in-Ok-None-clause-sources g c =
    let exclude = map string_bytes c.args.exclude.now in
    let told = g.S.Store.held c.args.store.now in
    let last : Finds told c.files.queue c.next_held.new.queue None =
    subst (λ told. Finds told c.files.queue c.next_held.new.queue None) c.files.invariant.held
    (subst (Finds (g.S.Store.held c.files.store) c.files.queue c.next_held.new.queue) c.in-Ok-None.field-0-is c.in-Ok-None.ensures.found) in
    c.files.invariant.goes (Ok c.files.sources.items)
    (last.0 exclude c.files.sources.items (Ok c.files.sources.items) c.files.invariant.some (none_left told exclude c.files.sources.items c.next_held.new.queue last.1))
