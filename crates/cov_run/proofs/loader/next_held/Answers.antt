-- What is held of the path that is next is what is read.
use Rattle.std.proofs.Common.{◌≡◌, ◌∙◌, None, subst, arith}
use Rattle.std.proofs.lemmas.Result.{err_from_is_err_and}
use Rattle.cov_run.specs.Asked.{before_others}
use Rattle.cov_run.specs.Loaded.{Holds}
use Rattle.cov_run.proofs.Loading.{holds_none, next_is, passes_on, stops_read, stops_wanting}
use Rattle.cov_run.proofs.loader.next_held.Goals as goal

pub returns-in_err-path-clause-fault : goal.returns-in_err-path-clause-fault
returns-in_err-path-clause-fault g c =
    let p = err_from_is_err_and c.from_residual.result c.from_residual.ensures.1 in rw (p.1, p.2) (stops_wanting (g.S.Store.held c.args.store.now) c.args.queue.now)

pub returns-in-Err-Device-clause-fault : goal.returns-in-Err-Device-clause-fault
returns-in-Err-Device-clause-fault g c =
    let next : c.paths.queue ≡ before_others c.in-Some.path c.next.new.self = next_is c.paths.queue c.next.new.self c.in_ok-path.field-0 c.in_ok-path.ensures c.in-Some.is in
    stops_read (g.S.Store.held c.args.store.now) c.args.queue.now c.paths.queue c.next.new.self c.in-Some.path next c.paths.invariant.passes

pub returns-in-Err-Memory-clause-fault : goal.returns-in-Err-Memory-clause-fault
returns-in-Err-Memory-clause-fault g c = stops_wanting (g.S.Store.held c.args.store.now) c.args.queue.now

pub paths-preserved : goal.paths-preserved
paths-preserved g c =
    let next : c.paths.queue ≡ before_others c.in-Some.path c.next.new.self = next_is c.paths.queue c.next.new.self c.in_ok-path.field-0 c.in_ok-path.ensures c.in-Some.is in
    let none : Holds (g.S.Store.held c.args.store.now) c.in-Some.path None =
    subst (λ told. Holds told c.in-Some.path None) c.paths.invariant.held
    (subst (λ path. Holds (g.S.Store.held c.paths.store) path None) c.as_str.ensures
    (holds_none (g.S.Store.held c.paths.store) c.as_str.result.now c.in-Ok-None.field-0 c.in-Ok-None.ensures.value c.in-Ok-None.field-0-is)) in
    record {
      passes = passes_on (g.S.Store.held c.args.store.now) c.args.queue.now c.paths.queue c.next.new.self c.in-Some.path next none c.paths.invariant.passes;
      later = omega (arith, c.paths.invariant.later, c.in-Ok-None.ensures.cause.later);
      held = c.in-Ok-None.ensures.unchanged ∙ c.paths.invariant.held;
      puts = c.in-Ok-None.ensures.puts ∙ c.paths.invariant.puts;
    }
