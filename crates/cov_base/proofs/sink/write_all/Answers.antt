use Rattle.std.proofs.Common.{◌≡◌, ◌++◌, take, Err, ap, arith}
use Rattle.std.proofs.lemmas.Result.{err_from_is_err_and}
use Rattle.cov_base.specs.declared.failed.Failed.TheVariants.{Memory}
use Rattle.cov_base.proofs.Taken.{after_more-next, split-more, TakesPrefix-before}
use Rattle.cov_base.proofs.sink.write_all.Goals as goal

pub returns-in_err-count-clause-prefix : goal.returns-in_err-count-clause-prefix
returns-in_err-count-clause-prefix g c =
    let so_far = c.loop-rest.invariant.1 in
    TakesPrefix-before _ _ _ _ c.loop-rest.rest.now _ so_far.split so_far.taken c.in_err-count.ensures.taken

pub loop-rest-preserved : goal.loop-rest-preserved
loop-rest-preserved g c =
    let done = c.loop-rest.invariant.0 in
    let so_far = c.loop-rest.invariant.1 in
    let wrote = c.in_ok-count.ensures in (
      done ++ take c.in_ok-count.count c.loop-rest.rest.now,
      record {
        split = split-more done c.loop-rest.rest.now _ c.in_ok-count.count so_far.split;
        taken = after_more-next _ _ _ done _ so_far.taken wrote.taken;
        later = omega (arith, so_far.later, wrote.cause.later);
      },
    )

pub returns-in_err-count-clause-memory : goal.returns-in_err-count-clause-memory
returns-in_err-count-clause-memory g c = λ e.
    let so_far = c.loop-rest.invariant.1 in
    let passed = err_from_is_err_and c.from_residual.result c.from_residual.ensures.1 in
    let is : c.in_err-count.field-0.0 ≡ Memory = cc in
    (c.loop-rest.sink, c.loop-rest.invariant.0, c.loop-rest.rest.now, so_far.split, so_far.taken, c.in_err-count.ensures.memory (ap Err is))
