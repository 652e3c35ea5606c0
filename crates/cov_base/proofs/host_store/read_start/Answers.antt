use Rattle.std.proofs.Common.{length, ap, arith}
use Rattle.std.proofs.lemmas.List.{length-append, length-take}
use Rattle.cov_base.specs.declared.host_store.TheConstants.{LONGEST_READ}
use Rattle.cov_base.proofs.Starts.{Consumes-more, start-full, start-ended}
use Rattle.cov_base.proofs.host_store.read_start.Goals as goal

pub returns-then-count-eq0-clause-start : goal.returns-then-count-eq0-clause-start
returns-then-count-eq0-clause-start g c =
    let so_far = c.loop-bytes.invariant in
    let more = c.in_ok-count.ensures.more in
    start-ended _ _ _ (Consumes-more _ _ _ _ _ _ so_far.start more.3 more.2)
    (c.in_ok-count.ensures.end c.if-count-eq0.true (omega (arith, so_far.room, length-take c.min-wanted.result c.deref_mut.result.now)))
    LONGEST_READ (simp (more.2, length-append) (omega (arith, more.1, so_far.cut, c.loop-bytes.bytes.ok.0)))

pub loop-bytes-preserved : goal.loop-bytes-preserved
loop-bytes-preserved g c =
    let so_far = c.loop-bytes.invariant in
    let more = c.in_ok-count.ensures.more in
    record {
      room = so_far.room;
      cut = omega (arith, so_far.cut, more.1, c.in_ok-count.ensures.bound, length-take c.min-wanted.result c.deref_mut.result.now, c.append_some.new.bytes.ok.0, c.loop-bytes.bytes.ok.0, simp length-append at (ap length more.2));
      start = Consumes-more _ _ _ _ _ _ so_far.start more.3 more.2;
    }

pub returns-clause-start : goal.returns-clause-start
returns-clause-start g c =
    let so_far = c.loop-bytes.invariant in
    start-full _ _ _ so_far.start LONGEST_READ (omega (arith, so_far.cut, c.loop-bytes.bytes.ok.0))
