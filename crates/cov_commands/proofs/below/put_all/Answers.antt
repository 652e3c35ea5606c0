-- One text more stands below the folder, or its put failed.
use Rattle.std.proofs.Common.{arith}
use Rattle.cov_commands.proofs.PutBelow.{left_next, put_next, put_stops}
use Rattle.cov_commands.proofs.below.put_all.Goals as goal

pub loop-written-preserved : goal.loop-written-preserved
loop-written-preserved g c =
    let l = c.loop-written in
    let told = g.S.Store.held c.args.store.now in record {
      puts = put_next c.args.out.now told (g.S.Store.held l.store) (g.S.Store.held c.put_both.new.store) c.args.list.now l.written-index c.written-item.result c.loop-written-test.true c.written-item.is
          l.invariant.puts l.invariant.left c.requires.paths c.put_both.result c.in-Ok.field-0 c.in-Ok.is c.put_both.ensures.value;
      left = left_next c.args.out.now told (g.S.Store.held l.store) (g.S.Store.held c.put_both.new.store) c.args.list.now l.written-index c.written-item.result c.loop-written-test.true c.written-item.is
          l.invariant.puts l.invariant.left c.requires.paths;
      later = omega (arith, l.invariant.later, c.put_both.ensures.cause.later);
    }

pub returns-in-Err-clause-some : goal.returns-in-Err-clause-some
returns-in-Err-clause-some g c =
    let l = c.loop-written in
    let told = g.S.Store.held c.args.store.now in
    put_stops c.args.out.now told (g.S.Store.held l.store) (g.S.Store.held c.put_both.new.store) c.args.list.now l.written-index c.written-item.result c.loop-written-test.true c.written-item.is
    l.invariant.puts l.invariant.left c.requires.paths c.put_both.result c.in-Err.failed c.in-Err.is c.put_both.ensures.value
