use Rattle.std.proofs.Common.{◌<◌, ◌^◌, subst, sym}
use Rattle.cov_v8.proofs.InsideLemmas.{count_at-below}
use Rattle.cov_v8.proofs.coverage.statements.Goals as goal

pub push_statement-requires-clause-counted : goal.push_statement-requires-clause-counted
push_statement-requires-clause-counted c =
    subst (λ n. n < 2 ^ 53) (sym (c.count_at-count.ensures.count c.args.ranges.now c.loop-line.invariant.1)) (count_at-below c.args.ranges.now _ c.requires.counted)
