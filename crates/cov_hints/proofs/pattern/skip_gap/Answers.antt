use Rattle.std.proofs.Common.{sym, ◌∙◌}
use Rattle.cov_hints.proofs.Gaps.{gap_stop, gap_end}
use Rattle.cov_hints.proofs.pattern.skip_gap.Goals as goal

pub returns-then-not-is_gap : goal.returns-then-not-is_gap
returns-then-not-is_gap c = sym (gap_stop c.loop-next.cursor.after c.in-Some.next (sym c.peek.ensures ∙ c.in-Some.is) (sym c.is_gap.ensures ∙ c.if-not-is_gap.true)) ∙ c.loop-next.invariant

pub returns-in_default : goal.returns-in_default
returns-in_default c = sym (gap_end c.loop-next.cursor.after (sym c.peek.ensures ∙ c.in_default.is)) ∙ c.loop-next.invariant
