use Rattle.std.proofs.Common.{◌≡◌, ◌+◌, ◌++◌, length}
use Rattle.std.specs.Str.{chars}
use Rattle.cov_v8.specs.private.Pending.{pending}
use Rattle.cov_v8.specs.Coverage as spec
use Rattle.cov_v8.proofs.lines.lines.Given as goal

abbrev pub invariant-next : goal.invariant-next
invariant-next l =
    (l.all.items ++ pending l.first l.at l.cursor.after ≡ spec.lines (chars l.text))
    × (l.at + spec.units l.cursor.after ≡ spec.units (chars l.text))

abbrev pub decreases-next : goal.decreases-next
decreases-next l = length l.cursor.after
