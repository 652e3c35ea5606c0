use Rattle.std.proofs.Common.{◌≡◌, ◌++◌, length}
use Rattle.std.specs.Str.{chars}
use Rattle.js_text.specs.Position.{position_of}
use Rattle.cov_v8.specs.private.Table as spec
use Rattle.cov_v8.proofs.table.table.Given as goal

abbrev pub invariant-next : goal.invariant-next
invariant-next l =
    (l.all.items ++ spec.table_from l.cursor.before l.cursor.after ≡ spec.table (chars l.text))
    × (l.here ≡ position_of l.cursor)

abbrev pub decreases-next : goal.decreases-next
decreases-next l = length l.cursor.after
