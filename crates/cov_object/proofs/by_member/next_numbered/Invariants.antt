-- What was kept is that of the entries so far, and these before those still to come are all.
use Rattle.std.proofs.Common.{◌≡◌, ℕ, ◌-◌, ◌≤◌, length}
use Rattle.json.specs.Json.{value}
use Rattle.serde_json.specs.Data.{Members, no_members}
use Rattle.cov_object.specs.SourceMapText.{most_depth}
use Rattle.cov_object.specs.private.ByMember.{entries_kept}
use Rattle.cov_object.proofs.JsonValue.{data_members}
use Rattle.cov_object.proofs.ReadText.{AreSorted}
use Rattle.cov_object.proofs.by_member.next_numbered.Given as goal

abbrev pub invariant-members : goal.invariant-members
invariant-members g l =
    (n : ℕ) × (old : Members) × (length l.reader ≤ n)
    × (data_members (value (most_depth - 1)) (length l.initial.reader) no_members l.initial.reader ≡ data_members (value (most_depth - 1)) n old l.reader)
    × (entries_kept g.E.Entry.tells old ≡ l.found)
    × AreSorted old
    × (length l.reader ≤ length l.initial.reader)

abbrev pub decreases-members : goal.decreases-members
decreases-members g l = length l.reader
