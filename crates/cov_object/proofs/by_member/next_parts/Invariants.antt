-- What was kept is that of the members so far, and these before those still to come are all.
use Rattle.std.proofs.Common.{◌≡◌, ℕ, ◌≤◌, length}
use Rattle.json.specs.Json.{value}
use Rattle.serde_json.specs.Data.{Members, no_members, object}
use Rattle.cov_object.specs.SourceMapText.{most_depth}
use Rattle.cov_object.specs.private.ByMember.{parts_of}
use Rattle.cov_object.proofs.JsonValue.{data_members}
use Rattle.cov_object.proofs.by_member.next_parts.Given as goal

abbrev pub invariant-members : goal.invariant-members
invariant-members l =
    (n : ℕ) × (old : Members) × (length l.reader ≤ n)
    × (data_members (value most_depth) (length l.initial.reader) no_members l.initial.reader ≡ data_members (value most_depth) n old l.reader)
    × (parts_of l.key (object old) ≡ l.parts)
    × (length l.reader ≤ length l.initial.reader)

abbrev pub decreases-members : goal.decreases-members
decreases-members l = length l.reader
