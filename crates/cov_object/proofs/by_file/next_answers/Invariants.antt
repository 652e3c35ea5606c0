-- What was found is what the members so far tell, and these before those still to come are all.
use Rattle.std.proofs.Common.{◌≡◌, ℕ, ◌+◌, ◌≤◌, length}
use Rattle.json.specs.Json.{value}
use Rattle.serde_json.specs.Data.{Members, no_members}
use Rattle.cov_object.specs.SourceMapText.{most_depth}
use Rattle.cov_object.specs.private.ByFile.{answers, answered}
use Rattle.cov_object.proofs.JsonValue.{data_members}
use Rattle.cov_object.proofs.by_file.next_answers.Given as goal

abbrev pub invariant-members : goal.invariant-members
invariant-members l =
    (n : ℕ) × (old : Members) × (length l.reader ≤ n)
    × (data_members (value (most_depth + 1)) (length l.initial.reader) no_members l.initial.reader ≡ data_members (value (most_depth + 1)) n old l.reader)
    × (answers old ≡ answered l.found.entries)
    × (length l.reader ≤ length l.initial.reader)

abbrev pub decreases-members : goal.decreases-members
decreases-members l = length l.reader
