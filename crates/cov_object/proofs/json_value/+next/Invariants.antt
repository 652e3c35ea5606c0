-- What was found, before what is still to come, is all; and it nests no deeper than it may.
use Rattle.std.proofs.Common.{◌≡◌, ℕ, ◌+◌, ◌*◌, ◌≤◌, length}
use Rattle.json.specs.Json.{value, parse_map}
use Rattle.serde_json.specs.Data.{no_members, items_depth, members_depth}
use Rattle.serde_json.specs.View.{items_view, members_view}
use Rattle.cov_object.proofs.JsonValue.{data_items, data_members, followed}
use Rattle.cov_object.proofs.json_value.+next.Given as goal

abbrev pub decreases-next_value : goal.decreases-next_value
decreases-next_value l = 2 * l.depth

abbrev pub decreases-next_items : goal.decreases-next_items
decreases-next_items l = 2 * l.depth + 1

abbrev pub decreases-next_members : goal.decreases-next_members
decreases-next_members l = 2 * l.depth + 1

abbrev pub invariant-next_items-items : goal.invariant-next_items-items
invariant-next_items-items l =
    (n : ℕ) × (length l.reader ≤ n)
    × (data_items (value l.depth) (length l.initial.reader) l.initial.reader ≡ parse_map (followed (items_view l.found.items)) (data_items (value l.depth) n l.reader))
    × (items_depth (items_view l.found.items) ≤ l.depth)
    × (length l.reader ≤ length l.initial.reader)

abbrev pub decreases-next_items-items : goal.decreases-next_items-items
decreases-next_items-items l = length l.reader

abbrev pub invariant-next_members-members : goal.invariant-next_members-members
invariant-next_members-members l =
    (n : ℕ) × (length l.reader ≤ n)
    × (data_members (value l.depth) (length l.initial.reader) no_members l.initial.reader ≡ data_members (value l.depth) n (members_view l.found.entries) l.reader)
    × (members_depth (members_view l.found.entries) ≤ l.depth)
    × (length l.reader ≤ length l.initial.reader)

abbrev pub decreases-next_members-members : goal.decreases-next_members-members
decreases-next_members-members l = length l.reader
