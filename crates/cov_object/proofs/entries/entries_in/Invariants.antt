-- The members that are left, put to those that were found, give what all do.
use Rattle.std.proofs.Common.{◌≡◌, ℕ, List, [], Option, option_map, option_and_then}
use Rattle.serde_json.specs.Data.{Data}
use Rattle.serde_json.specs.View.{members_view}
use Rattle.cov_object.specs.Read.{by_id}
use Rattle.cov_object.specs.private.ByMember.{kept}
use Rattle.cov_object.proofs.entries.entries_in.Given as goal

abbrev pub invariant-loop-key : goal.invariant-loop-key
invariant-loop-key g l =
    (so_far : Option (List (ℕ × Data))) × (option_map (kept g.E.Entry.tells) so_far ≡ l.found)
    × (option_and_then (by_id (members_view l.key-iterator)) so_far ≡ by_id (members_view l.members.entries) [])
