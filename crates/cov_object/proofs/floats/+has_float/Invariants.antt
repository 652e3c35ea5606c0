-- What is left has a float where the whole has one.
use Rattle.std.proofs.Common.{◌≡◌, drop}
use Rattle.serde_json.specs.View.{items_view, members_view}
use Rattle.serde_json.specs.Written as written
use Rattle.cov_object.proofs.floats.+has_float.Given as goal

abbrev pub invariant-items_have_float-loop-item : goal.invariant-items_have_float-loop-item
invariant-items_have_float-loop-item l = written.items_have_float (items_view (drop l.item-index l.items)) ≡ written.items_have_float (items_view l.items)

abbrev pub invariant-members_have_float-loop-key : goal.invariant-members_have_float-loop-key
invariant-members_have_float-loop-key l = written.members_have_float (members_view l.key-iterator) ≡ written.members_have_float (members_view l.members.entries)
