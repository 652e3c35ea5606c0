-- Those so far.
use Rattle.std.proofs.Common.{◌≡◌, List, ◌++◌, take}
use Rattle.serde_json.specs.View.{items_view, members_view}
use Rattle.js_tree.specs.Tree.{plain_exprs, plain_properties}
use Rattle.cov_rewritten.specs.Preamble.{literals, literal_members}
use Rattle.cov_preamble.proofs.Entries.{Entry}
use Rattle.cov_preamble.proofs.values.+value.Given as goal

abbrev pub invariant-values-loop-item : goal.invariant-values-loop-item
invariant-values-loop-item l = plain_exprs l.list ≡ literals (items_view (take l.item-index l.items))

abbrev pub invariant-members_of-loop-key : goal.invariant-members_of-loop-key
invariant-members_of-loop-key l =
    (done : List Entry) × (done ++ l.key-iterator ≡ l.entries.entries) × (plain_properties l.members ≡ literal_members (members_view done))
