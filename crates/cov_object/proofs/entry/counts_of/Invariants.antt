-- The counts so far, before those that are left, are those of all values.
use Rattle.std.proofs.Common.{◌≡◌, ◌++◌, drop}
use Rattle.serde_json.specs.View.{items_view}
use Rattle.cov_object.specs.private.ByMember.{counts_of}
use Rattle.cov_object.proofs.entry.counts_of.Given as goal

abbrev pub invariant-loop-value : goal.invariant-loop-value
invariant-loop-value l = l.counts.items ++ counts_of (items_view (drop l.value-index l.values)) ≡ counts_of (items_view l.values)
