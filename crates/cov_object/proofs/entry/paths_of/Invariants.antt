-- The paths so far, before those that are left, are those of all values.
use Rattle.std.proofs.Common.{◌≡◌, ◌++◌, drop, option_map}
use Rattle.serde_json.specs.View.{items_view}
use Rattle.cov_object.specs.Read as spec
use Rattle.cov_object.proofs.entry.paths_of.Given as goal

abbrev pub invariant-loop-value : goal.invariant-loop-value
invariant-loop-value l =
    option_map (λ paths. l.paths.items ++ paths) (spec.paths_of (items_view (drop l.value-index l.values))) ≡ spec.paths_of (items_view l.values)
