use Rattle.std.proofs.Common.{◌≡◌, ◌++◌, drop, length, Ok}
use Rattle.std.specs.List.{All}
use Rattle.serde_json.specs.View.{items_view}
use Rattle.cov_v8.specs.Form.{IsRange}
use Rattle.cov_v8.specs.Read as spec
use Rattle.cov_v8.proofs.read.each_range.Given as goal

abbrev pub invariant-loop-value : goal.invariant-loop-value
invariant-loop-value l =
    (spec.after (spec.each spec.range_of (items_view (drop l.value-index l.values))) (λ others. Ok (l.ranges.items ++ others)) ≡ spec.each spec.range_of (items_view l.values))
    × All IsRange l.ranges.items
    × (length l.ranges.items ≡ l.value-index)
