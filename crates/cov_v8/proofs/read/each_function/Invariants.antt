use Rattle.std.proofs.Common.{◌≡◌, ◌++◌, drop, Ok}
use Rattle.std.specs.List.{All}
use Rattle.serde_json.specs.View.{items_view}
use Rattle.cov_v8.specs.Form.{IsFunction}
use Rattle.cov_v8.specs.Read as spec
use Rattle.cov_v8.proofs.read.each_function.Given as goal

abbrev pub invariant-loop-value : goal.invariant-loop-value
invariant-loop-value l =
    (spec.after (spec.each spec.function_of (items_view (drop l.value-index l.values))) (λ others. Ok (l.functions.items ++ others)) ≡ spec.each spec.function_of (items_view l.values))
    × All IsFunction l.functions.items
