use Rattle.std.proofs.Common.{◌≡◌, ◌++◌, drop, Ok}
use Rattle.std.specs.List.{All}
use Rattle.serde_json.specs.View.{items_view}
use Rattle.cov_v8.specs.Form.{IsScript}
use Rattle.cov_v8.specs.Read as spec
use Rattle.cov_v8.proofs.read.each_script.Given as goal

abbrev pub invariant-loop-value : goal.invariant-loop-value
invariant-loop-value l =
    (spec.after (spec.each spec.script_of (items_view (drop l.value-index l.values))) (λ others. Ok (l.scripts.items ++ others)) ≡ spec.each spec.script_of (items_view l.values))
    × All IsScript l.scripts.items
