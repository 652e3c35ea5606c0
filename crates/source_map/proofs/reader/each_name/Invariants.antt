use Rattle.std.proofs.Common.{◌≡◌, ◌++◌, drop, option_map}
use Rattle.serde_json.specs.Find.{as_str}
use Rattle.serde_json.specs.View.{items_view}
use Rattle.source_map.specs.Read as spec
use Rattle.source_map.proofs.reader.each_name.Given as goal

abbrev pub invariant-loop-value : goal.invariant-loop-value
invariant-loop-value l =
    option_map (λ texts. l.texts.items ++ texts) (spec.each as_str (items_view (drop l.value-index l.values))) ≡ spec.each as_str (items_view l.values)
