use Rattle.std.proofs.Common.{◌≡◌, ◌++◌, drop, option_map}
use Rattle.serde_json.specs.View.{items_view}
use Rattle.source_map.specs.Read as spec
use Rattle.source_map.proofs.reader.each_source.Given as goal

abbrev pub invariant-loop-value : goal.invariant-loop-value
invariant-loop-value l =
    option_map (λ texts. l.texts.items ++ texts) (spec.each spec.text_or_null (items_view (drop l.value-index l.values))) ≡ spec.each spec.text_or_null (items_view l.values)
