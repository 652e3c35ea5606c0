use Rattle.std.proofs.Common.{◌≡◌, Some, is_some, true, false, string_bytes, rules, arith, subst, sym}
use Rattle.serde_json.specs.Find.{as_object}
use Rattle.serde_json.specs.Read.{read}
use Rattle.serde_json.specs.Written.{has_float}
use Rattle.serde_json.specs.View.{view}
use Rattle.cov_object.specs.SourceMapText.{IsSourceMap}
use Rattle.cov_object.proofs.SourceMaps.{written_map}
use Rattle.cov_object.proofs.source_map_text.SourceMapText.from_value.Goals as goal

pub invariant_of-result : goal.invariant_of-result
invariant_of-result c =
    let value = view c.args.value.now in
    let text = string_bytes c.in_ok-text.text in
    let object : is_some (as_object value) ≡ true = search rules in
    let whole : has_float value ≡ false = search rules in
    let reads : read text ≡ Some value = c.in_ok-text.ensures.reads_back (omega arith) in
    subst IsSourceMap (sym c.from_string.ensures)
    (written_map text value reads object whole c.requires (c.in_ok-text.ensures.text whole) c.in_ok-text.ensures.order)
