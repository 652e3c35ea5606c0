-- A map's value is an object without floats, and doesn't nest deep.
use Rattle.std.proofs.Common.{◌≡◌, ◌≤◌, ◌∙◌, None, ap, subst, sym}
use Rattle.serde_json.specs.Data.{depth}
use Rattle.cov_object.specs.Read.{source_map_text_of}
use Rattle.cov_object.specs.SourceMapText.{most_depth}
use Rattle.source_map.specs.Write.{map_data}
use Rattle.source_map.proofs.KeptLemmas.{text_kept, within}
use Rattle.source_map.proofs.kept.kept_parts.Goals as goal

pub from_value-requires : goal.from_value-requires
from_value-requires c = subst (λ d. depth d ≤ most_depth) (sym c.in_ok-value.ensures) (within c.args.parts.now)

pub unreachable-requires : goal.unreachable-requires
unreachable-requires c =
    let none : source_map_text_of (map_data c.args.parts.now) ≡ None = ap source_map_text_of (sym c.in_ok-value.ensures) ∙ sym c.in_ok-text.ensures ∙ c.in-None.is in
    let both = sym (text_kept c.args.parts.now) ∙ none in cc
