-- Texts that are source maps.
use Rattle.std.proofs.Common.{◌≡◌, ◌≤◌, ℕ, List, true, false, Some, is_some, sym, ap, ◌∙◌, subst}
use Rattle.json.specs.Tree.{json_tokens}
use Rattle.serde_json.specs.Data.{Data, depth}
use Rattle.serde_json.specs.Find.{as_object}
use Rattle.serde_json.specs.Read.{read}
use Rattle.serde_json.specs.Written.{compact_text, has_float, outline, IsInOrder}
use Rattle.serde_json.proofs.Texts.{tokens_from_order}
use Rattle.cov_object.specs.SourceMapText.{value_or_null, data_of, most_depth, IsSourceMap}

-- what was written of an object is one
pub written_map : (text : List ℕ) (value : Data) → read text ≡ Some value → is_some (as_object value) ≡ true → has_float value ≡ false → depth value ≤ most_depth →
    text ≡ compact_text value → IsInOrder text value → IsSourceMap text
written_map text value reads object whole shallow compact order =
    let same : data_of text ≡ value = ap value_or_null reads in
    record {
      compact = ap compact_text same ∙ sym compact;
      object = ap (λ d. is_some (as_object d)) same ∙ object;
      whole = ap has_float same ∙ whole;
      shallow = subst (λ d. depth d ≤ most_depth) (sym same) shallow;
      plain = tokens_from_order text value order whole ∙ ap (λ d. json_tokens (outline d)) (sym same);
    }
