-- The text of a map is JSON of UTF-8.
use Rattle.std.proofs.Common.{◌≡◌, List, ℕ, Option, Some, None, sym, ap, ◌∙◌, subst, rules}
use Rattle.std.specs.Prelude.{IfOk, option_map}
use Rattle.std.specs.Str.{IsUtf8}
use Rattle.serde_json.specs.View.{view}
use Rattle.serde_json.specs.declared.value.Value.{Value}
use Rattle.js_tree.specs.Tree.{plain_expr}
use Rattle.cov_object.specs.JsonText.{json_of}
use Rattle.cov_object.specs.SourceMapText.{value_or_null, data_of}
use Rattle.cov_object.proofs.ReadFiles.{json_of-text}
use Rattle.cov_rewritten.specs.Preamble.{literal}
use Rattle.cov_preamble.proofs.values.source_map.Goals as goal

told_of : (text : List ℕ) (found want : Option Value) → IsUtf8 text → option_map view found ≡ json_of text → found ≡ want →
    value_or_null (option_map view want) ≡ data_of text
told_of text found want utf8 read is =
    ap value_or_null (sym (ap (option_map view) is) ∙ read ∙ sym (json_of-text text utf8))

pub returns-in-Some : goal.returns-in-Some
returns-in-Some c =
    let bytes : c.as_bytes.result.now ≡ c.args.map.now = search rules in
    let utf8 = subst IsUtf8 c.as_str.ensures.value c.as_str.utf8 in
    let told = told_of c.args.map.now _ (Some c.in-Some.told) utf8 (c.in_ok-told.ensures ∙ ap json_of bytes) c.in-Some.is in
    subst (λ d. IfOk c.value.result (λ e. plain_expr e ≡ literal d)) told c.value.ensures

pub returns-in-None : goal.returns-in-None
returns-in-None c =
    let bytes : c.as_bytes.result.now ≡ c.args.map.now = search rules in
    let utf8 = subst IsUtf8 c.as_str.ensures.value c.as_str.utf8 in
    let told = told_of c.args.map.now _ None utf8 (c.in_ok-told.ensures ∙ ap json_of bytes) c.in-None.is in
    c.null.ensures ∙ ap literal told
