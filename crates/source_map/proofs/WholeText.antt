-- The text of a map is JSON without floats, and nests little.
use Rattle.std.proofs.Common.{◌≡◌, ℕ, ◌≤◌, max, false, ◌||◌, cond, List, [], ◌∷◌, map, length, Option, Some, None, Result, Ok, Err, IfOk, refl, sym, ap, ◌∙◌, subst, arith}
use Rattle.std.specs.Str.{IsUtf8}
use Rattle.std.proofs.lemmas.Str.{is_utf8-from_IsUtf8}
use Rattle.std.proofs.lemmas.Bool.{le-leb}
use Rattle.serde_json.specs.Data.{Data, string, items_depth, depth}
use Rattle.serde_json.specs.View.{items_of}
use Rattle.serde_json.specs.Read.{read, max_depth}
use Rattle.serde_json.specs.Written.{compact_text, has_float, items_have_float}
use Rattle.cov_object.specs.JsonText.{json_of}
use Rattle.source_map.specs.declared.place.Parts.{Parts}
use Rattle.source_map.specs.Read.{source_map_of}
use Rattle.source_map.specs.Write.{source_data, map_data, map_text}
use Rattle.source_map.specs.Laws.{IsMap, IsReadBack}
use Rattle.source_map.proofs.ReaderLemmas.{short_map}

text_json : (bytes : List ℕ) → IsUtf8 bytes → json_of bytes ≡ read bytes
text_json bytes text = ap (λ b. cond b (read bytes) None) (is_utf8-from_IsUtf8 bytes text)

no-float-names : (texts : List (List ℕ)) → items_have_float (items_of (map (λ text. string text) texts)) ≡ false
no-float-names [] = refl
no-float-names (text ∷ texts) = no-float-names texts

no-float-sources : (sources : List (Option (List ℕ))) → items_have_float (items_of (map source_data sources)) ≡ false
no-float-sources [] = refl
no-float-sources (None ∷ sources) = no-float-sources sources
no-float-sources (Some text ∷ sources) = no-float-sources sources

pub no_float : (parts : Parts) → has_float (map_data parts) ≡ false
no_float parts = ap (λ b. false || (b || (items_have_float (items_of (map source_data parts.sources)) || (false || false)))) (no-float-names parts.names) ∙ ap (λ b. false || (false || (b || (false || false)))) (no-float-sources parts.sources)

pub flat-names : (texts : List (List ℕ)) → items_depth (items_of (map (λ text. string text) texts)) ≡ 0
flat-names [] = refl
flat-names (text ∷ texts) = ap (λ n. max 0 n) (flat-names texts)

pub flat-sources : (sources : List (Option (List ℕ))) → items_depth (items_of (map source_data sources)) ≡ 0
flat-sources [] = refl
flat-sources (None ∷ sources) = ap (λ n. max 0 n) (flat-sources sources)
flat-sources (Some text ∷ sources) = ap (λ n. max 0 n) (flat-sources sources)

pub shallow : (parts : Parts) → depth (map_data parts) ≤ max_depth
shallow parts =
    let n = flat-names parts.names in
    let s = flat-sources parts.sources in
    omega (arith, n, s)

pub read_again : (parts : Parts) (text : List ℕ) (most : ℕ) → IsReadBack → IsMap parts → read text ≡ Some (map_data parts) → IsUtf8 text → length text ≤ most → source_map_of most text ≡ Ok parts
read_again parts text most back is reads utf8 few =
    short_map most text (Some (map_data parts)) (le-leb (length text) most few) (text_json text utf8 ∙ reads) ∙ back parts is

plain : (parts : Parts) (value : Data) → value ≡ map_data parts → has_float value ≡ false
plain parts value is = ap has_float is ∙ no_float parts

low : (parts : Parts) (value : Data) → value ≡ map_data parts → depth value ≤ max_depth
low parts value is = subst (λ d. depth d ≤ max_depth) (sym is) (shallow parts)

pub text_is : {V E : Type 0} (items : V → List ℕ) (parts : Parts) (value : Data) → value ≡ map_data parts → (r : Result V E) → IfOk r (λ b. has_float value ≡ false → items b ≡ compact_text value) → IfOk r (λ b. items b ≡ map_text parts)
text_is items parts value is (Ok b) h = h (plain parts value is) ∙ ap compact_text is
text_is items parts value is (Err e) h = tt

pub back_is : {V E : Type 0} (items : V → List ℕ) (parts : Parts) (value : Data) → value ≡ map_data parts → (r : Result V E) (most : ℕ) → IsReadBack →
    IfOk r (λ b. depth value ≤ max_depth → read (items b) ≡ Some value) → IfOk r (λ b. IsUtf8 (items b)) →
    IfOk r (λ b. IsMap parts → length (items b) ≤ most → source_map_of most (items b) ≡ Ok parts)
back_is items parts value is (Ok b) most back h utf8 = λ fits few. read_again parts (items b) most back fits (h (low parts value is) ∙ ap (λ d. Some d) is) utf8 few
back_is items parts value is (Err e) most back h utf8 = tt

pub with_map : {V E : Type 0} (items : V → List ℕ) (parts map : Parts) → IsMap parts → parts ≡ map → (r : Result V E) (most : ℕ) →
    IfOk r (λ b. IsMap parts → length (items b) ≤ most → source_map_of most (items b) ≡ Ok parts) → IfOk r (λ b. length (items b) ≤ most → source_map_of most (items b) ≡ Ok map)
with_map items parts map fits is (Ok b) most h = λ few. h fits few ∙ ap (λ m. Ok m) is
with_map items parts map fits is (Err e) most h = tt
