-- The source map of a source, as its coverage keeps it: the value of the text is spelt, and data tell it.
use Rattle.std.proofs.Common.{◌≡◌, ℕ, ◌≤◌, List, [], ◌∷◌, Option, None, Some, IfSome, map, false, codes, refl, sym, subst, arith}
use Rattle.std.specs.Prelude.{option_map}
use Rattle.std.specs.Str.{IsUtf8, chars}
use Rattle.serde_json.specs.Data.{string, depth}
use Rattle.serde_json.specs.View.{items_of}
use Rattle.json.specs.Print.{escape_byte}
use Rattle.js_tree.specs.Plain.{StringKey}
use Rattle.js_reading.specs.Makes.{is_proto}
use Rattle.cov_object.specs.SourceMapText.{data_of}
use Rattle.cov_rewritten.specs.Laws.{IsSpelt, AreSpelt}
use Rattle.cov_rewritten.specs.Preamble.{json_string}
use Rattle.source_map.specs.declared.place.Parts.{Parts}
use Rattle.source_map.specs.Kept.{AreTexts, AreSources, HasTexts}
use Rattle.source_map.specs.Write.{source_data, map_data, map_text}
use Rattle.source_map.proofs.KeptLemmas.{told, shallow, mappings_text_utf8, keeps_maps}
use Rattle.cov_preamble.specs.Texts.{IsSpeltMap}
use Rattle.cov_expected.specs.Plain.{IsPlain, ArePlain}
use Rattle.cov_counted.specs.Accepted.{IsMapText}

-- ---- the members

abbrev Key : List ℕ → Type 0
Key k = IsUtf8 k × (is_proto (StringKey (json_string k)) ≡ false)

mappings_key : Key (codes "mappings")
unfolding chars escape_byte lib.Utf8.encode
mappings_key = ((codes "mappings", (refl, refl)), refl)

names_key : Key (codes "names")
unfolding chars escape_byte lib.Utf8.encode
names_key = ((codes "names", (refl, refl)), refl)

sources_key : Key (codes "sources")
unfolding chars escape_byte lib.Utf8.encode
sources_key = ((codes "sources", (refl, refl)), refl)

version_key : Key (codes "version")
unfolding chars escape_byte lib.Utf8.encode
version_key = ((codes "version", (refl, refl)), refl)

names_spelt : (names : List (List ℕ)) → AreTexts names → AreSpelt (items_of (map (λ text. string text) names))
names_spelt [] utf8 = tt
names_spelt (name ∷ names) utf8 = (utf8.0, names_spelt names utf8.1)

sources_spelt : (sources : List (Option (List ℕ))) → AreSources sources → AreSpelt (items_of (map source_data sources))
sources_spelt [] utf8 = tt
sources_spelt (None ∷ sources) utf8 = (tt, sources_spelt sources utf8.1)
sources_spelt (Some text ∷ sources) utf8 = (utf8.0, sources_spelt sources utf8.1)

spelt : (parts : Parts) → HasTexts parts → IsSpelt (map_data parts)
spelt parts has = (
  mappings_key.0,
  mappings_key.1,
  mappings_text_utf8 parts.segments,
  (
    names_key.0,
    names_key.1,
    names_spelt parts.names has.names,
    (sources_key.0, sources_key.1, sources_spelt parts.sources has.sources, (version_key.0, version_key.1, tt, tt)),
  ),
)

names_plain : (names : List (List ℕ)) → AreTexts names → ArePlain (items_of (map (λ text. string text) names))
names_plain [] utf8 = tt
names_plain (name ∷ names) utf8 = (utf8.0, names_plain names utf8.1)

sources_plain : (sources : List (Option (List ℕ))) → AreSources sources → ArePlain (items_of (map source_data sources))
sources_plain [] utf8 = tt
sources_plain (None ∷ sources) utf8 = (tt, sources_plain sources utf8.1)
sources_plain (Some text ∷ sources) utf8 = (utf8.0, sources_plain sources utf8.1)

plain : (parts : Parts) → HasTexts parts → IsPlain (map_data parts)
plain parts has = (
  ((refl, (refl, (refl, tt))), ((refl, (refl, tt)), ((refl, tt), (tt, tt)))),
  (
    mappings_key.0,
    mappings_text_utf8 parts.segments,
    (names_key.0, names_plain parts.names has.names, (sources_key.0, sources_plain parts.sources has.sources, (version_key.0, omega arith, tt))),
  ),
)

-- ---- the text

low : (parts : Parts) → depth (data_of (map_text parts)) ≤ 5
low parts = let s = shallow parts in subst (λ d. depth d ≤ 5) (sym (told parts)) (omega (arith, s))

map_is : (parts : Parts) → HasTexts parts → IsMapText (map_text parts)
map_is parts has =
    let kept = keeps_maps parts has in
    record { is = kept.is; utf8 = kept.utf8; plain = record { plain = subst IsPlain (sym (told parts)) (plain parts has); within = low parts } }

pub input_is : (input : Option Parts) → IfSome input HasTexts → IfSome (option_map map_text input) IsMapText
input_is None has = tt
input_is (Some parts) has = map_is parts has

pub input_spelt : (input : Option Parts) → IfSome input HasTexts → IfSome (option_map map_text input) IsSpeltMap
input_spelt None has = tt
input_spelt (Some parts) has = record { spelt = subst IsSpelt (sym (told parts)) (spelt parts has); within = low parts }
