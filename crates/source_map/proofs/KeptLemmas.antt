-- The text of a map is read as its data, and is UTF-8 where its texts are.
use Rattle.std.proofs.Common.{◌≡◌, ℕ, zero, suc, ◌+◌, ◌-◌, ◌≤◌, ◌==◌, nat_lt, ◌&&◌, max, Bool, true, false, cond, List, [], ◌∷◌, ◌++◌, map, replicate, Option, Some, None, option_map, option_and_then, codes, decimal, refl, sym, ap, ◌∙◌, subst, arith, append-nil}
use Rattle.std.specs.Prelude.{is_some, not, if◌then◌else◌}
use Rattle.std.specs.Str.{IsUtf8}
use Rattle.std.proofs.lemmas.Bool.{lt-ltb}
use Rattle.std.proofs.lemmas.Str.{IsUtf8-append}
use Rattle.json.specs.Json as json
use Rattle.json.specs.Lex.{tokens}
use Rattle.json.specs.Print.{escape_byte, quoted}
use Rattle.json.specs.Tree.{json_tokens, HasNumbers, ItemsHaveNumbers}
use Rattle.json.specs.Tree as tree
use Rattle.json.specs.Token.{Token}
use Rattle.json.proofs.Printed.Decimals.{IsNumber-decimal}
use Rattle.json.proofs.Printed.Tokens.{tokens-print}
use Rattle.json.proofs.Printed.Trees.{ArePrintable-json_tokens, value-json_tokens}
use Rattle.json.proofs.Printed.Utf8.{are_ascii, IsUtf8-are_ascii, IsUtf8-quoted}
use Rattle.serde_json.specs.Data.{Data, null, number, string, array, object, Items, item, no_members, member, put, depth}
use Rattle.serde_json.specs.View.{items_of}
use Rattle.serde_json.specs.Find.{as_object}
use Rattle.serde_json.specs.Read.{max_depth, read, of_json, of_items, of_members}
use Rattle.serde_json.specs.Written.{compact_text, items_text, comma_if, has_float, outline, items_outline}
use Rattle.serde_json.proofs.Numbers.{number_of-decimal}
use Rattle.serde_json.proofs.Texts.{print-outline}
use Rattle.cov_object.specs.Read.{source_map_text_of}
use Rattle.cov_object.specs.SourceMapText.{value_or_null, data_of, most_depth, IsSourceMap}
use Rattle.source_map.specs.declared.place.Origin.{Origin}
use Rattle.source_map.specs.declared.place.Segment.{Segment}
use Rattle.source_map.specs.declared.place.Parts.{Parts}
use Rattle.source_map.specs.declared.state.State.{State}
use Rattle.source_map.specs.Mappings.{start}
use Rattle.source_map.specs.Vlq.{byte_of, digits_from, signed}
use Rattle.source_map.specs.Write as write
use Rattle.source_map.specs.Write.{source_data, map_data, map_text}
use Rattle.source_map.specs.Kept.{AreTexts, AreSources, HasTexts, KeepsMaps}
use Rattle.source_map.proofs.WholeText.{no_float, flat-names, flat-sources}

-- ---- the members, as an object of these texts

abbrev name_items : List (List ℕ) → Items
name_items names = items_of (map (λ text. string text) names)

abbrev source_items : List (Option (List ℕ)) → Items
source_items sources = items_of (map source_data sources)

names_numbers : (names : List (List ℕ)) → ItemsHaveNumbers (items_outline (name_items names))
names_numbers [] = tt
names_numbers (name ∷ names) = (tt, names_numbers names)

sources_numbers : (sources : List (Option (List ℕ))) → ItemsHaveNumbers (items_outline (source_items sources))
sources_numbers [] = tt
sources_numbers (None ∷ sources) = (tt, sources_numbers sources)
sources_numbers (Some text ∷ sources) = (tt, sources_numbers sources)

names_flat : (names : List (List ℕ)) → tree.items_depth (items_outline (name_items names)) ≡ 0
names_flat [] = refl
names_flat (name ∷ names) = ap (λ n. max 0 n) (names_flat names)

sources_flat : (sources : List (Option (List ℕ))) → tree.items_depth (items_outline (source_items sources)) ≡ 0
sources_flat [] = refl
sources_flat (None ∷ sources) = ap (λ n. max 0 n) (sources_flat sources)
sources_flat (Some text ∷ sources) = ap (λ n. max 0 n) (sources_flat sources)

names_read : (names : List (List ℕ)) → of_items (items_outline (name_items names)) ≡ Some (name_items names)
names_read [] = refl
names_read (name ∷ names) = ap (option_map (item (string name))) (names_read names)

sources_read : (sources : List (Option (List ℕ))) → of_items (items_outline (source_items sources)) ≡ Some (source_items sources)
sources_read [] = refl
sources_read (None ∷ sources) = ap (option_map (item null)) (sources_read sources)
sources_read (Some text ∷ sources) = ap (option_map (item (string text))) (sources_read sources)

abbrev version_json : json.Members
version_json = json.member (codes "version") (json.number (decimal 3)) json.no_members

map_read : (parts : Parts) → of_json (outline (map_data parts)) ≡ Some (map_data parts)
map_read parts =
    let mappings = string (write.mappings_text parts.segments) in
    let names = name_items parts.names in
    let sources = source_items parts.sources in
    ap (λ o. option_map object (option_and_then (λ d. of_members (json.member (codes "sources") (json.array (items_outline sources)) version_json) (put (codes "names") d (member (codes "mappings") mappings no_members))) (option_map array o))) (names_read parts.names)
    ∙ ap (λ o. option_map object (option_and_then (λ d. of_members version_json (put (codes "sources") d (member (codes "mappings") mappings (member (codes "names") (array names) no_members)))) (option_map array o))) (sources_read parts.sources)
    ∙ ap (λ o. option_map object (option_and_then (λ d. Some (put (codes "version") d (member (codes "mappings") mappings (member (codes "names") (array names) (member (codes "sources") (array sources) no_members))))) (option_map number o))) (number_of-decimal 3 (omega arith))

numbers : (parts : Parts) → HasNumbers (outline (map_data parts))
numbers parts = (tt, (names_numbers parts.names, (sources_numbers parts.sources, (IsNumber-decimal 3 (omega arith), tt))))

low : (parts : Parts) → tree.depth (outline (map_data parts)) ≤ max_depth
low parts =
    let n = names_flat parts.names in
    let s = sources_flat parts.sources in
    omega (arith, n, s)

tokens_are : (parts : Parts) → tokens (map_text parts) ≡ json_tokens (outline (map_data parts))
tokens_are parts =
    ap tokens (sym (print-outline (map_data parts))) ∙ tokens-print (json_tokens (outline (map_data parts))) (ArePrintable-json_tokens (outline (map_data parts)) (numbers parts))

abbrev whole : Option (json.Json × List Token) → Option Data
whole o = option_and_then of_json (option_and_then (λ p. json.if_last p.0 p.1) o)

reads : (parts : Parts) → read (map_text parts) ≡ Some (map_data parts)
reads parts = ap whole (ap (json.value max_depth) (tokens_are parts ∙ sym (append-nil (json_tokens (outline (map_data parts))))) ∙ value-json_tokens (outline (map_data parts)) max_depth [] (low parts)) ∙ map_read parts

pub told : (parts : Parts) → data_of (map_text parts) ≡ map_data parts
told parts = ap value_or_null (reads parts)

pub shallow : (parts : Parts) → depth (map_data parts) ≤ 2
shallow parts =
    let n = flat-names parts.names in
    let s = flat-sources parts.sources in
    omega (arith, n, s)

pub within : (parts : Parts) → depth (map_data parts) ≤ most_depth
within parts = let s = shallow parts in omega (arith, s)

pub is_kept : (parts : Parts) → IsSourceMap (map_text parts)
is_kept parts = record {
  compact = ap compact_text (told parts);
  object = ap (λ d. is_some (as_object d)) (told parts);
  whole = ap has_float (told parts) ∙ no_float parts;
  shallow = subst (λ d. depth d ≤ most_depth) (sym (told parts)) (within parts);
  plain = tokens_are parts ∙ ap (λ d. json_tokens (outline d)) (sym (told parts));
}

-- its text is kept
pub text_kept : (parts : Parts) → source_map_text_of (map_data parts) ≡ Some (map_text parts)
text_kept parts = ap (λ b. if not b then Some (map_text parts) else None) (no_float parts)

-- ---- mappings are ASCII

byte_low : (digit : ℕ) → nat_lt (byte_of digit) 128 ≡ true
byte_low digit = lt-ltb (byte_of digit) 128 (grind arith)

digits_ascii : (digits : List ℕ) → are_ascii (map byte_of digits) ≡ true
digits_ascii [] = refl
digits_ascii (digit ∷ digits) = ap (λ b. b && are_ascii (map byte_of digits)) (byte_low digit) ∙ digits_ascii digits

digits_utf8 : (digits : List ℕ) → IsUtf8 (map byte_of digits)
digits_utf8 digits = IsUtf8-are_ascii (map byte_of digits) (digits_ascii digits)

value_utf8 : (last value : ℕ) → IsUtf8 (write.value_text last value)
value_utf8 last value = digits_utf8 (digits_from 6 (signed last value))

name_utf8 : (from : State) (name : Option ℕ) → IsUtf8 (write.name_text from name)
name_utf8 from None = IsUtf8-are_ascii [] refl
name_utf8 from (Some name) = value_utf8 from.name name

origin_utf8 : (from : State) (origin : Option Origin) → IsUtf8 (write.origin_text from origin)
origin_utf8 from None = IsUtf8-are_ascii [] refl
origin_utf8 from (Some origin) =
    IsUtf8-append _ _ (value_utf8 from.source origin.source)
    (IsUtf8-append _ _ (value_utf8 from.source_line (origin.line - 1))
    (IsUtf8-append _ _ (value_utf8 from.source_column origin.column) (name_utf8 from origin.name)))

segment_utf8 : (from : State) (segment : Segment) → IsUtf8 (write.segment_text from segment)
segment_utf8 from segment = IsUtf8-append _ _ (value_utf8 from.column segment.column) (origin_utf8 from segment.origin)

ends_ascii : (count : ℕ) → are_ascii (replicate count 59) ≡ true
ends_ascii zero = refl
ends_ascii (suc count) = ends_ascii count

comma_utf8 : (later : Bool) → IsUtf8 (write.comma_if later)
comma_utf8 true = IsUtf8-are_ascii (44 ∷ []) refl
comma_utf8 false = IsUtf8-are_ascii [] refl

next_utf8 : (same later : Bool) (from : State) (segment : Segment) →
    IsUtf8 (cond same (write.comma_if later ++ write.segment_text from segment) (replicate (segment.line - from.line) 59 ++ write.segment_text (record from { column = 0 }) segment))
next_utf8 true later from segment = IsUtf8-append _ _ (comma_utf8 later) (segment_utf8 from segment)
next_utf8 false later from segment =
    IsUtf8-append _ _ (IsUtf8-are_ascii (replicate (segment.line - from.line) 59) (ends_ascii (segment.line - from.line))) (segment_utf8 (record from { column = 0 }) segment)

mappings_utf8 : (from : State) (later : Bool) (segments : List Segment) → IsUtf8 (write.mappings_from from later segments)
mappings_utf8 from later [] = IsUtf8-are_ascii [] refl
mappings_utf8 from later (segment ∷ segments) =
    IsUtf8-append _ _ (next_utf8 (segment.line == from.line) later from segment) (mappings_utf8 (write.after_origin from segment segment.origin) true segments)

pub mappings_text_utf8 : (segments : List Segment) → IsUtf8 (write.mappings_text segments)
mappings_text_utf8 segments = mappings_utf8 start false segments

-- ---- the whole

comma : (later : Bool) → IsUtf8 (comma_if later)
comma true = IsUtf8-are_ascii (44 ∷ []) refl
comma false = IsUtf8-are_ascii [] refl

names_utf8 : (later : Bool) (names : List (List ℕ)) → AreTexts names → IsUtf8 (items_text later (name_items names))
names_utf8 later [] utf8 = IsUtf8-are_ascii (93 ∷ []) refl
names_utf8 later (name ∷ names) utf8 =
    IsUtf8-append _ _ (comma later) (IsUtf8-append _ _ (IsUtf8-quoted name utf8.0) (names_utf8 true names utf8.1))

sources_utf8 : (later : Bool) (sources : List (Option (List ℕ))) → AreSources sources → IsUtf8 (items_text later (source_items sources))
sources_utf8 later [] utf8 = IsUtf8-are_ascii (93 ∷ []) refl
sources_utf8 later (None ∷ sources) utf8 =
    IsUtf8-append _ _ (comma later) (IsUtf8-append _ _ (IsUtf8-are_ascii (codes "null") refl) (sources_utf8 true sources utf8.1))
sources_utf8 later (Some text ∷ sources) utf8 =
    IsUtf8-append _ _ (comma later) (IsUtf8-append _ _ (IsUtf8-quoted text utf8.0) (sources_utf8 true sources utf8.1))

three_utf8 : IsUtf8 (decimal 3 ++ 125 ∷ [])
unfolding Rattle.std.specs.Fmt.digits
three_utf8 = IsUtf8-are_ascii (51 ∷ 125 ∷ []) refl

text_utf8 : (parts : Parts) → HasTexts parts → IsUtf8 (map_text parts)
unfolding escape_byte
text_utf8 parts has =
    IsUtf8-append (codes "{\"mappings\":") _ (IsUtf8-are_ascii (codes "{\"mappings\":") refl)
    (IsUtf8-append (quoted (write.mappings_text parts.segments)) _ (IsUtf8-quoted (write.mappings_text parts.segments) (mappings_text_utf8 parts.segments))
    (IsUtf8-append (codes ",\"names\":[") _ (IsUtf8-are_ascii (codes ",\"names\":[") refl)
    (IsUtf8-append (items_text false (name_items parts.names)) _ (names_utf8 false parts.names has.names)
    (IsUtf8-append (codes ",\"sources\":[") _ (IsUtf8-are_ascii (codes ",\"sources\":[") refl)
    (IsUtf8-append (items_text false (source_items parts.sources)) _ (sources_utf8 false parts.sources has.sources)
    (IsUtf8-append (codes ",\"version\":") (decimal 3 ++ 125 ∷ []) (IsUtf8-are_ascii (codes ",\"version\":") refl) three_utf8))))))

pub keeps_maps : KeepsMaps
keeps_maps parts has = record { is = is_kept parts; utf8 = text_utf8 parts has; told = told parts }
