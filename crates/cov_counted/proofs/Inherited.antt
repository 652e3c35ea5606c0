-- No property of the object that all inherit from ends with `.js`, nor is one `__coverage__`.
use Rattle.std.proofs.Common.{◌≡◌, ℕ, ◌<◌, Bool, true, false, cond, if◌then◌else◌, nat_lt, nat_eq, List, [], ◌∷◌, ◌++◌, length, map, flat_map, Some, None, codes, refl, sym, ap, ◌∙◌, subst, arith}
use Rattle.std.specs.Prelude.{bytes_eq}
use Rattle.std.specs.Char.Escape.{encode_utf16}
use Rattle.std.specs.List.{list_all, ends_with}
use Rattle.std.specs.Str.{IsUtf8, IsAscii, chars}
use Rattle.std.proofs.lemmas.Bool.{and_parts, ltb-true}
use Rattle.std.proofs.lemmas.Str.{chars-IsAscii, IsUtf8-from_ascii}
use Rattle.js_value.specs.Functions.{name_units}
use Rattle.js_value.specs.Objects.{object_at, is_array, property_of, own_of_array}
use Rattle.js_value.specs.Realm as realm
use Rattle.js_value.specs.Realm.{opening}
use Rattle.js_value.specs.State.{Property}
use Rattle.js_lockstep.specs.Worlds.{root}
use Rattle.js_counter.specs.First.{Bare}
use Rattle.js_counted.specs.Holds.{coverage_text}
use Rattle.cov_expected.specs.Told.{text_of}
use Rattle.cov_expected.proofs.Ordered.{unequal}
use Rattle.cov_expected.proofs.Texts.{one_unit, text_back}
use Rattle.cov_counted.proofs.Hexadecimal.{each_ascii}

abbrev is_ascii : List ℕ → Bool
is_ascii key = list_all (λ b. nat_lt b 128) key

abbrev ends_so : List ℕ → Bool
ends_so key = ends_with nat_eq key (codes ".js")

-- a key of ASCII that is told by the units of a text is the text
ascii_units : (key : List ℕ) → is_ascii key ≡ true → flat_map encode_utf16 key ≡ key
ascii_units [] ascii = refl
ascii_units (c ∷ key) ascii =
    let a = and_parts (nat_lt c 128) (is_ascii key) ascii in
    let small = ltb-true c 128 a.0 in
    ap (λ us. us ++ flat_map encode_utf16 key) (one_unit c (omega (arith, small))) ∙ ap (λ us. c ∷ us) (ascii_units key a.1)

same_text : (key path : List ℕ) → is_ascii key ≡ true → IsUtf8 path → key ≡ name_units path → key ≡ path
same_text key path ascii utf8 same =
    let each : IsAscii key = each_ascii key ascii in
    sym (text_back key (IsUtf8-from_ascii key each))
    ∙ ap text_of (ap (flat_map encode_utf16) (chars-IsAscii key each) ∙ ascii_units key ascii ∙ same)
    ∙ text_back path utf8

-- of properties with other keys none has it
abbrev AreOther : List (List ℕ) → List ℕ → Type 0
AreOther [] key = Unit {0}
AreOther (k ∷ ks) key = (bytes_eq k key ≡ false) × AreOther ks key

none_of : (ps : List Property) (key : List ℕ) → AreOther (map (λ p. p.key) ps) key → property_of ps key ≡ None
none_of [] key other = refl
none_of (p ∷ ps) key other = ap (λ b. cond b (Some p) (property_of ps key)) other.0 ∙ none_of ps key other.1

-- a key of ASCII that doesn't end so is none that does
other_end : (key path : List ℕ) → is_ascii key ≡ true → ends_so key ≡ false → IsUtf8 path → ends_so path ≡ true → bytes_eq key (name_units path) ≡ false
other_end key path ascii other utf8 ends = unequal key (name_units path) (λ same. never (sym other ∙ ap ends_so (same_text key path ascii utf8 same) ∙ ends))
  where
    never : false ≡ true → ⊥
    never e = cc

-- ---- the object that all inherit from

abbrev root_names : List (List ℕ)
root_names = codes "hasOwnProperty" ∷ codes "constructor" ∷ []

root_keys : map (λ p. p.key) (object_at opening root).properties ≡ root_names
unfolding realm.opening realm.each realm.freeze_all realm.rows realm.named_errors realm.named_objects
root_keys = refl

root_plain : is_array (object_at opening root).kind ≡ false
unfolding realm.opening realm.each realm.freeze_all realm.rows realm.named_errors realm.named_objects
root_plain = refl

root_there : root < length opening.objects
unfolding realm.opening realm.each realm.freeze_all realm.rows realm.named_errors realm.named_objects
root_there = omega arith

root_alone : (object_at opening root).prototype ≡ None
unfolding realm.opening realm.each realm.freeze_all realm.rows realm.named_errors realm.named_objects
root_alone = refl

bare : (key : List ℕ) → AreOther root_names key → Bare opening (Some root) key
bare key other = (
  root_there,
  ap (λ b. if b then own_of_array (object_at opening root) key else property_of (object_at opening root).properties key) root_plain
      ∙ none_of (object_at opening root).properties key (subst (λ ks. AreOther ks key) (sym root_keys) other),
  root_alone,
)

coverage_units : coverage_text.units ≡ codes "__coverage__"
unfolding chars
coverage_units = refl

pub none_ends_so : (path : List ℕ) → IsUtf8 path → ends_so path ≡ true → Bare opening (Some root) (name_units path)
none_ends_so path utf8 ends = bare (name_units path) (other_end (codes "hasOwnProperty") path refl refl utf8 ends, (other_end (codes "constructor") path refl refl utf8 ends, tt))

pub no_coverage : Bare opening (Some root) coverage_text.units
no_coverage = subst (Bare opening (Some root)) (sym coverage_units) (bare (codes "__coverage__") (refl, (refl, tt)))
