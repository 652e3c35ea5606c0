-- A text in UTF-16, and back.
use Rattle.std.proofs.Common.{◌≡◌, ℕ, ◌+◌, ◌-◌, ◌/◌, ◌%◌, ◌<◌, ◌≤◌, List, [], ◌∷◌, ◌++◌, map, Bool, true, false, not, Some, ◌⊎◌, inl, inr, refl, ap, ◌∙◌, arith, lt-ltb, le-ltb, le-leb, nat_lt, is_some, ltb-true}
use Rattle.std.proofs.lemmas.Bool.{and_parts, lt-leb, ltb-false}
use Rattle.std.specs.List.{flat_map, list_any}
use Rattle.std.specs.Option.{unwrap_or}
use Rattle.std.specs.Str.{chars, IsUtf8}
use Rattle.std.specs.Char.Escape.{encode_utf16}
use Rattle.std.specs.Char.Utf16.{utf16_chars, lone_unit_char, surrogate_pair_char, has_unpaired_surrogate}
use Rattle.std.proofs.str.Utf16.{IsPair}
use Rattle.std.proofs.lemmas.Str.{utf16_chars-nil, utf16_chars_lone, utf16_chars_pair, encodes-chars, scalars-chars}
use lib.Utf8.{scalar, scalars, scalar_cases, encodes}
use Rattle.js_value.specs.Functions.{name_units}
use Rattle.cov_expected.specs.Told.{text_of}

pub one_unit : (c : ℕ) → c < 0x1_0000 → encode_utf16 c ≡ c ∷ []
one_unit c low = rw (lt-ltb c 0x1_0000 low) refl

two_units : (c : ℕ) → 0x1_0000 ≤ c → encode_utf16 c ≡ (0xD800 + (c - 0x1_0000) / 0x400) ∷ (0xDC00 + (c - 0x1_0000) % 0x400) ∷ []
two_units c high = rw (le-ltb c 0x1_0000 high) refl

alone : (c : ℕ) → (c < 0xD800) ⊎ (0xE000 ≤ c) → lone_unit_char c ≡ Some c
alone c (inl low) = rw (lt-leb 0xD800 c low) refl
alone c (inr high) = rw (le-leb 0xD800 c (omega arith), le-ltb c 0xE000 high) refl

-- one character before units
some_units : (c : ℕ) (rest : List ℕ) → (c < 0xD800) ⊎ ((0xE000 ≤ c) × (c < 0x11_0000)) → (c < 0x1_0000) ⊎ (0x1_0000 ≤ c) →
    utf16_chars (encode_utf16 c ++ rest) ≡ Some c ∷ utf16_chars rest
some_units c rest (inl low) (inl small) =
    ap (λ us. utf16_chars (us ++ rest)) (one_unit c small)
    ∙ utf16_chars_lone c rest (λ pair. omega (arith, pair.0))
    ∙ ap (λ o. o ∷ utf16_chars rest) (alone c (inl low))
some_units c rest (inr high) (inl small) =
    ap (λ us. utf16_chars (us ++ rest)) (one_unit c small)
    ∙ utf16_chars_lone c rest (λ pair. omega (arith, pair.1, high.0))
    ∙ ap (λ o. o ∷ utf16_chars rest) (alone c (inr high.0))
some_units c rest (inl low) (inr large) = absurd (omega arith)
some_units c rest (inr high) (inr large) =
    let u = 0xD800 + (c - 0x1_0000) / 0x400 in
    let v = 0xDC00 + (c - 0x1_0000) % 0x400 in
    let pair : IsPair u v = (omega arith, omega (arith, high.1), omega arith, omega arith) in
    let is : surrogate_pair_char u v ≡ c = omega arith in
    ap (λ us. utf16_chars (us ++ rest)) (two_units c large)
    ∙ utf16_chars_pair u v rest pair
    ∙ ap (λ x. Some x ∷ utf16_chars rest) is

small_by : (c : ℕ) (b : Bool) → nat_lt c 0x1_0000 ≡ b → (c < 0x1_0000) ⊎ (0x1_0000 ≤ c)
small_by c true is = inl (ltb-true c 0x1_0000 is)
small_by c false is = inr (ltb-false c 0x1_0000 is)

small_or : (c : ℕ) → (c < 0x1_0000) ⊎ (0x1_0000 ≤ c)
small_or c = small_by c (nat_lt c 0x1_0000) refl

units_read : (cs : List ℕ) → scalars cs ≡ true → utf16_chars (flat_map encode_utf16 cs) ≡ map (λ c. Some c) cs
units_read [] all = utf16_chars-nil
units_read (c ∷ cs) all =
    let parts = and_parts (scalar c) (scalars cs) all in
    some_units c (flat_map encode_utf16 cs) (scalar_cases c parts.0) (small_or c)
    ∙ ap (λ rest. Some c ∷ rest) (units_read cs parts.1)

none_alone : (cs : List ℕ) → list_any (λ o. not (is_some o)) (map (λ c. Some c) cs) ≡ false
none_alone [] = refl
none_alone (c ∷ cs) = none_alone cs

all_there : (cs : List ℕ) → map (λ o. unwrap_or o 0xFFFD) (map (λ c. Some c) cs) ≡ cs
all_there [] = refl
all_there (c ∷ cs) = ap (λ rest. c ∷ rest) (all_there cs)

pub paired : (s : List ℕ) → IsUtf8 s → has_unpaired_surrogate (name_units s) ≡ false
paired s utf8 = ap (λ cs. list_any (λ o. not (is_some o)) cs) (units_read (chars s) (scalars-chars s utf8)) ∙ none_alone (chars s)

pub text_back : (s : List ℕ) → IsUtf8 s → text_of (name_units s) ≡ s
text_back s utf8 =
    ap (λ cs. encodes (map (λ o. unwrap_or o 0xFFFD) cs)) (units_read (chars s) (scalars-chars s utf8))
    ∙ ap encodes (all_there (chars s))
    ∙ encodes-chars s utf8
