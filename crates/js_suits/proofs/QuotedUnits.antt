-- A name in quotes has the name's units.
use Rattle.std.proofs.Common.{◌≡◌, ℕ, zero, suc, ◌-◌, Bool, true, false, List, [], ◌∷◌, ◌++◌, length, take, refl, sym, ap, ◌∙◌, arith}
use Rattle.std.specs.Prelude.{◌==◌, encode_utf8_all, flat_map}
use Rattle.std.specs.Char.Escape.{encode_utf16}
use Rattle.std.specs.List.{list_all}
use Rattle.std.specs.Str.{chars, IsAscii, IsUtf8, all_scalars}
use Rattle.std.proofs.lemmas.Bool.{true≢false, and_parts, and_from, eqb-true}
use Rattle.std.proofs.lemmas.Str.{chars-encodes, encodes-append, encodes-IsAscii}
use Rattle.js_text.specs.Character.{continues_identifier}
use Rattle.js_text.specs.Token.{Word}
use Rattle.js_text.specs.Units.{value_units, inner}
use Rattle.js_spelling.specs.Written.{letters}
use Rattle.js_spelling.proofs.Characters.{start_continues}
use Rattle.js_spelling.proofs.Neighbours.{begins, word_begins}
use Rattle.js_layout.specs.Printable.{IsName}
use Rattle.js_value.specs.Functions.{name_units}
use Rattle.cov_rewritten.specs.Counters.{quoted}
use Rattle.unicode_ident.proofs.Computing.{unicode_ident}

continues_not : (x c : ℕ) → continues_identifier x ≡ false → continues_identifier c ≡ true → (c == x) ≡ false
continues_not x c h g = by (c == x) refl
  where
    by : (b : Bool) → (c == x) ≡ b → (c == x) ≡ false
    by false e = e
    by true e = absurd (true≢false (sym g ∙ ap continues_identifier (eqb-true c x e) ∙ h))

no_cr : continues_identifier 0x0D ≡ false
unfolding continues_identifier unicode_ident
no_cr = refl

no_backslash : continues_identifier 0x5C ≡ false
unfolding continues_identifier unicode_ident
no_backslash = refl

-- a name's characters stand for themselves
plain_units : (cs : List ℕ) → list_all continues_identifier cs ≡ true → value_units zero cs ≡ flat_map encode_utf16 cs
plain_units [] h = refl
plain_units (c ∷ cs) h =
    let both = and_parts (continues_identifier c) (list_all continues_identifier cs) h in
    rw (continues_not 0x5C c no_backslash both.0, continues_not 0x0D c no_cr both.0) (ap (λ us. encode_utf16 c ++ us) (plain_units cs both.1))

quote_ascii : IsAscii (0x22 ∷ [])
quote_ascii zero = omega arith
quote_ascii (suc i) = omega arith

quote_spelt : encode_utf8_all (0x22 ∷ []) ≡ 0x22 ∷ []
quote_spelt = encodes-IsAscii (0x22 ∷ []) quote_ascii

abbrev in_quotes : List ℕ → List ℕ
in_quotes cs = 0x22 ∷ (cs ++ 0x22 ∷ [])

quotes_spelt : (cs : List ℕ) → encode_utf8_all (in_quotes cs) ≡ in_quotes (encode_utf8_all cs)
quotes_spelt cs =
    encodes-append (0x22 ∷ []) (cs ++ 0x22 ∷ [])
    ∙ ap (λ bs. bs ++ encode_utf8_all (cs ++ 0x22 ∷ [])) quote_spelt
    ∙ ap (λ bs. 0x22 ∷ bs) (encodes-append cs (0x22 ∷ []) ∙ ap (λ bs. encode_utf8_all cs ++ bs) quote_spelt)

scalars_quoted : (cs : List ℕ) → all_scalars cs ≡ true → all_scalars (cs ++ 0x22 ∷ []) ≡ true
scalars_quoted [] h = refl
scalars_quoted (c ∷ cs) h = let parts = and_parts _ _ h in and_from _ _ parts.0 (scalars_quoted cs parts.1)

take_before : (cs ds : List ℕ) → take (length cs) (cs ++ ds) ≡ cs
take_before [] ds = refl
take_before (c ∷ cs) ds = ap (λ xs. c ∷ xs) (take_before cs ds)

one_more : (cs : List ℕ) → length (cs ++ 0x22 ∷ []) ≡ suc (length cs)
one_more [] = refl
one_more (c ∷ cs) = ap (λ n. suc n) (one_more cs)

within : (cs : List ℕ) → inner 1 (in_quotes cs) ≡ cs
within cs = let e = one_more cs in let n : length (cs ++ 0x22 ∷ []) - 1 ≡ length cs = omega (arith, e) in ap (λ k. take k (cs ++ 0x22 ∷ [])) n ∙ take_before cs (0x22 ∷ [])

pub quoted_units : (w : List ℕ) → IsName w → (quoted w).units ≡ name_units w
quoted_units w h = by h.token.utf8
  where
    by : IsUtf8 w → (quoted w).units ≡ name_units w
    by (cs, (scalar, spells)) =
        let same : chars w ≡ cs = ap chars (sym spells) ∙ chars-encodes cs scalar in
        let spelt : encode_utf8_all (in_quotes cs) ≡ in_quotes w = quotes_spelt cs ∙ ap in_quotes spells in
        let scalars : all_scalars (in_quotes cs) ≡ true = scalars_quoted cs scalar in
        let read : chars (in_quotes w) ≡ in_quotes cs = ap chars (sym spelt) ∙ chars-encodes (in_quotes cs) scalars in
        ap (λ xs. value_units zero (inner 1 xs)) read ∙ ap (value_units zero) (within cs) ∙ plain_units cs (all_of cs same) ∙ ap (flat_map encode_utf16) (sym same)
      where
        all_of : (cs : List ℕ) → letters (Word w) ≡ cs → list_all continues_identifier cs ≡ true
        all_of [] same = refl
        all_of (c ∷ ds) same =
            let b = word_begins w c ds (begins (Word w) c ds h.token same refl) in
            and_from (continues_identifier c) (list_all continues_identifier ds) (start_continues c b.start) b.more
