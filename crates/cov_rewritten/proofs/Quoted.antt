-- A name in quotes is spelt as a string is.
use Rattle.std.proofs.Common.{◌≡◌, ℕ, zero, suc, ◌+◌, ◌-◌, ◌<◌, Bool, true, false, List, [], ◌∷◌, ◌++◌, length, take, Some, refl, sym, ap, subst, ◌∙◌, arith}
use Rattle.std.specs.Prelude.{◌==◌, encode_utf8_all}
use Rattle.std.specs.List.{list_all}
use Rattle.std.specs.Str.{chars, IsAscii, IsUtf8, all_scalars}
use Rattle.std.proofs.lemmas.Bool.{true≢false, and_parts, and_from, eqb-true}
use Rattle.std.proofs.lemmas.Str.{chars-encodes, encodes-append, encodes-IsAscii}
use Rattle.std.proofs.Math.Seq.{take-length}
use Rattle.unicode_ident.proofs.Computing.{unicode_ident}
use Rattle.js_text.specs.Character.{is_gap, starts_identifier, continues_identifier, is_digit}
use Rattle.js_text.specs.Lex.{common_token, token_of}
use Rattle.js_text.specs.Token.{Word, StringLiteral}
use Rattle.js_text.specs.Units.{string_rest}
use Rattle.js_text.specs.declared.goal.Goal.TheVariants as goal
use Rattle.js_spelling.specs.Written.{letters, first_is}
use Rattle.js_spelling.specs.Tokens.{IsToken}
use Rattle.js_spelling.proofs.Characters.{start_continues}
use Rattle.js_spelling.proofs.Neighbours.{begins, word_begins}
use Rattle.js_layout.specs.Printable.{IsName, IsString}
use Rattle.cov_rewritten.specs.Counters.{quoted}

-- a character of a name is none of these
continues_not : (x c : ℕ) → continues_identifier x ≡ false → continues_identifier c ≡ true → (c == x) ≡ false
continues_not x c h g = by (c == x) refl
  where
    by : (b : Bool) → (c == x) ≡ b → (c == x) ≡ false
    by false e = e
    by true e = absurd (true≢false (sym g ∙ ap continues_identifier (eqb-true c x e) ∙ h))

no_quote : continues_identifier 0x22 ≡ false
unfolding continues_identifier unicode_ident
no_quote = refl

no_lf : continues_identifier 0x0A ≡ false
unfolding continues_identifier unicode_ident
no_lf = refl

no_cr : continues_identifier 0x0D ≡ false
unfolding continues_identifier unicode_ident
no_cr = refl

no_backslash : continues_identifier 0x5C ≡ false
unfolding continues_identifier unicode_ident
no_backslash = refl

-- a string goes on through a name to its quote
string_through : (cs : List ℕ) → list_all continues_identifier cs ≡ true → string_rest 0x22 zero (cs ++ 0x22 ∷ []) ≡ Some []
string_through [] h = refl
string_through (c ∷ cs) h =
    let both = and_parts (continues_identifier c) (list_all continues_identifier cs) h in
    rw (continues_not 0x22 c no_quote both.0, continues_not 0x0A c no_lf both.0, continues_not 0x0D c no_cr both.0, continues_not 0x5C c no_backslash both.0) (string_through cs both.1)

quote_ascii : IsAscii (0x22 ∷ [])
quote_ascii zero = omega arith
quote_ascii (suc i) = omega arith

quote_spelt : encode_utf8_all (0x22 ∷ []) ≡ 0x22 ∷ []
quote_spelt = encodes-IsAscii (0x22 ∷ []) quote_ascii

abbrev pub in_quotes : List ℕ → List ℕ
in_quotes cs = 0x22 ∷ (cs ++ 0x22 ∷ [])

quotes_spelt : (cs : List ℕ) → encode_utf8_all (in_quotes cs) ≡ in_quotes (encode_utf8_all cs)
quotes_spelt cs =
    encodes-append (0x22 ∷ []) (cs ++ 0x22 ∷ [])
    ∙ ap (λ bs. bs ++ encode_utf8_all (cs ++ 0x22 ∷ [])) quote_spelt
    ∙ ap (λ bs. 0x22 ∷ bs) (encodes-append cs (0x22 ∷ []) ∙ ap (λ bs. encode_utf8_all cs ++ bs) quote_spelt)

scalars_quoted : (cs : List ℕ) → all_scalars cs ≡ true → all_scalars (cs ++ 0x22 ∷ []) ≡ true
scalars_quoted [] h = refl
scalars_quoted (c ∷ cs) h = let parts = and_parts _ _ h in and_from _ _ parts.0 (scalars_quoted cs parts.1)

alone : (cs : List ℕ) → string_rest 0x22 zero (cs ++ 0x22 ∷ []) ≡ Some [] → token_of goal.Div (in_quotes cs) ≡ Some (StringLiteral (encode_utf8_all (in_quotes cs)), length (in_quotes cs))
unfolding common_token starts_identifier is_digit unicode_ident
alone cs h =
    let counted : 1 + (length (cs ++ 0x22 ∷ []) - 0) ≡ length (in_quotes cs) = omega arith in
    rw h (
    ap (λ n. Some (StringLiteral (encode_utf8_all (take n (in_quotes cs))), n)) counted
    ∙ ap (λ bs. Some (StringLiteral (encode_utf8_all bs), length (in_quotes cs))) (take-length (in_quotes cs)))

-- a text in quotes that a string goes on through to the second of them
pub string_token : (w cs : List ℕ) → all_scalars cs ≡ true → encode_utf8_all cs ≡ w → string_rest 0x22 zero (cs ++ 0x22 ∷ []) ≡ Some [] → IsToken (StringLiteral (in_quotes w))
unfolding is_gap
string_token w cs scalar spells through =
    let spelt : encode_utf8_all (in_quotes cs) ≡ in_quotes w = quotes_spelt cs ∙ ap in_quotes spells in
    let scalars : all_scalars (in_quotes cs) ≡ true = scalars_quoted cs scalar in
    let same : chars (in_quotes w) ≡ in_quotes cs = ap chars (sym spelt) ∙ chars-encodes (in_quotes cs) scalars in record {
      written = refl;
      utf8 = (in_quotes cs, (scalars, spelt));
      no_gap = ap (first_is is_gap) same;
      some = subst (λ xs. 0 < length xs) (sym same) (let long : 0 < length (in_quotes cs) = omega arith in long);
      alone = subst (λ xs. token_of goal.Div xs ≡ Some (StringLiteral (in_quotes w), length xs)) (sym same)
          (alone cs through ∙ ap (λ v. Some (StringLiteral v, length (in_quotes cs))) spelt);
    }

pub quoted_string : (w : List ℕ) → IsName w → IsString (quoted w)
quoted_string w h = by h.token.utf8
  where
    by : IsUtf8 w → IsString (quoted w)
    by (cs, (scalar, spells)) =
        let same : letters (Word w) ≡ cs = ap chars (sym spells) ∙ chars-encodes cs scalar in
        record { token = string_token w cs scalar spells (string_through cs (all_of cs same)); units = refl }
      where
        all_of : (cs : List ℕ) → letters (Word w) ≡ cs → list_all continues_identifier cs ≡ true
        all_of [] same = refl
        all_of (c ∷ ds) same =
            let b = word_begins w c ds (begins (Word w) c ds h.token same refl) in
            and_from (continues_identifier c) (list_all continues_identifier ds) (start_continues c b.start) b.more
