-- A name of small letters, digits and `_` that begins with a small letter is a token.
use Rattle.std.proofs.Common.{◌≡◌, ℕ, zero, suc, ◌+◌, ◌-◌, ◌<◌, Bool, true, false, not, cond, List, [], ◌∷◌, length, take, Some, refl, sym, ap, subst, ◌∙◌, arith}
use Rattle.std.specs.Prelude.{codes, ◌==◌, ◌||◌, nat_lt, encode_utf8_all}
use Rattle.std.specs.List.{list_any, list_all}
use Rattle.std.specs.Str.{IsAscii}
use Rattle.std.proofs.lemmas.Str.{IsUtf8-from_ascii, chars-IsAscii, encodes-IsAscii}
use Rattle.std.proofs.Math.Seq.{take-length}
use Rattle.std.proofs.lemmas.Bool.{true≢false, and_parts, eqb-true, ltb-true}
use Rattle.unicode_ident.proofs.Computing.{unicode_ident}
use Rattle.js_text.specs.Character.{is_gap, starts_identifier, continues_identifier}
use Rattle.js_text.specs.declared.goal.Goal.TheVariants as goal
use Rattle.js_text.specs.Token.{Word, EscapedWord}
use Rattle.js_text.specs.Identifier.{is_backslash, identifier_rest, word_of_bytes}
use Rattle.js_text.specs.Lex.{common_token, token_of}
use Rattle.js_spelling.specs.Written.{first_is}
use Rattle.js_spelling.specs.Tokens.{IsToken}

abbrev pub letters : List ℕ
letters = codes "abcdefghijklmnopqrstuvwxyz0123456789_"

abbrev pub is_letter : ℕ → Bool
is_letter c = list_any (λ x. c == x) letters

-- what passes a test holds of what stands in a list of such
pub holds_there : (test : ℕ → Bool) (xs : List ℕ) (c : ℕ) → list_all test xs ≡ true → list_any (λ x. c == x) xs ≡ true → test c ≡ true
holds_there test [] c all there = absurd (true≢false (sym there))
holds_there test (x ∷ xs) c all there =
    let both = and_parts (test x) (list_all test xs) all in
    by_first (c == x) refl there both.0 (λ h. holds_there test xs c both.1 h)
  where
    by_first : (b : Bool) → (c == x) ≡ b → (b || list_any (λ y. c == y) xs) ≡ true → test x ≡ true → (list_any (λ y. c == y) xs ≡ true → test c ≡ true) → test c ≡ true
    by_first true e h first later = ap test (eqb-true c x e) ∙ first
    by_first false e h first later = later h

letter_continues : (c : ℕ) → is_letter c ≡ true → continues_identifier c ≡ true
unfolding continues_identifier unicode_ident
letter_continues c h = holds_there continues_identifier letters c refl h

letter_no_backslash : (c : ℕ) → is_letter c ≡ true → is_backslash c ≡ false
letter_no_backslash c h = from (is_backslash c) (holds_there (λ x. not (is_backslash x)) letters c refl h)
  where
    from : (b : Bool) → not b ≡ true → b ≡ false
    from true e = absurd (true≢false (sym e))
    from false e = refl

letter_ascii : (w : List ℕ) → list_all is_letter w ≡ true → IsAscii w
letter_ascii [] h i = omega arith
letter_ascii (c ∷ cs) h zero = ltb-true c 128 (holds_there (λ x. nat_lt x 128) letters c refl (and_parts (is_letter c) (list_all is_letter cs) h).0)
letter_ascii (c ∷ cs) h (suc i) = letter_ascii cs (and_parts (is_letter c) (list_all is_letter cs) h).1 i

-- an identifier goes on to the end of such a word
letter_rest : (w : List ℕ) → list_all is_letter w ≡ true → identifier_rest zero w ≡ []
letter_rest [] h = refl
letter_rest (c ∷ cs) h =
    let both = and_parts (is_letter c) (list_all is_letter cs) h in
    rw (letter_continues c both.0) (letter_rest cs both.1)

letter_unescaped : (w : List ℕ) → list_all is_letter w ≡ true → list_any is_backslash w ≡ false
letter_unescaped [] h = refl
letter_unescaped (c ∷ cs) h =
    let both = and_parts (is_letter c) (list_all is_letter cs) h in
    ap (λ b. b || list_any is_backslash cs) (letter_no_backslash c both.0) ∙ letter_unescaped cs both.1

c_starts : starts_identifier 0x63 ≡ true
unfolding starts_identifier unicode_ident
c_starts = refl

c_no_gap : is_gap 0x63 ≡ false
unfolding is_gap
c_no_gap = refl

-- one that begins with `c`
name_alone : (cs : List ℕ) → list_all is_letter cs ≡ true → token_of goal.Div (0x63 ∷ cs) ≡ Some (Word (0x63 ∷ cs), length (0x63 ∷ cs))
unfolding common_token
name_alone cs h =
    let counted : 1 + (length cs - 0) ≡ length (0x63 ∷ cs) = omega arith in
    rw (c_starts, letter_rest cs h) (
    ap (λ n. Some (word_of_bytes (encode_utf8_all (take n (0x63 ∷ cs))), n)) counted
    ∙ ap (λ bs. Some (word_of_bytes (encode_utf8_all bs), length (0x63 ∷ cs))) (take-length (0x63 ∷ cs))
    ∙ ap (λ bs. Some (word_of_bytes bs, length (0x63 ∷ cs))) (encodes-IsAscii (0x63 ∷ cs) (letter_ascii (0x63 ∷ cs) h))
    ∙ ap (λ b. Some (cond b (EscapedWord (0x63 ∷ cs)) (Word (0x63 ∷ cs)), length (0x63 ∷ cs))) (letter_unescaped cs h))

pub name_token : (cs : List ℕ) → list_all is_letter cs ≡ true → IsToken (Word (0x63 ∷ cs))
name_token cs h =
    let w = 0x63 ∷ cs in
    let ascii = letter_ascii w h in
    let same = chars-IsAscii w ascii in record {
      written = refl;
      utf8 = IsUtf8-from_ascii w ascii;
      no_gap = ap (first_is is_gap) same ∙ c_no_gap;
      some = subst (λ ds. 0 < length ds) (sym same) (let long : 0 < length w = omega arith in long);
      alone = subst (λ ds. token_of goal.Div ds ≡ Some (Word w, length ds)) (sym same) (name_alone cs h);
    }
