-- The units of literals and the names of identifiers, one character or one escape at a time.
use Rattle.std.proofs.Common.{◌≡◌, ℕ, zero, suc, ◌-◌, ◌≤◌, ◌==◌, Bool, true, false, List, [], ◌∷◌, ◌++◌, length, take, drop, slice_get, Option, Some, None, MatchOption, if◌then◌else◌, chars, encode_utf8, encode_utf8_all, IsUtf8, refl, sym, ap, ap₂, ◌∙◌, arith, append-nil, append_assoc, length-append}
use Rattle.std.proofs.Math.Seq.{take-append_seam}
use Rattle.std.proofs.lemmas.Str.{chars-nil, encodes_same, encodes-chars, encodes-append}
use Rattle.js_text.specs.Place.{Place}
use Rattle.js_text.specs.Position.{begins_with_line_feed}
use Rattle.js_text.specs.Escape.{escape}
use Rattle.js_text.specs.Identifier.{character_escape, decoded}
use Rattle.js_text.specs.Gap.{with_found}
use Rattle.js_text.specs.Lex.{characters_of}
use Rattle.js_text.specs.Units.{value_units, escape_units, ends_with_brace}
use Rattle.js_lexer.proofs.Steps.{first_is, none_is}
use Rattle.js_lexer.proofs.Onward.{left-is}

-- ---- what stands in a literal

-- the last character taken away, and a text before one
front : (cs : List ℕ) (c : ℕ) → take (length (cs ++ c ∷ []) - 1) (cs ++ c ∷ []) ≡ cs
front cs c =
    let n : length (cs ++ c ∷ []) - 1 ≡ length cs = omega (arith, length-append cs (c ∷ [])) in
    ap (λ k. take k (cs ++ c ∷ [])) n ∙ take-append_seam cs (c ∷ [])

no_length : (cs : List ℕ) → length cs ≡ 0 → cs ≡ []
no_length [] e = refl
no_length (c ∷ cs) e = absurd (omega arith)

-- a text without its last character
pub without_last : (s t : List ℕ) (r : Option ℕ) {Same : Type 0} → MatchOption r ((length s ≡ 0) × Same) (λ c. s ≡ t ++ encode_utf8 c) → (Same → t ≡ s) →
    IsUtf8 s → IsUtf8 t → chars t ≡ take (length (chars s) - 1) (chars s)
without_last s t None h same us ut =
    let gone : s ≡ [] = no_length s h.0 in
    ap chars (same h.1 ∙ gone) ∙ chars-nil ∙ sym (ap (λ xs. take (length (chars xs) - 1) (chars xs)) gone ∙ ap (λ (xs : List ℕ). take (length xs - 1) xs) chars-nil)
without_last s t (Some c) h same us ut =
    let parts : chars s ≡ chars t ++ c ∷ [] = encodes_same (chars s) (chars t ++ c ∷ []) (
    encodes-chars s us ∙ h ∙ sym (ap₂ (λ xs ys. xs ++ ys) (encodes-chars t ut) (append-nil (encode_utf8 c))) ∙ sym (encodes-append (chars t) (c ∷ []))) in
    sym (ap (λ (xs : List ℕ). take (length xs - 1) xs) parts ∙ front (chars t) c)

-- whether the characters so far and those left end with `{`
abbrev pub ended_by : Bool → List ℕ → Bool
ended_by brace [] = brace
ended_by brace (c ∷ cs) = ends_with_brace (c ∷ cs)

ended-more : (brace : Bool) (c : ℕ) (cs : List ℕ) → ended_by (c == 0x7B) cs ≡ ended_by brace (c ∷ cs)
ended-more brace c [] = refl
ended-more brace c (d ∷ cs) = refl

-- ---- units

value-past : (n : ℕ) (cs : List ℕ) → value_units n cs ≡ value_units zero (drop n cs)
value-past zero cs = refl
value-past (suc n) [] = refl
value-past (suc n) (c ∷ cs) = value-past n cs

put : (us vs new rest : List ℕ) → vs ≡ us ++ new → us ++ (new ++ rest) ≡ vs ++ rest
put us vs new rest e = sym (append_assoc us new rest) ∙ ap (λ xs. xs ++ rest) (sym e)

pub value-end : (us target cs : List ℕ) → slice_get cs 0 ≡ None → us ++ value_units zero cs ≡ target → us ≡ target
value-end us target cs h e = sym (append-nil us) ∙ sym (ap (λ xs. us ++ value_units zero xs) (none_is cs h)) ∙ e

-- an escape was moved over
pub value-escape : (us vs cs : List ℕ) (c : ℕ) → slice_get cs 0 ≡ Some c → c ≡ 0x5C → (p q : Place) (found : Option ℕ) → p.after ≡ drop 1 cs → escape p.after ≡ Some (found, q.after) →
    characters_of q ≡ characters_of p → length q.after ≤ length p.after → vs ≡ us ++ escape_units found →
    us ++ value_units zero cs ≡ vs ++ value_units zero q.after
value-escape us vs cs c h same p q found rest e text onward put_them =
    ap (λ xs. us ++ value_units zero xs) (first_is cs 0x5C (h ∙ ap (λ x. Some x) same))
    ∙ sym (ap (λ xs. us ++ with_found (escape xs) (λ found. escape_units found.0 ++ value_units (length xs - length found.1) xs) []) rest)
    ∙ ap (λ (f : Option (Option ℕ × List ℕ)). us ++ with_found f (λ found. escape_units found.0 ++ value_units (length p.after - length found.1) p.after) []) e
    ∙ ap (λ xs. us ++ (escape_units found ++ xs)) (value-past (length p.after - length q.after) p.after ∙ ap (value_units zero) (sym (left-is p q text onward)))
    ∙ put us vs (escape_units found) (value_units zero q.after) put_them

-- a CR was, with the LF after it if one stood there
pub value-return : (us vs cs : List ℕ) (c : ℕ) → slice_get cs 0 ≡ Some c → c ≡ 0x0D → (ds es : List ℕ) → ds ≡ drop 1 cs →
    es ≡ drop (if begins_with_line_feed ds then 1 else 0) ds → vs ≡ us ++ 0x0A ∷ [] →
    us ++ value_units zero cs ≡ vs ++ value_units zero es
value-return us vs cs c h same ds es rest left put_them =
    ap (λ xs. us ++ value_units zero xs) (first_is cs 0x0D (h ∙ ap (λ x. Some x) same))
    ∙ sym (ap (λ xs. us ++ (0x0A ∷ value_units (if begins_with_line_feed xs then 1 else 0) xs)) rest)
    ∙ ap (λ xs. us ++ (0x0A ∷ xs)) (value-past (if begins_with_line_feed ds then 1 else 0) ds ∙ sym (ap (value_units zero) left))
    ∙ put us vs (0x0A ∷ []) (value_units zero es) put_them

-- ---- names

decoded-past : (n : ℕ) (cs : List ℕ) → decoded n cs ≡ decoded zero (drop n cs)
decoded-past zero cs = refl
decoded-past (suc n) [] = refl
decoded-past (suc n) (c ∷ cs) = decoded-past n cs

-- the character that stands here after one, by itself or by an escape, and what follows it
abbrev pub one_more : ℕ → List ℕ → Option (ℕ × List ℕ)
one_more c cs = if c == 0x5C then character_escape cs else Some (c, cs)

abbrev decoded_by : Bool → ℕ → List ℕ → List ℕ
decoded_by b c cs = if b then with_found (character_escape cs) (λ found. found.0 ∷ decoded (length cs - length found.1) cs) [] else c ∷ decoded zero cs

found-one : (found : Option (ℕ × List ℕ)) (ch : ℕ) (p q : Place) → found ≡ Some (ch, q.after) → characters_of q ≡ characters_of p → length q.after ≤ length p.after →
    with_found found (λ found. found.0 ∷ decoded (length p.after - length found.1) p.after) [] ≡ ch ∷ decoded zero q.after
found-one found ch p q e text onward =
    ap (λ (f : Option (ℕ × List ℕ)). with_found f (λ found. found.0 ∷ decoded (length p.after - length found.1) p.after) []) e
    ∙ ap (λ xs. ch ∷ xs) (decoded-past (length p.after - length q.after) p.after ∙ ap (decoded zero) (sym (left-is p q text onward)))

one-by : (b : Bool) (c ch : ℕ) (p q : Place) → (if b then character_escape p.after else Some (c, p.after)) ≡ Some (ch, q.after) → characters_of q ≡ characters_of p → length q.after ≤ length p.after →
    decoded_by b c p.after ≡ ch ∷ decoded zero q.after
one-by true c ch p q e text onward = found-one (character_escape p.after) ch p q e text onward
one-by false c ch p q e text onward =
    let pair : (c, p.after) ≡ (ch, q.after) = cc in
    ap (λ (found : ℕ × List ℕ). found.0 ∷ decoded zero found.1) pair

decoded-first : (cs : List ℕ) (c : ℕ) → slice_get cs 0 ≡ Some c → (ds : List ℕ) → ds ≡ drop 1 cs → decoded zero cs ≡ decoded_by (c == 0x5C) c ds
decoded-first cs c h ds rest = ap (decoded zero) (first_is cs c h) ∙ ap (decoded_by (c == 0x5C) c) (sym rest)

pub decoded-step : (cs : List ℕ) (c ch : ℕ) → slice_get cs 0 ≡ Some c → (p q : Place) → p.after ≡ drop 1 cs → one_more c p.after ≡ Some (ch, q.after) →
    characters_of q ≡ characters_of p → length q.after ≤ length p.after → decoded zero cs ≡ ch ∷ decoded zero q.after
decoded-step cs c ch h p q rest e text onward = decoded-first cs c h p.after rest ∙ one-by (c == 0x5C) c ch p q e text onward

-- no character stands here: the name ends, if it is one
none-by : (b : Bool) (c : ℕ) (ds : List ℕ) → (if b then character_escape ds else Some (c, ds)) ≡ None → decoded_by b c ds ≡ []
none-by true c ds none =
    ap (λ (f : Option (ℕ × List ℕ)). with_found f (λ found. found.0 ∷ decoded (length ds - length found.1) ds) []) none
none-by false c ds none = absurd cc

pub decoded-none : (cs : List ℕ) (c : ℕ) → slice_get cs 0 ≡ Some c → (ds : List ℕ) → ds ≡ drop 1 cs → one_more c ds ≡ None → decoded zero cs ≡ []
decoded-none cs c h ds rest none = decoded-first cs c h ds rest ∙ none-by (c == 0x5C) c ds none

-- the name so far with one character more, and what is left
pub name-more : (name new target cs ds : List ℕ) (ch : ℕ) → decoded zero cs ≡ ch ∷ decoded zero ds → new ≡ name ++ encode_utf8 ch →
    name ++ encode_utf8_all (decoded zero cs) ≡ target → new ++ encode_utf8_all (decoded zero ds) ≡ target
name-more name new target cs ds ch step more e =
    ap (λ xs. xs ++ encode_utf8_all (decoded zero ds)) more
    ∙ append_assoc name (encode_utf8 ch) (encode_utf8_all (decoded zero ds))
    ∙ sym (ap (λ xs. name ++ encode_utf8_all xs) step) ∙ e

pub name-end : (name target cs : List ℕ) → decoded zero cs ≡ [] → name ++ encode_utf8_all (decoded zero cs) ≡ target → name ≡ target
name-end name target cs none e = sym (append-nil name) ∙ sym (ap (λ xs. name ++ encode_utf8_all xs) none) ∙ e
