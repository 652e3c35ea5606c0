-- The tokens of a text are parts of it, one behind the other: their spellings are no longer than the text.
use Rattle.std.proofs.Common.{◌≡◌, ℕ, zero, ◌+◌, ◌-◌, ◌≤◌, cond, Bool, true, false, List, [], ◌∷◌, ◌++◌, length, take, drop, suc, Option, Some, None, encode_utf8_all, refl, sym, ap, subst, ◌∙◌, ◌==◌, ◌||◌, arith}
use Rattle.std.specs.List.{list_any}
use Rattle.std.specs.Option.{option_map}
use Rattle.std.specs.Str.{chars, all_scalars, IsUtf8}
use Rattle.std.proofs.Math.Seq.{drop-append_seam}
use Rattle.std.proofs.lemmas.List.{take-append-drop}
use Rattle.std.proofs.lemmas.Str.{chars-encodes, encodes-chars, scalars-chars, len_utf8_bounds}
use Rattle.js_text.specs.Place.{Place}
use Rattle.js_text.specs.Character.{starts_identifier}
use Rattle.js_text.specs.declared.goal.Goal.{Goal}
use Rattle.js_text.specs.declared.goal.Goal.TheVariants as goal
use Rattle.js_text.specs.Punctuator.{longest_punctuator}
use Rattle.js_text.specs.Identifier.{is_backslash, after_first, word_of_bytes, decoded}
use Rattle.js_text.specs.Number.{number_rest}
use Rattle.js_text.specs.Units.{string_rest, template_rest}
use Rattle.js_text.specs.Token.{Kind, Word, EscapedWord, StringLiteral, RegularExpression, End, Token, spelling}
use Rattle.js_text.specs.Token as T
use Rattle.js_text.specs.Lex.{token_to, number_kind, template_kind, begins_number, is_quote, begins_comment, common_token, continued_token, token_of, moved, gap_run, token_place, token_after, next_token}
use Rattle.js_text.proofs.Place.{length-encodes-cons, length-encodes-append}
use Rattle.js_reading.specs.Productions.{name_of}
use Rattle.js_reading.specs.Reads.{goal_of, after_gap_of, continued, next_for, Lexes, one_more, start_of}
use Rattle.js_spelling.specs.Tokens.{is_written}
use Rattle.js_spelling.proofs.Lists.{only, never, scalars_left, scalars_drop}
use Rattle.js_spelling.proofs.Alone.{Found, found, Cut, choice, choice_is, cut_div, cut_regular, cut_continued, not_to, not_by, not_mark}
use Rattle.js_spelling.proofs.Neighbours.{slash_kind}
use Rattle.js_layout.proofs.ShortPieces.{bulk}
use Rattle.js_layout.proofs.ShortTokens.{Ample, AreAmple}
use Rattle.js_layout.proofs.ShortNames.{bytes_of, decoded_short}

-- ---- what is left of characters

bytes_split : (n : ℕ) (cs : List ℕ) → bytes_of (take n cs) + bytes_of (drop n cs) ≡ bytes_of cs
bytes_split n cs = sym (length-encodes-append (take n cs) (drop n cs)) ∙ ap (λ (xs : List ℕ). bytes_of xs) (take-append-drop n cs)

bytes_drop : (n : ℕ) (cs : List ℕ) → bytes_of (drop n cs) ≤ bytes_of cs
bytes_drop n cs = omega (arith, bytes_split n cs)

-- a kind of token that stands first, with so many characters
record Stands (k : Kind) (n : ℕ) (cs : List ℕ) : Type 0 where
  ample : Ample k
  part : length (spelling k) + bytes_of (drop n cs) ≤ bytes_of cs

ample_written : (k : Kind) → is_written k ≡ true → 1 ≤ length (spelling k) → Ample k
ample_written (EscapedWord w) written le = absurd cc
ample_written End written le = tt
ample_written k written le = le

from_cut : (f : List ℕ → Found) (k : Kind) (n : ℕ) (cs : List ℕ) → is_written k ≡ true → Cut f k n cs → Stands k n cs
from_cut f k n cs w c =
    let spells : length (spelling k) ≡ bytes_of (c.first ∷ c.taken) = ap (λ (xs : List ℕ). length xs) c.spells in
    let left : drop n cs ≡ c.rest = ap (λ (m : ℕ). drop m cs) c.size ∙ ap (drop (length (c.first ∷ c.taken))) c.whole ∙ drop-append_seam (c.first ∷ c.taken) c.rest in
    let rest : bytes_of (drop n cs) ≡ bytes_of c.rest = ap (λ (xs : List ℕ). bytes_of xs) left in
    let whole : bytes_of cs ≡ bytes_of ((c.first ∷ c.taken) ++ c.rest) = ap (λ (xs : List ℕ). bytes_of xs) c.whole in
    record {
      ample = ample_written k w (omega (arith, spells, length-encodes-cons c.first c.taken, (len_utf8_bounds c.first).0));
      part = omega (arith, spells, rest, whole, length-encodes-append (c.first ∷ c.taken) c.rest);
    }

-- ---- a word with an escape

abbrev is_escaped : Kind → Bool
is_escaped (EscapedWord w) = true
is_escaped k = false

number_plain : (b : Bool) (w : List ℕ) → is_escaped (number_kind b w) ≡ false
number_plain true w = refl
number_plain false w = refl

template_plain : (b : Bool) (w : List ℕ) → is_escaped (template_kind b w) ≡ false
template_plain true w = refl
template_plain false w = refl

word_spelt : (v : List ℕ) → spelling (word_of_bytes v) ≡ v
word_spelt v = elim (list_any is_backslash v) as (λ b. spelling (cond b (EscapedWord v) (Word v)) ≡ v) [ true ↦ refl | false ↦ refl ]

-- the spelling of a word is what it was cut out of
escaped_taken : (v : List ℕ) (n c : ℕ) (cs : List ℕ) (m : ℕ) → all_scalars (c ∷ cs) ≡ true → found (word_of_bytes (encode_utf8_all (take (1 + m) (c ∷ cs)))) (1 + m) ≡ found (EscapedWord v) n → Stands (EscapedWord v) n (c ∷ cs)
escaped_taken v n c cs m s is =
    let size : 1 + m ≡ n = ap (λ (p : Kind × ℕ). p.1) is in
    let spelt : v ≡ encode_utf8_all (take n (c ∷ cs)) =
    sym (sym (word_spelt (encode_utf8_all (take (1 + m) (c ∷ cs)))) ∙ ap (λ (p : Kind × ℕ). spelling p.0) is) ∙ ap (λ (j : ℕ). encode_utf8_all (take j (c ∷ cs))) size in
    let scalar : all_scalars (take n (c ∷ cs)) ≡ true = scalars_left (take n (c ∷ cs)) (drop n (c ∷ cs)) (subst (λ xs. all_scalars xs ≡ true) (sym (take-append-drop n (c ∷ cs))) s) in
    let letters : chars v ≡ take n (c ∷ cs) = ap chars spelt ∙ chars-encodes (take n (c ∷ cs)) scalar in
    let long : length v ≡ bytes_of (take n (c ∷ cs)) = ap (λ (xs : List ℕ). length xs) spelt in
    let some : 1 ≤ bytes_of (take n (c ∷ cs)) = subst (λ (j : ℕ). 1 ≤ bytes_of (take j (c ∷ cs))) size (one_taken m) in
    let short : bytes_of (decoded zero (take n (c ∷ cs))) + 0 ≤ bytes_of (take n (c ∷ cs)) = decoded_short zero (take n (c ∷ cs)) (omega arith) in
    let name : length (name_of v) ≡ bytes_of (decoded zero (take n (c ∷ cs))) = ap (λ (xs : List ℕ). bytes_of (decoded zero xs)) letters in
    record {
      ample = (omega (arith, long, short, name), omega (arith, long, some));
      part = omega (arith, long, bytes_split n (c ∷ cs));
    }
  where
    one_taken : (m : ℕ) → 1 ≤ bytes_of (take (1 + m) (c ∷ cs))
    one_taken m =
        let more : take (1 + m) (c ∷ cs) ≡ c ∷ take m cs = (let e : 1 + m ≡ suc m = omega arith in ap (λ (j : ℕ). take j (c ∷ cs)) e) in
        let long : bytes_of (take (1 + m) (c ∷ cs)) ≡ bytes_of (c ∷ take m cs) = ap (λ (xs : List ℕ). bytes_of xs) more in
        omega (arith, long, length-encodes-cons c (take m cs), (len_utf8_bounds c).0)

escaped_stands : (v : List ℕ) (n c : ℕ) (cs : List ℕ) → all_scalars (c ∷ cs) ≡ true → common_token goal.Div (c ∷ cs) ≡ Some (found (EscapedWord v) n) → Stands (EscapedWord v) n (c ∷ cs)
escaped_stands v n c cs s h =
    by_tests (starts_identifier c || is_backslash c) (begins_number c cs) (is_quote c) (c == 0x60) (c == 0x2F) (sym (choice_is goal.Div c cs refl refl refl refl refl) ∙ h)
  where
    by_rest : (o : Option (List ℕ)) → token_to word_of_bytes c cs o ≡ Some (found (EscapedWord v) n) → Stands (EscapedWord v) n (c ∷ cs)
    by_rest None h = absurd (never h)
    by_rest (Some r) h = escaped_taken v n c cs (length cs - length r) s (only h)

    by_tests : (t u d e f : Bool) → choice t u d e f goal.Div c cs ≡ Some (found (EscapedWord v) n) → Stands (EscapedWord v) n (c ∷ cs)
    by_tests true u d e f h = by_rest (after_first c cs) h
    by_tests false true d e f h = absurd (not_by is_escaped number_kind c cs (number_rest c cs) (EscapedWord v) n refl number_plain h)
    by_tests false false true e f h = absurd (not_to is_escaped StringLiteral c cs (string_rest c zero cs) (EscapedWord v) n refl (λ q. refl) h)
    by_tests false false false true f h = absurd (not_by is_escaped template_kind c cs (template_rest zero cs) (EscapedWord v) n refl template_plain h)
    by_tests false false false false true h = absurd (slash_kind is_escaped goal.Div cs (EscapedWord v) n refl (λ q. refl) (λ q. refl) (begins_comment cs) h)
    by_tests false false false false false h = absurd (not_mark is_escaped goal.Div (longest_punctuator (c ∷ cs)) (EscapedWord v) n refl (λ q. refl) h)

-- ---- what stands first, for each goal

end_stands : (n : ℕ) (cs : List ℕ) → Stands End n cs
end_stands n cs = record { ample = tt; part = omega (arith, bytes_drop n cs) }

div_stands : (k : Kind) (n : ℕ) (cs : List ℕ) → all_scalars cs ≡ true → common_token goal.Div cs ≡ Some (found k n) → Stands k n cs
unfolding common_token
div_stands k n [] s h = subst (λ (j : Kind). Stands j n []) (ap (λ (x : Kind × ℕ). x.0) (only h)) (end_stands n [])
div_stands (EscapedWord v) n (c ∷ cs) s h = escaped_stands v n c cs s h
div_stands End n (c ∷ cs) s h = end_stands n (c ∷ cs)
div_stands k n (c ∷ cs) s h = from_cut (common_token goal.Div) k n (c ∷ cs) refl (cut_div k n c cs refl h)

regular_stands : (v : List ℕ) (n : ℕ) (cs : List ℕ) → common_token goal.RegExp cs ≡ Some (found (RegularExpression v) n) → Stands (RegularExpression v) n cs
unfolding common_token
regular_stands v n [] h = absurd (let e : End ≡ RegularExpression v = ap (λ (x : Kind × ℕ). x.0) (only h) in cc)
regular_stands v n (c ∷ cs) h = from_cut (common_token goal.RegExp) (RegularExpression v) n (c ∷ cs) refl (cut_regular v n c cs h)

part_stands : (k : Kind) (n : ℕ) (cs : List ℕ) → is_written k ≡ true → continued_token cs ≡ Some (found k n) → Stands k n cs
part_stands k n [] w h = absurd (never h)
part_stands k n (c ∷ cs) w h = from_cut continued_token k n (c ∷ cs) w (cut_continued k n c cs h)

-- ---- what was found

abbrev next : Token → Place → Token × Place
next t p = (t, p)

record There (g : Goal) (p q : Place) (t : Token) : Type 0 where
  kind : Kind
  count : ℕ
  is : token_of g (token_place g p).after ≡ Some (found kind count)
  same : t.kind ≡ kind
  place : q ≡ moved count (token_place g p)

there : (g : Goal) (p q : Place) (t : Token) → next_token g p ≡ Some (next t q) → There g p q t
there g p q t h = by_token (token_of g (token_place g p).after) refl h
  where
    by_token : (o : Found) → token_of g (token_place g p).after ≡ o →
        option_map {U = Token × Place} (λ (f : Kind × ℕ). next (token_after g f.0 p (moved f.1 (token_place g p))) (moved f.1 (token_place g p))) o ≡ Some (next t q) → There g p q t
    by_token None e h = absurd (never h)
    by_token (Some x) e h = record {
      kind = x.0;
      count = x.1;
      is = e;
      same = ap (λ (z : Token × Place). z.0.kind) (sym (only h));
      place = ap (λ (z : Token × Place). z.1) (sym (only h));
    }

named : {g : Goal} {p q : Place} {t : Token} (k : Kind) (x : There g p q t) → t.kind ≡ k → token_of g (token_place g p).after ≡ Some (found k x.count)
named k x e = x.is ∙ ap (λ j. Some (found j x.count)) (sym x.same ∙ e)

-- a part of a template stands where a `}` does
record Part (p q : Place) (t : Token) : Type 0 where
  token : Token
  kind : t.kind ≡ token.kind
  is : next_token goal.Template (token_place goal.Div p) ≡ Some (next token q)

part : (p q : Place) (t : Token) → continued p (next_token goal.Div p) ≡ Some (next t q) → Part p q t
part p q t h = by_brace (next_token goal.Div p) h
  where
    by_part : (brace : Token) (o : Option (Token × Place)) → next_token goal.Template (token_place goal.Div p) ≡ o → option_map {U = Token × Place} (after_gap_of brace) o ≡ Some (next t q) → Part p q t
    by_part brace None e h = absurd (never h)
    by_part brace (Some x) e h = record {
      token = x.0;
      kind = ap (λ (z : Token × Place). z.0.kind) (sym (only h));
      is = e ∙ ap (λ (z : Token × Place). Some (next x.0 z.1)) (only h);
    }

    by_brace : (o : Option (Token × Place)) → continued p o ≡ Some (next t q) → Part p q t
    by_brace None h = absurd (never h)
    by_brace (Some brace) h = by_part brace.0 (next_token goal.Template (token_place goal.Div p)) refl h

-- ---- a token of a text

-- it takes its spelling from what is left
record Takes (k : Kind) (p q : Place) : Type 0 where
  ample : Ample k
  part : length (spelling k) + bytes_of q.after ≤ bytes_of p.after
  scalars : all_scalars q.after ≡ true

takes : (g : Goal) (k : Kind) (n : ℕ) (p q : Place) → q ≡ moved n (token_place g p) → all_scalars p.after ≡ true → Stands k n (token_place g p).after → Takes k p q
takes g k n p q e s stands =
    let left : bytes_of q.after ≡ bytes_of (drop n (token_place g p).after) = ap (λ (r : Place). bytes_of r.after) e in
    record {
      ample = stands.ample;
      part = omega (arith, left, stands.part, bytes_drop (length (gap_run g p)) p.after);
      scalars = ap (λ (r : Place). all_scalars r.after) e ∙ scalars_drop n (drop (length (gap_run g p)) p.after) (scalars_drop (length (gap_run g p)) p.after s);
    }

part_takes : (k : Kind) (t : Token) (p q : Place) → is_written k ≡ true → t.kind ≡ k → continued p (next_token goal.Div p) ≡ Some (next t q) → all_scalars p.after ≡ true → Takes k p q
part_takes k t p q w e h s =
    let found_part = part p q t h in
    let start = token_place goal.Div p in
    let x = there goal.Template start q found_part.token found_part.is in
    let scalar : all_scalars start.after ≡ true = scalars_drop (length (gap_run goal.Div p)) p.after s in
    let rest = takes goal.Template k x.count start q x.place scalar (part_stands k x.count start.after w (named k x (sym found_part.kind ∙ e))) in
    record { ample = rest.ample; part = omega (arith, rest.part, bytes_drop (length (gap_run goal.Div p)) p.after); scalars = rest.scalars }

div_takes : (k : Kind) (t : Token) (p q : Place) → t.kind ≡ k → next_token goal.Div p ≡ Some (next t q) → all_scalars p.after ≡ true → Takes k p q
div_takes k t p q e h s =
    let x = there goal.Div p q t h in
    takes goal.Div k x.count p q x.place s (div_stands k x.count (token_place goal.Div p).after (scalars_drop (length (gap_run goal.Div p)) p.after s) (named k x e))

token_takes : (k : Kind) (t : Token) (p q : Place) → t.kind ≡ k → next_for (goal_of k) p ≡ Some (next t q) → all_scalars p.after ≡ true → Takes k p q
token_takes (RegularExpression v) t p q e h s =
    let x = there goal.RegExp p q t h in
    takes goal.RegExp (RegularExpression v) x.count p q x.place s (regular_stands v x.count (token_place goal.RegExp p).after (named (RegularExpression v) x e))
token_takes (T.TemplateMiddle v) t p q e h s = part_takes (T.TemplateMiddle v) t p q refl e h s
token_takes (T.TemplateTail v) t p q e h s = part_takes (T.TemplateTail v) t p q refl e h s
token_takes k t p q e h s = div_takes k t p q e h s

-- ---- all tokens of a text

record TokensTake (tokens : List Token) (p : Place) : Type 0 where
  ample : AreAmple tokens
  part : bulk tokens ≤ bytes_of p.after

tokens_take : (p end : Place) (tokens : List Token) → all_scalars p.after ≡ true → Lexes p tokens end → TokensTake tokens p
tokens_take p end [] s lexed = record { ample = tt; part = omega arith }
tokens_take p end (t ∷ ts) s (one_more {between = q} h rest) =
    let one = token_takes t.kind t p q refl h s in
    let more = tokens_take q end ts one.scalars rest in
    record { ample = (one.ample, more.ample); part = omega (arith, one.part, more.part) }

pub record TokensWithin (tokens : List Token) (text : List ℕ) : Type 0 where
  pub ample : AreAmple tokens
  pub part : bulk tokens ≤ length text

pub tokens_within : (text : List ℕ) (tokens : List Token) (end : Place) → IsUtf8 text → Lexes (start_of text) tokens end → TokensWithin tokens text
tokens_within text tokens end utf8 lexed =
    let all = tokens_take (start_of text) end tokens (scalars-chars text utf8) lexed in
    record { ample = all.ample; part = omega (arith, all.part, ap (λ (xs : List ℕ). length xs) (encodes-chars text utf8)) }
