-- Each token of a text is one by its spelling alone.
use Rattle.std.proofs.Common.{◌≡◌, ℕ, ◌-◌, ◌<◌, true, false, List, [], ◌∷◌, length, take, drop, Option, Some, None, refl, sym, ap, subst, ◌∙◌, arith, append-nil}
use Rattle.std.specs.Option.{option_map}
use Rattle.std.specs.Str.{chars, IsUtf8, all_scalars}
use Rattle.std.proofs.lemmas.Bool.{true≢false}
use Rattle.std.proofs.lemmas.Str.{chars-encodes, scalars-chars}
use Rattle.js_text.specs.Place.{Place}
use Rattle.js_text.specs.Character.{is_gap}
use Rattle.js_text.specs.Gap.{after_gap}
use Rattle.js_text.specs.declared.goal.Goal.{Goal}
use Rattle.js_text.specs.declared.goal.Goal.TheVariants as goal
use Rattle.js_text.specs.Token.{Kind, Word, EscapedWord, RegularExpression, End, Token}
use Rattle.js_text.specs.Token as T
use Rattle.js_text.specs.Lex.{common_token, continued_token, token_of, moved, gap_run, token_place, token_after, next_token}
use Rattle.js_reading.specs.Productions.{name_of}
use Rattle.js_reading.specs.Reads.{goal_of, after_gap_of, continued, next_for, Lexes, one_more, start_of}
use Rattle.js_spelling.specs.Written.{letters, first_is}
use Rattle.js_spelling.specs.Tokens.{is_written, IsToken}
use Rattle.js_spelling.specs.Laws.{IsOne, AreOnes, HasTokens}
use Rattle.js_spelling.proofs.Lists.{only, never, scalars_left, scalars_drop}
use Rattle.js_spelling.proofs.Alone.{Found, found, Cut, cut_div, cut_regular, cut_continued}
use Rattle.js_spelling.proofs.Neighbours.{brace_first}
use Rattle.js_spelling.proofs.Again.{before_none}
use Rattle.js_spelling.proofs.Gaps.{gap_at, start_is}
use Rattle.js_spelling.proofs.Names.{escaped_name}

-- ---- a token that is cut out

from_cut : (f : List ℕ → Found) (k : Kind) (n : ℕ) (cs : List ℕ) → ((xs : List ℕ) → token_of (goal_of k) xs ≡ f xs) → is_written k ≡ true → Cut f k n cs → all_scalars cs ≡ true → first_is is_gap cs ≡ false → IsToken k
from_cut f k n cs goals w c s g =
    let scalar : all_scalars (c.first ∷ c.taken) ≡ true = scalars_left (c.first ∷ c.taken) c.rest (subst (λ xs. all_scalars xs ≡ true) c.whole s) in
    let same : letters k ≡ c.first ∷ c.taken = ap chars c.spells ∙ chars-encodes (c.first ∷ c.taken) scalar in
    record {
      written = w;
      utf8 = subst IsUtf8 (sym c.spells) (c.first ∷ c.taken, (scalar, refl));
      no_gap = ap (first_is is_gap) same ∙ ap (first_is is_gap) (sym c.whole) ∙ g;
      some = subst (λ xs. 0 < length xs) (sym same) (let long : 0 < length (c.first ∷ c.taken) = omega arith in long);
      alone = subst (λ xs. token_of (goal_of k) xs ≡ Some (found k (length xs))) (sym same)
          (goals (c.first ∷ c.taken) ∙ ap f (sym (append-nil (c.first ∷ c.taken))) ∙ c.again [] (before_none k w));
    }

div_one : (k : Kind) (n : ℕ) (cs : List ℕ) → ((xs : List ℕ) → token_of (goal_of k) xs ≡ common_token goal.Div xs) → is_written k ≡ true → common_token goal.Div cs ≡ Some (found k n) → all_scalars cs ≡ true → first_is is_gap cs ≡ false → IsToken k
unfolding common_token
div_one k n [] goals w h s g = absurd (true≢false (sym w ∙ ap (λ (x : Kind × ℕ). is_written x.0) (sym (only h))))
div_one k n (c ∷ cs) goals w h s g = from_cut (common_token goal.Div) k n (c ∷ cs) goals w (cut_div k n c cs w h) s g

regular_one : (v : List ℕ) (n : ℕ) (cs : List ℕ) → common_token goal.RegExp cs ≡ Some (found (RegularExpression v) n) → all_scalars cs ≡ true → first_is is_gap cs ≡ false → IsToken (RegularExpression v)
unfolding common_token
regular_one v n [] h s g = absurd (true≢false (ap (λ (x : Kind × ℕ). is_written x.0) (sym (only h))))
regular_one v n (c ∷ cs) h s g = from_cut (common_token goal.RegExp) (RegularExpression v) n (c ∷ cs) (λ xs. refl) refl (cut_regular v n c cs h) s g

brace_gap : is_gap 0x7D ≡ false
unfolding is_gap
brace_gap = refl

part_one : (k : Kind) (n : ℕ) (cs : List ℕ) → ((xs : List ℕ) → token_of (goal_of k) xs ≡ continued_token xs) → is_written k ≡ true → continued_token cs ≡ Some (found k n) → all_scalars cs ≡ true → IsToken k
part_one k n [] goals w h s = absurd (never h)
part_one k n (c ∷ cs) goals w h s = from_cut continued_token k n (c ∷ cs) goals w (cut_continued k n c cs h) s (ap is_gap (brace_first (found k n) c cs h) ∙ brace_gap)

escaped_one : (v : List ℕ) (n : ℕ) (cs : List ℕ) → common_token goal.Div cs ≡ Some (found (EscapedWord v) n) → all_scalars cs ≡ true → IsToken (Word (name_of v))
unfolding common_token
escaped_one v n [] h s = absurd (let e : End ≡ EscapedWord v = ap (λ (x : Kind × ℕ). x.0) (only h) in cc)
escaped_one v n (c ∷ cs) h s = escaped_name v n c cs s h

-- ---- what was found

abbrev next : Token → Place → Token × Place
next t p = (t, p)

record There (g : Goal) (p q : Place) (t : Token) : Type 0 where
  kind : Kind
  count : ℕ
  is : token_of g (token_place g p).after ≡ Some (found kind count)
  same : t.kind ≡ kind
  place : q ≡ moved count (token_place g p)

there : (g : Goal) (p q : Place) (t : Token) → next_token g p ≡ Some (next t q) → There g p q t
there g p q t h = by_token (token_of g (token_place g p).after) refl h
  where
    by_token : (o : Found) → token_of g (token_place g p).after ≡ o →
        option_map {U = Token × Place} (λ (f : Kind × ℕ). next (token_after g f.0 p (moved f.1 (token_place g p))) (moved f.1 (token_place g p))) o ≡ Some (next t q) → There g p q t
    by_token None e h = absurd (never h)
    by_token (Some x) e h = record {
      kind = x.0;
      count = x.1;
      is = e;
      same = ap (λ (z : Token × Place). z.0.kind) (sym (only h));
      place = ap (λ (z : Token × Place). z.1) (sym (only h));
    }

left_scalars : (g : Goal) (n : ℕ) (p q : Place) → q ≡ moved n (token_place g p) → all_scalars p.after ≡ true → all_scalars q.after ≡ true
left_scalars g n p q e s = ap (λ (r : Place). all_scalars r.after) e ∙ scalars_drop n (drop (length (gap_run g p)) p.after) (scalars_drop (length (gap_run g p)) p.after s)

-- a part of a template stands where a `}` does
record Part (p q : Place) (t : Token) : Type 0 where
  token : Token
  kind : t.kind ≡ token.kind
  is : next_token goal.Template (token_place goal.Div p) ≡ Some (next token q)

part : (p q : Place) (t : Token) → continued p (next_token goal.Div p) ≡ Some (next t q) → Part p q t
part p q t h = by_brace (next_token goal.Div p) h
  where
    by_part : (brace : Token) (o : Option (Token × Place)) → next_token goal.Template (token_place goal.Div p) ≡ o → option_map {U = Token × Place} (after_gap_of brace) o ≡ Some (next t q) → Part p q t
    by_part brace None e h = absurd (never h)
    by_part brace (Some x) e h = record {
      token = x.0;
      kind = ap (λ (z : Token × Place). z.0.kind) (sym (only h));
      is = e ∙ ap (λ (z : Token × Place). Some (next x.0 z.1)) (only h);
    }

    by_brace : (o : Option (Token × Place)) → continued p o ≡ Some (next t q) → Part p q t
    by_brace None h = absurd (never h)
    by_brace (Some brace) h = by_part brace.0 (next_token goal.Template (token_place goal.Div p)) refl h

-- ---- a token of a text

-- for Div and RegExp the token stands after the gap
at_gap : (f : List ℕ → Found) (k : Kind) (n : ℕ) (p : Place) → f (drop (length (take (length p.after - length (after_gap p)) p.after)) p.after) ≡ Some (found k n) → f (after_gap p) ≡ Some (found k n)
at_gap f k n p h = ap f (sym (start_is p)) ∙ h

gap_scalars : (p : Place) → all_scalars p.after ≡ true → all_scalars (after_gap p) ≡ true
gap_scalars p s = ap all_scalars (sym (start_is p)) ∙ scalars_drop (length (take (length p.after - length (after_gap p)) p.after)) p.after s

named : {g : Goal} {p q : Place} {t : Token} (k : Kind) (x : There g p q t) → t.kind ≡ k → token_of g (token_place g p).after ≡ Some (found k x.count)
named k x e = x.is ∙ ap (λ j. Some (found j x.count)) (sym x.same ∙ e)

part_of : (k : Kind) (t : Token) (p q : Place) → ((xs : List ℕ) → token_of (goal_of k) xs ≡ continued_token xs) → is_written k ≡ true → t.kind ≡ k → continued p (next_token goal.Div p) ≡ Some (next t q) → all_scalars p.after ≡ true →
    IsToken k × (all_scalars q.after ≡ true)
part_of k t p q goals w e h s =
    let found_part = part p q t h in
    let start = token_place goal.Div p in
    let x = there goal.Template start q found_part.token found_part.is in
    let scalar : all_scalars start.after ≡ true = scalars_drop (length (gap_run goal.Div p)) p.after s in
    (part_one k x.count start.after goals w (named k x (sym found_part.kind ∙ e)) scalar, left_scalars goal.Template x.count start q x.place scalar)

pub one_of : (k : Kind) (t : Token) (p q : Place) → t.kind ≡ k → next_for (goal_of k) p ≡ Some (next t q) → all_scalars p.after ≡ true → IsOne k × (all_scalars q.after ≡ true)
one_of (EscapedWord v) t p q e h s =
    let x = there goal.Div p q t h in
    (escaped_one v x.count (after_gap p) (at_gap (common_token goal.Div) (EscapedWord v) x.count p (named (EscapedWord v) x e)) (gap_scalars p s), left_scalars goal.Div x.count p q x.place s)
one_of (RegularExpression v) t p q e h s =
    let x = there goal.RegExp p q t h in
    let a = gap_at p in
    ((λ w. regular_one v x.count (after_gap p) (at_gap (common_token goal.RegExp) (RegularExpression v) x.count p (named (RegularExpression v) x e)) (gap_scalars p s) a.no_gap), left_scalars goal.RegExp x.count p q x.place s)
one_of (T.TemplateMiddle v) t p q e h s = let both = part_of (T.TemplateMiddle v) t p q (λ xs. refl) refl e h s in ((λ w. both.0), both.1)
one_of (T.TemplateTail v) t p q e h s = let both = part_of (T.TemplateTail v) t p q (λ xs. refl) refl e h s in ((λ w. both.0), both.1)
one_of k t p q e h s =
    let x = there goal.Div p q t h in
    let a = gap_at p in
    ((λ w. div_one k x.count (after_gap p) (λ xs. refl) w (at_gap (common_token goal.Div) k x.count p (named k x e)) (gap_scalars p s) a.no_gap), left_scalars goal.Div x.count p q x.place s)

ones : (p end : Place) (tokens : List Token) → all_scalars p.after ≡ true → Lexes p tokens end → AreOnes tokens
ones p end [] s lexed = tt
ones p end (t ∷ ts) s (one_more {between = q} h rest) = let one = one_of t.kind t p q refl h s in (one.0, ones q end ts one.1 rest)

pub has_tokens : HasTokens
has_tokens text tokens end utf8 lexed = ones (start_of text) end tokens (scalars-chars text utf8) lexed
