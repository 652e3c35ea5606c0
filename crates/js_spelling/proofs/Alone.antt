-- A token that stands somewhere stands wherever its spelling does, before all that it doesn't go on with.
use Rattle.std.proofs.Common.{◌≡◌, ℕ, zero, suc, ◌+◌, ◌-◌, ◌<◌, ◌==◌, ◌||◌, ◌&&◌, not, cond, Bool, true, false, List, [], ◌∷◌, ◌++◌, length, take, drop, Option, Some, None, encode_utf8_all, refl, sym, ap, subst, ◌∙◌, arith, append_assoc, append-nil, length-append}
use Rattle.std.specs.List.{list_any, list_all}
use Rattle.std.specs.Str.{IsAscii}
use Rattle.std.proofs.Math.Seq.{take-append_seam}
use Rattle.std.proofs.lemmas.Bool.{true≢false, and_parts, or_parts, or_from, not-true, eqb-true, ltb-true}
use Rattle.std.proofs.lemmas.Str.{encodes-IsAscii}
use Rattle.js_text.specs.Character.{starts_identifier, continues_identifier, is_digit, begins_with_digit, begins_with_character}
use Rattle.js_text.specs.Gap.{with_found}
use Rattle.js_text.specs.declared.goal.Goal.{Goal}
use Rattle.js_text.specs.declared.goal.Goal.TheVariants as goal
use Rattle.js_text.specs.declared.punctuator.Punctuator.{Punctuator}
use Rattle.js_text.specs.declared.punctuator.Punctuator.TheVariants as P
use Rattle.js_text.specs.Punctuator.{spelling_of, longest_punctuator, is_for}
use Rattle.js_text.specs.Identifier.{is_backslash, begins_identifier, escape_of, identifier_rest, after_first, word_of_bytes}
use Rattle.js_text.specs.Number.{ends_number, number_rest}
use Rattle.js_text.specs.Units.{string_rest, template_rest}
use Rattle.js_text.specs.RegularExpression.{body_rest}
use Rattle.js_text.specs.Token.{Kind, Word, EscapedWord, Numeral, BigInt, StringLiteral, RegularExpression, End, spelling}
use Rattle.js_text.specs.Token as T
use Rattle.js_text.specs.Lex.{past, up_to, token_to, token_by, number_kind, template_kind, continued_kind, is_quote, begins_number, punctuator_of, flags_rest, begins_comment, slash_token, continued_token, common_token}
use Rattle.js_spelling.specs.Written.{first_is}
use Rattle.js_spelling.specs.Tokens.{is_written}
use Rattle.js_spelling.proofs.Lists.{only, never, none_left, Alike, alike_whole, same_character, first_less}
use Rattle.js_spelling.proofs.Characters.{is_sign, sign_no_word, no_start, no_digit}
use Rattle.js_spelling.proofs.Literals.{string_ended, template_ended, body_taken}
use Rattle.js_spelling.proofs.Numbers.{goes_on, number_taken}
use Rattle.js_spelling.proofs.Words.{passed, flags_taken, rest_again, plain_rest, no_backslash}
use Rattle.js_spelling.proofs.Marks.{mark_apart, mark_longest, longest_begins, begins_whole, risky, no_risk}

-- ---- what may follow a token

-- a token of this kind may go on with this character
abbrev pub joins : Kind → ℕ → Bool
joins (Word w) c = continues_identifier c || is_backslash c
joins (Numeral w) c = goes_on c
joins (BigInt w) c = goes_on c
joins (RegularExpression w) c = continues_identifier c
joins k c = false

-- one ends before these characters
abbrev pub apart : Kind → List ℕ → Bool
apart (EscapedWord w) rest = false
apart End rest = false
apart (T.Punctuator p) rest = mark_apart p rest
apart k rest = not (first_is (joins k) rest)

abbrev pub Found : Type 0
Found = Option (Kind × ℕ)

abbrev pub found : Kind → ℕ → Kind × ℕ
found k n = (k, n)

-- these characters begin with a token that stands before all others that it is apart from
pub record Cut (f : List ℕ → Found) (k : Kind) (n : ℕ) (cs : List ℕ) : Type 0 where
  pub first : ℕ
  pub taken : List ℕ
  pub rest : List ℕ
  pub whole : cs ≡ (first ∷ taken) ++ rest
  pub size : n ≡ length (first ∷ taken)
  pub spells : spelling k ≡ encode_utf8_all (first ∷ taken)
  pub again : (s : List ℕ) → apart k s ≡ true → f (first ∷ (taken ++ s)) ≡ Some (found k (length (first ∷ taken)))

pub up_to_is : (kind : List ℕ → Kind) (c : ℕ) (t r : List ℕ) → up_to kind c (t ++ r) r ≡ found (kind (encode_utf8_all (c ∷ t))) (length (c ∷ t))
up_to_is kind c t r =
    let size : 1 + (length (t ++ r) - length r) ≡ length (c ∷ t) = omega (arith, length-append t r) in
    ap (λ n. found (kind (encode_utf8_all (take n (c ∷ (t ++ r))))) n) size ∙ ap (λ xs. found (kind (encode_utf8_all xs)) (length (c ∷ t))) (take-append_seam (c ∷ t) r)

build : (f : List ℕ → Found) (kind : List ℕ → Kind) (k : Kind) (n c : ℕ) (cs t r : List ℕ) → ((w : List ℕ) → spelling (kind w) ≡ w) → cs ≡ t ++ r → up_to kind c cs r ≡ found k n →
    ((s : List ℕ) → apart (kind (encode_utf8_all (c ∷ t))) s ≡ true → f (c ∷ (t ++ s)) ≡ Some (up_to kind c (t ++ s) s)) → Cut f k n (c ∷ cs)
build f kind k n c cs t r spelt whole is again =
    let at : found (kind (encode_utf8_all (c ∷ t))) (length (c ∷ t)) ≡ found k n = sym (up_to_is kind c t r) ∙ ap (λ xs. up_to kind c xs r) (sym whole) ∙ is in
    let same : kind (encode_utf8_all (c ∷ t)) ≡ k = ap (λ (p : Kind × ℕ). p.0) at in
    record {
      first = c;
      taken = t;
      rest = r;
      whole = ap (λ xs. c ∷ xs) whole;
      size = sym (ap (λ (p : Kind × ℕ). p.1) at);
      spells = ap spelling (sym same) ∙ spelt (encode_utf8_all (c ∷ t));
      again = λ s a. again s (subst (λ x. apart x s ≡ true) (sym same) a) ∙ ap Some (up_to_is kind c t s ∙ ap (λ x. found x (length (c ∷ t))) same);
    }

-- ---- the tests on the first character

abbrev pub choice : Bool → Bool → Bool → Bool → Bool → Goal → ℕ → List ℕ → Found
choice a b d e f g c cs =
    cond {A = Found} a (token_to word_of_bytes c cs (after_first c cs)) (cond {A = Found} b (token_by number_kind c cs (number_rest c cs)) (cond {A = Found} d (token_to StringLiteral c cs (string_rest c zero cs))
    (cond {A = Found} e (token_by template_kind c cs (template_rest zero cs)) (cond {A = Found} f (cond {A = Found} (begins_comment cs) None (slash_token g cs)) (punctuator_of g (longest_punctuator (c ∷ cs)))))))

pub choice_is : {a b d e f : Bool} (g : Goal) (c : ℕ) (cs : List ℕ) → (starts_identifier c || is_backslash c) ≡ a → begins_number c cs ≡ b → is_quote c ≡ d → (c == 0x60) ≡ e → (c == 0x2F) ≡ f →
    common_token g (c ∷ cs) ≡ choice a b d e f g c cs
unfolding common_token
choice_is {a = a} {b = b} {d = d} {e = e} g c cs x y z w u =
    ap (λ t. choice t (begins_number c cs) (is_quote c) (c == 0x60) (c == 0x2F) g c cs) x
    ∙ ap (λ t. choice a t (is_quote c) (c == 0x60) (c == 0x2F) g c cs) y
    ∙ ap (λ t. choice a b t (c == 0x60) (c == 0x2F) g c cs) z
    ∙ ap (λ t. choice a b d t (c == 0x2F) g c cs) w
    ∙ ap (λ t. choice a b d e t g c cs) u

-- where no number begins, and no `.` is, none begins whatever follows
no_number : (c : ℕ) (cs s : List ℕ) → begins_number c cs ≡ false → (c == 0x2E) ≡ false → begins_number c s ≡ false
no_number c cs s h e = or_from (is_digit c) ((c == 0x2E) && begins_with_digit s) (or_parts (is_digit c) ((c == 0x2E) && begins_with_digit cs) h).0 (ap (λ b. b && begins_with_digit s) e)

-- ---- words

word_spelt : (w : List ℕ) → spelling (word_of_bytes w) ≡ w
word_spelt w = elim (list_any is_backslash w) as (λ b. spelling (cond b (EscapedWord w) (Word w)) ≡ w) [ true ↦ refl | false ↦ refl ]

plain_word : (w : List ℕ) → is_written (word_of_bytes w) ≡ true → list_any is_backslash w ≡ false
plain_word w h = by_test (list_any is_backslash w) refl h
  where
    by_test : (b : Bool) → list_any is_backslash w ≡ b → is_written (cond b (EscapedWord w) (Word w)) ≡ true → list_any is_backslash w ≡ false
    by_test true e h = absurd (true≢false (sym h))
    by_test false e h = e

word_apart : (w s : List ℕ) → apart (word_of_bytes w) s ≡ true → first_is (λ c. continues_identifier c || is_backslash c) s ≡ false
word_apart w s h = by_test (list_any is_backslash w) h
  where
    by_test : (b : Bool) → apart (cond b (EscapedWord w) (Word w)) s ≡ true → first_is (λ c. continues_identifier c || is_backslash c) s ≡ false
    by_test true h = absurd (true≢false (sym h))
    by_test false h = not-true (first_is (λ c. continues_identifier c || is_backslash c) s) h

abbrev first_choice : Bool → List ℕ → Option (List ℕ)
first_choice b cs = cond {A = Option (List ℕ)} b (with_found (escape_of starts_identifier cs) (λ (rest : List ℕ). Some (identifier_rest zero rest)) None) (Some (identifier_rest zero cs))

-- a word without escapes: what follows its characters of identifiers is what is left
pub record Plain (k : Kind) (n c : ℕ) (cs : List ℕ) : Type 0 where
  pub no_escape : is_backslash c ≡ false
  pub is : up_to word_of_bytes c cs (past continues_identifier cs) ≡ found k n

pub word_plain : (k : Kind) (n c : ℕ) (cs : List ℕ) → is_written k ≡ true → token_to word_of_bytes c cs (after_first c cs) ≡ Some (found k n) → Plain k n c cs
word_plain k n c cs written h = by_rest (after_first c cs) refl h
  where
    by_rest : (o : Option (List ℕ)) → after_first c cs ≡ o → token_to word_of_bytes c cs o ≡ Some (found k n) → Plain k n c cs
    by_rest None e h = absurd (never h)
    by_rest (Some r) e h =
        let m = length cs - length r in
        let is : up_to word_of_bytes c cs r ≡ found k n = only h in
        let kind : k ≡ word_of_bytes (encode_utf8_all (take (1 + m) (c ∷ cs))) = ap (λ (p : Kind × ℕ). p.0) (sym is) in
        let plain = no_backslash (take (1 + m) (c ∷ cs)) (plain_word (encode_utf8_all (take (1 + m) (c ∷ cs))) (subst (λ x. is_written x ≡ true) kind written)) in
        let cut : take (1 + m) (c ∷ cs) ≡ c ∷ take m cs = (let more : 1 + m ≡ suc m = omega arith in ap (λ i. take i (c ∷ cs)) more) in
        let both = or_parts (is_backslash c) (list_any is_backslash (take m cs)) (ap (list_any is_backslash) (sym cut) ∙ plain) in
        let rest : r ≡ identifier_rest zero cs = only (sym e ∙ ap (λ b. first_choice b cs) both.0) in
        let run : identifier_rest zero cs ≡ past continues_identifier cs = plain_rest cs (subst (λ x. list_any is_backslash (take (length cs - length x) cs) ≡ false) rest both.1) in
        record { no_escape = both.0; is = ap (up_to word_of_bytes c cs) (sym (rest ∙ run)) ∙ is }

word_cut : (g : Goal) (k : Kind) (n c : ℕ) (cs : List ℕ) → is_written k ≡ true → (starts_identifier c || is_backslash c) ≡ true → token_to word_of_bytes c cs (after_first c cs) ≡ Some (found k n) →
    Cut (common_token g) k n (c ∷ cs)
word_cut g k n c cs written start h =
    let plain = word_plain k n c cs written h in
    let p = passed continues_identifier cs in
    build (common_token g) word_of_bytes k n c cs p.taken (past continues_identifier cs) word_spelt p.whole plain.is
    (λ s a.
    let ends = word_apart (encode_utf8_all (c ∷ p.taken)) s a in
    let no_more = first_less (λ d. continues_identifier d || is_backslash d) continues_identifier s (λ d q. (or_parts (continues_identifier d) (is_backslash d) q).0) ends in
    let no_escape = first_less (λ d. continues_identifier d || is_backslash d) is_backslash s (λ d q. (or_parts (continues_identifier d) (is_backslash d) q).1) ends in
    choice_is g c (p.taken ++ s) start refl refl refl refl
    ∙ ap (token_to word_of_bytes c (p.taken ++ s)) (ap (λ b. first_choice b (p.taken ++ s)) plain.no_escape ∙ ap Some (rest_again p.taken s p.all no_more no_escape)))

-- all characters of one that is taken whole are those of identifiers
pub word_all : (k : Kind) (c : ℕ) (cs : List ℕ) → Plain k (length (c ∷ cs)) c cs → list_all continues_identifier cs ≡ true
word_all k c cs plain =
    let p = passed continues_identifier cs in
    let size : length (c ∷ p.taken) ≡ length (c ∷ cs) =
    ap (λ (x : Kind × ℕ). x.1) (sym (up_to_is word_of_bytes c p.taken (past continues_identifier cs)) ∙ ap (λ xs. up_to word_of_bytes c xs (past continues_identifier cs)) (sym p.whole) ∙ plain.is) in
    let rest : past continues_identifier cs ≡ [] = none_left (past continues_identifier cs) (omega (arith, size, ap length p.whole, length-append p.taken (past continues_identifier cs))) in
    let same : p.taken ≡ cs = sym (append-nil p.taken) ∙ ap (λ xs. p.taken ++ xs) (sym rest) ∙ sym p.whole in
    subst (λ xs. list_all continues_identifier xs ≡ true) same p.all

-- ---- numbers

number_spelt : (big : Bool) (w : List ℕ) → spelling (number_kind big w) ≡ w
number_spelt true w = refl
number_spelt false w = refl

number_apart : (big : Bool) (w s : List ℕ) → apart (number_kind big w) s ≡ true → first_is goes_on s ≡ false
number_apart true w s h = not-true (first_is goes_on s) h
number_apart false w s h = not-true (first_is goes_on s) h

digit_begins : (t r cs s : List ℕ) → cs ≡ t ++ r → ends_number r ≡ true → begins_with_digit cs ≡ true → begins_with_digit (t ++ s) ≡ true
digit_begins [] r cs s e may h =
    absurd (true≢false (sym h ∙ ap begins_with_digit e ∙ (or_parts (begins_identifier r) (begins_with_digit r) (not-true (begins_identifier r || begins_with_digit r) may)).1))
digit_begins (x ∷ t) r cs s e may h = ap begins_with_digit (sym e) ∙ h

number_begins : (c : ℕ) (t r cs s : List ℕ) → cs ≡ t ++ r → ends_number r ≡ true → begins_number c cs ≡ true → begins_number c (t ++ s) ≡ true
number_begins c t r cs s e may h = by_digit (is_digit c) refl h
  where
    by_digit : (b : Bool) → is_digit c ≡ b → (b || ((c == 0x2E) && begins_with_digit cs)) ≡ true → begins_number c (t ++ s) ≡ true
    by_digit true x h = ap (λ b. b || ((c == 0x2E) && begins_with_digit (t ++ s))) x
    by_digit false x h =
        let both = and_parts (c == 0x2E) (begins_with_digit cs) h in
        ap (λ b. b || ((c == 0x2E) && begins_with_digit (t ++ s))) x ∙ ap (λ b. b && begins_with_digit (t ++ s)) both.0 ∙ digit_begins t r cs s e may both.1

number_cut : (g : Goal) (k : Kind) (n c : ℕ) (cs : List ℕ) → (starts_identifier c || is_backslash c) ≡ false → begins_number c cs ≡ true → token_by number_kind c cs (number_rest c cs) ≡ Some (found k n) →
    Cut (common_token g) k n (c ∷ cs)
number_cut g k n c cs start begins h = by_rest (number_rest c cs) refl h
  where
    by_rest : (o : Option (Bool × List ℕ)) → number_rest c cs ≡ o → token_by number_kind c cs o ≡ Some (found k n) → Cut (common_token g) k n (c ∷ cs)
    by_rest None e h = absurd (never h)
    by_rest (Some x) e h =
        let d = number_taken c x.0 cs x.1 e in
        build (common_token g) (number_kind x.0) k n c cs d.taken x.1 (number_spelt x.0) d.whole (only h)
        (λ s a. choice_is g c (d.taken ++ s) start (number_begins c d.taken x.1 cs s d.whole d.may begins) refl refl refl
        ∙ ap (token_by number_kind c (d.taken ++ s)) (d.again s (number_apart x.0 (encode_utf8_all (c ∷ d.taken)) s a)))

-- ---- strings and templates

quote_no_point : (c : ℕ) → is_quote c ≡ true → (c == 0x2E) ≡ false
quote_no_point c h = by_tests (c == 0x27) (c == 0x22) refl refl h
  where
    by_tests : (a b : Bool) → (c == 0x27) ≡ a → (c == 0x22) ≡ b → (a || b) ≡ true → (c == 0x2E) ≡ false
    by_tests true b x y h = ap (λ d. d == 0x2E) (eqb-true c 0x27 x)
    by_tests false true x y h = ap (λ d. d == 0x2E) (eqb-true c 0x22 y)
    by_tests false false x y h = absurd (true≢false (sym h))

string_cut : (g : Goal) (k : Kind) (n c : ℕ) (cs : List ℕ) → (starts_identifier c || is_backslash c) ≡ false → begins_number c cs ≡ false → is_quote c ≡ true → token_to StringLiteral c cs (string_rest c zero cs) ≡ Some (found k n) →
    Cut (common_token g) k n (c ∷ cs)
string_cut g k n c cs start number quote h = by_rest (string_rest c zero cs) refl h
  where
    by_rest : (o : Option (List ℕ)) → string_rest c zero cs ≡ o → token_to StringLiteral c cs o ≡ Some (found k n) → Cut (common_token g) k n (c ∷ cs)
    by_rest None e h = absurd (never h)
    by_rest (Some r) e h =
        let d = string_ended c zero cs r e in
        build (common_token g) StringLiteral k n c cs d.taken r (λ w. refl) d.whole (only h)
        (λ s a. choice_is g c (d.taken ++ s) start (no_number c cs (d.taken ++ s) number (quote_no_point c quote)) quote refl refl ∙ ap (token_to StringLiteral c (d.taken ++ s)) (d.again s))

template_spelt : (b : Bool) (w : List ℕ) → spelling (template_kind b w) ≡ w
template_spelt true w = refl
template_spelt false w = refl

template_cut : (g : Goal) (k : Kind) (n c : ℕ) (cs : List ℕ) → (starts_identifier c || is_backslash c) ≡ false → begins_number c cs ≡ false → is_quote c ≡ false → (c == 0x60) ≡ true →
    token_by template_kind c cs (template_rest zero cs) ≡ Some (found k n) → Cut (common_token g) k n (c ∷ cs)
template_cut g k n c cs start number quote tick h = by_rest (template_rest zero cs) refl h
  where
    by_rest : (o : Option (Bool × List ℕ)) → template_rest zero cs ≡ o → token_by template_kind c cs o ≡ Some (found k n) → Cut (common_token g) k n (c ∷ cs)
    by_rest None e h = absurd (never h)
    by_rest (Some x) e h =
        let d = template_ended x.0 zero cs x.1 e in
        build (common_token g) (template_kind x.0) k n c cs d.taken x.1 (template_spelt x.0) d.whole (only h)
        (λ s a. choice_is g c (d.taken ++ s) start (no_number c cs (d.taken ++ s) number (ap (λ i. i == 0x2E) (eqb-true c 0x60 tick))) quote tick refl ∙ ap (token_by template_kind c (d.taken ++ s)) (d.again s))

continued_spelt : (b : Bool) (w : List ℕ) → spelling (continued_kind b w) ≡ w
continued_spelt true w = refl
continued_spelt false w = refl

-- a part of a template after a `}`
pub cut_continued : (k : Kind) (n c : ℕ) (cs : List ℕ) → continued_token (c ∷ cs) ≡ Some (found k n) → Cut continued_token k n (c ∷ cs)
cut_continued k n c cs h = by_brace (c == 0x7D) refl h
  where
    by_rest : (o : Option (Bool × List ℕ)) → (c == 0x7D) ≡ true → template_rest zero cs ≡ o → token_by continued_kind c cs o ≡ Some (found k n) → Cut continued_token k n (c ∷ cs)
    by_rest None b e h = absurd (never h)
    by_rest (Some x) b e h =
        let d = template_ended x.0 zero cs x.1 e in
        build continued_token (continued_kind x.0) k n c cs d.taken x.1 (continued_spelt x.0) d.whole (only h)
        (λ s a. ap (λ t. cond {A = Found} t (token_by continued_kind c (d.taken ++ s) (template_rest zero (d.taken ++ s))) None) b ∙ ap (token_by continued_kind c (d.taken ++ s)) (d.again s))

    by_brace : (b : Bool) → (c == 0x7D) ≡ b → cond {A = Found} b (token_by continued_kind c cs (template_rest zero cs)) None ≡ Some (found k n) → Cut continued_token k n (c ∷ cs)
    by_brace false e h = absurd (never h)
    by_brace true e h = by_rest (template_rest zero cs) e refl h

-- ---- regular expressions

same_comment : (cs s : List ℕ) → Alike cs s → begins_comment s ≡ begins_comment cs
same_comment cs s like = ap (λ b. b || begins_with_character 0x2A s) (same_character 0x2F cs s like) ∙ ap (λ b. begins_with_character 0x2F cs || b) (same_character 0x2A cs s like)

abbrev flagged : List ℕ → Option (List ℕ)
flagged cs = with_found (body_rest false false cs) flags_rest None

regular_cut : (k : Kind) (n : ℕ) (cs : List ℕ) → (starts_identifier 0x2F || is_backslash 0x2F) ≡ false → begins_number 0x2F cs ≡ false → begins_comment cs ≡ false → token_to RegularExpression 0x2F cs (flagged cs) ≡ Some (found k n) →
    Cut (common_token goal.RegExp) k n (0x2F ∷ cs)
regular_cut k n cs start number comment h = by_body (body_rest false false cs) refl h
  where
    by_flags : (b : List ℕ) (o : Option (List ℕ)) → body_rest false false cs ≡ Some b → flags_rest b ≡ o → token_to RegularExpression 0x2F cs o ≡ Some (found k n) → Cut (common_token goal.RegExp) k n (0x2F ∷ cs)
    by_flags b None e f h = absurd (never h)
    by_flags b (Some r) e f h =
        let body = body_taken false false cs b e in
        let flags = flags_taken b r f in
        let t = body.taken ++ flags.taken in
        let whole : cs ≡ (body.taken ++ flags.taken) ++ r = body.whole ∙ ap (λ xs. body.taken ++ xs) flags.whole ∙ sym (append_assoc body.taken flags.taken r) in
        let some : 0 < length (body.taken ++ flags.taken) = omega (arith, body.some, length-append body.taken flags.taken) in
        build (common_token goal.RegExp) RegularExpression k n 0x2F cs t r (λ w. refl) whole (only h)
        (λ s a.
        let ends : first_is continues_identifier s ≡ false = not-true (first_is continues_identifier s) a in
        let reads : flagged ((body.taken ++ flags.taken) ++ s) ≡ Some s =
        ap flagged (append_assoc body.taken flags.taken s) ∙ ap (λ o. with_found o flags_rest None) (body.again (flags.taken ++ s)) ∙ flags.again s ends in
        choice_is goal.RegExp 0x2F (t ++ s) start (no_number 0x2F cs (t ++ s) number refl) refl refl refl
        ∙ ap (λ b. cond {A = Found} b None (slash_token goal.RegExp (t ++ s))) (same_comment cs (t ++ s) (alike_whole cs t r s whole some) ∙ comment)
        ∙ ap (token_to RegularExpression 0x2F (t ++ s)) reads)

    by_body : (o : Option (List ℕ)) → body_rest false false cs ≡ o → token_to RegularExpression 0x2F cs (with_found o flags_rest None) ≡ Some (found k n) → Cut (common_token goal.RegExp) k n (0x2F ∷ cs)
    by_body None e h = absurd (never h)
    by_body (Some b) e h = by_flags b (flags_rest b) e refl h

-- ---- punctuators

-- a sign that begins neither a word, a string nor a template
abbrev pub is_mark_sign : ℕ → Bool
is_mark_sign c = is_sign c && not ((is_backslash c || is_quote c) || (c == 0x60))

pub signs_of : (p : Punctuator) → list_all is_mark_sign (spelling_of p) ≡ true
signs_of P.UnsignedShiftRightAssign = refl
signs_of p = refl

pub some_spelling : (p : Punctuator) → 0 < length (spelling_of p)
some_spelling P.UnsignedShiftRightAssign = omega arith
some_spelling p = omega arith

ascii_signs : (cs : List ℕ) → list_all is_mark_sign cs ≡ true → IsAscii cs
ascii_signs [] h i = omega arith
ascii_signs (c ∷ cs) h zero = ltb-true c 128 (and_parts _ _ (and_parts (is_sign c) _ (and_parts (is_mark_sign c) (list_all is_mark_sign cs) h).0).0).0
ascii_signs (c ∷ cs) h (suc i) = ascii_signs cs (and_parts (is_mark_sign c) (list_all is_mark_sign cs) h).1 i

pub mark_ascii : (p : Punctuator) → IsAscii (spelling_of p)
mark_ascii p = ascii_signs (spelling_of p) (signs_of p)

-- where a sign stands, and neither a number nor a comment begins, the longest punctuator does
sign_token : (c : ℕ) (cs : List ℕ) → is_mark_sign c ≡ true → risky (c ∷ cs) ≡ false → common_token goal.Div (c ∷ cs) ≡ punctuator_of goal.Div (longest_punctuator (c ∷ cs))
sign_token c cs sign risk =
    let both = and_parts (is_sign c) (not ((is_backslash c || is_quote c) || (c == 0x60))) sign in
    let word = sign_no_word c both.0 in
    let others = or_parts (is_backslash c || is_quote c) (c == 0x60) (not-true ((is_backslash c || is_quote c) || (c == 0x60)) both.1) in
    let two = or_parts (is_backslash c) (is_quote c) others.0 in
    let risks = or_parts ((c == 0x2E) && begins_with_digit cs) ((c == 0x2F) && begins_comment cs) risk in
    let start : (starts_identifier c || is_backslash c) ≡ false = or_from (starts_identifier c) (is_backslash c) (no_start c word) two.0 in
    let number : begins_number c cs ≡ false = or_from (is_digit c) ((c == 0x2E) && begins_with_digit cs) (no_digit c word) risks.0 in
    by_slash (c == 0x2F) refl start number two.1 others.1 risks.1
  where
    by_slash : (b : Bool) → (c == 0x2F) ≡ b → (starts_identifier c || is_backslash c) ≡ false → begins_number c cs ≡ false → is_quote c ≡ false → (c == 0x60) ≡ false → ((c == 0x2F) && begins_comment cs) ≡ false →
        common_token goal.Div (c ∷ cs) ≡ punctuator_of goal.Div (longest_punctuator (c ∷ cs))
    by_slash false e start number quote tick comment = choice_is goal.Div c cs start number quote tick e
    by_slash true e start number quote tick comment =
        choice_is goal.Div c cs start number quote tick e
        ∙ ap (λ b. cond {A = Found} b None (slash_token goal.Div cs)) (sym (ap (λ b. b && begins_comment cs) e) ∙ comment)
        ∙ ap (λ d. punctuator_of goal.Div (longest_punctuator (d ∷ cs))) (sym (eqb-true c 0x2F e))

-- a punctuator stands wherever it is spelled, before what it is apart from
mark_token : (p : Punctuator) (c : ℕ) (cs s : List ℕ) → spelling_of p ≡ c ∷ cs → mark_apart p s ≡ true → common_token goal.Div (c ∷ (cs ++ s)) ≡ Some (found (T.Punctuator p) (length (spelling_of p)))
mark_token p c cs s e a =
    let sign : is_mark_sign c ≡ true = (and_parts (is_mark_sign c) (list_all is_mark_sign cs) (ap (list_all is_mark_sign) (sym e) ∙ signs_of p)).0 in
    sign_token c (cs ++ s) sign (ap (λ xs. risky (xs ++ s)) (sym e) ∙ no_risk p s a) ∙ ap (punctuator_of goal.Div) (ap (λ xs. longest_punctuator (xs ++ s)) (sym e) ∙ mark_longest p s a)

mark_cut : (k : Kind) (n : ℕ) (cs : List ℕ) → punctuator_of goal.Div (longest_punctuator cs) ≡ Some (found k n) → Cut (common_token goal.Div) k n cs
mark_cut k n cs h = by_mark (longest_punctuator cs) refl h
  where
    by_letters : (p : Punctuator) (ls : List ℕ) → spelling_of p ≡ ls → longest_punctuator cs ≡ Some p → found (T.Punctuator p) (length (spelling_of p)) ≡ found k n → Cut (common_token goal.Div) k n cs
    by_letters p [] e l h = absurd (omega (arith, some_spelling p, ap length e))
    by_letters p (d ∷ ds) e l h =
        let same : T.Punctuator p ≡ k = ap (λ (x : Kind × ℕ). x.0) h in
        record {
          first = d;
          taken = ds;
          rest = drop (length (spelling_of p)) cs;
          whole = begins_whole (spelling_of p) cs (longest_begins cs p l) ∙ ap (λ xs. xs ++ drop (length (spelling_of p)) cs) e;
          size = ap (λ (x : Kind × ℕ). x.1) (sym h) ∙ ap length e;
          spells = ap spelling (sym same) ∙ sym (encodes-IsAscii (spelling_of p) (mark_ascii p)) ∙ ap encode_utf8_all e;
          again = λ s a. mark_token p d ds s e (subst (λ x. apart x s ≡ true) (sym same) a) ∙ ap (λ x. Some (found x (length (spelling_of p)))) same ∙ ap (λ xs. Some (found k (length xs))) e;
        }

    by_mark : (o : Option Punctuator) → longest_punctuator cs ≡ o → punctuator_of goal.Div o ≡ Some (found k n) → Cut (common_token goal.Div) k n cs
    by_mark None e h = absurd (never h)
    by_mark (Some p) e h = by_letters p (spelling_of p) refl e (only h)

-- ---- all of them

pub cut_div : (k : Kind) (n c : ℕ) (cs : List ℕ) → is_written k ≡ true → common_token goal.Div (c ∷ cs) ≡ Some (found k n) → Cut (common_token goal.Div) k n (c ∷ cs)
cut_div k n c cs written h =
    by_tests (starts_identifier c || is_backslash c) (begins_number c cs) (is_quote c) (c == 0x60) (c == 0x2F) refl refl refl refl refl (sym (choice_is goal.Div c cs refl refl refl refl refl) ∙ h)
  where
    by_comment : (b : Bool) → (c == 0x2F) ≡ true → cond {A = Found} b None (slash_token goal.Div cs) ≡ Some (found k n) → Cut (common_token goal.Div) k n (c ∷ cs)
    by_comment true e h = absurd (never h)
    by_comment false e h = mark_cut k n (c ∷ cs) (ap (λ d. punctuator_of goal.Div (longest_punctuator (d ∷ cs))) (eqb-true c 0x2F e) ∙ h)

    by_tests : (a b d e f : Bool) → (starts_identifier c || is_backslash c) ≡ a → begins_number c cs ≡ b → is_quote c ≡ d → (c == 0x60) ≡ e → (c == 0x2F) ≡ f → choice a b d e f goal.Div c cs ≡ Some (found k n) →
        Cut (common_token goal.Div) k n (c ∷ cs)
    by_tests true b d e f x y z w u h = word_cut goal.Div k n c cs written x h
    by_tests false true d e f x y z w u h = number_cut goal.Div k n c cs x y h
    by_tests false false true e f x y z w u h = string_cut goal.Div k n c cs x y z h
    by_tests false false false true f x y z w u h = template_cut goal.Div k n c cs x y z w h
    by_tests false false false false true x y z w u h = by_comment (begins_comment cs) u h
    by_tests false false false false false x y z w u h = mark_cut k n (c ∷ cs) h

-- ---- which tests lead to which kinds

pub not_to : (is : Kind → Bool) (kind : List ℕ → Kind) (c : ℕ) (cs : List ℕ) (o : Option (List ℕ)) (k : Kind) (n : ℕ) → is k ≡ true → ((v : List ℕ) → is (kind v) ≡ false) → token_to kind c cs o ≡ Some (found k n) → ⊥
not_to is kind c cs None k n passes fails h = never h
not_to is kind c cs (Some r) k n passes fails h =
    true≢false (sym passes ∙ ap (λ (x : Kind × ℕ). is x.0) (sym (only h)) ∙ fails (encode_utf8_all (take (1 + (length cs - length r)) (c ∷ cs))))

pub not_by : (is : Kind → Bool) (kind : Bool → List ℕ → Kind) (c : ℕ) (cs : List ℕ) (o : Option (Bool × List ℕ)) (k : Kind) (n : ℕ) → is k ≡ true → ((b : Bool) (v : List ℕ) → is (kind b v) ≡ false) →
    token_by kind c cs o ≡ Some (found k n) → ⊥
not_by is kind c cs None k n passes fails h = never h
not_by is kind c cs (Some x) k n passes fails h =
    true≢false (sym passes ∙ ap (λ (y : Kind × ℕ). is y.0) (sym (only h)) ∙ fails x.0 (encode_utf8_all (take (1 + (length cs - length x.1)) (c ∷ cs))))

pub not_mark : (is : Kind → Bool) (g : Goal) (o : Option Punctuator) (k : Kind) (n : ℕ) → is k ≡ true → ((p : Punctuator) → is (T.Punctuator p) ≡ false) → punctuator_of g o ≡ Some (found k n) → ⊥
not_mark is g None k n passes fails h = never h
not_mark is g (Some p) k n passes fails h = by_for (is_for g p) h
  where
    by_for : (b : Bool) → cond {A = Found} b (Some (found (T.Punctuator p) (length (spelling_of p)))) None ≡ Some (found k n) → ⊥
    by_for true h = true≢false (sym passes ∙ ap (λ (x : Kind × ℕ). is x.0) (sym (only h)) ∙ fails p)
    by_for false h = never h

abbrev is_regular : Kind → Bool
is_regular (RegularExpression w) = true
is_regular k = false

word_irregular : (w : List ℕ) → is_regular (word_of_bytes w) ≡ false
word_irregular w = elim (list_any is_backslash w) as (λ b. is_regular (cond b (EscapedWord w) (Word w)) ≡ false) [ true ↦ refl | false ↦ refl ]

number_irregular : (b : Bool) (w : List ℕ) → is_regular (number_kind b w) ≡ false
number_irregular true w = refl
number_irregular false w = refl

template_irregular : (b : Bool) (w : List ℕ) → is_regular (template_kind b w) ≡ false
template_irregular true w = refl
template_irregular false w = refl

pub cut_regular : (w : List ℕ) (n c : ℕ) (cs : List ℕ) → common_token goal.RegExp (c ∷ cs) ≡ Some (found (RegularExpression w) n) → Cut (common_token goal.RegExp) (RegularExpression w) n (c ∷ cs)
cut_regular w n c cs h =
    by_tests (starts_identifier c || is_backslash c) (begins_number c cs) (is_quote c) (c == 0x60) (c == 0x2F) refl refl refl refl refl (sym (choice_is goal.RegExp c cs refl refl refl refl refl) ∙ h)
  where
    by_comment : (b : Bool) → (c == 0x2F) ≡ true → (starts_identifier c || is_backslash c) ≡ false → begins_number c cs ≡ false → begins_comment cs ≡ b → cond {A = Found} b None (slash_token goal.RegExp cs) ≡ Some (found (RegularExpression w) n) →
        Cut (common_token goal.RegExp) (RegularExpression w) n (c ∷ cs)
    by_comment true e x y q h = absurd (never h)
    by_comment false e x y q h =
        let same : c ≡ 0x2F = eqb-true c 0x2F e in
        subst (λ d. Cut (common_token goal.RegExp) (RegularExpression w) n (d ∷ cs)) (sym same)
        (regular_cut (RegularExpression w) n cs (ap (λ d. starts_identifier d || is_backslash d) (sym same) ∙ x) (ap (λ d. begins_number d cs) (sym same) ∙ y) q h)

    by_tests : (a b d e f : Bool) → (starts_identifier c || is_backslash c) ≡ a → begins_number c cs ≡ b → is_quote c ≡ d → (c == 0x60) ≡ e → (c == 0x2F) ≡ f →
        choice a b d e f goal.RegExp c cs ≡ Some (found (RegularExpression w) n) → Cut (common_token goal.RegExp) (RegularExpression w) n (c ∷ cs)
    by_tests true b d e f x y z v u h = absurd (not_to is_regular word_of_bytes c cs (after_first c cs) (RegularExpression w) n refl word_irregular h)
    by_tests false true d e f x y z v u h = absurd (not_by is_regular number_kind c cs (number_rest c cs) (RegularExpression w) n refl number_irregular h)
    by_tests false false true e f x y z v u h = absurd (not_to is_regular StringLiteral c cs (string_rest c zero cs) (RegularExpression w) n refl (λ q. refl) h)
    by_tests false false false true f x y z v u h = absurd (not_by is_regular template_kind c cs (template_rest zero cs) (RegularExpression w) n refl template_irregular h)
    by_tests false false false false true x y z v u h = by_comment (begins_comment cs) u x y refl h
    by_tests false false false false false x y z v u h = absurd (not_mark is_regular goal.RegExp (longest_punctuator (c ∷ cs)) (RegularExpression w) n refl (λ q. refl) h)
