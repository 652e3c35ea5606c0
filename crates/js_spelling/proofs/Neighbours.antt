-- Neighbours between which nothing stands are apart.
use Rattle.std.proofs.Common.{◌≡◌, ℕ, zero, ◌≤◌, ◌==◌, ◌||◌, ◌&&◌, nat_le, cond, Bool, true, false, List, [], ◌∷◌, length, Some, None, refl, sym, ap, subst, ◌∙◌, arith}
use Rattle.std.specs.List.{list_all}
use Rattle.std.specs.Int.{is_in_range}
use Rattle.std.specs.Char as char
use Rattle.std.proofs.lemmas.Bool.{true≢false, and_parts, or_parts, or_from, or_left, or_right, eqb-true, leb-true, lt-leb}
use Rattle.unicode_ident.proofs.IdentLemmas.{is_xid_start-ascii}
use Rattle.js_text.specs.Character.{starts_identifier, continues_identifier, is_digit}
use Rattle.js_text.specs.declared.goal.Goal.{Goal}
use Rattle.js_text.specs.declared.goal.Goal.TheVariants as goal
use Rattle.js_text.specs.declared.punctuator.Punctuator.{Punctuator}
use Rattle.js_text.specs.Punctuator.{longest_punctuator}
use Rattle.js_text.specs.Identifier.{is_backslash}
use Rattle.js_text.specs.Number.{number_rest}
use Rattle.js_text.specs.Units.{string_rest, template_rest}
use Rattle.js_text.specs.Token.{Kind, Word, StringLiteral, RegularExpression}
use Rattle.js_text.specs.Token as T
use Rattle.js_text.specs.Lex.{common_token, continued_token, token_of, token_by, number_kind, template_kind, continued_kind, is_quote, begins_number, begins_comment, slash_token}
use Rattle.js_reading.specs.Reads.{goal_of}
use Rattle.js_spelling.specs.Written.{letters, first_is, last_is, meet, is_number, is_regular_expression, spaced}
use Rattle.js_spelling.specs.Tokens.{is_written, IsToken}
use Rattle.js_spelling.proofs.Lists.{never}
use Rattle.js_spelling.proofs.Characters.{start_continues}
use Rattle.js_spelling.proofs.Numbers.{goes_on}
use Rattle.js_spelling.proofs.Alone.{apart, Found, found, choice, choice_is, word_plain, word_all, not_to, not_by, not_mark}

-- ---- the first character of a token

-- a token that begins with this character and is no part of a template that goes on
pub record Begins (k : Kind) (c : ℕ) (cs : List ℕ) : Type 0 where
  pub goal : Goal
  pub token : common_token goal (c ∷ cs) ≡ Some (found k (length (c ∷ cs)))

abbrev is_part : Kind → Bool
is_part (T.TemplateMiddle w) = true
is_part (T.TemplateTail w) = true
is_part k = false

pub alone_at : (k : Kind) (cs : List ℕ) → IsToken k → letters k ≡ cs → token_of (goal_of k) cs ≡ Some (found k (length cs))
alone_at k cs is e = subst (λ xs. token_of (goal_of k) xs ≡ Some (found k (length xs))) e is.alone

pub begins : (k : Kind) (c : ℕ) (cs : List ℕ) → IsToken k → letters k ≡ c ∷ cs → is_part k ≡ false → Begins k c cs
begins (RegularExpression w) c cs is e p = record { goal = goal.RegExp; token = alone_at (RegularExpression w) (c ∷ cs) is e }
begins (T.TemplateMiddle w) c cs is e p = absurd (true≢false p)
begins (T.TemplateTail w) c cs is e p = absurd (true≢false p)
begins k c cs is e p = record { goal = goal.Div; token = alone_at k (c ∷ cs) is e }

pub brace_first : (k : Kind × ℕ) (c : ℕ) (cs : List ℕ) → continued_token (c ∷ cs) ≡ Some k → c ≡ 0x7D
brace_first k c cs h = by_brace (c == 0x7D) refl h
  where
    by_brace : (b : Bool) → (c == 0x7D) ≡ b → cond {A = Found} b (token_by continued_kind c cs (template_rest zero cs)) None ≡ Some k → c ≡ 0x7D
    by_brace true e h = eqb-true c 0x7D e
    by_brace false e h = absurd (never h)

-- it is no backslash: a word with an escape isn't written
pub no_backslash_begins : (k : Kind) (c : ℕ) (cs : List ℕ) → is_written k ≡ true → Begins k c cs → is_backslash c ≡ false
no_backslash_begins k c cs w b = by_test (is_backslash c) refl
  where
    by_test : (t : Bool) → is_backslash c ≡ t → is_backslash c ≡ false
    by_test false e = e
    by_test true e = (word_plain k (length (c ∷ cs)) c cs w (sym (choice_is b.goal c cs (or_right (starts_identifier c) (is_backslash c) e) refl refl refl refl) ∙ b.token)).no_escape

pub backslash_first : (k : Kind) (cs : List ℕ) → IsToken k → letters k ≡ cs → first_is is_backslash cs ≡ false
backslash_first k [] is e = refl
backslash_first (T.TemplateMiddle w) (c ∷ cs) is e = ap is_backslash (brace_first (found (T.TemplateMiddle w) (length (c ∷ cs))) c cs (alone_at (T.TemplateMiddle w) (c ∷ cs) is e))
backslash_first (T.TemplateTail w) (c ∷ cs) is e = ap is_backslash (brace_first (found (T.TemplateTail w) (length (c ∷ cs))) c cs (alone_at (T.TemplateTail w) (c ∷ cs) is e))
backslash_first k (c ∷ cs) is e = no_backslash_begins k c cs is.written (begins k c cs is e refl)

-- numbers that are unlike are told apart
unequal : (c x : ℕ) → (c ≡ x → ⊥) → (c == x) ≡ false
unequal c x apart = by_test (c == x) refl
  where
    by_test : (t : Bool) → (c == x) ≡ t → (c == x) ≡ false
    by_test false e = e
    by_test true e = absurd (apart (eqb-true c x e))

pub start_no_digit : (c : ℕ) → starts_identifier c ≡ true → is_digit c ≡ false
unfolding starts_identifier is_digit
start_no_digit c h = by_test (is_digit c) refl
  where
    by_test : (b : Bool) → is_digit c ≡ b → is_digit c ≡ false
    by_test false e = e
    by_test true e =
        let both = and_parts (nat_le 48 c) (nat_le c 57) e in
        let low : 48 ≤ c = leb-true 48 c both.0 in
        let high : c ≤ 57 = leb-true c 57 both.1 in
        let none : char.is_ascii_alphabetic c ≡ false =
        or_from (is_in_range 65 90 c) (is_in_range 97 122 c) (ap (λ b. b && nat_le c 90) (lt-leb 65 c (omega arith))) (ap (λ b. b && nat_le c 122) (lt-leb 97 c (omega arith))) in
        let no : starts_identifier c ≡ false =
        ap (λ b. b || (c == 0x24) || (c == 0x5F)) (is_xid_start-ascii c (omega arith) ∙ none) ∙ or_from (c == 0x24) (c == 0x5F) (unequal c 0x24 (λ q. omega (arith, q))) (unequal c 0x5F (λ q. omega (arith, q))) in
        absurd (true≢false (sym h ∙ no))

-- ---- words

abbrev is_plain_word : Kind → Bool
is_plain_word (Word w) = true
is_plain_word k = false

number_no_word : (b : Bool) (w : List ℕ) → is_plain_word (number_kind b w) ≡ false
number_no_word true w = refl
number_no_word false w = refl

template_no_word : (b : Bool) (w : List ℕ) → is_plain_word (template_kind b w) ≡ false
template_no_word true w = refl
template_no_word false w = refl

-- what begins with `/` is a punctuator or a regular expression
pub slash_kind : (is : Kind → Bool) (g : Goal) (cs : List ℕ) (k : Kind) (n : ℕ) → is k ≡ true → ((p : Punctuator) → is (T.Punctuator p) ≡ false) → ((w : List ℕ) → is (RegularExpression w) ≡ false) →
    (b : Bool) → cond {A = Found} b None (slash_token g cs) ≡ Some (found k n) → ⊥
slash_kind is g cs k n good mark regular true h = never h
slash_kind is goal.RegExp cs k n good mark regular false h = not_to is RegularExpression 0x2F cs _ k n good regular h
slash_kind is goal.Div cs k n good mark regular false h = not_mark is goal.Div (longest_punctuator (0x2F ∷ cs)) k n good mark h
slash_kind is goal.Template cs k n good mark regular false h = not_mark is goal.Template (longest_punctuator (0x2F ∷ cs)) k n good mark h

pub record WordBegins (k : Kind) (c : ℕ) (cs : List ℕ) : Type 0 where
  pub start : starts_identifier c ≡ true
  pub more : list_all continues_identifier cs ≡ true

pub word_begins : (w : List ℕ) (c : ℕ) (cs : List ℕ) → Begins (Word w) c cs → WordBegins (Word w) c cs
word_begins w c cs b =
    by_tests (starts_identifier c || is_backslash c) (begins_number c cs) (is_quote c) (c == 0x60) (c == 0x2F) refl (sym (choice_is b.goal c cs refl refl refl refl refl) ∙ b.token)
  where
    or_first : (x y : Bool) → (x || y) ≡ true → y ≡ false → x ≡ true
    or_first true y h e = refl
    or_first false y h e = absurd (true≢false (sym h ∙ e))

    by_tests : (t u d e f : Bool) → (starts_identifier c || is_backslash c) ≡ t → choice t u d e f b.goal c cs ≡ Some (found (Word w) (length (c ∷ cs))) → WordBegins (Word w) c cs
    by_tests true u d e f x h =
        let plain = word_plain (Word w) (length (c ∷ cs)) c cs refl h in
        record { start = or_first (starts_identifier c) (is_backslash c) x plain.no_escape; more = word_all (Word w) c cs plain }
    by_tests false true d e f x h = absurd (not_by is_plain_word number_kind c cs (number_rest c cs) (Word w) (length (c ∷ cs)) refl number_no_word h)
    by_tests false false true e f x h = absurd (not_to is_plain_word StringLiteral c cs (string_rest c zero cs) (Word w) (length (c ∷ cs)) refl (λ q. refl) h)
    by_tests false false false true f x h = absurd (not_by is_plain_word template_kind c cs (template_rest zero cs) (Word w) (length (c ∷ cs)) refl template_no_word h)
    by_tests false false false false true x h = absurd (slash_kind is_plain_word b.goal cs (Word w) (length (c ∷ cs)) refl (λ q. refl) (λ q. refl) (begins_comment cs) h)
    by_tests false false false false false x h = absurd (not_mark is_plain_word b.goal (longest_punctuator (c ∷ cs)) (Word w) (length (c ∷ cs)) refl (λ q. refl) h)

last_all : (test : ℕ → Bool) (c : ℕ) (cs : List ℕ) → test c ≡ true → list_all test cs ≡ true → last_is test (c ∷ cs) ≡ true
last_all test c [] h all = h
last_all test c (d ∷ cs) h all = let both = and_parts (test d) (list_all test cs) all in last_all test d cs both.0 both.1

pub word_last : (w cs : List ℕ) → IsToken (Word w) → letters (Word w) ≡ cs → last_is continues_identifier cs ≡ true
word_last w [] is e = absurd (omega (arith, is.some, ap length e))
word_last w (c ∷ cs) is e =
    let word = word_begins w c cs (begins (Word w) c cs is e refl) in
    last_all continues_identifier c cs (start_continues c word.start) word.more

-- ---- what a space would stand between

pub record Spaced (left right : Kind) : Type 0 where
  pub words : (last_is continues_identifier (letters left) && first_is continues_identifier (letters right)) ≡ false
  pub numbers : ((is_number left || is_regular_expression left) && first_is continues_identifier (letters right)) ≡ false
  pub points : (is_number left && first_is (λ c. c == 0x2E) (letters right)) ≡ false
  pub plus : meet 0x2B 0x2B (letters left) (letters right) ≡ false
  pub minus : meet 0x2D 0x2D (letters left) (letters right) ≡ false
  pub slash : meet 0x2F 0x2F (letters left) (letters right) ≡ false

pub unspaced : (left right : Kind) → spaced left right ≡ false → Spaced left right
unspaced left right h =
    let a = (last_is continues_identifier (letters left) && first_is continues_identifier (letters right)) in
    let b = ((is_number left || is_regular_expression left) && first_is continues_identifier (letters right)) in
    let d = (is_number left && first_is (λ c. c == 0x2E) (letters right)) in
    let e = meet 0x2B 0x2B (letters left) (letters right) in
    let f = meet 0x2D 0x2D (letters left) (letters right) in
    let g = meet 0x2F 0x2F (letters left) (letters right) in
    let i = meet 0x3C 0x21 (letters left) (letters right) in
    let one = or_parts (a || b || d || e || f || g) i h in
    let two = or_parts (a || b || d || e || f) g one.0 in
    let three = or_parts (a || b || d || e) f two.0 in
    let four = or_parts (a || b || d) e three.0 in
    let five = or_parts (a || b) d four.0 in
    let six = or_parts a b five.0 in
    record { words = six.0; numbers = six.1; points = five.1; plus = four.1; minus = three.1; slash = two.1 }

pub and_first : (x y : Bool) → (x && y) ≡ false → x ≡ true → y ≡ false
and_first true y h e = h
and_first false y h e = absurd (true≢false (sym e))

pub first_both : (test other : ℕ → Bool) (cs : List ℕ) → first_is test cs ≡ false → first_is other cs ≡ false → first_is (λ c. test c || other c) cs ≡ false
first_both test other [] h k = refl
first_both test other (c ∷ cs) h k = or_from (test c) (other c) h k

pub first_nothing : (cs : List ℕ) → first_is (λ c. false) cs ≡ false
first_nothing [] = refl
first_nothing (c ∷ cs) = refl

pub number_meets : (left right : Kind) → is_number left ≡ true → IsToken right → Spaced left right → first_is goes_on (letters right) ≡ false
number_meets left right n is s =
    first_both (λ c. continues_identifier c || is_backslash c) (λ c. c == 0x2E) (letters right)
    (first_both continues_identifier is_backslash (letters right)
    (and_first (is_number left || is_regular_expression left) (first_is continues_identifier (letters right)) s.numbers (or_left (is_number left) (is_regular_expression left) n))
    (backslash_first right (letters right) is refl))
    (and_first (is_number left) (first_is (λ c. c == 0x2E) (letters right)) s.points n)
