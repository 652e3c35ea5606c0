-- A punctuator is apart from what may follow it where nothing stands between.
use Rattle.std.proofs.Common.{◌≡◌, ℕ, ◌⊎◌, inl, inr, ◌==◌, ◌||◌, ◌&&◌, not, cond, Bool, true, false, List, [], ◌∷◌, ◌++◌, length, Some, refl, sym, ap, ◌∙◌, arith}
use Rattle.std.specs.List.{list_any, list_all}
use Rattle.std.proofs.lemmas.Bool.{true≢false, and_parts, or_from, or_left, or_right, or_cases, eqb-true}
use Rattle.std.proofs.lemmas.Str.{chars-IsAscii}
use Rattle.js_text.specs.Character.{starts_identifier, continues_identifier, is_digit, begins_with_digit}
use Rattle.js_text.specs.declared.punctuator.Punctuator.{Punctuator}
use Rattle.js_text.specs.declared.punctuator.Punctuator.TheVariants as P
use Rattle.js_text.specs.Punctuator.{spelling_of, punctuators, begins_with, longest_punctuator}
use Rattle.js_text.specs.Identifier.{is_backslash}
use Rattle.js_text.specs.Number.{number_rest}
use Rattle.js_text.specs.Token.{Kind, Word, EscapedWord}
use Rattle.js_text.specs.Token as T
use Rattle.js_text.specs.Lex.{number_kind, is_quote, begins_number}
use Rattle.js_spelling.specs.Written.{letters, first_is, last_is, meet, is_number}
use Rattle.js_spelling.specs.Tokens.{is_written, IsToken, begins_operand, is_name, is_longest, may_follow}
use Rattle.js_spelling.proofs.Characters.{is_sign, sign_no_word, start_continues, digit_continues}
use Rattle.js_spelling.proofs.Marks.{longer_with, mark_joins, mark_apart}
use Rattle.js_spelling.proofs.Alone.{found, choice, choice_is, mark_ascii, not_by, not_mark}
use Rattle.js_spelling.proofs.Neighbours.{Begins, begins, brace_first, alone_at, no_backslash_begins, start_no_digit, word_begins, Spaced}

-- ---- no character of a word goes on with a punctuator

holds : (s t : List ℕ) (c : ℕ) → begins_with (s ++ c ∷ []) t ≡ true → list_any (λ x. x == c) t ≡ true
holds [] [] c h = h
holds [] (x ∷ t) c h = ap (λ b. b || list_any (λ y. y == c) t) (and_parts (x == c) true h).0
holds (s ∷ ss) [] c h = absurd (true≢false (sym h))
holds (s ∷ ss) (x ∷ t) c h = or_right (x == c) (list_any (λ y. y == c) t) (holds ss t c (and_parts (x == s) (begins_with (ss ++ c ∷ []) t) h).1)

-- none of these passes a test that all of those fail
none_passes : {X : Type 0} (test good : X → Bool) (xs : List X) → ((x : X) → good x ≡ true → test x ≡ true → ⊥) → list_all good xs ≡ true → list_any test xs ≡ false
none_passes test good [] nope all = refl
none_passes test good (x ∷ xs) nope all = by_test (test x) refl (none_passes test good xs nope (and_parts (good x) (list_all good xs) all).1) (nope x (and_parts (good x) (list_all good xs) all).0)
  where
    by_test : (b : Bool) → test x ≡ b → list_any test xs ≡ false → (test x ≡ true → ⊥) → (b || list_any test xs) ≡ false
    by_test true e q f = absurd (f e)
    by_test false e q f = q

marks_are_signs : list_all (λ q. list_all is_sign (spelling_of q)) punctuators ≡ true
marks_are_signs = refl

not_among : (c : ℕ) (cs : List ℕ) → continues_identifier c ≡ true → list_all is_sign cs ≡ true → list_any (λ x. x == c) cs ≡ false
not_among c cs h n = none_passes (λ x. x == c) is_sign cs (λ x g e. true≢false (sym h ∙ ap continues_identifier (sym (eqb-true x c e)) ∙ sign_no_word x g)) n

letter_safe : (p : Punctuator) (c : ℕ) → continues_identifier c ≡ true → longer_with p c ≡ false
letter_safe p c h = none_passes (λ q. begins_with (spelling_of p ++ c ∷ []) (spelling_of q)) (λ q. list_all is_sign (spelling_of q)) punctuators
    (λ q n e. true≢false (sym (holds (spelling_of p) (spelling_of q) c e) ∙ not_among c (spelling_of q) h n)) marks_are_signs

unlike : (x c : ℕ) → is_sign x ≡ true → continues_identifier c ≡ true → (c == x) ≡ false
unlike x c s h = by_test (c == x) refl
  where
    by_test : (b : Bool) → (c == x) ≡ b → (c == x) ≡ false
    by_test false e = e
    by_test true e = absurd (true≢false (sym h ∙ ap continues_identifier (eqb-true c x e) ∙ sign_no_word x s))

-- `.` and `?.` are no operators
abbrev is_operator : Punctuator → Bool
is_operator P.Dot = false
is_operator P.OptionalChain = false
is_operator p = true

letter_joins : (p : Punctuator) (c : ℕ) → is_operator p ≡ true → continues_identifier c ≡ true → mark_joins p c ≡ false
letter_joins P.Dot c o h = absurd (true≢false (sym o))
letter_joins P.OptionalChain c o h = absurd (true≢false (sym o))
letter_joins P.Slash c o h = or_from ((c == 0x2F) || (c == 0x2A)) (longer_with P.Slash c) (or_from (c == 0x2F) (c == 0x2A) (unlike 0x2F c refl h) (unlike 0x2A c refl h)) (letter_safe P.Slash c h)
letter_joins P.UnsignedShiftRightAssign c o h = letter_safe P.UnsignedShiftRightAssign c h
letter_joins p c o h = letter_safe p c h

-- ---- the signs with which an operand begins

abbrev signs : List ℕ
signs = 0x27 ∷ 0x22 ∷ 0x60 ∷ 0x2F ∷ 0x28 ∷ 0x5B ∷ 0x7B ∷ 0x7E ∷ 0x21 ∷ 0x2B ∷ 0x2D ∷ []

abbrev is_one : ℕ → Bool
is_one c = list_any (λ x. x == c) signs

-- a space stands between
abbrev parted : Punctuator → ℕ → Bool
parted p c =
    ((last_is (λ d. d == 0x2B) (spelling_of p) && (c == 0x2B)) || (last_is (λ d. d == 0x2D) (spelling_of p) && (c == 0x2D))) || (last_is (λ d. d == 0x2F) (spelling_of p) && (c == 0x2F))

sign_table : (p : Punctuator) → list_all (λ c. not (mark_joins p c) || parted p c) signs ≡ true
unfolding is_digit
sign_table P.UnsignedShiftRightAssign = refl
sign_table p = refl

all_at : (test : ℕ → Bool) (xs : List ℕ) (c : ℕ) → list_all test xs ≡ true → list_any (λ x. x == c) xs ≡ true → test c ≡ true
all_at test [] c all h = absurd (true≢false (sym h))
all_at test (x ∷ xs) c all h = by_test (x == c) refl h (λ k. all_at test xs c both.1 k)
  where
    both : (test x ≡ true) × (list_all test xs ≡ true)
    both = and_parts (test x) (list_all test xs) all

    by_test : (b : Bool) → (x == c) ≡ b → (b || list_any (λ y. y == c) xs) ≡ true → (list_any (λ y. y == c) xs ≡ true → test c ≡ true) → test c ≡ true
    by_test true e h go = ap test (sym (eqb-true x c e)) ∙ both.0
    by_test false e h go = go h

mark_letters : (p : Punctuator) → letters (T.Punctuator p) ≡ spelling_of p
mark_letters p = chars-IsAscii (spelling_of p) (mark_ascii p)

meets_not : (x : ℕ) (p : Punctuator) (right : Kind) (c : ℕ) (cs : List ℕ) → letters right ≡ c ∷ cs → meet x x (letters (T.Punctuator p)) (letters right) ≡ false → (last_is (λ d. d == x) (spelling_of p) && (c == x)) ≡ false
meets_not x p right c cs e h =
    ap (λ ls. last_is (λ d. d == x) ls && (c == x)) (sym (mark_letters p)) ∙ ap (λ ls. last_is (λ d. d == x) (letters (T.Punctuator p)) && first_is (λ d. d == x) ls) (sym e) ∙ h

sign_joins : (p : Punctuator) (right : Kind) (c : ℕ) (cs : List ℕ) → is_one c ≡ true → letters right ≡ c ∷ cs → Spaced (T.Punctuator p) right → mark_joins p c ≡ false
sign_joins p right c cs one e s =
    let apart : parted p c ≡ false =
    or_from ((last_is (λ d. d == 0x2B) (spelling_of p) && (c == 0x2B)) || (last_is (λ d. d == 0x2D) (spelling_of p) && (c == 0x2D))) (last_is (λ d. d == 0x2F) (spelling_of p) && (c == 0x2F))
    (or_from (last_is (λ d. d == 0x2B) (spelling_of p) && (c == 0x2B)) (last_is (λ d. d == 0x2D) (spelling_of p) && (c == 0x2D)) (meets_not 0x2B p right c cs e s.plus) (meets_not 0x2D p right c cs e s.minus))
    (meets_not 0x2F p right c cs e s.slash) in
    by_join (mark_joins p c) (ap (λ b. not (mark_joins p c) || b) (sym apart) ∙ all_at (λ d. not (mark_joins p d) || parted p d) signs c (sign_table p) one)
  where
    by_join : (b : Bool) → (not b || false) ≡ true → b ≡ false
    by_join true h = absurd (true≢false (sym h))
    by_join false h = refl

-- ---- what an operand begins with

abbrev opens : ℕ → List ℕ → Bool
opens c cs = (continues_identifier c || is_one c) || ((c == 0x2E) && begins_with_digit cs)

by_letter : (c : ℕ) (cs : List ℕ) → continues_identifier c ≡ true → opens c cs ≡ true
by_letter c cs h = or_left (continues_identifier c || is_one c) ((c == 0x2E) && begins_with_digit cs) (or_left (continues_identifier c) (is_one c) h)

by_sign : (c : ℕ) (cs : List ℕ) → is_one c ≡ true → opens c cs ≡ true
by_sign c cs h = or_left (continues_identifier c || is_one c) ((c == 0x2E) && begins_with_digit cs) (or_right (continues_identifier c) (is_one c) h)

by_equal : (x c : ℕ) (cs : List ℕ) → is_one x ≡ true → (c == x) ≡ true → opens c cs ≡ true
by_equal x c cs h e = by_sign c cs (ap is_one (eqb-true c x e) ∙ h)

abbrev is_other : Kind → Bool
is_other (T.Punctuator p) = false
is_other k = true

opens_other : (k : Kind) (c : ℕ) (cs : List ℕ) → is_written k ≡ true → is_other k ≡ true → Begins k c cs → opens c cs ≡ true
opens_other k c cs w other b =
    by_tests (starts_identifier c || is_backslash c) (begins_number c cs) (is_quote c) (c == 0x60) (c == 0x2F) refl refl refl refl refl (sym (choice_is b.goal c cs refl refl refl refl refl) ∙ b.token)
  where
    by_start : (x : Bool) → starts_identifier c ≡ x → (x || is_backslash c) ≡ true → opens c cs ≡ true
    by_start true e h = by_letter c cs (start_continues c e)
    by_start false e h = absurd (true≢false (sym h ∙ no_backslash_begins k c cs w b))

    by_digit : (x : Bool) → is_digit c ≡ x → (x || ((c == 0x2E) && begins_with_digit cs)) ≡ true → opens c cs ≡ true
    by_digit true e h = by_letter c cs (digit_continues c e)
    by_digit false e h = or_right (continues_identifier c || is_one c) ((c == 0x2E) && begins_with_digit cs) h

    by_quote : (x : Bool) → (c == 0x27) ≡ x → (x || (c == 0x22)) ≡ true → opens c cs ≡ true
    by_quote true e h = by_equal 0x27 c cs refl e
    by_quote false e h = by_equal 0x22 c cs refl h

    by_tests : (t u d e f : Bool) → (starts_identifier c || is_backslash c) ≡ t → begins_number c cs ≡ u → is_quote c ≡ d → (c == 0x60) ≡ e → (c == 0x2F) ≡ f →
        choice t u d e f b.goal c cs ≡ Some (found k (length (c ∷ cs))) → opens c cs ≡ true
    by_tests true u d e f x y z v q h = by_start (starts_identifier c) refl x
    by_tests false true d e f x y z v q h = by_digit (is_digit c) refl y
    by_tests false false true e f x y z v q h = by_quote (c == 0x27) refl z
    by_tests false false false true f x y z v q h = by_equal 0x60 c cs refl v
    by_tests false false false false true x y z v q h = by_equal 0x2F c cs refl q
    by_tests false false false false false x y z v q h = absurd (not_mark is_other b.goal (longest_punctuator (c ∷ cs)) k (length (c ∷ cs)) other (λ p. refl) h)

operand_mark : (q : Punctuator) → begins_operand (T.Punctuator q) ≡ true → first_is is_one (spelling_of q) ≡ true
operand_mark P.OpenParenthesis h = refl
operand_mark P.OpenBracket h = refl
operand_mark P.OpenBrace h = refl
operand_mark P.Increment h = refl
operand_mark P.Decrement h = refl
operand_mark P.Plus h = refl
operand_mark P.Minus h = refl
operand_mark P.Tilde h = refl
operand_mark P.Exclamation h = refl
operand_mark q h = absurd (true≢false (sym h))

opens_operand : (k : Kind) (c : ℕ) (cs : List ℕ) → begins_operand k ≡ true → IsToken k → letters k ≡ c ∷ cs → opens c cs ≡ true
opens_operand (T.Punctuator q) c cs h is e = by_sign c cs (ap (first_is is_one) (sym e ∙ mark_letters q) ∙ operand_mark q h)
opens_operand (T.TemplateMiddle w) c cs h is e = absurd (true≢false (sym h))
opens_operand (T.TemplateTail w) c cs h is e = absurd (true≢false (sym h))
opens_operand k c cs h is e = opens_other k c cs is.written refl (begins k c cs is e refl)

-- ---- an operator before an operand

apart_by : (p : Punctuator) (c : ℕ) (cs : List ℕ) → mark_joins p c ≡ false → mark_apart p (c ∷ cs) ≡ true
apart_by P.Question c cs h = by_point (c == 0x2E) refl
  where
    by_point : (b : Bool) → (c == 0x2E) ≡ b → cond (c == 0x2E) (begins_with_digit cs) (not (longer_with P.Question c)) ≡ true
    by_point true e = absurd (true≢false (ap (longer_with P.Question) (sym (eqb-true c 0x2E e)) ∙ h))
    by_point false e = ap (λ b. cond b (begins_with_digit cs) (not (longer_with P.Question c))) e ∙ ap not h
apart_by P.UnsignedShiftRightAssign c cs h = ap not h
apart_by p c cs h = ap not h

point_apart : (p : Punctuator) (cs : List ℕ) → is_operator p ≡ true → begins_with_digit cs ≡ true → mark_apart p (0x2E ∷ cs) ≡ true
point_apart P.Question cs o h = h
point_apart P.Dot cs o h = absurd (true≢false (sym o))
point_apart P.OptionalChain cs o h = absurd (true≢false (sym o))
point_apart P.UnsignedShiftRightAssign cs o h = refl
point_apart p cs o h = refl

operand_apart : (p : Punctuator) (right : Kind) → is_operator p ≡ true → IsToken right → begins_operand right ≡ true → Spaced (T.Punctuator p) right → (cs : List ℕ) → letters right ≡ cs → mark_apart p cs ≡ true
operand_apart p right o is h s [] e = absurd (omega (arith, is.some, ap length e))
operand_apart p right o is h s (c ∷ cs) e = by_first (or_cases (continues_identifier c || is_one c) ((c == 0x2E) && begins_with_digit cs) (opens_operand right c cs h is e))
  where
    by_char : (continues_identifier c ≡ true) ⊎ (is_one c ≡ true) → mark_apart p (c ∷ cs) ≡ true
    by_char (inl k) = apart_by p c cs (letter_joins p c o k)
    by_char (inr k) = apart_by p c cs (sign_joins p right c cs k e s)

    by_first : ((continues_identifier c || is_one c) ≡ true) ⊎ (((c == 0x2E) && begins_with_digit cs) ≡ true) → mark_apart p (c ∷ cs) ≡ true
    by_first (inl k) = by_char (or_cases (continues_identifier c) (is_one c) k)
    by_first (inr k) =
        let both = and_parts (c == 0x2E) (begins_with_digit cs) k in
        ap (λ d. mark_apart p (d ∷ cs)) (eqb-true c 0x2E both.0) ∙ point_apart p cs o both.1

-- ---- all punctuators

pub mark_before_none : (p : Punctuator) → mark_apart p [] ≡ true
mark_before_none P.Question = refl
mark_before_none P.UnsignedShiftRightAssign = refl
mark_before_none p = refl

longest_apart : (p : Punctuator) (cs : List ℕ) → is_longest p ≡ true → mark_apart p cs ≡ true
longest_apart p [] h = mark_before_none p
longest_apart P.OpenParenthesis (c ∷ cs) h = refl
longest_apart P.CloseParenthesis (c ∷ cs) h = refl
longest_apart P.OpenBracket (c ∷ cs) h = refl
longest_apart P.CloseBracket (c ∷ cs) h = refl
longest_apart P.OpenBrace (c ∷ cs) h = refl
longest_apart P.CloseBrace (c ∷ cs) h = refl
longest_apart P.Semicolon (c ∷ cs) h = refl
longest_apart P.Comma (c ∷ cs) h = refl
longest_apart P.Colon (c ∷ cs) h = refl
longest_apart P.Tilde (c ∷ cs) h = refl
longest_apart P.Increment (c ∷ cs) h = refl
longest_apart P.Decrement (c ∷ cs) h = refl
longest_apart P.Arrow (c ∷ cs) h = refl
longest_apart p (c ∷ cs) h = absurd (true≢false (sym h))

dot_apart : (right : Kind) → IsToken right → is_name right ≡ true → (cs : List ℕ) → letters right ≡ cs → mark_apart P.Dot cs ≡ true
dot_apart right is h [] e = refl
dot_apart (Word w) is h (c ∷ cs) e =
    let word = word_begins w c cs (begins (Word w) c cs is e refl) in
    ap not (or_from (is_digit c) (longer_with P.Dot c) (start_no_digit c word.start) (letter_safe P.Dot c (start_continues c word.start)))
dot_apart (EscapedWord w) is h (c ∷ cs) e = absurd (true≢false (sym is.written))
dot_apart right is h (c ∷ cs) e = absurd (true≢false (sym h))

abbrev is_no_number : Kind → Bool
is_no_number k = not (is_number k)

number_is_one : (b : Bool) (w : List ℕ) → is_no_number (number_kind b w) ≡ false
number_is_one true w = refl
number_is_one false w = refl

-- only a number begins with a digit
digit_first : (k : Kind) (c : ℕ) (cs : List ℕ) → is_written k ≡ true → is_no_number k ≡ true → Begins k c cs → is_digit c ≡ false
digit_first k c cs w n b = by_test (is_digit c) refl
  where
    by_start : (x : Bool) → starts_identifier c ≡ x → is_digit c ≡ true → starts_identifier c ≡ false
    by_start true e h = absurd (true≢false (sym h ∙ start_no_digit c e))
    by_start false e h = e

    by_test : (x : Bool) → is_digit c ≡ x → is_digit c ≡ false
    by_test false e = e
    by_test true e =
        let start : (starts_identifier c || is_backslash c) ≡ false = or_from (starts_identifier c) (is_backslash c) (by_start (starts_identifier c) refl e) (no_backslash_begins k c cs w b) in
        let number : begins_number c cs ≡ true = or_left (is_digit c) ((c == 0x2E) && begins_with_digit cs) e in
        absurd (not_by is_no_number number_kind c cs (number_rest c cs) k (length (c ∷ cs)) n number_is_one (sym (choice_is b.goal c cs start number refl refl refl) ∙ b.token))

chain_apart : (right : Kind) → IsToken right → is_no_number right ≡ true → (cs : List ℕ) → letters right ≡ cs → mark_apart P.OptionalChain cs ≡ true
unfolding is_digit
chain_apart right is n [] e = refl
chain_apart (T.TemplateMiddle w) is n (c ∷ cs) e = ap (λ d. not (is_digit d)) (brace_first (found (T.TemplateMiddle w) (length (c ∷ cs))) c cs (alone_at (T.TemplateMiddle w) (c ∷ cs) is e))
chain_apart (T.TemplateTail w) is n (c ∷ cs) e = ap (λ d. not (is_digit d)) (brace_first (found (T.TemplateTail w) (length (c ∷ cs))) c cs (alone_at (T.TemplateTail w) (c ∷ cs) is e))
chain_apart right is n (c ∷ cs) e = ap not (digit_first right c cs is.written n (begins right c cs is e refl))

by_longest : (p : Punctuator) (right : Kind) (b : Bool) → is_operator p ≡ true → is_longest p ≡ b → (b || begins_operand right) ≡ true → IsToken right → Spaced (T.Punctuator p) right → mark_apart p (letters right) ≡ true
by_longest p right true o e h is s = longest_apart p (letters right) e
by_longest p right false o e h is s = operand_apart p right o is h s (letters right) refl

pub mark_meets : (p : Punctuator) (right : Kind) → IsToken right → may_follow (T.Punctuator p) right ≡ true → Spaced (T.Punctuator p) right → mark_apart p (letters right) ≡ true
mark_meets P.Dot right is h s = dot_apart right is h (letters right) refl
mark_meets P.OptionalChain right is h s = chain_apart right is h (letters right) refl
mark_meets P.UnsignedShiftRightAssign right is h s = by_longest P.UnsignedShiftRightAssign right (is_longest P.UnsignedShiftRightAssign) refl refl h is s
mark_meets p right is h s = by_longest p right (is_longest p) refl refl h is s
