-- The text of tokens is UTF-8, and its tokens are those.
use Rattle.std.proofs.Common.{◌≡◌, ℕ, ◌<◌, ◌==◌, ◌||◌, not, cond, Bool, true, false, List, [], ◌∷◌, ◌++◌, length, refl, sym, ap, arith}
use Rattle.std.proofs.lemmas.Bool.{true≢false}
use Rattle.std.proofs.lemmas.Str.{IsUtf8-nil}
use Rattle.js_text.specs.Character.{continues_identifier, is_digit, begins_with_digit}
use Rattle.js_text.specs.Identifier.{is_backslash}
use Rattle.js_text.specs.declared.punctuator.Punctuator.{Punctuator}
use Rattle.js_text.specs.declared.punctuator.Punctuator.TheVariants as P
use Rattle.js_text.specs.Token.{Kind, Word, EscapedWord, Numeral, BigInt, RegularExpression, End}
use Rattle.js_text.specs.Token as T
use Rattle.js_spelling.specs.Written.{Written, letters, first_is, last_is, spaced, between, after_last}
use Rattle.js_spelling.specs.Tokens.{is_written, IsToken, AreTokens, may_follow, Neighbours, AreNeighbours}
use Rattle.js_spelling.specs.Laws.{IsText, ReadsTokensAgain}
use Rattle.js_spelling.proofs.Characters.{sign_no_word}
use Rattle.js_spelling.proofs.Marks.{longer_with, question_apart, mark_apart}
use Rattle.js_spelling.proofs.Alone.{apart}
use Rattle.js_spelling.proofs.Lexed.{letters_after, AreApart, AreAllApart, text_letters, lexed_text}
use Rattle.js_spelling.proofs.Neighbours.{Spaced, unspaced, backslash_first, word_last, and_first, first_both, first_nothing, number_meets}
use Rattle.js_spelling.proofs.Operators.{mark_meets, mark_before_none}

-- ---- neighbours

meets : (left right : Kind) → IsToken left → IsToken right → may_follow left right ≡ true → Spaced left right → apart left (letters right) ≡ true
meets (T.Punctuator p) right l r h s = mark_meets p right r h s
meets (Word w) right l r h s =
    ap not (first_both continues_identifier is_backslash (letters right)
    (and_first (last_is continues_identifier (letters (Word w))) (first_is continues_identifier (letters right)) s.words (word_last w (letters (Word w)) l refl)) (backslash_first right (letters right) r refl))
meets (Numeral w) right l r h s = ap not (number_meets (Numeral w) right refl r s)
meets (BigInt w) right l r h s = ap not (number_meets (BigInt w) right refl r s)
meets (RegularExpression w) right l r h s = ap not (and_first true (first_is continues_identifier (letters right)) s.numbers refl)
meets (EscapedWord w) right l r h s = absurd (true≢false (sym l.written))
meets End right l r h s = absurd (true≢false (sym l.written))
meets k right l r h s = ap not (first_nothing (letters right))

-- ---- a space, a line's end and nothing

space_continues : continues_identifier 0x20 ≡ false
space_continues = sign_no_word 0x20 refl

line_continues : continues_identifier 0x0A ≡ false
line_continues = sign_no_word 0x0A refl

space_after : (p : Punctuator) (rest : List ℕ) → mark_apart p (0x20 ∷ rest) ≡ true
unfolding is_digit
space_after P.UnsignedShiftRightAssign rest = refl
space_after p rest = refl

line_after : (p : Punctuator) (rest : List ℕ) → mark_apart p (0x0A ∷ rest) ≡ true
unfolding is_digit
line_after P.UnsignedShiftRightAssign rest = refl
line_after p rest = refl

before_space : (k : Kind) (rest : List ℕ) → is_written k ≡ true → apart k (0x20 ∷ rest) ≡ true
before_space (T.Punctuator p) rest w = space_after p rest
before_space (Word v) rest w = ap (λ b. not (b || is_backslash 0x20)) space_continues
before_space (Numeral v) rest w = ap (λ b. not ((b || is_backslash 0x20) || (0x20 == 0x2E))) space_continues
before_space (BigInt v) rest w = ap (λ b. not ((b || is_backslash 0x20) || (0x20 == 0x2E))) space_continues
before_space (RegularExpression v) rest w = ap not space_continues
before_space (EscapedWord v) rest w = absurd (true≢false (sym w))
before_space End rest w = absurd (true≢false (sym w))
before_space k rest w = refl

before_line : (k : Kind) (rest : List ℕ) → is_written k ≡ true → apart k (0x0A ∷ rest) ≡ true
before_line (T.Punctuator p) rest w = line_after p rest
before_line (Word v) rest w = ap (λ b. not (b || is_backslash 0x0A)) line_continues
before_line (Numeral v) rest w = ap (λ b. not ((b || is_backslash 0x0A) || (0x0A == 0x2E))) line_continues
before_line (BigInt v) rest w = ap (λ b. not ((b || is_backslash 0x0A) || (0x0A == 0x2E))) line_continues
before_line (RegularExpression v) rest w = ap not line_continues
before_line (EscapedWord v) rest w = absurd (true≢false (sym w))
before_line End rest w = absurd (true≢false (sym w))
before_line k rest w = refl

pub before_none : (k : Kind) → is_written k ≡ true → apart k [] ≡ true
before_none (T.Punctuator p) w = mark_before_none p
before_none (EscapedWord v) w = absurd (true≢false (sym w))
before_none End w = absurd (true≢false (sym w))
before_none k w = refl

digit_more : (cs rest : List ℕ) → begins_with_digit cs ≡ true → begins_with_digit (cs ++ rest) ≡ true
digit_more [] rest h = absurd (true≢false (sym h))
digit_more (c ∷ cs) rest h = h

question_more : (c : ℕ) (cs rest : List ℕ) → question_apart (c ∷ cs) ≡ true → question_apart (c ∷ (cs ++ rest)) ≡ true
question_more c cs rest h = by_point (c == 0x2E) h
  where
    by_point : (b : Bool) → cond b (begins_with_digit cs) (not (longer_with P.Question c)) ≡ true → cond b (begins_with_digit (cs ++ rest)) (not (longer_with P.Question c)) ≡ true
    by_point true k = digit_more cs rest k
    by_point false k = k

mark_more : (p : Punctuator) (c : ℕ) (cs rest : List ℕ) → mark_apart p (c ∷ cs) ≡ true → mark_apart p (c ∷ (cs ++ rest)) ≡ true
mark_more P.Question c cs rest h = question_more c cs rest h
mark_more P.UnsignedShiftRightAssign c cs rest h = h
mark_more p c cs rest h = h

apart_more : (k : Kind) (cs rest : List ℕ) → 0 < length cs → apart k cs ≡ true → apart k (cs ++ rest) ≡ true
apart_more k [] rest some h = absurd (omega arith)
apart_more (T.Punctuator p) (c ∷ cs) rest some h = mark_more p c cs rest h
apart_more (EscapedWord v) (c ∷ cs) rest some h = h
apart_more End (c ∷ cs) rest some h = h
apart_more k (c ∷ cs) rest some h = h

-- ---- all of them

next_apart : (m n : Written) (rest : List ℕ) → IsToken m.kind → IsToken n.kind → may_follow m.kind n.kind ≡ true → apart m.kind (between m n.kind ++ (letters n.kind ++ rest)) ≡ true
next_apart m n rest l r h = by_tests m.ends_line (spaced m.kind n.kind) refl
  where
    by_tests : (line space : Bool) → spaced m.kind n.kind ≡ space → apart m.kind (cond line (0x0A ∷ []) (cond space (0x20 ∷ []) []) ++ (letters n.kind ++ rest)) ≡ true
    by_tests true space e = before_line m.kind (letters n.kind ++ rest) l.written
    by_tests false true e = before_space m.kind (letters n.kind ++ rest) l.written
    by_tests false false e = apart_more m.kind (letters n.kind) rest r.some (meets m.kind n.kind l r h (unspaced m.kind n.kind e))

last_apart : (m : Written) → IsToken m.kind → apart m.kind (after_last m) ≡ true
last_apart m l = by_line m.ends_line
  where
    by_line : (line : Bool) → apart m.kind (cond line (0x0A ∷ []) []) ≡ true
    by_line true = before_line m.kind [] l.written
    by_line false = before_none m.kind l.written

are_apart : (m : Written) (ms : List Written) → IsToken m.kind → AreTokens ms → Neighbours m ms → AreApart m ms
are_apart m [] l are n = last_apart m l
are_apart m (next ∷ ms) l are n = (next_apart m next (letters_after next ms) l are.0 n.0, are_apart next ms are.0 are.1 n.1)

all_apart : (ms : List Written) → AreTokens ms → AreNeighbours ms → AreAllApart ms
all_apart [] are n = tt
all_apart (m ∷ ms) are n = are_apart m ms are.0 are.1 n

pub is_text : IsText
is_text [] are = IsUtf8-nil
is_text (m ∷ ms) are = (text_letters m ms are.0 are.1).0

pub reads_tokens_again : ReadsTokensAgain
reads_tokens_again written are neighbours =
    let lexed = lexed_text written are (all_apart written are neighbours) in
    record { tokens = lexed.tokens; end = lexed.end; lexed = lexed.lexed; follow = lexed.follow }
