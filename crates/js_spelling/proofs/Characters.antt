-- Classes of characters: what may start an identifier or is a digit goes on with one, and spaces and signs don't.
use Rattle.std.proofs.Common.{◌≡◌, ℕ, ◌-◌, ◌<◌, ◌≤◌, ◌==◌, ◌||◌, ◌&&◌, not, nat_le, nat_lt, cond, Bool, true, false, None, refl, sym, ap, subst, ◌∙◌, arith}
use Rattle.std.specs.Int.{is_in_range}
use Rattle.std.specs.Char as char
use Rattle.std.proofs.lemmas.Bool.{true≢false, and_parts, or_parts, and_from, not-true, eqb-true, leb-true, le-leb, ltb-true, ltb-false}
use Rattle.unicode_ident.specs.Ident.{is_xid_start}
use Rattle.unicode_ident.proofs.IdentLemmas.{is_xid_continue-ascii, is_xid_start-is_xid_continue}
use Rattle.js_text.specs.Character.{starts_identifier, continues_identifier, is_digit}
use Rattle.js_text.specs.Number.{is_digit_of, base_of}

-- a letter, a digit or `_` of ASCII goes on with an identifier
pub letter_continues : (x : ℕ) → x < 128 → (char.is_ascii_alphanumeric x || (x == 95)) ≡ true → continues_identifier x ≡ true
unfolding continues_identifier
letter_continues x low h = ap (λ b. b || (x == 0x24) || (x == 0x200C) || (x == 0x200D)) (is_xid_continue-ascii x low ∙ h)

dollar_continues : continues_identifier 0x24 ≡ true
unfolding continues_identifier
dollar_continues = ap (λ b. b || (0x24 == 0x24) || (0x24 == 0x200C) || (0x24 == 0x200D)) (is_xid_continue-ascii 0x24 (omega arith))

pub start_continues : (c : ℕ) → starts_identifier c ≡ true → continues_identifier c ≡ true
unfolding starts_identifier continues_identifier
start_continues c h = by_tests (is_xid_start c) (c == 0x24) (c == 0x5F) refl refl refl h
  where
    by_tests : (a b d : Bool) → is_xid_start c ≡ a → (c == 0x24) ≡ b → (c == 0x5F) ≡ d → (a || b || d) ≡ true → continues_identifier c ≡ true
    by_tests true b d x y z h = ap (λ t. t || (c == 0x24) || (c == 0x200C) || (c == 0x200D)) (is_xid_start-is_xid_continue c x)
    by_tests false true d x y z h = subst (λ n. continues_identifier n ≡ true) (sym (eqb-true c 0x24 y)) dollar_continues
    by_tests false false true x y z h = subst (λ n. continues_identifier n ≡ true) (sym (eqb-true c 0x5F z)) (letter_continues 0x5F (omega arith) refl)
    by_tests false false false x y z h = absurd (true≢false (sym h))

pub digit_continues : (c : ℕ) → is_digit c ≡ true → continues_identifier c ≡ true
unfolding is_digit
digit_continues c h =
    let both = and_parts (nat_le 48 c) (nat_le c 57) h in
    let last : c ≤ 57 = leb-true c 57 both.1 in
    letter_continues c (omega arith) (ap (λ b. ((b || is_in_range 65 90 c) || is_in_range 97 122 c) || (c == 95)) h)

-- a digit of a base up to 36 is a digit or a letter of ASCII
pub base_continues : (base c : ℕ) → base ≤ 36 → is_digit_of base c ≡ true → continues_identifier c ≡ true
base_continues base c fits h =
    by_tests (nat_lt c 48) (nat_lt c 58) (nat_lt c 65) (nat_lt c 91) (nat_lt c 97) (nat_lt c 123) refl refl refl refl refl refl (ltb-true (char.digit_value c) base h)
  where
    between : (low high : ℕ) → low ≤ c → c ≤ high → is_in_range low high c ≡ true
    between low high l k = and_from (nat_le low c) (nat_le c high) (le-leb low c l) (le-leb c high k)

    by_tests : (p q r s t u : Bool) → nat_lt c 48 ≡ p → nat_lt c 58 ≡ q → nat_lt c 65 ≡ r → nat_lt c 91 ≡ s → nat_lt c 97 ≡ t → nat_lt c 123 ≡ u →
        cond p 36 (cond q (c - 48) (cond r 36 (cond s (c - 55) (cond t 36 (cond u (c - 87) 36))))) < base → continues_identifier c ≡ true
    by_tests true q r s t u a b d e f g v = absurd (omega arith)
    by_tests false true r s t u a b d e f g v =
        let low : 48 ≤ c = ltb-false c 48 a in
        let high : c < 58 = ltb-true c 58 b in
        letter_continues c (omega arith) (ap (λ x. ((x || is_in_range 65 90 c) || is_in_range 97 122 c) || (c == 95)) (between 48 57 (omega arith) (omega arith)))
    by_tests false false true s t u a b d e f g v = absurd (omega arith)
    by_tests false false false true t u a b d e f g v =
        let low : 65 ≤ c = ltb-false c 65 d in
        let high : c < 91 = ltb-true c 91 e in
        letter_continues c (omega arith) (rw (between 65 90 (omega arith) (omega arith)) (first_or (is_in_range 48 57 c)))
      where
        first_or : (x : Bool) → (((x || true) || is_in_range 97 122 c) || (c == 95)) ≡ true
        first_or true = refl
        first_or false = refl
    by_tests false false false false true u a b d e f g v = absurd (omega arith)
    by_tests false false false false false true a b d e f g v =
        let low : 97 ≤ c = ltb-false c 97 f in
        let high : c < 123 = ltb-true c 123 g in
        letter_continues c (omega arith) (rw (between 97 122 (omega arith) (omega arith)) (second_or (is_in_range 48 57 c || is_in_range 65 90 c)))
      where
        second_or : (x : Bool) → ((x || true) || (c == 95)) ≡ true
        second_or true = refl
        second_or false = refl
    by_tests false false false false false false a b d e f g v = absurd (omega arith)

-- a character that goes on with no identifier is none that does
pub not_it : (x c : ℕ) → continues_identifier x ≡ true → continues_identifier c ≡ false → (c == x) ≡ false
not_it x c h n = by_test (c == x) refl
  where
    by_test : (b : Bool) → (c == x) ≡ b → (c == x) ≡ false
    by_test false e = e
    by_test true e = absurd (true≢false (sym h ∙ ap continues_identifier (sym (eqb-true c x e)) ∙ n))

pub no_base : (c : ℕ) → continues_identifier c ≡ false → base_of c ≡ None
no_base c n =
    let a = not_it 0x78 c (letter_continues 0x78 (omega arith) refl) n in
    let b = not_it 0x58 c (letter_continues 0x58 (omega arith) refl) n in
    let d = not_it 0x6F c (letter_continues 0x6F (omega arith) refl) n in
    let e = not_it 0x4F c (letter_continues 0x4F (omega arith) refl) n in
    let f = not_it 0x62 c (letter_continues 0x62 (omega arith) refl) n in
    let g = not_it 0x42 c (letter_continues 0x42 (omega arith) refl) n in
    rw (a, b, d, e, f, g) refl

pub no_start : (c : ℕ) → continues_identifier c ≡ false → starts_identifier c ≡ false
no_start c n = by_test (starts_identifier c) refl
  where
    by_test : (b : Bool) → starts_identifier c ≡ b → starts_identifier c ≡ false
    by_test false e = e
    by_test true e = absurd (true≢false (sym (start_continues c e) ∙ n))

pub no_digit : (c : ℕ) → continues_identifier c ≡ false → is_digit c ≡ false
no_digit c n = by_test (is_digit c) refl
  where
    by_test : (b : Bool) → is_digit c ≡ b → is_digit c ≡ false
    by_test false e = e
    by_test true e = absurd (true≢false (sym (digit_continues c e) ∙ n))

pub no_digit_of : (base c : ℕ) → base ≤ 36 → continues_identifier c ≡ false → is_digit_of base c ≡ false
no_digit_of base c fits n = by_test (is_digit_of base c) refl
  where
    by_test : (b : Bool) → is_digit_of base c ≡ b → is_digit_of base c ≡ false
    by_test false e = e
    by_test true e = absurd (true≢false (sym (base_continues base c fits e) ∙ n))

-- ---- signs

-- a character of ASCII that is no letter, digit, `$` or `_`
abbrev pub is_sign : ℕ → Bool
is_sign x = nat_lt x 128 && not ((char.is_ascii_alphabetic x || (x == 0x24) || (x == 0x5F)) || char.is_ascii_digit x)

far : (x n : ℕ) → x < 128 → 128 < n → (x == n) ≡ false
far x n low high = by_test (x == n) refl
  where
    by_test : (t : Bool) → (x == n) ≡ t → (x == n) ≡ false
    by_test false e = e
    by_test true e = let same : x ≡ n = eqb-true x n e in absurd (omega arith)

or_both : {a b : Bool} → a ≡ false → b ≡ false → (a || b) ≡ false
or_both {b = b} p q = ap (λ x. x || b) p ∙ q

-- no sign goes on with a word
pub sign_no_word : (x : ℕ) → is_sign x ≡ true → continues_identifier x ≡ false
unfolding continues_identifier
sign_no_word x h =
    let both = and_parts (nat_lt x 128) (not ((char.is_ascii_alphabetic x || (x == 0x24) || (x == 0x5F)) || char.is_ascii_digit x)) h in
    let low : x < 128 = ltb-true x 128 both.0 in
    let one = or_parts (char.is_ascii_alphabetic x || (x == 0x24) || (x == 0x5F)) (char.is_ascii_digit x) (not-true ((char.is_ascii_alphabetic x || (x == 0x24) || (x == 0x5F)) || char.is_ascii_digit x) both.1) in
    let two = or_parts (char.is_ascii_alphabetic x || (x == 0x24)) (x == 0x5F) one.0 in
    let three = or_parts (char.is_ascii_alphabetic x) (x == 0x24) two.0 in
    let four = or_parts (is_in_range 65 90 x) (is_in_range 97 122 x) three.0 in
    or_both (or_both (or_both (is_xid_continue-ascii x low ∙ or_both (or_both (or_both one.1 four.0) four.1) two.1) three.1) (far x 0x200C low (omega arith))) (far x 0x200D low (omega arith))
