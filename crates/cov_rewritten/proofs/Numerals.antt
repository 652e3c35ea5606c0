-- A number in decimal is spelt as a token is.
use Rattle.std.proofs.Common.{◌≡◌, ℕ, zero, suc, ◌+◌, ◌-◌, ◌^◌, ◌<◌, ◌≤◌, Bool, true, false, not, List, [], ◌∷◌, length, take, get_or, Some, decimal, refl, sym, ap, subst, ◌∙◌, arith}
use Rattle.std.specs.Prelude.{codes, ◌==◌, ◌||◌, nat_lt, encode_utf8_all, if◌then◌else◌}
use Rattle.std.specs.List.{list_any, list_all}
use Rattle.std.specs.Str.{chars, IsAscii}
use Rattle.std.proofs.lemmas.Bool.{true≢false, and_parts, and_from, eqb-true, eqb-false, ltb-true}
use Rattle.std.proofs.lemmas.Fmt.{decimal_is_IsNumeral, decimal_digit, first_decimal}
use Rattle.std.proofs.lemmas.Str.{IsUtf8-from_ascii, chars-IsAscii, encodes-IsAscii}
use Rattle.std.proofs.lemmas.Str.Parse.{digit_at}
use Rattle.std.proofs.Math.Seq.{take-length}
use Rattle.unicode_ident.proofs.Computing.{unicode_ident}
use Rattle.js_text.specs.Character.{is_gap, starts_identifier, is_digit}
use Rattle.js_text.specs.Identifier.{is_backslash}
use Rattle.js_text.specs.Lex.{common_token, token_of}
use Rattle.js_text.specs.Number.{is_digit_of, more_digits}
use Rattle.js_text.specs.Token.{Numeral}
use Rattle.js_text.specs.declared.goal.Goal.TheVariants as goal
use Rattle.js_spelling.specs.Written.{first_is}
use Rattle.js_spelling.specs.Tokens.{IsToken}
use Rattle.cov_rewritten.specs.Counters.{spelt}

-- the digits from one on, so many
abbrev pub from_digit : ℕ → ℕ → List ℕ
from_digit first zero = []
from_digit first (suc n) = first ∷ from_digit (suc first) n

abbrev pub is_one_of : ℕ → ℕ → ℕ → Bool
is_one_of first n c = list_any (λ x. c == x) (from_digit first n)

pub any_from : (first n c : ℕ) → first ≤ c → c < first + n → is_one_of first n c ≡ true
any_from first zero c h g = absurd (omega arith)
any_from first (suc n) c h g = chosen (c == first) (is_one_of (suc first) n c) (λ e. any_from (suc first) n c (above (eqb-false c first e)) (omega arith))
  where
    above : (c ≡ first → ⊥) → suc first ≤ c
    above e = omega arith

    chosen : (b d : Bool) → (b ≡ false → d ≡ true) → (b || d) ≡ true
    chosen true d h = refl
    chosen false d h = h refl

-- what passes a test holds of what stands in a list of such
pub holds_there : (test : ℕ → Bool) (xs : List ℕ) (c : ℕ) → list_all test xs ≡ true → list_any (λ x. c == x) xs ≡ true → test c ≡ true
holds_there test [] c all there = absurd (true≢false (sym there))
holds_there test (x ∷ xs) c all there =
    let both = and_parts (test x) (list_all test xs) all in
    by_first (c == x) refl there both.0 (λ h. holds_there test xs c both.1 h)
  where
    by_first : (b : Bool) → (c == x) ≡ b → (b || list_any (λ y. c == y) xs) ≡ true → test x ≡ true → (list_any (λ y. c == y) xs ≡ true → test c ≡ true) → test c ≡ true
    by_first true e h first later = ap test (eqb-true c x e) ∙ first
    by_first false e h first later = later h

from_not : (b : Bool) → not b ≡ true → b ≡ false
from_not true e = absurd (true≢false (sym e))
from_not false e = refl

abbrev pub is_dig : ℕ → Bool
is_dig c = is_one_of 48 10 c

abbrev is_first : ℕ → Bool
is_first c = is_one_of 49 9 c

first_no_identifier : (c : ℕ) → is_first c ≡ true → (starts_identifier c || is_backslash c) ≡ false
unfolding starts_identifier unicode_ident
first_no_identifier c h = from_not (starts_identifier c || is_backslash c) (holds_there (λ x. not (starts_identifier x || is_backslash x)) (from_digit 49 9) c refl h)

first_begins : (c : ℕ) → is_first c ≡ true → is_digit c ≡ true
unfolding is_digit
first_begins c h = holds_there is_digit (from_digit 49 9) c refl h

first_no_point : (c : ℕ) → is_first c ≡ true → (c == 0x2E) ≡ false
first_no_point c h = from_not (c == 0x2E) (holds_there (λ x. not (x == 0x2E)) (from_digit 49 9) c refl h)

first_no_zero : (c : ℕ) → is_first c ≡ true → (c == 0x30) ≡ false
first_no_zero c h = from_not (c == 0x30) (holds_there (λ x. not (x == 0x30)) (from_digit 49 9) c refl h)

first_no_gap : (c : ℕ) → is_first c ≡ true → is_gap c ≡ false
unfolding is_gap
first_no_gap c h = from_not (is_gap c) (holds_there (λ x. not (is_gap x)) (from_digit 49 9) c refl h)

dig_is : (c : ℕ) → is_dig c ≡ true → is_digit_of 10 c ≡ true
dig_is c h = holds_there (is_digit_of 10) (from_digit 48 10) c refl h

first_dig : (c : ℕ) → is_first c ≡ true → is_dig c ≡ true
first_dig c h = holds_there is_dig (from_digit 49 9) c refl h

digits_end : (cs : List ℕ) → list_all is_dig cs ≡ true → more_digits 10 cs ≡ []
digits_end [] h = refl
digits_end (c ∷ cs) h =
    let both = and_parts (is_dig c) (list_all is_dig cs) h in
    rw (dig_is c both.0) (digits_end cs both.1)

pub digits_ascii : (w : List ℕ) → list_all is_dig w ≡ true → IsAscii w
digits_ascii [] h i = omega arith
digits_ascii (c ∷ cs) h zero = ltb-true c 128 (holds_there (λ x. nat_lt x 128) (from_digit 48 10) c refl (and_parts (is_dig c) (list_all is_dig cs) h).0)
digits_ascii (c ∷ cs) h (suc i) = digits_ascii cs (and_parts (is_dig c) (list_all is_dig cs) h).1 i

alone : (c : ℕ) (cs : List ℕ) → is_first c ≡ true → list_all is_dig cs ≡ true → token_of goal.Div (c ∷ cs) ≡ Some (Numeral (c ∷ cs), length (c ∷ cs))
unfolding common_token
alone c cs h all =
    let counted : 1 + (length cs - 0) ≡ length (c ∷ cs) = omega arith in
    let digits = and_from (is_dig c) (list_all is_dig cs) (first_dig c h) all in
    rw (first_no_identifier c h, first_begins c h, first_no_point c h, first_no_zero c h, digits_end cs all) (
    ap (λ n. Some (Numeral (encode_utf8_all (take n (c ∷ cs))), n)) counted
    ∙ ap (λ bs. Some (Numeral (encode_utf8_all bs), length (c ∷ cs))) (take-length (c ∷ cs))
    ∙ ap (λ bs. Some (Numeral bs, length (c ∷ cs))) (encodes-IsAscii (c ∷ cs) (digits_ascii (c ∷ cs) digits)))

digits_token : (c : ℕ) (cs : List ℕ) → is_first c ≡ true → list_all is_dig cs ≡ true → IsToken (Numeral (c ∷ cs))
digits_token c cs h all =
    let ascii = digits_ascii (c ∷ cs) (and_from (is_dig c) (list_all is_dig cs) (first_dig c h) all) in
    let same = chars-IsAscii (c ∷ cs) ascii in record {
      written = refl;
      utf8 = IsUtf8-from_ascii (c ∷ cs) ascii;
      no_gap = ap (first_is is_gap) same ∙ first_no_gap c h;
      some = subst (λ xs. 0 < length xs) (sym same) (omega arith);
      alone = subst (λ xs. token_of goal.Div xs ≡ Some (Numeral (c ∷ cs), length xs)) (sym same) (alone c cs h all);
    }

zero_token : IsToken (Numeral (codes "0"))
unfolding chars common_token is_gap starts_identifier is_digit unicode_ident lib.Utf8.encode
zero_token = record { written = refl; utf8 = (codes "0", (refl, refl)); no_gap = refl; some = omega arith; alone = refl }

all_digits : (ds : List ℕ) → ((i : ℕ) → i < length ds → (48 ≤ get_or ds i 0) × (get_or ds i 0 ≤ 57)) → list_all is_dig ds ≡ true
all_digits [] h = refl
all_digits (d ∷ ds) h =
    let first = h 0 (omega arith) in
    and_from (is_dig d) (list_all is_dig ds) (any_from 48 10 d first.0 (omega arith)) (all_digits ds (λ i l. h (suc i) (omega arith)))

whole_token : (ds : List ℕ) → 48 < get_or ds 0 0 → ((i : ℕ) → i < length ds → (48 ≤ get_or ds i 0) × (get_or ds i 0 ≤ 57)) → IsToken (Numeral ds)
whole_token [] first h = absurd (omega arith)
whole_token (d ∷ ds) first h =
    let top = h 0 (omega arith) in
    let all = and_parts (is_dig d) (list_all is_dig ds) (all_digits (d ∷ ds) h) in
    digits_token d ds (any_from 49 9 d (omega arith) (omega arith)) all.1

decimal_token : (n : ℕ) → n < 2 ^ 64 → IsToken (Numeral (decimal n))
decimal_token zero h = subst (λ w. IsToken (Numeral w)) (sym (decimal_digit 0 (omega arith))) zero_token
decimal_token (suc n) h = whole_token (decimal (suc n)) (first_decimal (suc n) (omega arith) h) (λ i l. digit_at (decimal (suc n)) i (decimal_is_IsNumeral (suc n) h).0.1 l)

pub spelt_token : (n : ℕ) → IsToken (Numeral (spelt n))
spelt_token n = by (nat_lt n (2 ^ 64)) refl
  where
    by : (b : Bool) → nat_lt n (2 ^ 64) ≡ b → IsToken (Numeral (if b then decimal n else codes "0"))
    by true e = decimal_token n (ltb-true n (2 ^ 64) e)
    by false e = zero_token
