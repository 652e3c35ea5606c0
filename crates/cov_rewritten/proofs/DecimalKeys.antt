-- A number in decimal as the key of a member.
use Rattle.std.proofs.Common.{◌≡◌, ℕ, zero, suc, ◌+◌, ◌-◌, ◌/◌, ◌%◌, ◌<◌, Bool, true, false, not, List, [], ◌∷◌, ◌++◌, length, take, decimal, refl, sym, ap, ap₂, ◌∙◌, arith}
use Rattle.std.specs.Prelude.{codes, bytes_eq, ◌==◌, if◌then◌else◌}
use Rattle.std.specs.Fmt.{digit_glyph, digits_onto, digits}
use Rattle.std.specs.List.{list_all}
use Rattle.std.specs.Str.{chars, IsAscii, IsUtf8}
use Rattle.std.proofs.lemmas.Bool.{true≢false, and_parts, and_from}
use Rattle.std.proofs.lemmas.List.{take_at}
use Rattle.std.proofs.lemmas.Slice.Eq.{bytes_eq-Decides}
use Rattle.std.proofs.lemmas.Str.{IsUtf8-from_ascii, chars-IsAscii}
use Rattle.json.specs.Print.{escape_byte, escape}
use Rattle.js_text.specs.Units.{inner, units_of, value_units}
use Rattle.js_tree.specs.Plain.{StringKey}
use Rattle.js_reading.specs.Makes.{is_proto}
use Rattle.cov_rewritten.specs.Preamble.{json_string}
use Rattle.cov_rewritten.proofs.Numerals.{from_digit, any_from, is_dig, holds_there, digits_ascii}

-- a digit stands for itself in a text of JSON
byte_plain : (c : ℕ) → is_dig c ≡ true → escape_byte c ≡ c ∷ []
unfolding escape_byte
byte_plain c h = of_test c (holds_there (λ x. bytes_eq (escape_byte x) (x ∷ [])) (from_digit 48 10) c refl h)
  where
    of_test : (x : ℕ) → bytes_eq (escape_byte x) (x ∷ []) ≡ true → escape_byte x ≡ x ∷ []
    of_test x e = (bytes_eq-Decides (escape_byte x) (x ∷ [])).0 e

digits_plain : (w : List ℕ) → list_all is_dig w ≡ true → escape w ≡ w
digits_plain [] all = refl
digits_plain (c ∷ cs) all =
    let both = and_parts (is_dig c) (list_all is_dig cs) all in
    ap₂ (λ (xs ys : List ℕ). xs ++ ys) (byte_plain c both.0) (digits_plain cs both.1)

quotes_ascii : (w : List ℕ) → IsAscii w → IsAscii (0x22 ∷ (w ++ 0x22 ∷ []))
quotes_ascii w ascii zero = omega arith
quotes_ascii w ascii (suc i) = last w ascii i
  where
    last : (w : List ℕ) → IsAscii w → IsAscii (w ++ 0x22 ∷ [])
    last [] ascii zero = omega arith
    last [] ascii (suc i) = omega arith
    last (c ∷ cs) ascii zero = ascii zero
    last (c ∷ cs) ascii (suc i) = last cs (λ k. ascii (suc k)) i

-- its units begin with the digit, and `__proto__` with none
begins_other : (c : ℕ) (cs : List ℕ) → is_dig c ≡ true → bytes_eq (value_units zero (c ∷ cs)) (codes "__proto__") ≡ false
begins_other c cs h = off (holds_there (λ x. not (bytes_eq (value_units zero (x ∷ cs)) (codes "__proto__"))) (from_digit 48 10) c refl h)
  where
    off : {b : Bool} → not b ≡ true → b ≡ false
    off {b = true} e = absurd (true≢false (sym e))
    off {b = false} e = refl

digits_key : (c : ℕ) (cs : List ℕ) → list_all is_dig (c ∷ cs) ≡ true → is_proto (StringKey (json_string (c ∷ cs))) ≡ false
digits_key c cs all =
    let w = c ∷ cs in
    let ascii = digits_ascii w all in
    let spelt : units_of (0x22 ∷ (escape w ++ 0x22 ∷ [])) ≡ value_units zero w =
    ap (λ v. value_units zero (inner 1 (chars (0x22 ∷ (v ++ 0x22 ∷ []))))) (digits_plain w all)
    ∙ ap (λ v. value_units zero (inner 1 v)) (chars-IsAscii (0x22 ∷ (w ++ 0x22 ∷ [])) (quotes_ascii w ascii))
    ∙ ap (value_units zero) (ap (λ n. take n (w ++ 0x22 ∷ [])) (counted w) ∙ take_at w (0x22 ∷ []) (length w) refl) in
    ap (λ units. bytes_eq units (codes "__proto__")) spelt ∙ begins_other c cs (and_parts (is_dig c) (list_all is_dig cs) all).0
  where
    longer : (xs : List ℕ) → length (xs ++ 0x22 ∷ []) ≡ length xs + 1
    longer [] = refl
    longer (x ∷ xs) = omega (arith, longer xs)

    counted : (xs : List ℕ) → length (xs ++ 0x22 ∷ []) - 1 ≡ length xs
    counted xs = omega (arith, longer xs)

keys : (w : List ℕ) → 0 < length w → list_all is_dig w ≡ true → IsUtf8 w × (is_proto (StringKey (json_string w)) ≡ false)
keys [] some all = absurd (omega (arith, some))
keys (c ∷ cs) some all = (IsUtf8-from_ascii (c ∷ cs) (digits_ascii (c ∷ cs) all), digits_key c cs all)

-- ---- its digits: of any number the last 64 at most

glyph_digit : (n : ℕ) → is_dig (digit_glyph false (n % 10)) ≡ true
glyph_digit n = holds_there (λ d. is_dig (digit_glyph false d)) (from_digit 0 10) (n % 10) refl (any_from 0 10 (n % 10) (omega arith) (omega arith))

spelled : (k n : ℕ) (acc : List ℕ) → list_all is_dig acc ≡ true → list_all is_dig (digits_onto k 10 false n acc) ≡ true
spelled zero n acc all = all
spelled (suc k) n acc all =
    let g = digit_glyph false (n % 10) in
    let more = and_from (is_dig g) (list_all is_dig acc) (glyph_digit n) all in
    by (n / 10 == 0) (g ∷ acc) (digits_onto k 10 false (n / 10) (g ∷ acc)) more (spelled k (n / 10) (g ∷ acc) more)
  where
    by : (last : Bool) (xs ys : List ℕ) → list_all is_dig xs ≡ true → list_all is_dig ys ≡ true → list_all is_dig (if last then xs else ys) ≡ true
    by true xs ys h k = h
    by false xs ys h k = k

either : (last : Bool) (xs ys : List ℕ) → 0 < length xs → 0 < length ys → 0 < length (if last then xs else ys)
either true xs ys h k = h
either false xs ys h k = k

some_digit : (k n d : ℕ) (acc : List ℕ) → 0 < length (digits_onto k 10 false n (d ∷ acc))
some_digit zero n d acc = omega arith
some_digit (suc k) n d acc = let g = digit_glyph false (n % 10) in either (n / 10 == 0) (g ∷ d ∷ acc) (digits_onto k 10 false (n / 10) (g ∷ d ∷ acc)) (omega arith) (some_digit k (n / 10) g (d ∷ acc))

some_decimal : (n : ℕ) → 0 < length (decimal n)
unfolding digits
some_decimal n = let g = digit_glyph false (n % 10) in either (n / 10 == 0) (g ∷ []) (digits_onto 63 10 false (n / 10) (g ∷ [])) (omega arith) (some_digit 63 (n / 10) g [])

decimal_digits : (n : ℕ) → list_all is_dig (decimal n) ≡ true
unfolding digits
decimal_digits n = spelled 64 n [] refl

-- it is UTF-8, and not `__proto__`
pub decimal_key : (n : ℕ) → IsUtf8 (decimal n) × (is_proto (StringKey (json_string (decimal n))) ≡ false)
decimal_key n = keys (decimal n) (some_decimal n) (decimal_digits n)
