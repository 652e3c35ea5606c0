-- A text of JSON has the units of the text: what stands for a character is read as it.
use Rattle.std.proofs.Common.{◌≡◌, ℕ, zero, suc, ◌+◌, ◌-◌, ◌<◌, ◌≤◌, Bool, true, false, not, ◌&&◌, nat_lt, List, [], ◌∷◌, ◌++◌, length, take, get_or, flat_map, Option, Some, None, inl, inr, refl, sym, ap, ap₂, ◌∙◌, subst, arith, append-nil, append_assoc, ltb-true}
use Rattle.std.specs.Prelude.{◌==◌, if◌then◌else◌, encode_utf8_all}
use Rattle.std.specs.Char.Escape.{encode_utf16}
use Rattle.std.specs.Str.{all_scalars, chars}
use Rattle.std.proofs.Math.Utf8.{encode, scalar, low_scalar}
use Rattle.std.proofs.lemmas.Bool.{true≢false, and_parts, and_from, eqb-true, ne_eqb, cases_lt, cases_eq, lt-ltb}
use Rattle.std.proofs.lemmas.List.{take_at}
use Rattle.std.proofs.lemmas.Str.{encode_ascii, encodes-append, inside_one, chars-encodes}
use Rattle.json.specs.Print.{escape_byte, escape}
use Rattle.js_text.specs.Position.{is_line_terminator}
use Rattle.js_text.specs.Character.{is_digit}
use Rattle.js_text.specs.Escape as js
use Rattle.js_text.specs.Units.{value_units, inner}
use Rattle.cov_counted.specs.Literals.{SpellsUnits}

off : (b : Bool) → not b ≡ true → b ≡ false
off true e = absurd (true≢false (sym e))
off false e = refl

-- ---- what stands in a string for a character, and which character it is

-- what one character after a backslash stands for, if it is no digit, no end of a line and begins no longer escape
abbrev is_single : ℕ → Bool
is_single c = not (c == 0x78) && (not (c == 0x75) && (not (c == 0x0D) && (not (is_line_terminator c) && not (is_digit c))))

abbrev is_plain : ℕ → Bool
is_plain c = not (c == 0x0D) && not (c == 0x5C)

abbrev says : ℕ → Option ℕ → Bool
says x None = false
says x (Some value) = value == x

-- a piece is this character: itself, after a backslash, or by four digits
abbrev stands_for : ℕ → List ℕ → Bool
stands_for x (c ∷ []) = is_plain c && (c == x)
stands_for x (c ∷ d ∷ []) = (c == 0x5C) && (is_single d && (js.escaped_character d == x))
stands_for x (c ∷ d ∷ e ∷ f ∷ g ∷ h ∷ []) = (c == 0x5C) && ((d == 0x75) && (not (e == 0x7B) && says x (js.four_digits (e ∷ f ∷ g ∷ h ∷ []))))
stands_for x other = false

plain : (c : ℕ) (rest : List ℕ) → is_plain c ≡ true → value_units zero (c ∷ rest) ≡ encode_utf16 c ++ value_units zero rest
plain c rest h =
    let a = and_parts _ _ h in
    rw (off (c == 0x0D) a.0, off (c == 0x5C) a.1) refl

single : (c : ℕ) (rest : List ℕ) → is_single c ≡ true → value_units zero (0x5C ∷ c ∷ rest) ≡ encode_utf16 (js.escaped_character c) ++ value_units zero rest
single c rest h =
    let one : length (c ∷ rest) - length rest ≡ 1 = omega arith in
    let x = and_parts _ _ h in
    let u = and_parts _ _ x.1 in
    let r = and_parts _ _ u.1 in
    let l = and_parts _ _ r.1 in
    rw (off (c == 0x78) x.0, off (c == 0x75) u.0, off (is_line_terminator c) l.0, off (c == 0x0D) r.0, off (is_digit c) l.1)
    (ap (λ n. encode_utf16 (js.escaped_character c) ++ value_units n (c ∷ rest)) one)

four : (x e f g h : ℕ) (rest : List ℕ) → not (e == 0x7B) ≡ true → js.four_digits (e ∷ f ∷ g ∷ h ∷ []) ≡ Some x →
    value_units zero (0x5C ∷ 0x75 ∷ e ∷ f ∷ g ∷ h ∷ rest) ≡ encode_utf16 x ++ value_units zero rest
four x e f g h rest unbraced digits =
    let same : js.four_digits (e ∷ f ∷ g ∷ h ∷ rest) ≡ Some x = digits in
    let five : length (0x75 ∷ e ∷ f ∷ g ∷ h ∷ rest) - length rest ≡ 5 = omega arith in
    rw (off (e == 0x7B) unbraced, same) (ap (λ n. encode_utf16 x ++ value_units n (0x75 ∷ e ∷ f ∷ g ∷ h ∷ rest)) five)

said : (x : ℕ) (o : Option ℕ) → says x o ≡ true → o ≡ Some x
said x None e = absurd (true≢false (sym e))
said x (Some value) e = ap Some (eqb-true value x e)

through : (x : ℕ) (piece rest : List ℕ) → stands_for x piece ≡ true → value_units zero (piece ++ rest) ≡ encode_utf16 x ++ value_units zero rest
through x [] rest on = absurd (true≢false (sym on))
through x (c ∷ []) rest on =
    let a = and_parts (is_plain c) (c == x) on in
    plain c rest a.0 ∙ ap (λ y. encode_utf16 y ++ value_units zero rest) (eqb-true c x a.1)
through x (c ∷ d ∷ []) rest on =
    let a = and_parts (c == 0x5C) _ on in
    let b = and_parts (is_single d) _ a.1 in
    ap (λ y. value_units zero (y ∷ d ∷ rest)) (eqb-true c 0x5C a.0) ∙ single d rest b.0
    ∙ ap (λ y. encode_utf16 y ++ value_units zero rest) (eqb-true (js.escaped_character d) x b.1)
through x (c ∷ d ∷ e ∷ []) rest on = absurd (true≢false (sym on))
through x (c ∷ d ∷ e ∷ f ∷ []) rest on = absurd (true≢false (sym on))
through x (c ∷ d ∷ e ∷ f ∷ g ∷ []) rest on = absurd (true≢false (sym on))
through x (c ∷ d ∷ e ∷ f ∷ g ∷ h ∷ []) rest on =
    let a = and_parts _ _ on in
    let b = and_parts _ _ a.1 in
    let z = and_parts _ _ b.1 in
    ap (λ y. value_units zero (y ∷ d ∷ e ∷ f ∷ g ∷ h ∷ rest)) (eqb-true c 0x5C a.0)
    ∙ ap (λ y. value_units zero (0x5C ∷ y ∷ e ∷ f ∷ g ∷ h ∷ rest)) (eqb-true d 0x75 b.0)
    ∙ four x e f g h rest z.0 (said x (js.four_digits (e ∷ f ∷ g ∷ h ∷ [])) z.1)
through x (c ∷ d ∷ e ∷ f ∷ g ∷ h ∷ i ∷ more) rest on = absurd (true≢false (sym on))

-- ---- what JSON puts for a character: for one below 128 what it puts for its byte, and else the character

abbrev escaped : ℕ → List ℕ
escaped c = if nat_lt c 128 then escape_byte c else c ∷ []

abbrev are_ascii : List ℕ → Bool
are_ascii [] = true
are_ascii (c ∷ cs) = nat_lt c 128 && are_ascii cs

-- for all bytes below this one
abbrev all_stand : ℕ → Bool
all_stand zero = true
all_stand (suc n) = stands_for n (escape_byte n) && (are_ascii (escape_byte n) && all_stand n)

each_stands : (n : ℕ) → all_stand n ≡ true → (c : ℕ) → c < n → (stands_for c (escape_byte c) ≡ true) × (are_ascii (escape_byte c) ≡ true)
each_stands zero all c below = absurd (omega (arith, below))
each_stands (suc n) all c below =
    let a = and_parts _ _ all in
    let b = and_parts _ _ a.1 in
    elim (cases_eq c n) [
      | inl same ↦ subst (λ x. (stands_for x (escape_byte x) ≡ true) × (are_ascii (escape_byte x) ≡ true)) (sym same) (a.0, b.0)
      | inr other ↦ each_stands n b.1 c (omega (arith, below, other))
    ]

bytes_stand : all_stand 128 ≡ true
unfolding escape_byte is_digit
bytes_stand = refl

low : (c : ℕ) → c < 128 → escaped c ≡ escape_byte c
low c small = ap (λ b. if b then escape_byte c else c ∷ []) (lt-ltb c 128 small)

high : (c : ℕ) → 128 ≤ c → escaped c ≡ c ∷ []
high c big = elim (cases_lt c 128) [ inl small ↦ absurd (omega (arith, big, small)) | inr same ↦ ap (λ b. if b then escape_byte c else c ∷ []) (by (nat_lt c 128) refl) ]
  where
    by : (b : Bool) → nat_lt c 128 ≡ b → nat_lt c 128 ≡ false
    by false e = e
    by true e = absurd (omega (arith, big, ltb-true c 128 e))

-- a byte of a longer character stands for itself
plain_byte : (b : ℕ) → 128 ≤ b → escape_byte b ≡ b ∷ []
unfolding escape_byte
plain_byte b big =
    rw (ne_eqb b 34 (λ e. omega (arith, big, e)), ne_eqb b 92 (λ e. omega (arith, big, e)), ne_eqb b 8 (λ e. omega (arith, big, e)), ne_eqb b 12 (λ e. omega (arith, big, e)), ne_eqb b 10 (λ e. omega (arith, big, e)), ne_eqb b 13 (λ e. omega (arith, big, e)), ne_eqb b 9 (λ e. omega (arith, big, e)), by (nat_lt b 32) refl) refl
  where
    by : (x : Bool) → nat_lt b 32 ≡ x → nat_lt b 32 ≡ false
    by false e = e
    by true e = absurd (omega (arith, big, ltb-true b 32 e))

plain_bytes : (bs : List ℕ) → ((k : ℕ) → k < length bs → 128 ≤ get_or bs k 0) → escape bs ≡ bs
plain_bytes [] big = refl
plain_bytes (b ∷ bs) big = ap₂ (λ (xs ys : List ℕ). xs ++ ys) (plain_byte b (big 0 (omega arith))) (plain_bytes bs (λ k below. big (suc k) (omega (arith, below))))

escape_joined : (xs ys : List ℕ) → escape (xs ++ ys) ≡ escape xs ++ escape ys
escape_joined [] ys = refl
escape_joined (x ∷ xs) ys = ap (λ l. escape_byte x ++ l) (escape_joined xs ys) ∙ sym (append_assoc (escape_byte x) (escape xs) (escape ys))

ascii_spelt : (cs : List ℕ) → are_ascii cs ≡ true → encode_utf8_all cs ≡ cs
ascii_spelt [] e = refl
ascii_spelt (c ∷ cs) e =
    let a = and_parts (nat_lt c 128) (are_ascii cs) e in
    ap₂ (λ (xs ys : List ℕ). xs ++ ys) (encode_ascii c (ltb-true c 128 a.0)) (ascii_spelt cs a.1)

ascii_scalars : (cs : List ℕ) → are_ascii cs ≡ true → all_scalars cs ≡ true
ascii_scalars [] e = refl
ascii_scalars (c ∷ cs) e =
    let a = and_parts (nat_lt c 128) (are_ascii cs) e in
    let small : c < 128 = ltb-true c 128 a.0 in
    and_from _ _ (low_scalar c (omega (arith, small))) (ascii_scalars cs a.1)

scalars_joined : (xs ys : List ℕ) → all_scalars xs ≡ true → all_scalars ys ≡ true → all_scalars (xs ++ ys) ≡ true
scalars_joined [] ys e f = f
scalars_joined (x ∷ xs) ys e f = let a = and_parts _ _ e in and_from _ _ a.0 (scalars_joined xs ys a.1 f)

-- what is put for a character is read as it, is of characters, and its bytes are what is put for those of the character
record Stands (c : ℕ) : Type 0 where
  is : (rest : List ℕ) → value_units zero (escaped c ++ rest) ≡ encode_utf16 c ++ value_units zero rest
  scalars : all_scalars (escaped c) ≡ true
  spelt : encode_utf8_all (escaped c) ≡ escape (encode c)

plain_here : (c : ℕ) → 128 ≤ c → is_plain c ≡ true
plain_here c big = rw (ne_eqb c 0x0D (λ e. omega (arith, big, e)), ne_eqb c 0x5C (λ e. omega (arith, big, e))) refl

stands : (c : ℕ) → scalar c ≡ true → Stands c
stands c ok = elim (cases_lt c 128) [
  | inl small ↦
      let both = each_stands 128 bytes_stand c small in
      let same = low c small in record {
        is = λ rest. ap (λ piece. value_units zero (piece ++ rest)) same ∙ through c (escape_byte c) rest both.0;
        scalars = ap all_scalars same ∙ ascii_scalars (escape_byte c) both.1;
        spelt = ap encode_utf8_all same ∙ ascii_spelt (escape_byte c) both.1 ∙ sym (append-nil (escape_byte c)) ∙ sym (ap escape (encode_ascii c small));
      }
  | inr big ↦
      let same = high c big in
      let bytes : (k : ℕ) → k < length (encode c) → 128 ≤ get_or (encode c) k 0 = λ k below. elim (cases_lt (get_or (encode c) k 0) 128) [
        | inl less ↦ absurd (omega (arith, big, inside_one c [] (encode c) k (sym (append-nil (encode c))) below less))
        | inr more ↦ more
      ] in record {
        is = λ rest. ap (λ piece. value_units zero (piece ++ rest)) same ∙ plain c rest (plain_here c big);
        scalars = ap all_scalars same ∙ and_from _ _ ok refl;
        spelt = ap encode_utf8_all same ∙ append-nil (encode c) ∙ sym (plain_bytes (encode c) bytes);
      }
]

-- ---- a text

units_all : (cs : List ℕ) → all_scalars cs ≡ true → value_units zero (flat_map escaped cs) ≡ flat_map encode_utf16 cs
units_all [] ok = refl
units_all (c ∷ cs) ok =
    let a = and_parts _ _ ok in
    (stands c a.0).is (flat_map escaped cs) ∙ ap (λ us. encode_utf16 c ++ us) (units_all cs a.1)

scalars_all : (cs : List ℕ) → all_scalars cs ≡ true → all_scalars (flat_map escaped cs) ≡ true
scalars_all [] ok = refl
scalars_all (c ∷ cs) ok = let a = and_parts _ _ ok in scalars_joined (escaped c) (flat_map escaped cs) (stands c a.0).scalars (scalars_all cs a.1)

spelt_all : (cs : List ℕ) → all_scalars cs ≡ true → encode_utf8_all (flat_map escaped cs) ≡ escape (encode_utf8_all cs)
spelt_all [] ok = refl
spelt_all (c ∷ cs) ok =
    let a = and_parts _ _ ok in
    encodes-append (escaped c) (flat_map escaped cs)
    ∙ ap₂ (λ (xs ys : List ℕ). xs ++ ys) (stands c a.0).spelt (spelt_all cs a.1)
    ∙ sym (escape_joined (encode c) (encode_utf8_all cs))

longer : (xs : List ℕ) → length (xs ++ 0x22 ∷ []) ≡ length xs + 1
longer [] = refl
longer (x ∷ xs) = omega (arith, longer xs)

within : (xs : List ℕ) → take (length (xs ++ 0x22 ∷ []) - 1) (xs ++ 0x22 ∷ []) ≡ xs
within xs = ap (λ n. take n (xs ++ 0x22 ∷ [])) (shorter xs) ∙ take_at xs (0x22 ∷ []) (length xs) refl
  where
    shorter : (xs : List ℕ) → length (xs ++ 0x22 ∷ []) - 1 ≡ length xs
    shorter xs = omega (arith, longer xs)

-- the characters between quotes
quoted : (ds : List ℕ) → all_scalars ds ≡ true → chars (0x22 ∷ (encode_utf8_all ds ++ 0x22 ∷ [])) ≡ 0x22 ∷ (ds ++ 0x22 ∷ [])
quoted ds ok =
    ap chars (sym (ap₂ (λ (xs ys : List ℕ). xs ++ ys) (encode_ascii 0x22 (omega arith)) (encodes-append ds (0x22 ∷ []) ∙ ap (λ q. encode_utf8_all ds ++ (q ++ [])) (encode_ascii 0x22 (omega arith)))))
    ∙ chars-encodes (0x22 ∷ (ds ++ 0x22 ∷ [])) (scalars_joined (0x22 ∷ []) (ds ++ 0x22 ∷ []) refl (scalars_joined ds (0x22 ∷ []) ok refl))

pub spells_units : SpellsUnits
spells_units s (cs, (ok, spells)) =
    let ds = flat_map escaped cs in
    ap (λ bytes. value_units zero (inner 1 (chars (0x22 ∷ (bytes ++ 0x22 ∷ []))))) (sym (spelt_all cs ok ∙ ap escape spells))
    ∙ ap (λ xs. value_units zero (inner 1 xs)) (quoted ds (scalars_all cs ok))
    ∙ ap (value_units zero) (within ds)
    ∙ units_all cs ok
    ∙ ap (flat_map encode_utf16) (sym (chars-encodes cs ok) ∙ ap chars spells)
