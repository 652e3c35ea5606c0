-- A text of JSON is spelt as a string of JavaScript is.
use Rattle.std.proofs.Common.{◌≡◌, ℕ, zero, suc, ◌-◌, ◌<◌, ◌≤◌, Bool, true, false, not, ◌&&◌, nat_lt, List, [], ◌∷◌, ◌++◌, length, get_or, flat_map, Option, Some, None, inl, inr, refl, sym, ap, ap₂, subst, ◌∙◌, arith, append_assoc, append-nil, ltb-true}
use Rattle.std.specs.Prelude.{◌==◌, if◌then◌else◌, is_some, encode_utf8_all}
use Rattle.std.specs.Str.{IsUtf8, all_scalars}
use Rattle.std.proofs.Math.Utf8.{encode, scalar, low_scalar}
use Rattle.std.proofs.lemmas.Bool.{true≢false, and_parts, and_from, eqb-true, ne_eqb, cases_lt, cases_eq, lt-ltb}
use Rattle.std.proofs.lemmas.Str.{encode_ascii, encodes-append, inside_one}
use Rattle.json.specs.Print.{escape_byte, escape}
use Rattle.js_text.specs.Position.{is_line_terminator}
use Rattle.js_text.specs.Character.{is_digit}
use Rattle.js_text.specs.Escape.{four_digits}
use Rattle.js_text.specs.Units.{string_rest}
use Rattle.js_layout.specs.Printable.{IsString}
use Rattle.cov_rewritten.specs.Preamble.{json_string}
use Rattle.cov_rewritten.proofs.Quoted.{string_token}

-- ---- a string goes on after what stands in it for a character

off : (b : Bool) → not b ≡ true → b ≡ false
off true e = absurd (true≢false (sym e))
off false e = refl

-- one that an escape of one character may name
abbrev is_single : ℕ → Bool
is_single c = not (c == 0x78) && (not (c == 0x75) && (not (c == 0x0D) && (not (is_line_terminator c) && not (is_digit c))))

abbrev is_plain : ℕ → Bool
is_plain c = not (c == 0x22) && (not (c == 0x0A) && (not (c == 0x0D) && not (c == 0x5C)))

-- a character itself, an escape of one character, or one of four digits
abbrev goes_on : List ℕ → Bool
goes_on (c ∷ []) = is_plain c
goes_on (c ∷ d ∷ []) = (c == 0x5C) && is_single d
goes_on (c ∷ d ∷ e ∷ f ∷ g ∷ h ∷ []) = (c == 0x5C) && ((d == 0x75) && (not (e == 0x7B) && is_some (four_digits (e ∷ f ∷ g ∷ h ∷ []))))
goes_on other = false

plain : (c : ℕ) (rest : List ℕ) → is_plain c ≡ true → string_rest 0x22 zero (c ∷ rest) ≡ string_rest 0x22 zero rest
plain c rest h =
    let a = and_parts _ _ h in
    let b = and_parts _ _ a.1 in
    let d = and_parts _ _ b.1 in
    rw (off (c == 0x22) a.0, off (c == 0x0A) b.0, off (c == 0x0D) d.0, off (c == 0x5C) d.1) refl

single : (c : ℕ) (rest : List ℕ) → is_single c ≡ true → string_rest 0x22 zero (0x5C ∷ c ∷ rest) ≡ string_rest 0x22 zero rest
single c rest h =
    let x = and_parts _ _ h in
    let u = and_parts _ _ x.1 in
    let r = and_parts _ _ u.1 in
    let l = and_parts _ _ r.1 in
    let one : length (c ∷ rest) - length rest ≡ 1 = omega arith in
    rw (off (c == 0x78) x.0, off (c == 0x75) u.0, off (is_line_terminator c) l.0, off (c == 0x0D) r.0, off (is_digit c) l.1) (ap (λ n. string_rest 0x22 n (c ∷ rest)) one)

held : (o : Option ℕ) → is_some o ≡ true → (value : ℕ) × (o ≡ Some value)
held None e = absurd (true≢false (sym e))
held (Some value) e = (value, refl)

four : (e f g h : ℕ) (rest : List ℕ) → not (e == 0x7B) ≡ true → is_some (four_digits (e ∷ f ∷ g ∷ h ∷ [])) ≡ true →
    string_rest 0x22 zero (0x5C ∷ 0x75 ∷ e ∷ f ∷ g ∷ h ∷ rest) ≡ string_rest 0x22 zero rest
four e f g h rest unbraced digits =
    let value = held (four_digits (e ∷ f ∷ g ∷ h ∷ [])) digits in
    let same : four_digits (e ∷ f ∷ g ∷ h ∷ rest) ≡ Some value.0 = value.1 in
    let five : length (0x75 ∷ e ∷ f ∷ g ∷ h ∷ rest) - length rest ≡ 5 = omega arith in
    rw (off (e == 0x7B) unbraced, same) (ap (λ n. string_rest 0x22 n (0x75 ∷ e ∷ f ∷ g ∷ h ∷ rest)) five)

through : (piece rest : List ℕ) → goes_on piece ≡ true → string_rest 0x22 zero (piece ++ rest) ≡ string_rest 0x22 zero rest
through [] rest on = absurd (true≢false (sym on))
through (c ∷ []) rest on = plain c rest on
through (c ∷ d ∷ []) rest on =
    let a = and_parts (c == 0x5C) (is_single d) on in
    ap (λ x. string_rest 0x22 zero (x ∷ d ∷ rest)) (eqb-true c 0x5C a.0) ∙ single d rest a.1
through (c ∷ d ∷ e ∷ []) rest on = absurd (true≢false (sym on))
through (c ∷ d ∷ e ∷ f ∷ []) rest on = absurd (true≢false (sym on))
through (c ∷ d ∷ e ∷ f ∷ g ∷ []) rest on = absurd (true≢false (sym on))
through (c ∷ d ∷ e ∷ f ∷ g ∷ h ∷ []) rest on =
    let a = and_parts _ _ on in
    let b = and_parts _ _ a.1 in
    let z = and_parts _ _ b.1 in
    ap (λ x. string_rest 0x22 zero (x ∷ d ∷ e ∷ f ∷ g ∷ h ∷ rest)) (eqb-true c 0x5C a.0)
    ∙ ap (λ x. string_rest 0x22 zero (0x5C ∷ x ∷ e ∷ f ∷ g ∷ h ∷ rest)) (eqb-true d 0x75 b.0)
    ∙ four e f g h rest z.0 z.1
through (c ∷ d ∷ e ∷ f ∷ g ∷ h ∷ i ∷ more) rest on = absurd (true≢false (sym on))

-- ---- what stands for a character: for one below 128 what stands for its byte, and else the character itself

abbrev escaped : ℕ → List ℕ
escaped c = if nat_lt c 128 then escape_byte c else c ∷ []

abbrev are_ascii : List ℕ → Bool
are_ascii [] = true
are_ascii (c ∷ cs) = nat_lt c 128 && are_ascii cs

-- for all bytes below this one
abbrev all_go_on : ℕ → Bool
all_go_on zero = true
all_go_on (suc n) = goes_on (escape_byte n) && (are_ascii (escape_byte n) && all_go_on n)

each_goes_on : (n : ℕ) → all_go_on n ≡ true → (c : ℕ) → c < n → (goes_on (escape_byte c) ≡ true) × (are_ascii (escape_byte c) ≡ true)
each_goes_on zero all c below = absurd (omega (arith, below))
each_goes_on (suc n) all c below =
    let a = and_parts _ _ all in
    let b = and_parts _ _ a.1 in
    elim (cases_eq c n) [
      | inl same ↦ subst (λ x. (goes_on (escape_byte x) ≡ true) × (are_ascii (escape_byte x) ≡ true)) (sym same) (a.0, b.0)
      | inr other ↦ each_goes_on n b.1 c (omega (arith, below, other))
    ]

bytes_go_on : all_go_on 128 ≡ true
unfolding escape_byte is_digit
bytes_go_on = refl

low : (c : ℕ) → c < 128 → escaped c ≡ escape_byte c
low c small = ap (λ b. if b then escape_byte c else c ∷ []) (lt-ltb c 128 small)

high : (c : ℕ) → 128 ≤ c → escaped c ≡ c ∷ []
high c big = elim (cases_lt c 128) [ inl small ↦ absurd (omega (arith, big, small)) | inr same ↦ ap (λ b. if b then escape_byte c else c ∷ []) (by (nat_lt c 128) refl) ]
  where
    by : (b : Bool) → nat_lt c 128 ≡ b → nat_lt c 128 ≡ false
    by false e = e
    by true e = absurd (omega (arith, big, ltb-true c 128 e))

-- a byte of a longer character stands for itself
plain_byte : (b : ℕ) → 128 ≤ b → escape_byte b ≡ b ∷ []
unfolding escape_byte
plain_byte b big =
    rw (ne_eqb b 34 (λ e. omega (arith, big, e)), ne_eqb b 92 (λ e. omega (arith, big, e)), ne_eqb b 8 (λ e. omega (arith, big, e)), ne_eqb b 12 (λ e. omega (arith, big, e)), ne_eqb b 10 (λ e. omega (arith, big, e)), ne_eqb b 13 (λ e. omega (arith, big, e)), ne_eqb b 9 (λ e. omega (arith, big, e)), by (nat_lt b 32) refl) refl
  where
    by : (x : Bool) → nat_lt b 32 ≡ x → nat_lt b 32 ≡ false
    by false e = e
    by true e = absurd (omega (arith, big, ltb-true b 32 e))

plain_bytes : (bs : List ℕ) → ((k : ℕ) → k < length bs → 128 ≤ get_or bs k 0) → escape bs ≡ bs
plain_bytes [] big = refl
plain_bytes (b ∷ bs) big = ap₂ (λ (xs ys : List ℕ). xs ++ ys) (plain_byte b (big 0 (omega arith))) (plain_bytes bs (λ k below. big (suc k) (omega (arith, below))))

escape_joined : (xs ys : List ℕ) → escape (xs ++ ys) ≡ escape xs ++ escape ys
escape_joined [] ys = refl
escape_joined (x ∷ xs) ys = ap (λ l. escape_byte x ++ l) (escape_joined xs ys) ∙ sym (append_assoc (escape_byte x) (escape xs) (escape ys))

ascii_spelt : (cs : List ℕ) → are_ascii cs ≡ true → encode_utf8_all cs ≡ cs
ascii_spelt [] e = refl
ascii_spelt (c ∷ cs) e =
    let a = and_parts (nat_lt c 128) (are_ascii cs) e in
    ap₂ (λ (xs ys : List ℕ). xs ++ ys) (encode_ascii c (ltb-true c 128 a.0)) (ascii_spelt cs a.1)

ascii_scalars : (cs : List ℕ) → are_ascii cs ≡ true → all_scalars cs ≡ true
ascii_scalars [] e = refl
ascii_scalars (c ∷ cs) e =
    let a = and_parts (nat_lt c 128) (are_ascii cs) e in
    let small : c < 128 = ltb-true c 128 a.0 in
    and_from _ _ (low_scalar c (omega (arith, small))) (ascii_scalars cs a.1)

scalars_joined : (xs ys : List ℕ) → all_scalars xs ≡ true → all_scalars ys ≡ true → all_scalars (xs ++ ys) ≡ true
scalars_joined [] ys e f = f
scalars_joined (x ∷ xs) ys e f = let a = and_parts _ _ e in and_from _ _ a.0 (scalars_joined xs ys a.1 f)

-- a character: a string goes on after it, it is one, and its bytes are what stands for those of the character
pub record Stands (c : ℕ) : Type 0 where
  pub on : goes_on (escaped c) ≡ true
  pub scalars : all_scalars (escaped c) ≡ true
  pub spelt : encode_utf8_all (escaped c) ≡ escape (encode c)

stands : (c : ℕ) → scalar c ≡ true → Stands c
stands c ok = elim (cases_lt c 128) [
  | inl small ↦
      let both = each_goes_on 128 bytes_go_on c small in
      let same = low c small in record {
        on = ap goes_on same ∙ both.0;
        scalars = ap all_scalars same ∙ ascii_scalars (escape_byte c) both.1;
        spelt = ap encode_utf8_all same ∙ ascii_spelt (escape_byte c) both.1 ∙ sym (append-nil (escape_byte c)) ∙ sym (ap escape (encode_ascii c small));
      }
  | inr big ↦
      let same = high c big in
      let bytes : (k : ℕ) → k < length (encode c) → 128 ≤ get_or (encode c) k 0 = λ k below. elim (cases_lt (get_or (encode c) k 0) 128) [
        | inl less ↦ absurd (omega (arith, big, inside_one c [] (encode c) k (sym (append-nil (encode c))) below less))
        | inr more ↦ more
      ] in record {
        on = ap goes_on same ∙ plain_here c big;
        scalars = ap all_scalars same ∙ and_from _ _ ok refl;
        spelt = ap encode_utf8_all same ∙ append-nil (encode c) ∙ sym (plain_bytes (encode c) bytes);
      }
]
  where
    plain_here : (c : ℕ) → 128 ≤ c → is_plain c ≡ true
    plain_here c big =
        rw (ne_eqb c 0x22 (λ e. omega (arith, big, e)), ne_eqb c 0x0A (λ e. omega (arith, big, e)), ne_eqb c 0x0D (λ e. omega (arith, big, e)), ne_eqb c 0x5C (λ e. omega (arith, big, e))) refl

-- ---- a text

through_all : (cs : List ℕ) → all_scalars cs ≡ true → string_rest 0x22 zero (flat_map escaped cs ++ 0x22 ∷ []) ≡ Some []
through_all [] ok = refl
through_all (c ∷ cs) ok =
    let a = and_parts _ _ ok in
    ap (string_rest 0x22 zero) (append_assoc (escaped c) (flat_map escaped cs) (0x22 ∷ []))
    ∙ through (escaped c) (flat_map escaped cs ++ 0x22 ∷ []) (stands c a.0).on
    ∙ through_all cs a.1

scalars_all : (cs : List ℕ) → all_scalars cs ≡ true → all_scalars (flat_map escaped cs) ≡ true
scalars_all [] ok = refl
scalars_all (c ∷ cs) ok = let a = and_parts _ _ ok in scalars_joined (escaped c) (flat_map escaped cs) (stands c a.0).scalars (scalars_all cs a.1)

spelt_all : (cs : List ℕ) → all_scalars cs ≡ true → encode_utf8_all (flat_map escaped cs) ≡ escape (encode_utf8_all cs)
spelt_all [] ok = refl
spelt_all (c ∷ cs) ok =
    let a = and_parts _ _ ok in
    encodes-append (escaped c) (flat_map escaped cs)
    ∙ ap₂ (λ (xs ys : List ℕ). xs ++ ys) (stands c a.0).spelt (spelt_all cs a.1)
    ∙ sym (escape_joined (encode c) (encode_utf8_all cs))

pub json_string_is : (s : List ℕ) → IsUtf8 s → IsString (json_string s)
json_string_is s (cs, (ok, spells)) = record {
  token = string_token (escape s) (flat_map escaped cs) (scalars_all cs ok) (spelt_all cs ok ∙ ap escape spells) (through_all cs ok);
  units = refl;
}
