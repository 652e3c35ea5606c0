-- Numbers, read from the left and from the right.
use Rattle.std.proofs.Common.{◌≡◌, ℕ, ◌+◌, ◌-◌, ◌*◌, ◌%◌, ◌<◌, ◌≤◌, ◌==◌, nat_lt, Bool, true, false, cond, ◌⊎◌, inl, inr, List, [], ◌∷◌, Option, Some, None, refl, sym, ap, ◌∙◌, arith}
use Rattle.std.specs.Option.{option_map, option_and_then}
use Rattle.std.proofs.lemmas.Bool.{lt-ltb, le-ltb, ltb-true, ltb-false}
use Rattle.std.proofs.Math.Nat.{mul-le-mul_right}
use Rattle.source_map.specs.Vlq.{digit_of, below, limit, with_digit, read_numbers}
use Rattle.source_map.specs.private.Numbers.{with_bits, heavier, taken, first}

-- ---- a bound

pub below-yes : (bound value : ℕ) → value < bound → below bound value ≡ Some value
below-yes bound value h = ap (λ b. cond b (Some value) None) (lt-ltb value bound h)

pub below-no : (bound value : ℕ) → bound ≤ value → below bound value ≡ None
below-no bound value h = ap (λ b. cond b (Some value) None) (le-ltb value bound h)

-- ---- a digit

test_false : (b : Bool) (x : ℕ) (rest : Option ℕ) → b ≡ false → cond b (Some x) rest ≡ rest
test_false b x rest e = ap (λ b. cond b (Some x) rest) e

-- what a digit's test says
digit-below : (byte digit : ℕ) → digit_of byte ≡ Some digit → digit < 64
digit-below byte digit e = grind arith

-- ---- weights: the weight kept is the weight, or both are past the limit

record Weighs (kept weight : ℕ) : Type 0 where
  some : 1 ≤ weight
  is : (kept ≡ weight) ⊎ ((limit ≤ kept) × (limit ≤ weight))

weighs-more-by : (b : Bool) (kept weight : ℕ) → nat_lt kept limit ≡ b → Weighs kept weight → Weighs (cond b (kept * 32) kept) (weight * 32)
weighs-more-by true kept weight e w =
    let light : kept < limit = ltb-true kept limit e in
    let some : 1 ≤ weight = w.some in
    record {
      some = omega arith;
      is = elim w.is [ inl same ↦ inl (ap (λ n. n * 32) same) | inr both ↦ absurd (omega (arith, both.0)) ];
    }
weighs-more-by false kept weight e w =
    let heavy : limit ≤ kept = ltb-false kept limit e in
    let some : 1 ≤ weight = w.some in
    record {
      some = omega arith;
      is = elim w.is [ inl same ↦ inr (heavy, omega (arith, same)) | inr both ↦ inr (both.0, omega (arith, both.1)) ];
    }

weighs-more : (kept weight : ℕ) → Weighs kept weight → Weighs (heavier kept) (weight * 32)
weighs-more kept weight w = weighs-more-by (nat_lt kept limit) kept weight refl w

one-least : (weight n : ℕ) → 1 ≤ weight → n ≤ weight * n
one-least weight n some = grind (arith, mul-le-mul_right)

-- a digit's bits at their weight
bits-by : (zero_bits light low : Bool) (value kept weight bits : ℕ) → (bits == 0) ≡ zero_bits → nat_lt kept limit ≡ light → nat_lt (value + kept * bits) limit ≡ low → value < limit → Weighs kept weight →
    cond zero_bits (Some value) (cond light (cond low (Some (value + kept * bits)) None) None) ≡ below limit (value + weight * bits)
bits-by true light low value kept weight bits z l o small w =
    let none : bits ≡ 0 = Rattle.std.proofs.Common.eqb-true bits 0 z in
    sym (below-yes limit value small) ∙ ap (below limit) (omega (arith, ap (λ n. weight * n) none))
bits-by false false low value kept weight bits z l o small w =
    let some : 1 ≤ bits = grind (arith, z) in
    let heavy : limit ≤ kept = ltb-false kept limit l in
    let past : limit ≤ weight = elim w.is [ inl same ↦ omega (arith, same) | inr both ↦ both.1 ] in
    let more : weight ≤ bits * weight = one-least bits weight some in
    sym (below-no limit (value + weight * bits) (omega arith))
bits-by false true true value kept weight bits z l o small w =
    let light : kept < limit = ltb-true kept limit l in
    let same : kept ≡ weight = elim w.is [ inl same ↦ same | inr both ↦ absurd (omega (arith, both.0)) ] in
    sym (below-yes limit (value + kept * bits) (ltb-true (value + kept * bits) limit o)) ∙ ap (λ n. below limit (value + n * bits)) same
bits-by false true false value kept weight bits z l o small w =
    let light : kept < limit = ltb-true kept limit l in
    let same : kept ≡ weight = elim w.is [ inl same ↦ same | inr both ↦ absurd (omega (arith, both.0)) ] in
    sym (below-no limit (value + kept * bits) (ltb-false (value + kept * bits) limit o)) ∙ ap (λ n. below limit (value + n * bits)) same

bits-is : (value kept weight bits : ℕ) → value < limit → Weighs kept weight → with_bits value kept bits ≡ below limit (value + weight * bits)
bits-is value kept weight bits small w = bits-by (bits == 0) (nat_lt kept limit) (nat_lt (value + kept * bits) limit) value kept weight bits refl refl refl small w

-- ---- a number from the left, with what was before

abbrev Taken : Type 0
Taken = Option (ℕ × List ℕ)

abbrev onto : ℕ → ℕ → Taken → Taken
onto value weight found = option_and_then (λ f. option_map (λ n. (n, f.1)) (below limit (value + weight * f.0))) found

abbrev over : ℕ → Taken → Taken
over bits found = option_and_then (λ f. option_map (λ n. (n, f.1)) (below limit (bits + 32 * f.0))) found

below-by : (b : Bool) (bound value : ℕ) → nat_lt value bound ≡ b → (below bound value ≡ Some value) × (value < bound) ⊎ (below bound value ≡ None) × (bound ≤ value)
below-by true bound value e = inl (ap (λ b. cond b (Some value) None) e, ltb-true value bound e)
below-by false bound value e = inr (ap (λ b. cond b (Some value) None) e, ltb-false value bound e)

below-cases : (bound value : ℕ) → (below bound value ≡ Some value) × (value < bound) ⊎ (below bound value ≡ None) × (bound ≤ value)
below-cases bound value = below-by (nat_lt value bound) bound value refl

spread-out : (value weight bits n : ℕ) → (value + weight * bits) + (weight * 32) * n ≡ value + weight * (bits + 32 * n)
spread-out value weight bits n = omega arith

-- a digit more before what was found, where it isn't past the limit
more-low : (value weight bits : ℕ) (found : Taken) → 1 ≤ weight → onto (value + weight * bits) (weight * 32) found ≡ onto value weight (over bits found)
more-low value weight bits None some = refl
more-low value weight bits (Some (n, rest)) some =
    elim (below-cases limit (bits + 32 * n)) [
      | inl low ↦
          ap (λ m. option_map (λ n. (n, rest)) (below limit m)) (spread-out value weight bits n)
          ∙ sym (ap (λ o. onto value weight (option_map (λ n. (n, rest)) o)) low.0)
      | inr high ↦
          let least : bits + 32 * n ≤ weight * (bits + 32 * n) = one-least weight (bits + 32 * n) some in
          ap (λ o. option_map (λ n. (n, rest)) o) (below-no limit ((value + weight * bits) + (weight * 32) * n) (omega (arith, spread-out value weight bits n, high.1)))
          ∙ sym (ap (λ o. onto value weight (option_map (λ n. (n, rest)) o)) high.0)
    ]

-- and where it is
more-high : (value weight bits : ℕ) (found : Taken) → limit ≤ value + weight * bits → 1 ≤ weight → None ≡ onto value weight (over bits found)
more-high value weight bits None high some = refl
more-high value weight bits (Some (n, rest)) high some =
    elim (below-cases limit (bits + 32 * n)) [
      | inl low ↦
          sym (ap (λ o. onto value weight (option_map (λ n. (n, rest)) o)) low.0
          ∙ ap (λ o. option_map (λ n. (n, rest)) o) (below-no limit (value + weight * (bits + 32 * n)) (omega (arith, spread-out value weight bits n))))
      | inr past ↦ sym (ap (λ o. onto value weight (option_map (λ n. (n, rest)) o)) past.0)
    ]

abbrev with_rest : List ℕ → ℕ → Taken
with_rest rest more = Some (more, rest)

last-digit : (o : Option ℕ) (rest : List ℕ) → option_and_then (with_rest rest) o ≡ option_map (λ n. (n, rest)) o
last-digit None rest = refl
last-digit (Some n) rest = refl

digit-by : (b : Bool) (value kept weight digit : ℕ) (bytes : List ℕ) → nat_lt digit 32 ≡ b → digit < 64 → value < limit → Weighs kept weight →
    ((m : ℕ) → m < limit → taken m (heavier kept) bytes ≡ onto m (weight * 32) (first bytes)) →
    option_and_then (λ more. cond b (Some (more, bytes)) (taken more (heavier kept) bytes)) (with_bits value kept (digit % 32)) ≡ onto value weight (cond b (Some (digit, bytes)) (over (digit - 32) (first bytes)))
digit-by true value kept weight digit bytes e low small w rest =
    let is : digit < 32 = ltb-true digit 32 e in
    let same : digit % 32 ≡ digit = omega arith in
    last-digit (with_bits value kept (digit % 32)) bytes
    ∙ ap (option_map (λ n. (n, bytes))) (bits-is value kept weight (digit % 32) small w ∙ ap (λ d. below limit (value + weight * d)) same)
digit-by false value kept weight digit bytes e low small w rest =
    let is : 32 ≤ digit = ltb-false digit 32 e in
    let same : digit % 32 ≡ digit - 32 = omega arith in
    ap (option_and_then (λ more. taken more (heavier kept) bytes)) (bits-is value kept weight (digit % 32) small w ∙ ap (λ d. below limit (value + weight * d)) same)
    ∙ elim (below-cases limit (value + weight * (digit - 32))) [
      | inl light ↦
          ap (option_and_then (λ more. taken more (heavier kept) bytes)) light.0
          ∙ rest (value + weight * (digit - 32)) light.1
          ∙ more-low value weight (digit - 32) (first bytes) w.some
      | inr heavy ↦
          ap (option_and_then (λ more. taken more (heavier kept) bytes)) heavy.0
          ∙ more-high value weight (digit - 32) (first bytes) heavy.1 w.some
    ]

byte-by : (o : Option ℕ) (value kept weight byte : ℕ) (bytes : List ℕ) → digit_of byte ≡ o → value < limit → Weighs kept weight →
    ((m : ℕ) → m < limit → taken m (heavier kept) bytes ≡ onto m (weight * 32) (first bytes)) →
    option_and_then (λ digit. option_and_then (λ more. cond (nat_lt digit 32) (Some (more, bytes)) (taken more (heavier kept) bytes)) (with_bits value kept (digit % 32))) o
    ≡ onto value weight (option_and_then (λ digit. cond (nat_lt digit 32) (Some (digit, bytes)) (over (digit - 32) (first bytes))) o)
byte-by None value kept weight byte bytes e small w rest = refl
byte-by (Some digit) value kept weight byte bytes e small w rest = digit-by (nat_lt digit 32) value kept weight digit bytes refl (digit-below byte digit e) small w rest

taken-is : (bytes : List ℕ) (value kept weight : ℕ) → value < limit → Weighs kept weight → taken value kept bytes ≡ onto value weight (first bytes)
taken-is [] value kept weight small w = refl
taken-is (byte ∷ bytes) value kept weight small w =
    byte-by (digit_of byte) value kept weight byte bytes refl small w (λ m low. taken-is bytes m (heavier kept) (weight * 32) low (weighs-more kept weight w))

-- ---- and with nothing before

same-value : (n : ℕ) → 0 + 1 * n ≡ n
same-value n = omega arith

plain-low : (n : ℕ) (rest : List ℕ) → n < limit → onto 0 1 (Some (n, rest)) ≡ Some (n, rest)
plain-low n rest low = ap (λ m. option_map (λ n. (n, rest)) (below limit m)) (same-value n) ∙ ap (option_map (λ n. (n, rest))) (below-yes limit n low)

plain-over : (bits : ℕ) (found : Taken) → onto 0 1 (over bits found) ≡ over bits found
plain-over bits None = refl
plain-over bits (Some (n, rest)) =
    elim (below-cases limit (bits + 32 * n)) [
      | inl low ↦
          ap (λ o. onto 0 1 (option_map (λ n. (n, rest)) o)) low.0 ∙ plain-low (bits + 32 * n) rest low.1 ∙ sym (ap (option_map (λ n. (n, rest))) low.0)
      | inr high ↦ ap (λ o. onto 0 1 (option_map (λ n. (n, rest)) o)) high.0 ∙ sym (ap (option_map (λ n. (n, rest))) high.0)
    ]

plain-digit : (b : Bool) (digit : ℕ) (bytes : List ℕ) → digit < 64 → onto 0 1 (cond b (Some (digit, bytes)) (over (digit - 32) (first bytes))) ≡ cond b (Some (digit, bytes)) (over (digit - 32) (first bytes))
plain-digit true digit bytes low = plain-low digit bytes (omega arith)
plain-digit false digit bytes low = plain-over (digit - 32) (first bytes)

plain-byte : (o : Option ℕ) (byte : ℕ) (bytes : List ℕ) → digit_of byte ≡ o →
    onto 0 1 (option_and_then (λ digit. cond (nat_lt digit 32) (Some (digit, bytes)) (over (digit - 32) (first bytes))) o) ≡ option_and_then (λ digit. cond (nat_lt digit 32) (Some (digit, bytes)) (over (digit - 32) (first bytes))) o
plain-byte None byte bytes e = refl
plain-byte (Some digit) byte bytes e = plain-digit (nat_lt digit 32) digit bytes (digit-below byte digit e)

plain : (bytes : List ℕ) → onto 0 1 (first bytes) ≡ first bytes
plain [] = refl
plain (byte ∷ bytes) = plain-byte (digit_of byte) byte bytes refl

one : Weighs 1 1
one = record { some = omega arith; is = inl refl }

pub taken_first : (bytes : List ℕ) → taken 0 1 bytes ≡ first bytes
taken_first bytes = taken-is bytes 0 1 1 (omega arith) one ∙ plain bytes

-- ---- all numbers are the first one and those after it

abbrev Numbers : Type 0
Numbers = Option (List ℕ)

abbrev before : Taken → Numbers
before found = option_and_then (λ f. option_map (λ ns. f.0 ∷ ns) (read_numbers f.1)) found

short-digit : (digit : ℕ) (numbers : Numbers) → nat_lt digit 32 ≡ true → option_and_then (with_digit digit) numbers ≡ option_map (λ ns. digit ∷ ns) numbers
short-digit digit None e = refl
short-digit digit (Some []) e = ap (λ b. cond b (Some (digit ∷ [])) None) e
short-digit digit (Some (n ∷ ns)) e = ap (λ b. cond b (Some (digit ∷ n ∷ ns)) (option_map (λ m. m ∷ ns) (below limit ((digit - 32) + 32 * n)))) e

-- a number that goes on has to have more
long-none : (digit : ℕ) → nat_lt digit 32 ≡ false → with_digit digit [] ≡ None
long-none digit e = ap (λ b. cond b (Some (digit ∷ [])) None) e

long-digit : (digit : ℕ) (found : Taken) → nat_lt digit 32 ≡ false → option_and_then (with_digit digit) (before found) ≡ before (over (digit - 32) found)
long-digit digit None e = refl
long-digit digit (Some (n, rest)) e = by_rest (read_numbers rest) refl
  where
    by_rest : (o : Numbers) → read_numbers rest ≡ o → option_and_then (with_digit digit) (option_map (λ ns. n ∷ ns) (read_numbers rest)) ≡ before (option_map (λ m. (m, rest)) (below limit ((digit - 32) + 32 * n)))
    by_rest None is =
        ap (λ o. option_and_then (with_digit digit) (option_map (λ ns. n ∷ ns) o)) is
        ∙ elim (below-cases limit ((digit - 32) + 32 * n)) [
          | inl low ↦ sym (ap (λ o. before (option_map (λ m. (m, rest)) o)) low.0 ∙ ap (option_map (λ ns. ((digit - 32) + 32 * n) ∷ ns)) is)
          | inr high ↦ sym (ap (λ o. before (option_map (λ m. (m, rest)) o)) high.0)
        ]
    by_rest (Some ns) is =
        ap (λ o. option_and_then (with_digit digit) (option_map (λ ns. n ∷ ns) o)) is
        ∙ ap (λ b. cond b (Some (digit ∷ n ∷ ns)) (option_map (λ m. m ∷ ns) (below limit ((digit - 32) + 32 * n)))) e
        ∙ elim (below-cases limit ((digit - 32) + 32 * n)) [
          | inl low ↦
              ap (option_map (λ m. m ∷ ns)) low.0
              ∙ sym (ap (λ o. before (option_map (λ m. (m, rest)) o)) low.0 ∙ ap (option_map (λ ns. ((digit - 32) + 32 * n) ∷ ns)) is)
          | inr high ↦ ap (option_map (λ m. m ∷ ns)) high.0 ∙ sym (ap (λ o. before (option_map (λ m. (m, rest)) o)) high.0)
        ]

numbers-digit : (b : Bool) (digit : ℕ) (bytes : List ℕ) → nat_lt digit 32 ≡ b → ((c : ℕ) (cs : List ℕ) → bytes ≡ c ∷ cs → read_numbers bytes ≡ before (first bytes)) →
    option_and_then (with_digit digit) (read_numbers bytes) ≡ before (cond b (Some (digit, bytes)) (over (digit - 32) (first bytes)))
numbers-digit true digit bytes e rest = short-digit digit (read_numbers bytes) e
numbers-digit false digit [] e rest = long-none digit e
numbers-digit false digit (c ∷ cs) e rest = ap (option_and_then (with_digit digit)) (rest c cs refl) ∙ long-digit digit (first (c ∷ cs)) e

numbers-byte : (o : Option ℕ) (bytes : List ℕ) → ((c : ℕ) (cs : List ℕ) → bytes ≡ c ∷ cs → read_numbers bytes ≡ before (first bytes)) →
    option_and_then (λ digit. option_and_then (with_digit digit) (read_numbers bytes)) o ≡ before (option_and_then (λ digit. cond (nat_lt digit 32) (Some (digit, bytes)) (over (digit - 32) (first bytes))) o)
numbers-byte None bytes rest = refl
numbers-byte (Some digit) bytes rest = numbers-digit (nat_lt digit 32) digit bytes refl rest

pub numbers-first : (byte : ℕ) (bytes : List ℕ) → read_numbers (byte ∷ bytes) ≡ before (first (byte ∷ bytes))
numbers-first byte [] = numbers-byte (digit_of byte) [] (λ c cs e. cc)
numbers-first byte (next ∷ bytes) = numbers-byte (digit_of byte) (next ∷ bytes) (λ c cs e. numbers-first next bytes)
