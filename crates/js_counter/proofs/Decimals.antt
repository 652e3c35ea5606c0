-- Numbers in decimal, as keys and as they are spelled.
use Rattle.std.proofs.Common.{◌⊎◌, inl, inr, ◌≡◌, ◌≢◌, ℕ, zero, suc, ◌+◌, ◌*◌, ◌-◌, ◌/◌, ◌%◌, ◌^◌, ◌<◌, ◌≤◌, ◌&&◌, Bool, true, false, not, List, [], ◌∷◌, ◌++◌, length, Option, Some, None, decimal, get_or, pos, refl, sym, ap, ◌∙◌, arith, cond, if◌then◌else◌}
use Rattle.std.specs.Prelude.{nat_lt, nat_le, nat_eq, filter, take_while, option_and_then, ◌==◌}
use Rattle.std.specs.List.{list_all}
use Rattle.std.specs.Str.Parse.{digits_value}
use Rattle.js_text.specs.Character.{is_digit}
use Rattle.js_text.specs.Lex.{past}
use Rattle.js_text.specs.Number.{base_of}
use Rattle.js_value.specs.Numbers.{ranged, prefix_base, fraction_of, after_fraction, exponent_of, decimal_number, decimal_value, literal_value}
use Rattle.js_value.proofs.NumbersLemmas.{and_first, and_second}
use Rattle.std.proofs.lemmas.List.Sums.{take_while-cons}
use Rattle.js_counter.proofs.Heaps.{append_nothing}
use Rattle.std.specs.Str.{bytes_eq}
use Rattle.std.proofs.lemmas.Bool.Decides.{nat_tests}
use Rattle.std.proofs.lemmas.Fmt.{decimal_is_IsNumeral, decimal_digit, decimal_by_steps, first_decimal, decimal_nonempty, decimal_injective}
use Rattle.std.proofs.lemmas.Slice.Eq.{bytes_eq-Decides}
use Rattle.js_value.specs.Key.{digit_of, digits_after, numeral_of, if_index, index_of}
use Rattle.js_counter.specs.Steady.{index_key, Spells}
use Rattle.js_counter.specs.Represents.{number, member_at}
use Rattle.js_counter.specs.Keys.{numbered_counts, CountsFound}

digit_is : (d : ℕ) → d < 10 → digit_of (48 + d) ≡ Some d
digit_is d l =
    let a : (nat_le 48 (48 + d) && nat_le (48 + d) 57) ≡ true = grind (arith, nat_tests) in
    let e : (48 + d) - 48 ≡ d = omega arith in
    ap (λ b. if b then Some ((48 + d) - 48) else None) a ∙ ap Some e

after_push : (ds : List ℕ) (before m d : ℕ) → d < 10 → digits_after before ds ≡ Some m → digits_after before (ds ++ (48 + d) ∷ []) ≡ Some (m * 10 + d)
after_push [] before m d l e =
    ap (λ o. elim o [ None ↦ None | Some digit ↦ digits_after (before * 10 + digit) [] ]) (digit_is d l) ∙ ap (λ n. Some (n * 10 + d)) (inj e)
  where
    inj : {X : Type 0} {a b : X} → Some a ≡ Some b → a ≡ b
    inj e = cc
after_push (u ∷ us) before m d l e = by (digit_of u) refl e (λ digit f. after_push us (before * 10 + digit) m d l f)
  where
    by : (o : Option ℕ) → digit_of u ≡ o → elim o [ None ↦ None | Some digit ↦ digits_after (before * 10 + digit) us ] ≡ Some m →
        ((digit : ℕ) → digits_after (before * 10 + digit) us ≡ Some m → digits_after (before * 10 + digit) (us ++ (48 + d) ∷ []) ≡ Some (m * 10 + d)) →
        digits_after before ((u ∷ us) ++ (48 + d) ∷ []) ≡ Some (m * 10 + d)
    by None g f ih = cc
    by (Some digit) g f ih = ap (λ o. elim o [ None ↦ None | Some digit ↦ digits_after (before * 10 + digit) (us ++ (48 + d) ∷ []) ]) g ∙ ih digit f

digits_read : (n : ℕ) → n < 2 ^ 64 → digits_after 0 (decimal n) ≡ Some n
digits_read = decimal_by_steps (λ n ds. digits_after 0 ds ≡ Some n)
    (λ n l. let z : 0 * 10 + n ≡ n = omega arith in ap (λ o. elim o [ None ↦ None | Some digit ↦ digits_after (0 * 10 + digit) [] ]) (digit_is n l) ∙ ap Some z)
    (λ n ds l e. let d : n % 10 < 10 = omega arith in let w : (n / 10) * 10 + n % 10 ≡ n = omega arith in after_push ds 0 (n / 10) (n % 10) d e ∙ ap Some w)

-- a numeral without leading zeros
numeral_by : (ds : List ℕ) (n : ℕ) → digits_after 0 ds ≡ Some n → 0 < length ds → (48 < get_or ds 0 0) ⊎ (length ds ≡ 1) → numeral_of ds ≡ Some n
numeral_by [] n e l h = absurd (omega arith)
numeral_by (u ∷ []) n e l h = single (digit_of u) e
  where
    single : (o : Option ℕ) → elim o [ None ↦ None | Some digit ↦ digits_after (0 * 10 + digit) [] ] ≡ Some n → o ≡ Some n
    single None f = cc
    single (Some d) f = let z : d ≡ 0 * 10 + d = omega arith in ap Some z ∙ f
numeral_by (u ∷ v ∷ us) n e l (inl h) = let t : nat_eq u 48 ≡ false = grind (arith, nat_tests) in ap (λ b. if b then None else digits_after 0 (u ∷ v ∷ us)) t ∙ e
numeral_by (u ∷ v ∷ us) n e l (inr h) = absurd (omega (arith, h))

numeral_read : (n : ℕ) → n < 2 ^ 64 → numeral_of (decimal n) ≡ Some n
numeral_read zero l = numeral_by (decimal 0) 0 (digits_read 0 l) (decimal_nonempty 0 l) (inr (ap length (decimal_digit 0 (omega arith))))
numeral_read (suc n) l = numeral_by (decimal (suc n)) (suc n) (digits_read (suc n) l) (decimal_nonempty (suc n) l) (inl (first_decimal (suc n) (omega arith) l))

-- the key of an index is read back, and keys of different numbers differ
pub index_read : (n : ℕ) → n < 2 ^ 32 - 1 → index_of (index_key n) ≡ Some n
index_read n l =
    let m : n < 2 ^ 64 = omega arith in
    let t : nat_lt n (2 ^ 32 - 1) ≡ true = grind (arith, nat_tests) in
    ap if_index (numeral_read n m) ∙ ap (λ b. if b then Some n else None) t

pub keys_differ : (m n : ℕ) → m < 2 ^ 64 → n < 2 ^ 64 → m ≢ n → bytes_eq (index_key m) (index_key n) ≡ false
keys_differ m n a b c = by (bytes_eq (index_key m) (index_key n)) refl
  where
    by : (t : Bool) → bytes_eq (index_key m) (index_key n) ≡ t → bytes_eq (index_key m) (index_key n) ≡ false
    by false e = e
    by true e = absurd (c (decimal_injective m n a b ((bytes_eq-Decides (index_key m) (index_key n)).0 e)))

-- As they are spelled

digit_tested : (d : ℕ) → d < 10 → is_digit (48 + d) ≡ true
unfolding is_digit
digit_tested d l = grind (arith, nat_tests)

digit_bounds : (c : ℕ) → is_digit c ≡ true → (48 ≤ c) × (c ≤ 57)
unfolding is_digit
digit_bounds c h = (grind (arith, nat_tests), grind (arith, nat_tests))

all_digits : (n : ℕ) → n < 2 ^ 64 → list_all is_digit (decimal n) ≡ true
all_digits = decimal_by_steps (λ n ds. list_all is_digit ds ≡ true)
    (λ n l. ap (λ b. b && true) (digit_passes n l))
    (λ n ds l e. let d : n % 10 < 10 = omega arith in pushed is_digit ds (48 + n % 10) e (digit_passes (n % 10) d))
  where
    digit_passes : (d : ℕ) → d < 10 → is_digit (48 + d) ≡ true
    digit_passes d l = digit_tested d l

    pushed : (p : ℕ → Bool) (xs : List ℕ) (y : ℕ) → list_all p xs ≡ true → p y ≡ true → list_all p (xs ++ y ∷ []) ≡ true
    pushed p [] y e f = ap (λ b. b && true) f
    pushed p (x ∷ xs) y e f = ap (λ b. b && list_all p (xs ++ y ∷ [])) (and_first (p x) (list_all p xs) e) ∙ pushed p xs y (and_second (p x) (list_all p xs) e) f

first_digit : (c : ℕ) (cs : List ℕ) → list_all is_digit (c ∷ cs) ≡ true → (48 ≤ c) × (c ≤ 57)
first_digit c cs e = digit_bounds c (and_first (is_digit c) (list_all is_digit cs) e)

kept_all : (ds : List ℕ) → list_all is_digit ds ≡ true → filter (λ c. not (nat_eq c 0x5F)) ds ≡ ds
kept_all [] e = refl
kept_all (c ∷ cs) e =
    let b = first_digit c cs e in
    let t : not (nat_eq c 0x5F) ≡ true = not_line c b.1 in
    ap (λ b. if b then c ∷ filter (λ c. not (nat_eq c 0x5F)) cs else filter (λ c. not (nat_eq c 0x5F)) cs) t
    ∙ ap (λ xs. c ∷ xs) (kept_all cs (and_second (is_digit c) (list_all is_digit cs) e))
  where
    not_line : (c : ℕ) → c ≤ 57 → not (nat_eq c 0x5F) ≡ true
    not_line c l = let t : nat_eq c 0x5F ≡ false = grind (arith, nat_tests) in ap not t

taken_all : (ds : List ℕ) → list_all is_digit ds ≡ true → take_while is_digit ds ≡ ds
taken_all [] e = refl
taken_all (c ∷ cs) e = take_while-cons is_digit c cs ∙ ap (λ b. cond b (c ∷ take_while is_digit cs) []) (and_first (is_digit c) (list_all is_digit cs) e) ∙ ap (λ xs. c ∷ xs) (taken_all cs (and_second (is_digit c) (list_all is_digit cs) e))

past_all : (ds : List ℕ) → list_all is_digit ds ≡ true → past is_digit ds ≡ []
past_all [] e = refl
past_all (c ∷ cs) e = ap (λ b. if b then past is_digit cs else c ∷ cs) (and_first (is_digit c) (list_all is_digit cs) e) ∙ past_all cs (and_second (is_digit c) (list_all is_digit cs) e)

value_of_digits : (ds : List ℕ) → list_all is_digit ds ≡ true → 0 < length ds → decimal_value ds ≡ Some (digits_value 10 ds)
value_of_digits ds e l =
    let t : nat_lt 0 (length (ds ++ [])) ≡ true = let a = ap length (append_nothing ds) in grind (arith, nat_tests) in
    let z : digits_value 10 (ds ++ []) * 10 ^ 0 ≡ digits_value 10 ds = ap (λ xs. digits_value 10 xs * 10 ^ 0) (append_nothing ds) ∙ omega arith in
    ap (λ a. decimal_number (take_while is_digit ds) (fraction_of a) (exponent_of (after_fraction a))) (past_all ds e)
    ∙ ap (λ xs. decimal_number xs [] (Some (pos 0))) (taken_all ds e)
    ∙ ap (λ b. if b then Some (digits_value 10 (ds ++ []) * 10 ^ 0) else None) t
    ∙ ap Some z

no_prefix : (ds : List ℕ) → (48 < get_or ds 0 0) ⊎ (length ds ≡ 1) → prefix_base ds ≡ None
no_prefix [] h = refl
no_prefix (c ∷ []) h = refl
no_prefix (c ∷ d ∷ cs) (inl h) = let t : (c == 0x30) ≡ false = grind (arith, nat_tests) in ap (λ b. if b then base_of d else None) t
no_prefix (c ∷ d ∷ cs) (inr h) = absurd (omega (arith, h))

shape : (n : ℕ) → n < 2 ^ 64 → (48 < get_or (decimal n) 0 0) ⊎ (length (decimal n) ≡ 1)
shape zero l = inr (ap length (decimal_digit 0 (omega arith)))
shape (suc n) l = inl (first_decimal (suc n) (omega arith) l)

pub spells : (n : ℕ) → n < 2 ^ 53 → Spells (index_key n) n
spells n l =
    let m : n < 2 ^ 64 = omega arith in
    let e = all_digits n m in
    let t : nat_lt n (2 ^ 53) ≡ true = grind (arith, nat_tests) in
    ap (λ base. option_and_then (λ v. ranged (pos v)) (literal_value base (decimal n))) (no_prefix (decimal n) (shape n m))
    ∙ ap (λ ds. option_and_then (λ v. ranged (pos v)) (decimal_value ds)) (kept_all (decimal n) e)
    ∙ ap (option_and_then (λ v. ranged (pos v))) (value_of_digits (decimal n) e (decimal_nonempty n m))
    ∙ ap (λ v. ranged (pos v)) (decimal_is_IsNumeral n m).1
    ∙ ap (λ b. if b then Some (pos n) else None) t

pub counts_found : CountsFound
counts_found k i [] l b = absurd (omega arith)
counts_found k zero (n ∷ ns) l b =
    let z : k + 0 ≡ k = omega arith in
    ap (λ j. member_at (numbered_counts k (n ∷ ns)) (index_key j)) z
    ∙ ap (λ t. if t then Some (number n) else member_at (numbered_counts (suc k) ns) (index_key k)) ((bytes_eq-Decides (index_key k) (index_key k)).1 refl)
counts_found k (suc i) (n ∷ ns) l b =
    let z : suc k + i ≡ k + suc i = omega arith in
    let m : i < length ns = omega arith in
    let c : suc k + length ns ≤ 2 ^ 64 = omega arith in
    ap (λ t. if t then Some (number n) else member_at (numbered_counts (suc k) ns) (index_key (k + suc i))) (keys_differ k (k + suc i) (omega arith) (omega arith) (λ e. omega (arith, e)))
    ∙ ap (λ j. member_at (numbered_counts (suc k) ns) (index_key j)) (sym z)
    ∙ counts_found (suc k) i ns m c
