-- Digits between which separators are passed over.
use Rattle.std.proofs.Common.{◌≡◌, ℕ, ◌+◌, ◌-◌, ◌*◌, ◌<◌, ◌≤◌, ◌==◌, not, Bool, true, false, ◌||◌, List, [], ◌∷◌, ◌++◌, length, take, drop, take_while, get_or, refl, ap, sym, ◌∙◌, arith}
use Rattle.std.proofs.lemmas.Bool.Decides.{nat_tests}
use Rattle.std.proofs.lemmas.List.{take-append-drop, take_more, length-append, take_all, drop_all}
use Rattle.std.proofs.lemmas.List.Sums.{take_while-cons}
use Rattle.std.specs.Char.{digit_value}
use Rattle.std.specs.List.{prefix_len}
use Rattle.std.specs.Str.Parse.{digits_value_after}
use Rattle.js_text.specs.Character.{is_digit}
use Rattle.js_text.specs.Lex.{past}
use Rattle.js_value.specs.private.Separated.{is_separator, is_spaced}
use Rattle.js_value.specs.Numbers.{without_separators}
use Rattle.js_value.proofs.DigitsLemmas.{digits_value_after_push}

taken : (p : ℕ → Bool) (c : ℕ) (cs : List ℕ) → p c ≡ true → take_while p (c ∷ cs) ≡ c ∷ take_while p cs
taken p c cs e = rw (take_while-cons p c cs, e) refl

stopped : (p : ℕ → Bool) (c : ℕ) (cs : List ℕ) → p c ≡ false → take_while p (c ∷ cs) ≡ []
stopped p c cs e = rw (take_while-cons p c cs, e) refl

passed : (p : ℕ → Bool) (c : ℕ) (cs : List ℕ) → p c ≡ true → past p (c ∷ cs) ≡ past p cs
passed p c cs e = rw e refl

left : (p : ℕ → Bool) (c : ℕ) (cs : List ℕ) → p c ≡ false → past p (c ∷ cs) ≡ c ∷ cs
left p c cs e = rw e refl

-- what is no separator
abbrev pub stays : ℕ → Bool
stays c = not (c == 0x5F)

pub without-stays : (c : ℕ) (cs : List ℕ) → (c == 0x5F) ≡ false → without_separators (c ∷ cs) ≡ c ∷ without_separators cs
without-stays c cs e = rw e refl

pub without-passes : (c : ℕ) (cs : List ℕ) → (c == 0x5F) ≡ true → without_separators (c ∷ cs) ≡ without_separators cs
without-passes c cs e = rw e refl

pub without-append : (xs ys : List ℕ) → without_separators (xs ++ ys) ≡ without_separators xs ++ without_separators ys
without-append [] ys = refl
without-append (x ∷ xs) ys = by (x == 0x5F) refl (without-append xs ys)
  where
    by : (b : Bool) → (x == 0x5F) ≡ b → without_separators (xs ++ ys) ≡ without_separators xs ++ without_separators ys → without_separators (x ∷ (xs ++ ys)) ≡ without_separators (x ∷ xs) ++ without_separators ys
    by true e rest = rw e rest
    by false e rest = rw e (ap (λ zs. x ∷ zs) rest)

-- separators at the start
pub without-past : (cs : List ℕ) → without_separators (past is_separator cs) ≡ without_separators cs
without-past [] = refl
without-past (c ∷ cs) = by (c == 0x5F) refl (without-past cs)
  where
    by : (b : Bool) → (c == 0x5F) ≡ b → without_separators (past is_separator cs) ≡ without_separators cs → without_separators (past is_separator (c ∷ cs)) ≡ without_separators (c ∷ cs)
    by true e rest = ap without_separators (passed is_separator c cs e) ∙ rest ∙ sym (without-passes c cs e)
    by false e rest = ap without_separators (left is_separator c cs e)

past-stays : (cs : List ℕ) (c : ℕ) (rest : List ℕ) → past is_separator cs ≡ c ∷ rest → (c == 0x5F) ≡ false
past-stays [] c rest h = cc
past-stays (x ∷ xs) c rest h = by (x == 0x5F) refl (past-stays xs c rest)
  where
    by : (b : Bool) → (x == 0x5F) ≡ b → (past is_separator xs ≡ c ∷ rest → (c == 0x5F) ≡ false) → (c == 0x5F) ≡ false
    by true e further = further (sym (passed is_separator x xs e) ∙ h)
    by false e further = let same : x ∷ xs ≡ c ∷ rest = sym (left is_separator x xs e) ∙ h in let head : x ≡ c = cc in ap (λ y. y == 0x5F) (sym head) ∙ e

pub first-none : (cs found : List ℕ) → found ≡ past is_separator cs → length found ≡ 0 → without_separators cs ≡ []
first-none cs [] is none = sym (without-past cs) ∙ ap without_separators (sym is)
first-none cs (c ∷ rest) is none = absurd (omega (arith, none))

pub first-some : (cs found : List ℕ) (d : ℕ) → found ≡ past is_separator cs → 1 ≤ length found →
    without_separators cs ≡ get_or found 0 d ∷ without_separators (take (length found - 1) (drop 1 found))
first-some cs [] d is some = absurd (omega (arith, some))
first-some cs (c ∷ rest) d is some =
    sym (without-past cs) ∙ ap without_separators (sym is) ∙ without-stays c rest (past-stays cs c rest (sym is))
    ∙ ap (λ ds. c ∷ without_separators ds) (sym (take_all (length (c ∷ rest) - 1) rest (omega arith)))

-- no digit is a separator
digit_stays : (c : ℕ) → is_digit c ≡ true → (c == 0x5F) ≡ false
unfolding is_digit
digit_stays c h = grind (arith, nat_tests)

spaced-digit : (c : ℕ) → is_digit c ≡ true → is_spaced c ≡ true
spaced-digit c h = rw h refl

spaced-other : (c : ℕ) → is_digit c ≡ false → (c == 0x5F) ≡ false → is_spaced c ≡ false
spaced-other c h e = rw (h, e) refl

spaced-separator : (c : ℕ) → (c == 0x5F) ≡ true → is_spaced c ≡ true
spaced-separator c e = elim (is_digit c) as (λ b. (b || (c == 0x5F)) ≡ true) [ true ↦ refl | false ↦ e ]

pub take-prefix_len : (p : ℕ → Bool) (xs : List ℕ) → take (prefix_len p xs) xs ≡ take_while p xs
take-prefix_len p xs = refl

-- the longest run of digits, and what stands after it
pub without-take_while : (cs : List ℕ) → without_separators (take_while is_spaced cs) ≡ take_while is_digit (without_separators cs)
without-take_while [] = refl
without-take_while (c ∷ cs) = by (c == 0x5F) (is_digit c) refl refl (without-take_while cs)
  where
    by : (s d : Bool) → (c == 0x5F) ≡ s → is_digit c ≡ d → without_separators (take_while is_spaced cs) ≡ take_while is_digit (without_separators cs) → without_separators (take_while is_spaced (c ∷ cs)) ≡ take_while is_digit (without_separators (c ∷ cs))
    by true d e f rest =
        ap without_separators (taken is_spaced c cs (spaced-separator c e)) ∙ without-passes c (take_while is_spaced cs) e
        ∙ rest ∙ sym (ap (take_while is_digit) (without-passes c cs e))
    by false true e f rest =
        ap without_separators (taken is_spaced c cs (spaced-digit c f)) ∙ without-stays c (take_while is_spaced cs) e
        ∙ ap (λ ds. c ∷ ds) rest
        ∙ sym (ap (take_while is_digit) (without-stays c cs e) ∙ taken is_digit c (without_separators cs) f)
    by false false e f rest =
        ap without_separators (stopped is_spaced c cs (spaced-other c f e))
        ∙ sym (ap (take_while is_digit) (without-stays c cs e) ∙ stopped is_digit c (without_separators cs) f)

pub without-past_digits : (cs : List ℕ) → without_separators (past is_spaced cs) ≡ past is_digit (without_separators cs)
without-past_digits [] = refl
without-past_digits (c ∷ cs) = by (c == 0x5F) (is_digit c) refl refl (without-past_digits cs)
  where
    by : (s d : Bool) → (c == 0x5F) ≡ s → is_digit c ≡ d → without_separators (past is_spaced cs) ≡ past is_digit (without_separators cs) → without_separators (past is_spaced (c ∷ cs)) ≡ past is_digit (without_separators (c ∷ cs))
    by true d e f rest =
        ap without_separators (passed is_spaced c cs (spaced-separator c e))
        ∙ rest ∙ sym (ap (past is_digit) (without-passes c cs e))
    by false true e f rest =
        ap without_separators (passed is_spaced c cs (spaced-digit c f))
        ∙ rest ∙ sym (ap (past is_digit) (without-stays c cs e) ∙ passed is_digit c (without_separators cs) f)
    by false false e f rest =
        ap without_separators (left is_spaced c cs (spaced-other c f e)) ∙ without-stays c cs e
        ∙ sym (ap (past is_digit) (without-stays c cs e) ∙ left is_digit c (without_separators cs) f)

-- the number of what was read, with one byte more
pub without-push : (cs : List ℕ) (c : ℕ) → without_separators (cs ++ c ∷ []) ≡ without_separators cs ++ without_separators (c ∷ [])
without-push cs c = without-append cs (c ∷ [])

pub without-take_passes : (cs : List ℕ) (i : ℕ) → i < length cs → (get_or cs i 0 == 0x5F) ≡ true → without_separators (take (i + 1) cs) ≡ without_separators (take i cs)
without-take_passes cs i within e =
    ap without_separators (take_more cs i 0 within) ∙ without-push (take i cs) (get_or cs i 0)
    ∙ ap (λ ds. without_separators (take i cs) ++ ds) (without-passes (get_or cs i 0) [] e)
    ∙ nothing (without_separators (take i cs))
  where
    nothing : (xs : List ℕ) → xs ++ [] ≡ xs
    nothing [] = refl
    nothing (x ∷ xs) = ap (λ ys. x ∷ ys) (nothing xs)

pub without-take_stays : (cs : List ℕ) (i : ℕ) → i < length cs → (get_or cs i 0 == 0x5F) ≡ false → without_separators (take (i + 1) cs) ≡ without_separators (take i cs) ++ get_or cs i 0 ∷ []
without-take_stays cs i within e =
    ap without_separators (take_more cs i 0 within) ∙ without-push (take i cs) (get_or cs i 0)
    ∙ ap (λ ds. without_separators (take i cs) ++ ds) (without-stays (get_or cs i 0) [] e)

pub value-stays : (r n : ℕ) (cs : List ℕ) (i : ℕ) → i < length cs → (get_or cs i 0 == 0x5F) ≡ false →
    digits_value_after r n (without_separators (take (i + 1) cs)) ≡ digits_value_after r n (without_separators (take i cs)) * r + digit_value (get_or cs i 0)
value-stays r n cs i within e =
    ap (digits_value_after r n) (without-take_stays cs i within e) ∙ digits_value_after_push r n (without_separators (take i cs)) (get_or cs i 0)

pub count-stays : (cs : List ℕ) (i : ℕ) → i < length cs → (get_or cs i 0 == 0x5F) ≡ false → length (without_separators (take (i + 1) cs)) ≡ length (without_separators (take i cs)) + 1
count-stays cs i within e = ap length (without-take_stays cs i within e) ∙ length-append (without_separators (take i cs)) (get_or cs i 0 ∷ [])

-- the digits before a place, and those after it
parts : (cs : List ℕ) (i : ℕ) → without_separators cs ≡ without_separators (take i cs) ++ without_separators (drop i cs)
parts cs i = ap without_separators (sym (take-append-drop i cs)) ∙ without-append (take i cs) (drop i cs)

take_first : (xs ys : List ℕ) → take (length xs) (xs ++ ys) ≡ xs
take_first [] ys = refl
take_first (x ∷ xs) ys = ap (λ zs. x ∷ zs) (take_first xs ys)

drop_first : (xs ys : List ℕ) → drop (length xs) (xs ++ ys) ≡ ys
drop_first [] ys = refl
drop_first (x ∷ xs) ys = drop_first xs ys

pub kept_at : (cs : List ℕ) (i n : ℕ) → length (without_separators (take i cs)) ≡ n → without_separators (take i cs) ≡ take n (without_separators cs)
kept_at cs i n is =
    sym (ap (λ m. take m (without_separators (take i cs) ++ without_separators (drop i cs))) (sym is) ∙ take_first (without_separators (take i cs)) (without_separators (drop i cs)))
    ∙ sym (ap (take n) (parts cs i))

pub cut_at : (cs : List ℕ) (i n : ℕ) → length (without_separators (take i cs)) ≡ n → without_separators (drop i cs) ≡ drop n (without_separators cs)
cut_at cs i n is =
    sym (ap (λ m. drop m (without_separators (take i cs) ++ without_separators (drop i cs))) (sym is) ∙ drop_first (without_separators (take i cs)) (without_separators (drop i cs)))
    ∙ sym (ap (drop n) (parts cs i))

-- where there are fewer digits than are asked for
pub kept_all : (cs : List ℕ) (i n : ℕ) → length cs ≤ i → length (without_separators cs) ≤ n → without_separators (take i cs) ≡ take n (without_separators cs)
kept_all cs i n at few = ap without_separators (take_all i cs at) ∙ sym (take_all n (without_separators cs) few)

pub cut_all : (cs : List ℕ) (i n : ℕ) → length cs ≤ i → length (without_separators cs) ≤ n → without_separators (drop i cs) ≡ drop n (without_separators cs)
cut_all cs i n at few = ap without_separators (drop_all i cs at) ∙ sym (drop_all n (without_separators cs) few)
