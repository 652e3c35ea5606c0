-- Steps of loops over lists and texts.
use Rattle.std.proofs.Common.{◌≡◌, ◌≢◌, ℕ, zero, suc, ◌<◌, ◌≤◌, ◌+◌, ◌-◌, ◌/◌, ◌%◌, true, false, if◌then◌else◌, List, [], ◌∷◌, ◌++◌, length, take, drop, get_or, pos, negsuc, nat_lt, append_assoc, refl, sym, ap, ap₂, ◌∙◌, arith}
use Rattle.std.proofs.Math.Seq.{take-length}
use Rattle.std.proofs.lemmas.List.{length-drop}
use Rattle.std.proofs.lemmas.Bool.Decides.{nat_tests}
use Rattle.js_value.specs.OnData.{begins, place_in, parts_after, digits_before, digit_unit}

-- a list that isn't empty is its first element and the rest
pub uncons : {A : Type 0} (xs : List A) (x : A) → 0 < length xs → x ≡ get_or xs 0 x → xs ≡ x ∷ take (length xs - 1) (drop 1 xs)
uncons [] x lt is = absurd (omega arith)
uncons (y ∷ ys) x lt is =
    let n : suc (length ys) - 1 ≡ length ys = omega arith in
    ap₂ (λ z zs. z ∷ zs) (sym is) (sym (ap (λ m. take m ys) n ∙ take-length ys))

pub tail-is : {A : Type 0} (y : A) (ys : List A) → take (length (y ∷ ys) - 1) (drop 1 (y ∷ ys)) ≡ ys
tail-is y ys =
    let n : suc (length ys) - 1 ≡ length ys = omega arith in
    ap (λ m. take m ys) n ∙ take-length ys

pub place_here : (n : ℕ) (search us : List ℕ) → begins us search ≡ true → place_in n search us ≡ pos n
place_here n search [] e = ap (λ b. if b then pos n else negsuc 0) e
place_here n search (u ∷ us) e = ap (λ b. if b then pos n else place_in (n + 1) search us) e

pub place_on : (n : ℕ) (search us : List ℕ) → 0 < length us → begins us search ≡ false → place_in n search us ≡ place_in (n + 1) search (take (length us - 1) (drop 1 us))
place_on n search [] lt e = absurd (omega arith)
place_on n search (u ∷ us) lt e = ap (λ b. if b then pos n else place_in (n + 1) search us) e ∙ ap (place_in (n + 1) search) (sym (tail-is u us))

-- units that are passed over
pub skipped : (k : ℕ) (before separator us : List ℕ) → k ≤ length us → parts_after k before separator us ≡ parts_after 0 before separator (drop k us)
skipped zero before separator us le = refl
skipped (suc k) before separator [] le = absurd (omega arith)
skipped (suc k) before separator (u ∷ us) le = skipped k before separator us (omega arith)

-- where a separator stands first, a part ends
pub part_ends : (before separator us : List ℕ) → 0 < length separator → length separator ≤ length us → begins us separator ≡ true →
    parts_after 0 before separator us ≡ before ∷ parts_after 0 [] separator (drop (length separator) us)
part_ends before separator [] some le e = absurd (omega arith)
part_ends before separator (u ∷ us) some le e =
    ap (λ b. if b then before ∷ parts_after (length separator - 1) [] separator us else parts_after 0 (before ++ u ∷ []) separator us) e
    ∙ ap (λ ps. before ∷ ps) (skipped (length separator - 1) [] separator us (omega arith) ∙ ap (parts_after 0 [] separator) (further (length separator) some))
  where
    further : (n : ℕ) → 0 < n → drop (n - 1) us ≡ drop n (u ∷ us)
    further zero h = absurd (omega arith)
    further (suc n) h = let e : suc n - 1 ≡ n = omega arith in ap (λ m. drop m us) e

pub less : (m n : ℕ) → m < n → nat_lt m n ≡ true
less m n h = grind (arith, nat_tests)

pub not_less : (m n : ℕ) → n ≤ m → nat_lt m n ≡ false
not_less m n h = grind (arith, nat_tests)

-- one digit more
pub digit_more : (k radix n : ℕ) (after : List ℕ) → nat_lt n radix ≡ false → digits_before (suc k) radix n after ≡ digits_before k radix (n / radix) (digit_unit (n % radix) ∷ after)
digit_more k radix n after e = ap (λ b. if b then digit_unit (n % radix) ∷ after else digits_before k radix (n / radix) (digit_unit (n % radix) ∷ after)) e

-- the last digit
pub digit_last : (k radix n : ℕ) (after : List ℕ) → nat_lt n radix ≡ true → digits_before k radix n after ≡ digit_unit (n % radix) ∷ after
digit_last zero radix n after e = refl
digit_last (suc k) radix n after e = ap (λ b. if b then digit_unit (n % radix) ∷ after else digits_before k radix (n / radix) (digit_unit (n % radix) ∷ after)) e

pub rest-of : {A : Type 0} (k : ℕ) (xs : List A) → take (length xs - k) (drop k xs) ≡ drop k xs
rest-of k xs = ap (λ n. take n (drop k xs)) (sym (length-drop k xs)) ∙ take-length (drop k xs)

pub digits_step : (n i radix left : ℕ) (after after' t : List ℕ) → i < n → nat_lt left radix ≡ false → after' ≡ digit_unit (left % radix) ∷ after →
    digits_before (n - i) radix left after ≡ t → digits_before (n - (i + 1)) radix (left / radix) after' ≡ t
digits_step n i radix left after after' t lt more made so_far =
    let e : suc (n - (i + 1)) ≡ n - i = omega arith in
    ap (digits_before (n - (i + 1)) radix (left / radix)) made ∙ sym (digit_more (n - (i + 1)) radix left after more)
    ∙ ap (λ k. digits_before k radix left after) e ∙ so_far

pub digits_none : (n i radix left : ℕ) (after : List ℕ) → n ≤ i → digits_before (n - i) radix left after ≡ digit_unit (left % radix) ∷ after
digits_none n i radix left after le =
    let e : n - i ≡ 0 = omega arith in
    ap (λ k. digits_before k radix left after) e

-- a part is put after the others
pub parts_ends : (parts parts' : List (List ℕ)) (part before before' separator us left : List ℕ) (t : List (List ℕ)) → separator ≢ [] → 1 ≤ length us → length separator ≤ length us → begins us separator ≡ true →
    parts' ≡ parts ++ part ∷ [] → part ≡ before → before' ≡ [] → left ≡ drop (length separator) us →
    parts ++ parts_after 0 before separator us ≡ t → parts' ++ parts_after 0 before' separator left ≡ t
parts_ends parts parts' part before before' separator us left t some one le e made is fresh rest so_far =
    ap (λ ps. ps ++ parts_after 0 before' separator left) (made ∙ ap (λ x. parts ++ x ∷ []) is)
    ∙ append_assoc parts (before ∷ []) (parts_after 0 before' separator left)
    ∙ ap (λ ps. parts ++ before ∷ ps) (ap₂ (λ b l. parts_after 0 b separator l) fresh rest)
    ∙ ap (λ ps. parts ++ ps) (sym (part_ends before separator us (longer separator some) le e)) ∙ so_far
  where
    longer : (xs : List ℕ) → xs ≢ [] → 0 < length xs
    longer [] h = absurd (h refl)
    longer (x ∷ xs) h = omega arith
