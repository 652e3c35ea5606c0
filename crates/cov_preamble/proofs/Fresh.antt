-- A name with `_` at its end while it is one of the names is none of them in the end: each time fewer of these are as long as it is.
use Rattle.std.proofs.Common.{◌≡◌, ℕ, zero, suc, ◌+◌, ◌<◌, ◌≤◌, Bool, true, false, List, [], ◌∷◌, ◌++◌, length, refl, sym, ap, subst, ◌∙◌, arith}
use Rattle.std.specs.Prelude.{◌||◌, nat_le, if◌then◌else◌}
use Rattle.std.specs.Str.{bytes_eq}
use Rattle.std.proofs.lemmas.Bool.{true≢false, le-leb, lt-leb, leb-true}
use Rattle.std.proofs.lemmas.List.{length-append}
use Rattle.std.proofs.lemmas.Slice.Eq.{bytes_eq-Decides}
use Rattle.cov_preamble.specs.Name.{is_among, apart, apart_from}

-- how many names are at least so long
abbrev one_if : Bool → ℕ
one_if true = 1
one_if false = 0

abbrev long : ℕ → List (List ℕ) → ℕ
long n [] = 0
long n (name ∷ names) = one_if (nat_le n (length name)) + long n names

-- of one name
fewer : (n m : ℕ) → one_if (nat_le (suc n) m) ≤ one_if (nat_le n m)
fewer n m = by (nat_le (suc n) m) refl
  where
    by : (b : Bool) → nat_le (suc n) m ≡ b → one_if (nat_le (suc n) m) ≤ one_if (nat_le n m)
    by false e = rw e (omega arith)
    by true e = let h = leb-true (suc n) m e in rw (e, le-leb n m (omega (arith, h))) (omega arith)

no_more : (n : ℕ) (names : List (List ℕ)) → long (suc n) names ≤ long n names
no_more n [] = omega arith
no_more n (name ∷ names) = omega (arith, fewer n (length name), no_more n names)

-- one that is there is no longer than itself
there_fewer : (name : List ℕ) (names : List (List ℕ)) → is_among name names ≡ true → long (suc (length name)) names < long (length name) names
there_fewer name [] h = absurd (true≢false (sym h))
there_fewer name (other ∷ names) h = by (bytes_eq other name) refl h (λ there. there_fewer name names there)
  where
    by : (b : Bool) → bytes_eq other name ≡ b → (b || is_among name names) ≡ true → (is_among name names ≡ true → long (suc (length name)) names < long (length name) names) →
        long (suc (length name)) (other ∷ names) < long (length name) (other ∷ names)
    by false e g rest = let later = rest g in omega (arith, fewer (length name) (length other), later)
    by true e g rest =
        let same : length other ≡ length name = ap length ((bytes_eq-Decides other name).0 e) in
        rw same (rw (lt-leb (suc (length name)) (length name) (omega arith), le-leb (length name) (length name) (omega arith)) (omega (arith, no_more (length name) names)))

none_there : (name : List ℕ) (names : List (List ℕ)) → long (length name) names ≤ 0 → is_among name names ≡ false
none_there name names h = by (is_among name names) refl
  where
    by : (b : Bool) → is_among name names ≡ b → is_among name names ≡ false
    by false e = e
    by true e = let fewer = there_fewer name names e in absurd (omega (arith, h, fewer))

apart_none : (more : ℕ) (name : List ℕ) (names : List (List ℕ)) → long (length name) names ≤ more → is_among (apart more name names) names ≡ false
apart_none zero name names h = none_there name names h
apart_none (suc more) name names h = by (is_among name names) refl (λ few. apart_none more (name ++ 0x5F ∷ []) names few)
  where
    by : (b : Bool) → is_among name names ≡ b → (long (length (name ++ 0x5F ∷ [])) names ≤ more → is_among (apart more (name ++ 0x5F ∷ []) names) names ≡ false) →
        is_among (if b then apart more (name ++ 0x5F ∷ []) names else name) names ≡ false
    by false e rest = e
    by true e rest =
        let fewer = there_fewer name names e in
        let longer : length (name ++ 0x5F ∷ []) ≡ suc (length name) = length-append name (0x5F ∷ []) ∙ (let one : length name + 1 ≡ suc (length name) = omega arith in one) in
        rest (subst (λ n. long n names ≤ more) (sym longer) (omega (arith, h, fewer)))

long_most : (n : ℕ) (names : List (List ℕ)) → long n names ≤ length names
long_most n [] = omega arith
long_most n (name ∷ names) = omega (arith, at_most (nat_le n (length name)), long_most n names)
  where
    at_most : (b : Bool) → one_if b ≤ 1
    at_most true = omega arith
    at_most false = omega arith

pub apart_is : (name : List ℕ) (names : List (List ℕ)) → is_among (apart_from name names) names ≡ false
apart_is name names = apart_none (length names) name names (long_most (length name) names)
