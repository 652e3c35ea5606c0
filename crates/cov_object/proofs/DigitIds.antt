-- An id's numeral is read as the id.
use Rattle.std.proofs.Common.{◌≡◌, ℕ, zero, suc, ◌+◌, ◌-◌, ◌*◌, ◌/◌, ◌%◌, ◌^◌, ◌<◌, ◌≤◌, ◌&&◌, nat_lt, List, [], ◌∷◌, ◌++◌, length, Bool, true, false, cond, Option, Some, None, option_and_then, decimal, refl, sym, ap, ◌∙◌, arith, length-append}
use Rattle.std.specs.Char.{is_ascii_digit}
use Rattle.std.proofs.lemmas.Bool.{ne_eqb}
use Rattle.std.proofs.lemmas.Fmt.{decimal_by_steps, decimal_digit}
use Rattle.cov_object.specs.Read.{id_after, id_of}

through : (b : Bool) (r : Option ℕ) (f : ℕ → Option ℕ) → cond b (option_and_then f r) None ≡ option_and_then f (cond b r None)
through true r f = refl
through false r f = refl

-- digits and one more
id_after-more : (n : ℕ) (xs : List ℕ) (c : ℕ) → id_after n (xs ++ c ∷ []) ≡ option_and_then (λ v. id_after v (c ∷ [])) (id_after n xs)
id_after-more n [] c = refl
id_after-more n (x ∷ xs) c =
    let b = is_ascii_digit x && nat_lt (n * 10 + (x - 48)) (2 ^ 32) in
    ap (λ r. cond b r None) (id_after-more (n * 10 + (x - 48)) xs c) ∙ through b (id_after (n * 10 + (x - 48)) xs) (λ v. id_after v (c ∷ []))

abbrev head : List ℕ → ℕ
head [] = 48
head (c ∷ cs) = c

one_digit : (n d m : ℕ) → d < 10 → n * 10 + d ≡ m → m < 2 ^ 32 → id_after n ((48 + d) ∷ []) ≡ Some m
one_digit n d m small is fits = grind arith

-- what the digits of an id are: they are read as it, and begin with 0 for 0 alone
record Reads (n : ℕ) (ds : List ℕ) : Type 0 where
  value : n < 2 ^ 32 → id_after 0 ds ≡ Some n
  some : 0 < length ds
  first : 0 < n → head ds ≡ 48 → ⊥

Reads-one : (n : ℕ) → n < 10 → Reads n ((48 + n) ∷ [])
Reads-one n small = record { value = λ fits. one_digit 0 n n small (omega arith) fits; some = omega arith; first = λ some is. omega arith }

head-more : (ds : List ℕ) (c : ℕ) → 0 < length ds → head (ds ++ c ∷ []) ≡ head ds
head-more [] c some = absurd (omega arith)
head-more (d ∷ ds) c some = refl

Reads-more : (n : ℕ) (ds : List ℕ) → 10 ≤ n → Reads (n / 10) ds → Reads n (ds ++ ((48 + n % 10) ∷ []))
Reads-more n ds large before = record {
  value = λ fits. id_after-more 0 ds (48 + n % 10)
      ∙ ap (λ r. option_and_then (λ v. id_after v ((48 + n % 10) ∷ [])) r) (before.value (omega arith))
      ∙ one_digit (n / 10) (n % 10) n (omega arith) (omega arith) fits;
  some = omega (arith, length-append ds ((48 + n % 10) ∷ []));
  first = λ some is. before.first (omega arith) (sym (head-more ds (48 + n % 10) before.some) ∙ is);
}

Reads-decimal : (n : ℕ) → n < 2 ^ 64 → Reads n (decimal n)
Reads-decimal n fits = decimal_by_steps Reads Reads-one Reads-more n fits

no_zero : (ds : List ℕ) → 0 < length ds → (head ds ≡ 48 → ⊥) → id_of ds ≡ id_after 0 ds
no_zero [] some first = absurd (omega arith)
no_zero (c ∷ []) some first = refl
no_zero (c ∷ d ∷ rest) some first = rw (ne_eqb c 48 first) refl

-- the numeral of an id
pub id_of-decimal : (n : ℕ) → n < 2 ^ 32 → id_of (decimal n) ≡ Some n
id_of-decimal zero fits = ap id_of (decimal_digit 0 (omega arith))
id_of-decimal (suc n) fits =
    let reads = Reads-decimal (suc n) (omega arith) in
    no_zero (decimal (suc n)) reads.some (reads.first (omega arith)) ∙ reads.value fits
