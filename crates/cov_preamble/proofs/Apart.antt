-- A name with one `_` more, and when none is put any more.
use Rattle.std.proofs.Common.{◌≡◌, ℕ, zero, suc, ◌+◌, ◌-◌, ◌<◌, ◌≤◌, true, false, List, [], ◌∷◌, ◌++◌, refl, sym, ap, ◌∙◌, arith}
use Rattle.std.specs.Prelude.{if◌then◌else◌}
use Rattle.cov_preamble.specs.Name.{is_among, apart}

pub apart_more : (n i : ℕ) (name : List ℕ) (names : List (List ℕ)) → i < n → is_among name names ≡ true → apart (n - (i + 1)) (name ++ 0x5F ∷ []) names ≡ apart (n - i) name names
apart_more n i name names less there =
    let one : suc (n - (i + 1)) ≡ n - i = omega (arith, less) in
    sym (ap (λ m. apart m name names) (sym one) ∙ ap (λ b. if b then apart (n - (i + 1)) (name ++ 0x5F ∷ []) names else name) there)

pub apart_stop : (n : ℕ) (name : List ℕ) (names : List (List ℕ)) → is_among name names ≡ false → apart n name names ≡ name
apart_stop zero name names none = refl
apart_stop (suc n) name names none = ap (λ b. if b then apart n (name ++ 0x5F ∷ []) names else name) none

pub apart_out : (n i : ℕ) (name : List ℕ) (names : List (List ℕ)) → n ≤ i → apart (n - i) name names ≡ name
apart_out n i name names out = let none : n - i ≡ 0 = omega (arith, out) in ap (λ m. apart m name names) none
