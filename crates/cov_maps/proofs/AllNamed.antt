-- One construct more gets its name after those before it.
use Rattle.std.proofs.Common.{◌≡◌, ℕ, List, [], ◌∷◌, ◌++◌, refl, ap}
use Rattle.js_terms.specs.declared.construct.Construct.{Construct}
use Rattle.js_walk.specs.Constructs.{named, number_after, all_named}

-- how many functions come before what follows these, where so many come before them
abbrev pub numbered : ℕ → List Construct → ℕ
numbered number [] = number
numbered number (x ∷ xs) = numbered (number_after number x) xs

pub numbered_push : (number : ℕ) (xs : List Construct) (x : Construct) → numbered number (xs ++ x ∷ []) ≡ number_after (numbered number xs) x
numbered_push number [] x = refl
numbered_push number (y ∷ ys) x = numbered_push (number_after number y) ys x

pub all_named_push : (number : ℕ) (xs : List Construct) (x : Construct) → all_named number (xs ++ x ∷ []) ≡ all_named number xs ++ named (numbered number xs) x ∷ []
all_named_push number [] x = refl
all_named_push number (y ∷ ys) x = ap (λ rest. named number y ∷ rest) (all_named_push (number_after number y) ys x)
