-- The first punctuator of the table that characters begin with is the longest.
use Rattle.std.proofs.Common.{◌≡◌, ℕ, zero, suc, ◌≤◌, nat_le, ◌&&◌, Bool, true, false, cond, List, [], ◌∷◌, length, slice_get, Some, refl, sym, ap, ◌∙◌, subst, arith}
use Rattle.std.specs.List.{list_all}
use Rattle.std.proofs.lemmas.Bool.{and_parts, leb-true}
use Rattle.js_text.specs.declared.punctuator.Punctuator.TheVariants as P
use Rattle.js_text.specs.declared.punctuator.Punctuator.{Punctuator}
use Rattle.js_text.specs.Punctuator.{spelling_of, punctuators, begins_with_punctuator, first_punctuator, longest_punctuator}

-- the place of each in the table
abbrev place_of : Punctuator → ℕ
place_of P.UnsignedShiftRightAssign = 0
place_of P.Ellipsis = 1
place_of P.StrictEqual = 2
place_of P.StrictNotEqual = 3
place_of P.ExponentAssign = 4
place_of P.ShiftLeftAssign = 5
place_of P.ShiftRightAssign = 6
place_of P.UnsignedShiftRight = 7
place_of P.LogicalAndAssign = 8
place_of P.LogicalOrAssign = 9
place_of P.CoalesceAssign = 10
place_of P.Arrow = 11
place_of P.Equal = 12
place_of P.NotEqual = 13
place_of P.LessOrEqual = 14
place_of P.GreaterOrEqual = 15
place_of P.Increment = 16
place_of P.Decrement = 17
place_of P.Exponent = 18
place_of P.ShiftLeft = 19
place_of P.ShiftRight = 20
place_of P.LogicalAnd = 21
place_of P.LogicalOr = 22
place_of P.Coalesce = 23
place_of P.OptionalChain = 24
place_of P.AddAssign = 25
place_of P.SubtractAssign = 26
place_of P.MultiplyAssign = 27
place_of P.DivideAssign = 28
place_of P.RemainderAssign = 29
place_of P.AndAssign = 30
place_of P.OrAssign = 31
place_of P.XorAssign = 32
place_of P.OpenBrace = 33
place_of P.CloseBrace = 34
place_of P.OpenParenthesis = 35
place_of P.CloseParenthesis = 36
place_of P.OpenBracket = 37
place_of P.CloseBracket = 38
place_of P.Dot = 39
place_of P.Semicolon = 40
place_of P.Comma = 41
place_of P.LessThan = 42
place_of P.GreaterThan = 43
place_of P.Plus = 44
place_of P.Minus = 45
place_of P.Star = 46
place_of P.Slash = 47
place_of P.Percent = 48
place_of P.Ampersand = 49
place_of P.Bar = 50
place_of P.Caret = 51
place_of P.Exclamation = 52
place_of P.Tilde = 53
place_of P.Question = 54
place_of P.Colon = 55
place_of P.Assign = 56

-- none is missing there
listed : (p : Punctuator) → slice_get punctuators (place_of p) ≡ Some p
listed P.UnsignedShiftRightAssign = refl
listed _ = refl

-- none after it is longer
abbrev no_longer : Punctuator → List Punctuator → Bool
no_longer p ps = list_all (λ q. nat_le (length (spelling_of q)) (length (spelling_of p))) ps

abbrev falls : List Punctuator → Bool
falls [] = true
falls (p ∷ ps) = no_longer p ps && falls ps

punctuators-falls : falls punctuators ≡ true
punctuators-falls = refl

no_longer-at : (p q : Punctuator) (ps : List Punctuator) (n : ℕ) → no_longer p ps ≡ true → slice_get ps n ≡ Some q → length (spelling_of q) ≤ length (spelling_of p)
no_longer-at p q [] n h e = absurd cc
no_longer-at p q (r ∷ ps) zero h e = let same : r ≡ q = cc in subst (λ x. length (spelling_of x) ≤ length (spelling_of p)) same (leb-true _ _ (and_parts _ _ h).0)
no_longer-at p q (r ∷ ps) (suc n) h e = no_longer-at p q ps n (and_parts _ _ h).1 e

first_punctuator-longest : (ps : List Punctuator) (n : ℕ) (p q : Punctuator) (cs : List ℕ) → falls ps ≡ true → slice_get ps n ≡ Some q → begins_with_punctuator q cs ≡ true →
    first_punctuator ps cs ≡ Some p → length (spelling_of q) ≤ length (spelling_of p)
first_punctuator-longest [] n p q cs f e b h = absurd cc
first_punctuator-longest (r ∷ ps) n p q cs f e b h = by_test (begins_with_punctuator r cs) refl n e h (λ k. first_punctuator-longest ps k p q cs (and_parts _ _ f).1)
  where
    by_test : (t : Bool) → begins_with_punctuator r cs ≡ t → (n : ℕ) → slice_get (r ∷ ps) n ≡ Some q → cond t (Some r) (first_punctuator ps cs) ≡ Some p →
        ((k : ℕ) → slice_get ps k ≡ Some q → begins_with_punctuator q cs ≡ true → first_punctuator ps cs ≡ Some p → length (spelling_of q) ≤ length (spelling_of p)) →
        length (spelling_of q) ≤ length (spelling_of p)
    by_test true t zero e h rest =
        let is_q : r ≡ q = cc in
        let is_p : r ≡ p = cc in
        let same : length (spelling_of q) ≡ length (spelling_of p) = ap (λ x. length (spelling_of x)) (sym is_q ∙ is_p) in
        omega arith
    by_test true t (suc n) e h rest =
        let is_p : r ≡ p = cc in
        subst (λ x. length (spelling_of q) ≤ length (spelling_of x)) is_p (no_longer-at r q ps n (and_parts _ _ f).0 e)
    by_test false t zero e h rest =
        let is_q : r ≡ q = cc in
        let begins : begins_with_punctuator r cs ≡ true = ap (λ x. begins_with_punctuator x cs) is_q ∙ b in
        absurd cc
    by_test false t (suc n) e h rest = rest n e b h

-- no punctuator that the characters begin with is longer than the one found
pub longest_punctuator-longest : (p q : Punctuator) (cs : List ℕ) → longest_punctuator cs ≡ Some p → begins_with_punctuator q cs ≡ true → length (spelling_of q) ≤ length (spelling_of p)
unfolding longest_punctuator
longest_punctuator-longest p q cs h b = first_punctuator-longest punctuators (place_of q) p q cs punctuators-falls (listed q) b h
