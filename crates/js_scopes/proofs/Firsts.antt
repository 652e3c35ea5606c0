-- The first of faults is one of them, and none is before it.
use Rattle.std.proofs.Common.{◌≡◌, ℕ, ◌<◌, ◌≤◌, Bool, true, false, ◌||◌, ◌&&◌, List, [], ◌∷◌, Option, Some, None, refl, sym, subst, if◌then◌else◌, nat_lt, ◌==◌, arith}
use Rattle.js_scopes.specs.Order.{rank, before, earliest, first, IsIn, here, later, IsFirst}
use Rattle.js_scopes.specs.declared.fault.ScopeFault.{ScopeFault}

-- ---- places and ranks, as numbers

-- the first number is below, or they are equal and the rest is
abbrev under : ℕ → ℕ → Bool → Bool
under a d rest = nat_lt a d || (a == d && rest)

abbrev lower : (a b c d e f : ℕ) → Bool
lower a b c d e f = under a d (under b e (nat_lt c f))

itself : (a b c : ℕ) → lower a b c a b c ≡ false
itself a b c = grind (arith)

turned : (a b c d e f : ℕ) → lower a b c d e f ≡ true → lower d e f a b c ≡ false
turned a b c d e f is = grind (arith)

not_below : (a d : ℕ) (rest : Bool) → under a d rest ≡ false → d ≤ a
not_below a d true e = grind (arith)
not_below a d false e = grind (arith)

above : (a d : ℕ) → under a d true ≡ false → d < a
above a d e = grind (arith)

-- what is not under what is not under a third is not under it
level : (a d g : ℕ) (one two three : Bool) → (one ≡ false → two ≡ false → three ≡ false) → under a d one ≡ false → under d g two ≡ false → under a g three ≡ false
level a d g one two false rest p q =
    let x : d ≤ a = not_below a d one p in
    let y : g ≤ d = not_below d g two q in grind (arith)
level a d g true two true rest p q =
    let x : d < a = above a d p in
    let y : g ≤ d = not_below d g two q in grind (arith)
level a d g false true true rest p q =
    let x : d ≤ a = not_below a d false p in
    let y : g < d = above d g q in grind (arith)
level a d g false false true rest p q = let wrong : true ≡ false = rest refl refl in absurd cc

ranks : (c f i : ℕ) → nat_lt c f ≡ false → nat_lt f i ≡ false → nat_lt c i ≡ false
ranks c f i p q = grind (arith)

between : (a b c d e f g h i : ℕ) → lower a b c d e f ≡ false → lower d e f g h i ≡ false → lower a b c g h i ≡ false
between a b c d e f g h i p q =
    level a d g (under b e (nat_lt c f)) (under e h (nat_lt f i)) (under b h (nat_lt c i))
    (level b e h (nat_lt c f) (nat_lt f i) (nat_lt c i) (ranks c f i)) p q

-- ---- the first

none_some : {G : Type 0} (f : ScopeFault) → Some f ≡ None → G
none_some f e = cc

same : (f g : ScopeFault) → Some f ≡ Some g → f ≡ g
same f g e = cc

head_same : (f g : ScopeFault) (fs gs : List ScopeFault) → f ∷ fs ≡ g ∷ gs → f ≡ g
head_same f g fs gs e = cc

tail_same : (f g : ScopeFault) (fs gs : List ScopeFault) → f ∷ fs ≡ g ∷ gs → fs ≡ gs
tail_same f g fs gs e = cc

pub none_first : (faults : List ScopeFault) → first faults ≡ None → faults ≡ []
none_first [] e = refl
none_first (f ∷ fs) e = none_some _ e

-- none of a list is before f, if its head is not and none of the rest
least_more : {g : ScopeFault} {gs : List ScopeFault} (f x : ScopeFault) (xs : List ScopeFault) → before x f ≡ false
    → ((h : ScopeFault) → IsIn h xs → before h f ≡ false) → IsIn g gs → gs ≡ x ∷ xs → before g f ≡ false
least_more {g = g} f x xs own rest (here {fs = fs}) e = subst (λ y. before y f ≡ false) (sym (head_same g x fs xs e)) own
least_more {g = g} f x xs own rest (later {g = y} {fs = ys} is) e = rest g (subst (λ zs. IsIn g zs) (tail_same y x ys xs e) is)

-- there is none in the empty list
none_in : {G : Type 0} {g : ScopeFault} {gs : List ScopeFault} → IsIn g gs → gs ≡ [] → G
none_in here e = absurd cc
none_in (later is) e = absurd cc

first_of : (x : ScopeFault) (xs : List ScopeFault) (found : Option ScopeFault) → first xs ≡ found
    → ((m : ScopeFault) → first xs ≡ Some m → IsFirst m xs) → IsFirst (earliest x found) (x ∷ xs)
first_of x xs None none below = record {
  among = here;
  least = λ g is. least_more x x xs (itself x.at.line x.at.column (rank x.kind)) (λ h in_rest. none_in in_rest (none_first xs none)) is refl;
}
first_of x xs (Some m) some below = by (before m x) refl
  where
    by : (b : Bool) → before m x ≡ b → IsFirst (if b then m else x) (x ∷ xs)
    by true is = record {
      among = later (below m some).among;
      least = λ g is_in. least_more m x xs (turned m.at.line m.at.column (rank m.kind) x.at.line x.at.column (rank x.kind) is) (below m some).least is_in refl;
    }
    by false is = record {
      among = here;
      least = λ g is_in. least_more x x xs (itself x.at.line x.at.column (rank x.kind)) (λ h in_rest. between h.at.line h.at.column (rank h.kind) m.at.line m.at.column (rank m.kind) x.at.line x.at.column (rank x.kind) ((below m some).least h in_rest) is) is_in refl;
    }

pub first_is : (faults : List ScopeFault) (fault : ScopeFault) → first faults ≡ Some fault → IsFirst fault faults
first_is [] fault e = none_some fault (sym e)
first_is (x ∷ xs) fault e = subst (λ f. IsFirst f (x ∷ xs)) (same _ fault e) (first_of x xs (first xs) refl (λ m some. first_is xs m some))
