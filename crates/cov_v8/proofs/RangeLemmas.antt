-- The shorter of two ranges.
use Rattle.std.proofs.Common.{◌≡◌, ℕ, nat_lt, Bool, true, false, cond, List, [], ◌∷◌, ◌++◌, take, drop, Option, Some, None, ap₂, refl, sym, ap, ◌∙◌, arith}
use Rattle.cov_v8.specs.declared.v8.V8Range.{V8Range}
use Rattle.std.proofs.Math.ListN.{take-append-drop}
use Rattle.cov_v8.specs.declared.steps.Step.{Step}
use Rattle.cov_v8.specs.private.Steps.{Tells, AreSteps}
use Rattle.cov_v8.specs.Coverage.{size, shorter, if_holds, shortest}

pub shorter-none : (a : Option V8Range) → shorter a None ≡ a
shorter-none None = refl
shorter-none (Some a) = refl

by-sizes : (a b c : V8Range) (m n k : ℕ) → m ≡ size a → n ≡ size b → k ≡ size c → (ab bc ac : Bool) → ab ≡ nat_lt m n → bc ≡ nat_lt n k → ac ≡ nat_lt m k
    → shorter (cond ab (Some a) (Some b)) (Some c) ≡ shorter (Some a) (cond bc (Some b) (Some c))
by-sizes a b c m n k e f g true true ac h i j = grind arith
by-sizes a b c m n k e f g true false ac h i j = refl
by-sizes a b c m n k e f g false true ac h i j = grind arith
by-sizes a b c m n k e f g false false ac h i j = grind arith

pub shorter-assoc : (a b c : Option V8Range) → shorter (shorter a b) c ≡ shorter a (shorter b c)
shorter-assoc None b c = refl
shorter-assoc (Some a) None c = refl
shorter-assoc (Some a) (Some b) None = shorter-none (cond (nat_lt (size a) (size b)) (Some a) (Some b))
shorter-assoc (Some a) (Some b) (Some c) =
    by-sizes a b c (size a) (size b) (size c) refl refl refl (nat_lt (size a) (size b)) (nat_lt (size b) (size c)) (nat_lt (size a) (size c)) refl refl refl

shortest-append : (at : ℕ) (xs ys : List V8Range) → shortest at (xs ++ ys) ≡ shorter (shortest at xs) (shortest at ys)
shortest-append at [] ys = refl
shortest-append at (x ∷ xs) ys =
    ap (shorter (if_holds at x)) (shortest-append at xs ys) ∙ sym (shorter-assoc (if_holds at x) (shortest at xs) (shortest at ys))

-- the steps of two halves together are those of the whole
pub steps-whole : (ranges : List V8Range) (half : ℕ) (all first later : List Step) → Tells all first later
    → AreSteps (take half ranges) first → AreSteps (drop half ranges) later → AreSteps ranges all
steps-whole ranges half all first later tells a b = λ at.
    tells at ∙ ap₂ shorter (a at) (b at) ∙ sym (shortest-append at (take half ranges) (drop half ranges))
    ∙ ap (shortest at) (take-append-drop half ranges)
