-- The shortest range that holds a unit.
use Rattle.std.proofs.Common.{◌≡◌, ℕ, ◌<◌, ◌≤◌, nat_lt, Bool, true, false, cond, List, [], ◌∷◌, ◌++◌, Option, Some, None, IfSome, refl, ap, ◌∙◌}
use Rattle.std.specs.List.{All}
use Rattle.std.proofs.lemmas.Bool.{lt-ltb, le-ltb}
use Rattle.std.proofs.lemmas.List.Elements.{All-head, All-tail}
use Rattle.cov_v8.specs.declared.v8.V8Range.{V8Range}
use Rattle.cov_v8.specs.Coverage.{size, holds, if_holds, shorter, shortest, count_or_none}
use Rattle.cov_v8.specs.Laws.{IsZeroOutside, IsShortest}

none-holds : (at : ℕ) (ranges : List V8Range) → All (λ range. holds at range ≡ false) ranges → shortest at ranges ≡ None
none-holds at [] all = refl
none-holds at (range ∷ ranges) all =
    ap (λ b. shorter (cond b (Some range) None) (shortest at ranges)) (All-head (λ range. holds at range ≡ false) range ranges all)
    ∙ none-holds at ranges (All-tail (λ range. holds at range ≡ false) range ranges all)

pub zero-outside : IsZeroOutside
zero-outside at ranges all = ap count_or_none (none-holds at ranges all)

-- a range that isn't shorter than another one after it, and one that is shorter
over : (range other : V8Range) (b : Bool) → b ≡ nat_lt (size range) (size other) → size other ≤ size range → cond b (Some range) (Some other) ≡ Some other
over range other b is less = ap (λ t. cond t (Some range) (Some other)) (is ∙ le-ltb (size range) (size other) less)

under : (range other : V8Range) (b : Bool) → b ≡ nat_lt (size range) (size other) → size range < size other → cond b (Some range) (Some other) ≡ Some range
under range other b is less = ap (λ t. cond t (Some range) (Some other)) (is ∙ lt-ltb (size range) (size other) less)

-- all that is found later is longer
longer-two : (range other found : V8Range) (b : Bool) → size range < size other → size range < size found → IfSome (cond b (Some other) (Some found)) (λ o. size range < size o)
longer-two range other found true x y = x
longer-two range other found false x y = y

longer-by : (range other : V8Range) (found : Option V8Range) (b : Bool) → (b ≡ true → size range < size other) → IfSome found (λ o. size range < size o)
    → IfSome (shorter (cond b (Some other) None) found) (λ o. size range < size o)
longer-by range other found false less is = is
longer-by range other None true less is = less refl
longer-by range other (Some found) true less is = longer-two range other found (nat_lt (size other) (size found)) (less refl) is

longer : (at : ℕ) (range : V8Range) (later : List V8Range) → All (λ other. holds at other ≡ true → size range < size other) later
    → IfSome (shortest at later) (λ o. size range < size o)
longer at range [] all = tt
longer at range (other ∷ later) all =
    longer-by range other (shortest at later) (holds at other) (All-head (λ other. holds at other ≡ true → size range < size other) other later all)
    (longer at range later (All-tail (λ other. holds at other ≡ true → size range < size other) other later all))

first-found : (range : V8Range) (found : Option V8Range) → IfSome found (λ o. size range < size o) → shorter (Some range) found ≡ Some range
first-found range None is = refl
first-found range (Some found) is = under range found (nat_lt (size range) (size found)) refl is

before-by : (range other : V8Range) (b : Bool) → (b ≡ true → size range ≤ size other) → shorter (cond b (Some other) None) (Some range) ≡ Some range
before-by range other false less = refl
before-by range other true less = over other range (nat_lt (size other) (size range)) refl (less refl)

found-there : (at : ℕ) (before : List V8Range) (range : V8Range) (later : List V8Range) → holds at range ≡ true
    → All (λ other. holds at other ≡ true → size range ≤ size other) before
    → All (λ other. holds at other ≡ true → size range < size other) later
    → shortest at (before ++ range ∷ later) ≡ Some range
found-there at [] range later is first last =
    ap (λ b. shorter (cond b (Some range) None) (shortest at later)) is ∙ first-found range (shortest at later) (longer at range later last)
found-there at (other ∷ before) range later is first last =
    ap (shorter (if_holds at other)) (found-there at before range later is (All-tail (λ other. holds at other ≡ true → size range ≤ size other) other before first) last)
    ∙ before-by range other (holds at other) (All-head (λ other. holds at other ≡ true → size range ≤ size other) other before first)

pub is-shortest : IsShortest
is-shortest at before range later is first last = ap count_or_none (found-there at before range later is first last)
