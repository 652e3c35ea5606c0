-- Offsets that are no further than a text's end.
use Rattle.std.proofs.Common.{◌≡◌, ℕ, ◌+◌, ◌<◌, ◌≤◌, ◌^◌, ◌&&◌, nat_lt, not, Bool, true, false, cond, List, [], ◌∷◌, ◌++◌, length, Option, Some, None, IfSome, refl, sym, ap, ◌∙◌, subst, arith}
use Rattle.std.specs.List.{All}
use Rattle.std.proofs.lemmas.List.Elements.{All-nil, All-cons, All-head, All-tail, All-same}
use Rattle.js_terms.specs.declared.place.Pos.{Pos}
use Rattle.js_text.specs.Position.{is_line_terminator, utf16_units}
use Rattle.js_text.specs.Character.{is_white_space}
use Rattle.cov_v8.specs.declared.v8.V8Range.{V8Range}
use Rattle.cov_v8.specs.declared.v8.V8Function.{V8Function}
use Rattle.cov_v8.specs.Form.{IsRange}
use Rattle.cov_v8.specs.Coverage.{units, line_left, lines_from, lines, all_ranges, size, holds, if_holds, shorter, shortest, count_or_none, count_at}
use Rattle.cov_v8.specs.private.Table.{table}
use Rattle.cov_v8.specs.private.Steps.{Ascend}
use Rattle.cov_v8.specs.private.Inside.{IsLine, IsInside, AreInside}
use Rattle.cov_v8.proofs.PlaceLemmas.{table-length}

-- ---- lines

left-by : (b : Bool) (u m n : ℕ) (cs : List ℕ) (c : ℕ) → u ≡ utf16_units c → units cs ≡ m → m ≤ n → units (cond b [] (c ∷ cs)) ≤ u + n
left-by true u m n cs c e f less = omega arith
left-by false u m n cs c e f less = omega (arith, e, f, less)

line_left-shorter : (cs : List ℕ) → units (line_left cs) ≤ units cs
line_left-shorter [] = omega arith
line_left-shorter (c ∷ cs) = left-by (is_line_terminator c) (utf16_units c) (units (line_left cs)) (units cs) (line_left cs) c refl refl (line_left-shorter cs)

lines-by : (ends starts : Bool) (n : ℕ) (line : ℕ × ℕ) (a b c : List (ℕ × ℕ)) → IsLine n line → All (IsLine n) a → All (IsLine n) b → All (IsLine n) c
    → All (IsLine n) (cond ends a (cond starts (line ∷ b) c))
lines-by true starts n line a b c first x y z = x
lines-by false true n line a b c first x y z = All-cons (IsLine n) line b first y
lines-by false false n line a b c first x y z = z

lines-inside : (n at : ℕ) (blank : Bool) (cs : List ℕ) → at + units cs < n → All (IsLine n) (lines_from at blank cs)
lines-inside n at blank [] fits = All-nil (IsLine n)
lines-inside n at blank (c ∷ cs) fits =
    let next : (at + utf16_units c) + units cs < n = omega (arith, fits) in
    let left = line_left-shorter (c ∷ cs) in
    lines-by (is_line_terminator c) (blank && not (is_white_space c)) n (at, at + units (line_left (c ∷ cs)))
    (lines_from (at + utf16_units c) true cs) (lines_from (at + utf16_units c) false cs) (lines_from (at + utf16_units c) blank cs)
    (omega (arith, fits), omega (arith, fits, left))
    (lines-inside n (at + utf16_units c) true cs next) (lines-inside n (at + utf16_units c) false cs next) (lines-inside n (at + utf16_units c) blank cs next)

pub lines-fit : (cs : List ℕ) (positions : List Pos) (all : List (ℕ × ℕ)) → positions ≡ table cs → all ≡ lines cs → All (IsLine (length positions)) all
lines-fit cs positions all is same =
    let long = ap length is ∙ table-length [] cs in
    All-same (IsLine (length positions)) all (lines cs) same (lines-inside (length positions) 0 true cs (omega (arith, long)))

ascend-weaker : (low more : ℕ) (all : List (ℕ × ℕ)) → low ≤ more → Ascend more all → Ascend low all
ascend-weaker low more [] less order = tt
ascend-weaker low more (line ∷ rest) less order = (omega (arith, less, order.0), order.1)

lines-ordered-by : (ends starts : Bool) (at next end : ℕ) (a b c : List (ℕ × ℕ)) → at ≤ next → Ascend next a → Ascend next b → Ascend next c
    → Ascend at (cond ends a (cond starts ((at, end) ∷ b) c))
lines-ordered-by true starts at next end a b c less x y z = ascend-weaker at next a less x
lines-ordered-by false true at next end a b c less x y z = (omega arith, ascend-weaker at next b less y)
lines-ordered-by false false at next end a b c less x y z = ascend-weaker at next c less z

lines-ordered : (at : ℕ) (blank : Bool) (cs : List ℕ) → Ascend at (lines_from at blank cs)
lines-ordered at blank [] = tt
lines-ordered at blank (c ∷ cs) =
    lines-ordered-by (is_line_terminator c) (blank && not (is_white_space c)) at (at + utf16_units c) (at + units (line_left (c ∷ cs)))
    (lines_from (at + utf16_units c) true cs) (lines_from (at + utf16_units c) false cs) (lines_from (at + utf16_units c) blank cs)
    (omega arith) (lines-ordered (at + utf16_units c) true cs) (lines-ordered (at + utf16_units c) false cs) (lines-ordered (at + utf16_units c) blank cs)

pub lines-ascend : (cs : List ℕ) (all : List (ℕ × ℕ)) → all ≡ lines cs → Ascend 0 all
lines-ascend cs all same = subst (Ascend 0) (sym same) (lines-ordered 0 true cs)

-- ---- ranges

All-first : {X : Type 0} (P : X → Type 0) (xs ys : List X) → All P (xs ++ ys) → All P xs
All-first P [] ys all = All-nil P
All-first P (x ∷ xs) ys all = All-cons P x xs (All-head P x (xs ++ ys) all) (All-first P xs ys (All-tail P x (xs ++ ys) all))

All-later : {X : Type 0} (P : X → Type 0) (xs ys : List X) → All P (xs ++ ys) → All P ys
All-later P [] ys all = all
All-later P (x ∷ xs) ys all = All-later P xs ys (All-tail P x (xs ++ ys) all)

each-inside : (n : ℕ) (functions : List V8Function) → All (IsInside n) (all_ranges functions) → AreInside n functions
each-inside n [] all = All-nil (λ function. All (IsInside n) function.ranges)
each-inside n (function ∷ rest) all =
    All-cons (λ f. All (IsInside n) f.ranges) function rest
    (All-first (IsInside n) function.ranges (all_ranges rest) all) (each-inside n rest (All-later (IsInside n) function.ranges (all_ranges rest) all))

pub functions-inside : (n : ℕ) (ranges : List V8Range) (functions : List V8Function) → ranges ≡ all_ranges functions → All (IsInside n) ranges → AreInside n functions
functions-inside n ranges functions same all = each-inside n functions (subst (All (IsInside n)) same all)

-- ---- counts

shorter-by : (less : Bool) (a b : V8Range) → IsRange a → IsRange b → IfSome (cond less (Some a) (Some b)) IsRange
shorter-by true a b x y = x
shorter-by false a b x y = y

shorter-is : (a b : Option V8Range) → IfSome a IsRange → IfSome b IsRange → IfSome (shorter a b) IsRange
shorter-is None b x y = y
shorter-is (Some a) None x y = x
shorter-is (Some a) (Some b) x y = shorter-by (nat_lt (size a) (size b)) a b x y

if_holds-by : (b : Bool) (range : V8Range) → IsRange range → IfSome (cond b (Some range) None) IsRange
if_holds-by true range is = is
if_holds-by false range is = tt

shortest-is : (at : ℕ) (ranges : List V8Range) → All IsRange ranges → IfSome (shortest at ranges) IsRange
shortest-is at [] all = tt
shortest-is at (range ∷ ranges) all =
    shorter-is (if_holds at range) (shortest at ranges) (if_holds-by (holds at range) range (All-head IsRange range ranges all))
    (shortest-is at ranges (All-tail IsRange range ranges all))

count-below : (o : Option V8Range) → IfSome o IsRange → count_or_none o < 2 ^ 53
count-below None is = omega arith
count-below (Some range) is = is.1

pub count_at-below : (ranges : List V8Range) (at : ℕ) → All IsRange ranges → count_at ranges at < 2 ^ 53
count_at-below ranges at all = count-below (shortest at ranges) (shortest-is at ranges all)
