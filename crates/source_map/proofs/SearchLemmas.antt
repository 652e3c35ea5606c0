-- The segments on a line, and a search by halves among them.
use Rattle.std.proofs.Common.{◌≡◌, ℕ, zero, suc, ◌+◌, ◌-◌, ◌*◌, ◌^◌, ◌<◌, ◌≤◌, ◌==◌, nat_lt, ◌&&◌, Bool, true, false, cond, List, [], ◌∷◌, ◌++◌, length, get_or, take, drop, Option, Some, None, refl, sym, ap, ◌∙◌, append-nil, subst, arith, take_all, length-drop, length-append}
use Rattle.std.specs.Prelude.{nat_le, slice_get}
use Rattle.std.specs.List.{filter, last_or, AllByRecursion, AllWithin}
use Rattle.std.specs.List.Sorted.{IsNonDecreasingBy, IsPartitionPoint}
use Rattle.std.proofs.lemmas.Bool.Decides.{nat_tests}
use Rattle.std.proofs.lemmas.List.Elements.{filter-append}
use Rattle.std.proofs.lemmas.Nat.{mul-le}
use Rattle.std.proofs.Math.Nat.{pow-succ'}
use Rattle.source_map.specs.declared.place.Segment.{Segment}
use Rattle.source_map.specs.declared.place.Parts.{Parts}
use Rattle.source_map.specs.Map.{is_before}
use Rattle.source_map.specs.Trace.{on_line, is_by, segment_by}
use Rattle.source_map.specs.Laws.{AreAfter, AreSegments, IsMap}
use Rattle.source_map.specs.private.Order.{AreInOrder, AreByColumn, AreHalves}
use Rattle.source_map.proofs.SortLemmas.{chain}

-- ---- segments of a map stand in order

later : (sources names : ℕ) (first last : Segment) (segments : List Segment) → is_before last first ≡ false → AreAfter sources names last segments → AllByRecursion (λ other. is_before other first ≡ false) segments
later sources names first last [] own after = tt
later sources names first last (segment ∷ segments) own after =
    let next = chain segment last first after.0 own in
    (next, later sources names first segment segments next after.2)

after-order : (sources names : ℕ) (last : Segment) (segments : List Segment) → AreAfter sources names last segments → AreInOrder segments
after-order sources names last [] after = tt
after-order sources names last (segment ∷ segments) after = (later sources names segment segment segments itself after.2, after-order sources names segment segments after.2)
  where
    itself : is_before segment segment ≡ false
    itself = grind (arith, nat_tests)

are_in_order : (sources names : ℕ) (segments : List Segment) → AreSegments sources names segments → AreInOrder segments
are_in_order sources names [] are = tt
are_in_order sources names (segment ∷ segments) are = (later sources names segment segment segments itself are.1, after-order sources names segment segments are.1)
  where
    itself : is_before segment segment ≡ false
    itself = grind (arith, nat_tests)

pub map_order : (map : Parts) → IsMap map → AreInOrder map.segments
map_order map is = are_in_order (length map.sources) (length map.names) map.segments is

-- ---- lines

line-up : (a b : Segment) → is_before b a ≡ false → a.line ≤ b.line
line-up a b h = grind (arith, nat_tests)

all-at : (a : Segment) (xs : List Segment) (k : ℕ) (d : Segment) → AllByRecursion (λ b. is_before b a ≡ false) xs → k < length xs → a.line ≤ (get_or xs k d).line
all-at a [] k d all within = absurd (omega arith)
all-at a (x ∷ xs) zero d all within = line-up a x all.0
all-at a (x ∷ xs) (suc k) d all within = all-at a xs k d all.1 (omega arith)

pub lines_rise : (xs : List Segment) → AreInOrder xs → IsNonDecreasingBy (λ segment. segment.line) xs
lines_rise [] order i j d up within = absurd (omega arith)
lines_rise (x ∷ xs) order zero zero d up within = omega arith
lines_rise (x ∷ xs) order zero (suc j) d up within = all-at x xs j d order.0 (omega arith)
lines_rise (x ∷ xs) order (suc i) zero d up within = absurd (omega arith)
lines_rise (x ∷ xs) order (suc i) (suc j) d up within = lines_rise xs order.1 i j d (omega arith) (omega arith)

-- those before the first on a line aren't on it
past : (line : ℕ) (xs : List Segment) (i : ℕ) → AllWithin (λ segment. nat_lt segment.line line ≡ true) xs 0 i → on_line line xs ≡ on_line line (drop i xs)
past line xs zero before = refl
past line [] (suc i) before = refl
past line (x ∷ xs) (suc i) before =
    ap (λ b. cond b (x ∷ on_line line xs) (on_line line xs)) (other x line (before 0 x (omega arith) (omega arith)))
    ∙ past line xs i (λ k d low high. before (suc k) d (omega arith) (omega arith))
  where
    other : (x : Segment) (line : ℕ) → nat_lt x.line line ≡ true → (x.line == line) ≡ false
    other x line h = grind (arith, nat_tests)

-- and of those from there on the first ones are
abbrev From : ℕ → List Segment → Type 0
From line xs = AllWithin (λ segment. nat_lt segment.line line ≡ false) xs 0 (length xs)

upto : (line : ℕ) (xs : List Segment) (end : ℕ) → From line xs → AllWithin (λ segment. nat_le segment.line line ≡ true) xs 0 end → AllWithin (λ segment. nat_le segment.line line ≡ false) xs end (length xs) →
    on_line line xs ≡ take end xs
upto line [] zero from to past = refl
upto line [] (suc end) from to past = refl
upto line (x ∷ xs) zero from to past =
    ap (λ b. cond b (x ∷ on_line line xs) (on_line line xs)) (other x line (past 0 x (omega arith) (omega arith)))
    ∙ upto line xs zero (λ k d low high. from (suc k) d (omega arith) (omega arith)) (λ k d low high. absurd (omega arith)) (λ k d low high. past (suc k) d (omega arith) (omega arith))
  where
    other : (x : Segment) (line : ℕ) → nat_le x.line line ≡ false → (x.line == line) ≡ false
    other x line h = grind (arith, nat_tests)
upto line (x ∷ xs) (suc end) from to past =
    ap (λ b. cond b (x ∷ on_line line xs) (on_line line xs)) (same x line (from 0 x (omega arith) (omega arith)) (to 0 x (omega arith) (omega arith)))
    ∙ ap (λ ys. x ∷ ys) (upto line xs end (λ k d low high. from (suc k) d (omega arith) (omega arith)) (λ k d low high. to (suc k) d (omega arith) (omega arith)) (λ k d low high. past (suc k) d (omega arith) (omega arith)))
  where
    same : (x : Segment) (line : ℕ) → nat_lt x.line line ≡ false → nat_le x.line line ≡ true → (x.line == line) ≡ true
    same x line h k = grind (arith, nat_tests)

from-drop : (line : ℕ) (xs : List Segment) (i : ℕ) → AllWithin (λ segment. nat_lt segment.line line ≡ false) xs i (length xs) → From line (drop i xs)
from-drop line xs zero from = from
from-drop line [] (suc i) from = λ k d low high. absurd (omega arith)
from-drop line (x ∷ xs) (suc i) from = from-drop line xs i (λ k d low high. from (suc k) d (omega arith) (omega arith))

pub order_drop : (i : ℕ) (xs : List Segment) → AreInOrder xs → AreInOrder (drop i xs)
order_drop zero xs order = order
order_drop (suc i) [] order = tt
order_drop (suc i) (x ∷ xs) order = order_drop i xs order.1

pub rest_is : (i : ℕ) (xs : List Segment) → take (length xs - i) (drop i xs) ≡ drop i xs
rest_is i xs = take_all (length xs - i) (drop i xs) (omega (arith, length-drop i xs))

pub line_is : (line : ℕ) (xs : List Segment) (first end : ℕ) → IsPartitionPoint (λ segment. nat_lt segment.line line ≡ true) (λ segment. nat_lt segment.line line ≡ false) xs first →
    IsPartitionPoint (λ segment. nat_le segment.line line ≡ true) (λ segment. nat_le segment.line line ≡ false) (drop first xs) end → take end (drop first xs) ≡ on_line line xs
line_is line xs first end start stop = sym (past line xs first start.0 ∙ upto line (drop first xs) end (from-drop line xs first start.1) stop.0 stop.1)

-- ---- columns

column-up : (a b : Segment) (line : ℕ) → (a.line == line) ≡ true → (b.line == line) ≡ true → is_before b a ≡ false → a.column ≤ b.column
column-up a b line h k before = grind (arith, nat_tests)

columns-by : (b : Bool) (a x : Segment) (line : ℕ) (rest : List Segment) → (a.line == line) ≡ true → (x.line == line) ≡ b → is_before x a ≡ false → AllByRecursion (λ other. a.column ≤ other.column) rest →
    AllByRecursion (λ other. a.column ≤ other.column) (cond b (x ∷ rest) rest)
columns-by true a x line rest own is before all = (column-up a x line own is before, all)
columns-by false a x line rest own is before all = all

columns : (a : Segment) (line : ℕ) (xs : List Segment) → (a.line == line) ≡ true → AllByRecursion (λ other. is_before other a ≡ false) xs → AllByRecursion (λ other. a.column ≤ other.column) (on_line line xs)
columns a line [] own all = tt
columns a line (x ∷ xs) own all = columns-by (x.line == line) a x line (on_line line xs) own refl all.0 (columns a line xs own all.1)

by-column : (b : Bool) (line : ℕ) (x : Segment) (xs : List Segment) → (x.line == line) ≡ b → AllByRecursion (λ other. is_before other x ≡ false) xs → AreByColumn (on_line line xs) → AreByColumn (cond b (x ∷ on_line line xs) (on_line line xs))
by-column true line x xs is all rest = (columns x line xs is all, rest)
by-column false line x xs is all rest = rest

pub by_column : (line : ℕ) (xs : List Segment) → AreInOrder xs → AreByColumn (on_line line xs)
by_column line [] order = tt
by_column line (x ∷ xs) order = by-column (x.line == line) line x xs refl order.0 (by_column line xs order.1)

-- ---- a line's segments, and those of them up to a column

by-some : (b c : Bool) (x : Segment) (all rest : List Segment) (p : Segment → Bool) → p x ≡ c → all ≡ filter p rest → cond (b && c) (x ∷ all) all ≡ filter p (cond b (x ∷ rest) rest)
by-some true true x all rest p is e = ap (λ ys. x ∷ ys) e ∙ ap (λ t. cond t (x ∷ filter p rest) (filter p rest)) (sym is)
by-some true false x all rest p is e = e ∙ ap (λ t. cond t (x ∷ filter p rest) (filter p rest)) (sym is)
by-some false c x all rest p is e = e

some-is : (line column : ℕ) (xs : List Segment) → filter (is_by line (Some column)) xs ≡ filter (λ segment. nat_le segment.column column) (on_line line xs)
some-is line column [] = refl
some-is line column (x ∷ xs) = by-some (x.line == line) (nat_le x.column column) x (filter (is_by line (Some column)) xs) (on_line line xs) (λ segment. nat_le segment.column column) refl (some-is line column xs)

pub some_is : (line column : ℕ) (xs ys : List Segment) → ys ≡ on_line line xs → last_or None (filter (λ segment. nat_le segment.column column) ys) ≡ segment_by line (Some column) xs
some_is line column xs ys e = ap (λ zs. last_or None (filter (λ segment. nat_le segment.column column) zs)) e ∙ ap (last_or None) (sym (some-is line column xs))

-- the line's end is that of its last segment
last-is : (xs : List Segment) → slice_get xs (length xs - 1) ≡ last_or None xs
last-is [] = refl
last-is (x ∷ []) = refl
last-is (x ∷ y ∷ xs) = ap (slice_get (x ∷ y ∷ xs)) (one (length xs)) ∙ last-is (y ∷ xs)
  where
    one : (n : ℕ) → suc (suc n) - 1 ≡ suc (suc n - 1)
    one n = omega arith

pub all_is : (line : ℕ) (xs ys : List Segment) → ys ≡ on_line line xs → slice_get ys (length ys - 1) ≡ segment_by line None xs
all_is line xs ys e = last-is ys ∙ ap (last_or None) e

-- ---- halves

abbrev To : ℕ → List Segment → List Segment
To column segments = filter (λ segment. nat_le segment.column column) segments

last-after : (o : Option Segment) (front : List Segment) (middle : Segment) (after : List Segment) → last_or o (front ++ middle ∷ after) ≡ last_or (Some middle) after
last-after o [] middle after = refl
last-after o (x ∷ front) middle after = last-after (Some x) front middle after

pub taken : (column : ℕ) (o : Option Segment) (rest front : List Segment) (middle : Segment) (after : List Segment) → rest ≡ front ++ middle ∷ after → nat_le middle.column column ≡ true →
    last_or (Some middle) (To column after) ≡ last_or o (To column rest)
taken column o rest front middle after is before =
    sym (ap (λ xs. last_or o (To column xs)) is
    ∙ ap (last_or o) (filter-append (λ segment. nat_le segment.column column) front (middle ∷ after))
    ∙ ap (λ b. last_or o (To column front ++ cond b (middle ∷ To column after) (To column after))) before
    ∙ last-after o (To column front) middle (To column after))

none-to : (column : ℕ) (middle : Segment) (after : List Segment) → nat_le middle.column column ≡ false → AllByRecursion (λ other. middle.column ≤ other.column) after → To column after ≡ []
none-to column middle [] past all = refl
none-to column middle (x ∷ after) past all = ap (λ b. cond b (x ∷ To column after) (To column after)) (far middle x column past all.0) ∙ none-to column middle after past all.1
  where
    far : (middle x : Segment) (column : ℕ) → nat_le middle.column column ≡ false → middle.column ≤ x.column → nat_le x.column column ≡ false
    far middle x column past up = grind (arith, nat_tests)

pub columns_back : (front rest : List Segment) → AreByColumn (front ++ rest) → AreByColumn rest
columns_back [] rest are = are
columns_back (x ∷ front) rest are = columns_back front rest are.1

all-front : (P : Segment → Type 0) (front rest : List Segment) → AllByRecursion P (front ++ rest) → AllByRecursion P front
all-front P [] rest all = tt
all-front P (x ∷ front) rest all = (all.0, all-front P front rest all.1)

pub columns_front : (front rest : List Segment) → AreByColumn (front ++ rest) → AreByColumn front
columns_front [] rest are = tt
columns_front (x ∷ front) rest are = (all-front (λ other. x.column ≤ other.column) front rest are.0, columns_front front rest are.1)

pub left : (column : ℕ) (o : Option Segment) (rest front : List Segment) (middle : Segment) (after : List Segment) → rest ≡ front ++ middle ∷ after → AreByColumn rest → nat_le middle.column column ≡ false →
    last_or o (To column front) ≡ last_or o (To column rest)
left column o rest front middle after is are past =
    sym (ap (λ xs. last_or o (To column xs)) is
    ∙ ap (last_or o) (filter-append (λ segment. nat_le segment.column column) front (middle ∷ after))
    ∙ ap (λ b. last_or o (To column front ++ cond b (middle ∷ To column after) (To column after))) past
    ∙ ap (λ ys. last_or o (To column front ++ ys)) (none-to column middle after past (columns_back front (middle ∷ after) (subst AreByColumn is are)).0)
    ∙ ap (last_or o) (append-nil (To column front)))

-- ---- how many steps

pub one_more : (old now : ℕ) → old ≤ now → 2 ^ (now + 1 - old) ≡ 2 * 2 ^ (now - old)
one_more old now later = ap (λ k. 2 ^ k) (next old now later) ∙ pow-succ' 2 (now - old)
  where
    next : (old now : ℕ) → old ≤ now → now + 1 - old ≡ suc (now - old)
    next old now later = omega arith

-- n are left, and then half of them at most
pub half_left : (a n half most : ℕ) → a * n ≤ most → half + half ≤ n → (2 * a) * half ≤ most
half_left a n half most few small = omega (arith, mul-le a (half + half) a n (omega arith) small)

pub one_left : (a n most : ℕ) → a * n ≤ most → 0 < n → 2 * a ≤ 2 * most + 1
one_left a n most few some = omega (arith, mul-le a 1 a n (omega arith) some)

pub start_left : (old n : ℕ) → 2 ^ (old - old) * n ≤ n
start_left old n = subst (λ k. 2 ^ k * n ≤ n) (none old) (omega arith)
  where
    none : (old : ℕ) → 0 ≡ old - old
    none old = omega arith

pub start_few : (old n : ℕ) → 2 ^ (old - old) ≤ 2 * n + 1
start_few old n = subst (λ k. 2 ^ k ≤ 2 * n + 1) (none old) (omega arith)
  where
    none : (old : ℕ) → 0 ≡ old - old
    none old = omega arith

-- each half is less than all
lengths : (rest front : List Segment) (middle : Segment) (after : List Segment) → AreHalves rest front middle after → length rest ≡ length front + suc (length after)
lengths rest front middle after half = ap (λ xs. length xs) half.are ∙ length-append front (middle ∷ after)

pub less_after : (rest front : List Segment) (middle : Segment) (after : List Segment) → AreHalves rest front middle after → suc (length after) ≤ length rest
less_after rest front middle after half = omega (arith, lengths rest front middle after half)

pub less_front : (rest front : List Segment) (middle : Segment) (after : List Segment) → AreHalves rest front middle after → suc (length front) ≤ length rest
less_front rest front middle after half = omega (arith, lengths rest front middle after half)

-- what is left after a step
pub left_more : (old now next n half most : ℕ) → next ≡ now + 1 → old ≤ now → 2 ^ (now - old) * n ≤ most → half + half ≤ n → 2 ^ (next - old) * half ≤ most
left_more old now next n half most is later few small =
    subst (λ a. a * half ≤ most) (sym (ap (λ k. 2 ^ (k - old)) is ∙ one_more old now later)) (half_left (2 ^ (now - old)) n half most few small)

pub few_more : (old now next n less most : ℕ) → next ≡ now + 1 → old ≤ now → 2 ^ (now - old) * n ≤ most → suc less ≤ n → 2 ^ (next - old) ≤ 2 * most + 1
few_more old now next n less most is later few some =
    subst (λ a. a ≤ 2 * most + 1) (sym (ap (λ k. 2 ^ (k - old)) is ∙ one_more old now later)) (one_left (2 ^ (now - old)) n most few (omega (arith, some)))
