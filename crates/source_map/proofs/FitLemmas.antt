-- What is read fits: numbers are in range, and segments stand in order.
use Rattle.std.proofs.Common.{◌≡◌, ℕ, ◌+◌, ◌-◌, ◌^◌, ◌<◌, ◌≤◌, ◌==◌, ◌/◌, ◌%◌, min, nat_lt, nat_le, Bool, true, false, cond, List, [], ◌∷◌, ◌++◌, length, fold, Option, Some, None, Result, Ok, Err, refl, sym, ap, ◌∙◌, subst, arith}
use Rattle.std.specs.Option.{option_map, option_and_then}
use Rattle.std.specs.Prelude.{IfSome}
use Rattle.std.specs.List.{AllByRecursion, slice_split}
use Rattle.std.proofs.lemmas.Bool.{ltb-true}
use Rattle.source_map.specs.declared.place.Segment.{Segment}
use Rattle.source_map.specs.declared.state.State.{State}
use Rattle.source_map.specs.Vlq.{below, moved, read_numbers}
use Rattle.source_map.specs.Map.{is_before}
use Rattle.source_map.specs.Mappings.{start, to_column, to_line, to_source_column, to_name, to_place, after_numbers, place_of, segment_of, with_numbers, Found, with_more, next, or_at, read_segment, read_line, read_lines, placed, in_order, sorted, segments_of}
use Rattle.source_map.specs.Laws.{FitsOrigin, FitsSegment, AreAfter, AreSegments}
use Rattle.source_map.specs.private.Order.{AreInOrder as Up}
use Rattle.source_map.proofs.SortLemmas.{NotBefore, in_order_up}

nothing : {A G : Type 0} (x : A) → None ≡ Some x → G
nothing x e = cc

below-by : (b : Bool) (bound value v : ℕ) → nat_lt value bound ≡ b → cond b (Some value) None ≡ Some v → v < bound
below-by true bound value v e h = subst (λ n. n < bound) (same value v h) (ltb-true value bound e)
  where
    same : (a b : ℕ) → Some a ≡ Some b → a ≡ b
    same a b e = cc
below-by false bound value v e h = nothing v h

below-fits : (bound value v : ℕ) → below bound value ≡ Some v → v < bound
below-fits bound value v h = below-by (nat_lt value bound) bound value v refl h

moved-by : (even down : Bool) (bound last number v : ℕ) → cond even (below bound (last + number / 2)) (cond down (below bound (last - number / 2)) None) ≡ Some v → v < bound
moved-by true down bound last number v h = below-fits bound (last + number / 2) v h
moved-by false true bound last number v h = below-fits bound (last - number / 2) v h
moved-by false false bound last number v h = nothing v h

moved-fits : (bound last number v : ℕ) → moved bound last number ≡ Some v → v < bound
moved-fits bound last number v h = moved-by (number % 2 == 0) (nat_le (number / 2) last) bound last number v h

abbrev Pair : Type 0
Pair = State × Segment

module _ (sources names : ℕ) where
  -- what a segment of some numbers has, where each number moved to a value
  abbrev with_place : State → ℕ → ℕ → ℕ → State
  with_place from s l k = record from { source = s; source_line = l; source_column = k }

  abbrev place3 : State → Option ℕ → Option ℕ → Option ℕ → Option State
  place3 from o p q = option_and_then (λ s. option_and_then (λ l. option_map (λ k. with_place from s l k) q) p) o

  place-is : (from : State) (s l k : ℕ) (o p : Option ℕ) → moved (min sources (2 ^ 32)) from.source s ≡ o → moved (2 ^ 32 - 1) from.source_line l ≡ p →
      to_place sources names s l k from ≡ place3 from o p (moved (2 ^ 32) from.source_column k)
  place-is from s l k None p e h = ap (λ o. option_and_then (to_source_column sources names k) (option_and_then (to_line sources names l) (option_map (λ n. record from { source = n }) o))) e
  place-is from s l k (Some a) None e h =
      ap (λ o. option_and_then (to_source_column sources names k) (option_and_then (to_line sources names l) (option_map (λ n. record from { source = n }) o))) e
      ∙ ap (λ o. option_and_then (to_source_column sources names k) (option_map (λ n. record from { source = a; source_line = n }) o)) h
  place-is from s l k (Some a) (Some b) e h =
      ap (λ o. option_and_then (to_source_column sources names k) (option_and_then (to_line sources names l) (option_map (λ n. record from { source = n }) o))) e
      ∙ ap (λ o. option_and_then (to_source_column sources names k) (option_map (λ n. record from { source = a; source_line = n }) o)) h

  -- the place of a state fits
  record FitsPlace (state : State) : Type 0 where
    source : state.source < min sources (2 ^ 32)
    line : state.source_line < 2 ^ 32 - 1
    column : state.source_column < 2 ^ 32

  same-state : (a b : State) → Some a ≡ Some b → a ≡ b
  same-state a b e = cc

  place-fits-by : (from after : State) (s l k : ℕ) (o p q : Option ℕ) → moved (min sources (2 ^ 32)) from.source s ≡ o → moved (2 ^ 32 - 1) from.source_line l ≡ p → moved (2 ^ 32) from.source_column k ≡ q →
      place3 from o p q ≡ Some after → FitsPlace after × (after.line ≡ from.line) × (after.column ≡ from.column)
  place-fits-by from after s l k None p q e h g is = nothing after is
  place-fits-by from after s l k (Some a) None q e h g is = nothing after is
  place-fits-by from after s l k (Some a) (Some b) None e h g is = nothing after is
  place-fits-by from after s l k (Some a) (Some b) (Some d) e h g is =
      let same = same-state (with_place from a b d) after is in
      subst (λ (x : State). FitsPlace x × (x.line ≡ from.line) × (x.column ≡ from.column)) same
      (record { source = moved-fits _ from.source s a e; line = moved-fits _ from.source_line l b h; column = moved-fits _ from.source_column k d g }, refl, refl)

  place-fits : (from after : State) (s l k : ℕ) → to_place sources names s l k from ≡ Some after → FitsPlace after × (after.line ≡ from.line) × (after.column ≡ from.column)
  place-fits from after s l k is =
      place-fits-by from after s l k (moved (min sources (2 ^ 32)) from.source s) (moved (2 ^ 32 - 1) from.source_line l) (moved (2 ^ 32) from.source_column k) refl refl refl
      (sym (place-is from s l k _ _ refl refl) ∙ is)

  column-fits-by : (from after : State) (n : ℕ) (o : Option ℕ) → moved (2 ^ 32) from.column n ≡ o → option_map (λ m. record from { column = m }) o ≡ Some after → (after.column < 2 ^ 32) × (after.line ≡ from.line)
  column-fits-by from after n None e is = nothing after is
  column-fits-by from after n (Some m) e is = subst (λ (x : State). (x.column < 2 ^ 32) × (x.line ≡ from.line)) (same-state (record from { column = m }) after is) (moved-fits _ from.column n m e, refl)

  column-fits : (from after : State) (n : ℕ) → to_column sources names n from ≡ Some after → (after.column < 2 ^ 32) × (after.line ≡ from.line)
  column-fits from after n is = column-fits-by from after n (moved (2 ^ 32) from.column n) refl is

  name-fits-by : (from after : State) (n : ℕ) (o : Option ℕ) → moved (min names (2 ^ 32)) from.name n ≡ o → option_map (λ m. record from { name = m }) o ≡ Some after → FitsPlace from →
      FitsPlace after × (after.name < min names (2 ^ 32)) × (after.line ≡ from.line) × (after.column ≡ from.column)
  name-fits-by from after n None e is f = nothing after is
  name-fits-by from after n (Some m) e is f =
      subst (λ (x : State). FitsPlace x × (x.name < min names (2 ^ 32)) × (x.line ≡ from.line) × (x.column ≡ from.column)) (same-state (record from { name = m }) after is)
      (record { source = f.source; line = f.line; column = f.column }, moved-fits _ from.name n m e, refl, refl)

  name-fits : (from after : State) (n : ℕ) → to_name sources names n from ≡ Some after → FitsPlace from →
      FitsPlace after × (after.name < min names (2 ^ 32)) × (after.line ≡ from.line) × (after.column ≡ from.column)
  name-fits from after n is f = name-fits-by from after n (moved (min names (2 ^ 32)) from.name n) refl is f

  origin-fits : (state : State) (name : Option ℕ) → FitsPlace state → IfSome name (λ n. n < min names (2 ^ 32)) → FitsOrigin sources names (place_of state name)
  origin-fits state name f h =
      let line = f.line in
      record { source = f.source; from_one = omega arith; line = omega (arith, line); column = f.column; name = h }

  record Step (first : Option State) (next : State → Option State) (after : State) : Type 0 where
    middle : State
    begins : first ≡ Some middle
    goes : next middle ≡ Some after

  step : (first : Option State) (next : State → Option State) (after : State) → option_and_then next first ≡ Some after → Step first next after
  step None next after is = nothing after is
  step (Some middle) next after is = record { middle = middle; begins = refl; goes = is }

  -- the segment of some numbers fits, and stands on the line of the state before
  numbers-fit : (from after : State) (numbers : List ℕ) → 1 ≤ from.line → after_numbers sources names from numbers ≡ Some after → FitsSegment sources names (segment_of after numbers) × (after.line ≡ from.line)
  numbers-fit from after [] low is = nothing after is
  numbers-fit from after (c ∷ []) low is =
      let a = column-fits from after c is in
      (record { from_one = subst (λ n. 1 ≤ n) (sym a.1) low; column = a.0; origin = tt }, a.1)
  numbers-fit from after (c ∷ s ∷ []) low is = nothing after is
  numbers-fit from after (c ∷ s ∷ l ∷ []) low is = nothing after is
  numbers-fit from after (c ∷ s ∷ l ∷ k ∷ []) low is =
      let one = step (to_column sources names c from) (to_place sources names s l k) after is in
      let a = column-fits from one.middle c one.begins in
      let p = place-fits one.middle after s l k one.goes in
      (record { from_one = subst (λ n. 1 ≤ n) (sym (p.1 ∙ a.1)) low; column = subst (λ n. n < 2 ^ 32) (sym p.2) a.0; origin = origin-fits after None p.0 tt }, p.1 ∙ a.1)
  numbers-fit from after (c ∷ s ∷ l ∷ k ∷ m ∷ []) low is =
      let two = step (option_and_then (to_place sources names s l k) (to_column sources names c from)) (to_name sources names m) after is in
      let one = step (to_column sources names c from) (to_place sources names s l k) two.middle two.begins in
      let a = column-fits from one.middle c one.begins in
      let p = place-fits one.middle two.middle s l k one.goes in
      let n = name-fits two.middle after m two.goes p.0 in
      (record { from_one = subst (λ n. 1 ≤ n) (sym (n.2 ∙ p.1 ∙ a.1)) low; column = subst (λ n. n < 2 ^ 32) (sym (n.3 ∙ p.2)) a.0; origin = origin-fits after (Some after.name) n.0 n.1 }, n.2 ∙ p.1 ∙ a.1)
  numbers-fit from after (c ∷ s ∷ l ∷ k ∷ m ∷ more ∷ ns) low is = nothing after is

  -- ---- segments, one after another

  abbrev AllFit : List Segment → Type 0
  AllFit segments = AllByRecursion (FitsSegment sources names) segments

  fit-more : (xs ys : List Segment) → AllFit xs → AllFit ys → AllFit (xs ++ ys)
  fit-more [] ys a b = b
  fit-more (x ∷ xs) ys a b = (a.0, fit-more xs ys a.1 b)

  abbrev good : State × List Segment → Found
  good found = Ok found

  bad : {G : Type 0} (at : ℕ) (found : State × List Segment) → Err at ≡ good found → G
  bad at found e = cc

  same-good : (a b : State × List Segment) → good a ≡ good b → a ≡ b
  same-good a b e = cc

  -- what is found fits, on the same line
  abbrev Fine : State → State × List Segment → Type 0
  Fine from found = AllFit found.1 × (found.0.line ≡ from.line)

  segment-by : (from : State) (at : ℕ) (ns : List ℕ) (o : Option State) (found : State × List Segment) → 1 ≤ from.line → after_numbers sources names from ns ≡ o →
      or_at at (option_map (λ after. (after, segment_of after ns)) o) ≡ good found → Fine from found
  segment-by from at ns None found low e is = bad at found is
  segment-by from at ns (Some after) found low e is =
      let fits = numbers-fit from after ns low e in
      subst (Fine from) (same-good (after, segment_of after ns ∷ []) found is) ((fits.0, tt), fits.1)

  read-by : (from : State) (at : ℕ) (r : Option (List ℕ)) (found : State × List Segment) → 1 ≤ from.line → or_at at (option_and_then (with_numbers sources names from) r) ≡ good found → Fine from found
  read-by from at None found low is = bad at found is
  read-by from at (Some ns) found low is = segment-by from at ns (after_numbers sources names from ns) found low refl is

  piece-fits : (from : State) (at : ℕ) (piece : List ℕ) (found : State × List Segment) → 1 ≤ from.line → read_segment sources names from at piece ≡ good found → Fine from found
  piece-fits from at [] found low is = subst (Fine from) (same-good (from, []) found is) (tt, refl)
  piece-fits from at (byte ∷ bytes) found low is = read-by from at (read_numbers (byte ∷ bytes)) found low is

  record Both (r : Found) (later : State → Found) (found : State × List Segment) : Type 0 where
    own : State × List Segment
    rest : State × List Segment
    first : r ≡ good own
    second : later own.0 ≡ good rest
    all : (rest.0, own.1 ++ rest.1) ≡ found

  both-by : (own : State × List Segment) (later : State → Found) (q : Found) (found : State × List Segment) → later own.0 ≡ q → with_more own q ≡ good found → Both (Ok own) later found
  both-by own later (Err at) found e is = bad at found is
  both-by own later (Ok rest) found e is = record { own = own; rest = rest; first = refl; second = e; all = same-good (rest.0, own.1 ++ rest.1) found is }

  both : (r : Found) (later : State → Found) (found : State × List Segment) → next r later ≡ good found → Both r later found
  both (Err at) later found is = bad at found is
  both (Ok own) later found is = both-by own later (later own.0) found refl is

  line-fits : (pieces : List (List ℕ)) (from : State) (at : ℕ) (found : State × List Segment) → 1 ≤ from.line → read_line sources names from at pieces ≡ good found → Fine from found
  line-fits [] from at found low is = subst (Fine from) (same-good (from, []) found is) (tt, refl)
  line-fits (piece ∷ pieces) from at found low is =
      let two = both (read_segment sources names from at piece) (λ after. read_line sources names after (at + (length piece + 1)) pieces) found is in
      let a = piece-fits from at piece two.own low two.first in
      let b = line-fits pieces two.own.0 (at + (length piece + 1)) two.rest (subst (λ n. 1 ≤ n) (sym a.1) low) two.second in
      subst (Fine from) two.all (fit-more two.own.1 two.rest.1 a.0 b.0, b.1 ∙ a.1)

  lines-fit : (lines : List (List ℕ)) (from : State) (at : ℕ) (found : State × List Segment) → 1 ≤ from.line → read_lines sources names from at lines ≡ good found → AllFit found.1
  lines-fit [] from at found low is = subst (λ (x : State × List Segment). AllFit x.1) (same-good (from, []) found is) tt
  lines-fit (line ∷ lines) from at found low is =
      let two = both (read_line sources names from at (slice_split (λ byte. byte == 44) line)) (λ after. read_lines sources names (record after { line = after.line + 1; column = 0 }) (at + (length line + 1)) lines) found is in
      let a = line-fits (slice_split (λ byte. byte == 44) line) from at two.own low two.first in
      let b = lines-fit lines (record two.own.0 { line = two.own.0.line + 1; column = 0 }) (at + (length line + 1)) two.rest (omega arith) two.second in
      subst (λ (x : State × List Segment). AllFit x.1) two.all (fit-more two.own.1 two.rest.1 a.0 b)

  -- ---- in order

  fit-placed-by : (b : Bool) (s x : Segment) (xs : List Segment) → FitsSegment sources names s → AllFit (x ∷ xs) → AllFit (placed s xs) → AllFit (cond b (s ∷ x ∷ xs) (x ∷ placed s xs))
  fit-placed-by true s x xs h all rest = (h, all)
  fit-placed-by false s x xs h all rest = (all.0, rest)

  fit-placed : (s : Segment) (xs : List Segment) → FitsSegment sources names s → AllFit xs → AllFit (placed s xs)
  fit-placed s [] h all = (h, tt)
  fit-placed s (x ∷ xs) h all = fit-placed-by (is_before s x) s x xs h all (fit-placed s xs h all.1)

  fit-order : (xs done : List Segment) → AllFit xs → AllFit done → AllFit (fold (λ sorted segment. placed segment sorted) done xs)
  fit-order [] done all h = h
  fit-order (x ∷ xs) done all h = fit-order xs (placed x done) all.1 (fit-placed x done all.0 h)

  after-of : (last : Segment) (xs : List Segment) → AllByRecursion (λ y. NotBefore y last) xs → Up xs → AllFit xs → AreAfter sources names last xs
  after-of last [] above up all = tt
  after-of last (x ∷ xs) above up all = (above.0, all.0, after-of x xs up.0 up.1 all.1)

  segments-of : (xs : List Segment) → Up xs → AllFit xs → AreSegments sources names xs
  segments-of [] up all = tt
  segments-of (x ∷ xs) up all = (all.0, after-of x xs up.0 up.1 all.1)

  abbrev sure : List Segment → Result (List Segment) ℕ
  sure xs = Ok xs

  sorted-by : (r : Found) (segments : List Segment) → ((found : State × List Segment) → r ≡ good found → AllFit found.1) → sorted r ≡ Ok segments → AreSegments sources names segments
  sorted-by (Err at) segments each is = never at segments is
    where
      never : {G : Type 0} (at : ℕ) (segments : List Segment) → Err at ≡ sure segments → G
      never at segments is = cc
  sorted-by (Ok found) segments each is =
      subst (AreSegments sources names) (same (in_order found.1) segments is) (segments-of (in_order found.1) (in_order_up found.1) (fit-order found.1 [] (each found refl) tt))
    where
      same : (a b : List Segment) → sure a ≡ sure b → a ≡ b
      same a b e = cc

  pub segments_fit : (mappings : List ℕ) (segments : List Segment) → segments_of sources names mappings ≡ Ok segments → AreSegments sources names segments
  segments_fit mappings segments is =
      sorted-by (read_lines sources names start 0 (slice_split (λ byte. byte == 59) mappings)) segments
      (λ found e. lines-fit (slice_split (λ byte. byte == 59) mappings) start 0 found (omega arith) e) is
