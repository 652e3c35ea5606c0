-- What is written of a map is read back to it.
use Rattle.std.proofs.Common.{◌≡◌, ℕ, zero, suc, ◌+◌, ◌-◌, ◌^◌, ◌<◌, ◌≤◌, ◌==◌, min, nat_lt, ◌||◌, ◌&&◌, Bool, true, false, cond, List, [], ◌∷◌, ◌++◌, length, map, fold, replicate, Option, Some, None, Result, Ok, Err, refl, sym, ap, ◌∙◌, append_assoc, append-nil, eqb-true, eq-eqb, arith}
use Rattle.std.specs.Option.{option_map, option_and_then}
use Rattle.std.specs.Prelude.{IfSome, codes}
use Rattle.std.specs.List.{AllByRecursion, slice_split, onto_first}
use Rattle.std.proofs.lemmas.Bool.{ltb-false}
use Rattle.source_map.specs.declared.place.Origin.{Origin}
use Rattle.source_map.specs.declared.place.Segment.{Segment}
use Rattle.source_map.specs.declared.state.State.{State}
use Rattle.source_map.specs.Vlq.{read_numbers}
use Rattle.source_map.specs.Map.{is_before}
use Rattle.source_map.specs.Mappings.{start, with_numbers, Found, with_more, next, or_at, read_segment, read_line, read_lines, placed, in_order, sorted, segments_of}
use Rattle.source_map.specs.Laws.{FitsOrigin, FitsSegment, AreAfter, AreSegments, IsReadBack}
use Rattle.source_map.specs.Read.{after, or_bad, each, text_or_null, names, under, with_segments}
use Rattle.source_map.specs.declared.place.Parts.{Parts}
use Rattle.source_map.specs.declared.fault.MapFault.{MapFault}
use Rattle.serde_json.specs.Data.{string}
use Rattle.serde_json.specs.Find.{as_str}
use Rattle.serde_json.specs.View.{items_of}
use Rattle.std.proofs.lemmas.Bool.Decides.{nat_tests}
use Rattle.source_map.specs.Write.{value_text, name_text, origin_text, segment_text, name_or, after_origin, mappings_from, mappings_text, source_data, map_data}
use Rattle.source_map.proofs.WriteLemmas.{IsPlain, FitsState, plain-segment, segment-read}

-- ---- texts that are split

onto-by : (b : Bool) (x : ℕ) (first : List ℕ) (others parts : List (List ℕ)) → b ≡ false → parts ≡ first ∷ others → cond b ([] ∷ parts) (onto_first x parts) ≡ (x ∷ first) ∷ others
onto-by true x first others parts e is = cc
onto-by false x first others parts e is = ap (onto_first x) is

split-plain : (p : ℕ → Bool) (xs text first : List ℕ) (others : List (List ℕ)) → AllByRecursion (λ x. p x ≡ false) xs → slice_split p text ≡ first ∷ others → slice_split p (xs ++ text) ≡ (xs ++ first) ∷ others
split-plain p [] text first others plain is = is
split-plain p (x ∷ xs) text first others plain is = onto-by (p x) x (xs ++ first) others (slice_split p (xs ++ text)) plain.0 (split-plain p xs text first others plain.1 is)

abbrev is_comma : ℕ → Bool
is_comma byte = byte == 44

abbrev is_end : ℕ → Bool
is_end byte = byte == 59

no-comma : (xs : List ℕ) → AllByRecursion IsPlain xs → AllByRecursion (λ x. is_comma x ≡ false) xs
no-comma [] plain = tt
no-comma (x ∷ xs) plain = (plain.0.0, no-comma xs plain.1)

pub no-end : (xs : List ℕ) → AllByRecursion IsPlain xs → AllByRecursion (λ x. is_end x ≡ false) xs
no-end [] plain = tt
no-end (x ∷ xs) plain = (plain.0.1, no-end xs plain.1)

-- so many empty lines
abbrev empties : ℕ → List (List ℕ) → List (List ℕ)
empties zero parts = parts
empties (suc n) parts = [] ∷ empties n parts

split-empties : (n : ℕ) (text : List ℕ) → slice_split is_end (replicate n 59 ++ text) ≡ empties n (slice_split is_end text)
split-empties zero text = refl
split-empties (suc n) text = ap (λ parts. [] ∷ parts) (split-empties n text)

-- ---- what is found, one after another

abbrev good : State × List Segment → Found
good found = Ok found

next-more : (found : State × List Segment) (r : Found) (later : State → Found) → next (with_more found r) later ≡ with_more found (next r later)
next-more found (Err at) later = refl
next-more found (Ok more) later = by_later (later more.0)
  where
    by_later : (q : Found) → with_more (more.0, found.1 ++ more.1) q ≡ with_more found (with_more more q)
    by_later (Err at) = refl
    by_later (Ok last) = ap (λ xs. good (last.0, xs)) (append_assoc found.1 more.1 last.1)

abbrev next_line : State → State
next_line after = record after { line = after.line + 1; column = 0 }

abbrev lines_on : ℕ → State → State
lines_on zero state = state
lines_on (suc n) state = lines_on n (next_line state)

lines-on : (n : ℕ) (state : State) → lines_on (suc n) state ≡ record state { line = state.line + suc n; column = 0 }
lines-on zero state = ap (λ l. record state { line = l; column = 0 }) (omega arith)
lines-on (suc n) state = lines-on n (next_line state) ∙ ap (λ l. record state { line = l; column = 0 }) (omega arith)

-- ---- a state doesn't depend on the line before

name-line : (state : State) (line : ℕ) (name : Option ℕ) → name_text (record state { line = line; column = 0 }) name ≡ name_text (record state { column = 0 }) name
name-line state line None = refl
name-line state line (Some name) = refl

origin-line : (state : State) (line : ℕ) (origin : Option Origin) → origin_text (record state { line = line; column = 0 }) origin ≡ origin_text (record state { column = 0 }) origin
origin-line state line None = refl
origin-line state line (Some origin) =
    ap (λ text. value_text state.source origin.source ++ (value_text state.source_line (origin.line - 1) ++ (value_text state.source_column origin.column ++ text))) (name-line state line origin.name)

text-line : (state : State) (line : ℕ) (segment : Segment) → segment_text (record state { line = line; column = 0 }) segment ≡ segment_text (record state { column = 0 }) segment
text-line state line segment = ap (λ text. value_text 0 segment.column ++ text) (origin-line state line segment.origin)

after-line : (state : State) (line : ℕ) (segment : Segment) (origin : Option Origin) → after_origin (record state { line = line; column = 0 }) segment origin ≡ after_origin state segment origin
after-line state line segment None = refl
after-line state line segment (Some origin) = refl

line-after : (state : State) (segment : Segment) (origin : Option Origin) → (after_origin state segment origin).line ≡ segment.line
line-after state segment None = refl
line-after state segment (Some origin) = refl

module _ (sources names : ℕ) where
  fits-name : (last : ℕ) (name : Option ℕ) → last < 2 ^ 32 → IfSome name (λ n. n < min names (2 ^ 32)) → name_or last name < 2 ^ 32
  fits-name last None l h = l
  fits-name last (Some name) l h = omega arith

  fits-after : (state : State) (segment : Segment) (origin : Option Origin) → FitsState state → segment.column < 2 ^ 32 → IfSome origin (FitsOrigin sources names) → FitsState (after_origin state segment origin)
  fits-after state segment None f c h = record { column = c; source = f.source; source_line = f.source_line; source_column = f.source_column; name = f.name }
  fits-after state segment (Some origin) f c h =
      let s : origin.source < min sources (2 ^ 32) = h.source in
      let l : origin.line < 2 ^ 32 = h.line in
      record { column = c; source = omega arith; source_line = omega arith; source_column = h.column; name = fits-name state.name origin.name f.name h.name }

  -- ---- one segment, read

  none_some : {G : Type 0} (p : State × Segment) → None ≡ Some p → G
  none_some p e = cc

  one-segment : (from after : State) (segment : Segment) (at : ℕ) (text : List ℕ) → option_and_then (with_numbers sources names from) (read_numbers text) ≡ Some (after, segment) →
      read_segment sources names from at text ≡ good (after, segment ∷ [])
  one-segment from after segment at [] e = none_some (after, segment) e
  one-segment from after segment at (byte ∷ bytes) e = ap (or_at at) e

  -- what is read after a segment, in the middle of a line
  record After (state : State) (text : List ℕ) (segments : List Segment) : Type 0 where
    first : List ℕ
    others : List (List ℕ)
    pieces : List (List ℕ)
    lines_are : slice_split is_end text ≡ first ∷ others
    pieces_are : slice_split is_comma first ≡ [] ∷ pieces
    last : State
    reads : (a b : ℕ) → next (read_line sources names state a pieces) (λ after. read_lines sources names (next_line after) b others) ≡ good (last, segments)

  -- a segment before that
  line-on : (from after : State) (segment : Segment) (text rest : List ℕ) (segments : List Segment) (more : After after rest segments) → option_and_then (with_numbers sources names from) (read_numbers text) ≡ Some (after, segment) →
      (a b : ℕ) → next (read_line sources names from a (text ∷ more.pieces)) (λ state. read_lines sources names (next_line state) b more.others) ≡ good (more.last, segment ∷ segments)
  line-on from after segment text rest segments more is a b =
      ap (λ r. next (next r (λ state. read_line sources names state (a + (length text + 1)) more.pieces)) (λ state. read_lines sources names (next_line state) b more.others)) (one-segment from after segment a text is)
      ∙ next-more (after, segment ∷ []) (read_line sources names after (a + (length text + 1)) more.pieces) (λ state. read_lines sources names (next_line state) b more.others)
      ∙ ap (with_more (after, segment ∷ [])) (more.reads (a + (length text + 1)) b)

  -- the pieces of a line that begins with it
  pieces-on : (text rest : List ℕ) (state : State) (segments : List Segment) (more : After state rest segments) → AllByRecursion IsPlain text → slice_split is_comma (text ++ more.first) ≡ text ∷ more.pieces
  pieces-on text rest state segments more plain =
      split-plain is_comma text more.first [] more.pieces (no-comma text plain) more.pieces_are ∙ ap (λ t. t ∷ more.pieces) (append-nil text)

  whole-line : (from after : State) (segment : Segment) (text rest : List ℕ) (segments : List Segment) (more : After after rest segments) → AllByRecursion IsPlain text →
      option_and_then (with_numbers sources names from) (read_numbers text) ≡ Some (after, segment) → (a : ℕ) → read_lines sources names from a ((text ++ more.first) ∷ more.others) ≡ good (more.last, segment ∷ segments)
  whole-line from after segment text rest segments more plain is a =
      ap (λ parts. next (read_line sources names from a parts) (λ state. read_lines sources names (next_line state) (a + (length (text ++ more.first) + 1)) more.others)) (pieces-on text rest after segments more plain)
      ∙ line-on from after segment text rest segments more is a (a + (length (text ++ more.first) + 1))

  -- empty lines are passed over
  skip : (n : ℕ) (state : State) (parts : List (List ℕ)) (r : State × List Segment) → ((a : ℕ) → read_lines sources names (lines_on n state) a parts ≡ good r) → (a : ℕ) → read_lines sources names state a (empties n parts) ≡ good r
  skip zero state parts r each a = each a
  skip (suc n) state parts r each a = ap (with_more (state, [])) (skip n (next_line state) parts r each (a + (length {A = ℕ} [] + 1)))

  -- ---- all segments after one

  either : (a b : Bool) → (a || b) ≡ false → (a ≡ false) × (b ≡ false)
  either true b e = cc
  either false b e = (refl, e)

  not-before : (segment last : Segment) → is_before segment last ≡ false → last.line ≤ segment.line
  not-before segment last e = ltb-false segment.line last.line (either (nat_lt segment.line last.line) ((segment.line == last.line) && nat_lt segment.column last.column) e).0

  -- on a line further on: so many lines end, then the segment begins its line
  further : (n : ℕ) (state : State) (segment : Segment) (segments : List Segment) → FitsState state → FitsSegment sources names segment → state.line + suc n ≡ segment.line →
      After (after_origin state segment segment.origin) (mappings_from (after_origin state segment segment.origin) true segments) segments →
      (more : After (after_origin state segment segment.origin) (mappings_from (after_origin state segment segment.origin) true segments) segments) → (a : ℕ) →
      read_lines sources names (lines_on (suc n) state) a ((segment_text (record state { column = 0 }) segment ++ more.first) ∷ more.others) ≡ good (more.last, segment ∷ segments)
  further n state segment segments f h line known more a =
      let from : State = record state { line = state.line + suc n; column = 0 } in
      let fits : FitsState from = record { column = omega arith; source = f.source; source_line = f.source_line; source_column = f.source_column; name = f.name } in
      let is : option_and_then (with_numbers sources names from) (read_numbers (segment_text (record state { column = 0 }) segment)) ≡ Some (after_origin state segment segment.origin, segment) =
      ap (λ text. option_and_then (with_numbers sources names from) (read_numbers text)) (sym (text-line state (state.line + suc n) segment))
      ∙ segment-read sources names from segment fits h line
      ∙ ap (λ s. Some (s, segment)) (after-line state (state.line + suc n) segment segment.origin) in
      let flat : FitsState (record state { column = 0 }) = record { column = omega arith; source = f.source; source_line = f.source_line; source_column = f.source_column; name = f.name } in
      ap (λ s. read_lines sources names s a ((segment_text (record state { column = 0 }) segment ++ more.first) ∷ more.others)) (lines-on n state)
      ∙ whole-line from (after_origin state segment segment.origin) segment (segment_text (record state { column = 0 }) segment) _ segments more
      (plain-segment sources names (record state { column = 0 }) segment flat h) is a

  split-further : (n : ℕ) (text : List ℕ) (after : State) (rest : List ℕ) (segments : List Segment) (more : After after rest segments) → AllByRecursion IsPlain text →
      slice_split is_end ((replicate n 59 ++ text) ++ rest) ≡ empties n ((text ++ more.first) ∷ more.others)
  split-further n text after rest segments more plain =
      ap (slice_split is_end) (append_assoc (replicate n 59) text rest)
      ∙ split-empties n (text ++ rest)
      ∙ ap (empties n) (split-plain is_end text rest more.first more.others (no-end text plain) more.lines_are)

  same-line : (state : State) (segment : Segment) (segments : List Segment) → FitsState state → FitsSegment sources names segment → state.line ≡ segment.line →
      After (after_origin state segment segment.origin) (mappings_from (after_origin state segment segment.origin) true segments) segments →
      After state ((44 ∷ segment_text state segment) ++ mappings_from (after_origin state segment segment.origin) true segments) (segment ∷ segments)
  same-line state segment segments f h line more = record {
    first = 44 ∷ segment_text state segment ++ more.first;
    others = more.others;
    pieces = segment_text state segment ∷ more.pieces;
    lines_are = ap (onto_first 44) (split-plain is_end (segment_text state segment) _ more.first more.others (no-end (segment_text state segment) (plain-segment sources names state segment f h)) more.lines_are);
    pieces_are = ap (λ parts. [] ∷ parts) (pieces-on (segment_text state segment) _ _ segments more (plain-segment sources names state segment f h));
    last = more.last;
    reads = line-on state (after_origin state segment segment.origin) segment (segment_text state segment) _ segments more (segment-read sources names state segment f h line);
  }

  next-lines : (n k : ℕ) (state : State) (segment : Segment) (segments : List Segment) → k ≡ suc n → FitsState state → FitsSegment sources names segment → state.line + suc n ≡ segment.line →
      After (after_origin state segment segment.origin) (mappings_from (after_origin state segment segment.origin) true segments) segments →
      After state ((replicate k 59 ++ segment_text (record state { column = 0 }) segment) ++ mappings_from (after_origin state segment segment.origin) true segments) (segment ∷ segments)
  next-lines n k state segment segments e f h line more =
      let flat : FitsState (record state { column = 0 }) = record { column = omega arith; source = f.source; source_line = f.source_line; source_column = f.source_column; name = f.name } in
      let plain = plain-segment sources names (record state { column = 0 }) segment flat h in
      record {
        first = [];
        others = empties n ((segment_text (record state { column = 0 }) segment ++ more.first) ∷ more.others);
        pieces = [];
        lines_are =
            ap (λ m. slice_split is_end ((replicate m 59 ++ segment_text (record state { column = 0 }) segment) ++ mappings_from (after_origin state segment segment.origin) true segments)) e
            ∙ split-further (suc n) (segment_text (record state { column = 0 }) segment) _ _ segments more plain;
        pieces_are = refl;
        last = more.last;
        reads = λ a b. ap (with_more (state, [])) (skip n (next_line state) _ (more.last, segment ∷ segments) (λ c. further n state segment segments f h line more more c) b);
      }

  predecessor : (k : ℕ) → 0 < k → (n : ℕ) × (k ≡ suc n)
  predecessor zero h = absurd (omega arith)
  predecessor (suc n) h = (n, refl)

  differ : (a b : ℕ) → (a == b) ≡ false → a ≡ b → ⊥
  differ a b e same = cc (eq-eqb a b same)

  later-by : (b : Bool) (state : State) (last segment : Segment) (segments : List Segment) → (segment.line == state.line) ≡ b → FitsState state → state.line ≡ last.line → is_before segment last ≡ false → FitsSegment sources names segment →
      After (after_origin state segment segment.origin) (mappings_from (after_origin state segment segment.origin) true segments) segments →
      After state (cond b (44 ∷ segment_text state segment) (replicate (segment.line - state.line) 59 ++ segment_text (record state { column = 0 }) segment)
      ++ mappings_from (after_origin state segment segment.origin) true segments) (segment ∷ segments)
  later-by true state last segment segments e f line order h more = same-line state segment segments f h (sym (eqb-true segment.line state.line e)) more
  later-by false state last segment segments e f line order h more =
      let least : last.line ≤ segment.line = not-before segment last order in
      let other : segment.line ≡ state.line → ⊥ = differ segment.line state.line e in
      let some = predecessor (segment.line - state.line) (omega arith) in
      let is = some.1 in
      next-lines some.0 (segment.line - state.line) state segment segments is f h (omega (arith, is, least)) more

  later : (segments : List Segment) (state : State) (last : Segment) → FitsState state → state.line ≡ last.line → AreAfter sources names last segments → After state (mappings_from state true segments) segments
  later [] state last f line all = record { first = []; others = []; pieces = []; lines_are = refl; pieces_are = refl; last = next_line state; reads = λ a b. refl }
  later (segment ∷ segments) state last f line all =
      later-by (segment.line == state.line) state last segment segments refl f line all.0 all.1
      (later segments (after_origin state segment segment.origin) segment (fits-after state segment segment.origin f all.1.column all.1.origin) (line-after state segment segment.origin) all.2)

  -- ---- all segments

  record Starts (segments : List Segment) : Type 0 where
    last : State
    reads : read_lines sources names start 0 (slice_split is_end (mappings_text segments)) ≡ good (last, segments)

  fits-start : FitsState start
  fits-start = record { column = omega arith; source = omega arith; source_line = omega arith; source_column = omega arith; name = omega arith }

  starts-by : (b : Bool) (segment : Segment) (segments : List Segment) → (segment.line == 1) ≡ b → FitsSegment sources names segment →
      (more : After (after_origin start segment segment.origin) (mappings_from (after_origin start segment segment.origin) true segments) segments) →
      read_lines sources names start 0 (slice_split is_end (cond b ([] ++ segment_text start segment) (replicate (segment.line - 1) 59 ++ segment_text (record start { column = 0 }) segment)
      ++ mappings_from (after_origin start segment segment.origin) true segments)) ≡ good (more.last, segment ∷ segments)
  starts-by true segment segments e h more =
      let plain = plain-segment sources names start segment fits-start h in
      ap (read_lines sources names start 0) (split-plain is_end (segment_text start segment) _ more.first more.others (no-end (segment_text start segment) plain) more.lines_are)
      ∙ whole-line start (after_origin start segment segment.origin) segment (segment_text start segment) _ segments more plain
      (segment-read sources names start segment fits-start h (sym (eqb-true segment.line 1 e))) 0
  starts-by false segment segments e h more =
      let other : segment.line ≡ 1 → ⊥ = differ segment.line 1 e in
      let least : 1 ≤ segment.line = h.from_one in
      let some = predecessor (segment.line - 1) (omega arith) in
      let is = some.1 in
      let plain = plain-segment sources names start segment fits-start h in
      ap (λ m. read_lines sources names start 0 (slice_split is_end ((replicate m 59 ++ segment_text start segment) ++ mappings_from (after_origin start segment segment.origin) true segments))) is
      ∙ ap (read_lines sources names start 0) (split-further (suc some.0) (segment_text start segment) _ _ segments more plain)
      ∙ skip (suc some.0) start _ (more.last, segment ∷ segments) (λ c. further some.0 start segment segments fits-start h (omega (arith, is)) more more c) 0

  starts : (segments : List Segment) → AreSegments sources names segments → Starts segments
  starts [] all = record { last = next_line start; reads = refl }
  starts (segment ∷ segments) all =
      let more = later segments (after_origin start segment segment.origin) segment (fits-after start segment segment.origin fits-start all.0.column all.0.origin) (line-after start segment segment.origin) all.1 in
      record { last = more.last; reads = starts-by (segment.line == 1) segment segments refl all.0 more }

-- ---- segments that stand in order stay so

module _ where
  abbrev NotBefore : Segment → Segment → Type 0
  NotBefore segment other = is_before segment other ≡ false

  before-trans : (a b c : Segment) → NotBefore b a → NotBefore c b → NotBefore c a
  before-trans a b c h k = grind (arith, nat_tests)

  before-itself : (a : Segment) → NotBefore a a
  before-itself a = grind (arith, nat_tests)

  placed-last : (segment : Segment) (all : List Segment) → AllByRecursion (NotBefore segment) all → placed segment all ≡ all ++ segment ∷ []
  placed-last segment [] h = refl
  placed-last segment (other ∷ others) h =
      ap (λ b. cond b (segment ∷ other ∷ others) (other ∷ placed segment others)) h.0 ∙ ap (λ xs. other ∷ xs) (placed-last segment others h.1)

  all-trans : (last segment : Segment) (all : List Segment) → AllByRecursion (NotBefore last) all → NotBefore segment last → AllByRecursion (NotBefore segment) all
  all-trans last segment [] h k = tt
  all-trans last segment (other ∷ others) h k = (before-trans other last segment h.0 k, all-trans last segment others h.1 k)

  all-more : (segment : Segment) (all : List Segment) → AllByRecursion (NotBefore segment) all → AllByRecursion (NotBefore segment) (all ++ segment ∷ [])
  all-more segment [] h = (before-itself segment, tt)
  all-more segment (other ∷ others) h = (h.0, all-more segment others h.1)

  in-order : (sources names : ℕ) (segments done : List Segment) (last : Segment) → AllByRecursion (NotBefore last) done → AreAfter sources names last segments →
      fold (λ sorted segment. placed segment sorted) done segments ≡ done ++ segments
  in-order sources names [] done last h all = sym (append-nil done)
  in-order sources names (segment ∷ segments) done last h all =
      let own = all-trans last segment done h all.0 in
      ap (λ xs. fold (λ sorted segment. placed segment sorted) xs segments) (placed-last segment done own)
      ∙ in-order sources names segments (done ++ segment ∷ []) segment (all-more segment done own) all.2
      ∙ append_assoc done (segment ∷ []) segments

  all-in-order : (sources names : ℕ) (segments : List Segment) → AreSegments sources names segments → in_order segments ≡ segments
  all-in-order sources names [] all = refl
  all-in-order sources names (segment ∷ segments) all = in-order sources names segments (segment ∷ []) segment (before-itself segment, tt) all.1

pub segments-read : (sources names : ℕ) (segments : List Segment) → AreSegments sources names segments → segments_of sources names (mappings_text segments) ≡ Ok segments
segments-read sources names segments all = ap sorted (starts sources names segments all).reads ∙ ap (λ xs. Ok xs) (all-in-order sources names segments all)

-- ---- the whole map

texts-back : (texts : List (List ℕ)) → each as_str (items_of (map (λ text. string text) texts)) ≡ Some texts
texts-back [] = refl
texts-back (text ∷ texts) = ap (λ o. option_map (λ others. text ∷ others) o) (texts-back texts)

sources-back : (sources : List (Option (List ℕ))) → each text_or_null (items_of (map source_data sources)) ≡ Some sources
sources-back [] = refl
sources-back (None ∷ sources) = ap (λ o. option_map (λ others. None ∷ others) o) (sources-back sources)
sources-back (Some text ∷ sources) = ap (λ o. option_map (λ others. Some text ∷ others) o) (sources-back sources)

under-nothing : (sources : List (Option (List ℕ))) → under [] sources ≡ sources
under-nothing [] = refl
under-nothing (None ∷ sources) = ap (λ xs. None ∷ xs) (under-nothing sources)
under-nothing (Some text ∷ sources) = ap (λ xs. Some text ∷ xs) (under-nothing sources)

abbrev Answer : Type 0
Answer = Result Parts MapFault

abbrev done : Parts → Answer
done map = Ok map

abbrev after_names : Parts → List (Option (List ℕ)) → List (List ℕ) → Answer
after_names map found names = with_segments (under [] found) names (segments_of (length found) (length names) (mappings_text map.segments))

pub is_read_back : IsReadBack
is_read_back map all =
    ap (λ o. after (or_bad (codes "sources") o) (λ found. after (names (map_data map)) (λ names. after_names map found names))) (sources-back map.sources)
    ∙ ap (λ o. after (or_bad (codes "names") o) (λ names. after_names map map.sources names)) (texts-back map.names)
    ∙ ap (λ r. with_segments (under [] map.sources) map.names r) (segments-read (length map.sources) (length map.names) map.segments all)
    ∙ ap (λ found. done (record { sources = found; names = map.names; segments = map.segments })) (under-nothing map.sources)
