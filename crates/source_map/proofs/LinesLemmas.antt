-- Segments and lines, one after another.
use Rattle.std.proofs.Common.{◌≡◌, ℕ, suc, ◌+◌, ◌<◌, Bool, true, false, cond, List, [], ◌∷◌, ◌++◌, length, drop, get_or, Ok, Err, refl, sym, ap, ◌∙◌, append_assoc, append-nil, arith}
use Rattle.std.specs.List.{slice_split, onto_first}
use Rattle.std.proofs.lemmas.List.{at_drop_more, at_drop_all}
use Rattle.source_map.specs.declared.place.Segment.{Segment}
use Rattle.source_map.specs.declared.state.State.{State}
use Rattle.source_map.specs.declared.fault.MapFault.{MapFault}
use Rattle.source_map.specs.declared.fault.MapFault.TheVariants.{TooLong, BadJson, BadMember, BadMappings, Memory}
use Rattle.source_map.specs.Mappings.{with_more, next, read_segment, read_line, read_lines}
use Rattle.source_map.specs.private.Lines.{Found, onto, Answers, AnswersAll, segments_in, pieces, spent}

-- ---- what parts take

spent-onto : (x : ℕ) (part : List ℕ) (parts : List (List ℕ)) → spent (onto_first x (part ∷ parts)) ≡ 1 + spent (part ∷ parts)
spent-onto x part parts = omega arith

spent-by : (b : Bool) (x : ℕ) (parts : List (List ℕ)) (n : ℕ) → spent parts ≡ n + 1 → spent (cond b ([] ∷ parts) (onto_first x parts)) ≡ suc n + 1
spent-by true x parts n e = omega (arith, e)
spent-by false x [] n e = absurd (omega (arith, e))
spent-by false x (part ∷ parts) n e = spent-onto x part parts ∙ omega (arith, e)

pub spent-split : (p : ℕ → Bool) (xs : List ℕ) → spent (slice_split p xs) ≡ length xs + 1
spent-split p [] = refl
spent-split p (x ∷ xs) = spent-by (p x) x (slice_split p xs) (length xs) (spent-split p xs)

-- ---- what is found, one after another

abbrev good : State × List Segment → Found
good found = Ok found

bad : {G : Type 0} (at : ℕ) (found : State × List Segment) → Err at ≡ good found → G
bad at found e = cc

same-state : (a b : State × List Segment) → good a ≡ good b → a.0 ≡ b.0
same-state a b e = cc

same-segments : (a b : State × List Segment) → good a ≡ good b → a.1 ≡ b.1
same-segments a b e = cc

onto-more : (before : List Segment) (found : State × List Segment) (r : Found) → onto (before ++ found.1) r ≡ onto before (with_more found r)
onto-more before found (Err at) = refl
onto-more before found (Ok more) = ap (λ xs. good (more.0, xs)) (append_assoc before found.1 more.1)

-- after one part is found, what comes later is found after it
pub after-one : (before new : List Segment) (after : State) (r : Found) (later : State → Found) → onto before r ≡ good (after, new) → onto new (later after) ≡ onto before (next r later)
after-one before new after (Err at) later e = bad at (after, new) e
after-one before new after (Ok found) later e =
    ap (λ xs. onto xs (later after)) (sym (same-segments (found.0, before ++ found.1) (after, new) e))
    ∙ ap (λ s. onto (before ++ found.1) (later s)) (sym (same-state (found.0, before ++ found.1) (after, new) e))
    ∙ onto-more before found (later found.0)

abbrev fault : ℕ → Found
fault at = Err at

not_fault : {G : Type 0} (found : State × List Segment) (at : ℕ) → good found ≡ fault at → G
not_fault found at e = cc

pub after-fault : (before : List Segment) (at : ℕ) (r : Found) (later : State → Found) → onto before r ≡ fault at → onto before (next r later) ≡ fault at
after-fault before at (Err first) later e = e
after-fault before at (Ok found) later e = not_fault (found.0, before ++ found.1) at e

-- a fault of one part is that of all
pub answers-fault : (new before : List Segment) (why : MapFault) (r : Found) (later : State → Found) (whole : Found) → onto before (next r later) ≡ whole →
    Answers new (Err why) (onto before r) → Answers new (Err why) whole
answers-fault new before (BadMappings at) r later whole e a = sym e ∙ after-fault before at r later a
answers-fault new before Memory r later whole e a = tt
answers-fault new before TooLong r later whole e a = a
answers-fault new before BadJson r later whole e a = a
answers-fault new before (BadMember name) r later whole e a = a

-- ---- the piece at an index, and those after it

module _ (sources names : ℕ) (state : State) (at : ℕ) (all : List (List ℕ)) (n : ℕ) (piece : List ℕ) (here : (n < length all) × (piece ≡ get_or all n piece)) where
  pub one-piece : read_line sources names state at (drop n all) ≡ next (read_segment sources names state at piece) (λ after. read_line sources names after (at + (length piece + 1)) (drop (n + 1) all))
  one-piece =
      at_drop_more (read_line sources names state at) all n piece here.0
      ∙ ap (λ other. next (read_segment sources names state at other) (λ after. read_line sources names after (at + (length other + 1)) (drop (n + 1) all))) (sym here.1)

pub one-spent : (all : List (List ℕ)) (n : ℕ) (part : List ℕ) → (n < length all) × (part ≡ get_or all n part) → spent (drop n all) ≡ (length part + 1) + spent (drop (n + 1) all)
one-spent all n part here = at_drop_more spent all n part here.0 ∙ ap (λ other. (length other + 1) + spent (drop (n + 1) all)) (sym here.1)

pub no_piece : (sources names : ℕ) (state : State) (at : ℕ) (all : List (List ℕ)) (n : ℕ) → length all ≡ n → read_line sources names state at (drop n all) ≡ good (state, [])
no_piece sources names state at all n end = at_drop_all (read_line sources names state at) all n (omega arith)

pub left-after : (at whole : ℕ) (all : List (List ℕ)) (n : ℕ) (part : List ℕ) → (n < length all) × (part ≡ get_or all n part) → at + spent (drop n all) ≡ whole →
    (at + (length part + 1)) + spent (drop (n + 1) all) ≡ whole
left-after at whole all n part here e = let one = one-spent all n part here in omega (arith, one, e)

pub onto-none : (state : State) (before : List Segment) → onto before (good (state, [])) ≡ good (state, before)
onto-none state before = ap (λ xs. good (state, xs)) (append-nil before)

-- ---- the line at an index, and those after it

module _ (sources names : ℕ) (state : State) (at : ℕ) (all : List (List ℕ)) (n : ℕ) (line : List ℕ) (here : (n < length all) × (line ≡ get_or all n line)) where
  abbrev pub next_line : State → State
  next_line after = record after { line = after.line + 1; column = 0 }

  pub one-line : read_lines sources names state at (drop n all) ≡ next (read_line sources names state at (pieces line)) (λ after. read_lines sources names (next_line after) (at + (length line + 1)) (drop (n + 1) all))
  one-line =
      at_drop_more (read_lines sources names state at) all n line here.0
      ∙ ap (λ other. next (read_line sources names state at (pieces other)) (λ after. read_lines sources names (next_line after) (at + (length other + 1)) (drop (n + 1) all))) (sym here.1)

pub no-line : (sources names : ℕ) (state : State) (at : ℕ) (all : List (List ℕ)) (n : ℕ) → length all ≡ n → read_lines sources names state at (drop n all) ≡ good (state, [])
no-line sources names state at all n end = at_drop_all (read_lines sources names state at) all n (omega arith)

onto-nothing : (r : Found) → onto [] r ≡ r
onto-nothing (Err at) = refl
onto-nothing (Ok found) = refl

-- the answer of all, by that of the last line
pub all-fault : (new : List Segment) (why : MapFault) (r : Found) → Answers new (Err why) (onto [] r) → AnswersAll (Err why) r
all-fault new (BadMappings at) r a = ap segments_in (sym (onto-nothing r) ∙ a)
all-fault new Memory r a = tt
all-fault new TooLong r a = a
all-fault new BadJson r a = a
all-fault new (BadMember name) r a = a

pub all-found : (r : Found) (found : State × List Segment) → onto [] r ≡ good found → segments_in r ≡ segments_in (good found)
all-found r found e = ap segments_in (sym (onto-nothing r) ∙ e)
