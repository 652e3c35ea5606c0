-- The numbers of a file's marks are below those of its constructs of their kind, and the paths of a branch below its.
use Rattle.std.proofs.Common.{◌≡◌, ℕ, zero, suc, ◌+◌, ◌-◌, ◌<◌, ◌≤◌, Bool, true, false, ◌&&◌, List, [], ◌∷◌, ◌++◌, Option, Some, length, ◌⊎◌, inl, inr, refl, sym, ap, ◌∙◌, arith}
use Rattle.std.specs.Prelude.{nat_eq, slice_get}
use Rattle.std.proofs.lemmas.Bool.{and_parts}
use Rattle.std.proofs.lemmas.Bool.Decides.{nat_tests}
use Rattle.js_terms.specs.declared.construct.Construct.{Construct}
use Rattle.js_terms.specs.declared.construct.Construct.TheVariants as construct
use Rattle.js_terms.specs.declared.construct.ConstructKind.{ConstructKind}
use Rattle.js_terms.specs.declared.construct.ConstructKind.TheVariants as construct_kind
use Rattle.js_terms.specs.declared.place.Loc.{Loc}
use Rattle.js_tree.specs.Marked.{is_mark, one_if}
use Rattle.js_tree.specs.Unmarked.{unmarked_file}
use Rattle.js_tree.specs.Linked.{Counts, after_one, mark}
use Rattle.js_tree.specs.Entered.{PlacedMark, how_many, times_placed}
use Rattle.js_walk.specs.Constructs.{constructs_file}
use Rattle.js_meaning.specs.Program.{from}
use Rattle.js_meaning.specs.Counted.{kind_of, after, paths_from, marks_of, numbered}
use Rattle.js_suits.specs.Laws.{paths_of, Inside, MarksInside}
use Rattle.js_suits.proofs.Marks.{construct_there}

many_append : (such : PlacedMark → Bool) (xs ys : List PlacedMark) → how_many such (xs ++ ys) ≡ how_many such xs + how_many such ys
many_append such [] ys = omega arith
many_append such (x ∷ xs) ys = omega (arith, many_append such xs ys)

-- the next numbers never fall
rises : (c : Counts) (xs : List Construct) → (c.statements ≤ (after c xs).statements) × (c.functions ≤ (after c xs).functions)
rises c [] = (omega arith, omega arith)
rises c (construct.Statement loc ∷ xs) = let r = rises (after_one construct_kind.Statement c) xs in let a = r.0 in (omega (arith, a), r.1)
rises c (construct.Function name declared body ∷ xs) = let r = rises (after_one construct_kind.Function c) xs in let a = r.1 in (r.0, omega (arith, a))
rises c (construct.Branch kind loc places ∷ xs) = rises (after_one construct_kind.Branch c) xs

sure : (b : Bool) (n : ℕ) → n ≡ 0 → 1 ≤ one_if b + n → b ≡ true
sure true n z h = refl
sure false n z h = absurd (omega (arith, z, h))

either : (a b : ℕ) → 1 ≤ a + b → (1 ≤ a) ⊎ (1 ≤ b)
either zero b h = inr (omega (arith, h))
either (suc a) b h = inl (omega arith)

-- the same where numbers begin at some
abbrev From : Counts → List Construct → ConstructKind → ℕ → ℕ → Type 0
From c xs construct_kind.Statement n i = (c.statements ≤ n) × (n < (after c xs).statements) × (i ≡ 0)
From c xs construct_kind.Function n i = (c.functions ≤ n) × (n < (after c xs).functions) × (i ≡ 0)
From c xs construct_kind.Branch n i = (c.branches ≤ n) × ((places : List (Option Loc)) × (slice_get (paths_of xs) (n - c.branches) ≡ Some places) × (i < length places))

module _ (f file : ℕ) where
  -- a mark is the one
  equal : (n i m j : ℕ) → (nat_eq n m && (nat_eq i j && nat_eq f file)) ≡ true → (n ≡ m) × (i ≡ j)
  equal n i m j h =
      let a = and_parts (nat_eq n m) (nat_eq i j && nat_eq f file) h in
      let b = and_parts (nat_eq i j) (nat_eq f file) a.1 in
      let x = a.0 in let y = b.0 in (grind (arith, nat_tests, x), grind (arith, nat_tests, y))

  -- among the paths of a branch
  in_paths : (n i b j : ℕ) (places : List (Option Loc)) → 1 ≤ times_placed (mark f construct_kind.Branch n i) (paths_from file b j places) → (n ≡ b) × (j ≤ i) × (i < j + length places)
  in_paths n i b j [] h = absurd (omega (arith, h))
  in_paths n i b j (x ∷ xs) h = by (nat_eq n b && (nat_eq i j && nat_eq f file)) refl (in_paths n i b (suc j) xs)
    where
      by : (t : Bool) → (nat_eq n b && (nat_eq i j && nat_eq f file)) ≡ t →
          (1 ≤ times_placed (mark f construct_kind.Branch n i) (paths_from file b (suc j) xs) → (n ≡ b) × (suc j ≤ i) × (i < suc j + length xs)) → (n ≡ b) × (j ≤ i) × (i < j + length (x ∷ xs))
      by true e r = let z = equal n i b j e in let y = z.1 in (z.0, omega (arith, y), omega (arith, y))
      by false e r = let o = ap one_if e in let z = r (omega (arith, o, h)) in let y = z.1 in let w = z.2 in (z.0, omega (arith, y), omega (arith, w))

  no_statement : (n i b j : ℕ) (places : List (Option Loc)) → times_placed (mark f construct_kind.Statement n i) (paths_from file b j places) ≡ 0
  no_statement n i b j [] = refl
  no_statement n i b j (x ∷ xs) = let r = no_statement n i b (suc j) xs in omega (arith, r)

  no_function : (n i b j : ℕ) (places : List (Option Loc)) → times_placed (mark f construct_kind.Function n i) (paths_from file b j places) ≡ 0
  no_function n i b j [] = refl
  no_function n i b j (x ∷ xs) = let r = no_function n i b (suc j) xs in omega (arith, r)

  -- the first construct's own
  own : (c : Counts) (k : ConstructKind) (n i : ℕ) (x : Construct) (xs : List Construct) → 1 ≤ times_placed (mark f k n i) (marks_of file c x) → From c (x ∷ xs) k n i
  own c construct_kind.Statement n i (construct.Statement loc) xs h =
      let e = equal n i c.statements 0 (sure (nat_eq n c.statements && (nat_eq i 0 && nat_eq f file)) 0 refl h) in
      let y = e.0 in let r = (rises (after_one construct_kind.Statement c) xs).0 in (omega (arith, y), omega (arith, y, r), e.1)
  own c construct_kind.Statement n i (construct.Function name declared body) xs h = absurd (omega (arith, h))
  own c construct_kind.Statement n i (construct.Branch kind loc places) xs h = let z = no_statement n i c.branches 0 places in absurd (omega (arith, h, z))
  own c construct_kind.Function n i (construct.Statement loc) xs h = absurd (omega (arith, h))
  own c construct_kind.Function n i (construct.Function name declared body) xs h =
      let e = equal n i c.functions 0 (sure (nat_eq n c.functions && (nat_eq i 0 && nat_eq f file)) 0 refl h) in
      let y = e.0 in let r = (rises (after_one construct_kind.Function c) xs).1 in (omega (arith, y), omega (arith, y, r), e.1)
  own c construct_kind.Function n i (construct.Branch kind loc places) xs h = let z = no_function n i c.branches 0 places in absurd (omega (arith, h, z))
  own c construct_kind.Branch n i (construct.Statement loc) xs h = absurd (omega (arith, h))
  own c construct_kind.Branch n i (construct.Function name declared body) xs h = absurd (omega (arith, h))
  own c construct_kind.Branch n i (construct.Branch kind loc places) xs h =
      let e = in_paths n i c.branches 0 places h in
      let y = e.0 in let w = e.2 in
      let z : n - c.branches ≡ 0 = omega (arith, y) in
      (omega (arith, y), (places, ap (slice_get (paths_of (construct.Branch kind loc places ∷ xs))) z, omega (arith, w)))

  -- those of the others
  past : (c : Counts) (k : ConstructKind) (n i : ℕ) (x : Construct) (xs : List Construct) → From (after_one (kind_of x) c) xs k n i → From c (x ∷ xs) k n i
  past c construct_kind.Statement n i (construct.Statement loc) xs r = let a = r.0 in (omega (arith, a), r.1, r.2)
  past c construct_kind.Statement n i (construct.Function name declared body) xs r = r
  past c construct_kind.Statement n i (construct.Branch kind loc places) xs r = r
  past c construct_kind.Function n i (construct.Statement loc) xs r = r
  past c construct_kind.Function n i (construct.Function name declared body) xs r = let a = r.0 in (omega (arith, a), r.1, r.2)
  past c construct_kind.Function n i (construct.Branch kind loc places) xs r = r
  past c construct_kind.Branch n i (construct.Statement loc) xs r = r
  past c construct_kind.Branch n i (construct.Function name declared body) xs r = r
  past c construct_kind.Branch n i (construct.Branch kind loc places) xs r =
      let a = r.0 in
      let z : n - c.branches ≡ suc (n - suc c.branches) = omega (arith, a) in
      (omega (arith, a), (r.1.0, ap (slice_get (places ∷ paths_of xs)) z ∙ r.1.1, r.1.2))

  inside : (c : Counts) (k : ConstructKind) (n i : ℕ) (xs : List Construct) → 1 ≤ times_placed (mark f k n i) (numbered file c xs) → From c xs k n i
  inside c k n i [] h = absurd (omega (arith, h))
  inside c k n i (x ∷ xs) h =
      let e = many_append (λ p. is_mark (mark f k n i) p.mark) (marks_of file c x) (numbered file (after_one (kind_of x) c) xs) in
      go (either (times_placed (mark f k n i) (marks_of file c x)) (times_placed (mark f k n i) (numbered file (after_one (kind_of x) c) xs)) (omega (arith, e, h))) (inside (after_one (kind_of x) c) k n i xs)
    where
      go : (1 ≤ times_placed (mark f k n i) (marks_of file c x)) ⊎ (1 ≤ times_placed (mark f k n i) (numbered file (after_one (kind_of x) c) xs)) →
          (1 ≤ times_placed (mark f k n i) (numbered file (after_one (kind_of x) c) xs) → From (after_one (kind_of x) c) xs k n i) → From c (x ∷ xs) k n i
      go (inl a) r = own c k n i x xs a
      go (inr b) r = past c k n i x xs (r b)

pub marks_inside : MarksInside
marks_inside file tree m h = (construct_there file tree m h, by m.kind m.number m.path (inside m.file file (from 0).counts m.kind m.number m.path (constructs_file (unmarked_file tree)) h))
  where
    by : (k : ConstructKind) (n i : ℕ) → From (from 0).counts (constructs_file (unmarked_file tree)) k n i → Inside (constructs_file (unmarked_file tree)) k n i
    by construct_kind.Statement n i r = (r.1, r.2)
    by construct_kind.Function n i r = (r.1, r.2)
    by construct_kind.Branch n i r = let z : n - 0 ≡ n = omega arith in (r.1.0, ap (slice_get (paths_of (constructs_file (unmarked_file tree)))) (sym z) ∙ r.1.1, r.1.2)
