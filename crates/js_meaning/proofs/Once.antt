-- Each construct's marks stand in the tree once.
use Rattle.std.proofs.Common.{◌≡◌, ℕ, suc, ◌<◌, ◌≤◌, Bool, true, false, ◌&&◌, ◌+◌, List, [], ◌∷◌, ◌++◌, Option, Some, refl, ap, ◌∙◌, arith, ⊎_elim, ◌⊎◌, inl, inr}
use Rattle.std.specs.Prelude.{nat_eq}
use Rattle.std.proofs.lemmas.Bool.{ne_eqb}
use Rattle.std.proofs.lemmas.Bool.Decides.{eqb_tells}
use Rattle.js_terms.specs.declared.construct.Construct.{Construct}
use Rattle.js_terms.specs.declared.construct.Construct.TheVariants as construct
use Rattle.js_terms.specs.declared.construct.ConstructKind.{ConstructKind}
use Rattle.js_terms.specs.declared.construct.ConstructKind.TheVariants as construct_kind
use Rattle.js_terms.specs.declared.place.Loc.{Loc}
use Rattle.js_terms.specs.Mark.{Mark}
use Rattle.js_tree.specs.Marked.{is_mark, one_if}
use Rattle.js_tree.specs.Plain.{File}
use Rattle.js_tree.specs.Unmarked.{unmarked_file}
use Rattle.js_tree.specs.Linked.{Numbers, Counts, Marked, mark, next_of, after_one, link_file}
use Rattle.js_walk.specs.Constructs.{constructs_file}
use Rattle.js_tree.specs.Entered.{PlacedMark, placed, entered_file, times_placed}
use Rattle.js_meaning.specs.Counted.{kind_of, after, paths_from, marks_of, numbered}
use Rattle.js_meaning.proofs.Constructed.{many_append, numbered_append, marks_constructs}

-- where the numbers differ, so do the marks
other : (m n i j f g : ℕ) → nat_eq m n ≡ false → one_if (nat_eq m n && (nat_eq i j && nat_eq f g)) ≡ 0
other m n i j f g e = ap (λ b. one_if (b && (nat_eq i j && nat_eq f g))) e

at_most_one : (b : Bool) → one_if b ≤ 1
at_most_one true = omega arith
at_most_one false = omega arith

placed_append : (m : Mark) (xs ys : List PlacedMark) → times_placed m (xs ++ ys) ≡ times_placed m xs + times_placed m ys
placed_append m xs ys = many_append (λ n. is_mark m n.mark) xs ys

module _ (f i file : ℕ) where
  -- the paths of another branch
  paths_other : (n b j : ℕ) (places : List (Option Loc)) → nat_eq n b ≡ false → times_placed (mark f construct_kind.Branch n i) (paths_from file b j places) ≡ 0
  paths_other n b j [] e = refl
  paths_other n b j (x ∷ xs) e = let h = other n b i j f file e in let k = paths_other n b (suc j) xs e in omega (arith, h, k)

  kinds_other : (k : ConstructKind) (n b j : ℕ) (places : List (Option Loc)) → one_if (is_mark (mark f k n i) (mark file construct_kind.Branch b 0)) ≡ 0 →
      ((j : ℕ) → one_if (is_mark (mark f k n i) (mark file construct_kind.Branch b j)) ≡ 0) → times_placed (mark f k n i) (paths_from file b j places) ≡ 0
  kinds_other k n b j [] e h = refl
  kinds_other k n b j (x ∷ xs) e h = let a = h j in let r = kinds_other k n b (suc j) xs e h in omega (arith, a, r)

  -- the paths of one branch are told by their numbers
  paths_past : (n b j : ℕ) (places : List (Option Loc)) → i < j → times_placed (mark f construct_kind.Branch n i) (paths_from file b j places) ≡ 0
  paths_past n b j [] l = refl
  paths_past n b j (x ∷ xs) l =
      let e : nat_eq i j ≡ false = ne_eqb i j (λ p. omega (arith, p, l)) in
      let h : one_if (nat_eq n b && (nat_eq i j && nat_eq f file)) ≡ 0 = ap (λ z. one_if (nat_eq n b && (z && nat_eq f file))) e ∙ none (nat_eq n b) in
      let r = paths_past n b (suc j) xs (omega (arith, l)) in
      omega (arith, h, r)
    where
      none : (a : Bool) → one_if (a && false) ≡ 0
      none true = refl
      none false = refl

  paths_once : (n b j : ℕ) (places : List (Option Loc)) → times_placed (mark f construct_kind.Branch n i) (paths_from file b j places) ≤ 1
  paths_once n b j [] = omega arith
  paths_once n b j (x ∷ xs) = ⊎_elim
      (λ (h : (nat_eq i j ≡ true) × (i ≡ j)). let r = paths_past n b (suc j) xs (let e = h.1 in omega (arith, e)) in
      let a = at_most_one (is_mark (mark f construct_kind.Branch n i) (mark file construct_kind.Branch b j)) in omega (arith, a, r))
      (λ (h : (nat_eq i j ≡ false) × (i ≡ j → ⊥)).
      let e : one_if (nat_eq n b && (nat_eq i j && nat_eq f file)) ≡ 0 = ap (λ z. one_if (nat_eq n b && (z && nat_eq f file))) h.0 ∙ none (nat_eq n b) in
      let r = paths_once n b (suc j) xs in omega (arith, e, r))
      (eqb_tells i j)
    where
      none : (a : Bool) → one_if (a && false) ≡ 0
      none true = refl
      none false = refl

  -- a construct has no mark of another kind or number
  construct_other : (k : ConstructKind) (n : ℕ) (c : Counts) (x : Construct) → nat_eq n (next_of k c) ≡ false → times_placed (mark f k n i) (marks_of file c x) ≡ 0
  construct_other construct_kind.Statement n c (construct.Statement loc) e = let h = other n c.statements i 0 f file e in omega (arith, h)
  construct_other construct_kind.Statement n c (construct.Function name decl loc) e = refl
  construct_other construct_kind.Statement n c (construct.Branch kind loc places) e = kinds_other construct_kind.Statement n c.branches 0 places refl (λ j. refl)
  construct_other construct_kind.Function n c (construct.Statement loc) e = refl
  construct_other construct_kind.Function n c (construct.Function name decl loc) e = let h = other n c.functions i 0 f file e in omega (arith, h)
  construct_other construct_kind.Function n c (construct.Branch kind loc places) e = kinds_other construct_kind.Function n c.branches 0 places refl (λ j. refl)
  construct_other construct_kind.Branch n c (construct.Statement loc) e = refl
  construct_other construct_kind.Branch n c (construct.Function name decl loc) e = refl
  construct_other construct_kind.Branch n c (construct.Branch kind loc places) e = paths_other n c.branches 0 places e

  single_once : (m : Mark) (n : PlacedMark) → times_placed m (n ∷ []) ≤ 1
  single_once m n = let h = at_most_one (is_mark m n.mark) in omega (arith, h)

  construct_once : (k : ConstructKind) (n : ℕ) (c : Counts) (x : Construct) → times_placed (mark f k n i) (marks_of file c x) ≤ 1
  construct_once k n c (construct.Statement loc) = single_once (mark f k n i) (placed (mark file construct_kind.Statement c.statements 0) (Some loc))
  construct_once k n c (construct.Function name decl loc) = single_once (mark f k n i) (placed (mark file construct_kind.Function c.functions 0) (Some loc))
  construct_once construct_kind.Statement n c (construct.Branch kind loc places) = let h = kinds_other construct_kind.Statement n c.branches 0 places refl (λ j. refl) in omega (arith, h)
  construct_once construct_kind.Function n c (construct.Branch kind loc places) = let h = kinds_other construct_kind.Function n c.branches 0 places refl (λ j. refl) in omega (arith, h)
  construct_once construct_kind.Branch n c (construct.Branch kind loc places) = paths_once n c.branches 0 places

  -- numbers only grow, and where a construct has a mark of the kind, they grow
  grows : (k : ConstructKind) (c : Counts) (x : Construct) → next_of k c ≤ next_of k (after_one (kind_of x) c)
  grows construct_kind.Statement c (construct.Statement loc) = omega arith
  grows construct_kind.Statement c (construct.Function name decl loc) = omega arith
  grows construct_kind.Statement c (construct.Branch kind loc places) = omega arith
  grows construct_kind.Function c (construct.Statement loc) = omega arith
  grows construct_kind.Function c (construct.Function name decl loc) = omega arith
  grows construct_kind.Function c (construct.Branch kind loc places) = omega arith
  grows construct_kind.Branch c (construct.Statement loc) = omega arith
  grows construct_kind.Branch c (construct.Function name decl loc) = omega arith
  grows construct_kind.Branch c (construct.Branch kind loc places) = omega arith

  grows_past : (k : ConstructKind) (n : ℕ) (c : Counts) (x : Construct) →
      (times_placed (mark f k n i) (marks_of file c x) ≡ 0) ⊎ (next_of k c < next_of k (after_one (kind_of x) c))
  grows_past construct_kind.Statement n c (construct.Statement loc) = inr (omega arith)
  grows_past construct_kind.Statement n c (construct.Function name decl loc) = inl refl
  grows_past construct_kind.Statement n c (construct.Branch kind loc places) = inl (kinds_other construct_kind.Statement n c.branches 0 places refl (λ j. refl))
  grows_past construct_kind.Function n c (construct.Statement loc) = inl refl
  grows_past construct_kind.Function n c (construct.Function name decl loc) = inr (omega arith)
  grows_past construct_kind.Function n c (construct.Branch kind loc places) = inl (kinds_other construct_kind.Function n c.branches 0 places refl (λ j. refl))
  grows_past construct_kind.Branch n c (construct.Statement loc) = inl refl
  grows_past construct_kind.Branch n c (construct.Function name decl loc) = inl refl
  grows_past construct_kind.Branch n c (construct.Branch kind loc places) = inr (omega arith)

  none_before : (k : ConstructKind) (n : ℕ) (c : Counts) (xs : List Construct) → n < next_of k c → times_placed (mark f k n i) (numbered file c xs) ≡ 0
  none_before k n c [] l = refl
  none_before k n c (x ∷ xs) l =
      let h = placed_append (mark f k n i) (marks_of file c x) (numbered file (after_one (kind_of x) c) xs) in
      let a = construct_other k n c x (ne_eqb n (next_of k c) (λ e. omega (arith, e, l))) in
      let g = grows k c x in
      let r = none_before k n (after_one (kind_of x) c) xs (omega (arith, l, g)) in
      omega (arith, h, a, r)

  once : (k : ConstructKind) (n : ℕ) (c : Counts) (xs : List Construct) → times_placed (mark f k n i) (numbered file c xs) ≤ 1
  once k n c [] = omega arith
  once k n c (x ∷ xs) =
      let h = placed_append (mark f k n i) (marks_of file c x) (numbered file (after_one (kind_of x) c) xs) in
      ⊎_elim
      (λ (e : (nat_eq n (next_of k c) ≡ true) × (n ≡ next_of k c)). ⊎_elim
      (λ (z : times_placed (mark f k n i) (marks_of file c x) ≡ 0). let r = once k n (after_one (kind_of x) c) xs in omega (arith, h, z, r))
      (λ (l : next_of k c < next_of k (after_one (kind_of x) c)).
      let r = none_before k n (after_one (kind_of x) c) xs (let d = e.1 in omega (arith, l, d)) in
      let a = construct_once k n c x in omega (arith, h, a, r))
      (grows_past k n c x))
      (λ (e : (nat_eq n (next_of k c) ≡ false) × (n ≡ next_of k c → ⊥)).
      let a = construct_other k n c x e.0 in let r = once k n (after_one (kind_of x) c) xs in omega (arith, h, a, r))
      (eqb_tells n (next_of k c))

-- no mark stands in a counted file's tree twice
pub marks_once : (file : ℕ) (tree : File) (k : Numbers) (m : Mark) → times_placed m (entered_file (link_file (Marked file) tree k).tree) ≤ 1
marks_once file tree k m =
    let h = marks_constructs file tree k m in
    let o = once m.file m.path file m.kind m.number k.counts (constructs_file (unmarked_file tree)) in
    omega (arith, h, o)

-- and each mark of each construct stands there
pub marks_each : (file : ℕ) (tree : File) (k : Numbers) (before following : List Construct) (x : Construct) → constructs_file (unmarked_file tree) ≡ before ++ x ∷ following →
    (m : Mark) → times_placed m (marks_of file (after k.counts before) x) ≤ times_placed m (entered_file (link_file (Marked file) tree k).tree)
marks_each file tree k before following x e m =
    let h = marks_constructs file tree k m in
    let parts = ap (λ xs. times_placed m (numbered file k.counts xs)) e ∙ ap (times_placed m) (numbered_append file k.counts before (x ∷ following)) in
    let first = placed_append m (numbered file k.counts before) (numbered file (after k.counts before) (x ∷ following)) in
    let second = placed_append m (marks_of file (after k.counts before) x) (numbered file (after_one (kind_of x) (after k.counts before)) following) in
    omega (arith, h, parts, first, second)
