-- The marks of a linked file are those of its constructs, and of that file; those of a file linked without marks are none.
use Rattle.std.proofs.Common.{◌≡◌, ℕ, suc, ◌≤◌, Bool, true, false, ◌&&◌, List, [], ◌∷◌, Option, refl, ap, subst, ◌∙◌, arith}
use Rattle.std.specs.Prelude.{nat_eq}
use Rattle.std.proofs.lemmas.Bool.{and_parts}
use Rattle.std.proofs.lemmas.Bool.Decides.{nat_tests}
use Rattle.js_terms.specs.declared.construct.Construct.{Construct}
use Rattle.js_terms.specs.declared.construct.Construct.TheVariants as construct
use Rattle.js_terms.specs.declared.construct.ConstructKind.{ConstructKind}
use Rattle.js_terms.specs.declared.construct.ConstructKind.TheVariants as construct_kind
use Rattle.js_terms.specs.declared.place.Loc.{Loc}
use Rattle.js_terms.specs.Mark.{Mark}
use Rattle.js_tree.specs.Marked.{same_kind, is_mark, one_if}
use Rattle.js_tree.specs.Plain.{File, MakeFile}
use Rattle.js_tree.specs.Unmarked.{unmarked_file}
use Rattle.js_tree.specs.Linked.{Counts, Numbers, Marked, Unmarked, after_one, link_file}
use Rattle.js_tree.specs.Entered.{PlacedMark, entered_file, times_placed}
use Rattle.js_tree.proofs.Unmarked.{unmarks_linked}
use Rattle.js_walk.specs.Constructs.{constructs_file}
use Rattle.js_meaning.specs.Program.{from}
use Rattle.js_meaning.specs.Counted.{kind_of, paths_from, marks_of, numbered, MarksConstructs}
use Rattle.js_suits.specs.Laws.{IsConstruct}
use Rattle.js_suits.proofs.Suited.{Each, nil, cons}
use Rattle.js_suits.proofs.Bare.{both, bare_stmts}

itself : (m : Mark) → is_mark m m ≡ true
itself m = by m.kind m.number m.path m.file
  where
    eq : (n : ℕ) → nat_eq n n ≡ true
    eq n = grind (arith, nat_tests)

    kinds : (k : ConstructKind) → same_kind k k ≡ true
    kinds construct_kind.Statement = refl
    kinds construct_kind.Function = refl
    kinds construct_kind.Branch = refl

    by : (k : ConstructKind) (n i f : ℕ) → (same_kind k k && (nat_eq n n && (nat_eq i i && nat_eq f f))) ≡ true
    by k n i f = ap (λ b. b && (nat_eq n n && (nat_eq i i && nat_eq f f))) (kinds k) ∙ ap (λ b. b && (nat_eq i i && nat_eq f f)) (eq n) ∙ ap (λ b. b && nat_eq f f) (eq i) ∙ eq f

-- each mark of a list is as often in it as once
pub each_mark : (Q : Mark → Type 0) (xs : List PlacedMark) → ((m : Mark) → 1 ≤ times_placed m xs → Q m) → Each (λ p. Q p.mark) xs
each_mark Q [] h = nil
each_mark Q (x ∷ xs) h =
    cons (h x.mark (let e = ap one_if (itself x.mark) in omega (arith, e)))
    (each_mark Q xs (λ m l. h m (omega (arith, l))))

same_file : (m n : Mark) → is_mark m n ≡ true → m.file ≡ n.file
same_file m n h =
    let a = and_parts (same_kind m.kind n.kind) (nat_eq m.number n.number && (nat_eq m.path n.path && nat_eq m.file n.file)) h in
    let b = and_parts (nat_eq m.number n.number) (nat_eq m.path n.path && nat_eq m.file n.file) a.1 in
    let c = and_parts (nat_eq m.path n.path) (nat_eq m.file n.file) b.1 in
    let e = c.1 in grind (arith, nat_tests, e)

module _ (file : ℕ) where
  abbrev There : PlacedMark → Type 0
  There p = p.mark.file ≡ file

  of_file : (m : Mark) (xs : List PlacedMark) → Each There xs → 1 ≤ times_placed m xs → m.file ≡ file
  of_file m [] a h = absurd (omega (arith, h))
  of_file m (x ∷ xs) (cons e a) h = by (is_mark m x.mark) refl (of_file m xs a)
    where
      by : (b : Bool) → is_mark m x.mark ≡ b → (1 ≤ times_placed m xs → m.file ≡ file) → m.file ≡ file
      by true t r = same_file m x.mark t ∙ e
      by false t r = r (let z = ap one_if t in omega (arith, z, h))

  paths_there : (number path : ℕ) (places : List (Option Loc)) → Each There (paths_from file number path places)
  paths_there number path [] = nil
  paths_there number path (x ∷ xs) = cons refl (paths_there number (suc path) xs)

  marks_there : (c : Counts) (x : Construct) → Each There (marks_of file c x)
  marks_there c (construct.Statement loc) = cons refl nil
  marks_there c (construct.Function name declared body) = cons refl nil
  marks_there c (construct.Branch kind loc paths) = paths_there c.branches 0 paths

  numbered_there : (c : Counts) (xs : List Construct) → Each There (numbered file c xs)
  numbered_there c [] = nil
  numbered_there c (x ∷ xs) = both _ _ (marks_there c x) (numbered_there (after_one (kind_of x) c) xs)

  -- what holds of the marks of its constructs
  pub counted_marks : MarksConstructs → (Q : Mark → Type 0) (tree : File) (code : ℕ) → ((m : Mark) → m.file ≡ file → IsConstruct file tree m → Q m) →
      Each (λ p. Q p.mark) (entered_file (link_file (Marked file) tree (from code)).tree)
  counted_marks marks_constructs Q tree code h =
      each_mark Q (entered_file (link_file (Marked file) tree (from code)).tree)
      (λ m l. let e = marks_constructs file tree (from code) m in
      let k : IsConstruct file tree m = omega (arith, e, l) in
      h m (of_file m (numbered file (from 0).counts (constructs_file (unmarked_file tree))) (numbered_there (from 0).counts (constructs_file (unmarked_file tree))) k) k)

-- and a construct's mark is of the file
pub construct_there : (file : ℕ) (tree : File) (m : Mark) → IsConstruct file tree m → m.file ≡ file
construct_there file tree m h = of_file file m (numbered file (from 0).counts (constructs_file (unmarked_file tree))) (numbered_there file (from 0).counts (constructs_file (unmarked_file tree))) h

pub no_marks : (P : PlacedMark → Type 0) (tree : File) (k : Numbers) → Each P (entered_file (link_file Unmarked tree k).tree)
no_marks P tree k = subst (λ t. Each P (entered_file t)) (unmarks_linked Unmarked tree k k refl).0 (bare P (link_file Unmarked tree k).tree)
  where
    bare : (P : PlacedMark → Type 0) (t : File) → Each P (entered_file (unmarked_file t))
    bare P (MakeFile xs comments) = bare_stmts P xs
