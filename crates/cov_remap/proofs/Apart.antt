-- A merged map has one file at each path.
use Rattle.std.proofs.Common.{◌≡◌, ℕ, nat_eq, Bool, true, false, cond, is_eq, List, [], ◌∷◌, map, Result, Ok, Err, refl, sym, ap, ◌∙◌, subst}
use Rattle.std.specs.Ordering.{nat_cmp, match_ordering, ordering_reverse}
use Rattle.std.specs.declared.cmp.Ordering.{Ordering}
use Rattle.std.specs.declared.cmp.Ordering.TheVariants.{Less, Equal, Greater}
use Rattle.std.specs.Cmp.{Equal-is, unsigned_tied}
use Rattle.std.specs.Cmp.Lexicographic.{slice_cmp}
use Rattle.std.specs.List.{AllByRecursion}
use Rattle.std.specs.List.Sorted.{IsStrictlySortedBy}
use Rattle.std.proofs.lemmas.Cmp.{nat_list_cmp_total}
use Rattle.std.proofs.lemmas.Map.Lookups.{exact_bytes}
use Rattle.cov_object.specs.declared.file.FileCoverage.{FileCoverage}
use Rattle.cov_object.specs.Files.{placed}
use Rattle.cov_merge.specs.declared.fault.MergeFault.{MergeFault}
use Rattle.cov_merge.specs.Answer.{and_then}
use Rattle.cov_merge.specs.Same.{same_text}
use Rattle.cov_merge.specs.Files.{merged_file}
use Rattle.cov_merge.specs.Maps.{by_path, merged_groups, merged}
use Rattle.cov_merge.specs.Laws.{with_path}
use Rattle.cov_merge.specs.private.Orders.{list_tells}

abbrev Files : Type 0
Files = List FileCoverage

abbrev order : List ℕ → List ℕ → Ordering
order a b = slice_cmp nat_cmp a b

abbrev paths_of : Files → List (List ℕ)
paths_of files = map (λ file. file.path) files

abbrev Ascend : Files → Type 0
Ascend files = IsStrictlySortedBy (slice_cmp nat_cmp) (paths_of files)

abbrev AllAfter : List ℕ → Files → Type 0
AllAfter path files = AllByRecursion (λ y. order path y ≡ Less) (paths_of files)

back : (a b : List ℕ) (o : Ordering) → order a b ≡ o → order b a ≡ ordering_reverse o
back a b o e = nat_list_cmp_total.antisymm b a ∙ ap ordering_reverse e

all-above : (a b : List ℕ) (files : Files) → order a b ≡ Less → AllAfter b files → AllAfter a files
all-above a b [] less all = tt
all-above a b (file ∷ files) less all = (nat_list_cmp_total.trans a b file.path less all.0, all-above a b files less all.1)

after-by : (o : Ordering) (k : List ℕ) (file other : FileCoverage) (rest : Files) → AllAfter k (other ∷ rest) → order k file.path ≡ Less → AllAfter k (placed file rest) →
    AllAfter k (match_ordering o (file ∷ other ∷ rest) (file ∷ rest) (other ∷ placed file rest))
after-by Less k file other rest all own later = (own, all)
after-by Equal k file other rest all own later = (own, all.1)
after-by Greater k file other rest all own later = (all.0, later)

after-placed : (k : List ℕ) (file : FileCoverage) (files : Files) → AllAfter k files → order k file.path ≡ Less → AllAfter k (placed file files)
after-placed k file [] all own = (own, tt)
after-placed k file (other ∷ rest) all own = after-by (order file.path other.path) k file other rest all own (after-placed k file rest all.1 own)

up-by : (o : Ordering) (file other : FileCoverage) (rest : Files) → order file.path other.path ≡ o → Ascend (other ∷ rest) → Ascend (placed file rest) →
    Ascend (match_ordering o (file ∷ other ∷ rest) (file ∷ rest) (other ∷ placed file rest))
unfolding IsStrictlySortedBy
up-by Less file other rest e up later = ((e, all-above file.path other.path rest e up.0), up)
up-by Equal file other rest e up later = (subst (λ k. AllAfter k rest) (sym (exact_bytes file.path other.path e)) up.0, up.1)
up-by Greater file other rest e up later = (after-placed other.path file rest up.0 (back file.path other.path Greater e), later)

up-placed : (file : FileCoverage) (files : Files) → Ascend files → Ascend (placed file files)
unfolding IsStrictlySortedBy
up-placed file [] up = (tt, tt)
up-placed file (other ∷ rest) up = up-by (order file.path other.path) file other rest refl up (up-placed file rest up.1)

abbrev good : Files → Result Files MergeFault
good files = Ok files

not_good : {G : Type 0} (fault : MergeFault) (sums : Files) → Err fault ≡ good sums → G
not_good fault sums e = cc

same-good : (a b : Files) → good a ≡ good b → a ≡ b
same-good a b e = cc

up-groups-by : (r : Result FileCoverage MergeFault) (so_far : Files) (groups : List (List ℕ × Files)) (sums : Files) → Ascend so_far →
    ((next : Files) → Ascend next → merged_groups next groups ≡ good sums → Ascend sums) → and_then r (λ file. merged_groups (placed file so_far) groups) ≡ good sums → Ascend sums
up-groups-by (Err fault) so_far groups sums up rest ok = not_good fault sums ok
up-groups-by (Ok file) so_far groups sums up rest ok = rest (placed file so_far) (up-placed file so_far up) ok

up-groups : (so_far : Files) (groups : List (List ℕ × Files)) (sums : Files) → Ascend so_far → merged_groups so_far groups ≡ good sums → Ascend sums
up-groups so_far [] sums up ok = subst Ascend (same-good so_far sums ok) up
up-groups so_far (group ∷ groups) sums up ok = up-groups-by (merged_file group.0 group.1) so_far groups sums up (λ next up_next is. up-groups next groups sums up_next is) ok

none-up : Ascend []
unfolding IsStrictlySortedBy
none-up = tt

-- at most one
abbrev pub IsSingle : Files → Type 0
IsSingle [] = Unit {0}
IsSingle (file ∷ []) = Unit {0}
IsSingle (file ∷ other ∷ files) = ⊥

text-is : (a b : List ℕ) → is_eq (order a b) ≡ same_text a b
text-is a b = list_tells nat_cmp nat_eq unsigned_tied a b

none-with : (path : List ℕ) (files : Files) → AllAfter path files → with_path path files ≡ []
none-with path [] all = refl
none-with path (file ∷ files) all =
    ap (λ b. cond b (file ∷ with_path path files) (with_path path files)) (sym (text-is path file.path) ∙ ap is_eq all.0) ∙ none-with path files all.1

single-by : (b : Bool) (path : List ℕ) (file : FileCoverage) (files : Files) → same_text path file.path ≡ b → AllAfter file.path files → IsSingle (with_path path files) →
    IsSingle (cond b (file ∷ with_path path files) (with_path path files))
single-by true path file files e all rest =
    let same : path ≡ file.path = exact_bytes path file.path ((Equal-is (order path file.path)).0 (text-is path file.path ∙ e)) in
    subst (λ w. IsSingle (file ∷ w)) (sym (none-with path files (subst (λ k. AllAfter k files) (sym same) all))) tt
single-by false path file files e all rest = rest

single : (path : List ℕ) (files : Files) → Ascend files → IsSingle (with_path path files)
unfolding IsStrictlySortedBy
single path [] up = tt
single path (file ∷ files) up = single-by (same_text path file.path) path file files refl up.0 (single path files up.1)

pub are_apart : (files sums : Files) → merged files ≡ Ok sums → (path : List ℕ) → IsSingle (with_path path sums)
are_apart files sums ok path = single path sums (up-groups [] (by_path files) sums none-up ok)
