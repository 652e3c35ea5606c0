-- A branch stays settled with other counts, if there is one for each path.
use Rattle.std.proofs.Common.{◌≡◌, ℕ, Bool, true, false, cond, bytes_eq, codes, List, [], ◌∷◌, length, refl, ap, arith}
use Rattle.cov_object.specs.declared.location.Location.{Location}
use Rattle.cov_object.specs.declared.file.PathCoverage.{PathCoverage}
use Rattle.cov_object.specs.Branch.{BranchCoverage, if_paths, settled, IsSettled}
use Rattle.cov_merge.specs.Kinds.{branches, paths_with}
use Rattle.cov_merge.proofs.SumsLemmas.{counts_of}

-- where the second path stands
abbrev second_location : Location → List PathCoverage → Location
second_location other [] = other
second_location other (path ∷ []) = other
second_location other (path ∷ second ∷ paths) = second.location

abbrev with : PathCoverage → ℕ → PathCoverage
with path count = record { location = path.location; count = count }

if-counted : (location : Location) (paths : List PathCoverage) (counts : List ℕ) → if_paths location paths ≡ paths → length counts ≡ length (counts_of paths) →
    if_paths location (paths_with paths counts) ≡ paths_with paths counts
if-counted location [] counts is long = refl
if-counted location (path ∷ []) [] is long = refl
if-counted location (path ∷ []) (count ∷ counts) is long = refl
if-counted location (path ∷ second ∷ []) [] is long = refl
if-counted location (path ∷ second ∷ []) (count ∷ []) is long = refl
if-counted location (path ∷ second ∷ []) (count ∷ other ∷ counts) is long =
    ap (λ l. with path count ∷ record { location = l; count = other } ∷ []) (ap (second_location location) is)
if-counted location (path ∷ second ∷ third ∷ paths) [] is long = refl
if-counted location (path ∷ second ∷ third ∷ paths) (count ∷ []) is long = refl
if-counted location (path ∷ second ∷ third ∷ paths) (count ∷ other ∷ []) is long = absurd (omega arith)
if-counted location (path ∷ second ∷ third ∷ paths) (count ∷ other ∷ more ∷ counts) is long = refl

counted-by : (is_if : Bool) (location : Location) (paths : List PathCoverage) (counts : List ℕ) → cond is_if (if_paths location paths) paths ≡ paths → length counts ≡ length (counts_of paths) →
    cond is_if (if_paths location (paths_with paths counts)) (paths_with paths counts) ≡ paths_with paths counts
counted-by true location paths counts is long = if-counted location paths counts is long
counted-by false location paths counts is long = refl

pub counted-settled : (branch : BranchCoverage) (counts : List ℕ) → IsSettled branch → length counts ≡ length (branches.counts branch) →
    settled (branches.with_counts branch counts) ≡ branches.with_counts branch counts
counted-settled branch counts is long =
    ap (λ paths. record { kind = branch.kind; location = branch.location; paths = paths })
    (counted-by (bytes_eq branch.kind (codes "if")) branch.location branch.paths counts (ap (λ (b : BranchCoverage). b.paths) is) long)
