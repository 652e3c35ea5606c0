-- As many sums as counts, for private clauses.
use Rattle.std.specs.Prelude.{◌≡◌, ℕ, ◌&&◌, Bool, true, false, List, [], ◌∷◌, length, map, suc, refl}
use mathlib.Core.Path.{ap}
use Rattle.std.specs.Cmp.Lexicographic.{pointwise}
use Rattle.cov_object.specs.declared.file.PathCoverage.{PathCoverage}
use Rattle.cov_object.specs.Branch.{BranchCoverage}
use Rattle.cov_merge.specs.Kind.{Kind}
use Rattle.cov_merge.specs.Kinds.{branches}
use Rattle.cov_merge.specs.Same.{same_location, same_text}

-- each entry has as many sums as counts
abbrev pub AreLong : {T : Type 0} → Kind T → List (T × List ℕ) → Type 0
AreLong kind [] = Unit {0}
AreLong kind (tally ∷ tallies) = (length tally.1 ≡ length (kind.counts tally.0)) × AreLong kind tallies

-- ---- branches of one key have as many paths

abbrev same_path : PathCoverage → PathCoverage → Bool
same_path p q = same_location p.location q.location

right_true : (a b : Bool) → (a && b) ≡ true → b ≡ true
right_true true b h = h
right_true false b h = cc

paths_long : (paths others : List PathCoverage) → pointwise same_path paths others ≡ true → length (map (λ path. path.count) paths) ≡ length (map (λ path. path.count) others)
paths_long [] [] h = refl
paths_long [] (other ∷ others) h = cc
paths_long (path ∷ paths) [] h = cc
paths_long (path ∷ paths) (other ∷ others) h = ap suc (paths_long paths others (right_true (same_path path other) (pointwise same_path paths others) h))

pub branches_long : (a b : BranchCoverage) → branches.same a b ≡ true → length (branches.counts a) ≡ length (branches.counts b)
branches_long a b h = paths_long a.paths b.paths (right_true (same_location a.location b.location) _ (right_true (same_text a.kind b.kind) _ h))
