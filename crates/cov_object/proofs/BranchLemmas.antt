-- A branch that is settled stays so.
use Rattle.std.proofs.Common.{◌≡◌, ℕ, Bool, true, false, cond, bytes_eq, codes, List, [], ◌∷◌, refl, ap}
use Rattle.cov_object.specs.declared.location.Location.{Location}
use Rattle.cov_object.specs.declared.file.PathCoverage.{PathCoverage}
use Rattle.cov_object.specs.Location.{nowhere, same_location}
use Rattle.cov_object.specs.Branch.{BranchCoverage, else_path, if_paths, settled, IsSettled}

nowhere-by : (is_same : Bool) → cond is_same nowhere nowhere ≡ nowhere
nowhere-by true = refl
nowhere-by false = refl

place-by : (is_same : Bool) (location place : Location) → same_location place location ≡ is_same →
    cond (same_location (cond is_same nowhere place) location) nowhere (cond is_same nowhere place) ≡ cond is_same nowhere place
place-by true location place e = nowhere-by (same_location nowhere location)
place-by false location place e = ap (λ b. cond b nowhere place) e

else-again : (location : Location) (path : PathCoverage) → else_path location (else_path location path) ≡ else_path location path
else-again location path =
    ap (λ place. record { location = place; count = path.count }) (place-by (same_location path.location location) location path.location refl)

if-again : (location : Location) (paths : List PathCoverage) → if_paths location (if_paths location paths) ≡ if_paths location paths
if-again location [] = refl
if-again location (first ∷ []) = refl
if-again location (first ∷ second ∷ []) = ap (λ path. first ∷ path ∷ []) (else-again location second)
if-again location (first ∷ second ∷ third ∷ paths) = refl

-- the paths of a branch of this kind
abbrev paths_by : Bool → Location → List PathCoverage → List PathCoverage
paths_by is_if location paths = cond is_if (if_paths location paths) paths

again-by : (is_if : Bool) (location : Location) (paths : List PathCoverage) → paths_by is_if location (paths_by is_if location paths) ≡ paths_by is_if location paths
again-by true location paths = if-again location paths
again-by false location paths = refl

pub settled-again : (branch : BranchCoverage) → IsSettled (settled branch)
settled-again branch =
    ap (λ paths. record { kind = branch.kind; location = branch.location; paths = paths }) (again-by (bytes_eq branch.kind (codes "if")) branch.location branch.paths)

-- without paths nothing is to be settled
empty-by : (is_if : Bool) (location : Location) → paths_by is_if location [] ≡ []
empty-by true location = refl
empty-by false location = refl

pub settled-empty : (kind : List ℕ) (location : Location) → IsSettled (record { kind = kind; location = location; paths = [] })
settled-empty kind location = ap (λ paths. record { kind = kind; location = location; paths = paths }) (empty-by (bytes_eq kind (codes "if")) location)
