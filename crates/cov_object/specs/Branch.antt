-- A branch, as contracts see it. Older makers wrote the place of the whole `if` as that of an `else` that is missing; here it stands nowhere.
use Rattle.std.specs.Prelude.{◌≡◌, ℕ, List, [], ◌∷◌, bytes_eq, if◌then◌else◌, codes}
use Rattle.cov_object.specs.declared.location.Location.{Location}
use Rattle.cov_object.specs.declared.file.PathCoverage.{PathCoverage}
use Rattle.cov_object.specs.Location.{nowhere, same_location}

pub record BranchCoverage : Type 0 where
  -- what kind of branch it is, as `if` or `switch`
  pub kind : List ℕ
  -- where it stands
  pub location : Location
  -- its paths, in the order in which they stand
  pub paths : List PathCoverage

-- the `else` of an `if` that stands here: nowhere, where it is told to stand where the whole `if` does
abbrev pub else_path : Location → PathCoverage → PathCoverage
else_path location path = record { location = if same_location path.location location then nowhere else path.location; count = path.count }

-- the paths of an `if`: where there are two, the second is its `else`
abbrev pub if_paths : Location → List PathCoverage → List PathCoverage
if_paths location [] = []
if_paths location (then_path ∷ []) = then_path ∷ []
if_paths location (then_path ∷ second ∷ []) = then_path ∷ else_path location second ∷ []
if_paths location (first ∷ second ∷ third ∷ paths) = first ∷ second ∷ third ∷ paths

abbrev pub settled_paths : List ℕ → Location → List PathCoverage → List PathCoverage
settled_paths kind location paths = if bytes_eq kind (codes "if") then if_paths location paths else paths

-- the branch with its `else` nowhere, if it is missing
abbrev pub settled : BranchCoverage → BranchCoverage
settled branch = record { kind = branch.kind; location = branch.location; paths = settled_paths branch.kind branch.location branch.paths }

-- every branch is so
abbrev pub IsSettled : BranchCoverage → Type 0
IsSettled branch = settled branch ≡ branch
