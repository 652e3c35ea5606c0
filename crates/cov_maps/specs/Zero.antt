-- The coverage of a file in which nothing has run.
use Rattle.std.specs.Prelude.{ℕ, List, [], ◌∷◌, map, Option, Some, None, codes}
use Rattle.std.specs.List.{enumerate_from}
use Rattle.js_terms.specs.declared.place.Loc.{Loc}
use Rattle.js_terms.specs.declared.construct.BranchKind.{BranchKind}
use Rattle.js_terms.specs.declared.construct.BranchKind.TheVariants as branch_kind
use Rattle.js_terms.specs.declared.construct.Construct.{Construct}
use Rattle.js_terms.specs.declared.construct.Construct.TheVariants as construct
use Rattle.cov_object.specs.Location.{nowhere}
use Rattle.cov_maps.specs.Located.{location_at}
use Rattle.cov_object.specs.declared.location.Location.{Location}
use Rattle.cov_object.specs.declared.file.StatementCoverage.{StatementCoverage}
use Rattle.cov_object.specs.declared.file.FunctionCoverage.{FunctionCoverage}
use Rattle.cov_object.specs.declared.file.PathCoverage.{PathCoverage}
use Rattle.cov_object.specs.Branch.{BranchCoverage, settled}
use Rattle.cov_object.specs.declared.file.FileCoverage.{FileCoverage}

-- how a kind of branch is spelled
abbrev pub spelling_of : BranchKind → List ℕ
spelling_of branch_kind.If = codes "if"
spelling_of branch_kind.Conditional = codes "cond-expr"
spelling_of branch_kind.Switch = codes "switch"
spelling_of branch_kind.Logical = codes "binary-expr"
spelling_of branch_kind.Default = codes "default-arg"

-- where a path stands: nowhere, where it has no place
abbrev pub location_if : Option Loc → Location
location_if None = nowhere
location_if (Some loc) = location_at loc

abbrev pub zero_path : Option Loc → PathCoverage
zero_path path = record { location = location_if path; count = 0 }

-- the statements among the constructs
abbrev pub zero_statements : List Construct → List StatementCoverage
zero_statements [] = []
zero_statements (construct.Statement loc ∷ rest) = record { location = location_at loc; count = 0 } ∷ zero_statements rest
zero_statements (construct.Function _ _ _ ∷ rest) = zero_statements rest
zero_statements (construct.Branch _ _ _ ∷ rest) = zero_statements rest

-- the functions
abbrev pub zero_functions : List Construct → List FunctionCoverage
zero_functions [] = []
zero_functions (construct.Statement _ ∷ rest) = zero_functions rest
zero_functions (construct.Function name decl loc ∷ rest) =
    record { name = name; declaration = location_at decl; location = location_at loc; count = 0 } ∷ zero_functions rest
zero_functions (construct.Branch _ _ _ ∷ rest) = zero_functions rest

-- the branches; no `else` that a text tells has the place of its `if`
abbrev pub zero_branches : List Construct → List BranchCoverage
zero_branches [] = []
zero_branches (construct.Statement _ ∷ rest) = zero_branches rest
zero_branches (construct.Function _ _ _ ∷ rest) = zero_branches rest
zero_branches (construct.Branch kind loc paths ∷ rest) =
    settled (record { kind = spelling_of kind; location = location_at loc; paths = map zero_path paths }) ∷ zero_branches rest

-- the coverage of a file with this path and this hash, of which these are the constructs: each kind is numbered from 0
abbrev pub zero_file : List ℕ → List ℕ → List Construct → FileCoverage
zero_file path hash list = record {
  path = path;
  hash = Some hash;
  input_source_map = None;
  statements = enumerate_from 0 (zero_statements list);
  functions = enumerate_from 0 (zero_functions list);
  branches = enumerate_from 0 (zero_branches list);
}

-- the coverage of a file that was itself made from other sources keeps the text of its source map, where it has one
abbrev pub with_map : Option (List ℕ) → FileCoverage → FileCoverage
with_map text file = record file { input_source_map = text }
