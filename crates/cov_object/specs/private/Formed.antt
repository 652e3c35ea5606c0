-- What is true of every coverage by the types that it is made of, for private clauses.
use Rattle.std.specs.Prelude.{ℕ, ◌^◌, ◌<◌, List, [], ◌∷◌, Option, Some, None, IfSome, IsUtf8}
use Rattle.cov_object.specs.Numbered.{Ascends}
use Rattle.cov_object.specs.SourceMapText.{IsSourceMap}
use Rattle.cov_object.specs.declared.location.Position.{Position}
use Rattle.cov_object.specs.declared.location.Location.{Location}
use Rattle.cov_object.specs.declared.file.StatementCoverage.{StatementCoverage}
use Rattle.cov_object.specs.declared.file.FunctionCoverage.{FunctionCoverage}
use Rattle.cov_object.specs.declared.file.PathCoverage.{PathCoverage}
use Rattle.cov_object.specs.Branch.{BranchCoverage, IsSettled}
use Rattle.cov_object.specs.declared.file.FileCoverage.{FileCoverage}

-- a place's numbers are in range
abbrev pub IsPlace : Option Position → Type 0
IsPlace None = Unit {0}
IsPlace (Some place) = (0 < place.line) × (place.line < 2 ^ 32) × IfSome place.column (λ column. column < 2 ^ 32)

abbrev pub IsLocated : Location → Type 0
IsLocated location = IsPlace location.start × IsPlace location.end

abbrev pub IsStatement : StatementCoverage → Type 0
IsStatement statement = IsLocated statement.location × (statement.count < 2 ^ 53)

abbrev pub IsFunction : FunctionCoverage → Type 0
IsFunction function = IsLocated function.declaration × IsLocated function.location × (function.count < 2 ^ 53) × IsUtf8 function.name

abbrev pub ArePaths : List PathCoverage → Type 0
ArePaths [] = Unit {0}
ArePaths (path ∷ paths) = (IsLocated path.location × (path.count < 2 ^ 53)) × ArePaths paths

abbrev pub IsBranch : BranchCoverage → Type 0
IsBranch branch = IsLocated branch.location × ArePaths branch.paths × IsUtf8 branch.kind × IsSettled branch

-- each thing is so
abbrev pub EachThing : {T : Type 0} → (T → Type 0) → List (ℕ × T) → Type 0
EachThing P [] = Unit {0}
EachThing P (thing ∷ things) = P thing.1 × EachThing P things

pub record IsFormed (file : FileCoverage) : Type 0 where
  pub statements : EachThing IsStatement file.statements
  pub functions : EachThing IsFunction file.functions
  pub branches : EachThing IsBranch file.branches
  pub statements_ascend : Ascends file.statements
  pub functions_ascend : Ascends file.functions
  pub branches_ascend : Ascends file.branches
  pub path_text : IsUtf8 file.path
  pub hash_text : IfSome file.hash IsUtf8
  pub source_map : IfSome file.input_source_map (λ text. IsSourceMap text × IsUtf8 text)

abbrev pub AreFormed : List FileCoverage → Type 0
AreFormed [] = Unit {0}
AreFormed (file ∷ files) = IsFormed file × AreFormed files
