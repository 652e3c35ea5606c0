-- The JSON of a coverage map: an object from each file's path to its FileCoverage, as Istanbul names its members.
use Rattle.std.specs.Prelude.{ℕ, Bool, true, List, [], ◌∷◌, map, fold, Option, Some, None, codes, decimal}
use Rattle.std.specs.List.{flat_map}
use Rattle.serde_json.specs.Data.{Data, null, number, unsigned, string, array, object, Members, no_members, put}
use Rattle.serde_json.specs.Written.{compact_text}
use Rattle.serde_json.specs.View.{items_of}
use Rattle.cov_object.specs.SourceMapText.{data_of}
use Rattle.cov_object.specs.private.Piece.{member_text}
use Rattle.cov_object.specs.declared.location.Position.{Position}
use Rattle.cov_object.specs.declared.location.Location.{Location}
use Rattle.cov_object.specs.declared.file.StatementCoverage.{StatementCoverage}
use Rattle.cov_object.specs.declared.file.FunctionCoverage.{FunctionCoverage}
use Rattle.cov_object.specs.Branch.{BranchCoverage}
use Rattle.cov_object.specs.declared.file.FileCoverage.{FileCoverage}

-- the members in the order of their keys' bytes
abbrev pub by_key : List (List ℕ × Data) → Members
by_key members = fold (λ placed entry. put entry.0 entry.1 placed) no_members members

-- an object of these members
abbrev pub object_of : List (List ℕ × Data) → Data
object_of members = object (by_key members)

-- an object of these things, each under its id in decimal
abbrev pub numbered : {T : Type 0} → (T → Data) → List (ℕ × T) → Data
numbered f things = object_of (map (λ thing. (decimal thing.0, f thing.1)) things)

-- a whole number from 0
abbrev pub count_data : ℕ → Data
count_data count = number (unsigned count)

-- a column, or null for the line's end
abbrev pub column_data : Option ℕ → Data
column_data (Some column) = count_data column
column_data None = null

-- a place by its line and its column, or the empty object for no place
abbrev pub position_data : Option Position → Data
position_data (Some place) = object_of (
    (codes "line", count_data place.line)
    ∷ (codes "column", column_data place.column)
    ∷ [])
position_data None = object_of []

-- a part of a file: where it starts and where it ends
abbrev pub location_data : Location → Data
location_data location = object_of (
    (codes "start", position_data location.start)
    ∷ (codes "end", position_data location.end)
    ∷ [])

-- what a function is, without its count
abbrev pub function_data : FunctionCoverage → Data
function_data function = object_of (
    (codes "name", string function.name)
    ∷ (codes "decl", location_data function.declaration)
    ∷ (codes "loc", location_data function.location)
    ∷ [])

-- what a branch is, without its counts
abbrev pub branch_data : BranchCoverage → Data
branch_data branch = object_of (
    (codes "loc", location_data branch.location)
    ∷ (codes "type", string branch.kind)
    ∷ (codes "locations", array (items_of (map (λ path. location_data path.location) branch.paths)))
    ∷ [])

-- the counts of a branch's paths
abbrev pub path_counts_data : BranchCoverage → Data
path_counts_data branch = array (items_of (map (λ path. count_data path.count) branch.paths))

-- the places of a file's statements, and the counts of each
abbrev pub statements_data : List (ℕ × StatementCoverage) → Data
statements_data statements = numbered (λ statement. location_data statement.location) statements

abbrev pub statement_counts_data : List (ℕ × StatementCoverage) → Data
statement_counts_data statements = numbered (λ statement. count_data statement.count) statements

-- a file's functions, and the counts of each
abbrev pub functions_data : List (ℕ × FunctionCoverage) → Data
functions_data functions = numbered function_data functions

abbrev pub function_counts_data : List (ℕ × FunctionCoverage) → Data
function_counts_data functions = numbered (λ function. count_data function.count) functions

-- a file's branches, and the counts of each one's paths
abbrev pub branches_data : List (ℕ × BranchCoverage) → Data
branches_data branches = numbered branch_data branches

abbrev pub branch_counts_data : List (ℕ × BranchCoverage) → Data
branch_counts_data branches = numbered path_counts_data branches

-- the members of a file, with its hash where it has one
abbrev pub with_hash : Option (List ℕ) → Members → Members
with_hash (Some hash) members = put (codes "hash") (string hash) members
with_hash None members = members

-- the same with its source map
abbrev pub with_source_map : Option (List ℕ) → Members → Members
with_source_map (Some text) members = put (codes "inputSourceMap") (data_of text) members
with_source_map None members = members

-- the coverage of one file
abbrev pub file_data : FileCoverage → Data
file_data file = object (with_source_map file.input_source_map (with_hash file.hash (by_key (
    (codes "path", string file.path)
    ∷ (codes "statementMap", statements_data file.statements)
    ∷ (codes "s", statement_counts_data file.statements)
    ∷ (codes "fnMap", functions_data file.functions)
    ∷ (codes "f", function_counts_data file.functions)
    ∷ (codes "branchMap", branches_data file.branches)
    ∷ (codes "b", branch_counts_data file.branches)
    ∷ []))))

-- an object of these files, each under its path
abbrev pub files_data : List FileCoverage → Data
files_data files = object_of (map (λ file. (file.path, file_data file)) files)

-- its text, with no space
abbrev pub json_text : List FileCoverage → List ℕ
json_text files = compact_text (files_data files)

-- a file's member in it, after others where there are some
abbrev pub file_member : Bool → FileCoverage → List ℕ
file_member later file = member_text later file.path (file_data file)

-- the members of files after another
abbrev pub later_members : List FileCoverage → List ℕ
later_members files = flat_map (file_member true) files
