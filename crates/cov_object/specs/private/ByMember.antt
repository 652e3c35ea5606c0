-- What is kept of a file's members as they are read one after another, and the file that this tells, for private clauses.
use Rattle.std.specs.Prelude.{ℕ, ◌+◌, ◌==◌, List, [], ◌∷◌, length, map, Bool, true, false, bytes_eq, if◌then◌else◌, Option, Some, None, option_map, option_and_then, Result, Ok, Err, codes}
use Rattle.std.specs.Ordering.{nat_cmp}
use Rattle.std.specs.BTreeMap.{insert_entry}
use Rattle.json.specs.Token.{Token}
use Rattle.serde_json.specs.Data.{Data, Items, no_items, item, Members}
use Rattle.serde_json.specs.Find.{get, as_str, as_array, as_object}
use Rattle.cov_object.specs.Branch.{BranchCoverage}
use Rattle.cov_object.specs.declared.fault.CoverageFault.{CoverageFault}
use Rattle.cov_object.specs.declared.fault.CoverageFault.TheVariants as fault
use Rattle.cov_object.specs.declared.file.StatementCoverage.{StatementCoverage}
use Rattle.cov_object.specs.declared.file.FunctionCoverage.{FunctionCoverage}
use Rattle.cov_object.specs.declared.file.PathCoverage.{PathCoverage}
use Rattle.cov_object.specs.declared.file.FileCoverage.{FileCoverage}
use Rattle.cov_object.specs.declared.parts.FileParts.{FileParts}
use Rattle.cov_object.specs.declared.parts.MapParts.{MapParts}
use Rattle.cov_object.specs.Read.{count_of, statement_of, function_of, branch_of, statement_with, function_with, branch_with, path_with, id_of, by_id, with_described, after, text_or_fault, source_map_text_of, map_text_or_fault}

-- ---- what follows a value

-- the tokens that are left after what was read
abbrev pub left : {A : Type 0} → Option (A × List Token) → Option (List Token)
left read = option_map (λ found. found.1) read

-- ---- a map of a file, entry by entry

-- what is kept of each entry, beside its id
abbrev pub kept : {E : Type 0} → (Data → E) → List (ℕ × Data) → List (ℕ × E)
kept tell entries = map (λ entry. (entry.0, tell entry.1)) entries

-- of an object's members; none where a key writes no id
abbrev pub entries_kept : {E : Type 0} → (Data → E) → Members → Option (List (ℕ × E))
entries_kept tell members = option_map (kept tell) (by_id members [])

-- of a value; none where it is no object
abbrev pub value_kept : {E : Type 0} → (Data → E) → Data → Option (List (ℕ × E))
value_kept tell value = option_and_then (entries_kept tell) (as_object value)

-- with one entry more, under the id that its key writes
abbrev pub with_entry : {E : Type 0} → List ℕ → E → Option (List (ℕ × E)) → Option (List (ℕ × E))
with_entry key entry entries = option_and_then (λ id. option_map (λ found. insert_entry nat_cmp found id entry) entries) (id_of key)

-- the things that entries tell; none where one of them tells none
abbrev pub all_told : {T : Type 0} → List (ℕ × Option T) → Option (List (ℕ × T))
all_told [] = Some []
all_told (entry ∷ rest) = option_and_then (λ thing. option_map (λ things. (entry.0, thing) ∷ things) (all_told rest)) entry.1

-- ---- counts

-- any count fits
abbrev pub fits_any : {T : Type 0} → T → Option ℕ → Bool
fits_any thing count = true

-- a count for each path, and which of them are none
abbrev pub counts_of : Items → List (Option ℕ)
counts_of no_items = []
counts_of (item value rest) = count_of value ∷ counts_of rest

-- none where the value is no list
abbrev pub path_counts_of : Data → Option (List (Option ℕ))
path_counts_of value = option_map counts_of (as_array value)

abbrev pub paths_fit : BranchCoverage → Option (List (Option ℕ)) → Bool
paths_fit branch None = false
paths_fit branch (Some counts) = length counts == length branch.paths

-- the paths from this place on
abbrev pub paths_with : ℕ → List PathCoverage → List (Option ℕ) → Result (List PathCoverage) ℕ
paths_with place [] counts = Ok []
paths_with place (path ∷ paths) [] = Ok []
paths_with place (path ∷ paths) (count ∷ counts) = path_with place path count (paths_with (place + 1) paths counts)

abbrev pub counts_in : Option (List (Option ℕ)) → List (Option ℕ)
counts_in (Some counts) = counts
counts_in None = []

abbrev pub branch_kept : BranchCoverage → Option (List (Option ℕ)) → Result BranchCoverage (Option ℕ)
branch_kept branch counts = branch_with branch (paths_with 0 branch.paths (counts_in counts))

-- ---- the members of a file

-- whether a text is the key
abbrev pub is_key : List ℕ → Option (List ℕ) → Bool
is_key key None = false
is_key key (Some text) = bytes_eq text key

-- what is kept of no members
abbrev pub no_maps : MapParts
no_maps = record { statement_map = None; statement_counts = None; function_map = None; function_counts = None; branch_map = None; branch_counts = None }

abbrev pub no_parts : FileParts
no_parts = record { has_path = false; maps = no_maps; hash = None; source_map = None }

-- what is kept of a file's value
abbrev pub maps_of : Data → MapParts
maps_of value = record {
  statement_map = option_and_then (value_kept statement_of) (get (codes "statementMap") value);
  statement_counts = option_and_then (value_kept count_of) (get (codes "s") value);
  function_map = option_and_then (value_kept function_of) (get (codes "fnMap") value);
  function_counts = option_and_then (value_kept count_of) (get (codes "f") value);
  branch_map = option_and_then (value_kept branch_of) (get (codes "branchMap") value);
  branch_counts = option_and_then (value_kept path_counts_of) (get (codes "b") value);
}

abbrev pub parts_of : List ℕ → Data → FileParts
parts_of key value = record {
  has_path = is_key key (option_and_then as_str (get (codes "path") value));
  maps = maps_of value;
  hash = option_map as_str (get (codes "hash") value);
  source_map = option_map source_map_text_of (get (codes "inputSourceMap") value);
}

-- with one member more, which counts in the place of an earlier one of its name
abbrev pub maps_with : List ℕ → Data → MapParts → MapParts
maps_with name value maps = record {
  statement_map = if bytes_eq name (codes "statementMap") then value_kept statement_of value else maps.statement_map;
  statement_counts = if bytes_eq name (codes "s") then value_kept count_of value else maps.statement_counts;
  function_map = if bytes_eq name (codes "fnMap") then value_kept function_of value else maps.function_map;
  function_counts = if bytes_eq name (codes "f") then value_kept count_of value else maps.function_counts;
  branch_map = if bytes_eq name (codes "branchMap") then value_kept branch_of value else maps.branch_map;
  branch_counts = if bytes_eq name (codes "b") then value_kept path_counts_of value else maps.branch_counts;
}

abbrev pub with_member : List ℕ → List ℕ → Data → FileParts → FileParts
with_member key name value parts = record {
  has_path = if bytes_eq name (codes "path") then is_key key (as_str value) else parts.has_path;
  maps = maps_with name value parts.maps;
  hash = if bytes_eq name (codes "hash") then Some (as_str value) else parts.hash;
  source_map = if bytes_eq name (codes "inputSourceMap") then Some (source_map_text_of value) else parts.source_map;
}

-- ---- the file that this tells

abbrev pub path_told : List ℕ → Bool → Result (List ℕ) CoverageFault
path_told key has_path = if has_path then Ok key else Err (fault.BadMember key (codes "path"))

abbrev pub things_told : {T C : Type 0} → List ℕ → List ℕ → List ℕ → (T → C → Bool) → (T → C → Result T (Option ℕ)) → Option (List (ℕ × Option T)) → Option (List (ℕ × C)) →
    Result (List (ℕ × T)) CoverageFault
things_told path descriptions counts fits with_counts things values = with_described path descriptions counts fits with_counts (option_and_then all_told things) values

abbrev pub statements_told : List ℕ → MapParts → Result (List (ℕ × StatementCoverage)) CoverageFault
statements_told path maps = things_told path (codes "statementMap") (codes "s") fits_any statement_with maps.statement_map maps.statement_counts

abbrev pub functions_told : List ℕ → MapParts → Result (List (ℕ × FunctionCoverage)) CoverageFault
functions_told path maps = things_told path (codes "fnMap") (codes "f") fits_any function_with maps.function_map maps.function_counts

abbrev pub branches_told : List ℕ → MapParts → Result (List (ℕ × BranchCoverage)) CoverageFault
branches_told path maps = things_told path (codes "branchMap") (codes "b") paths_fit branch_kept maps.branch_map maps.branch_counts

abbrev pub numbered_told : List ℕ → MapParts → Result (List (ℕ × StatementCoverage) × List (ℕ × FunctionCoverage) × List (ℕ × BranchCoverage)) CoverageFault
numbered_told path maps =
    after (statements_told path maps) (λ statements.
    after (functions_told path maps) (λ functions.
    after (branches_told path maps) (λ branches.
    Ok (statements, functions, branches))))

abbrev pub hash_told : List ℕ → Option (Option (List ℕ)) → Result (Option (List ℕ)) CoverageFault
hash_told path None = Ok None
hash_told path (Some hash) = text_or_fault path hash

abbrev pub source_map_told : List ℕ → Option (Option (List ℕ)) → Result (Option (List ℕ)) CoverageFault
source_map_told path None = Ok None
source_map_told path (Some text) = map_text_or_fault path text

abbrev pub origin_told : List ℕ → Option (Option (List ℕ)) → Option (Option (List ℕ)) → Result (Option (List ℕ) × Option (List ℕ)) CoverageFault
origin_told path hash source_map =
    after (hash_told path hash) (λ hash.
    after (source_map_told path source_map) (λ source_map.
    Ok (hash, source_map)))

abbrev pub file_told : List ℕ → FileParts → Result FileCoverage CoverageFault
file_told key parts =
    after (path_told key parts.has_path) (λ path.
    after (numbered_told path parts.maps) (λ numbered.
    after (origin_told path parts.hash parts.source_map) (λ origin.
    Ok (record {
      path = path;
      hash = origin.0;
      input_source_map = origin.1;
      statements = numbered.0;
      functions = numbered.1;
      branches = numbered.2;
    }))))
