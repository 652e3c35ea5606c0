-- What a text is read to as the JSON of a coverage map: the files, or the fault that comes first as their members are gone through.
-- A member that is not named here is passed over, in every object.
use Rattle.std.specs.Prelude.{ℕ, ◌+◌, ◌*◌, ◌-◌, ◌^◌, List, [], ◌∷◌, ◌++◌, length, Bool, true, false, not, ◌&&◌, ◌==◌, nat_lt, nat_le, bytes_eq, if◌then◌else◌, Option, Some, None, option_map, option_and_then, is_some, Result, Ok, Err, codes, decimal}
use Rattle.std.specs.Char.{is_ascii_digit}
use Rattle.std.specs.Ordering.{nat_cmp}
use Rattle.std.specs.BTreeMap.{insert_entry}
use Rattle.serde_json.specs.Data.{Data, Items, no_items, item, Members, no_members, member}
use Rattle.serde_json.specs.Find.{get, as_null, as_number, as_str, as_array, as_object, as_u64}
use Rattle.serde_json.specs.Written.{compact_text, has_float}
use Rattle.cov_object.specs.JsonText.{json_of}
use Rattle.cov_object.specs.declared.fault.CoverageFault.{CoverageFault}
use Rattle.cov_object.specs.declared.fault.CoverageFault.TheVariants as fault
use Rattle.cov_object.specs.declared.location.Position.{Position}
use Rattle.cov_object.specs.declared.location.Location.{Location}
use Rattle.cov_object.specs.declared.file.StatementCoverage.{StatementCoverage}
use Rattle.cov_object.specs.declared.file.FunctionCoverage.{FunctionCoverage}
use Rattle.cov_object.specs.declared.file.PathCoverage.{PathCoverage}
use Rattle.cov_object.specs.Branch.{BranchCoverage, settled}
use Rattle.cov_object.specs.declared.file.FileCoverage.{FileCoverage}

-- ---- numbers and places

-- a whole number below a bound: one that is written as an integer
abbrev pub whole_below : ℕ → Data → Option ℕ
whole_below bound value = option_and_then (λ n. if nat_lt n bound then Some n else None) (option_and_then as_u64 (as_number value))

-- a line, from 1
abbrev pub line_of : Data → Option ℕ
line_of value = option_and_then (λ n. if nat_lt 0 n then Some n else None) (whole_below (2 ^ 32) value)

-- a column, from 0, or null for the line's end
abbrev pub column_of : Data → Option (Option ℕ)
column_of value = if is_some (as_null value) then Some None else option_map (λ n. Some n) (whole_below (2 ^ 32) value)

-- a place by its line and its column; an object that has neither is no place
abbrev pub place_of : Option Data → Option Data → Option (Option Position)
place_of None None = Some None
place_of None (Some column) = None
place_of (Some line) None = None
place_of (Some line) (Some column) =
    option_and_then (λ l. option_map (λ c. Some (record { line = l; column = c })) (column_of column)) (line_of line)

abbrev pub position_of : Data → Option (Option Position)
position_of value = if is_some (as_object value) then place_of (get (codes "line") value) (get (codes "column") value) else None

abbrev pub position_in : List ℕ → Data → Option (Option Position)
position_in name value = option_and_then position_of (get name value)

abbrev pub location_of : Data → Option Location
location_of value =
    option_and_then (λ start. option_map (λ end. record { start = start; end = end }) (position_in (codes "end") value)) (position_in (codes "start") value)

abbrev pub location_in : List ℕ → Data → Option Location
location_in name value = option_and_then location_of (get name value)

abbrev pub text_in : List ℕ → Data → Option (List ℕ)
text_in name value = option_and_then as_str (get name value)

-- how often something ran
abbrev pub count_of : Data → Option ℕ
count_of value = whole_below (2 ^ 53) value

-- ---- what is described in `statementMap`, `fnMap` and `branchMap`, with every count 0

abbrev pub statement_of : Data → Option StatementCoverage
statement_of value = option_map (λ location. record { location = location; count = 0 }) (location_of value)

-- a location that older makers left out: this one, if it is not told
abbrev pub location_or : Option Location → Option Data → Option Location
location_or untold (Some value) = location_of value
location_or untold None = untold

-- a function; its `decl` is its `loc`, if it is not told
abbrev pub function_of : Data → Option FunctionCoverage
function_of value =
    option_and_then (λ name.
    option_and_then (λ location.
    option_map (λ declaration. record { name = name; declaration = declaration; location = location; count = 0 })
    (location_or (Some location) (get (codes "decl") value))) (location_in (codes "loc") value)) (text_in (codes "name") value)

abbrev pub paths_of : Items → Option (List PathCoverage)
paths_of no_items = Some []
paths_of (item value rest) =
    option_and_then (λ location. option_map (λ paths. record { location = location; count = 0 } ∷ paths) (paths_of rest)) (location_of value)

-- the end of the last of these paths, or else this one
abbrev pub last_end : Option Position → List PathCoverage → Option Position
last_end end [] = end
last_end end (path ∷ paths) = last_end path.location.end paths

-- from the start of the first path to the end of the last one
abbrev pub span : List PathCoverage → Option Location
span [] = None
span (path ∷ paths) = Some (record { start = path.location.start; end = last_end path.location.end paths })

-- a branch; its `loc` goes over all of its locations, if it is not told
abbrev pub branch_of : Data → Option BranchCoverage
branch_of value =
    option_and_then (λ kind.
    option_and_then (λ paths.
    option_map (λ location. settled (record { kind = kind; location = location; paths = paths }))
    (location_or (span paths) (get (codes "loc") value)))
    (option_and_then paths_of (option_and_then as_array (get (codes "locations") value)))) (text_in (codes "type") value)

-- ---- what `s`, `f` and `b` have: whether it is of the right shape, and the thing with its counts
-- An error says which count is none: `None` the thing's own, `Some` that of one of its paths.

-- a count of any form is looked at later
abbrev pub fits_always : {T : Type 0} → T → Data → Bool
fits_always thing value = true

abbrev pub statement_with : StatementCoverage → Option ℕ → Result StatementCoverage (Option ℕ)
statement_with statement (Some n) = Ok (record { location = statement.location; count = n })
statement_with statement None = Err None

abbrev pub statement_counted : StatementCoverage → Data → Result StatementCoverage (Option ℕ)
statement_counted statement value = statement_with statement (count_of value)

abbrev pub function_with : FunctionCoverage → Option ℕ → Result FunctionCoverage (Option ℕ)
function_with function (Some n) = Ok (record { name = function.name; declaration = function.declaration; location = function.location; count = n })
function_with function None = Err None

abbrev pub function_counted : FunctionCoverage → Data → Result FunctionCoverage (Option ℕ)
function_counted function value = function_with function (count_of value)

-- a list of a count for each path
abbrev pub items_fit : List PathCoverage → Items → Bool
items_fit [] no_items = true
items_fit [] (item value rest) = false
items_fit (path ∷ paths) no_items = false
items_fit (path ∷ paths) (item value rest) = items_fit paths rest

abbrev pub list_fits : List PathCoverage → Option Items → Bool
list_fits paths (Some values) = items_fit paths values
list_fits paths None = false

abbrev pub branch_fits : BranchCoverage → Data → Bool
branch_fits branch value = list_fits branch.paths (as_array value)

-- a path with its count, before the others
abbrev pub path_with : ℕ → PathCoverage → Option ℕ → Result (List PathCoverage) ℕ → Result (List PathCoverage) ℕ
path_with place path None others = Err place
path_with place path (Some n) (Err later) = Err later
path_with place path (Some n) (Ok paths) = Ok (record { location = path.location; count = n } ∷ paths)

-- the paths from this place on
abbrev pub paths_counted : ℕ → List PathCoverage → Items → Result (List PathCoverage) ℕ
paths_counted place [] values = Ok []
paths_counted place (path ∷ paths) no_items = Ok []
paths_counted place (path ∷ paths) (item value rest) = path_with place path (count_of value) (paths_counted (place + 1) paths rest)

abbrev pub branch_with : BranchCoverage → Result (List PathCoverage) ℕ → Result BranchCoverage (Option ℕ)
branch_with branch (Ok paths) = Ok (settled (record { kind = branch.kind; location = branch.location; paths = paths }))
branch_with branch (Err place) = Err (Some place)

abbrev pub items_in : Option Items → Items
items_in (Some values) = values
items_in None = no_items

abbrev pub branch_counted : BranchCoverage → Data → Result BranchCoverage (Option ℕ)
branch_counted branch value = branch_with branch (paths_counted 0 branch.paths (items_in (as_array value)))

-- ---- ids

-- the number that these digits write after those of n, below 2^32
abbrev pub id_after : ℕ → List ℕ → Option ℕ
id_after n [] = Some n
id_after n (c ∷ cs) = if is_ascii_digit c && nat_lt (n * 10 + (c - 48)) (2 ^ 32) then id_after (n * 10 + (c - 48)) cs else None

-- a decimal numeral with no 0 before another digit
abbrev pub id_of : List ℕ → Option ℕ
id_of [] = None
id_of (c ∷ []) = id_after 0 (c ∷ [])
id_of (c ∷ d ∷ rest) = if c == 48 then None else id_after 0 (c ∷ d ∷ rest)

-- the values of an object's members, each beside its id, in the order of the ids
abbrev pub by_id : Members → List (ℕ × Data) → Option (List (ℕ × Data))
by_id no_members found = Some found
by_id (member key value rest) found = option_and_then (λ id. by_id rest (insert_entry nat_cmp found id value)) (id_of key)

abbrev pub entries_in : List ℕ → Data → Option (List (ℕ × Data))
entries_in name value = option_and_then (λ members. by_id members []) (option_and_then as_object (get name value))

-- ---- a map and its counts

module _ {T : Type 0} where
  -- each value as a thing
  abbrev pub described : (Data → Option T) → List (ℕ × Data) → Option (List (ℕ × T))
  described read_one [] = Some []
  described read_one (entry ∷ rest) =
      option_and_then (λ thing. option_map (λ things. (entry.0, thing) ∷ things) (described read_one rest)) (read_one entry.1)

  -- each thing has counts under its id, of the right shape, and there are no others
  abbrev pub all_fit : {C : Type 0} → (T → C → Bool) → List (ℕ × T) → List (ℕ × C) → Bool
  all_fit fits [] [] = true
  all_fit fits [] (count ∷ counts) = false
  all_fit fits (thing ∷ things) [] = false
  all_fit fits (thing ∷ things) (count ∷ counts) = (thing.0 == count.0) && fits thing.1 count.1 && all_fit fits things counts

  -- a thing with its counts, before the others
  abbrev pub thing_with : ℕ → Result T (Option ℕ) → Result (List (ℕ × T)) (ℕ × Option ℕ) → Result (List (ℕ × T)) (ℕ × Option ℕ)
  thing_with id (Err place) others = Err (id, place)
  thing_with id (Ok thing) (Err later) = Err later
  thing_with id (Ok thing) (Ok things) = Ok ((id, thing) ∷ things)

  -- the things with their counts, or the first count that is none
  abbrev pub all_counted : {C : Type 0} → (T → C → Result T (Option ℕ)) → List (ℕ × T) → List (ℕ × C) → Result (List (ℕ × T)) (ℕ × Option ℕ)
  all_counted with_counts [] counts = Ok []
  all_counted with_counts (thing ∷ things) [] = Ok []
  all_counted with_counts (thing ∷ things) (count ∷ counts) = thing_with thing.0 (with_counts thing.1 count.1) (all_counted with_counts things counts)

-- where a count stands, as `s.3` or `b.1.0`
abbrev pub place_name : Option ℕ → List ℕ
place_name None = []
place_name (Some place) = codes "." ++ decimal place

abbrev pub count_name : List ℕ → ℕ × Option ℕ → List ℕ
count_name counts place = counts ++ (codes "." ++ (decimal place.0 ++ place_name place.1))

module _ {T : Type 0} (path descriptions counts : List ℕ) where
  abbrev pub counts_or_fault : Result (List (ℕ × T)) (ℕ × Option ℕ) → Result (List (ℕ × T)) CoverageFault
  counts_or_fault (Ok things) = Ok things
  counts_or_fault (Err place) = Err (fault.Count path (count_name counts place))

  abbrev pub with_fitting : {C : Type 0} → (T → C → Bool) → (T → C → Result T (Option ℕ)) → List (ℕ × T) → Option (List (ℕ × C)) → Result (List (ℕ × T)) CoverageFault
  with_fitting fits with_counts things None = Err (fault.BadMember path counts)
  with_fitting fits with_counts things (Some values) =
      if all_fit fits things values then counts_or_fault (all_counted with_counts things values) else Err (fault.BadMember path counts)

  abbrev pub with_described : {C : Type 0} → (T → C → Bool) → (T → C → Result T (Option ℕ)) → Option (List (ℕ × T)) → Option (List (ℕ × C)) → Result (List (ℕ × T)) CoverageFault
  with_described fits with_counts None values = Err (fault.BadMember path descriptions)
  with_described fits with_counts (Some things) values = with_fitting fits with_counts things values

  -- first the map, then the shape, ids and lengths of the counts, then each count
  abbrev pub things_of : (Data → Option T) → (T → Data → Bool) → (T → Data → Result T (Option ℕ)) → Data → Result (List (ℕ × T)) CoverageFault
  things_of read_one fits with_counts file =
      with_described fits with_counts (option_and_then (described read_one) (entries_in descriptions file)) (entries_in counts file)

abbrev pub statements_of : List ℕ → Data → Result (List (ℕ × StatementCoverage)) CoverageFault
statements_of path file = things_of path (codes "statementMap") (codes "s") statement_of fits_always statement_counted file

abbrev pub functions_of : List ℕ → Data → Result (List (ℕ × FunctionCoverage)) CoverageFault
functions_of path file = things_of path (codes "fnMap") (codes "f") function_of fits_always function_counted file

abbrev pub branches_of : List ℕ → Data → Result (List (ℕ × BranchCoverage)) CoverageFault
branches_of path file = things_of path (codes "branchMap") (codes "b") branch_of branch_fits branch_counted file

-- ---- one file

-- what comes next, with what was found; the first fault stays
abbrev pub after : {A B : Type 0} → Result A CoverageFault → (A → Result B CoverageFault) → Result B CoverageFault
after (Ok found) next = next found
after (Err first) next = Err first

-- the path must be the key; where the file is no object it has none
abbrev pub path_or_fault : List ℕ → Option (List ℕ) → Result (List ℕ) CoverageFault
path_or_fault key None = Err (fault.BadMember key (codes "path"))
path_or_fault key (Some path) = if bytes_eq path key then Ok key else Err (fault.BadMember key (codes "path"))

abbrev pub path_of : List ℕ → Data → Result (List ℕ) CoverageFault
path_of key value = path_or_fault key (text_in (codes "path") value)

-- a text
abbrev pub text_or_fault : List ℕ → Option (List ℕ) → Result (Option (List ℕ)) CoverageFault
text_or_fault path None = Err (fault.BadMember path (codes "hash"))
text_or_fault path (Some text) = Ok (Some text)

abbrev pub hash_or_fault : List ℕ → Option Data → Result (Option (List ℕ)) CoverageFault
hash_or_fault path None = Ok None
hash_or_fault path (Some value) = text_or_fault path (as_str value)

abbrev pub hash_of : List ℕ → Data → Result (Option (List ℕ)) CoverageFault
hash_of path value = hash_or_fault path (get (codes "hash") value)

-- an object whose numbers are whole, as its text with no space
abbrev pub source_map_text_of : Data → Option (List ℕ)
source_map_text_of value = if is_some (as_object value) && not (has_float value) then Some (compact_text value) else None

abbrev pub map_text_or_fault : List ℕ → Option (List ℕ) → Result (Option (List ℕ)) CoverageFault
map_text_or_fault path None = Err (fault.BadMember path (codes "inputSourceMap"))
map_text_or_fault path (Some text) = Ok (Some text)

abbrev pub source_map_or_fault : List ℕ → Option Data → Result (Option (List ℕ)) CoverageFault
source_map_or_fault path None = Ok None
source_map_or_fault path (Some value) = map_text_or_fault path (source_map_text_of value)

abbrev pub source_map_of : List ℕ → Data → Result (Option (List ℕ)) CoverageFault
source_map_of path value = source_map_or_fault path (get (codes "inputSourceMap") value)

-- the statements, functions and branches
abbrev pub numbered_of : List ℕ → Data → Result (List (ℕ × StatementCoverage) × List (ℕ × FunctionCoverage) × List (ℕ × BranchCoverage)) CoverageFault
numbered_of path value =
    after (statements_of path value) (λ statements.
    after (functions_of path value) (λ functions.
    after (branches_of path value) (λ branches.
    Ok (statements, functions, branches))))

-- the hash and the source map, where there are any
abbrev pub origin_of : List ℕ → Data → Result (Option (List ℕ) × Option (List ℕ)) CoverageFault
origin_of path value =
    after (hash_of path value) (λ hash.
    after (source_map_of path value) (λ source_map.
    Ok (hash, source_map)))

-- the file under a key
abbrev pub file_of : List ℕ → Data → Result FileCoverage CoverageFault
file_of key value =
    after (path_of key value) (λ path.
    after (numbered_of path value) (λ numbered.
    after (origin_of path value) (λ origin.
    Ok (record {
      path = path;
      hash = origin.0;
      input_source_map = origin.1;
      statements = numbered.0;
      functions = numbered.1;
      branches = numbered.2;
    }))))

-- ---- all files

-- the files, as their members stand: in the byte order of the paths
abbrev pub files_of : Members → Result (List FileCoverage) CoverageFault
files_of no_members = Ok []
files_of (member path value rest) = after (file_of path value) (λ file. after (files_of rest) (λ files. Ok (file ∷ files)))

abbrev pub files_or_fault : Option Members → Result (List FileCoverage) CoverageFault
files_or_fault None = Err (fault.BadMember [] (codes "file"))
files_or_fault (Some members) = files_of members

abbrev pub value_or_fault : Option Data → Result (List FileCoverage) CoverageFault
value_or_fault None = Err fault.BadJson
value_or_fault (Some value) = files_or_fault (as_object value)

-- the greatest length of a text: 16 MiB
abbrev pub most_bytes : ℕ
most_bytes = 2 ^ 24

-- the files that bytes tell
abbrev pub coverage_of : List ℕ → Result (List FileCoverage) CoverageFault
coverage_of bytes = if nat_le (length bytes) most_bytes then value_or_fault (json_of bytes) else Err fault.TooLong
