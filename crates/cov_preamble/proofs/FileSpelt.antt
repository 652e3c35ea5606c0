-- The data of a file is a value that the preamble spells, and how deep it nests.
use Rattle.std.proofs.Common.{◌≡◌, ℕ, ◌+◌, ◌≤◌, List, [], ◌∷◌, map, fold, Option, None, Some, IfSome, false, decimal, codes, refl, arith, Ordering, Less, Equal, Greater}
use Rattle.std.specs.Ordering.{nat_cmp, match_ordering}
use Rattle.std.specs.Cmp.Lexicographic.{slice_cmp}
use Rattle.std.specs.Str.{IsUtf8, chars}
use Rattle.serde_json.specs.Data.{Data, string, array, object, Members, no_members, member, put, depth, items_depth, members_depth}
use Rattle.serde_json.specs.View.{items_of}
use Rattle.json.specs.Print.{escape_byte}
use Rattle.js_tree.specs.Plain.{StringKey}
use Rattle.js_reading.specs.Makes.{is_proto}
use Rattle.cov_object.specs.Branch.{BranchCoverage}
use Rattle.cov_object.specs.SourceMapText.{data_of}
use Rattle.cov_object.specs.Json.{by_key, object_of, numbered, count_data, column_data, position_data, location_data, function_data, branch_data, path_counts_data, statements_data, statement_counts_data, functions_data, function_counts_data, branches_data, branch_counts_data, with_hash, with_source_map, file_data}
use Rattle.cov_object.specs.declared.file.FileCoverage.{FileCoverage}
use Rattle.cov_object.specs.declared.file.FunctionCoverage.{FunctionCoverage}
use Rattle.cov_object.specs.declared.file.PathCoverage.{PathCoverage}
use Rattle.cov_object.specs.declared.file.StatementCoverage.{StatementCoverage}
use Rattle.cov_object.specs.declared.location.Location.{Location}
use Rattle.cov_object.specs.declared.location.Position.{Position}
use Rattle.cov_object.proofs.DataForms.{put-depth}
use Rattle.cov_rewritten.specs.Laws.{IsSpelt, AreSpelt, MembersAreSpelt}
use Rattle.cov_rewritten.specs.Preamble.{json_string}
use Rattle.cov_rewritten.proofs.DecimalKeys.{decimal_key}
use Rattle.cov_preamble.specs.Texts.{HasTexts, HaveNames, HaveKinds, IsSpeltMap}

-- ---- a value that is spelt, and how deep it nests at most

pub record Value (most : ℕ) (d : Data) : Type 0 where
  pub spelt : IsSpelt d
  pub within : depth d ≤ most

pub record Fits (most : ℕ) (ms : Members) : Type 0 where
  pub spelt : MembersAreSpelt ms
  pub within : members_depth ms ≤ most

-- a key that may stand in an object
abbrev Key : List ℕ → Type 0
Key k = IsUtf8 k × (is_proto (StringKey (json_string k)) ≡ false)

deeper : {d : Data} (a b : ℕ) → a ≤ b → Value a d → Value b d
deeper a b low v = record { spelt = v.spelt; within = omega (arith, low, v.within) }

-- ---- members, put one after the other

spelt_match : (o : Ordering) (k l : List ℕ) (d e : Data) (ms rest : Members) → Key k → IsSpelt d → MembersAreSpelt (member l e ms) → MembersAreSpelt rest →
    MembersAreSpelt (match_ordering o (member k d (member l e ms)) (member l d ms) (member l e rest))
spelt_match Less k l d e ms rest key value are later = (key.0, key.1, value, are)
spelt_match Equal k l d e ms rest key value are later = (are.0, are.1, value, are.3)
spelt_match Greater k l d e ms rest key value are later = (are.0, are.1, are.2, later)

put_spelt : (k : List ℕ) (d : Data) (ms : Members) → Key k → IsSpelt d → MembersAreSpelt ms → MembersAreSpelt (put k d ms)
put_spelt k d no_members key value are = (key.0, key.1, value, tt)
put_spelt k d (member l e ms) key value are = spelt_match (slice_cmp nat_cmp k l) k l d e ms (put k d ms) key value are (put_spelt k d ms key value are.3)

put_fits : (most : ℕ) (k : List ℕ) (d : Data) (ms : Members) → Key k → Value most d → Fits most ms → Fits most (put k d ms)
put_fits most k d ms key value fits = record {
  spelt = put_spelt k d ms key value.spelt fits.spelt;
  within = omega (arith, put-depth k d ms, value.within, fits.within);
}

abbrev AllFit : ℕ → List (List ℕ × Data) → Type 0
AllFit most [] = Unit {0}
AllFit most (entry ∷ entries) = (Key entry.0 × Value most entry.1) × AllFit most entries

put_all : (most : ℕ) (entries : List (List ℕ × Data)) (ms : Members) → AllFit most entries → Fits most ms → Fits most (fold (λ placed (entry : List ℕ × Data). put entry.0 entry.1 placed) ms entries)
put_all most [] ms all fits = fits
put_all most (entry ∷ entries) ms all fits = put_all most entries (put entry.0 entry.1 ms) all.1 (put_fits most entry.0 entry.1 ms all.0.0 all.0.1 fits)

none_fit : (most : ℕ) → Fits most no_members
none_fit most = record { spelt = tt; within = omega arith }

of_entries : (most : ℕ) (entries : List (List ℕ × Data)) → AllFit most entries → Value (most + 1) (object_of entries)
of_entries most entries all = let fits = put_all most entries no_members all (none_fit most) in record { spelt = fits.spelt; within = omega (arith, fits.within) }

-- ---- the keys

line_key : Key (codes "line")
unfolding chars escape_byte lib.Utf8.encode
line_key = ((codes "line", (refl, refl)), refl)

column_key : Key (codes "column")
unfolding chars escape_byte lib.Utf8.encode
column_key = ((codes "column", (refl, refl)), refl)

start_key : Key (codes "start")
unfolding chars escape_byte lib.Utf8.encode
start_key = ((codes "start", (refl, refl)), refl)

end_key : Key (codes "end")
unfolding chars escape_byte lib.Utf8.encode
end_key = ((codes "end", (refl, refl)), refl)

name_key : Key (codes "name")
unfolding chars escape_byte lib.Utf8.encode
name_key = ((codes "name", (refl, refl)), refl)

decl_key : Key (codes "decl")
unfolding chars escape_byte lib.Utf8.encode
decl_key = ((codes "decl", (refl, refl)), refl)

loc_key : Key (codes "loc")
unfolding chars escape_byte lib.Utf8.encode
loc_key = ((codes "loc", (refl, refl)), refl)

type_key : Key (codes "type")
unfolding chars escape_byte lib.Utf8.encode
type_key = ((codes "type", (refl, refl)), refl)

locations_key : Key (codes "locations")
unfolding chars escape_byte lib.Utf8.encode
locations_key = ((codes "locations", (refl, refl)), refl)

path_key : Key (codes "path")
unfolding chars escape_byte lib.Utf8.encode
path_key = ((codes "path", (refl, refl)), refl)

hash_key : Key (codes "hash")
unfolding chars escape_byte lib.Utf8.encode
hash_key = ((codes "hash", (refl, refl)), refl)

source_map_key : Key (codes "inputSourceMap")
unfolding chars escape_byte lib.Utf8.encode
source_map_key = ((codes "inputSourceMap", (refl, refl)), refl)

statement_map_key : Key (codes "statementMap")
unfolding chars escape_byte lib.Utf8.encode
statement_map_key = ((codes "statementMap", (refl, refl)), refl)

s_key : Key (codes "s")
unfolding chars escape_byte lib.Utf8.encode
s_key = ((codes "s", (refl, refl)), refl)

function_map_key : Key (codes "fnMap")
unfolding chars escape_byte lib.Utf8.encode
function_map_key = ((codes "fnMap", (refl, refl)), refl)

f_key : Key (codes "f")
unfolding chars escape_byte lib.Utf8.encode
f_key = ((codes "f", (refl, refl)), refl)

branch_map_key : Key (codes "branchMap")
unfolding chars escape_byte lib.Utf8.encode
branch_map_key = ((codes "branchMap", (refl, refl)), refl)

b_key : Key (codes "b")
unfolding chars escape_byte lib.Utf8.encode
b_key = ((codes "b", (refl, refl)), refl)

-- ---- the parts of a file

count_value : (count : ℕ) → Value 0 (count_data count)
count_value count = record { spelt = tt; within = omega arith }

column_value : (column : Option ℕ) → Value 0 (column_data column)
column_value (Some column) = count_value column
column_value None = record { spelt = tt; within = omega arith }

position_value : (position : Option Position) → Value 1 (position_data position)
position_value (Some place) = of_entries 0 ((codes "line", count_data place.line) ∷ (codes "column", column_data place.column) ∷ []) ((line_key, count_value place.line), ((column_key, column_value place.column), tt))
position_value None = of_entries 0 [] tt

location_value : (location : Location) → Value 2 (location_data location)
location_value location =
    of_entries 1 ((codes "start", position_data location.start) ∷ (codes "end", position_data location.end) ∷ [])
    ((start_key, position_value location.start), ((end_key, position_value location.end), tt))

text_value : (most : ℕ) (text : List ℕ) → IsUtf8 text → Value most (string text)
text_value most text utf8 = record { spelt = utf8; within = omega arith }

function_value : (function : FunctionCoverage) → IsUtf8 function.name → Value 3 (function_data function)
function_value function utf8 =
    of_entries 2 ((codes "name", string function.name) ∷ (codes "decl", location_data function.declaration) ∷ (codes "loc", location_data function.location) ∷ [])
    ((name_key, text_value 2 function.name utf8), ((decl_key, location_value function.declaration), ((loc_key, location_value function.location), tt)))

locations_spelt : (paths : List PathCoverage) → AreSpelt (items_of (map (λ path. location_data path.location) paths))
locations_spelt [] = tt
locations_spelt (path ∷ paths) = ((location_value path.location).spelt, locations_spelt paths)

locations_within : (paths : List PathCoverage) → items_depth (items_of (map (λ path. location_data path.location) paths)) ≤ 2
locations_within [] = omega arith
locations_within (path ∷ paths) = omega (arith, (location_value path.location).within, locations_within paths)

locations_value : (paths : List PathCoverage) → Value 3 (array (items_of (map (λ path. location_data path.location) paths)))
locations_value paths = record { spelt = locations_spelt paths; within = omega (arith, locations_within paths) }

branch_value : (branch : BranchCoverage) → IsUtf8 branch.kind → Value 4 (branch_data branch)
branch_value branch utf8 =
    of_entries 3 ((codes "loc", location_data branch.location) ∷ (codes "type", string branch.kind) ∷ (codes "locations", array (items_of (map (λ path. location_data path.location) branch.paths))) ∷ [])
    ((loc_key, deeper 2 3 (omega arith) (location_value branch.location)), ((type_key, text_value 3 branch.kind utf8), ((locations_key, locations_value branch.paths), tt)))

counts_spelt : (paths : List PathCoverage) → AreSpelt (items_of (map (λ path. count_data path.count) paths))
counts_spelt [] = tt
counts_spelt (path ∷ paths) = (tt, counts_spelt paths)

counts_within : (paths : List PathCoverage) → items_depth (items_of (map (λ path. count_data path.count) paths)) ≤ 0
counts_within [] = omega arith
counts_within (path ∷ paths) = omega (arith, counts_within paths)

path_counts_value : (branch : BranchCoverage) → Value 1 (path_counts_data branch)
path_counts_value branch = record { spelt = counts_spelt branch.paths; within = omega (arith, counts_within branch.paths) }

-- ---- things by their ids

module _ {T : Type 0} (f : T → Data) (most : ℕ) where
  abbrev AllValues : List (ℕ × T) → Type 0
  AllValues [] = Unit {0}
  AllValues (thing ∷ things) = Value most (f thing.1) × AllValues things

  entries_fit : (things : List (ℕ × T)) → AllValues things → AllFit most (map (λ (thing : ℕ × T). (decimal thing.0, f thing.1)) things)
  entries_fit [] all = tt
  entries_fit (thing ∷ things) all = ((decimal_key thing.0, all.0), entries_fit things all.1)

  numbered_value : (things : List (ℕ × T)) → AllValues things → Value (most + 1) (numbered f things)
  numbered_value things all = of_entries most _ (entries_fit things all)

  always : ((thing : T) → Value most (f thing)) → (things : List (ℕ × T)) → AllValues things
  always each [] = tt
  always each (thing ∷ things) = (each thing.1, always each things)

functions_are : (functions : List (ℕ × FunctionCoverage)) → HaveNames functions → AllValues function_data 3 functions
functions_are [] names = tt
functions_are (function ∷ functions) names = (function_value function.1 names.0, functions_are functions names.1)

branches_are : (branches : List (ℕ × BranchCoverage)) → HaveKinds branches → AllValues branch_data 4 branches
branches_are [] kinds = tt
branches_are (branch ∷ branches) kinds = (branch_value branch.1 kinds.0, branches_are branches kinds.1)

-- ---- the whole

abbrev members_of_file : FileCoverage → List (List ℕ × Data)
members_of_file file =
    (codes "path", string file.path)
    ∷ (codes "statementMap", statements_data file.statements)
    ∷ (codes "s", statement_counts_data file.statements)
    ∷ (codes "fnMap", functions_data file.functions)
    ∷ (codes "f", function_counts_data file.functions)
    ∷ (codes "branchMap", branches_data file.branches)
    ∷ (codes "b", branch_counts_data file.branches)
    ∷ []

members_fit : (file : FileCoverage) → HasTexts file → AllFit 5 (members_of_file file)
members_fit file has = (
  (path_key, text_value 5 file.path has.path),
  (
    (statement_map_key, deeper 3 5 (omega arith) (numbered_value (λ (s : StatementCoverage). location_data s.location) 2 file.statements (always (λ (s : StatementCoverage). location_data s.location) 2 (λ s. location_value s.location) file.statements))),
    (
      (s_key, deeper 1 5 (omega arith) (numbered_value (λ (s : StatementCoverage). count_data s.count) 0 file.statements (always (λ (s : StatementCoverage). count_data s.count) 0 (λ s. count_value s.count) file.statements))),
      (
        (function_map_key, deeper 4 5 (omega arith) (numbered_value function_data 3 file.functions (functions_are file.functions has.names))),
        (
          (f_key, deeper 1 5 (omega arith) (numbered_value (λ (f : FunctionCoverage). count_data f.count) 0 file.functions (always (λ (f : FunctionCoverage). count_data f.count) 0 (λ f. count_value f.count) file.functions))),
          (
            (branch_map_key, numbered_value branch_data 4 file.branches (branches_are file.branches has.kinds)),
            (
              (b_key, deeper 2 5 (omega arith) (numbered_value path_counts_data 1 file.branches (always path_counts_data 1 path_counts_value file.branches))),
              tt,
            ),
          ),
        ),
      ),
    ),
  ),
)

hashed : (hash : Option (List ℕ)) (ms : Members) → IfSome hash IsUtf8 → Fits 5 ms → Fits 5 (with_hash hash ms)
hashed (Some hash) ms utf8 fits = put_fits 5 (codes "hash") (string hash) ms hash_key (text_value 5 hash utf8) fits
hashed None ms utf8 fits = fits

as_object : (ms : Members) → Fits 5 ms → Value 6 (object ms)
as_object ms fits = record { spelt = fits.spelt; within = omega (arith, fits.within) }

mapped : (map : Option (List ℕ)) (ms : Members) → IfSome map IsSpeltMap → Fits 5 ms → Fits 5 (with_source_map map ms)
mapped None ms is fits = fits
mapped (Some text) ms is fits = put_fits 5 (codes "inputSourceMap") (data_of text) ms source_map_key (record { spelt = is.spelt; within = is.within }) fits

pub file_value : (file : FileCoverage) → HasTexts file → Value 6 (file_data file)
file_value file has =
    let members = put_all 5 (members_of_file file) no_members (members_fit file has) (none_fit 5) in
    let ms = with_hash file.hash (by_key (members_of_file file)) in
    as_object (with_source_map file.input_source_map ms) (mapped file.input_source_map ms has.source_map (hashed file.hash (by_key (members_of_file file)) has.hash members))
