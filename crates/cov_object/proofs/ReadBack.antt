-- What is written is read back: places, counts, things under their ids, files.
use Rattle.std.proofs.Common.{◌≡◌, ℕ, IsUtf8, ◌+◌, ◌^◌, ◌<◌, ◌&&◌, nat_lt, bytes_eq, List, [], ◌∷◌, map, fold, Bool, true, false, cond, Option, Some, None, IfSome, option_map, option_and_then, Result, Ok, Err, codes, decimal, refl, sym, ap, ◌∙◌, subst, lt-ltb}
use Rattle.std.specs.Ordering.{nat_cmp}
use Rattle.std.specs.List.Sorted.{IsStrictlySortedBy}
use Rattle.std.proofs.lemmas.Bool.{eq-eqb}
use Rattle.serde_json.specs.Data.{Data, Items, Members, no_members, string, object, put}
use Rattle.serde_json.specs.Find.{get, as_str, as_object}
use Rattle.serde_json.specs.View.{items_of}
use Rattle.cov_object.specs.Numbered.{Ascends, AreSmall}
use Rattle.cov_object.specs.Json.{numbered, count_data, position_data, location_data, function_data, branch_data, path_counts_data, statements_data, statement_counts_data, functions_data, function_counts_data, branches_data, branch_counts_data, by_key, with_hash, with_source_map, file_data, files_data}
use Rattle.cov_object.specs.Read as spec
use Rattle.cov_object.specs.private.Formed.{IsPlace, IsLocated, IsStatement, IsFunction, ArePaths, IsBranch, EachThing, IsFormed, AreFormed}
use Rattle.cov_object.specs.declared.fault.CoverageFault.TheVariants as fault
use Rattle.cov_object.specs.declared.location.Position.{Position}
use Rattle.cov_object.specs.declared.location.Location.{Location}
use Rattle.cov_object.specs.declared.file.StatementCoverage.{StatementCoverage}
use Rattle.cov_object.specs.declared.file.FunctionCoverage.{FunctionCoverage}
use Rattle.cov_object.specs.declared.file.PathCoverage.{PathCoverage}
use Rattle.cov_object.specs.Branch.{BranchCoverage, if_paths, settled, IsSettled}
use Rattle.cov_object.specs.declared.file.FileCoverage.{FileCoverage}
use Rattle.cov_object.specs.SourceMapText.{data_of, IsSourceMap}
use Rattle.cov_object.specs.Files.{AreInOrder, HaveSmallIds}
use Rattle.std.proofs.lemmas.Slice.Eq.{bytes_eq-Decides}
use Rattle.cov_object.proofs.WriteLemmas.{in_turn, by_key-in_turn}
use Rattle.cov_object.proofs.IdOrder.{put_id, by_id-all}

-- ---- numbers and places

whole-read : (bound n : ℕ) → n < bound → spec.whole_below bound (count_data n) ≡ Some n
whole-read bound n small = rw (lt-ltb n bound small) refl

line-read : (n : ℕ) → 0 < n → n < 2 ^ 32 → spec.line_of (count_data n) ≡ Some n
line-read n positive small =
    ap (λ o. option_and_then (λ m. cond (nat_lt 0 m) (Some m) None) o) (whole-read (2 ^ 32) n small)
    ∙ rw (lt-ltb 0 n positive) refl

column-read : (n : ℕ) → n < 2 ^ 32 → spec.column_of (count_data n) ≡ Some (Some n)
column-read n small = ap (option_map (λ m. Some m)) (whole-read (2 ^ 32) n small)

abbrev placed : ℕ → Option ℕ → Option Position
placed line column = Some (record { line = line; column = column })

position-at : (l : ℕ) (column : Option ℕ) → 0 < l → l < 2 ^ 32 → IfSome column (λ c. c < 2 ^ 32) → spec.position_of (position_data (placed l column)) ≡ Some (placed l column)
position-at l None positive small right = ap (λ o. option_and_then (λ n. Some (placed n None)) o) (line-read l positive small)
position-at l (Some k) positive small right =
    ap (λ o. option_and_then (λ n. option_map (λ c. placed n c) (spec.column_of (count_data k))) o) (line-read l positive small)
    ∙ ap (λ o. option_map (λ c. placed l c) o) (column-read k right)

position-read : (place : Option Position) → IsPlace place → spec.position_of (position_data place) ≡ Some place
position-read None formed = refl
position-read (Some place) formed = position-at place.line place.column formed.0 formed.1 formed.2

location-read : (location : Location) → IsLocated location → spec.location_of (location_data location) ≡ Some location
location-read location formed =
    ap (λ o. option_and_then (λ start. option_map (λ end. record { start = start; end = end }) (spec.position_of (position_data location.end))) o) (position-read location.start formed.0)
    ∙ ap (λ o. option_map (λ end. record { start = location.start; end = end }) o) (position-read location.end formed.1)

count-read : (n : ℕ) → n < 2 ^ 53 → spec.count_of (count_data n) ≡ Some n
count-read n small = whole-read (2 ^ 53) n small

-- ---- a thing of each kind

-- a thing without its counts, and what its two values are read to
record Returns {T : Type 0} (read_one : Data → Option T) (fits : T → Data → Bool) (counted : T → Data → Result T (Option ℕ)) (description counts : T → Data) (zero : T → T) (thing : T) : Type 0 where
  described : read_one (description thing) ≡ Some (zero thing)
  fit : fits (zero thing) (counts thing) ≡ true
  with_counts : counted (zero thing) (counts thing) ≡ Ok thing

abbrev zero_statement : StatementCoverage → StatementCoverage
zero_statement statement = record { location = statement.location; count = 0 }

statement-returns : (s : StatementCoverage) → IsStatement s → Returns spec.statement_of spec.fits_always spec.statement_counted (λ t. location_data t.location) (λ t. count_data t.count) zero_statement s
statement-returns s formed = record {
  described = ap (option_map (λ location. record { location = location; count = 0 })) (location-read s.location formed.0);
  fit = refl;
  with_counts = ap (spec.statement_with (zero_statement s)) (count-read s.count formed.1);
}

abbrev zero_function : FunctionCoverage → FunctionCoverage
zero_function function = record { name = function.name; declaration = function.declaration; location = function.location; count = 0 }

function-returns : (f : FunctionCoverage) → IsFunction f → Returns spec.function_of spec.fits_always spec.function_counted function_data (λ t. count_data t.count) zero_function f
function-returns f formed = record {
  described = ap (λ o. option_and_then (λ location. option_map (λ declaration. record { name = f.name; declaration = declaration; location = location; count = 0 }) (spec.location_of (location_data f.declaration))) o)
      (location-read f.location formed.1)
      ∙ ap (option_map (λ declaration. record { name = f.name; declaration = declaration; location = f.location; count = 0 })) (location-read f.declaration formed.0);
  fit = refl;
  with_counts = ap (spec.function_with (zero_function f)) (count-read f.count formed.2);
}

abbrev zero_paths : List PathCoverage → List PathCoverage
zero_paths paths = map (λ path. record { location = path.location; count = 0 }) paths

abbrev locations : List PathCoverage → Items
locations paths = items_of (map (λ path. location_data path.location) paths)

abbrev counts_of : List PathCoverage → Items
counts_of paths = items_of (map (λ path. count_data path.count) paths)

paths-read : (paths : List PathCoverage) → ArePaths paths → spec.paths_of (locations paths) ≡ Some (zero_paths paths)
paths-read [] formed = refl
paths-read (path ∷ paths) formed =
    ap (λ o. option_and_then (λ location. option_map (λ rest. record { location = location; count = 0 } ∷ rest) (spec.paths_of (locations paths))) o) (location-read path.location formed.0.0)
    ∙ ap (option_map (λ rest. record { location = path.location; count = 0 } ∷ rest)) (paths-read paths formed.1)

paths-fit : (paths : List PathCoverage) → spec.items_fit (zero_paths paths) (counts_of paths) ≡ true
paths-fit [] = refl
paths-fit (path ∷ paths) = paths-fit paths

paths-counted : (place : ℕ) (paths : List PathCoverage) → ArePaths paths → spec.paths_counted place (zero_paths paths) (counts_of paths) ≡ Ok paths
paths-counted place [] formed = refl
paths-counted place (path ∷ paths) formed =
    ap (λ o. spec.path_with place (record { location = path.location; count = 0 }) o (spec.paths_counted (place + 1) (zero_paths paths) (counts_of paths))) (count-read path.count formed.0.1)
    ∙ ap (spec.path_with place (record { location = path.location; count = 0 }) (Some path.count)) (paths-counted (place + 1) paths formed.1)

abbrev zero_branch : BranchCoverage → BranchCoverage
zero_branch branch = record { kind = branch.kind; location = branch.location; paths = zero_paths branch.paths }

-- without their counts its paths are still settled
zero-paths : (location : Location) (paths : List PathCoverage) → if_paths location paths ≡ paths → if_paths location (zero_paths paths) ≡ zero_paths paths
zero-paths location [] e = refl
zero-paths location (first ∷ []) e = refl
zero-paths location (first ∷ second ∷ []) e = ap zero_paths e
zero-paths location (first ∷ second ∷ third ∷ paths) e = refl

zero-by : (is_if : Bool) (location : Location) (paths : List PathCoverage) → cond is_if (if_paths location paths) paths ≡ paths → cond is_if (if_paths location (zero_paths paths)) (zero_paths paths) ≡ zero_paths paths
zero-by true location paths e = zero-paths location paths e
zero-by false location paths e = refl

zero-settled : (b : BranchCoverage) → IsSettled b → IsSettled (zero_branch b)
zero-settled b e =
    ap (λ paths. record { kind = b.kind; location = b.location; paths = paths }) (zero-by (bytes_eq b.kind (codes "if")) b.location b.paths (ap (λ branch. branch.paths) e))

branch-returns : (b : BranchCoverage) → IsBranch b → Returns spec.branch_of spec.branch_fits spec.branch_counted branch_data path_counts_data zero_branch b
branch-returns b formed = record {
  described = ap (λ o. option_and_then (λ paths. option_map (λ location. settled (record { kind = b.kind; location = location; paths = paths })) (spec.location_of (location_data b.location))) o) (paths-read b.paths formed.1)
      ∙ ap (option_map (λ location. settled (record { kind = b.kind; location = location; paths = zero_paths b.paths }))) (location-read b.location formed.0)
      ∙ ap Some (zero-settled b formed.3);
  fit = paths-fit b.paths;
  with_counts = ap (spec.branch_with (zero_branch b)) (paths-counted 0 b.paths formed.1) ∙ ap Ok formed.3;
}

-- ---- the things of a map and its counts

module _ {T : Type 0} (read_one : Data → Option T) (fits : T → Data → Bool) (counted : T → Data → Result T (Option ℕ)) (description counts : T → Data) (zero : T → T) where
  -- the values of things beside their ids
  abbrev values : (T → Data) → List (ℕ × T) → List (ℕ × Data)
  values f things = map (λ thing. (thing.0, f thing.1)) things

  abbrev zeros : List (ℕ × T) → List (ℕ × T)
  zeros things = map (λ thing. (thing.0, zero thing.1)) things

  abbrev Each : List (ℕ × T) → Type 0
  Each things = EachThing (Returns read_one fits counted description counts zero) things

  all-described : (things : List (ℕ × T)) → Each things → spec.described read_one (values description things) ≡ Some (zeros things)
  all-described [] each = refl
  all-described (thing ∷ things) each =
      ap (λ o. option_and_then (λ t. option_map (λ ts. (thing.0, t) ∷ ts) (spec.described read_one (values description things))) o) each.0.described
      ∙ ap (option_map (λ ts. (thing.0, zero thing.1) ∷ ts)) (all-described things each.1)

  fit_true : (a b c : Bool) → a ≡ true → b ≡ true → c ≡ true → (a && b && c) ≡ true
  fit_true a b c p q r = rw (p, q, r) refl

  all-fit : (things : List (ℕ × T)) → Each things → spec.all_fit fits (zeros things) (values counts things) ≡ true
  all-fit [] each = refl
  all-fit (thing ∷ things) each = fit_true _ _ _ (eq-eqb thing.0 thing.0 refl) each.0.fit (all-fit things each.1)

  all-counted : (things : List (ℕ × T)) → Each things → spec.all_counted counted (zeros things) (values counts things) ≡ Ok things
  all-counted [] each = refl
  all-counted (thing ∷ things) each =
      ap (λ r. spec.thing_with thing.0 r (spec.all_counted counted (zeros things) (values counts things))) each.0.with_counts
      ∙ ap (spec.thing_with thing.0 (Ok thing.1)) (all-counted things each.1)

  values-fold : (f : T → Data) (things : List (ℕ × T)) (ms : Members) →
      fold (λ (ms : Members) (entry : List ℕ × Data). put entry.0 entry.1 ms) ms (map (λ thing. (decimal thing.0, f thing.1)) things) ≡ fold put_id ms (values f things)
  values-fold f [] ms = refl
  values-fold f (thing ∷ things) ms = values-fold f things (put (decimal thing.0) (f thing.1) ms)

  values-small : (f : T → Data) (things : List (ℕ × T)) → AreSmall things → AreSmall (values f things)
  values-small f [] small = tt
  values-small f (thing ∷ things) small = (small.0, values-small f things small.1)

  values-ids : (f : T → Data) (things : List (ℕ × T)) → map (λ entry. entry.0) (values f things) ≡ map (λ thing. thing.0) things
  values-ids f [] = refl
  values-ids f (thing ∷ things) = ap (λ ids. thing.0 ∷ ids) (values-ids f things)

  entries-read : (f : T → Data) (name : List ℕ) (file : Data) (things : List (ℕ × T)) → AreSmall things → Ascends things → get name file ≡ Some (numbered f things) →
      spec.entries_in name file ≡ Some (values f things)
  entries-read f name file things small ascends found =
      ap (λ o. option_and_then (λ members. spec.by_id members []) (option_and_then as_object o)) found
      ∙ ap (λ ms. spec.by_id ms []) (values-fold f things no_members)
      ∙ by_id-all (values f things) (values-small f things small) (subst (IsStrictlySortedBy nat_cmp) (sym (values-ids f things)) ascends)

  things-read : (path map_name counts_name : List ℕ) (file : Data) (things : List (ℕ × T)) → AreSmall things → Ascends things → Each things →
      get map_name file ≡ Some (numbered description things) → get counts_name file ≡ Some (numbered counts things) →
      spec.things_of path map_name counts_name read_one fits counted file ≡ Ok things
  things-read path map_name counts_name file things small ascends each described found =
      ap (λ o. spec.with_described path map_name counts_name fits counted (option_and_then (spec.described read_one) o) (spec.entries_in counts_name file)) (entries-read description map_name file things small ascends described)
      ∙ ap (λ o. spec.with_described path map_name counts_name fits counted o (spec.entries_in counts_name file)) (all-described things each)
      ∙ ap (spec.with_fitting path map_name counts_name fits counted (zeros things)) (entries-read counts counts_name file things small ascends found)
      ∙ ap (λ b. cond b (spec.counts_or_fault path map_name counts_name (spec.all_counted counted (zeros things) (values counts things))) (Err (fault.BadMember path counts_name))) (all-fit things each)
      ∙ ap (spec.counts_or_fault path map_name counts_name) (all-counted things each)

each-weaker : {T : Type 0} {P Q : T → Type 0} → ((thing : T) → P thing → Q thing) → (things : List (ℕ × T)) → EachThing P things → EachThing Q things
each-weaker f [] each = tt
each-weaker f (thing ∷ things) each = (f thing.1 each.0, each-weaker f things each.1)

pub statements-read : (path : List ℕ) (file : Data) (things : List (ℕ × StatementCoverage)) → AreSmall things → Ascends things → EachThing IsStatement things →
    get (codes "statementMap") file ≡ Some (statements_data things) → get (codes "s") file ≡ Some (statement_counts_data things) → spec.statements_of path file ≡ Ok things
statements-read path file things small ascends each described found =
    things-read spec.statement_of spec.fits_always spec.statement_counted (λ t. location_data t.location) (λ t. count_data t.count) zero_statement
    path (codes "statementMap") (codes "s") file things small ascends (each-weaker statement-returns things each) described found

pub functions-read : (path : List ℕ) (file : Data) (things : List (ℕ × FunctionCoverage)) → AreSmall things → Ascends things → EachThing IsFunction things →
    get (codes "fnMap") file ≡ Some (functions_data things) → get (codes "f") file ≡ Some (function_counts_data things) → spec.functions_of path file ≡ Ok things
functions-read path file things small ascends each described found =
    things-read spec.function_of spec.fits_always spec.function_counted function_data (λ t. count_data t.count) zero_function
    path (codes "fnMap") (codes "f") file things small ascends (each-weaker function-returns things each) described found

pub branches-read : (path : List ℕ) (file : Data) (things : List (ℕ × BranchCoverage)) → AreSmall things → Ascends things → EachThing IsBranch things →
    get (codes "branchMap") file ≡ Some (branches_data things) → get (codes "b") file ≡ Some (branch_counts_data things) → spec.branches_of path file ≡ Ok things
branches-read path file things small ascends each described found =
    things-read spec.branch_of spec.branch_fits spec.branch_counted branch_data path_counts_data zero_branch
    path (codes "branchMap") (codes "b") file things small ascends (each-weaker branch-returns things each) described found

-- ---- one file

abbrev string_in : Option (List ℕ) → Option Data
string_in text = option_map (λ s. string s) text

abbrev map_in : Option (List ℕ) → Option Data
map_in text = option_map data_of text

record Found (hash text : Option (List ℕ)) (path statements counts functions function_counts branches branch_counts value : Data) : Type 0 where
  path_at : get (codes "path") value ≡ Some path
  statements_at : get (codes "statementMap") value ≡ Some statements
  counts_at : get (codes "s") value ≡ Some counts
  functions_at : get (codes "fnMap") value ≡ Some functions
  function_counts_at : get (codes "f") value ≡ Some function_counts
  branches_at : get (codes "branchMap") value ≡ Some branches
  branch_counts_at : get (codes "b") value ≡ Some branch_counts
  hash_at : get (codes "hash") value ≡ string_in hash
  map_at : get (codes "inputSourceMap") value ≡ map_in text

abbrev with_both : (hash text : Option (List ℕ)) (path statements counts functions function_counts branches branch_counts : Data) → Data
with_both hash text path statements counts functions function_counts branches branch_counts = object (with_source_map text (with_hash hash (by_key (
    (codes "path", path)
    ∷ (codes "statementMap", statements)
    ∷ (codes "s", counts)
    ∷ (codes "fnMap", functions)
    ∷ (codes "f", function_counts)
    ∷ (codes "branchMap", branches)
    ∷ (codes "b", branch_counts)
    ∷ []))))

found-all : (hash text : Option (List ℕ)) (path statements counts functions function_counts branches branch_counts : Data) →
    Found hash text path statements counts functions function_counts branches branch_counts (with_both hash text path statements counts functions function_counts branches branch_counts)
found-all (Some hash) (Some text) path statements counts functions function_counts branches branch_counts = record { path_at = refl; statements_at = refl; counts_at = refl; functions_at = refl; function_counts_at = refl; branches_at = refl; branch_counts_at = refl; hash_at = refl; map_at = refl }
found-all (Some hash) None path statements counts functions function_counts branches branch_counts = record { path_at = refl; statements_at = refl; counts_at = refl; functions_at = refl; function_counts_at = refl; branches_at = refl; branch_counts_at = refl; hash_at = refl; map_at = refl }
found-all None (Some text) path statements counts functions function_counts branches branch_counts = record { path_at = refl; statements_at = refl; counts_at = refl; functions_at = refl; function_counts_at = refl; branches_at = refl; branch_counts_at = refl; hash_at = refl; map_at = refl }
found-all None None path statements counts functions function_counts branches branch_counts = record { path_at = refl; statements_at = refl; counts_at = refl; functions_at = refl; function_counts_at = refl; branches_at = refl; branch_counts_at = refl; hash_at = refl; map_at = refl }

path-read : (key : List ℕ) (value : Data) → get (codes "path") value ≡ Some (string key) → spec.path_of key value ≡ Ok key
path-read key value found =
    ap (λ o. spec.path_or_fault key (option_and_then as_str o)) found
    ∙ ap (λ b. cond b (Ok key) (Err (fault.BadMember key (codes "path")))) ((bytes_eq-Decides key key).1 refl)

hash-read : (path : List ℕ) (hash : Option (List ℕ)) → spec.hash_or_fault path (string_in hash) ≡ Ok hash
hash-read path None = refl
hash-read path (Some hash) = refl

map-read : (path : List ℕ) (text : Option (List ℕ)) → IfSome text (λ t. IsSourceMap t × IsUtf8 t) → spec.source_map_or_fault path (map_in text) ≡ Ok text
map-read path None is = refl
map-read path (Some text) is = rw (is.0.object, is.0.whole, is.0.compact) refl

file-steps : (key : List ℕ) (value : Data) (file : FileCoverage) → spec.path_of key value ≡ Ok file.path →
    spec.statements_of file.path value ≡ Ok file.statements → spec.functions_of file.path value ≡ Ok file.functions → spec.branches_of file.path value ≡ Ok file.branches →
    spec.hash_of file.path value ≡ Ok file.hash → spec.source_map_of file.path value ≡ Ok file.input_source_map → spec.file_of key value ≡ Ok file
file-steps key value file path statements functions branches hash map = rw (path, statements, functions, branches, hash, map) refl

file-read : (file : FileCoverage) → IsFormed file → AreSmall file.statements → AreSmall file.functions → AreSmall file.branches → spec.file_of file.path (file_data file) ≡ Ok file
file-read file formed small_statements small_functions small_branches =
    let value = file_data file in
    let found = found-all file.hash file.input_source_map (string file.path)
    (statements_data file.statements) (statement_counts_data file.statements)
    (functions_data file.functions) (function_counts_data file.functions)
    (branches_data file.branches) (branch_counts_data file.branches) in
    file-steps file.path value file (path-read file.path value found.path_at)
    (statements-read file.path value file.statements small_statements formed.statements_ascend formed.statements found.statements_at found.counts_at)
    (functions-read file.path value file.functions small_functions formed.functions_ascend formed.functions found.functions_at found.function_counts_at)
    (branches-read file.path value file.branches small_branches formed.branches_ascend formed.branches found.branches_at found.branch_counts_at)
    (ap (spec.hash_or_fault file.path) found.hash_at ∙ hash-read file.path file.hash)
    (ap (spec.source_map_or_fault file.path) found.map_at ∙ map-read file.path file.input_source_map formed.source_map)

-- ---- all files

files-read : (files : List FileCoverage) → AreFormed files → HaveSmallIds files → spec.files_of (in_turn files) ≡ Ok files
files-read [] formed small = refl
files-read (file ∷ files) formed small =
    rw (file-read file formed.0 small.0.0 small.0.1 small.0.2, files-read files formed.1 small.1) refl

-- the value of a map is read to the map
pub value-read : (files : List FileCoverage) → AreInOrder files → AreFormed files → HaveSmallIds files → spec.value_or_fault (Some (files_data files)) ≡ Ok files
value-read files ordered formed small = ap spec.files_of (by_key-in_turn files ordered) ∙ files-read files formed small
