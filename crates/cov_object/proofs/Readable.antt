-- The text of a coverage map is read as its value.
use Rattle.std.proofs.Common.{◌≡◌, ℕ, suc, ◌++◌, length, cond, Ok, Err, le-leb, IsUtf8, ◌^◌, ◌<◌, ◌≤◌, List, [], ◌∷◌, map, Option, Some, None, IfSome, is_some, true, codes, decimal, refl, sym, ap, ◌∙◌, subst, arith, append-nil}
use Rattle.std.proofs.lemmas.Str.{IsUtf8-from_ascii}
use Rattle.std.proofs.lemmas.Fmt.{IsAscii-decimal}
use Rattle.json.proofs.Printed.Utf8.{IsUtf8-are_ascii}
use Rattle.cov_object.specs.Numbered.{AreSmall}
use Rattle.cov_object.specs.Files.{AreInOrder, HaveSmallIds}
use Rattle.cov_object.specs.JsonText.{json_of}
use Rattle.cov_object.specs.Read.{value_or_fault, most_bytes, coverage_of}
use Rattle.cov_object.specs.declared.fault.CoverageFault.TheVariants as fault
use Rattle.cov_object.proofs.ReadFiles.{json_of-text}
use Rattle.cov_object.proofs.ReadBack.{value-read}
use Rattle.json.specs.Lex.{tokens}
use Rattle.json.specs.Json as json
use Rattle.json.proofs.Printed.Trees.{value-json_tokens}
use Rattle.json.proofs.Numbered.{value-HasNumbers, ArePrintableOrBad-tokens}
use Rattle.serde_json.specs.Data.{Data, string, Members, no_members, depth}
use Rattle.serde_json.specs.Find.{as_object}
use Rattle.serde_json.specs.Read.{max_depth, read}
use Rattle.serde_json.specs.Written.{outline}
use Rattle.cov_object.specs.Json.{by_key, numbered, count_data, column_data, position_data, location_data, function_data, branch_data, path_counts_data, statements_data, statement_counts_data, functions_data, function_counts_data, branches_data, branch_counts_data, with_hash, with_source_map, file_data, files_data, json_text}
use Rattle.cov_object.specs.SourceMapText.{value_or_null, data_of, most_depth, IsSourceMap}
use Rattle.cov_object.specs.private.Formed.{IsPlace, IsLocated, IsFunction, ArePaths, IsBranch, EachThing, IsFormed, AreFormed}
use Rattle.cov_object.specs.declared.location.Position.{Position}
use Rattle.cov_object.specs.declared.location.Location.{Location}
use Rattle.cov_object.specs.declared.file.FunctionCoverage.{FunctionCoverage}
use Rattle.cov_object.specs.declared.file.PathCoverage.{PathCoverage}
use Rattle.cov_object.specs.Branch.{BranchCoverage}
use Rattle.cov_object.specs.declared.file.FileCoverage.{FileCoverage}
use Rattle.cov_object.proofs.ReadText.{depth-outline, whole, IsReadable, read-text, weaker, readable-number, readable-string, readable-null, EachReadable, readable-array, AreSorted, AllReadable, AreSorted-put, AllReadable-put, readable-object, EntriesReadable, sorted-fold, readable-fold, readable-entries}

-- ---- places

readable-count : (n k : ℕ) → n < 2 ^ 53 → IsReadable k (count_data n)
readable-count n k small = readable-number n k (omega arith)

readable-column : (column : Option ℕ) → IfSome column (λ c. c < 2 ^ 32) → IsReadable 0 (column_data column)
readable-column None small = readable-null 0
readable-column (Some c) small = readable-count c 0 (omega arith)

readable-position : (place : Option Position) → IsPlace place → IsReadable 1 (position_data place)
readable-position None formed = readable-entries 0 [] tt
readable-position (Some place) formed =
    readable-entries 0 ((codes "line", count_data place.line) ∷ (codes "column", column_data place.column) ∷ [])
    ((IsUtf8-are_ascii (codes "line") refl, readable-count place.line 0 (omega arith)), ((IsUtf8-are_ascii (codes "column") refl, readable-column place.column formed.2), tt))

readable-location : (location : Location) → IsLocated location → IsReadable 2 (location_data location)
readable-location location formed =
    readable-entries 1 ((codes "start", position_data location.start) ∷ (codes "end", position_data location.end) ∷ [])
    ((IsUtf8-are_ascii (codes "start") refl, readable-position location.start formed.0), ((IsUtf8-are_ascii (codes "end") refl, readable-position location.end formed.1), tt))

-- ---- things

readable-function : (f : FunctionCoverage) → IsFunction f → IsReadable 3 (function_data f)
readable-function f formed =
    readable-entries 2 ((codes "name", string f.name) ∷ (codes "decl", location_data f.declaration) ∷ (codes "loc", location_data f.location) ∷ [])
    ((IsUtf8-are_ascii (codes "name") refl, readable-string f.name 2 formed.3), ((IsUtf8-are_ascii (codes "decl") refl, readable-location f.declaration formed.0), ((IsUtf8-are_ascii (codes "loc") refl, readable-location f.location formed.1), tt)))

each-location : (paths : List PathCoverage) → ArePaths paths → EachReadable 2 (map (λ path. location_data path.location) paths)
each-location [] formed = tt
each-location (path ∷ paths) formed = (readable-location path.location formed.0.0, each-location paths formed.1)

each-count : (paths : List PathCoverage) → ArePaths paths → EachReadable 0 (map (λ path. count_data path.count) paths)
each-count [] formed = tt
each-count (path ∷ paths) formed = (readable-count path.count 0 formed.0.1, each-count paths formed.1)

readable-branch : (b : BranchCoverage) → IsBranch b → IsReadable 4 (branch_data b)
readable-branch b formed =
    readable-entries 3 ((codes "loc", location_data b.location) ∷ (codes "type", string b.kind)
    ∷ (codes "locations", _) ∷ []) (
      (IsUtf8-are_ascii (codes "loc") refl, weaker 2 3 (location_data b.location) (omega arith) (readable-location b.location formed.0)),
      (
        (IsUtf8-are_ascii (codes "type") refl, readable-string b.kind 3 formed.2),
        ((IsUtf8-are_ascii (codes "locations") refl, readable-array 2 (map (λ path. location_data path.location) b.paths) (each-location b.paths formed.1)), tt),
      ),
    )

readable-path_counts : (b : BranchCoverage) → IsBranch b → IsReadable 1 (path_counts_data b)
readable-path_counts b formed = readable-array 0 (map (λ path. count_data path.count) b.paths) (each-count b.paths formed.1)

each-entry : {T : Type 0} {P : T → Type 0} (n : ℕ) (f : T → Data) → ((thing : T) → P thing → IsReadable n (f thing)) → (things : List (ℕ × T)) → EachThing P things → AreSmall things →
    EntriesReadable n (map (λ thing. (decimal thing.0, f thing.1)) things)
each-entry n f g [] each small = tt
each-entry n f g (thing ∷ things) each small =
    ((IsUtf8-from_ascii (decimal thing.0) (IsAscii-decimal thing.0 (let h = small.0 in omega arith)), g thing.1 each.0), each-entry n f g things each.1 small.1)

readable-things : {T : Type 0} {P : T → Type 0} (n : ℕ) (f : T → Data) → ((thing : T) → P thing → IsReadable n (f thing)) → (things : List (ℕ × T)) → EachThing P things → AreSmall things →
    suc n ≤ most_depth → IsReadable most_depth (numbered f things)
readable-things n f g things each small le = weaker (suc n) most_depth (numbered f things) le (readable-entries n (map (λ thing. (decimal thing.0, f thing.1)) things) (each-entry n f g things each small))

-- ---- source maps

some-read : (value : Option Data) → is_some (as_object (value_or_null value)) ≡ true → value ≡ Some (value_or_null value)
some-read None is = absurd (cc)
some-read (Some d) is = refl

readable-map : (text : List ℕ) → IsSourceMap text → IsUtf8 text → IsReadable most_depth (data_of text)
readable-map text is utf8 =
    let d = data_of text in
    let deep : depth d ≤ max_depth = let h = is.shallow in omega arith in
    let parsed : json.value max_depth (tokens text) ≡ Some (outline d, []) =
    ap (json.value max_depth) (is.plain ∙ sym (append-nil _))
    ∙ value-json_tokens (outline d) max_depth [] (subst (λ k. k ≤ max_depth) (sym (depth-outline d)) deep) in
    record {
      numbers = value-HasNumbers max_depth (tokens text) [] (outline d) (ArePrintableOrBad-tokens text) parsed;
      converts = sym (ap whole parsed) ∙ some-read (read text) is.object;
      shallow = is.shallow;
      utf8 = subst IsUtf8 (sym is.compact) utf8;
    }

-- ---- files

with_hash-sorted : (hash : Option (List ℕ)) (ms : Members) → AreSorted ms → AreSorted (with_hash hash ms)
with_hash-sorted None ms sorted = sorted
with_hash-sorted (Some hash) ms sorted = AreSorted-put (codes "hash") (string hash) ms sorted

with_hash-readable : (hash : Option (List ℕ)) (ms : Members) → IfSome hash IsUtf8 → AllReadable most_depth ms → AllReadable most_depth (with_hash hash ms)
with_hash-readable None ms utf8 all = all
with_hash-readable (Some hash) ms utf8 all = AllReadable-put most_depth (codes "hash") (string hash) ms (IsUtf8-are_ascii (codes "hash") refl) (readable-string hash most_depth utf8) all

with_map-sorted : (text : Option (List ℕ)) (ms : Members) → AreSorted ms → AreSorted (with_source_map text ms)
with_map-sorted None ms sorted = sorted
with_map-sorted (Some text) ms sorted = AreSorted-put (codes "inputSourceMap") (data_of text) ms sorted

with_map-readable : (text : Option (List ℕ)) (ms : Members) → IfSome text (λ t. IsSourceMap t × IsUtf8 t) → AllReadable most_depth ms → AllReadable most_depth (with_source_map text ms)
with_map-readable None ms is all = all
with_map-readable (Some text) ms is all = AllReadable-put most_depth (codes "inputSourceMap") (data_of text) ms (IsUtf8-are_ascii (codes "inputSourceMap") refl) (readable-map text is.0 is.1) all

abbrev file_entries : FileCoverage → List (List ℕ × Data)
file_entries file =
    (codes "path", string file.path)
    ∷ (codes "statementMap", statements_data file.statements)
    ∷ (codes "s", statement_counts_data file.statements)
    ∷ (codes "fnMap", functions_data file.functions)
    ∷ (codes "f", function_counts_data file.functions)
    ∷ (codes "branchMap", branches_data file.branches)
    ∷ (codes "b", branch_counts_data file.branches)
    ∷ []

abbrev HasSmallIds : FileCoverage → Type 0
HasSmallIds file = AreSmall file.statements × AreSmall file.functions × AreSmall file.branches

file_entries-readable : (file : FileCoverage) → IsFormed file → HasSmallIds file → EntriesReadable most_depth (file_entries file)
file_entries-readable file formed small = (
  (IsUtf8-are_ascii (codes "path") refl, readable-string file.path most_depth formed.path_text),
  (
    (IsUtf8-are_ascii (codes "statementMap") refl, readable-things 2 (λ t. location_data t.location) (λ t f. readable-location t.location f.0) file.statements formed.statements small.0 (omega arith)),
    (
      (IsUtf8-are_ascii (codes "s") refl, readable-things 0 (λ t. count_data t.count) (λ t f. readable-count t.count 0 f.1) file.statements formed.statements small.0 (omega arith)),
      (
        (IsUtf8-are_ascii (codes "fnMap") refl, readable-things 3 function_data readable-function file.functions formed.functions small.1 (omega arith)),
        (
          (IsUtf8-are_ascii (codes "f") refl, readable-things 0 (λ t. count_data t.count) (λ t f. readable-count t.count 0 f.2) file.functions formed.functions small.1 (omega arith)),
          (
            (IsUtf8-are_ascii (codes "branchMap") refl, readable-things 4 branch_data readable-branch file.branches formed.branches small.2 (omega arith)),
            ((IsUtf8-are_ascii (codes "b") refl, readable-things 1 path_counts_data readable-path_counts file.branches formed.branches small.2 (omega arith)), tt),
          ),
        ),
      ),
    ),
  ),
)

readable-file : (file : FileCoverage) → IsFormed file → HasSmallIds file → IsReadable (suc most_depth) (file_data file)
readable-file file formed small =
    let ms = by_key (file_entries file) in
    readable-object most_depth (with_source_map file.input_source_map (with_hash file.hash ms))
    (with_map-sorted file.input_source_map (with_hash file.hash ms) (with_hash-sorted file.hash ms (sorted-fold (file_entries file) no_members tt)))
    (with_map-readable file.input_source_map (with_hash file.hash ms) formed.source_map
    (with_hash-readable file.hash ms formed.hash_text (readable-fold most_depth (file_entries file) no_members (file_entries-readable file formed small) tt)))

each-file : (files : List FileCoverage) → AreFormed files → HaveSmallIds files → EntriesReadable (suc most_depth) (map (λ file. (file.path, file_data file)) files)
each-file [] formed small = tt
each-file (file ∷ files) formed small = ((formed.0.path_text, readable-file file formed.0 small.0), each-file files formed.1 small.1)

files-readable : (files : List FileCoverage) → AreFormed files → HaveSmallIds files → IsReadable max_depth (files_data files)
files-readable files formed small = readable-entries (suc most_depth) (map (λ file. (file.path, file_data file)) files) (each-file files formed small)

-- what is written of a map is read to the map
pub map-read_back : (files : List FileCoverage) → AreInOrder files → AreFormed files → HaveSmallIds files → length (json_text files) ≤ most_bytes → coverage_of (json_text files) ≡ Ok files
map-read_back files ordered formed small short =
    let readable = files-readable files formed small in
    let text = json_text files in
    let parsed : json_of text ≡ Some (files_data files) = sym (json_of-text text readable.utf8) ∙ read-text (files_data files) readable in
    ap (λ b. cond b (value_or_fault (json_of text)) (Err fault.TooLong)) (le-leb (length text) most_bytes short)
    ∙ ap value_or_fault parsed
    ∙ value-read files ordered formed small

-- one file more
pub AreFormed-more : (files : List FileCoverage) (file : FileCoverage) → AreFormed files → IsFormed file → AreFormed (files ++ file ∷ [])
AreFormed-more [] file formed here = (here, tt)
AreFormed-more (other ∷ files) file formed here = (formed.0, AreFormed-more files file formed.1 here)
