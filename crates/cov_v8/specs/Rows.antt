-- V8's coverage of small sources, and what it comes to.
use Rattle.std.specs.Prelude.{◌≡◌, ℕ, ◌-◌, ◌^◌, true, false, List, [], ◌∷◌, ◌++◌, map, fold, Some, Result, Ok, Err, codes}
use Rattle.serde_json.specs.Data.{Data, null, boolean, number, unsigned, string, array, object, no_members, put}
use Rattle.serde_json.specs.View.{items_of}
use Rattle.cov_object.specs.declared.location.Location.{Location}
use Rattle.cov_object.specs.declared.file.StatementCoverage.{StatementCoverage}
use Rattle.cov_object.specs.Branch.{BranchCoverage}
use Rattle.cov_v8.specs.declared.fault.V8Fault.{V8Fault}
use Rattle.cov_v8.specs.declared.fault.V8Fault.TheVariants as fault
use Rattle.cov_v8.specs.declared.v8.V8Range.{V8Range}
use Rattle.cov_v8.specs.declared.v8.V8Function.{V8Function}
use Rattle.cov_v8.specs.declared.v8.V8.{V8}
use Rattle.cov_v8.specs.Read.{v8_of}
use Rattle.cov_v8.specs.Coverage.{units, lines, statements, functions, branches, is_within}
use Rattle.std.specs.List.{list_all}
use Rattle.cov_v8.specs.Coverage.{all_ranges}

-- a function takes what stands left in each row to what stands right
abbrev pub Agrees : {A B : Type 0} → (A → B) → List (A × B) → Type 0
Agrees f rows = map (λ row. f row.0) rows ≡ map (λ row. row.1) rows

-- ---- reading

abbrev object_of : List (List ℕ × Data) → Data
object_of members = object (fold (λ placed entry. put entry.0 entry.1 placed) no_members members)

abbrev list : List Data → Data
list values = array (items_of values)

abbrev whole : ℕ → Data
whole n = number (unsigned n)

abbrev text : List ℕ → Data
text bytes = string bytes

abbrev range_data : Data → Data → Data → Data
range_data start end count = object_of ((codes "startOffset", start) ∷ (codes "endOffset", end) ∷ (codes "count", count) ∷ [])

abbrev function_data : Data → Data → Data → Data
function_data name block ranges = object_of ((codes "functionName", name) ∷ (codes "isBlockCoverage", block) ∷ (codes "ranges", ranges) ∷ [])

abbrev script_data : Data → Data → Data
script_data url functions = object_of ((codes "scriptId", text (codes "7")) ∷ (codes "url", url) ∷ (codes "functions", functions) ∷ [])

abbrev v8_data : Data → Data
v8_data result = object_of ((codes "result", result) ∷ (codes "timestamp", null) ∷ [])

-- with one source, of one function, of one range
abbrev one_script : Data → Data
one_script script = v8_data (list (script ∷ []))

abbrev one_function : Data → Data
one_function function = one_script (script_data (text (codes "a.js")) (list (function ∷ [])))

abbrev one_range : Data → Data
one_range range = one_function (function_data (text []) (boolean true) (list (range ∷ [])))

abbrev bad : List ℕ → Result V8 V8Fault
bad name = Err (fault.BadMember name)

abbrev range : ℕ → ℕ → ℕ → V8Range
range start end count = record { start = start; end = end; count = count }

abbrev read_as : V8Range → Result V8 V8Fault
read_as range = Ok (record { scripts = record { url = codes "a.js"; functions = record { name = []; is_block = true; ranges = range ∷ [] } ∷ [] } ∷ [] })

abbrev read_rows : List (Data × Result V8 V8Fault)
read_rows =
    (one_range (range_data (whole 3) (whole 3) (whole 0)), read_as (range 3 3 0)) ∷
    (one_range (range_data (whole 0) (whole (2 ^ 53 - 1)) (whole (2 ^ 53 - 1))), read_as (range 0 (2 ^ 53 - 1) (2 ^ 53 - 1))) ∷
    (v8_data (list []), Ok (record { scripts = [] })) ∷
    (one_script (script_data (text (codes "node:fs")) (list [])), Ok (record { scripts = record { url = codes "node:fs"; functions = [] } ∷ [] })) ∷
    -- the whole
    (list [], bad (codes "result")) ∷
    (null, bad (codes "result")) ∷
    (object_of [], bad (codes "result")) ∷
    (v8_data (object_of []), bad (codes "result")) ∷
    -- a source
    (one_script null, bad (codes "url")) ∷
    (one_script (script_data null null), bad (codes "url")) ∷
    (one_script (script_data (text []) null), bad (codes "functions")) ∷
    -- a function
    (one_function null, bad (codes "functionName")) ∷
    (one_function (function_data null null null), bad (codes "functionName")) ∷
    (one_function (function_data (text []) (whole 1) null), bad (codes "isBlockCoverage")) ∷
    (one_function (function_data (text []) (boolean false) null), bad (codes "ranges")) ∷
    (one_function (function_data (text []) (boolean false) (list [])), bad (codes "ranges")) ∷
    -- a range
    (one_range null, bad (codes "startOffset")) ∷
    (one_range (range_data null null null), bad (codes "startOffset")) ∷
    (one_range (range_data (whole (2 ^ 53)) (whole (2 ^ 53)) null), bad (codes "startOffset")) ∷
    (one_range (range_data (whole 1) null null), bad (codes "endOffset")) ∷
    (one_range (range_data (whole 2) (whole 1) null), bad (codes "endOffset")) ∷
    (one_range (range_data (whole 2) (whole 1) (whole 1)), bad (codes "endOffset")) ∷
    (one_range (range_data (whole 1) (whole 2) null), bad (codes "count")) ∷
    (one_range (range_data (whole 1) (whole 2) (whole (2 ^ 53))), bad (codes "count")) ∷
    -- of two sources the first fault comes, also where the second lacks more
    (v8_data (list (script_data (text []) null ∷ null ∷ [])), bad (codes "functions")) ∷
    []

abbrev pub ReadAs : Type 0
ReadAs = Agrees v8_of read_rows

-- ---- coverage

abbrev place : ℕ → ℕ → ℕ → ℕ → Location
place line column end_line end_column =
    record { start = Some (record { line = line; column = Some column }); end = Some (record { line = end_line; column = Some end_column }) }

abbrev statement : Location → ℕ → StatementCoverage
statement location count = record { location = location; count = count }

abbrev branch : Location → ℕ → BranchCoverage
branch location count = record { kind = codes "branch"; location = location; paths = record { location = location; count = count } ∷ [] }

abbrev source : List ℕ
source = codes "a();" ++ 10 ∷ codes "if (x) {" ++ 10 ∷ codes "  b();" ++ 10 ∷ codes "}" ++ 10 ∷ []

abbrev function : List ℕ → List V8Range → V8Function
function name ranges = record { name = name; is_block = true; ranges = ranges }

abbrev whole_source : List V8Function
whole_source = function [] (range 0 23 1 ∷ range 12 22 0 ∷ []) ∷ []

abbrev pub Worked : Type 0
Worked =
    (statements source whole_source
    ≡ statement (place 1 0 1 4) 1 ∷ statement (place 2 0 2 8) 1 ∷ statement (place 3 2 3 6) 0 ∷ statement (place 4 0 4 1) 0 ∷ [])
    × (branches source whole_source ≡ branch (place 2 7 4 1) 0 ∷ [])
    × (functions source whole_source ≡ [])
    × (list_all (is_within (units source)) (all_ranges whole_source) ≡ true)
    × (list_all (is_within (units source)) (all_ranges (function [] (range 0 23 1 ∷ range 12 24 0 ∷ []) ∷ [])) ≡ false)

-- lines: CR LF ends one, LINE SEPARATOR too; NBSP is white space; a character past U+FFFF has two units
abbrev odd : List ℕ
odd = 32 ∷ 0xA0 ∷ 13 ∷ 10 ∷ 9 ∷ 0x1F600 ∷ 97 ∷ 13 ∷ 10 ∷ 0x2028 ∷ 98 ∷ 32 ∷ []

-- equally long ranges: the last counts; one that is empty holds nothing; functions with a name are told, by their first range
abbrev two : List V8Function
two =
    function (codes "f") (range 5 8 7 ∷ range 6 6 9 ∷ []) ∷
    record { name = codes "g"; is_block = false; ranges = range 4 7 2 ∷ range 5 6 3 ∷ [] } ∷
    function [] (range 11 12 4 ∷ range 10 13 5 ∷ []) ∷ []

abbrev pub Odd : Type 0
Odd =
    (lines odd ≡ (5, 8) ∷ (11, 13) ∷ [])
    × (statements odd (two)
    ≡ statement (place 2 1 2 4) 3 ∷ statement (place 4 0 4 2) 4 ∷ [])
    × (map (λ f. f.name) (functions odd two) ≡ codes "f" ∷ codes "g" ∷ [])
    × (map (λ f. f.location) (functions odd two) ≡ place 2 1 2 4 ∷ place 2 0 2 3 ∷ [])
    × (map (λ b. b.location) (branches odd two) ≡ place 2 1 2 1 ∷ place 3 0 4 2 ∷ [])
    -- within a pair, the position is the one before it
    × (statements odd (function [] (range 4 7 2 ∷ range 5 8 7 ∷ []) ∷ function [] (range 3 6 1 ∷ []) ∷ [])
    ≡ statement (place 2 1 2 4) 1 ∷ statement (place 4 0 4 2) 0 ∷ [])
