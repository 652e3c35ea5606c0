-- What is proved: which data a heap holds, and which coverage these tell.
use Rattle.std.specs.Prelude.{◌≡◌, ◌≤◌, ◌<◌, ◌-◌, ◌^◌, ℕ, List, [], ◌∷◌, Some, IfSome, codes, decimal}
use Rattle.items.specs.declared.data.Data.{Data as Tree}
use Rattle.js_terms.specs.declared.construct.ConstructKind.{ConstructKind}
use Rattle.js_terms.specs.declared.construct.ConstructKind.TheVariants as construct_kind
use Rattle.js_value.specs.declared.value.Value.{Value}
use Rattle.js_value.specs.declared.built_in.Place.TheVariants as place
use Rattle.js_value.specs.State.{Property, Heap}
use Rattle.js_value.specs.Objects.{own}
use Rattle.js_value.specs.Functions.{name_units}
use Rattle.js_value.specs.Realm.{number_of}
use Rattle.js_coverage.specs.Coverage.{data_within, coverage_name, IsCoverage}
use Rattle.js_counter.specs.Represents.{Json, Members, json_ticked, Represents}
use Rattle.cov_object.specs.Data as tree
use Rattle.cov_object.specs.Files.{HaveSmallIds}
use Rattle.cov_object.specs.Json.{file_data}
use Rattle.cov_object.specs.Numbered.{AreSmall}
use Rattle.cov_object.specs.private.Formed.{AreFormed}
use Rattle.cov_object.specs.declared.file.FileCoverage.{FileCoverage}
use Rattle.cov_expected.specs.Plain.{IsPlainMap}
use Rattle.cov_expected.specs.Told.{value_of, nesting, IsTellable, json_of, files_members}
use Rattle.cov_expected.specs.Expected.{in_order, counted_file}

-- ---- any data

-- a value in a heap is a tree of data, which tells what these data tell
pub record Tells (levels : ℕ) (h : Heap) (v : Value) (json : Json) : Type 0 where
  pub found : Tree
  pub is : data_within levels h v ≡ Some found
  pub value : tree.value_of found ≡ value_of json
  pub deep : tree.depth_of found ≤ nesting json

-- what a value represents it tells
abbrev pub TellsData : Type 0
TellsData = (h : Heap) (v : Value) (json : Json) → Represents h v json → IsTellable json → (levels : ℕ) → nesting json ≤ levels → Tells levels h v json

-- ---- coverage

-- no two of the files have one path
abbrev pub IsOther : List ℕ → List FileCoverage → Type 0
IsOther path [] = Unit {0}
IsOther path (file ∷ files) = (path ≡ file.path → ⊥) × IsOther path files

abbrev pub AreApart : List FileCoverage → Type 0
AreApart [] = Unit {0}
AreApart (file ∷ files) = IsOther file.path files × AreApart files

-- the source map of each, where it has one, is plain
abbrev pub HavePlainMaps : List FileCoverage → Type 0
HavePlainMaps [] = Unit {0}
HavePlainMaps (file ∷ files) = IfSome file.input_source_map IsPlainMap × HavePlainMaps files

-- where the global object's `__coverage__` represents the data of these files, they are the coverage that the heap holds
abbrev pub TellsFiles : Type 0
TellsFiles = (h : Heap) (property : Property) (files : List FileCoverage) → own h (number_of place.Global) coverage_name ≡ Some property →
    Represents h property.value (Members (files_members files)) → AreApart files → AreFormed files → HaveSmallIds files → HavePlainMaps files →
    IsCoverage h (in_order files)

-- ---- counts

-- where the count of a construct stands in the data of a file: `s[i]`, `f[i]`, `b[i][j]`
abbrev pub way : ConstructKind → (number path : ℕ) → List (List ℕ)
way construct_kind.Statement number path = name_units (codes "s") ∷ decimal number ∷ []
way construct_kind.Function number path = name_units (codes "f") ∷ decimal number ∷ []
way construct_kind.Branch number path = name_units (codes "b") ∷ decimal number ∷ decimal path ∷ []

-- a statement and a function have one path
abbrev pub IsOnePath : ConstructKind → ℕ → Type 0
IsOnePath construct_kind.Statement path = path ≡ 0
IsOnePath construct_kind.Function path = path ≡ 0
IsOnePath construct_kind.Branch path = Unit {0}

-- a count that goes up by one in the data of a file is an entry more
abbrev pub TellsEntries : Type 0
TellsEntries = (number_of_file : ℕ) (kind : ConstructKind) (number path : ℕ) (file : FileCoverage) →
    AreSmall file.statements → AreSmall file.functions → AreSmall file.branches → number < 2 ^ 32 - 1 → path < 2 ^ 32 - 1 → IsOnePath kind path →
    json_ticked (json_of (file_data file)) (way kind number path)
    ≡ json_of (file_data (counted_file (record { file = number_of_file; kind = kind; number = number; path = path } ∷ []) number_of_file file))
