-- The JSON value that a tree of data is, and the coverage that it tells.
use Rattle.std.specs.Prelude.{ℕ, suc, max, List, [], ◌∷◌, nat_le, if◌then◌else◌, Result, Err}
use Rattle.items.specs.declared.data.Data.{Data as Tree}
use Rattle.items.specs.declared.data.Data.TheOpen.{Data-F, DataProperty-F}
use Rattle.items.specs.declared.data.Data.TheFolds.{fold-Data, fold-DataProperty}
use Rattle.items.specs.declared.data.DataProperty.{DataProperty}
use Rattle.serde_json.specs.Data.{Data, null, boolean, number, string, array, object}
use Rattle.serde_json.specs.Find.{of_integer, as_object}
use Rattle.serde_json.specs.Read.{max_depth}
use Rattle.serde_json.specs.View.{items_of}
use Rattle.cov_object.specs.Json.{by_key}
use Rattle.cov_object.specs.Read.{files_or_fault}
use Rattle.cov_object.specs.declared.fault.CoverageFault.{CoverageFault}
use Rattle.cov_object.specs.declared.fault.CoverageFault.TheVariants as fault
use Rattle.cov_object.specs.declared.file.FileCoverage.{FileCoverage}

-- ---- the value

-- one level, with each tree inside already seen as its value; of equal keys the last one counts
abbrev pub value_step : Data-F Data (List ℕ × Data) → Data
value_step Data-F.Null = null
value_step (Data-F.Boolean truth) = boolean truth
value_step (Data-F.Number n) = number (of_integer n)
value_step (Data-F.String text) = string text
value_step (Data-F.Array items) = array (items_of items)
value_step (Data-F.Object properties) = object (by_key properties)

abbrev pub member_step : DataProperty-F Data (List ℕ × Data) → List ℕ × Data
member_step property = (property.key, property.value)

unfoldable pub value_of : Tree → Data
value_of = fold-Data Data (List ℕ × Data) value_step member_step

-- a property: its key beside its value
unfoldable pub member_of : DataProperty → List ℕ × Data
member_of = fold-DataProperty Data (List ℕ × Data) value_step member_step

-- ---- how deep arrays and objects nest

-- the greatest of these
abbrev pub deepest : List ℕ → ℕ
deepest [] = 0
deepest (depth ∷ rest) = max depth (deepest rest)

abbrev pub depth_step : Data-F ℕ ℕ → ℕ
depth_step Data-F.Null = 0
depth_step (Data-F.Boolean truth) = 0
depth_step (Data-F.Number n) = 0
depth_step (Data-F.String text) = 0
depth_step (Data-F.Array items) = suc (deepest items)
depth_step (Data-F.Object properties) = suc (deepest properties)

abbrev pub property_depth_step : DataProperty-F ℕ ℕ → ℕ
property_depth_step property = property.value

unfoldable pub depth_of : Tree → ℕ
depth_of = fold-Data ℕ ℕ depth_step property_depth_step

unfoldable pub property_depth : DataProperty → ℕ
property_depth = fold-DataProperty ℕ ℕ depth_step property_depth_step

-- ---- the coverage

-- the files that a tree tells; what nests deeper than JSON may is none
abbrev pub coverage_of_data : Tree → Result (List FileCoverage) CoverageFault
coverage_of_data tree = if nat_le (depth_of tree) max_depth then files_or_fault (as_object (value_of tree)) else Err fault.BadJson
