-- The literal of a value, as the preamble of a counted file spells it.
use Rattle.std.specs.Prelude.{◌≡◌, ℕ, List, IfSome}
use Rattle.std.specs.Str.{IsUtf8}
use Rattle.serde_json.specs.Data.{Data}
use Rattle.cov_object.specs.Json.{file_data}
use Rattle.cov_object.specs.Numbered.{AreSmall}
use Rattle.cov_object.specs.private.Formed.{IsFormed}
use Rattle.cov_object.specs.declared.file.FileCoverage.{FileCoverage}
use Rattle.js_value.specs.Functions.{name_units}
use Rattle.js_counter.specs.Literals.{Literal, expr_of, data_of, KeysApart}
use Rattle.cov_rewritten.specs.Preamble.{json_string, literal}
use Rattle.cov_expected.specs.Plain.{IsPlainMap}
use Rattle.cov_expected.specs.Told.{json_of}

-- a text of JSON has the units of the text
abbrev pub SpellsUnits : Type 0
SpellsUnits = (s : List ℕ) → IsUtf8 s → (json_string s).units ≡ name_units s

-- a literal that is spelled as the preamble spells the value, makes its data, and has each key once
pub record LiteralOf (d : Data) : Type 0 where
  pub made : Literal
  pub spelled : expr_of made ≡ literal d
  pub tells : data_of made ≡ json_of d
  pub keys : KeysApart made

-- the data of a file's coverage have such a literal, where its source map is plain
abbrev pub FilesHaveLiterals : Type 0
FilesHaveLiterals = (file : FileCoverage) → IsFormed file → AreSmall file.statements → AreSmall file.functions → AreSmall file.branches → IfSome file.input_source_map IsPlainMap →
    LiteralOf (file_data file)
