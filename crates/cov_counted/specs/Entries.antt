-- The data of a file's coverage count the entries of a log.
use Rattle.std.specs.Prelude.{◌≡◌, ℕ, List}
use Rattle.js_terms.specs.Mark.{Mark}
use Rattle.js_counted.specs.Files.{counted_by}
use Rattle.js_counted.specs.Numbers.{AllCountable}
use Rattle.cov_object.specs.Json.{file_data}
use Rattle.cov_object.specs.Numbered.{AreSmall}
use Rattle.cov_object.specs.declared.file.FileCoverage.{FileCoverage}
use Rattle.cov_expected.specs.Expected.{counted_file}
use Rattle.cov_expected.specs.Told.{json_of}

-- with one more for each entry they are those of the coverage with its entries
abbrev pub CountsEntries : Type 0
CountsEntries = (number : ℕ) (log : List Mark) (file : FileCoverage) → AreSmall file.statements → AreSmall file.functions → AreSmall file.branches → AllCountable log →
    counted_by number log (json_of (file_data file)) ≡ json_of (file_data (counted_file log number file))
