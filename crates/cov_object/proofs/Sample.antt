-- The text of one file's coverage, written out.
use Rattle.std.proofs.Common.{◌≡◌, ℕ, [], ◌∷◌, Some, None, refl, codes}
use Rattle.std.specs.Fmt.{digits}
use Rattle.json.specs.Print.{escape_byte}
use Rattle.cov_object.specs.declared.location.Position.{Position}
use Rattle.cov_object.specs.declared.location.Location.{Location}
use Rattle.cov_object.specs.declared.file.StatementCoverage.{StatementCoverage}
use Rattle.cov_object.specs.declared.file.PathCoverage.{PathCoverage}
use Rattle.cov_object.specs.declared.file.FileCoverage.{FileCoverage}
use Rattle.cov_object.specs.Location.{nowhere}
use Rattle.cov_object.specs.Json.{json_text}

abbrev on_line_1 : ℕ → Position
on_line_1 column = record { line = 1; column = Some column }

abbrev part : ℕ → ℕ → Location
part start end = record { start = Some (on_line_1 start); end = Some (on_line_1 end) }

abbrev statement : ℕ → ℕ → StatementCoverage
statement start end = record { location = part start end; count = 0 }

abbrev path : Location → PathCoverage
path location = record { location = location; count = 0 }

-- three statements that never ran, in an `if` without an `else`
abbrev file : FileCoverage
file = record {
  path = codes "a.js";
  hash = Some (codes "H");
  input_source_map = None;
  statements = (0, statement 8 9) ∷ (1, statement 11 27) ∷ (2, statement 18 27) ∷ [];
  functions = [];
  branches = (0, record { kind = codes "if"; location = part 11 27; paths = path (part 11 27) ∷ path nowhere ∷ [] }) ∷ [];
}

pub sample : json_text (file ∷ [])
    ≡ codes "{\"a.js\":{\"b\":{\"0\":[0,0]},\"branchMap\":{\"0\":{\"loc\":{\"end\":{\"column\":27,\"line\":1},\"start\":{\"column\":11,\"line\":1}},\"locations\":[{\"end\":{\"column\":27,\"line\":1},\"start\":{\"column\":11,\"line\":1}},{\"end\":{},\"start\":{}}],\"type\":\"if\"}},\"f\":{},\"fnMap\":{},\"hash\":\"H\",\"path\":\"a.js\",\"s\":{\"0\":0,\"1\":0,\"2\":0},\"statementMap\":{\"0\":{\"end\":{\"column\":9,\"line\":1},\"start\":{\"column\":8,\"line\":1}},\"1\":{\"end\":{\"column\":27,\"line\":1},\"start\":{\"column\":11,\"line\":1}},\"2\":{\"end\":{\"column\":27,\"line\":1},\"start\":{\"column\":18,\"line\":1}}}}}"
unfolding escape_byte digits
sample = refl
