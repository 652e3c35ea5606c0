-- The report as a table: a line of text a clause.
use Rattle.std.specs.Prelude.{ℕ, zero, suc, ◌+◌, ◌-◌, cond, max, nat_eq, List, [], ◌∷◌, ◌++◌, length, fold, codes, decimal}
use Rattle.std.specs.List.{flat_map}
use Rattle.std.specs.Str.{chars}
use Rattle.cov_object.specs.declared.file.FileCoverage.{FileCoverage}
use Rattle.cov_summary.specs.declared.totals.Totals.{Totals}
use Rattle.cov_summary.specs.declared.sums.Sums.{Sums}
use Rattle.cov_summary.specs.Lines.{lines_of}
use Rattle.cov_summary.specs.Shortfall.{hundredths}
use Rattle.cov_summary.specs.Sums.{no_sums, sums_of, with_file}
use Rattle.cov_report.specs.Percent.{percent_text}
use Rattle.cov_report.specs.Piece.{line, printed}

-- so many of a byte
abbrev pub many : ℕ → ℕ → List ℕ
many byte zero = []
many byte (suc n) = byte ∷ many byte n

-- how many characters the first column has room for: 9 at least
abbrev pub width_of : List FileCoverage → ℕ
width_of files = fold (λ width file. max width (length (chars file.path))) 9 files

-- a name, filled up with spaces to this width
abbrev pub filled : ℕ → List ℕ → List ℕ
filled width name = printed name ++ many 0x20 (width - length (chars name))

-- a percentage at the right of so many places
unfoldable pub percent_cell : ℕ → Totals → List ℕ
percent_cell places totals =
    let percent = percent_text (hundredths totals.covered totals.total) in
    many 0x20 (places - length percent) ++ percent

-- the percentages of statements, branches, functions and lines
unfoldable pub cells : Sums → List ℕ
cells sums =
    percent_cell 7 sums.statements
    ++ (codes " | " ++ (percent_cell 8 sums.branches
    ++ (codes " | " ++ (percent_cell 7 sums.functions
    ++ (codes " | " ++ percent_cell 7 sums.lines)))))

-- ---- the lines that didn't run

-- from a line to a line, as `5` or `1-3`
abbrev pub run_text : ℕ → ℕ → List ℕ
run_text start end = cond (nat_eq start end) (decimal start) (decimal start ++ (codes "-" ++ decimal end))

-- a run so far, and the lines after it: what follows at once belongs to it
abbrev pub runs_text : ℕ → ℕ → List ℕ → List ℕ
runs_text start end [] = run_text start end
runs_text start end (line ∷ lines) =
    cond (nat_eq line (end + 1)) (runs_text start line lines)
    (run_text start end ++ (codes "," ++ runs_text line line lines))

-- nothing, or a space and the runs of consecutive lines
abbrev pub lines_text : List ℕ → List ℕ
lines_text [] = []
lines_text (line ∷ lines) = codes " " ++ runs_text line line lines

-- the lines whose count is 0
abbrev pub uncovered : List (ℕ × ℕ) → List ℕ
uncovered [] = []
uncovered (line ∷ lines) = cond (nat_eq line.1 0) (line.0 ∷ uncovered lines) (uncovered lines)

-- ---- the rows

abbrev pub rule : ℕ → List ℕ
rule width = many 0x2D width ++ codes "-|---------|----------|---------|---------|-------------------\n"

abbrev pub header : ℕ → List ℕ
header width = filled width (codes "File") ++ codes " | % Stmts | % Branch | % Funcs | % Lines | Uncovered Line #s\n"

abbrev pub row : ℕ → List ℕ → Sums → List ℕ → List ℕ
row width name sums end = filled width name ++ (codes " | " ++ (cells sums ++ (codes " |" ++ (end ++ codes "\n"))))

unfoldable pub file_row : ℕ → FileCoverage → List ℕ
file_row width file = row width file.path (sums_of file) (lines_text (uncovered (lines_of file)))

-- a rule, the header, a rule, all files together, each file, a rule
abbrev pub table_text : List FileCoverage → List ℕ
table_text files =
    let width = width_of files in
    rule width ++ (header width ++ (rule width
    ++ (row width (codes "All files") (fold with_file no_sums files) []
    ++ (flat_map (file_row width) files ++ rule width))))
