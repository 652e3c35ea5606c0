-- The report of sums in JSON.
use Rattle.std.specs.Prelude.{ℕ, cond, nat_eq, List, ◌++◌, codes, decimal}
use Rattle.std.specs.Cmp.Lexicographic.{pointwise}
use Rattle.std.specs.List.{flat_map}
use Rattle.json.specs.Print.{quoted}
use Rattle.cov_object.specs.declared.file.FileCoverage.{FileCoverage}
use Rattle.cov_summary.specs.declared.totals.Totals.{Totals}
use Rattle.cov_summary.specs.declared.sums.Sums.{Sums}
use Rattle.cov_summary.specs.declared.sums.FileSums.{FileSums}
use Rattle.cov_summary.specs.Sums.{summary_of}
use Rattle.cov_summary.specs.Shortfall.{hundredths}
use Rattle.cov_report.specs.Percent.{percent_text}

-- a number after what begins its member
abbrev pub number_member : List ℕ → ℕ → List ℕ
number_member start number = start ++ decimal number

-- how many there are, how many ran, and the percentage of these
unfoldable pub totals_text : Totals → List ℕ
totals_text totals =
    number_member (codes "{\"total\":") totals.total
    ++ (number_member (codes ",\"covered\":") totals.covered
    ++ (codes ",\"skipped\":0,\"pct\":" ++ (percent_text (hundredths totals.covered totals.total)
    ++ codes "}")))

-- totals after what begins their member
abbrev pub totals_member : List ℕ → Totals → List ℕ
totals_member start totals = start ++ totals_text totals

unfoldable pub sums_text : Sums → List ℕ
sums_text sums =
    totals_member (codes "{\"lines\":") sums.lines
    ++ (totals_member (codes ",\"statements\":") sums.statements
    ++ (totals_member (codes ",\"functions\":") sums.functions
    ++ (totals_member (codes ",\"branches\":") sums.branches
    ++ codes "}")))

-- the key of a file: `total` is that of all files
abbrev pub shown : List ℕ → List ℕ
shown path = cond (pointwise nat_eq path (codes "total")) (codes "./total") path

-- a file after another
unfoldable pub file_text : FileSums → List ℕ
file_text file = codes "," ++ (quoted (shown file.path) ++ (codes ":" ++ sums_text file.sums))

-- one line: all files together, and each
abbrev pub json_summary_text : List FileCoverage → List ℕ
json_summary_text files =
    let summary = summary_of files in
    codes "{\"total\":" ++ (sums_text summary.total ++ (flat_map file_text summary.files ++ codes "}\n"))
