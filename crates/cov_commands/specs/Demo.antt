-- What `demo` runs, and what it says of the coverage that the run left.
use Rattle.std.specs.Prelude.{ℕ, true, List, ◌++◌, codes, decimal, Some, None}
use Rattle.cov_base.specs.Store.{Held}
use Rattle.cov_object.specs.declared.file.FileCoverage.{FileCoverage}
use Rattle.cov_report.specs.Percent.{percent_text}
use Rattle.cov_sources.specs.declared.source.Source.{Source}
use Rattle.cov_summary.specs.declared.sums.Sums.{Sums}
use Rattle.cov_summary.specs.declared.totals.Totals.{Totals}
use Rattle.cov_summary.specs.Shortfall.{hundredths}
use Rattle.cov_summary.specs.Sums.{summary_of}
use Rattle.cov_commands.specs.DemoFile.{demo_text}

-- the steps of its run: 2^53 - 1
abbrev pub demo_turns : ℕ
demo_turns = 9007199254740991

-- the file that is made is the one source of the program, at a path, counted, and made from no other
abbrev pub demo_source : List ℕ → (seed count : ℕ) → Source
demo_source file seed count = record { path = file; bytes = demo_text seed count; counted = true; input = None }

-- so it stands in the place of what is held at each path
abbrev pub demo_held : (seed count : ℕ) → Held
demo_held seed count = λ path. Some (demo_text seed count)

-- `statements C/T P`: how many of them ran, how many there are, and the percentage
abbrev pub sum_line : List ℕ → Totals → List ℕ
sum_line name totals =
    name ++ codes " " ++ decimal totals.covered ++ codes "/" ++ decimal totals.total ++ codes " " ++ percent_text (hundredths totals.covered totals.total) ++ codes "\n"

abbrev pub sum_lines : Sums → List ℕ
sum_lines sums =
    sum_line (codes "statements") sums.statements ++ sum_line (codes "branches") sums.branches ++ sum_line (codes "functions") sums.functions ++ sum_line (codes "lines") sums.lines

abbrev pub demo_summary : List FileCoverage → List ℕ
demo_summary files = sum_lines (summary_of files).total
