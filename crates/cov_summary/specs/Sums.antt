-- The totals of files.
use Rattle.std.specs.Prelude.{ℕ, List, map, fold}
use Rattle.cov_object.specs.Branch.{BranchCoverage}
use Rattle.cov_object.specs.declared.file.FileCoverage.{FileCoverage}
use Rattle.cov_summary.specs.declared.totals.Totals.{Totals}
use Rattle.cov_summary.specs.declared.sums.Sums.{Sums}
use Rattle.cov_summary.specs.declared.sums.FileSums.{FileSums}
use Rattle.cov_summary.specs.declared.sums.Summary.{Summary}
use Rattle.cov_summary.specs.Totals.{none, with_counts, IsExact}
use Rattle.cov_summary.specs.Lines.{lines_of}

abbrev pub no_sums : Sums
no_sums = record { lines = none; statements = none; functions = none; branches = none }

-- the paths of these branches
abbrev pub with_branches : Totals → List (ℕ × BranchCoverage) → Totals
with_branches totals branches = fold (λ so_far branch. with_counts so_far (map (λ path. path.count) branch.1.paths)) totals branches

-- totals with those of one more file
abbrev pub with_file : Sums → FileCoverage → Sums
with_file sums file = record {
  lines = with_counts sums.lines (map (λ line. line.1) (lines_of file));
  statements = with_counts sums.statements (map (λ statement. statement.1.count) file.statements);
  functions = with_counts sums.functions (map (λ function. function.1.count) file.functions);
  branches = with_branches sums.branches file.branches;
}

-- one file's totals
abbrev pub sums_of : FileCoverage → Sums
sums_of file = with_file no_sums file

-- the same beside its path
abbrev pub file_sums : FileCoverage → FileSums
file_sums file = record { path = file.path; sums = sums_of file }

-- those of all together, and of each
abbrev pub summary_of : List FileCoverage → Summary
summary_of files = record { total = fold with_file no_sums files; files = map file_sums files }

abbrev pub AreExact : Sums → Type 0
AreExact sums = IsExact sums.lines × IsExact sums.statements × IsExact sums.functions × IsExact sums.branches
