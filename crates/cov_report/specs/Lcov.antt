-- The report as an LCOV tracefile: a line of text a clause.
use Rattle.std.specs.Prelude.{ℕ, List, ◌++◌, codes, decimal}
use Rattle.std.specs.List.{flat_map, enumerate_from}
use Rattle.cov_object.specs.declared.file.FunctionCoverage.{FunctionCoverage}
use Rattle.cov_object.specs.declared.file.PathCoverage.{PathCoverage}
use Rattle.cov_object.specs.Branch.{BranchCoverage}
use Rattle.cov_object.specs.declared.file.FileCoverage.{FileCoverage}
use Rattle.cov_summary.specs.declared.totals.Totals.{Totals}
use Rattle.cov_summary.specs.Sums.{sums_of}
use Rattle.cov_summary.specs.Lines.{lines_of}
use Rattle.cov_report.specs.Piece.{line, printed, start_line}

-- a keyword and a number
abbrev pub number_line : List ℕ → ℕ → List ℕ
number_line word number = line (word ++ decimal number)

-- one more number
unfoldable pub next : ℕ → List ℕ
next number = codes "," ++ decimal number

-- a function: the line on which its name starts, and its name
abbrev pub function_line : ℕ × FunctionCoverage → List ℕ
function_line function = line (codes "FN:" ++ (decimal (start_line function.1.declaration) ++ (codes "," ++ printed function.1.name)))

-- how often a function was entered
abbrev pub function_count_line : ℕ × FunctionCoverage → List ℕ
function_count_line function = line (codes "FNDA:" ++ (decimal function.1.count ++ (codes "," ++ printed function.1.name)))

-- a line of the source, and how often it ran
abbrev pub source_line : ℕ × ℕ → List ℕ
source_line counted = line (codes "DA:" ++ (decimal counted.0 ++ (codes "," ++ decimal counted.1)))

-- a path of a branch: the line on which the branch starts, the branch's number, the path's number, and how often it was taken
abbrev pub path_line : ℕ → ℕ → ℕ × PathCoverage → List ℕ
path_line start branch path = line (codes "BRDA:" ++ (decimal start ++ (next branch ++ (next path.0 ++ next path.1.count))))

-- the paths of a branch
abbrev pub branch_lines : ℕ × BranchCoverage → List ℕ
branch_lines branch = flat_map (path_line (start_line branch.1.location) branch.0) (enumerate_from 0 branch.1.paths)

abbrev pub function_lines : FileCoverage → Totals → List ℕ
function_lines file totals =
    flat_map function_line file.functions
    ++ (number_line (codes "FNF:") totals.total
    ++ (number_line (codes "FNH:") totals.covered
    ++ flat_map function_count_line file.functions))

abbrev pub source_lines : FileCoverage → Totals → List ℕ
source_lines file totals =
    flat_map source_line (lines_of file)
    ++ (number_line (codes "LF:") totals.total
    ++ number_line (codes "LH:") totals.covered)

abbrev pub all_branch_lines : FileCoverage → Totals → List ℕ
all_branch_lines file totals =
    flat_map branch_lines file.branches
    ++ (number_line (codes "BRF:") totals.total
    ++ number_line (codes "BRH:") totals.covered)

-- one file
abbrev pub file_text : FileCoverage → List ℕ
file_text file =
    let sums = sums_of file in
    codes "TN:\n"
    ++ (line (codes "SF:" ++ printed file.path)
    ++ (function_lines file sums.functions
    ++ (source_lines file sums.lines
    ++ (all_branch_lines file sums.branches
    ++ codes "end_of_record\n"))))

-- the files, in the byte order of their paths
abbrev pub lcov_text : List FileCoverage → List ℕ
lcov_text files = flat_map file_text files
