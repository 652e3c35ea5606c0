use Rattle.std.proofs.Common.{◌≡◌, ℕ, List, ◌++◌, codes, decimal, append_assoc}
use Rattle.cov_commands.specs.DemoFile.{function_line, function_lines, call_lines, demo_text}
use Rattle.cov_commands.specs.Demo.{sum_line, sum_lines}
use Rattle.cov_report.specs.Percent.{percent_text}
use Rattle.cov_summary.specs.declared.sums.Sums.{Sums}
use Rattle.cov_summary.specs.declared.totals.Totals.{Totals}
use Rattle.cov_summary.specs.Shortfall.{hundredths}

-- the parts of a line and of the file, in the order in which they are written
pub line-function : (k constant : ℕ) → function_line k constant
    ≡ codes "function f" ++ (decimal k ++ (codes "(a) { return a % 2 ? a + " ++ (decimal constant ++ (codes " : a - " ++ (decimal constant ++ codes "; }\n")))))
line-function k constant = simp append_assoc

pub text-demo : (seed count : ℕ) → demo_text seed count ≡ codes "let t = 0;\n" ++ (function_lines seed count ++ (call_lines count ++ codes "print(t);\n"))
text-demo seed count = simp append_assoc

pub line-sum : (name : List ℕ) (totals : Totals) → sum_line name totals
    ≡ name ++ (codes " " ++ (decimal totals.covered ++ (codes "/" ++ (decimal totals.total ++ (codes " " ++ (percent_text (hundredths totals.covered totals.total) ++ codes "\n"))))))
line-sum name totals = simp append_assoc

four : (a b c d : List ℕ) → a ++ b ++ c ++ d ≡ a ++ (b ++ (c ++ d))
four a b c d = simp append_assoc

pub lines-sum : (sums : Sums) → sum_lines sums
    ≡ sum_line (codes "statements") sums.statements ++ (sum_line (codes "branches") sums.branches ++ (sum_line (codes "functions") sums.functions ++ sum_line (codes "lines") sums.lines))
lines-sum sums = four (sum_line (codes "statements") sums.statements) (sum_line (codes "branches") sums.branches) (sum_line (codes "functions") sums.functions) (sum_line (codes "lines") sums.lines)
