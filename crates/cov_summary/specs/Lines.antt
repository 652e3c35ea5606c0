-- The lines of a file, and how often each ran.
use Rattle.std.specs.Prelude.{ℕ, List, [], fold, max, Option, Some, None}
use Rattle.std.specs.Ordering.{nat_cmp}
use Rattle.std.specs.BTreeMap.{insert_entry, is_at}
use Rattle.std.specs.Map.{lookup}
use Rattle.cov_object.specs.declared.location.Position.{Position}
use Rattle.cov_object.specs.declared.file.StatementCoverage.{StatementCoverage}
use Rattle.cov_object.specs.declared.file.FileCoverage.{FileCoverage}

-- a count, and the count that is there already, if any: the greater
abbrev pub greater : Option ℕ → ℕ → ℕ
greater None count = count
greater (Some other) count = max other count

-- the lines, ascending, with one on which something starts that ran so often
abbrev pub with_line : List (ℕ × ℕ) → ℕ → ℕ → List (ℕ × ℕ)
with_line lines line count = insert_entry nat_cmp lines line (greater (lookup (is_at (nat_cmp line)) lines) count)

-- the lines with that of a statement: what starts nowhere has none
abbrev pub at_start : List (ℕ × ℕ) → Option Position → ℕ → List (ℕ × ℕ)
at_start lines None count = lines
at_start lines (Some start) count = with_line lines start.line count

abbrev pub with_statement : List (ℕ × ℕ) → ℕ × StatementCoverage → List (ℕ × ℕ)
with_statement lines statement = at_start lines statement.1.location.start statement.1.count

-- the lines on which a statement starts, each with the greatest count of those that start on it
abbrev pub lines_of : FileCoverage → List (ℕ × ℕ)
lines_of file = fold with_statement [] file.statements
