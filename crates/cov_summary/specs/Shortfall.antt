-- Percentages, and which of them are below a threshold.
use Rattle.std.specs.Prelude.{ℕ, ◌*◌, ◌/◌, cond, nat_eq, nat_lt, List, [], ◌∷◌, ◌++◌, Option, Some, None}
use Rattle.cov_summary.specs.declared.totals.Totals.{Totals}
use Rattle.cov_summary.specs.declared.sums.Sums.{Sums}
use Rattle.cov_summary.specs.declared.shortfall.Metric.{Metric}
use Rattle.cov_summary.specs.declared.shortfall.Metric.TheVariants.{Lines, Statements, Branches, Functions}
use Rattle.cov_summary.specs.declared.shortfall.Thresholds.{Thresholds}
use Rattle.cov_summary.specs.declared.shortfall.Shortfall.{Shortfall}

-- the hundredths of a percent, cut to whole: all of them where there is nothing
abbrev pub hundredths : ℕ → ℕ → ℕ
hundredths covered total = cond (nat_eq total 0) 10000 (10000 * covered / total)

-- what is below this threshold, if one is asked for
abbrev pub shortfall : Metric → Totals → Option ℕ → List Shortfall
shortfall what totals None = []
shortfall what totals (Some threshold) =
    let percent = hundredths totals.covered totals.total in
    cond (nat_lt percent (100 * threshold)) (record { what = what; hundredths = percent; threshold = threshold } ∷ []) []

abbrev pub shortfalls_of : Sums → Thresholds → List Shortfall
shortfalls_of total thresholds =
    shortfall Lines total.lines thresholds.lines
    ++ (shortfall Statements total.statements thresholds.statements
    ++ (shortfall Branches total.branches thresholds.branches
    ++ shortfall Functions total.functions thresholds.functions))
