-- How many there are of something, and how many of them ran.
use Rattle.std.specs.Prelude.{ℕ, ◌+◌, ◌^◌, ◌<◌, ◌≤◌, cond, nat_lt, List, fold}
use Rattle.cov_summary.specs.declared.totals.Totals.{Totals}

-- one more, up to 2^53 - 1
abbrev pub next : ℕ → ℕ
next n = cond (nat_lt n 9007199254740991) (n + 1) n

abbrev pub none : Totals
none = record { total = 0; covered = 0 }

-- one more, which ran so often
abbrev pub with_count : Totals → ℕ → Totals
with_count totals count = record {
  total = next totals.total;
  covered = cond (nat_lt 0 count) (next totals.covered) totals.covered;
}

-- more of them, which ran so often
abbrev pub with_counts : Totals → List ℕ → Totals
with_counts totals counts = fold with_count totals counts

-- no more ran than there are, and the numbers are exact in JSON
abbrev pub IsExact : Totals → Type 0
IsExact totals = (totals.covered ≤ totals.total) × (totals.total < 2 ^ 53)
