-- Counts of faults, and what an answer `Device` says of them.
use Rattle.std.specs.Prelude.{◌≡◌, ℕ, ◌+◌, ◌-◌, ◌^◌, ◌≤◌, min, Result, Err}
use Rattle.cov_base.specs.declared.failed.Failed.{Failed}
use Rattle.cov_base.specs.declared.failed.Failed.TheVariants.{Device}

-- a count rose: it is greater than before, or stands at its type's end
abbrev pub Rose : ℕ → ℕ → Type 0
Rose before now = min (before + 1) (2 ^ 64 - 1) ≤ now

-- a call took a count of faults from `before` to `now`: the count never falls, and Device is answered only where it rose
pub record HasCause {T : Type 0} (before now : ℕ) (result : Result T Failed) : Type 0 where
  pub later : before ≤ now
  pub device : result ≡ Err Device → Rose before now
