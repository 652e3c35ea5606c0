-- What a text that is written to a sink says of its faults.
use Rattle.std.specs.Prelude.{◌≡◌, ℕ, ◌≤◌, Result, Err}
use Rattle.cov_base.specs.Causes.{Rose}
use Rattle.cov_base.specs.declared.failed.Failed.TheVariants.{Device}
use Rattle.js_sheet.specs.declared.fault.PrintFault.{PrintFault}
use Rattle.js_sheet.specs.declared.fault.PrintFault.TheVariants.{Sink}

-- a call took the sink's count of faults from `before` to `now`: the count never falls, and the sink failed only where it rose
pub record HasPrintCause {T : Type 0} (before now : ℕ) (result : Result T PrintFault) : Type 0 where
  pub later : before ≤ now
  pub device : result ≡ Err (Sink Device) → Rose before now
