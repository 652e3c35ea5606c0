-- What a report that is written to a sink says of its faults.
use Rattle.std.specs.Prelude.{◌≡◌, ℕ, ◌≤◌, Result, Err}
use Rattle.cov_base.specs.Causes.{Rose}
use Rattle.cov_base.specs.declared.failed.Failed.TheVariants.{Device}
use Rattle.cov_report.specs.declared.fault.ReportFault.{ReportFault}
use Rattle.cov_report.specs.declared.fault.ReportFault.TheVariants.{Sink}

-- a report took the sink's count of faults from `before` to `now`: the count never falls, and the sink failed only where it rose
pub record HasReportCause {T : Type 0} (before now : ℕ) (result : Result T ReportFault) : Type 0 where
  pub later : before ≤ now
  pub device : result ≡ Err (Sink Device) → Rose before now
