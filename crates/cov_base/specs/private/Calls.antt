-- The numbers of calls, and counts of the faults that they answer.
use Rattle.std.specs.Prelude.{ℕ, ◌+◌, ◌-◌, ◌^◌, min, Result, Ok, Err}
use Rattle.cov_base.specs.declared.failed.Failed.{Failed}
use Rattle.cov_base.specs.declared.failed.Failed.TheVariants.{Device, Memory}

-- one more, which stands still at 2^64 - 1
abbrev pub raised : ℕ → ℕ
raised number = min (number + 1) (2 ^ 64 - 1)

-- a count of faults after a call: only `Device` raises it
abbrev pub faults_after : {T : Type 0} → Result T Failed → ℕ → ℕ
faults_after (Ok value) faults = faults
faults_after (Err Memory) faults = faults
faults_after (Err Device) faults = raised faults
