-- What the program owes, by what the words ask: for each status when it comes, what has been printed, what the store holds, and
-- the lines on standard error.
use Rattle.std.specs.Prelude.{◌≡◌, ℕ, ◌<◌, ◌≤◌, ◌⊎◌, List, [], length, take, Option, None, Some, IsSome}
use Rattle.cov_base.specs.Store.{Held}
use Rattle.cov_base.specs.Sink.{after_more, TakesPrefix}
use Rattle.cov_base.specs.Causes.{Rose}
use Rattle.cov_words.specs.declared.command.Command.{Command}
use Rattle.cov_words.specs.declared.command.Command.TheVariants.{Help, OnSource, Instrument, OnCoverage, OnV8}
use Rattle.cov_words.specs.declared.command.CoverageTask.TheVariants.{Merge}
use Rattle.cov_words.specs.declared.command.SourceTask.TheVariants.{Run}
use Rattle.cov_commands.specs.Help as help
use Rattle.cov_commands.specs.Source as source
use Rattle.cov_commands.specs.Instrument as instrument
use Rattle.cov_commands.specs.Coverage as coverage
use Rattle.cov_commands.specs.V8 as v8
use Rattle.cov_commands.specs.Line as said
use Rattle.cov_commands.specs.declared.status.Status.{Status}
use Rattle.cov_commands.specs.declared.status.Status.TheVariants as status

-- ---- when each status comes; `told` is what the store holds, where it tells

-- the status is due to what is asked; words with no reading ask for nothing, and are Usage, and memory may be wanting at any point
abbrev pub IsDue : Option Command → Status → Option Held → Type 0
IsDue None wanted told = (wanted ≡ status.Usage) ⊎ (wanted ≡ status.Memory)
IsDue (Some Help) wanted told = help.IsDue wanted
IsDue (Some (OnSource task file)) wanted told = source.IsDue wanted task file told
IsDue (Some (Instrument out files)) wanted told = instrument.IsDue wanted files told
IsDue (Some (OnCoverage task files)) wanted told = coverage.IsDue wanted task files told
IsDue (Some (OnV8 out files)) wanted told = v8.IsDue wanted files told

-- a fault or want of memory came first
abbrev pub GivesWay : Status → Type 0
GivesWay result = (result ≡ status.ReadFault) ⊎ (result ≡ status.WriteFault) ⊎ (result ≡ status.Memory)

-- where the store tells what it holds, a status that is due comes, unless it gives way to one that may come at any time
abbrev pub Comes : Option Command → Status → Option Held → Type 0
Comes asked result told = (wanted : Status) → IsSome told → IsDue asked wanted told → (result ≡ wanted) ⊎ GivesWay result ⊎ GivesWay wanted

-- words with no reading are Usage whether or not the store tells, and give way to want of memory alone
abbrev pub IsUsage : Option Command → Status → Type 0
IsUsage asked result = asked ≡ None → (result ≡ status.Usage) ⊎ (result ≡ status.Memory)

-- ---- what has been printed

-- the output that is defined
abbrev pub IsOutput : Option Command → Option Held → List ℕ → Type 0
IsOutput None told output = output ≡ []
IsOutput (Some Help) told output = output ≡ help.help_text
IsOutput (Some (OnSource task file)) told output = source.IsOutput task file told output
IsOutput (Some (Instrument out files)) told output = output ≡ []
IsOutput (Some (OnCoverage task files)) told output = coverage.IsOutput task files told output
IsOutput (Some (OnV8 out files)) told output = output ≡ []

-- nothing was printed, or a prefix of that of what the files hold; where the store doesn't tell, of what they could hold
abbrev pub PrintsPrefix : Option Command → Option Held → Option (List ℕ) → Option (List ℕ) → Type 0
PrintsPrefix None told before after = after ≡ before
PrintsPrefix (Some Help) told before after = help.PrintsPrefix before after
PrintsPrefix (Some (OnSource task file)) told before after = source.PrintsPrefix task file told before after
PrintsPrefix (Some (Instrument out files)) told before after = after ≡ before
PrintsPrefix (Some (OnCoverage task files)) told before after = coverage.PrintsPrefix task files told before after
PrintsPrefix (Some (OnV8 out files)) told before after = after ≡ before

-- with these statuses all of it was printed
abbrev pub PrintsAll : Status → Type 0
PrintsAll status.Ok = Unit {0}
PrintsAll status.Threw = Unit {0}
PrintsAll status.Range = Unit {0}
PrintsAll status.Going = Unit {0}
PrintsAll status.Below = Unit {0}
PrintsAll other = ⊥

-- that of an answer which comes to the status was printed whole
abbrev pub PrintsOutput : Option Command → Status → Option Held → Option (List ℕ) → Option (List ℕ) → Type 0
PrintsOutput None result told before after = ⊥
PrintsOutput (Some Help) result told before after = help.PrintsOutput before after
PrintsOutput (Some (OnSource task file)) result told before after = source.PrintsOutput result task file told before after
PrintsOutput (Some (Instrument out files)) result told before after = after ≡ before
PrintsOutput (Some (OnCoverage task files)) result told before after = coverage.PrintsOutput result task files told before after
PrintsOutput (Some (OnV8 out files)) result told before after = after ≡ before

-- and with these nothing was
abbrev pub PrintsNothing : Status → Type 0
PrintsNothing status.Usage = Unit {0}
PrintsNothing status.Refused = Unit {0}
PrintsNothing status.BadInput = Unit {0}
PrintsNothing status.ReadFault = Unit {0}
PrintsNothing status.Limit = Unit {0}
PrintsNothing status.NoFile = Unit {0}
PrintsNothing other = ⊥

-- ---- what the store holds

-- `run`, `merge` and `v8` put their JSON at their path, and `instrument` puts texts below its folder; all else leaves the store as it was
abbrev pub Stores : Option Command → Status → Option Held → Option Held → Type 0
Stores (Some (OnSource (Run turns out exclude) file)) result before after = source.Puts result (Run turns out exclude) out file before after
Stores (Some (Instrument out files)) result before after = instrument.Puts result out files before after
Stores (Some (OnCoverage (Merge out) files)) result before after = coverage.Puts result out files before after
Stores (Some (OnV8 out files)) result before after = v8.Puts result out files before after
Stores other result before after = after ≡ before

-- and puts nothing, so that no put fails
abbrev pub CountsPuts : Option Command → ℕ → ℕ → Type 0
CountsPuts (Some (OnSource (Run turns out exclude) file)) before after = before ≤ after
CountsPuts (Some (Instrument out files)) before after = before ≤ after
CountsPuts (Some (OnCoverage (Merge out) files)) before after = before ≤ after
CountsPuts (Some (OnV8 out files)) before after = before ≤ after
CountsPuts other before after = after ≡ before

-- ---- the lines on standard error

-- the lines of a status; with Ok there are none
abbrev pub AreLines : Option Command → Status → Option Held → List ℕ → Type 0
AreLines None status.Usage told lines = lines ≡ said.line said.Usage
AreLines None status.Memory told lines = lines ≡ said.line said.OutOfMemory
AreLines None other told lines = ⊥
AreLines (Some Help) result told lines = help.AreLines result lines
AreLines (Some (OnSource task file)) result told lines = source.IsLine result task file told lines
AreLines (Some (Instrument out files)) result told lines = instrument.IsLine result files told lines
AreLines (Some (OnCoverage task files)) result told lines = coverage.AreLines result task files told lines
AreLines (Some (OnV8 out files)) result told lines = v8.AreLines result files told lines

-- a sink has taken the lines and no more, or a prefix of them where its count of faults rose
pub record Says (lines : List ℕ) (before after : Option (List ℕ)) (faults_before faults_after : ℕ) : Type 0 where
  pub count : ℕ
  pub within : count ≤ length lines
  pub taken : after ≡ after_more before (take count lines)
  pub cut : count < length lines → Rose faults_before faults_after

-- the lines of the status were said
pub record SaysLines (asked : Option Command) (result : Status) (told : Option Held) (before after : Option (List ℕ)) (faults_before faults_after : ℕ) : Type 0 where
  pub lines : List ℕ
  pub are : AreLines asked result told lines
  pub says : Says lines before after faults_before faults_after

-- the line was said of a path whose read failed
pub record SaysFailedRead (Failed : List ℕ → Type 0) (before after : Option (List ℕ)) (faults_before faults_after : ℕ) : Type 0 where
  pub path : List ℕ
  pub failed : Failed path
  pub says : Says (said.line (said.ReadFailed path)) before after faults_before faults_after

-- for want of memory no more than a prefix of its line was said, or of the lines that were due
pub record SaysAtMost (asked : Option Command) (told : Option Held) (before after : Option (List ℕ)) : Type 0 where
  pub due : Status
  pub lines : List ℕ
  pub are : AreLines asked due told lines
  pub taken : TakesPrefix before after lines
