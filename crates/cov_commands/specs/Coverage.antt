-- What is owed for a command on coverage files, which `merge`, `report` and `check` are: what they come to, when each status is
-- due, what is printed and put, and what is said.
use Rattle.std.specs.Prelude.{◌≡◌, ℕ, List, [], ◌∷◌, ◌++◌, Option, Some, None, Result, Ok, Err}
use Rattle.cov_base.specs.Store.{Held, BothTell, KeepsOthers}
use Rattle.cov_base.specs.Sink.{after_more, TakesPrefix}
use Rattle.cov_object.specs.declared.file.FileCoverage.{FileCoverage}
use Rattle.cov_object.specs.Json.{json_text}
use Rattle.cov_summary.specs.declared.shortfall.Shortfall.{Shortfall}
use Rattle.cov_summary.specs.Shortfall.{shortfalls_of}
use Rattle.cov_summary.specs.Sums.{summary_of}
use Rattle.cov_report.specs.JsonSummary.{json_summary_text}
use Rattle.cov_report.specs.Lcov.{lcov_text}
use Rattle.cov_report.specs.Table.{table_text}
use Rattle.cov_inputs.specs.Inputs.{Input, AreRead, HaveSums, FailsAt, gathered, read_from}
use Rattle.cov_inputs.specs.declared.refusal.Refusal.{Refusal}
use Rattle.cov_inputs.specs.declared.refusal.Refusal.TheVariants as refusal
use Rattle.cov_words.specs.declared.command.CoverageTask.{CoverageTask}
use Rattle.cov_words.specs.declared.command.CoverageTask.TheVariants.{Merge, Report, Check}
use Rattle.cov_words.specs.declared.command.Reporter.{Reporter}
use Rattle.cov_words.specs.declared.command.Reporter.TheVariants as reporter
use Rattle.cov_commands.specs.Line as said
use Rattle.cov_commands.specs.declared.status.Status.{Status}
use Rattle.cov_commands.specs.declared.status.Status.TheVariants as status

-- ---- what a task comes to

-- the JSON of these files, and LF
abbrev pub json_line : List FileCoverage → List ℕ
json_line sums = json_text sums ++ 0x0A ∷ []

-- the report that a reporter writes of these files
abbrev pub report_text : Reporter → List FileCoverage → List ℕ
report_text reporter.Text sums = table_text sums
report_text reporter.Json sums = json_line sums
report_text reporter.JsonSummary sums = json_summary_text sums
report_text reporter.Lcov sums = lcov_text sums

-- a status, what is printed, and what is said
pub record Verdict : Type 0 where
  pub status : Status
  pub output : List ℕ
  pub said : Option said.Message

-- percentages that are below their thresholds are told
abbrev pub check_verdict : List Shortfall → Verdict
check_verdict [] = record { status = status.Ok; output = []; said = None }
check_verdict (first ∷ rest) = record { status = status.Below; output = []; said = Some (said.Below (first ∷ rest)) }

abbrev pub verdict_on : CoverageTask → List FileCoverage → Verdict
verdict_on (Merge out) sums = record { status = status.Ok; output = []; said = None }
verdict_on (Report which) sums = record { status = status.Ok; output = report_text which sums; said = None }
verdict_on (Check thresholds) sums = check_verdict (shortfalls_of (summary_of sums).total thresholds)

-- what is said of files that have no sums, and the status
abbrev pub message_of_refusal : Refusal → said.Message
message_of_refusal (refusal.NoFile path) = said.NoFile path
message_of_refusal (refusal.TooLong path) = said.TooLong path
message_of_refusal (refusal.NotUtf8 path at) = said.NotUtf8 path at
message_of_refusal (refusal.BadInput path what) = said.BadInput path what
message_of_refusal (refusal.CountTooLarge sum) = said.CountTooLarge sum

abbrev pub status_of_refusal : Refusal → Status
status_of_refusal (refusal.NoFile path) = status.NoFile
status_of_refusal (refusal.TooLong path) = status.Limit
status_of_refusal (refusal.NotUtf8 path at) = status.Refused
status_of_refusal (refusal.BadInput path what) = status.BadInput
status_of_refusal (refusal.CountTooLarge sum) = status.Limit

abbrev pub refused : Refusal → Verdict
refused why = record { status = status_of_refusal why; output = []; said = Some (message_of_refusal why) }

abbrev pub verdict_of : CoverageTask → Result (List FileCoverage) Refusal → Verdict
verdict_of task (Ok sums) = verdict_on task sums
verdict_of task (Err why) = refused why

-- on what was found at the paths
abbrev pub verdict : CoverageTask → List Input → Verdict
verdict task inputs = verdict_of task (gathered [] inputs)

-- ---- when each status is due; `told` is what the store holds, where it tells

-- what the files hold, or, where the store doesn't tell, what they could hold, comes to this status
pub record ComesTo (result : Status) (task : CoverageTask) (files : List (List ℕ)) (told : Option Held) : Type 0 where
  pub inputs : List Input
  pub read : AreRead told files inputs
  pub comes : (verdict task inputs).status ≡ result

abbrev pub IsDue : Status → CoverageTask → List (List ℕ) → Option Held → Type 0
IsDue status.ReadFault task files told = Unit {0}
IsDue status.WriteFault task files told = (sums : List FileCoverage) × HaveSums told files sums
IsDue status.Memory task files told = Unit {0}
IsDue other task files told = ComesTo other task files told

-- ---- what has been printed, and what the store holds

pub record IsOutput (task : CoverageTask) (files : List (List ℕ)) (told : Option Held) (output : List ℕ) : Type 0 where
  pub inputs : List Input
  pub read : AreRead told files inputs
  pub is : output ≡ (verdict task inputs).output

pub record PrintsPrefix (task : CoverageTask) (files : List (List ℕ)) (told : Option Held) (before after : Option (List ℕ)) : Type 0 where
  pub inputs : List Input
  pub read : AreRead told files inputs
  pub taken : TakesPrefix before after (verdict task inputs).output

pub record PrintsOutput (result : Status) (task : CoverageTask) (files : List (List ℕ)) (told : Option Held) (before after : Option (List ℕ)) : Type 0 where
  pub inputs : List Input
  pub read : AreRead told files inputs
  pub comes : (verdict task inputs).status ≡ result
  pub printed : after ≡ after_more before (verdict task inputs).output

-- at the path of `merge` stands the JSON of the sums
pub record PutsSums (out : List ℕ) (files : List (List ℕ)) (old new : Held) : Type 0 where
  pub sums : List FileCoverage
  pub are : gathered [] (read_from old files) ≡ Ok sums
  pub put : new out ≡ Some (json_line sums)

-- with these statuses no put was tried
abbrev pub IsBeforePuts : Status → Type 0
IsBeforePuts status.Ok = ⊥
IsBeforePuts status.WriteFault = ⊥
IsBeforePuts status.Memory = ⊥
IsBeforePuts other = Unit {0}

-- every other path holds what it held; with Ok the sums stand at this one, and where no put was tried all is as it was
pub record Puts (result : Status) (out : List ℕ) (files : List (List ℕ)) (before after : Option Held) : Type 0 where
  pub others : BothTell before after (KeepsOthers out)
  pub sums : result ≡ status.Ok → BothTell before after (PutsSums out files)
  pub untried : IsBeforePuts result → after ≡ before

-- ---- the lines on standard error

-- the lines of what it comes to
pub record SaysVerdict (result : Status) (task : CoverageTask) (files : List (List ℕ)) (told : Option Held) (message : said.Message) : Type 0 where
  pub inputs : List Input
  pub read : AreRead told files inputs
  pub comes : (verdict task inputs).status ≡ result
  pub said : (verdict task inputs).said ≡ Some message

abbrev pub IsMessage : Status → CoverageTask → List (List ℕ) → Option Held → said.Message → Type 0
IsMessage status.Ok task files told message = ⊥
IsMessage status.ReadFault task files told message = (path : List ℕ) × FailsAt told files path × (message ≡ said.ReadFailed path)
IsMessage status.WriteFault task files told message = message ≡ said.WriteFailed
IsMessage status.Memory task files told message = message ≡ said.OutOfMemory
IsMessage other task files told message = SaysVerdict other task files told message

-- with Ok there are none
abbrev pub AreLines : Status → CoverageTask → List (List ℕ) → Option Held → List ℕ → Type 0
AreLines status.Ok task files told lines = lines ≡ []
AreLines other task files told lines = (message : said.Message) × IsMessage other task files told message × (lines ≡ said.line message)
