-- What the steps of a command on coverage files give.
use Rattle.std.specs.Prelude.{◌≡◌, ℕ, ◌≤◌, List, Option, Some, Result, OnOk, Vec}
use Rattle.std.specs.declared.alloc.Global.{Global}
use Rattle.cov_base.specs.Store.{Held, BothTell, KeepsOthers}
use Rattle.cov_base.specs.Sink.{after_more}
use Rattle.cov_base.specs.declared.failed.Failed.{Failed}
use Rattle.cov_object.specs.declared.file.FileCoverage.{FileCoverage}
use Rattle.cov_summary.specs.declared.shortfall.Shortfall.{Shortfall}
use Rattle.cov_inputs.specs.declared.fault.InputFault.{InputFault}
use Rattle.cov_inputs.specs.declared.fault.InputFault.TheVariants.{Refused, ReadFailed, Memory}
use Rattle.cov_words.specs.declared.command.CoverageTask.{CoverageTask}
use Rattle.cov_words.specs.declared.command.CoverageTask.TheVariants.{Merge}
use Rattle.cov_commands.specs.Coverage.{verdict_on, check_verdict, json_line, message_of_refusal}
use Rattle.cov_commands.specs.Line as said

-- what is said of files that were not read or have no sums
abbrev pub message_of_fault : InputFault → said.Message
message_of_fault (Refused why) = message_of_refusal why
message_of_fault (ReadFailed path) = said.ReadFailed path
message_of_fault Memory = said.OutOfMemory

-- a task was done on these sums, and this is below thresholds
pub record ComesOut (task : CoverageTask) (sums : List FileCoverage) (below : List Shortfall) (before after : Option (List ℕ)) : Type 0 where
  pub status : (verdict_on task sums).status ≡ (check_verdict below).status
  pub said : (verdict_on task sums).said ≡ (check_verdict below).said
  pub printed : after ≡ after_more before (verdict_on task sums).output

-- a put of these bytes at the path, by which the call was done
pub record PutsBy (path bytes : List ℕ) (before after : Option Held) (result : Result (Vec Shortfall Global) Failed) : Type 0 where
  pub others : BothTell before after (KeepsOthers path)
  pub value : OnOk result (BothTell before after (λ old new. new path ≡ Some bytes))

-- only `merge` puts something
abbrev pub StoredBy : CoverageTask → List FileCoverage → Result (Vec Shortfall Global) Failed → Option Held → Option Held → Type 0
StoredBy (Merge out) sums result before after = PutsBy out (json_line sums) before after result
StoredBy other sums result before after = after ≡ before

abbrev pub CountsPuts : CoverageTask → ℕ → ℕ → Type 0
CountsPuts (Merge out) before after = before ≤ after
CountsPuts other before after = after ≡ before
