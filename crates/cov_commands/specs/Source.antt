-- What is owed for a command on a source, which `maps`, `exec`, `run` and `demo` are: when each status is due, what is printed, what
-- is put, and what is said.
use Rattle.std.specs.Prelude.{◌≡◌, ℕ, List, [], ◌∷◌, ◌++◌, Option, None, Some, Result, Ok, Err, codes, if◌then◌else◌}
use Rattle.js_terms.specs.declared.place.Pos.{Pos}
use Rattle.js_tree.specs.Comments.{ignores_file}
use Rattle.js_tree.specs.Plain.{File, MakeFile}
use Rattle.js_terms.specs.declared.words.Comment.{Comment}
use Rattle.js_terms.specs.declared.construct.Construct.{Construct}
use Rattle.js_walk.specs.Constructs.{constructs_file}
use Rattle.js_text.specs.declared.text.TextFault.TheVariants as text
use Rattle.js_parser.specs.declared.refused.Refusal.{Refusal}
use Rattle.js_parser.specs.declared.refused.Refusal.TheVariants as refusal
use Rattle.js_meaning.specs.declared.outcome.End.{End}
use Rattle.js_meaning.specs.declared.outcome.End.TheVariants as outcome
use Rattle.js_meaning.specs.World.{PlainRun}
use Rattle.js_coverage.specs.Coverage.{IsCoverage}
use Rattle.cov_base.specs.Store.{Held, BothTell, KeepsOthers}
use Rattle.cov_base.specs.Sink.{after_more, TakesPrefix}
use Rattle.cov_object.specs.Json.{json_text}
use Rattle.cov_object.specs.declared.file.FileCoverage.{FileCoverage}
use Rattle.cov_maps.specs.Zero.{zero_file}
use Rattle.cov_sources.specs.declared.source.Source.{Source}
use Rattle.cov_sources.specs.declared.why.Why.{Why}
use Rattle.cov_sources.specs.declared.why.Why.TheVariants as why
use Rattle.cov_words.specs.declared.command.SourceTask.{SourceTask}
use Rattle.cov_words.specs.declared.command.SourceTask.TheVariants.{Maps, Exec, Run, Demo}
use Rattle.cov_run.specs.Exec.{Runs}
use Rattle.cov_run.specs.Loaded.{IsSource, IsUnread, Loaded}
use Rattle.cov_run.specs.Session.{Counts}
use Rattle.cov_run.specs.declared.fault.LoadFault.{LoadFault}
use Rattle.cov_run.specs.declared.fault.LoadFault.TheVariants as fault
use Rattle.cov_hash.specs.Hash.{hash_text}
use Rattle.cov_commands.specs.Coverage.{json_line}
use Rattle.cov_commands.specs.Demo.{demo_held, demo_source, demo_summary, demo_turns}
use Rattle.cov_commands.specs.Line as said
use Rattle.cov_commands.specs.Line.{what_of_map}
use Rattle.cov_commands.specs.declared.answer.Answer.{Answer}
use Rattle.cov_commands.specs.declared.status.Status.{Status}
use Rattle.cov_commands.specs.declared.status.Status.TheVariants as status

-- ---- what is answered

-- the zero FileCoverage of a file of these constructs, and LF
abbrev pub zero_text : List ℕ → List ℕ → List Construct → List ℕ
zero_text path bytes list = json_text (zero_file path (hash_text bytes) list ∷ []) ++ 0x0A ∷ []

abbrev pub comments_of : File → List Comment
comments_of (MakeFile body comments) = comments

-- that of a file: the empty map where one of its comments takes it out
abbrev pub maps_text : List ℕ → List ℕ → File → List ℕ
maps_text path bytes tree = if ignores_file (comments_of tree) then codes "{}" ++ 0x0A ∷ [] else zero_text path bytes (constructs_file tree)

-- the answer of `maps`
abbrev pub answer_of_maps : List ℕ → List ℕ → File → Answer
answer_of_maps path bytes tree = record { output = maps_text path bytes tree; end = outcome.Done; coverage = None }

-- the answer of a run: what it printed, and how it ended
abbrev pub answer_of_run : PlainRun → Answer
answer_of_run run = record { output = run.store.output; end = run.end; coverage = None }

-- that of a run that left this coverage
abbrev pub answer_of_counted : PlainRun → List FileCoverage → Answer
answer_of_counted run files = record { output = run.store.output; end = run.end; coverage = Some files }

-- and of such a run of `demo`: the sums of the coverage stand after what was printed
abbrev pub answer_of_demo : PlainRun → List FileCoverage → Answer
answer_of_demo run files = record { output = run.store.output ++ demo_summary files; end = run.end; coverage = None }

-- ---- what a task comes to; `told` is what the store holds, where it tells

-- a task on the file at a path: its answer, or why there is none. `maps` reads the file by itself, `exec` and `run` load it with all that
-- it asks for, and `demo` makes it.
pub data ComesTo (file : List ℕ) (told : Option Held) : SourceTask → Result Answer LoadFault → Type 0 where
  mapped : {bytes : List ℕ} {tree : File} → IsSource told file bytes tree → ComesTo file told Maps (Ok (answer_of_maps file bytes tree))
  unread : {why : LoadFault} → IsUnread told file why → ComesTo file told Maps (Err why)
  ran : {sources : List Source} {turns : ℕ} {run : PlainRun} → Loaded told file [] (Ok sources) → Runs sources file turns run → ComesTo file told (Exec turns) (Ok (answer_of_run run))
  unloaded : {turns : ℕ} {why : LoadFault} → Loaded told file [] (Err why) → ComesTo file told (Exec turns) (Err why)
  counted : {sources : List Source} {turns : ℕ} {out : List ℕ} {exclude : List (List ℕ)} {run : PlainRun} {files : List FileCoverage} → Loaded told file exclude (Ok sources) →
      Counts sources turns run → IsCoverage run.store.heap files → ComesTo file told (Run turns out exclude) (Ok (answer_of_counted run files))
  uncounted : {turns : ℕ} {out : List ℕ} {exclude : List (List ℕ)} {why : LoadFault} → Loaded told file exclude (Err why) → ComesTo file told (Run turns out exclude) (Err why)
  demonstrated : {seed count : ℕ} {run : PlainRun} {files : List FileCoverage} → Counts (demo_source file seed count ∷ []) demo_turns run → IsCoverage run.store.heap files →
      ComesTo file told (Demo seed count) (Ok (answer_of_demo run files))
  undemonstrated : {seed count : ℕ} {why : LoadFault} → IsUnread (Some (demo_held seed count)) file why → ComesTo file told (Demo seed count) (Err why)

-- ---- the line on standard error

-- what is said of bytes that are no source: they are too many, or no UTF-8 from a byte on; the token at a place can't follow those
-- before it, or begins a form that the language leaves out, or those before it begin too many levels; or an early rule is broken
abbrev pub message_of_unread : List ℕ → Pos → Refusal → said.Message
message_of_unread path place refusal.Syntax = said.Syntax path place
message_of_unread path place (refusal.Unsupported form) = said.LeftOut path place form
message_of_unread path place refusal.TooDeep = said.TooDeep path place
message_of_unread path place refusal.Memory = said.OutOfMemory

abbrev pub message_of_cause : List ℕ → Why → said.Message
message_of_cause path (why.NoText (text.TooLong count)) = said.TooLong path
message_of_cause path (why.NoText (text.NotUtf8 at)) = said.NotUtf8 path at
message_of_cause path (why.NoText text.Memory) = said.OutOfMemory
message_of_cause path (why.Unread refused place) = message_of_unread path place refused.why
message_of_cause path (why.Broken broken) = said.Broken path broken

-- why no answer comes of the file at a path
abbrev pub message_of_fault : List ℕ → LoadFault → said.Message
message_of_fault file fault.NoFile = said.NoFile file
message_of_fault file (fault.Refused path cause) = message_of_cause path cause
message_of_fault file (fault.BadMap path why) = said.BadInput path (what_of_map why)
message_of_fault file (fault.TooLong path) = said.TooLong path
message_of_fault file fault.TooManyFiles = said.TooManyFiles
message_of_fault file (fault.ReadFault path) = said.ReadFailed path
message_of_fault file fault.Memory = said.OutOfMemory

-- the steps that a task allows: `maps` runs nothing
abbrev pub turns_of : SourceTask → ℕ
turns_of Maps = 0
turns_of (Exec turns) = turns
turns_of (Run turns out exclude) = turns
turns_of (Demo seed count) = demo_turns

-- what is said of an end, which of Done is nothing
abbrev pub said_of : SourceTask → End → Option said.Message
said_of task outcome.Done = None
said_of task (outcome.Threw shown) = Some (said.Uncaught shown)
said_of task (outcome.Range why) = Some (said.Range why)
said_of task outcome.Going = Some (said.Going (turns_of task))

-- what is said of what a task came to
abbrev pub said_of_outcome : SourceTask → List ℕ → Result Answer LoadFault → Option said.Message
said_of_outcome task file (Ok answer) = said_of task answer.end
said_of_outcome task file (Err why) = Some (message_of_fault file why)

-- ---- the status

abbrev pub status_of_end : End → Status
status_of_end outcome.Done = status.Ok
status_of_end (outcome.Threw shown) = status.Threw
status_of_end (outcome.Range why) = status.Range
status_of_end outcome.Going = status.Going

abbrev pub status_of_fault : LoadFault → Status
status_of_fault fault.NoFile = status.NoFile
status_of_fault (fault.Refused path cause) = status.Refused
status_of_fault (fault.BadMap path why) = status.BadInput
status_of_fault (fault.TooLong path) = status.Limit
status_of_fault fault.TooManyFiles = status.Limit
status_of_fault (fault.ReadFault path) = status.ReadFault
status_of_fault fault.Memory = status.Memory

abbrev pub status_of_outcome : Result Answer LoadFault → Status
status_of_outcome (Ok answer) = status_of_end answer.end
status_of_outcome (Err why) = status_of_fault why

-- the task comes to something of this status
pub record Ends (result : Status) (task : SourceTask) (file : List ℕ) (told : Option Held) : Type 0 where
  pub outcome : Result Answer LoadFault
  pub comes : ComesTo file told task outcome
  pub status : status_of_outcome outcome ≡ result

-- it comes to an answer
abbrev pub IsAnswered : SourceTask → List ℕ → Option Held → Type 0
IsAnswered task file told = (answer : Answer) × ComesTo file told task (Ok answer)

-- the cause of each status; memory may be wanting at any point
abbrev pub IsDue : Status → SourceTask → List ℕ → Option Held → Type 0
IsDue status.WriteFault task file told = IsAnswered task file told
IsDue status.Memory task file told = Unit {0}
IsDue other task file told = Ends other task file told

-- ---- what has been printed

-- the output that is defined: of an answer its own, else nothing
pub data IsOutput (task : SourceTask) (file : List ℕ) (told : Option Held) : List ℕ → Type 0 where
  answered : {answer : Answer} → ComesTo file told task (Ok answer) → IsOutput task file told answer.output
  none : (IsAnswered task file told → ⊥) → IsOutput task file told []

-- nothing was printed, or a prefix of the output of an answer: of the one that what is held comes to where the store tells, and else
-- of one that it could come to
pub data PrintsPrefix (task : SourceTask) (file : List ℕ) (told : Option Held) (before after : Option (List ℕ)) : Type 0 where
  nothing : after ≡ before → PrintsPrefix task file told before after
  some : {answer : Answer} → ComesTo file told task (Ok answer) → TakesPrefix before after answer.output → PrintsPrefix task file told before after

-- the output of an answer which ends with the status was printed whole
pub record PrintsOutput (result : Status) (task : SourceTask) (file : List ℕ) (told : Option Held) (before after : Option (List ℕ)) : Type 0 where
  pub answer : Answer
  pub comes : ComesTo file told task (Ok answer)
  pub ends : status_of_end answer.end ≡ result
  pub printed : after ≡ after_more before answer.output

-- ---- what the store holds, where `run` puts the coverage at its path

-- the JSON of what a run left that ends with the status stands there, and every other path holds what it held
pub record PutsCoverage (result : Status) (task : SourceTask) (out file : List ℕ) (old new : Held) : Type 0 where
  pub answer : Answer
  pub files : List FileCoverage
  pub comes : ComesTo file (Some old) task (Ok answer)
  pub ends : status_of_end answer.end ≡ result
  pub left : answer.coverage ≡ Some files
  pub put : new out ≡ Some (json_line files)
  pub others : KeepsOthers out old new

-- it is put after the output was written, and with the other statuses nothing was put
abbrev pub Puts : Status → SourceTask → List ℕ → List ℕ → Option Held → Option Held → Type 0
Puts status.Ok task out file before after = BothTell before after (PutsCoverage status.Ok task out file)
Puts status.Threw task out file before after = BothTell before after (PutsCoverage status.Threw task out file)
Puts status.Range task out file before after = BothTell before after (PutsCoverage status.Range task out file)
Puts status.Going task out file before after = BothTell before after (PutsCoverage status.Going task out file)
Puts status.WriteFault task out file before after = BothTell before after (KeepsOthers out)
Puts status.Memory task out file before after = BothTell before after (KeepsOthers out)
Puts other task out file before after = after ≡ before

-- ---- the line that is said

-- the task comes to something of the status, and this is said of it
pub record SaysOutcome (result : Status) (task : SourceTask) (file : List ℕ) (told : Option Held) (message : said.Message) : Type 0 where
  pub due : Ends result task file told
  pub said : said_of_outcome task file due.outcome ≡ Some message

-- what is said with each status, but for Ok, with which nothing is
abbrev pub IsMessage : Status → SourceTask → List ℕ → Option Held → said.Message → Type 0
IsMessage status.Ok task file told message = ⊥
IsMessage status.WriteFault task file told message = message ≡ said.WriteFailed
IsMessage status.Memory task file told message = message ≡ said.OutOfMemory
IsMessage other task file told message = SaysOutcome other task file told message

-- the line, which with Ok is none
abbrev pub IsLine : Status → SourceTask → List ℕ → Option Held → List ℕ → Type 0
IsLine status.Ok task file told line = line ≡ []
IsLine other task file told line = (message : said.Message) × IsMessage other task file told message × (line ≡ said.line message)
