-- What is owed for `v8`: the sums of what V8's coverage files tell of the sources that they name are put at a path. When each status
-- is due, what is put, and what is said. Nothing is printed. Of what is held it speaks where the store tells that.
use Rattle.std.specs.Prelude.{◌≡◌, ℕ, List, [], Option, Some, IfSome, Ok, Err}
use Rattle.cov_base.specs.Store.{Held, BothTell, KeepsOthers}
use Rattle.cov_object.specs.declared.file.FileCoverage.{FileCoverage}
use Rattle.cov_inputs.specs.Inputs.{Sums}
use Rattle.cov_inputs.specs.V8.{gathered_v8, Reads}
use Rattle.cov_inputs.specs.declared.refusal.Refusal.{Refusal}
use Rattle.cov_commands.specs.Coverage.{json_line, status_of_refusal, message_of_refusal, IsBeforePuts}
use Rattle.cov_commands.specs.Line as said
use Rattle.cov_commands.specs.declared.status.Status.{Status}
use Rattle.cov_commands.specs.declared.status.Status.TheVariants as status

-- ---- when each status is due; `told` is what the store holds, where it tells

abbrev pub status_of : Sums → Status
status_of (Ok sums) = status.Ok
status_of (Err why) = status_of_refusal why

-- a status with which it may end by what it finds
abbrev pub MayEnd : Status → Type 0
MayEnd status.Ok = Unit {0}
MayEnd status.Refused = Unit {0}
MayEnd status.BadInput = Unit {0}
MayEnd status.Limit = Unit {0}
MayEnd status.NoFile = Unit {0}
MayEnd other = ⊥

-- and what is held comes to it
pub record ComesTo (result : Status) (files : List (List ℕ)) (told : Option Held) : Type 0 where
  pub may : MayEnd result
  pub comes : IfSome told (λ held. status_of (gathered_v8 held [] files) ≡ result)

abbrev pub HaveSums : List (List ℕ) → Option Held → Type 0
HaveSums files told = IfSome told (λ held. (sums : List FileCoverage) × (gathered_v8 held [] files ≡ Ok sums))

abbrev pub IsDue : Status → List (List ℕ) → Option Held → Type 0
IsDue status.ReadFault files told = Unit {0}
IsDue status.WriteFault files told = HaveSums files told
IsDue status.Memory files told = Unit {0}
IsDue other files told = ComesTo other files told

-- ---- what the store holds

-- the JSON of the sums stands at the path
pub record PutsSums (out : List ℕ) (files : List (List ℕ)) (old new : Held) : Type 0 where
  pub sums : List FileCoverage
  pub are : gathered_v8 old [] files ≡ Ok sums
  pub put : new out ≡ Some (json_line sums)

-- every other path holds what it held; with Ok the sums stand at this one, and where no put was tried all is as it was
pub record Puts (result : Status) (out : List ℕ) (files : List (List ℕ)) (before after : Option Held) : Type 0 where
  pub others : BothTell before after (KeepsOthers out)
  pub sums : result ≡ status.Ok → BothTell before after (PutsSums out files)
  pub untried : IsBeforePuts result → after ≡ before

-- ---- the lines on standard error

-- the files have no sums, for a reason that has this status and is said
pub record SaysRefusal (result : Status) (files : List (List ℕ)) (told : Option Held) (message : said.Message) : Type 0 where
  pub why : Refusal
  pub status : status_of_refusal why ≡ result
  pub said : message ≡ message_of_refusal why
  pub are : IfSome told (λ held. gathered_v8 held [] files ≡ Err why)

-- or a path that is read for them isn't
pub record SaysFailedRead (files : List (List ℕ)) (told : Option Held) (message : said.Message) : Type 0 where
  pub path : List ℕ
  pub reads : IfSome told (λ held. Reads held [] files path)
  pub said : message ≡ said.ReadFailed path

abbrev pub IsMessage : Status → List (List ℕ) → Option Held → said.Message → Type 0
IsMessage status.Ok files told message = ⊥
IsMessage status.ReadFault files told message = SaysFailedRead files told message
IsMessage status.WriteFault files told message = message ≡ said.WriteFailed
IsMessage status.Memory files told message = message ≡ said.OutOfMemory
IsMessage other files told message = SaysRefusal other files told message

-- with Ok there are none
abbrev pub AreLines : Status → List (List ℕ) → Option Held → List ℕ → Type 0
AreLines status.Ok files told lines = lines ≡ []
AreLines other files told lines = (message : said.Message) × IsMessage other files told message × (lines ≡ said.line message)
