-- The lines that the program says on standard error: one, but for percentages that are below their thresholds.
use Rattle.std.specs.Prelude.{ℕ, List, [], ◌∷◌, ◌++◌, codes, decimal}
use Rattle.std.specs.List.{flat_map}
use Rattle.cov_summary.specs.declared.shortfall.Metric.{Metric}
use Rattle.cov_summary.specs.declared.shortfall.Metric.TheVariants as metric
use Rattle.cov_summary.specs.declared.shortfall.Shortfall.{Shortfall}
use Rattle.cov_report.specs.Percent.{percent_text}
use Rattle.cov_inputs.specs.declared.refusal.What.{What}
use Rattle.cov_inputs.specs.declared.refusal.What.TheVariants as what
use Rattle.source_map.specs.declared.fault.MapFault.{MapFault}
use Rattle.source_map.specs.declared.fault.MapFault.TheVariants as map_fault
use Rattle.js_terms.specs.declared.place.Pos.{Pos}
use Rattle.js_reading.specs.declared.unsupported.Unsupported.{Unsupported}
use Rattle.js_reading.specs.declared.unsupported.Unsupported.TheVariants as form
use Rattle.js_scopes.specs.declared.fault.ScopeFault.{ScopeFault}
use Rattle.js_scopes.specs.declared.fault.ScopeFaultKind.{ScopeFaultKind}
use Rattle.js_scopes.specs.declared.fault.ScopeFaultKind.TheVariants as rule
use Rattle.js_value.specs.declared.value.Kind.{Kind}
use Rattle.js_value.specs.declared.value.Kind.TheVariants as kind
use Rattle.cov_commands.specs.declared.line.Complaint.{Complaint}
use Rattle.cov_commands.specs.declared.line.Complaint.TheVariants as complaint

-- what may be said
pub data Message : Type 0 where
  Usage : Message
  Syntax : (path : List ℕ) → (place : Pos) → Message
  LeftOut : (path : List ℕ) → (place : Pos) → (what : Unsupported) → Message
  TooDeep : (path : List ℕ) → (place : Pos) → Message
  Broken : (path : List ℕ) → (fault : ScopeFault) → Message
  NotUtf8 : (path : List ℕ) → (at : ℕ) → Message
  ReadFailed : (path : List ℕ) → Message
  WriteFailed : Message
  OutOfMemory : Message
  TooLong : (path : List ℕ) → Message
  TooManyFiles : Message
  NoFile : (path : List ℕ) → Message
  Uncaught : (shown : List ℕ) → Message
  Range : (why : Kind) → Message
  Going : (turns : ℕ) → Message
  BadInput : (path : List ℕ) → (what : What) → Message
  CountTooLarge : (sum : ℕ) → Message
  Below : (shortfalls : List Shortfall) → Message

-- what is wrong with a source map; that it is too long, and want of memory, aren't told so
abbrev pub what_of_map : MapFault → What
what_of_map map_fault.TooLong = what.NotJson
what_of_map map_fault.BadJson = what.NotJson
what_of_map (map_fault.BadMember name) = what.Member name
what_of_map (map_fault.BadMappings at) = what.Mappings at
what_of_map map_fault.Memory = what.NotJson

-- what a complaint of the code says
abbrev pub message_of : Complaint → Message
message_of complaint.Usage = Usage
message_of (complaint.Syntax path place) = Syntax path.now place
message_of (complaint.Unsupported path place form) = LeftOut path.now place form
message_of (complaint.TooDeep path place) = TooDeep path.now place
message_of (complaint.Broken path fault) = Broken path.now fault
message_of (complaint.NotUtf8 path at) = NotUtf8 path.now at
message_of (complaint.ReadFailed path) = ReadFailed path.now
message_of complaint.WriteFailed = WriteFailed
message_of complaint.OutOfMemory = OutOfMemory
message_of (complaint.TooLong path) = TooLong path.now
message_of complaint.TooManyFiles = TooManyFiles
message_of (complaint.NoFile path) = NoFile path.now
message_of (complaint.Uncaught shown) = Uncaught shown.now
message_of (complaint.Range why) = Range why
message_of (complaint.Going turns) = Going turns
message_of (complaint.BadInput path what) = BadInput path.now what.now
message_of (complaint.BadMap path fault) = BadInput path.now (what_of_map fault.now)
message_of (complaint.CountTooLarge sum) = CountTooLarge sum
message_of (complaint.Below shortfalls) = Below shortfalls.now

-- a file is refused at a place, for this reason
abbrev pub refused_text : List ℕ → Pos → List ℕ → List ℕ
refused_text path place why = codes "Refused: " ++ path ++ codes ":" ++ decimal place.line ++ codes ":" ++ decimal place.column ++ codes ": " ++ why

-- the words for a form that the language leaves out
abbrev pub form_text : Unsupported → List ℕ
form_text form.ClassForm = codes "class"
form_text form.Super = codes "super"
form_text form.Import = codes "import"
form_text form.Export = codes "export"
form_text form.NewTarget = codes "new.target"
form_text form.Spread = codes "spread"
form_text form.OptionalChain = codes "optional chain"
form_text form.LogicalAssignment = codes "logical assignment"
form_text form.Async = codes "async"
form_text form.Generator = codes "generator"
form_text form.Accessor = codes "accessor"
form_text form.BigIntLiteral = codes "bigint"
form_text form.ThisOutside = codes "this"
form_text form.Elision = codes "elision"
form_text form.Proto = codes "__proto__"
form_text form.TaggedTemplate = codes "tagged template"
form_text form.ParenthesizedTarget = codes "parenthesised target"
form_text form.BindingPattern = codes "pattern"

-- the words for an early rule that is broken; want of memory is none
abbrev pub rule_text : ScopeFaultKind → List ℕ
rule_text rule.Duplicate = codes "duplicate"
rule_text rule.Label = codes "label"
rule_text rule.BreakOutside = codes "break outside"
rule_text rule.ContinueOutside = codes "continue outside"
rule_text rule.BadTarget = codes "bad target"
rule_text rule.Reserved = codes "reserved"
rule_text rule.Memory = []

-- the word for what a program leaves the profile by
abbrev pub kind_text : Kind → List ℕ
kind_text kind.Number = codes "Number"
kind_text kind.Sparse = codes "Sparse"
kind_text kind.Convert = codes "Convert"
kind_text kind.Text = codes "Text"

-- what is wrong with a coverage file, or with a source map
abbrev pub what_text : What → List ℕ
what_text what.NotJson = codes "not JSON"
what_text (what.Member name) = codes "member " ++ name
what_text (what.Count name) = codes "count " ++ name
what_text (what.Mappings at) = codes "mappings at " ++ decimal at

-- the word for what is counted
abbrev pub metric_text : Metric → List ℕ
metric_text metric.Lines = codes "lines"
metric_text metric.Statements = codes "statements"
metric_text metric.Branches = codes "branches"
metric_text metric.Functions = codes "functions"

-- a percentage that is below its threshold
abbrev pub shortfall_text : Shortfall → List ℕ
shortfall_text shortfall =
    codes "ERROR: Coverage for " ++ metric_text shortfall.what ++ codes " (" ++ percent_text shortfall.hundredths
    ++ codes "%) does not meet global threshold (" ++ decimal shortfall.threshold ++ codes "%)"

abbrev pub shortfall_line : Shortfall → List ℕ
shortfall_line shortfall = shortfall_text shortfall ++ 10 ∷ []

-- a message's bytes: of one line without its end, of several with it
abbrev pub text : Message → List ℕ
text Usage = codes "Usage: see cov --help"
text (Syntax path place) = refused_text path place (codes "syntax")
text (LeftOut path place what) = refused_text path place (codes "unsupported " ++ form_text what)
text (TooDeep path place) = refused_text path place (codes "too deep")
text (Broken path fault) = refused_text path fault.at (rule_text fault.kind)
text (NotUtf8 path at) = codes "Refused: " ++ path ++ codes ": not UTF-8 at byte " ++ decimal at
text (ReadFailed path) = codes "Read failed: " ++ path
text WriteFailed = codes "Write failed"
text OutOfMemory = codes "Out of memory"
text (TooLong path) = codes "Limit: " ++ path ++ codes " bytes"
text TooManyFiles = codes "Limit: files 1024"
text (NoFile path) = codes "No file: " ++ path
text (Uncaught shown) = codes "Uncaught " ++ shown
text (Range why) = codes "Range refusal: " ++ kind_text why
text (Going turns) = codes "Still going after " ++ decimal turns ++ codes " steps"
text (BadInput path what) = codes "Bad input: " ++ path ++ codes ": " ++ what_text what
text (CountTooLarge sum) = codes "Limit: count " ++ decimal sum
text (Below shortfalls) = flat_map shortfall_line shortfalls

-- the lines, each ended by LF
abbrev pub line : Message → List ℕ
line (Below shortfalls) = text (Below shortfalls)
line message = text message ++ 10 ∷ []

-- the same for a refusal at a place
abbrev pub refused_line : List ℕ → Pos → List ℕ → List ℕ
refused_line path place why = refused_text path place why ++ 10 ∷ []
