-- Coverage files as V8 writes them, read one after another with the sources that they name: the sums of what their entries tell, or
-- the first refusal. What is read is what a store holds.
use Rattle.std.specs.Prelude.{◌≡◌, ◌⊎◌, ℕ, nat_lt, List, [], ◌∷◌, ◌++◌, length, Option, Some, None, Result, Ok, Err, if◌then◌else◌}
use Rattle.std.specs.Str.{is_utf8}
use Rattle.std.specs.Str.Lossy.{utf8_valid_len}
use Rattle.cov_base.specs.Store.{Held}
use Rattle.js_text.specs.Limits.{source_limits}
use Rattle.cov_object.specs.declared.file.FileCoverage.{FileCoverage}
use Rattle.cov_v8.specs.declared.fault.V8Fault.{V8Fault}
use Rattle.cov_v8.specs.declared.fault.V8Fault.TheVariants as fault
use Rattle.cov_v8.specs.declared.v8.V8Function.{V8Function}
use Rattle.cov_v8.specs.declared.v8.V8Script.{V8Script}
use Rattle.cov_v8.specs.declared.v8.V8.{V8}
use Rattle.cov_v8.specs.Coverage.{coverage_of}
use Rattle.cov_v8.specs.Path.{source_of}
use Rattle.cov_v8.specs.Read.{v8_in}
use Rattle.cov_inputs.specs.Inputs.{Sums, merged_or_refused}
use Rattle.cov_inputs.specs.declared.fault.InputFault.{InputFault}
use Rattle.cov_inputs.specs.declared.fault.InputFault.TheVariants.{Refused, ReadFailed, Memory}
use Rattle.cov_inputs.specs.declared.refusal.What.TheVariants.{NotJson, Member}
use Rattle.cov_inputs.specs.declared.refusal.Refusal.{Refusal}
use Rattle.cov_inputs.specs.declared.refusal.Refusal.TheVariants.{NoFile, TooLong, NotUtf8, BadInput}

-- goes on with what was found, unless it was refused
abbrev pub and_then : {A B : Type 0} → Result A Refusal → (A → Result B Refusal) → Result B Refusal
and_then (Ok found) next = next found
and_then (Err why) next = Err why

-- ---- one source

-- the text of bytes, which are within the limit of a source and UTF-8
abbrev pub text_of : List ℕ → List ℕ → Result (List ℕ) Refusal
text_of path bytes =
    if nat_lt source_limits.bytes (length bytes) then Err (TooLong path)
    else (if is_utf8 bytes then Ok bytes else Err (NotUtf8 path (utf8_valid_len bytes)))

abbrev pub text_at : List ℕ → Option (List ℕ) → Result (List ℕ) Refusal
text_at path None = Err (NoFile path)
text_at path (Some bytes) = text_of path bytes

-- ---- one entry of the V8 file at a path

-- why the file is none of V8's, or doesn't fit a source; the definitions never answer want of memory
abbrev pub refusal_of : List ℕ → V8Fault → Refusal
refusal_of file fault.TooLong = TooLong file
refusal_of file fault.BadJson = BadInput file NotJson
refusal_of file (fault.BadMember name) = BadInput file (Member name)
refusal_of file fault.Memory = BadInput file NotJson

abbrev pub or_refused : {A : Type 0} → List ℕ → Result A V8Fault → Result A Refusal
or_refused file (Ok found) = Ok found
or_refused file (Err why) = Err (refusal_of file why)

-- the sums with what these functions tell of the source at a path, which has this text
abbrev pub with_text : List ℕ → List FileCoverage → List V8Function → List ℕ → List ℕ → Sums
with_text file sums functions path text = and_then (or_refused file (coverage_of path text functions)) (λ own. merged_or_refused (sums ++ own ∷ []))

abbrev pub with_source : Held → List ℕ → List FileCoverage → List V8Function → List ℕ → Sums
with_source held file sums functions path = and_then (text_at path (held path)) (with_text file sums functions path)

-- an entry that names no source is passed over
abbrev pub with_named : Held → List ℕ → List FileCoverage → List V8Function → Option (List ℕ) → Sums
with_named held file sums functions None = Ok sums
with_named held file sums functions (Some path) = with_source held file sums functions path

abbrev pub with_script : Held → List ℕ → List FileCoverage → V8Script → Sums
with_script held file sums script = with_named held file sums script.functions (source_of script.url)

-- ---- all of them

abbrev pub with_scripts : Held → List ℕ → List FileCoverage → List V8Script → Sums
with_scripts held file sums [] = Ok sums
with_scripts held file sums (script ∷ scripts) = and_then (with_script held file sums script) (λ next. with_scripts held file next scripts)

-- the V8 file
abbrev pub v8_at : List ℕ → Option (List ℕ) → Result V8 Refusal
v8_at file None = Err (NoFile file)
v8_at file (Some bytes) = or_refused file (v8_in bytes)

abbrev pub with_v8 : Held → List FileCoverage → List ℕ → Sums
with_v8 held sums file = and_then (v8_at file (held file)) (λ v8. with_scripts held file sums v8.scripts)

-- the sums with all of these files, from the first to the last
abbrev pub gathered_v8 : Held → List FileCoverage → List (List ℕ) → Sums
gathered_v8 held sums [] = Ok sums
gathered_v8 held sums (file ∷ files) = and_then (with_v8 held sums file) (λ next. gathered_v8 held next files)

-- ---- what a call gives: this, or a read failed, or memory was wanting

abbrev pub Gives : {A : Type 0} → Result A InputFault → Result A Refusal → Type 0
Gives (Ok found) wanted = wanted ≡ Ok found
Gives (Err (Refused why)) wanted = wanted ≡ Err why
Gives (Err (ReadFailed path)) wanted = Unit {0}
Gives (Err Memory) wanted = Unit {0}

-- ---- what is read, as long as nothing was refused

-- the source at a path is read for one of these entries
abbrev pub ReadsSource : Held → List ℕ → List FileCoverage → List V8Script → List ℕ → Type 0
ReadsSource held file sums [] path = ⊥
ReadsSource held file sums (script ∷ scripts) path =
    (source_of script.url ≡ Some path)
    ⊎ ((next : List FileCoverage) × (with_script held file sums script ≡ Ok next) × ReadsSource held file next scripts path)

-- the path is read for the V8 file at another, or is that file's
abbrev pub ReadsFor : Held → List FileCoverage → List ℕ → List ℕ → Type 0
ReadsFor held sums file path = (path ≡ file) ⊎ ((v8 : V8) × (v8_at file (held file) ≡ Ok v8) × ReadsSource held file sums v8.scripts path)

-- the path is read for one of these files
abbrev pub Reads : Held → List FileCoverage → List (List ℕ) → List ℕ → Type 0
Reads held sums [] path = ⊥
Reads held sums (file ∷ files) path =
    ReadsFor held sums file path ⊎ ((next : List FileCoverage) × (with_v8 held sums file ≡ Ok next) × Reads held next files path)
