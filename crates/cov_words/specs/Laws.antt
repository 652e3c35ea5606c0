-- What the plain forms ask, for any words: by clap's definitions they are as one would write them down.
use Rattle.std.specs.Prelude.{◌≡◌, ◌⊎◌, ℕ, ◌≤◌, true, false, List, [], ◌∷◌, Option, Some, None, option_map, nat_eq, codes}
use Rattle.std.specs.List.{ends_with, starts_with}
use Rattle.std.specs.Str.{bytes_eq}
use Rattle.std.specs.Str.Parse.{digits_value, without_leading_plus}
use Rattle.clap.specs.ValueTests.{is_unsigned_in}
use Rattle.path_globs.specs.Source.{source_path}
use Rattle.cov_words.specs.declared.command.Command.{Command}
use Rattle.cov_words.specs.declared.command.Command.TheVariants.{OnSource, Instrument, OnCoverage, OnV8}
use Rattle.cov_words.specs.declared.command.SourceTask.TheVariants.{Maps, Exec, Run, Demo}
use Rattle.cov_words.specs.declared.command.CoverageTask.TheVariants.{Merge, Report, Check}
use Rattle.cov_words.specs.declared.command.Reporter.TheVariants as reporter
use Rattle.cov_words.specs.Words.{command_of, max_turns, patterns_of}

-- a word that doesn't begin with `-`
abbrev pub IsPlain : List ℕ → Type 0
IsPlain word = starts_with nat_eq word (codes "-") ≡ false

-- `maps FILE`
abbrev pub MapsFile : Type 0
MapsFile = (file : List ℕ) → IsPlain file → command_of (codes "maps" ∷ file ∷ []) ≡ option_map (OnSource Maps) (source_path file)

-- `exec FILE`
abbrev pub ExecFile : Type 0
ExecFile = (file : List ℕ) → IsPlain file → command_of (codes "exec" ∷ file ∷ []) ≡ option_map (OnSource (Exec 1000000)) (source_path file)

-- `exec --turns N FILE`
abbrev pub ExecTurns : Type 0
ExecTurns = (digits file : List ℕ) → IsPlain file → is_unsigned_in 0 max_turns digits ≡ true →
    command_of (codes "exec" ∷ codes "--turns" ∷ digits ∷ file ∷ []) ≡ option_map (OnSource (Exec (digits_value 10 (without_leading_plus digits)))) (source_path file)

-- N out of range, or no number
abbrev pub NoTurns : Type 0
NoTurns = (turns file : List ℕ) → IsPlain turns → IsPlain file → is_unsigned_in 0 max_turns turns ≡ false →
    command_of (codes "exec" ∷ codes "--turns" ∷ turns ∷ file ∷ []) ≡ None

-- two words where one is FILE
abbrev pub OneFile : Type 0
OneFile = (name first second : List ℕ) → (name ≡ codes "maps") ⊎ (name ≡ codes "exec") → IsPlain first → IsPlain second →
    command_of (name ∷ first ∷ second ∷ []) ≡ None

-- `run ENTRY`, and `run --exclude GLOBS ENTRY`
abbrev pub RunFile : Type 0
RunFile = (file : List ℕ) → IsPlain file → command_of (codes "run" ∷ file ∷ []) ≡ option_map (OnSource (Run 1000000 (codes "coverage.json") [])) (source_path file)

abbrev pub RunExcluding : Type 0
RunExcluding = (globs file : List ℕ) → IsPlain globs → IsPlain file →
    command_of (codes "run" ∷ codes "--exclude" ∷ globs ∷ file ∷ []) ≡ option_map (OnSource (Run 1000000 (codes "coverage.json") (patterns_of globs))) (source_path file)

-- `instrument --out DIR FILE`, where DIR is not empty
abbrev pub InstrumentFile : Type 0
InstrumentFile = (out file : List ℕ) → IsPlain out → IsPlain file → bytes_eq out [] ≡ false →
    command_of (codes "instrument" ∷ codes "--out" ∷ out ∷ file ∷ []) ≡ option_map (λ path. Instrument out (path ∷ [])) (source_path file)

-- `merge --out P FILE`, where P is not empty
abbrev pub MergeFile : Type 0
MergeFile = (out file : List ℕ) → IsPlain out → IsPlain file → bytes_eq out [] ≡ false →
    command_of (codes "merge" ∷ codes "--out" ∷ out ∷ file ∷ []) ≡ Some (OnCoverage (Merge out) (file ∷ []))

-- `report FILE`
abbrev pub ReportFile : Type 0
ReportFile = (file : List ℕ) → IsPlain file → command_of (codes "report" ∷ file ∷ []) ≡ Some (OnCoverage (Report reporter.Text) (file ∷ []))

-- `check FILE FILE`, which asks for nothing
abbrev pub CheckFiles : Type 0
CheckFiles = (first second : List ℕ) → IsPlain first → IsPlain second → command_of (codes "check" ∷ first ∷ second ∷ [])
    ≡ Some (OnCoverage (Check (record { lines = None; statements = None; branches = None; functions = None })) (first ∷ second ∷ []))

-- `v8 --out P FILE`, where P is not empty
abbrev pub V8File : Type 0
V8File = (out file : List ℕ) → IsPlain out → IsPlain file → bytes_eq out [] ≡ false →
    command_of (codes "v8" ∷ codes "--out" ∷ out ∷ file ∷ []) ≡ Some (OnV8 out (file ∷ []))

-- another name than those of the nine commands, whatever follows it
abbrev pub OtherName : Type 0
OtherName = (name : List ℕ) (words : List (List ℕ)) → IsPlain name → bytes_eq (codes "maps") name ≡ false → bytes_eq (codes "exec") name ≡ false →
    bytes_eq (codes "instrument") name ≡ false → bytes_eq (codes "merge") name ≡ false → bytes_eq (codes "report") name ≡ false → bytes_eq (codes "check") name ≡ false → bytes_eq (codes "v8") name ≡ false →
    bytes_eq (codes "run") name ≡ false → bytes_eq (codes "demo") name ≡ false → command_of (name ∷ words) ≡ None

-- each of these paths ends with `.js`
abbrev pub AreSourcePaths : List (List ℕ) → Type 0
AreSourcePaths [] = Unit {0}
AreSourcePaths (file ∷ files) = (ends_with nat_eq file (codes ".js") ≡ true) × AreSourcePaths files

-- what is asked for is within bounds: `run` of at most `max_turns` turns, and it, `demo` and `instrument` of paths that end with `.js`
abbrev pub IsWithin : Option Command → Type 0
IsWithin (Some (OnSource (Run turns out exclude) file)) = (ends_with nat_eq file (codes ".js") ≡ true) × (turns ≤ max_turns)
IsWithin (Some (OnSource (Demo seed count) file)) = ends_with nat_eq file (codes ".js") ≡ true
IsWithin (Some (Instrument out files)) = AreSourcePaths files
IsWithin other = Unit {0}

-- so it is for any words
abbrev pub AsksWithin : Type 0
AsksWithin = (words : List (List ℕ)) → IsWithin (command_of words)
