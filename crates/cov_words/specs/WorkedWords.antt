-- Worked examples: what words ask.
use Rattle.std.specs.Prelude.{◌≡◌, ℕ, List, [], ◌∷◌, map, Option, Some, None, codes}
use Rattle.cov_words.specs.declared.command.Command.{Command}
use Rattle.cov_words.specs.declared.command.Command.TheVariants.{Help, OnSource, Instrument, OnCoverage, OnV8}
use Rattle.cov_words.specs.declared.command.SourceTask.TheVariants as task
use Rattle.cov_words.specs.declared.command.CoverageTask.TheVariants.{Merge, Report, Check}
use Rattle.cov_words.specs.declared.command.Reporter.{Reporter}
use Rattle.cov_words.specs.declared.command.Reporter.TheVariants as reporter
use Rattle.cov_words.specs.Words.{command_of}

-- the words stand left in each row, and right is what they ask
abbrev pub Asks : List (List (List ℕ) × Option Command) → Type 0
Asks rows = map (λ row. command_of row.0) rows ≡ map (λ row. row.1) rows

abbrev pub maps : List ℕ → Option Command
maps file = Some (OnSource task.Maps file)

abbrev pub exec : ℕ → List ℕ → Option Command
exec turns file = Some (OnSource (task.Exec turns) file)

-- `--help`, which stands alone
abbrev pub HelpAlone : Type 0
HelpAlone = Asks ((codes "--help" ∷ [], Some Help) ∷ [])

-- `maps`, which needs one FILE; after `--` each word is one
abbrev pub maps_rows : List (List (List ℕ) × Option Command)
maps_rows =
    (codes "maps" ∷ codes "a.js" ∷ [], maps (codes "a.js")) ∷
    (codes "maps" ∷ codes "./x/../a.js" ∷ [], maps (codes "a.js")) ∷
    (codes "maps" ∷ codes "--" ∷ codes "-a.js" ∷ [], maps (codes "-a.js")) ∷
    (codes "maps" ∷ codes "a.js" ∷ codes "--" ∷ [], maps (codes "a.js")) ∷
    (codes "maps" ∷ codes "maps/exec.js" ∷ [], maps (codes "maps/exec.js")) ∷
    []

abbrev pub Maps : Type 0
Maps = Asks maps_rows

-- `exec`, whose turns stand before or after FILE, in a word of their own or after `=`
abbrev pub exec_rows : List (List (List ℕ) × Option Command)
exec_rows =
    (codes "exec" ∷ codes "a.js" ∷ [], exec 1000000 (codes "a.js")) ∷
    (codes "exec" ∷ codes "--turns" ∷ codes "0" ∷ codes "a.js" ∷ [], exec 0 (codes "a.js")) ∷
    (codes "exec" ∷ codes "--turns=5" ∷ codes "a.js" ∷ [], exec 5 (codes "a.js")) ∷
    (codes "exec" ∷ codes "--turns" ∷ codes "+007" ∷ codes "a.js" ∷ [], exec 7 (codes "a.js")) ∷
    (codes "exec" ∷ codes "a.js" ∷ codes "--turns" ∷ codes "9007199254740991" ∷ [], exec 9007199254740991 (codes "a.js")) ∷
    (codes "exec" ∷ codes "--" ∷ codes "a.js" ∷ [], exec 1000000 (codes "a.js")) ∷
    (codes "exec" ∷ codes "--turns" ∷ codes "3" ∷ codes "--" ∷ codes "--.js" ∷ [], exec 3 (codes "--.js")) ∷
    []

abbrev pub Exec : Type 0
Exec = Asks exec_rows

-- `instrument`, which needs DIR and one FILE or more, in any order; of files with one normal form there is one
abbrev pub instrument : List ℕ → List (List ℕ) → Option Command
instrument out files = Some (Instrument out files)

abbrev pub instrument_rows : List (List (List ℕ) × Option Command)
instrument_rows =
    (codes "instrument" ∷ codes "--out" ∷ codes "d" ∷ codes "a.js" ∷ [], instrument (codes "d") (codes "a.js" ∷ [])) ∷
    (codes "instrument" ∷ codes "b.js" ∷ codes "a.js" ∷ codes "--out=d/e" ∷ [], instrument (codes "d/e") (codes "b.js" ∷ codes "a.js" ∷ [])) ∷
    (codes "instrument" ∷ codes "a.js" ∷ codes "--out" ∷ codes "d" ∷ codes "./x/../a.js" ∷ codes "b.js" ∷ codes "a.js" ∷ [], instrument (codes "d") (codes "a.js" ∷ codes "b.js" ∷ [])) ∷
    (codes "instrument" ∷ codes "--out" ∷ codes "d" ∷ codes "--" ∷ codes "-a.js" ∷ codes "--.js" ∷ [], instrument (codes "d") (codes "-a.js" ∷ codes "--.js" ∷ [])) ∷
    []

abbrev pub Instruments : Type 0
Instruments = Asks instrument_rows

-- `run`, whose turns, P and patterns have defaults; commas join patterns
abbrev pub run : ℕ → List ℕ → List (List ℕ) → List ℕ → Option Command
run turns out exclude file = Some (OnSource (task.Run turns out exclude) file)

abbrev pub run_rows : List (List (List ℕ) × Option Command)
run_rows =
    (codes "run" ∷ codes "a.js" ∷ [], run 1000000 (codes "coverage.json") [] (codes "a.js")) ∷
    (codes "run" ∷ codes "--turns" ∷ codes "0" ∷ codes "./x/../a.js" ∷ [], run 0 (codes "coverage.json") [] (codes "a.js")) ∷
    (codes "run" ∷ codes "a.js" ∷ codes "--out=d/c.json" ∷ codes "--turns=9007199254740991" ∷ [], run 9007199254740991 (codes "d/c.json") [] (codes "a.js")) ∷
    (codes "run" ∷ codes "--exclude" ∷ codes "b.js" ∷ codes "a.js" ∷ [], run 1000000 (codes "coverage.json") (codes "b.js" ∷ []) (codes "a.js")) ∷
    (codes "run" ∷ codes "--exclude=b.js,lib/**" ∷ codes "a.js" ∷ [], run 1000000 (codes "coverage.json") (codes "b.js" ∷ codes "lib/**" ∷ []) (codes "a.js")) ∷
    (codes "run" ∷ codes "--exclude=,b,," ∷ codes "--" ∷ codes "-a.js" ∷ [], run 1000000 (codes "coverage.json") ([] ∷ codes "b" ∷ [] ∷ [] ∷ []) (codes "-a.js")) ∷
    []

abbrev pub Runs : Type 0
Runs = Asks run_rows

-- `demo`, which needs two numbers
abbrev pub demo : ℕ → ℕ → Option Command
demo seed count = Some (OnSource (task.Demo seed count) (codes "demo.js"))

abbrev pub demo_rows : List (List (List ℕ) × Option Command)
demo_rows =
    (codes "demo" ∷ codes "7" ∷ codes "1" ∷ [], demo 7 1) ∷
    (codes "demo" ∷ codes "0" ∷ codes "10000" ∷ [], demo 0 10000) ∷
    (codes "demo" ∷ codes "18446744073709551615" ∷ codes "+007" ∷ [], demo 18446744073709551615 7) ∷
    (codes "demo" ∷ codes "--" ∷ codes "1" ∷ codes "2" ∷ [], demo 1 2) ∷
    []

abbrev pub Demos : Type 0
Demos = Asks demo_rows

-- `merge`, which needs P and one FILE or more, in any order
abbrev pub merge : List ℕ → List (List ℕ) → Option Command
merge out files = Some (OnCoverage (Merge out) files)

abbrev pub merge_rows : List (List (List ℕ) × Option Command)
merge_rows =
    (codes "merge" ∷ codes "--out" ∷ codes "p" ∷ codes "a.json" ∷ [], merge (codes "p") (codes "a.json" ∷ [])) ∷
    (codes "merge" ∷ codes "a.json" ∷ codes "b.json" ∷ codes "--out=p" ∷ [], merge (codes "p") (codes "a.json" ∷ codes "b.json" ∷ [])) ∷ (
      codes "merge" ∷ codes "a.json" ∷ codes "--out" ∷ codes "p" ∷ codes "b" ∷ codes "a.json" ∷ [],
      merge (codes "p") (codes "a.json" ∷ codes "b" ∷ codes "a.json" ∷ []),
    ) ∷
    (codes "merge" ∷ codes "--out" ∷ codes "p" ∷ codes "--" ∷ codes "-a" ∷ codes "--out" ∷ [], merge (codes "p") (codes "-a" ∷ codes "--out" ∷ [])) ∷
    []

abbrev pub Merges : Type 0
Merges = Asks merge_rows

-- `report`, whose reporter is `text` by default
abbrev pub report : Reporter → List (List ℕ) → Option Command
report reporter files = Some (OnCoverage (Report reporter) files)

abbrev pub report_rows : List (List (List ℕ) × Option Command)
report_rows =
    (codes "report" ∷ codes "a.json" ∷ [], report reporter.Text (codes "a.json" ∷ [])) ∷
    (codes "report" ∷ codes "--reporter" ∷ codes "text" ∷ codes "a.json" ∷ [], report reporter.Text (codes "a.json" ∷ [])) ∷
    (codes "report" ∷ codes "--reporter=json" ∷ codes "a.json" ∷ [], report reporter.Json (codes "a.json" ∷ [])) ∷
    (codes "report" ∷ codes "a.json" ∷ codes "b.json" ∷ codes "--reporter" ∷ codes "json-summary" ∷ [], report reporter.JsonSummary (codes "a.json" ∷ codes "b.json" ∷ [])) ∷
    (codes "report" ∷ codes "a.json" ∷ codes "--reporter=lcov" ∷ codes "./x/../b" ∷ [], report reporter.Lcov (codes "a.json" ∷ codes "./x/../b" ∷ [])) ∷
    []

abbrev pub Reports : Type 0
Reports = Asks report_rows

-- `check`, with the thresholds that the words have
abbrev pub check : Option ℕ → Option ℕ → Option ℕ → Option ℕ → List (List ℕ) → Option Command
check lines statements branches functions files =
    Some (OnCoverage (Check (record { lines = lines; statements = statements; branches = branches; functions = functions })) files)

abbrev pub check_rows : List (List (List ℕ) × Option Command)
check_rows =
    (codes "check" ∷ codes "a.json" ∷ [], check None None None None (codes "a.json" ∷ [])) ∷
    (codes "check" ∷ codes "--lines" ∷ codes "90" ∷ codes "a.json" ∷ [], check (Some 90) None None None (codes "a.json" ∷ [])) ∷
    (codes "check" ∷ codes "--statements=0" ∷ codes "a" ∷ codes "--branches" ∷ codes "100" ∷ codes "b" ∷ [], check None (Some 0) (Some 100) None (codes "a" ∷ codes "b" ∷ [])) ∷
    (codes "check" ∷ codes "--functions" ∷ codes "+07" ∷ codes "--lines=1" ∷ codes "a" ∷ [], check (Some 1) None None (Some 7) (codes "a" ∷ [])) ∷
    []

abbrev pub Checks : Type 0
Checks = Asks check_rows

-- `v8`, which needs P and one FILE or more, in any order
abbrev pub v8 : List ℕ → List (List ℕ) → Option Command
v8 out files = Some (OnV8 out files)

abbrev pub v8_rows : List (List (List ℕ) × Option Command)
v8_rows =
    (codes "v8" ∷ codes "--out" ∷ codes "p" ∷ codes "a.json" ∷ [], v8 (codes "p") (codes "a.json" ∷ [])) ∷
    (codes "v8" ∷ codes "a.json" ∷ codes "--out=p" ∷ codes "a.json" ∷ [], v8 (codes "p") (codes "a.json" ∷ codes "a.json" ∷ [])) ∷
    (codes "v8" ∷ codes "--out" ∷ codes "p" ∷ codes "--" ∷ codes "-a" ∷ [], v8 (codes "p") (codes "-a" ∷ [])) ∷
    []

abbrev pub V8s : Type 0
V8s = Asks v8_rows

-- words with no reading
abbrev pub unread : List (List (List ℕ))
unread =
    [] ∷
    ([] ∷ []) ∷
    (codes "a.js" ∷ []) ∷
    (codes "map" ∷ codes "a.js" ∷ []) ∷
    (codes "--help" ∷ codes "maps" ∷ []) ∷
    (codes "--help" ∷ codes "--help" ∷ []) ∷
    (codes "--help" ∷ codes "maps" ∷ codes "a.js" ∷ []) ∷
    (codes "--help=" ∷ []) ∷
    (codes "--" ∷ codes "--help" ∷ []) ∷
    (codes "-h" ∷ []) ∷
    (codes "help" ∷ []) ∷
    (codes "help" ∷ codes "maps" ∷ []) ∷
    (codes "--version" ∷ []) ∷
    (codes "--" ∷ codes "maps" ∷ codes "a.js" ∷ []) ∷
    (codes "maps" ∷ []) ∷
    (codes "maps" ∷ [] ∷ []) ∷
    (codes "maps" ∷ codes "-" ∷ []) ∷
    (codes "maps" ∷ codes "a.txt" ∷ []) ∷
    (codes "maps" ∷ codes "../a.js" ∷ []) ∷
    (codes "maps" ∷ codes "-a.js" ∷ []) ∷
    (codes "maps" ∷ codes "--a.js" ∷ []) ∷
    (codes "maps" ∷ codes "--help" ∷ []) ∷
    (codes "maps" ∷ codes "a.js" ∷ codes "b.js" ∷ []) ∷
    (codes "maps" ∷ codes "--turns" ∷ codes "1" ∷ codes "a.js" ∷ []) ∷
    (codes "exec" ∷ []) ∷
    (codes "exec" ∷ codes "--help" ∷ []) ∷
    (codes "exec" ∷ codes "a.js" ∷ codes "b.js" ∷ []) ∷
    (codes "exec" ∷ codes "--turns" ∷ codes "a.js" ∷ []) ∷
    (codes "exec" ∷ codes "--turns" ∷ codes "x" ∷ codes "a.js" ∷ []) ∷
    (codes "exec" ∷ codes "--turns=" ∷ codes "a.js" ∷ []) ∷
    (codes "exec" ∷ codes "--turns" ∷ [] ∷ codes "a.js" ∷ []) ∷
    (codes "exec" ∷ codes "--turns" ∷ codes "-1" ∷ codes "a.js" ∷ []) ∷
    (codes "exec" ∷ codes "--turns=-1" ∷ codes "a.js" ∷ []) ∷
    (codes "exec" ∷ codes "--turns=0x10" ∷ codes "a.js" ∷ []) ∷
    (codes "exec" ∷ codes "--turns" ∷ codes "9007199254740992" ∷ codes "a.js" ∷ []) ∷
    (codes "exec" ∷ codes "a.js" ∷ codes "--turns" ∷ []) ∷
    (codes "exec" ∷ codes "--turn" ∷ codes "1" ∷ codes "a.js" ∷ []) ∷
    (codes "exec" ∷ codes "--turns" ∷ codes "1" ∷ codes "--turns" ∷ codes "2" ∷ codes "a.js" ∷ []) ∷
    (codes "instrument" ∷ codes "a.js" ∷ []) ∷
    (codes "instrument" ∷ codes "--out" ∷ codes "d" ∷ []) ∷
    (codes "instrument" ∷ codes "--out=" ∷ codes "a.js" ∷ []) ∷
    (codes "instrument" ∷ codes "--out" ∷ [] ∷ codes "a.js" ∷ []) ∷
    (codes "instrument" ∷ codes "--out" ∷ codes "d" ∷ codes "a.js" ∷ codes "b.json" ∷ []) ∷
    (codes "instrument" ∷ codes "--out" ∷ codes "d" ∷ codes "a.js" ∷ codes "../b.js" ∷ []) ∷
    (codes "instrument" ∷ codes "--out" ∷ codes "d" ∷ codes "--out" ∷ codes "e" ∷ codes "a.js" ∷ []) ∷
    (codes "instrument" ∷ codes "--turns" ∷ codes "1" ∷ codes "--out" ∷ codes "d" ∷ codes "a.js" ∷ []) ∷
    (codes "run" ∷ []) ∷
    (codes "run" ∷ codes "a.json" ∷ []) ∷
    (codes "run" ∷ codes "../a.js" ∷ []) ∷
    (codes "run" ∷ codes "a.js" ∷ codes "b.js" ∷ []) ∷
    (codes "run" ∷ codes "--out=" ∷ codes "a.js" ∷ []) ∷
    (codes "run" ∷ codes "--turns" ∷ codes "9007199254740992" ∷ codes "a.js" ∷ []) ∷
    (codes "run" ∷ codes "--exclude" ∷ codes "a" ∷ codes "--exclude" ∷ codes "b" ∷ codes "a.js" ∷ []) ∷
    (codes "run" ∷ codes "a.js" ∷ codes "--exclude" ∷ []) ∷
    (codes "demo" ∷ codes "1" ∷ []) ∷
    (codes "demo" ∷ codes "1" ∷ codes "2" ∷ codes "3" ∷ []) ∷
    (codes "demo" ∷ codes "1" ∷ codes "10001" ∷ []) ∷
    (codes "demo" ∷ codes "18446744073709551616" ∷ codes "1" ∷ []) ∷
    (codes "demo" ∷ codes "x" ∷ codes "1" ∷ []) ∷
    (codes "demo" ∷ codes "1" ∷ [] ∷ []) ∷
    (codes "demo" ∷ codes "--turns" ∷ codes "1" ∷ codes "1" ∷ codes "1" ∷ []) ∷
    (codes "merge" ∷ codes "a.json" ∷ []) ∷
    (codes "merge" ∷ codes "--out" ∷ codes "p" ∷ []) ∷
    (codes "merge" ∷ codes "--out=" ∷ codes "a.json" ∷ []) ∷
    (codes "merge" ∷ codes "--out" ∷ [] ∷ codes "a.json" ∷ []) ∷
    (codes "merge" ∷ codes "--out" ∷ codes "p" ∷ codes "--out" ∷ codes "q" ∷ codes "a.json" ∷ []) ∷
    (codes "v8" ∷ codes "a.json" ∷ []) ∷
    (codes "v8" ∷ codes "--out" ∷ codes "p" ∷ []) ∷
    (codes "v8" ∷ codes "--out=" ∷ codes "a.json" ∷ []) ∷
    (codes "v8" ∷ codes "--out" ∷ codes "p" ∷ codes "--reporter" ∷ codes "json" ∷ codes "a.json" ∷ []) ∷
    (codes "report" ∷ []) ∷
    (codes "report" ∷ codes "--reporter" ∷ codes "html" ∷ codes "a.json" ∷ []) ∷
    (codes "report" ∷ codes "--reporter=" ∷ codes "a.json" ∷ []) ∷
    (codes "report" ∷ codes "--reporter" ∷ codes "LCOV" ∷ codes "a.json" ∷ []) ∷
    (codes "report" ∷ codes "a.json" ∷ codes "--reporter" ∷ []) ∷
    (codes "report" ∷ codes "--lines" ∷ codes "1" ∷ codes "a.json" ∷ []) ∷
    (codes "check" ∷ []) ∷
    (codes "check" ∷ codes "--lines" ∷ codes "101" ∷ codes "a.json" ∷ []) ∷
    (codes "check" ∷ codes "--lines" ∷ codes "-1" ∷ codes "a.json" ∷ []) ∷
    (codes "check" ∷ codes "--lines" ∷ codes "9.5" ∷ codes "a.json" ∷ []) ∷
    (codes "check" ∷ codes "--lines" ∷ codes "1" ∷ codes "--lines" ∷ codes "1" ∷ codes "a.json" ∷ []) ∷
    (codes "check" ∷ codes "--lines" ∷ codes "256" ∷ codes "a.json" ∷ []) ∷
    []

abbrev pub NoReading : Type 0
NoReading = Asks (map (λ words. (words, None)) unread)
