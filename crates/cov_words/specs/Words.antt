-- The words of the command line, those after the program's name:
--     --help
--     maps FILE
--     exec [--turns N] FILE
--     instrument --out DIR FILE..
--     run [--turns N] [--out P] [--exclude GLOBS] ENTRY
--     merge --out P FILE..
--     report [--reporter R] FILE..
--     check [--lines N] [--statements N] [--branches N] [--functions N] FILE..
--     demo SEED COUNT
--     v8 --out P FILE..
-- `--help` stands alone. All others are read as the kit's clap says: a form is clap's data, `fault_of` says of a form and words what is wrong with them,
-- and `subcommand_of` the command that they name and what it finds for each of its arguments.
use Rattle.std.specs.Prelude.{ℕ, ◌==◌, Bool, true, false, List, [], ◌∷◌, ◌++◌, Option, Some, None, option_map, option_and_then, if◌then◌else◌, nat_le, codes}
use Rattle.std.specs.List.{list_any, slice_split}
use Rattle.std.specs.Str.{bytes_eq}
use Rattle.std.specs.Str.Parse.{digits_value, without_leading_plus}
use Rattle.clap.specs.Lexer.{usize_max}
use Rattle.clap.specs.Walk.{Row, Rule, Text, all_of, first_of, is_empty, one_of}
use Rattle.clap.specs.Simple.{App, Shape, new_app, new_rule, on_top, subcommand_of, with_rule, with_subcommand}
use Rattle.clap.specs.Faults.{fault_of}
use Rattle.clap.specs.ValueTests.{is_unsigned_in}
use Rattle.clap.specs.declared.builder.value_parser.ValueParser.TheVariants as parser
use Rattle.cov_summary.specs.declared.shortfall.Thresholds.{Thresholds}
use Rattle.cov_words.specs.declared.command.Command.{Command}
use Rattle.cov_words.specs.declared.command.Command.TheVariants.{Help, OnSource, Instrument, OnCoverage, OnV8}
use Rattle.cov_words.specs.declared.command.SourceTask.{SourceTask}
use Rattle.cov_words.specs.declared.command.SourceTask.TheVariants.{Maps, Exec, Run, Demo}
use Rattle.cov_words.specs.declared.command.CoverageTask.{CoverageTask}
use Rattle.cov_words.specs.declared.command.CoverageTask.TheVariants.{Merge, Report, Check}
use Rattle.cov_words.specs.declared.command.Reporter.{Reporter}
use Rattle.cov_words.specs.declared.command.Reporter.TheVariants as reporter
use Rattle.path_globs.specs.Source.{source_path}

-- ---- the forms

-- FILE: a word that a command on a source needs
abbrev pub file_rule : Rule
file_rule = record (new_rule (codes "file")) { required = true }

-- FILE..: one such word or more
abbrev pub files_rule : Rule
files_rule = record file_rule { range = Some (record { start_inclusive = 1; end_inclusive = usize_max }) }

-- the most turns, 2^53 - 1
abbrev pub max_turns : ℕ
max_turns = 9007199254740991

-- an option of this name
abbrev pub option_rule : Text → Rule
option_rule name = record (new_rule name) { long = Some name }

-- `--turns N`: decimal digits, where `+` may stand first, that write a number from 0 to `max_turns`; a million by default
abbrev pub turns_rule : Rule
turns_rule = record (option_rule (codes "turns")) {
  parser = Some (parser.Unsigned 0 max_turns);
  defaults = codes "1000000" ∷ [];
}

-- `--out P`, or `--out DIR`, which has to be there
abbrev pub out_rule : Rule
out_rule = record (option_rule (codes "out")) { required = true }

-- `--out P` of `run`, by default `coverage.json`
abbrev pub coverage_rule : Rule
coverage_rule = record (option_rule (codes "out")) { defaults = codes "coverage.json" ∷ [] }

-- `--exclude GLOBS`
abbrev pub exclude_rule : Rule
exclude_rule = option_rule (codes "exclude")

-- SEED: a number of 64 bits
abbrev pub seed_rule : Rule
seed_rule = record (new_rule (codes "seed")) { required = true; parser = Some (parser.Unsigned 0 18446744073709551615) }

-- COUNT: a number from 0 to 10,000
abbrev pub count_rule : Rule
count_rule = record (new_rule (codes "count")) { required = true; parser = Some (parser.Unsigned 0 10000) }

-- `--reporter R`, by default `text`
abbrev pub reporter_rule : Rule
reporter_rule = record (option_rule (codes "reporter")) { defaults = codes "text" ∷ [] }

-- `--lines N` and its like: a number from 0 to 100
abbrev pub threshold_rule : Text → Rule
threshold_rule metric = record (option_rule metric) { parser = Some (parser.Unsigned 0 100) }

abbrev pub maps_form : App
maps_form = with_rule (new_app (codes "maps")) file_rule

abbrev pub exec_form : App
exec_form = with_rule (with_rule (new_app (codes "exec")) turns_rule) file_rule

abbrev pub instrument_form : App
instrument_form = with_rule (with_rule (new_app (codes "instrument")) out_rule) files_rule

abbrev pub run_form : App
run_form = with_rule (with_rule (with_rule (with_rule (new_app (codes "run")) turns_rule) coverage_rule) exclude_rule) file_rule

abbrev pub demo_form : App
demo_form = with_rule (with_rule (new_app (codes "demo")) seed_rule) count_rule

abbrev pub merge_form : App
merge_form = with_rule (with_rule (new_app (codes "merge")) out_rule) files_rule

abbrev pub report_form : App
report_form = with_rule (with_rule (new_app (codes "report")) reporter_rule) files_rule

abbrev pub with_thresholds : App → App
with_thresholds form =
    with_rule (with_rule (with_rule (with_rule form
    (threshold_rule (codes "lines"))) (threshold_rule (codes "statements"))) (threshold_rule (codes "branches"))) (threshold_rule (codes "functions"))

abbrev pub check_form : App
check_form = with_rule (with_thresholds (new_app (codes "check"))) files_rule

abbrev pub v8_form : App
v8_form = with_rule (with_rule (new_app (codes "v8")) out_rule) files_rule

-- clap's own help is off, and the words don't begin with the program's name; with no version there is no `--version`
abbrev pub bare : Shape → Shape
bare form = record form { no_binary_name = true; disable_help_flag = true; disable_help_subcommand = true }

abbrev pub with_reading_forms : App → App
with_reading_forms form = with_subcommand (with_subcommand form maps_form.top) exec_form.top

abbrev pub with_source_forms : App → App
with_source_forms form = with_subcommand (with_subcommand (with_reading_forms form) instrument_form.top) run_form.top

abbrev pub source_forms : App
source_forms = with_source_forms (on_top bare (new_app (codes "cov")))

abbrev pub with_coverage_forms : App → App
with_coverage_forms form = with_subcommand (with_subcommand (with_subcommand form merge_form.top) report_form.top) check_form.top

abbrev pub cov_form : App
cov_form = with_subcommand (with_subcommand (with_coverage_forms source_forms) demo_form.top) v8_form.top

-- ---- what the words ask

-- the source path that a command's FILE names
abbrev pub file_in : List Row → Option (List ℕ)
file_in rows = option_and_then source_path (first_of (codes "file") rows)

-- the paths that a command's FILE.. names
abbrev pub files_in : List Row → Option (List (List ℕ))
files_in rows = all_of (codes "file") rows

-- a path more, unless it stands among these already
abbrev pub is_among : List ℕ → List (List ℕ) → Bool
is_among path paths = list_any (bytes_eq path) paths

abbrev pub with_path : List (List ℕ) → List ℕ → List (List ℕ)
with_path paths path = if is_among path paths then paths else paths ++ path ∷ []

-- these paths, and then the source paths that words name; none where a word names none
abbrev pub with_sources : List (List ℕ) → List Text → Option (List (List ℕ))
with_sources paths [] = Some paths
with_sources paths (word ∷ words) = option_and_then (λ path. with_sources (with_path paths path) words) (source_path word)

abbrev pub sources_of : List Text → Option (List (List ℕ))
sources_of words = with_sources [] words

-- the source paths that a command's FILE.. names, each once, in the order of the words
abbrev pub sources_in : List Row → Option (List (List ℕ))
sources_in rows = option_and_then sources_of (files_in rows)

-- the number that a text writes, where it is one of 64 bits; what passed a rule is
abbrev pub number_in : Text → Option ℕ
number_in text = if is_unsigned_in 0 18446744073709551615 text then Some (digits_value 10 (without_leading_plus text)) else None

-- the number found for an option
abbrev pub number_found : Text → List Row → Option ℕ
number_found name rows = option_and_then number_in (one_of name rows)

-- the numbers of `demo`
abbrev pub seed_in : List Row → Option ℕ
seed_in rows = number_found (codes "seed") rows

abbrev pub count_in : List Row → Option ℕ
count_in rows = number_found (codes "count") rows

-- the turns of `exec` and `run`: those of the words, or by default; what passed its rule is at most `max_turns`
abbrev pub if_turns : ℕ → Option ℕ
if_turns n = if nat_le n max_turns then Some n else None

abbrev pub turns_in : List Row → Option ℕ
turns_in rows = option_and_then if_turns (number_found (codes "turns") rows)

-- the path of `instrument`, `run`, `merge` and `v8`, which is not empty
abbrev pub if_path : Text → Option Text
if_path word = if bytes_eq word [] then None else Some word

abbrev pub out_in : List Row → Option (List ℕ)
out_in rows = option_and_then if_path (first_of (codes "out") rows)

-- the patterns of `run`, which commas join; none where there is no such word
abbrev pub patterns_of : Text → List (List ℕ)
patterns_of word = slice_split (λ byte. byte == 44) word

abbrev pub patterns_in : Option Text → List (List ℕ)
patterns_in None = []
patterns_in (Some word) = patterns_of word

abbrev pub exclude_in : List Row → List (List ℕ)
exclude_in rows = patterns_in (first_of (codes "exclude") rows)

-- the report of this name
abbrev pub reporter_of : Text → Option Reporter
reporter_of name =
    if bytes_eq name (codes "text") then Some reporter.Text
    else (if bytes_eq name (codes "json") then Some reporter.Json
    else (if bytes_eq name (codes "json-summary") then Some reporter.JsonSummary
    else (if bytes_eq name (codes "lcov") then Some reporter.Lcov
    else None)))

abbrev pub reporter_in : List Row → Option Reporter
reporter_in rows = option_and_then reporter_of (first_of (codes "reporter") rows)

-- the threshold of a metric, where the words have one; what passed its rule is at most 100
abbrev pub if_percent : ℕ → Option ℕ
if_percent n = if nat_le n 100 then Some n else None

abbrev pub threshold_in : Text → List Row → Option ℕ
threshold_in metric rows = option_and_then if_percent (number_found metric rows)

abbrev pub thresholds_in : List Row → Thresholds
thresholds_in rows = record {
  lines = threshold_in (codes "lines") rows;
  statements = threshold_in (codes "statements") rows;
  branches = threshold_in (codes "branches") rows;
  functions = threshold_in (codes "functions") rows;
}

-- what each command is to do
abbrev pub exec_in : List Row → Option SourceTask
exec_in rows = option_map Exec (turns_in rows)

abbrev pub run_in : List Row → Option SourceTask
run_in rows = option_and_then (λ turns. option_map (λ out. Run turns out (exclude_in rows)) (out_in rows)) (turns_in rows)

-- `demo` is on a file that is at the path `demo.js`
abbrev pub demo_of : ℕ → ℕ → Command
demo_of seed count = OnSource (Demo seed count) (codes "demo.js")

abbrev pub demo_in : List Row → Option Command
demo_in rows = option_and_then (λ seed. option_map (demo_of seed) (count_in rows)) (seed_in rows)

abbrev pub merge_in : List Row → Option CoverageTask
merge_in rows = option_map Merge (out_in rows)

abbrev pub report_in : List Row → Option CoverageTask
report_in rows = option_map Report (reporter_in rows)

abbrev pub check_in : List Row → CoverageTask
check_in rows = Check (thresholds_in rows)

abbrev pub on_source : Option SourceTask → List Row → Option Command
on_source task rows = option_and_then (λ what. option_map (OnSource what) (file_in rows)) task

abbrev pub instrument_in : List Row → Option Command
instrument_in rows = option_and_then (λ out. option_map (Instrument out) (sources_in rows)) (out_in rows)

abbrev pub on_coverage : Option CoverageTask → List Row → Option Command
on_coverage task rows = option_and_then (λ what. option_map (OnCoverage what) (files_in rows)) task

abbrev pub on_v8 : List Row → Option Command
on_v8 rows = option_and_then (λ out. option_map (OnV8 out) (files_in rows)) (out_in rows)

-- what is to be done with coverage files, by the command's name
abbrev pub coverage_task : Text → List Row → Option CoverageTask
coverage_task name rows =
    if bytes_eq name (codes "merge") then merge_in rows
    else (if bytes_eq name (codes "report") then report_in rows
    else (if bytes_eq name (codes "check") then Some (check_in rows)
    else None))

-- a command's name and what was found for its arguments
abbrev pub request_in : Text × List Row → Option Command
request_in (name, rows) =
    if bytes_eq name (codes "maps") then on_source (Some Maps) rows
    else (if bytes_eq name (codes "exec") then on_source (exec_in rows) rows
    else (if bytes_eq name (codes "instrument") then instrument_in rows
    else (if bytes_eq name (codes "run") then on_source (run_in rows) rows
    else (if bytes_eq name (codes "demo") then demo_in rows
    else (if bytes_eq name (codes "v8") then on_v8 rows
    else on_coverage (coverage_task name rows) rows)))))

-- the command that the words name, where nothing is wrong with them
abbrev pub found_in : List Text → Option (Text × List Row)
found_in words = if is_empty (fault_of cov_form words) then subcommand_of cov_form words else None

-- the words are `--help` and no more
abbrev pub is_help : List Text → Bool
is_help (word ∷ []) = bytes_eq word (codes "--help")
is_help words = false

-- what the words ask; all else has no reading
abbrev pub command_of : List Text → Option Command
command_of words = if is_help words then Some Help else option_and_then request_in (found_in words)
