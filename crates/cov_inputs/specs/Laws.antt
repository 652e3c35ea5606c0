-- What a reader expects of the sums of coverage files, as a law on the definitions.
use Rattle.std.specs.Prelude.{◌≡◌, ℕ, List, [], sum_by, Ok, Err}
use Rattle.std.specs.List.{list_any}
use Rattle.cov_object.specs.declared.file.FileCoverage.{FileCoverage}
use Rattle.cov_remap.specs.Sent.{Sending, sending_statements, sending_functions, sending_branches}
use Rattle.cov_remap.specs.Laws.{count_in, has_in, sent_count, is_sent}
use Rattle.cov_inputs.specs.Inputs.{Input, Sums, read_at, gathered}

-- the files that an input tells, before they are remapped; none where it is refused
abbrev pub or_none : Sums → List FileCoverage
or_none (Ok files) = files
or_none (Err why) = []

abbrev pub told : Input → List FileCoverage
told input = or_none (read_at input.path input.found)

-- the sums have at each key the counts of all entries that the source maps send there, and have the key exactly where one is sent to it
abbrev pub HasWhatIsTold : {T : Type 0} → Sending T → Type 0
HasWhatIsTold {T} sending = (inputs : List Input) (sums : List FileCoverage) → gathered [] inputs ≡ Ok sums → (path : List ℕ) (key : T) →
    ((place : ℕ) → count_in sending.kind path key place sums ≡ sum_by (λ input. sent_count sending path key place (told input)) inputs)
    × (has_in sending.kind path key sums ≡ list_any (λ input. is_sent sending path key (told input)) inputs)

abbrev pub HaveWhatIsTold : Type 0
HaveWhatIsTold = HasWhatIsTold sending_statements × HasWhatIsTold sending_functions × HasWhatIsTold sending_branches
