-- What is put for an answer to a task.
use Rattle.std.specs.Prelude.{◌≡◌, ℕ, ◌≤◌, List, Option, Some, Result}
use Rattle.cov_base.specs.Store.{Held, PutsAt}
use Rattle.cov_base.specs.declared.failed.Failed.{Failed}
use Rattle.cov_object.specs.declared.file.FileCoverage.{FileCoverage}
use Rattle.cov_words.specs.declared.command.SourceTask.{SourceTask}
use Rattle.cov_words.specs.declared.command.SourceTask.TheVariants.{Run}
use Rattle.cov_commands.specs.Coverage.{json_line}

-- the JSON of its coverage at the path of `run`, and nothing of another task
abbrev pub StoredBy : SourceTask → Option (List FileCoverage) → Option Held → Option Held → Result (Unit {0}) Failed → Type 0
StoredBy (Run turns out exclude) (Some files) before after result = PutsAt out (json_line files) before after result
StoredBy other coverage before after result = after ≡ before

abbrev pub CountsPuts : SourceTask → ℕ → ℕ → Type 0
CountsPuts (Run turns out exclude) before after = before ≤ after
CountsPuts other before after = after ≡ before
