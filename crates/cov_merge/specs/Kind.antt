-- What is counted in a file: its statements, its functions or its branches.
use Rattle.std.specs.Prelude.{ℕ, Bool, List}
use Rattle.cov_object.specs.declared.file.FileCoverage.{FileCoverage}
use Rattle.cov_merge.specs.declared.key.Counter.{Counter}

pub record Kind (T : Type 0) : Type 0 where
  -- those of a file, each beside its number
  pub entries : FileCoverage → List (ℕ × T)
  -- whether two have the same key
  pub same : T → T → Bool
  -- how often it ran: a number for each path of a branch, and else one
  pub counts : T → List ℕ
  -- the same with these counts
  pub with_counts : T → List ℕ → T
  -- what names one of its counts in the file
  pub counter : T → ℕ → Counter
