-- What a step on V8 files gives, where the store tells what it holds.
use Rattle.std.specs.Prelude.{◌≡◌, ℕ, List, [], Result, Err}
use Rattle.cov_base.specs.Store.{Held}
use Rattle.cov_object.specs.declared.file.FileCoverage.{FileCoverage}
use Rattle.cov_v8.specs.declared.v8.V8Script.{V8Script}
use Rattle.cov_inputs.specs.declared.fault.InputFault.{InputFault}
use Rattle.cov_inputs.specs.declared.fault.InputFault.TheVariants.{ReadFailed}
use Rattle.cov_inputs.specs.V8.{with_scripts, gathered_v8, ReadsSource, Reads}

-- no read failed
abbrev pub NoReadFails : {A : Type 0} → Result A InputFault → Type 0
NoReadFails (Err (ReadFailed path)) = ⊥
NoReadFails other = Unit {0}

-- all entries come to what those that are left come to, with these sums, and what is read for these is read for all
pub record EntriesGoOn (held : Held) (file : List ℕ) (first : List FileCoverage) (all : List V8Script) (sums : List FileCoverage) (left : List V8Script) : Type 0 where
  pub come : with_scripts held file first all ≡ with_scripts held file sums left
  pub reads : (path : List ℕ) → ReadsSource held file sums left path → ReadsSource held file first all path

-- and all files to what those that are left come to
pub record FilesGoOn (held : Held) (all : List (List ℕ)) (sums : List FileCoverage) (left : List (List ℕ)) : Type 0 where
  pub come : gathered_v8 held [] all ≡ gathered_v8 held sums left
  pub reads : (path : List ℕ) → Reads held sums left path → Reads held [] all path
