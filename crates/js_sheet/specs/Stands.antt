-- At which sheet of the definitions a sheet of the code stands.
use Rattle.std.specs.Prelude.{◌≡◌, ℕ, ◌≤◌, Bool, List, Option, Some, None}
use Rattle.js_spelling.specs.Written.{Written}
use Rattle.cov_base.specs.Causes.{Rose}
use Rattle.cov_base.specs.Sink.{TakesPrefix}
use Rattle.cov_base.specs.declared.failed.Failed.TheVariants.{Device}
use Rattle.js_sheet.specs.declared.fault.PrintFault.TheVariants.{Sink}
use Rattle.js_sheet.specs.declared.sheet.Sheet as code
use Rattle.js_sheet.specs.Sheets.{Sheet, put_all}
use Rattle.js_sheet.specs.Ways.{Keeps, is_whole}

-- a sheet of the code, and what its sink says of itself
pub record At : Type 0 where
  pub sheet : code.Sheet
  pub taken : Option (List ℕ)
  pub faults : ℕ

abbrev pub at : code.Sheet → Option (List ℕ) → ℕ → At
at sheet taken faults = record { sheet = sheet; taken = taken; faults = faults }

-- what held when a sheet was begun: that its text is held whole, and what its sink had taken, after so many faults
pub record Start : Type 0 where
  pub whole : Bool
  pub taken : Option (List ℕ)
  pub faults : ℕ

-- nothing was lost
pub record Holds (start : Start) (now : At) (s : Sheet) : Type 0 where
  pub left : now.sheet.left ≡ s.left
  pub inserted : now.sheet.inserted ≡ s.inserted
  pub due : now.sheet.due ≡ s.due
  pub keeps : Keeps now.sheet.way start.taken now.taken s.text s.marks

-- unless there was a fault, all is held or taken; in any case the sink has taken a prefix of the text, and failed only where its count of faults rose
pub record Stands (start : Start) (now : At) (s : Sheet) : Type 0 where
  pub way : is_whole now.sheet.way ≡ start.whole
  pub all : now.sheet.fault ≡ None → Holds start now s
  pub prefix : TakesPrefix start.taken now.taken s.text
  pub later : start.faults ≤ now.faults
  pub device : now.sheet.fault ≡ Some (Sink Device) → Rose start.faults now.faults

-- wherever a sheet stood, it stands one step on
pub record Turns (old new : At) (step : Sheet → Sheet) : Type 0 where
  pub stands : (start : Start) (s : Sheet) → Stands start old s → Stands start new (step s)

-- the same after tokens
pub record Puts (old new : At) (tokens : List Written) : Type 0 where
  pub stands : (start : Start) (s : Sheet) → Stands start old s → Stands start new (put_all s tokens)
