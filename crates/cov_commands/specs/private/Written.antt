-- What the steps of `instrument` give.
use Rattle.std.specs.Prelude.{◌≡◌, ℕ, List, map, Option, None, Some, Result, Ok, Err}
use Rattle.js_tree.specs.Plain.{File}
use Rattle.cov_base.specs.Store.{Held, PutsAt}
use Rattle.cov_base.specs.declared.failed.Failed.{Failed}
use Rattle.source_map.specs.declared.place.Parts.{Parts}
use Rattle.cov_run.specs.Loaded.{HasInput, IsSource}
use Rattle.cov_commands.specs.Instrument.{Each, IsTextOf, map_below, map_for, path_below}
use Rattle.cov_commands.specs.declared.written.Written.{Written}

-- the file is a source, and this is put for it
pub record IsWritten (told : Option Held) (written : Written) : Type 0 where
  pub bytes : List ℕ
  pub tree : File
  pub input : Option Parts
  pub source : IsSource told written.file bytes tree
  pub has : HasInput told written.file input
  pub is : IsTextOf written.file bytes input tree written.text
  pub map : written.map ≡ map_for written.file bytes input tree

abbrev pub files_of : List Written → List (List ℕ)
files_of list = map (λ written. written.file) list

-- all files are sources, and these are put for them
pub record AreWritten (told : Option Held) (files : List (List ℕ)) (list : List Written) : Type 0 where
  pub of : files_of list ≡ files
  pub each : Each (IsWritten told) list

-- a map that is put at a path; where there is none, nothing is put
abbrev pub PutsMap : List ℕ → Option (List ℕ) → Option Held → Option Held → Result (Unit {0}) Failed → Type 0
PutsMap path None before after result = (result ≡ Ok tt) × (after ≡ before)
PutsMap path (Some map) before after result = PutsAt path map before after result

-- a file's text is put, and then its map, unless a put fails
pub data PutsBoth (out : List ℕ) (written : Written) (before after : Option Held) : Result (Unit {0}) Failed → Type 0 where
  no_text : {why : Failed} → PutsAt (path_below out written.file) written.text before after (Err why) → PutsBoth out written before after (Err why)
  with_text : {between : Option Held} {result : Result (Unit {0}) Failed} → PutsAt (path_below out written.file) written.text before between (Ok tt) →
      PutsMap (map_below out written.file) written.map between after result → PutsBoth out written before after result
