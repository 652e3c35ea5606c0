-- What a run of loaded sources prints, and how it ends.
use Rattle.std.specs.Prelude.{◌≡◌, ℕ, List, [], ◌∷◌, Some}
use Rattle.std.specs.List.{AllZip}
use Rattle.js_scopes.specs.Accepted.{Accepted}
use Rattle.js_prelude.specs.Prelude.{prelude_tree}
use Rattle.js_meaning.specs.declared.outcome.End.{End}
use Rattle.js_meaning.specs.Program as program
use Rattle.js_meaning.specs.World.{PlainRun, plain}
use Rattle.cov_sources.specs.Refused.{HasOnly}
use Rattle.cov_sources.specs.declared.source.Source.{Source}

-- a source as a file of a program: with its tree, the only one that it has
pub record IsRead (source : Source) (file : program.Source) : Type 0 where
  pub path : file.path ≡ source.path
  pub accepted : Accepted source.bytes file.tree
  pub only : HasOnly source.bytes file.tree
  pub counted : file.counted ≡ source.counted

abbrev pub program_of : List program.Source → program.Sources
program_of files = record { files = files; prelude = prelude_tree }

-- the run of the source at a path, in the program of all of them, with so many steps; none is counted
pub record Runs (sources : List Source) (path : List ℕ) (turns : ℕ) (run : PlainRun) : Type 0 where
  pub files : List program.Source
  pub read : AllZip IsRead sources files
  pub is : plain (program_of files) path turns ≡ Some run

-- it ends and prints like this
pub record EndsAs (sources : List Source) (path : List ℕ) (turns : ℕ) (end : End) (output : List ℕ) : Type 0 where
  pub run : PlainRun
  pub runs : Runs sources path turns run
  pub ends : run.end ≡ end
  pub prints : run.store.output ≡ output

-- each of the sources is read to a file
abbrev pub AreRead : List Source → Type 0
AreRead sources = (files : List program.Source) × AllZip IsRead sources files

-- the first of them is at the path
abbrev pub IsFirst : List ℕ → List Source → Type 0
IsFirst path [] = ⊥
IsFirst path (first ∷ rest) = first.path ≡ path
