-- What a run of sources that count their own coverage prints, how it ends, and the coverage that it leaves.
use Rattle.std.specs.Prelude.{◌≡◌, ℕ, false, List, [], ◌∷◌, Some, IfSome}
use Rattle.std.specs.List.{AllZip}
use Rattle.std.specs.Str.{IsUtf8}
use Rattle.js_tree.specs.Plain.{File}
use Rattle.js_scopes.specs.Accepted.{Accepted}
use Rattle.js_coverage.specs.Coverage.{IsCoverage}
use Rattle.js_meaning.specs.declared.outcome.End.{End}
use Rattle.js_meaning.specs.Program as program
use Rattle.js_meaning.specs.World.{PlainRun, plain}
use Rattle.source_map.specs.Kept.{HasTexts}
use Rattle.cov_object.specs.declared.file.FileCoverage.{FileCoverage}
use Rattle.cov_sources.specs.Refused.{HasOnly}
use Rattle.cov_sources.specs.declared.source.Source.{Source}
use Rattle.cov_sim.specs.Counting.{RunsAs}
use Rattle.cov_sim.specs.Refused.{IsFirstRefused}
use Rattle.cov_run.specs.Exec.{program_of}
use Rattle.cov_run.specs.declared.fault.SessionFault.{SessionFault}
use Rattle.cov_run.specs.declared.fault.SessionFault.TheVariants as fault

-- a source as the file of a program that runs in its place: where it is counted its instrumented text, read again, and else its own tree
pub record IsCounting (source : Source) (file : program.Source) : Type 0 where
  pub utf8 : IsUtf8 source.path
  pub texts : IfSome source.input HasTexts
  pub path : file.path ≡ source.path
  pub tree : File
  pub accepted : Accepted source.bytes tree
  pub only : HasOnly source.bytes tree
  pub runs : RunsAs source tree file.tree
  pub uncounted : file.counted ≡ false

-- the path of the first of the sources
abbrev pub first_path : List Source → List ℕ
first_path [] = []
first_path (first ∷ rest) = first.path

-- the run of the first of these sources, in the program of all of them, with so many steps
pub record Counts (sources : List Source) (steps : ℕ) (run : PlainRun) : Type 0 where
  pub files : List program.Source
  pub counting : AllZip IsCounting sources files
  pub is : plain (program_of files) (first_path sources) steps ≡ Some run

-- it ends and prints like this, and its heap holds this coverage
pub record Leaves (sources : List Source) (steps : ℕ) (end : End) (output : List ℕ) (coverage : List FileCoverage) : Type 0 where
  pub run : PlainRun
  pub counts : Counts sources steps run
  pub ends : run.end ≡ end
  pub prints : run.store.output ≡ output
  pub covers : IsCoverage run.store.heap coverage

-- its heap holds no coverage
pub record LeavesNone (sources : List Source) (steps : ℕ) : Type 0 where
  pub run : PlainRun
  pub counts : Counts sources steps run
  pub none : (files : List FileCoverage) → IsCoverage run.store.heap files → ⊥

-- why there is no end
abbrev pub IsFault : List Source → ℕ → SessionFault → Type 0
IsFault sources steps (fault.Refused path because) = IsFirstRefused sources path because
IsFault sources steps fault.NotCoverage = LeavesNone sources steps
IsFault sources steps fault.Memory = Unit {0}
