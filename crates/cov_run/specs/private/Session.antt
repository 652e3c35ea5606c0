-- What the steps of a session give.
use Rattle.std.specs.Prelude.{◌≡◌, ℕ, List, Some, Result, Ok, Err}
use Rattle.js_coverage.specs.Coverage.{IsCoverage}
use Rattle.js_meaning.specs.Program.{Sources}
use Rattle.js_meaning.specs.World.{PlainRun, plain}
use Rattle.cov_object.specs.declared.file.FileCoverage.{FileCoverage}
use Rattle.cov_sources.specs.declared.source.Source.{Source}
use Rattle.cov_sim.specs.Refused.{IsFirstRefused}
use Rattle.cov_run.specs.declared.fault.SessionFault.{SessionFault}
use Rattle.cov_run.specs.declared.fault.SessionFault.TheVariants as fault
use Rattle.cov_run.specs.declared.sessions.SessionEnd.{SessionEnd}

-- a run of a program that ended so
pub record HasLeft (p : Sources) (path : List ℕ) (steps : ℕ) (left : SessionEnd) : Type 0 where
  pub run : PlainRun
  pub is : plain p path steps ≡ Some run
  pub ends : run.end ≡ left.end
  pub prints : run.store.output ≡ left.output
  pub covers : IsCoverage run.store.heap left.coverage

pub record HasLeftNone (p : Sources) (path : List ℕ) (steps : ℕ) : Type 0 where
  pub run : PlainRun
  pub is : plain p path steps ≡ Some run
  pub none : (files : List FileCoverage) → IsCoverage run.store.heap files → ⊥

abbrev pub Ends : Sources → List ℕ → ℕ → Result SessionEnd SessionFault → Type 0
Ends p path steps (Ok left) = HasLeft p path steps left
Ends p path steps (Err (fault.Refused at because)) = ⊥
Ends p path steps (Err fault.NotCoverage) = HasLeftNone p path steps
Ends p path steps (Err fault.Memory) = Unit {0}

-- why there is no program of these sources
abbrev pub IsUnmade : List Source → SessionFault → Type 0
IsUnmade sources (fault.Refused path because) = IsFirstRefused sources path because
IsUnmade sources fault.NotCoverage = ⊥
IsUnmade sources fault.Memory = Unit {0}
