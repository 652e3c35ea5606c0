-- What a run of sources comes to by their own meaning, where their coverage is counted.
use Rattle.std.specs.Prelude.{◌≡◌, ℕ, ◌-◌, ◌^◌, ◌<◌, ◌≤◌, true, not, List, [], ◌∷◌, length, Some, nat_eq, codes}
use Rattle.std.specs.List.{AllZip, ends_with}
use Rattle.js_scopes.specs.Accepted.{Accepted}
use Rattle.js_coverage.specs.Coverage.{IsCoverage}
use Rattle.js_meaning.specs.declared.outcome.End.{End}
use Rattle.js_meaning.specs.Program as program
use Rattle.js_meaning.specs.World.{World, PlainRun, world}
use Rattle.cov_object.specs.declared.file.FileCoverage.{FileCoverage}
use Rattle.cov_expected.specs.Expected.{expected}
use Rattle.cov_sources.specs.declared.source.Source.{Source}
use Rattle.cov_sim.specs.Headline.{IsElsewhere, zeros}
use Rattle.cov_sim.specs.Instrumented.{is_left_out}
use Rattle.cov_run.specs.Exec.{program_of}
use Rattle.cov_run.specs.Session.{Counts, first_path}

-- each source is at a path of its own, which ends with `.js`
abbrev pub AreApart : List Source → Type 0
AreApart [] = Unit {0}
AreApart (source ∷ sources) = (ends_with nat_eq source.path (codes ".js") ≡ true) × IsElsewhere source.path sources × AreApart sources

-- a source as a file of a program, which counts where the source is counted and no comment takes it out
pub record IsFile (source : Source) (file : program.Source) : Type 0 where
  pub path : file.path ≡ source.path
  pub accepted : Accepted source.bytes file.tree
  pub counted : file.counted ≡ not (is_left_out source file.tree)

-- the run of the first of the sources with so many steps, of which each entry takes one
pub record Means (sources : List Source) (steps : ℕ) (files : List program.Source) (w : World) : Type 0 where
  pub are : AllZip IsFile sources files
  pub is : world (program_of files) (first_path sources) steps ≡ Some w

-- it ends and prints like this, and this is the coverage of the files that it started, every count that of the entries of its construct
pub record IsMeant (sources : List Source) (steps : ℕ) (end : End) (output : List ℕ) (coverage : List FileCoverage) : Type 0 where
  pub files : List program.Source
  pub w : World
  pub means : Means sources steps files w
  pub ends : end ≡ w.end
  pub prints : output ≡ w.output
  pub counts : coverage ≡ expected (zeros sources files) w.log w.started

-- the run of the instrumented texts, read again, ends and prints so, and its heap holds this coverage
abbrev pub SessionsMean : Type 0
SessionsMean = (sources : List Source) (steps : ℕ) (run : PlainRun) → AreApart sources → 0 < length sources → steps ≤ 2 ^ 53 - 1 → Counts sources steps run →
    (coverage : List FileCoverage) × IsCoverage run.store.heap coverage × IsMeant sources steps run.end run.store.output coverage
