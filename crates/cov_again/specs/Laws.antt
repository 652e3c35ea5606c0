-- What is proved of the program in which each counted file stands rewritten.
use Rattle.std.specs.Prelude.{◌≡◌, ℕ, ◌-◌, ◌^◌, ◌≤◌, List, Some}
use Rattle.js_meaning.specs.Program.{Sources, linked, uncounted}
use Rattle.js_meaning.specs.World.{World, PlainRun, world, plain}
use Rattle.js_alike.specs.Alike.{AreAlike}
use Rattle.js_coverage.specs.Coverage.{IsCoverage}
use Rattle.js_counted.specs.Program.{counted_program}
use Rattle.cov_object.specs.declared.file.FileCoverage.{FileCoverage}
use Rattle.cov_expected.specs.Expected.{expected}
use Rattle.cov_counted.specs.Accepted.{Content, AreAccepted, HavePaths, zero_at, HaveLiterals, files_of}
use Rattle.cov_again.specs.Replaced.{replaced}

-- linked, it is the linked program with its counters
abbrev pub LinksReplaced : Type 0
LinksReplaced = (content : ℕ → Content) (p : Sources) (literals : HaveLiterals content p) → linked (uncounted (replaced content p)) ≡ counted_program (files_of content p literals) p

-- ---- the two runs

-- a run without counting ends as one with counting does, prints what that prints, and its heap holds the coverage that is expected of that,
-- and no other
pub record SameRun (zero : ℕ → FileCoverage) (w : World) (r : PlainRun) : Type 0 where
  pub end : r.end ≡ w.end
  pub output : r.store.output ≡ w.output
  pub coverage : IsCoverage r.store.heap (expected zero w.log w.started)

-- so for each program of accepted sources and each number of steps up to 2^53 - 1: a program of trees that are alike those of the program
-- in which each counted file stands rewritten does without counting what the program of the sources does, and its heap holds the coverage
-- of that, whichever file is run
abbrev pub RunsReplaced : Type 0
RunsReplaced = (content : ℕ → Content) (p : Sources) → AreAccepted content p → HavePaths p → (r : Sources) → AreAlike r (replaced content p) →
    (path : List ℕ) (n : ℕ) → n ≤ 2 ^ 53 - 1 → (w : World) → world p path n ≡ Some w → (run : PlainRun) × (plain r path n ≡ Some run) × SameRun (zero_at content p) w run
