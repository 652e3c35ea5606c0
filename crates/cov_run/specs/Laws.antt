-- What holds of every loading and every run.
use Rattle.std.specs.Prelude.{◌≡◌, ℕ, true, List, Option, Some, Result, Ok, Err, nat_eq, codes}
use Rattle.std.specs.List.{ends_with}
use Rattle.js_meaning.specs.World.{PlainRun}
use Rattle.js_coverage.specs.Coverage.{IsCoverage}
use Rattle.js_value.specs.State.{Heap}
use Rattle.cov_object.specs.declared.file.FileCoverage.{FileCoverage}
use Rattle.cov_sim.specs.Refused.{IsFirstRefused}
use Rattle.source_map.specs.declared.fault.MapFault.{MapFault}
use Rattle.cov_base.specs.Store.{Held}
use Rattle.cov_sources.specs.declared.source.Source.{Source}
use Rattle.cov_sources.specs.declared.why.Why.{Why}
use Rattle.cov_run.specs.Exec.{AreRead, IsFirst, Runs}
use Rattle.cov_run.specs.Loaded.{IsNoSource, Loaded}
use Rattle.cov_run.specs.Meant.{AreApart}
use Rattle.cov_run.specs.Session.{Counts}
use Rattle.cov_run.specs.declared.fault.LoadFault.{LoadFault}
use Rattle.cov_run.specs.declared.fault.LoadFault.TheVariants as fault

-- two outcomes are the same but for what is told of a text that isn't accepted, or a read failed or memory was wanting in one of them
pub data Agree : Result (List Source) LoadFault → Result (List Source) LoadFault → Type 0 where
  loaded : {sources : List Source} → Agree (Ok sources) (Ok sources)
  no_file : Agree (Err fault.NoFile) (Err fault.NoFile)
  refused : {path : List ℕ} {one other : Why} → Agree (Err (fault.Refused path one)) (Err (fault.Refused path other))
  too_long : {path : List ℕ} → Agree (Err (fault.TooLong path)) (Err (fault.TooLong path))
  bad_map : {path : List ℕ} {why : MapFault} → Agree (Err (fault.BadMap path why)) (Err (fault.BadMap path why))
  too_many : Agree (Err fault.TooManyFiles) (Err fault.TooManyFiles)
  one_failed : {path : List ℕ} {other : Result (List Source) LoadFault} → Agree (Err (fault.ReadFault path)) other
  other_failed : {path : List ℕ} {one : Result (List Source) LoadFault} → Agree one (Err (fault.ReadFault path))
  one_wants : {other : Result (List Source) LoadFault} → Agree (Err fault.Memory) other
  other_wants : {one : Result (List Source) LoadFault} → Agree one (Err fault.Memory)

-- what is held decides what a program comes to
abbrev pub OneOutcome : Type 0
OneOutcome = (held : Held) (entry : List ℕ) (exclude : List (List ℕ)) (one other : Result (List Source) LoadFault) →
    Loaded (Some held) entry exclude one → Loaded (Some held) entry exclude other → Agree one other

-- sources that are loaded begin with the entry, and each is read
abbrev pub BeginsWithEntry : Type 0
BeginsWithEntry = (told : Option Held) (entry : List ℕ) (exclude : List (List ℕ)) (sources : List Source) → Loaded told entry exclude (Ok sources) → IsFirst entry sources

-- each is at a path of its own, which ends with `.js` as the entry's does
abbrev pub LoadsApart : Type 0
LoadsApart = (told : Option Held) (entry : List ℕ) (exclude : List (List ℕ)) (sources : List Source) → ends_with nat_eq entry (codes ".js") ≡ true → Loaded told entry exclude (Ok sources) → AreApart sources

abbrev pub AllAreRead : Type 0
AllAreRead = (told : Option Held) (entry : List ℕ) (exclude : List (List ℕ)) (sources : List Source) → Loaded told entry exclude (Ok sources) → AreRead sources

-- sources have one run
abbrev pub OneRun : Type 0
OneRun = (sources : List Source) (path : List ℕ) (turns : ℕ) (one other : PlainRun) → Runs sources path turns one → Runs sources path turns other → one ≡ other

-- so have sources that count their own coverage, and a heap holds one coverage at most
abbrev pub OneSession : Type 0
OneSession = (sources : List Source) (steps : ℕ) (one other : PlainRun) → Counts sources steps one → Counts sources steps other → one ≡ other

abbrev pub OneCoverage : Type 0
OneCoverage = (heap : Heap) (one other : List FileCoverage) → IsCoverage heap one → IsCoverage heap other → one ≡ other

-- none of the sources that are loaded is refused
abbrev pub RefusesNone : Type 0
RefusesNone = (told : Option Held) (entry : List ℕ) (exclude : List (List ℕ)) (sources : List Source) → Loaded told entry exclude (Ok sources) →
    (path : List ℕ) (because : Why) → IsFirstRefused sources path because → ⊥

-- a text that is refused is no source, for the cause that is told
abbrev pub RefusesNoSource : Type 0
RefusesNoSource = (told : Option Held) (entry : List ℕ) (exclude : List (List ℕ)) (path : List ℕ) (why : Why) → Loaded told entry exclude (Err (fault.Refused path why)) →
    (bytes : List ℕ) × IsNoSource told path bytes why
