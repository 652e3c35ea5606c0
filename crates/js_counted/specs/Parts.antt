-- What the law of the two runs asks of counters, part by part.
use Rattle.std.specs.Prelude.{◌≡◌, ℕ, ◌+◌, ◌-◌, ◌^◌, ◌≤◌, true, List, [], slice_get, Option, Some}
use Rattle.js_terms.specs.declared.place.Loc.{Loc}
use Rattle.js_terms.specs.declared.words.Comment.{Comment}
use Rattle.js_terms.specs.declared.words.Spelled.{Spelled}
use Rattle.js_tree.specs.Plain.{MakeFile, Stmts}
use Rattle.js_value.specs.State.{Store}
use Rattle.js_value.specs.Realm.{opening}
use Rattle.js_meaning.specs.Program.{Source, Sources, linked}
use Rattle.js_meaning.specs.World.{run}
use Rattle.js_suits.specs.Programs.{instrumented_source, Suits}
use Rattle.js_suits.specs.Settings.{World}
use Rattle.js_lockstep.specs.Worlds.{AlikeStores}
use Rattle.js_counter.specs.Starts.{opening_of, FileFresh}
use Rattle.js_lockstep.specs.Counters.{Keeps, Counts}
use Rattle.js_lockstep.specs.Programs.{first_world, Starts, SameRuns}
use Rattle.js_counted.specs.Files.{FileCounters}
use Rattle.js_counted.specs.Holds.{global, coverage_text, Holds}
use Rattle.js_counted.specs.Program.{is_counted, counted_program, counters, Prepared}

-- what is held stays while nothing touches it, and tells the coverage
abbrev pub CountersKeep : Type 0
CountersKeep = (files : ℕ → FileCounters) (p : Sources) → Keeps (counters files p)

-- it is held where a program begins
abbrev pub CountersBegin : Type 0
CountersBegin = (files : ℕ → FileCounters) (p : Sources) → Holds files (is_counted p) (counted_program files p) first_world [] [] opening

-- the code of each mark's counter takes a step, and the coverage has one entry more
abbrev pub CountersCount : Type 0
CountersCount = (files : ℕ → FileCounters) (p : Sources) → Prepared files p → Counts (counters files p) (counted_program files p)

-- where a counted file starts in both, the instrumented one begins with its directives, its function and a call of it, and its function's
-- name is none of its own
abbrev pub Begins : (ℕ → FileCounters) → Sources → ℕ → Source → List Comment → Store → List (Option Loc × Spelled) → Stmts → Type 0
Begins files p file source comments t ds rest =
    let f = files file in
    let xs = opening_of ds f.name f.path f.hash coverage_text f.zero f.first (f.first + 1) rest in
    ((instrumented_source (counters files p) file source).tree ≡ MakeFile xs comments)
    × FileFresh (counted_program files p) xs f.name f.path f.hash coverage_text f.zero f.first (f.first + 1) rest t global

abbrev pub FilesBegin : Type 0
FilesBegin = (files : ℕ → FileCounters) (p : Sources) → Prepared files p → Suits (counters files p) (linked p) → (file : ℕ) (source : Source) → slice_get (linked p).files file ≡ Some source → source.counted ≡ true →
    (xs : Stmts) (comments : List Comment) → source.tree ≡ MakeFile xs comments → (w : World) (s t : Store) → AlikeStores (counters files p) w s t →
    (ds : List (Option Loc × Spelled)) × (rest : Stmts) × Begins files p file source comments t ds rest

-- it starts in a step in both, and then both are at the file's own statements, its coverage there
abbrev pub FilesStart : Type 0
FilesStart = (files : ℕ → FileCounters) (p : Sources) → Prepared files p → Suits (counters files p) (linked p) → Starts (counters files p) (linked p) (counted_program files p)

-- so for each file of the program and each number of steps up to 2^53 - 1: the same end, the same output, and coverage that has the files
-- started, each under its path, with the number of entries at the place of each mark
abbrev pub CountersRun : Type 0
CountersRun = (files : ℕ → FileCounters) (p : Sources) → Prepared files p → Suits (counters files p) (linked p) →
    (file n : ℕ) → n ≤ 2 ^ 53 - 1 → SameRuns (counters files p) (run (linked p) file n) (run (counted_program files p) file n)
