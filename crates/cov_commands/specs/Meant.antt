-- What `run`, `demo` and `instrument` owe by the meaning of the sources: they end and print as it does, and count its entries; and the
-- texts that are put do what the sources do.
use Rattle.std.specs.Prelude.{◌≡◌, ◌≢◌, ◌⊎◌, ℕ, ◌-◌, ◌^◌, ◌≤◌, true, List, [], ◌∷◌, ◌++◌, Option, None, Some, IsSome, Ok, nat_eq, codes}
use Rattle.std.specs.List.{ends_with}
use Rattle.js_tree.specs.Plain.{File}
use Rattle.js_meaning.specs.Program as program
use Rattle.js_meaning.specs.World.{World}
use Rattle.js_meaning.specs.declared.outcome.End.{End}
use Rattle.js_scopes.specs.Accepted.{Accepted}
use Rattle.cov_base.specs.Sink.{after_more}
use Rattle.cov_base.specs.Store.{Held, BothTell, KeepsOthers}
use Rattle.cov_expected.specs.Expected.{expected}
use Rattle.cov_object.specs.declared.file.FileCoverage.{FileCoverage}
use Rattle.cov_sim.specs.Headline.{HavePaths, Simulates, zeros}
use Rattle.cov_sim.specs.Instrumented.{AreInstrumented, is_left_out}
use Rattle.cov_sim.specs.declared.instrumented.Instrumented.{Instrumented}
use Rattle.cov_sources.specs.declared.source.Source.{Source}
use Rattle.cov_words.specs.Laws.{IsWithin}
use Rattle.cov_words.specs.declared.command.Command.{Command}
use Rattle.cov_words.specs.declared.command.Command.TheVariants.{OnSource, Instrument}
use Rattle.cov_words.specs.declared.command.SourceTask.{SourceTask}
use Rattle.cov_words.specs.declared.command.SourceTask.TheVariants.{Run, Demo}
use Rattle.cov_run.specs.Loaded.{Loaded, map_in, map_path}
use Rattle.cov_run.specs.Meant.{Means, IsMeant}
use Rattle.cov_commands.specs.Coverage.{json_line}
use Rattle.cov_commands.specs.Demo.{demo_source, demo_summary, demo_turns}
use Rattle.cov_commands.specs.Instrument.{map_below, path_below}
use Rattle.cov_commands.specs.Line as said
use Rattle.cov_commands.specs.Program.{GivesWay, IsDue, PrintsAll, PrintsOutput, Says, SaysLines, Stores}
use Rattle.cov_commands.specs.Source.{ComesTo, said_of, status_of_end}
use Rattle.cov_commands.specs.declared.answer.Answer.{Answer}
use Rattle.cov_commands.specs.declared.status.Status.{Status}
use Rattle.cov_commands.specs.declared.status.Status.TheVariants as status

-- ---- what the two commands answer

-- the answer of `run` is that of the run of the sources that are loaded, by their own meaning
pub record RunsAsMeant (file : List ℕ) (told : Option Held) (turns : ℕ) (exclude : List (List ℕ)) (answer : Answer) : Type 0 where
  pub sources : List Source
  pub loads : Loaded told file exclude (Ok sources)
  pub coverage : List FileCoverage
  pub left : answer.coverage ≡ Some coverage
  pub meant : IsMeant sources turns answer.end answer.output coverage

abbrev pub RunsAreMeant : Type 0
RunsAreMeant = (file : List ℕ) (told : Option Held) (turns : ℕ) (out : List ℕ) (exclude : List (List ℕ)) (answer : Answer) →
    ends_with nat_eq file (codes ".js") ≡ true → turns ≤ 2 ^ 53 - 1 → ComesTo file told (Run turns out exclude) (Ok answer) → RunsAsMeant file told turns exclude answer

-- that of `demo` is that of its file, with the sums of its coverage after it
pub record DemonstratesAsMeant (file : List ℕ) (seed count : ℕ) (answer : Answer) : Type 0 where
  pub output : List ℕ
  pub coverage : List FileCoverage
  pub printed : answer.output ≡ output ++ demo_summary coverage
  pub meant : IsMeant (demo_source file seed count ∷ []) demo_turns answer.end output coverage

abbrev pub DemosAreMeant : Type 0
DemosAreMeant = (file : List ℕ) (told : Option Held) (seed count : ℕ) (answer : Answer) →
    ends_with nat_eq file (codes ".js") ≡ true → ComesTo file told (Demo seed count) (Ok answer) → DemonstratesAsMeant file seed count answer

-- ---- the headline of `run`: its output is that of the sources' meaning and no more, its status and its line are that end, and the coverage
-- that is expected of the meaning stands at its path, as JSON with a line feed, while every other path holds what it held

-- the line of an end, which is none where it is done
abbrev pub line_if : Option said.Message → List ℕ
line_if None = []
line_if (Some message) = said.line message

abbrev pub line_of_end : SourceTask → End → List ℕ
line_of_end task end = line_if (said_of task end)

pub record DoesAsMeant (turns : ℕ) (out : List ℕ) (exclude : List (List ℕ)) (sources : List Source) (result : Status) (told after : Option Held) (before printed had has : Option (List ℕ)) (low high : ℕ) : Type 0 where
  pub files : List program.Source
  pub w : World
  pub means : Means sources turns files w
  pub ends : status_of_end w.end ≡ result
  pub says : Says (line_of_end (Run turns out exclude) w.end) had has low high
  pub prints : printed ≡ after_more before w.output
  pub puts : BothTell told after (λ old new. (new out ≡ Some (json_line (expected (zeros sources files) w.log w.started))) × KeepsOthers out old new)

-- ---- of `demo`: the output of its file's meaning, and the sums of the coverage that is expected of it

pub record ShowsAsMeant (file : List ℕ) (seed count : ℕ) (result : Status) (before printed : Option (List ℕ)) : Type 0 where
  pub files : List program.Source
  pub w : World
  pub means : Means (demo_source file seed count ∷ []) demo_turns files w
  pub ends : status_of_end w.end ≡ result
  pub prints : printed ≡ after_more before (w.output ++ demo_summary (expected (zeros (demo_source file seed count ∷ []) files) w.log w.started))

-- ---- of `instrument`: whichever of the files make a program, the texts that are put are the instrumented texts of that program, with which
-- it does what the sources do, whichever is the entry and with each number of turns

abbrev pub IsMember : List ℕ → List (List ℕ) → Type 0
IsMember path [] = ⊥
IsMember path (file ∷ files) = (path ≡ file) ⊎ IsMember path files

-- the sources are among the files, as these are held with their maps, and each is counted
abbrev pub AreAmong : List (List ℕ) → Held → List Source → Type 0
AreAmong files old [] = Unit {0}
AreAmong files old (source ∷ sources) = (IsMember source.path files × (source.counted ≡ true) × (old source.path ≡ Some source.bytes) × (map_in (old (map_path source.path)) ≡ Ok source.input)) × AreAmong files old sources

-- below the folder stands the text of each source with its map, and where a comment takes it out the source itself
pub data TheyStand (out : List ℕ) (new : Held) : List Source → List Instrumented → Type 0 where
  none : TheyStand out new [] []
  itself : {source : Source} {sources : List Source} {texts : List Instrumented} (tree : File) → Accepted source.bytes tree → is_left_out source tree ≡ true →
      new (path_below out source.path) ≡ Some source.bytes → TheyStand out new sources texts → TheyStand out new (source ∷ sources) texts
  its_text : {source : Source} {sources : List Source} {made : Instrumented} {texts : List Instrumented} → made.path ≡ source.path →
      new (path_below out source.path) ≡ Some made.text → new (map_below out source.path) ≡ Some made.map → TheyStand out new sources texts → TheyStand out new (source ∷ sources) (made ∷ texts)

pub record InstrumentsAsMeant (out : List ℕ) (sources : List Source) (new : Held) : Type 0 where
  pub texts : List Instrumented
  pub are : AreInstrumented sources texts
  pub stand : TheyStand out new sources texts
  pub simulates : Simulates sources texts

-- ---- what the program did, by what the words asked for. Standard error had taken so much before and has taken so much now, and had and has
-- failed so often.

-- the sources of `run` are those that are loaded of what the store held, unless a fault or want of memory came first
abbrev pub DoesByMeaning : Option Command → Status → (told after : Option Held) (before printed had has : Option (List ℕ)) (low high : ℕ) → Type 0
DoesByMeaning (Some (OnSource (Run turns out exclude) file)) result told after before printed had has low high =
    IsSome told → (sources : List Source) → Loaded told file exclude (Ok sources) → GivesWay result ⊎ DoesAsMeant turns out exclude sources result told after before printed had has low high
DoesByMeaning (Some (OnSource (Demo seed count) file)) result told after before printed had has low high = PrintsAll result → ShowsAsMeant file seed count result before printed
DoesByMeaning (Some (Instrument out files)) result told after before printed had has low high =
    result ≡ status.Ok → BothTell told after (λ old new. (sources : List Source) → HavePaths sources → AreAmong files old sources → InstrumentsAsMeant out sources new)
DoesByMeaning other result told after before printed had has low high = Unit {0}

-- all that is due, printed, put and said is by the meaning
abbrev pub ActsAreMeant : Type 0
ActsAreMeant = (asked : Option Command) (result : Status) (told after : Option Held) (before printed had has : Option (List ℕ)) (low high : ℕ) → IsWithin asked → IsDue asked result told →
    (PrintsAll result → PrintsOutput asked result told before printed) → Stores asked result told after →
    (result ≢ status.Memory → SaysLines asked result told had has low high) → DoesByMeaning asked result told after before printed had has low high
