-- What the run of a program with its counters holds beside what stands for something in the source's run: under the global object the
-- coverage of the files started, and in each one's own environment the function that gives its data.
use Rattle.std.specs.Prelude.{◌≡◌, ◌≢◌, ℕ, ◌<◌, Bool, true, false, List, [], ◌∷◌, length, codes, Option, Some, None, slice_index_or}
use Rattle.js_terms.specs.Mark.{Mark}
use Rattle.js_terms.specs.declared.place.Loc.{Loc}
use Rattle.js_terms.specs.declared.words.Spelled.{Spelled}
use Rattle.js_value.specs.declared.built_in.Place.TheVariants.{Global}
use Rattle.js_value.specs.State.{Property, Written, Binding, Heap}
use Rattle.js_value.specs.Objects.{object_at, kind_of, own}
use Rattle.js_value.specs.Environments.{next_environment, no_binding, environment_at, place_of, value_of}
use Rattle.js_value.specs.Realm.{number_of, object, global_environment, opening}
use Rattle.js_value.specs.Running.{stands_in}
use Rattle.js_meaning.specs.Program.{Sources, function_at}
use Rattle.js_two_runs.specs.Pairs.{Paired}
use Rattle.cov_rewritten.specs.Counters.{quoted}
use Rattle.js_suits.specs.Settings.{Within, World}
use Rattle.js_lockstep.specs.Worlds.{root, SameProperties, OutersOlder}
use Rattle.js_counter.specs.Represents.{Placed, PlacedMembers, empty, json_members, value_at, OnMembers, Members, member_at, Represents}
use Rattle.js_counter.specs.Steady.{actual, gives_actual}
use Rattle.js_counter.specs.Preamble.{Covered}
use Rattle.js_counted.specs.Files.{FileCounters, expected}
use Rattle.js_counted.specs.Numbers.{AllCountable}

abbrev pub global : ℕ
global = number_of Global

-- the text `__coverage__`, as the preamble spells it
abbrev pub coverage_text : Spelled
coverage_text = quoted (codes "__coverage__")

-- What is told in the end

-- where no file has started, the global object has no `__coverage__`; else this is the coverage of the files started, and of no other
pub record Covers (files : ℕ → FileCounters) (started : List ℕ) (log : List Mark) (k : Heap) : Type 0 where
  pub property : Property
  pub has : own k global coverage_text.units ≡ Some property
  pub tells : Represents k property.value (Members (expected files started log))

abbrev pub Tells : (ℕ → FileCounters) → List Mark → List ℕ → Heap → Type 0
Tells files log [] k = own k global coverage_text.units ≡ None
Tells files log (file ∷ started) k = Covers files (file ∷ started) log k

-- What is held

-- an object of the coverage stands for none of the source's run, and isn't the global object
pub record IsData (w : World) (o : ℕ) : Type 0 where
  pub unpaired : (n : ℕ) → Paired w.objects n o → ⊥
  pub apart : o ≢ global

-- the global object is as it was, or it has the coverage of these files
pub data Covering (w : World) (k : Heap) (ms : PlacedMembers) (started : List ℕ) : Type 0 where
  uncovered : ms ≡ empty → started ≡ [] → object_at k global ≡ object_at opening global → Covering w k ms started
  covered : (c : ℕ) → 0 < length started → Covered k global coverage_text.units c ms → IsData w c → OnMembers (λ o r. IsData w o) ms → Covering w k ms started

-- a name's binding holds the function that gives the data of a file that has started, in place of the file's first function; its parts
-- stand at x, y and z in the text
pub record GivesData (files : ℕ → FileCounters) (q : Sources) (w : World) (started : List ℕ) (k : Heap) (ms : PlacedMembers) (file : ℕ) (b : Binding) : Type 0 where
  pub function : ℕ
  pub bound : b.value ≡ Some (object function)
  pub low : function < length k.objects
  pub unpaired : (n : ℕ) → Paired w.objects n function → ⊥
  pub apart : function ≢ global
  pub code : ℕ
  pub around : ℕ
  pub kind : kind_of k function ≡ Written code around
  pub number : ℕ
  pub x : Option Loc
  pub y : Option Loc
  pub z : Option Loc
  pub is_code : function_at q code ≡ Some (gives_actual number x y z)
  pub around_low : around < next_environment k
  pub around_unpaired : (e : ℕ) → Paired w.environments e around → ⊥
  pub place : ℕ
  pub named : place_of (environment_at k around) actual ≡ Some place
  pub held : Placed
  pub holds : value_of k (record { environment = around; place = place }) ≡ Some (value_at held)
  pub there : member_at ms (files file).path.units ≡ Some held
  pub is_started : stands_in file started ≡ true

-- counted files, each once
abbrev pub EachOnce : (ℕ → Bool) → List ℕ → Type 0
EachOnce counted [] = Unit {0}
EachOnce counted (file ∷ started) = (counted file ≡ true) × (stands_in file started ≡ false) × EachOnce counted started

-- marks of files that have started
abbrev pub AllStarted : List ℕ → List Mark → Type 0
AllStarted started [] = Unit {0}
AllStarted started (mark ∷ log) = (stands_in mark.file started ≡ true) × AllStarted started log

-- what is told: the files started are counted, each once; marks are as files have them; and the coverage is that of these files
pub record Told (files : ℕ → FileCounters) (counted : ℕ → Bool) (log : List Mark) (started : List ℕ) (k : Heap) : Type 0 where
  pub each_once : EachOnce counted started
  pub countable : AllCountable log
  pub tells : Tells files log started k

pub record Holds (files : ℕ → FileCounters) (counted : ℕ → Bool) (q : Sources) (w : World) (log : List Mark) (started : List ℕ) (k : Heap) : Type 0 where
  pub members : PlacedMembers
  pub covering : Covering w k members started
  pub told : json_members members ≡ expected files started log
  pub gives : (e f n file : ℕ) → Paired w.environments e f → w.home f ≡ Within file → w.own f ≡ Some n →
      GivesData files q w started k members file (slice_index_or (environment_at k f).bindings n no_binding)
  pub each_once : EachOnce counted started
  pub countable : AllCountable log
  pub entered : AllStarted started log
  -- and what the start of a file stands on: each environment is younger than the one around it; what all objects inherit from has no
  -- property more; and a name is there for the global object, which stands for nothing
  pub older : OutersOlder k
  pub root_low : root < length k.objects
  pub root_same : SameProperties (object_at opening root) (object_at k root)
  pub global_low : global < length k.objects
  pub global_unpaired : (n : ℕ) → Paired w.objects n global → ⊥
  pub names_low : global_environment < next_environment k
  pub place : ℕ
  pub named : place_of (environment_at k global_environment) (codes "globalThis") ≡ Some place
  pub is_global : value_of k (record { environment = global_environment; place = place }) ≡ Some (object global)
