-- What one file more makes of a loading.
use Rattle.std.proofs.Common.{◌≡◌, ℕ, ◌<◌, ◌≤◌, Bool, List, [], ◌∷◌, ◌++◌, length, Option, None, Some, refl, sym, ap, ◌∙◌, subst, arith}
use Rattle.std.specs.Prelude.{Result, Ok, Err, OnOk, IfErr, Vec, MatchOption, option_map}
use Rattle.std.specs.declared.alloc.Global.{Global}
use Rattle.js_tree.specs.Plain.{File}
use Rattle.js_scopes.specs.Accepted.{Accepted}
use Rattle.source_map.specs.declared.place.Parts.{Parts}
use Rattle.cov_base.specs.Store.{Held, ReadsHeld}
use Rattle.cov_sources.specs.Refused.{HasOnly}
use Rattle.cov_sources.specs.declared.source.Source.{Source}
use Rattle.cov_run.specs.Asked.{Asked, before_others, with_file}
use Rattle.cov_run.specs.Loaded as L
use Rattle.cov_run.specs.Loaded.{Holds, HasInput, Loads, is_counted, most, source_of}
use Rattle.cov_run.specs.private.Step.{Goes, GoesWith, IsUnfound, IsFileFault, IsInputFault, PassesTo, Stops, StopsAt, StopsWith}
use Rattle.cov_run.specs.declared.fault.LoadFault.{LoadFault}
use Rattle.cov_run.specs.declared.fault.LoadFault.TheVariants as fault

-- what a read gives is what is held, where the store tells
pub holds_bytes : (told : Option Held) (path : List ℕ) (found : Option (Vec ℕ Global)) (bytes : Vec ℕ Global) → ReadsHeld told path (Ok found) → found ≡ Some bytes → Holds told path (Some bytes.items)
holds_bytes None path found bytes reads is = tt
holds_bytes (Some at) path found bytes reads is = sym reads ∙ ap (option_map (λ (v : Vec ℕ Global). v.items)) is

pub holds_none : (told : Option Held) (path : List ℕ) (found : Option (Vec ℕ Global)) → ReadsHeld told path (Ok found) → found ≡ None → Holds told path None
holds_none None path found reads is = tt
holds_none (Some at) path found reads is = sym reads ∙ ap (option_map (λ (v : Vec ℕ Global). v.items)) is

-- the entry isn't read
pub stops_entry : (told : Option Held) (exclude : List (List ℕ)) (entry : List ℕ) (asked : Asked) (why : LoadFault) → IsUnfound told why entry →
    Loads told exclude [] (before_others entry asked) (Err why)
stops_entry told exclude entry asked fault.NoFile is = L.no_file is
stops_entry told exclude entry asked (fault.Refused at why) is = absurd is
stops_entry told exclude entry asked (fault.BadMap at why) is = absurd is
stops_entry told exclude entry asked (fault.TooLong at) is = absurd is
stops_entry told exclude entry asked fault.TooManyFiles is = absurd is
stops_entry told exclude entry asked (fault.ReadFault at) is = subst (λ path. Loads told exclude [] (before_others entry asked) (Err (fault.ReadFault path))) (sym is) L.failed
stops_entry told exclude entry asked fault.Memory is = L.wanting

-- a file that was read isn't loaded
pub stops_file : (told : Option Held) (exclude : List (List ℕ)) (path bytes : List ℕ) (sources : List Source) (asked : Asked) (why : LoadFault) → IsFileFault why path bytes →
    StopsWith told exclude path bytes sources asked why
stops_file told exclude path bytes sources asked fault.NoFile is holds = absurd is
stops_file told exclude path bytes sources asked (fault.Refused at why) is holds =
    subst (λ place. Loads told exclude sources (before_others path asked) (Err (fault.Refused place why))) (sym is.0)
    (L.refused {bytes = bytes} (record { held = holds; within = is.1; refused = is.2; no_source = is.3 }))
stops_file told exclude path bytes sources asked (fault.BadMap at why) is holds = absurd is
stops_file told exclude path bytes sources asked (fault.TooLong at) is holds =
    subst (λ place. Loads told exclude sources (before_others path asked) (Err (fault.TooLong place))) (sym is.0)
    (L.too_long {bytes = bytes} (record { held = holds; longer = is.1 }))
stops_file told exclude path bytes sources asked fault.TooManyFiles is holds = absurd is
stops_file told exclude path bytes sources asked (fault.ReadFault at) is holds = absurd is
stops_file told exclude path bytes sources asked fault.Memory is holds = L.wanting

-- a source that is next, with these bytes and this tree
module _ (exclude : List (List ℕ)) (path bytes : List ℕ) (sources : List Source) (asked : Asked) (tree : File) (accepted : Accepted bytes tree) (only : HasOnly bytes tree) where
  -- what stands beside it isn't read as its map
  pub stops_map : (told : Option Held) (why : LoadFault) → IsInputFault told why path → StopsWith told exclude path bytes sources asked why
  stops_map told fault.NoFile is holds = absurd is
  stops_map told (fault.Refused at why) is holds = absurd is
  stops_map told (fault.BadMap at why) is holds =
      subst (λ place. Loads told exclude sources (before_others path asked) (Err (fault.BadMap place why))) (sym is.0)
      (L.bad_map {bytes = bytes} {tree = tree} (record { held = holds; accepted = accepted; only = only }) is.2 is.1)
  stops_map told (fault.TooLong at) is holds =
      subst (λ place. Loads told exclude sources (before_others path asked) (Err (fault.TooLong place))) (sym is.0)
      (L.map_too_long {bytes = bytes} {tree = tree} (record { held = holds; accepted = accepted; only = only }) is.1)
  stops_map told fault.TooManyFiles is holds = absurd is
  stops_map told (fault.ReadFault at) is holds =
      subst (λ place. Loads told exclude sources (before_others path asked) (Err (fault.ReadFault place))) (sym is)
      (L.map_failed {bytes = bytes} {tree = tree} (record { held = holds; accepted = accepted; only = only }))
  stops_map told fault.Memory is holds = L.wanting

  module _ (input : Option Parts) where
    -- it is one too many
    pub stops_full : most ≤ length sources → Stops exclude path bytes input sources asked fault.TooManyFiles
    stops_full full told holds has = L.too_many {bytes = bytes} {tree = tree} {input = input} (record { held = holds; accepted = accepted; only = only }) has full

    -- it is loaded
    pub goes_on : (more : List Source) (later : Asked) → length sources < most → more ≡ sources ++ source_of exclude path bytes input ∷ [] → later ≡ with_file path tree asked →
        Goes exclude path bytes input sources asked more later
    goes_on more later room is asks told outcome holds has loads =
        L.one_more {bytes = bytes} {tree = tree} {input = input} (record { held = holds; accepted = accepted; only = only }) has room
        (subst (λ s. Loads told exclude s (with_file path tree asked) outcome) is (subst (λ a. Loads told exclude more a outcome) asks loads))

-- with what stands beside it, a file is one of the sources, or why it isn't
module _ (told : Option Held) (exclude : List (List ℕ)) (path own bytes : List ℕ) (input : Option Parts) (sources : List Source) (asked : Asked) (same : own ≡ path) (has : HasInput told path input) where
  pub goes_with : {T : Type 0} (answer : Result T LoadFault) (more : List Source) (later : Asked) → OnOk answer (Goes exclude own bytes input sources asked more later) →
      OnOk answer (GoesWith told exclude path bytes sources asked more later)
  goes_with (Ok done) more later goes = λ outcome holds loads. (subst (λ p. Goes exclude p bytes input sources asked more later) same goes) told outcome holds has loads
  goes_with (Err why) more later goes = tt

  pub stops_with : {T : Type 0} (answer : Result T LoadFault) → IfErr answer (λ why. Stops exclude own bytes input sources asked why) →
      IfErr answer (λ why. StopsWith told exclude path bytes sources asked why)
  stops_with (Ok done) stops = tt
  stops_with (Err why) stops = λ holds. (subst (λ p. Stops exclude p bytes input sources asked why) same stops) told holds has

-- a file that isn't held is passed over
passes_one : (told : Option Held) (asked : Asked) (path : List ℕ) → Holds told path None → PassesTo told (before_others path asked) asked
passes_one told asked path holds exclude [] outcome some loads = absurd (omega (arith, some))
passes_one told asked path holds exclude (first ∷ sources) outcome some loads = L.passed_over holds loads

pub passes_on : (told : Option Held) (start asked later : Asked) (path : List ℕ) → asked ≡ before_others path later → Holds told path None →
    PassesTo told start asked → PassesTo told start later
passes_on told start asked later path is holds passes exclude sources outcome some loads =
    passes exclude sources outcome some (subst (λ a. Loads told exclude sources a outcome) (sym is) (passes_one told later path holds exclude sources outcome some loads))

-- before a path that waits at the front
pub passes_before : (told : Option Held) (start asked later : Asked) (path : List ℕ) → asked ≡ before_others path later → PassesTo told start asked →
    PassesTo told start (before_others path later)
passes_before told start asked later path is passes = subst (PassesTo told start) is passes

-- a read of it may fail
pub stops_read : (told : Option Held) (start asked later : Asked) (path : List ℕ) → asked ≡ before_others path later → PassesTo told start asked →
    StopsAt told start (fault.ReadFault path)
stops_read told start asked later path is passes exclude sources some =
    passes exclude sources (Err (fault.ReadFault path)) some (subst (λ a. Loads told exclude sources a (Err (fault.ReadFault path))) (sym is) L.failed)

pub stops_wanting : (told : Option Held) (start : Asked) → StopsAt told start fault.Memory
stops_wanting told start exclude sources some = L.wanting

-- nothing waits any more
pub none_left : (told : Option Held) (exclude : List (List ℕ)) (sources : List Source) (asked : Asked) → asked.waiting ≡ [] → Loads told exclude sources asked (Ok sources)
none_left told exclude sources asked none =
    subst (λ waiting. Loads told exclude sources (record { known = asked.known; waiting = waiting }) (Ok sources)) (sym none) L.all

-- the path that is next was before all others that waited
pub next_is : (old new : Asked) (found : Option (List ℕ)) {path : List ℕ} → MatchOption found ((old.waiting ≡ []) × (new ≡ old)) (λ path. old ≡ before_others path new) → found ≡ Some path →
    old ≡ before_others path new
next_is old new found says is = subst (λ found. MatchOption found ((old.waiting ≡ []) × (new ≡ old)) (λ path. old ≡ before_others path new)) is says

-- what is put to the sources is the source at the path
pub is_source : (exclude : List (List ℕ)) (path bytes : List ℕ) (input : Option Parts) (contents word : List ℕ) (counted : Bool) → contents ≡ bytes → word ≡ path → counted ≡ is_counted exclude word →
    (◌≡◌) {A = Source} (record { path = path; bytes = contents; counted = counted; input = input }) (source_of exclude path bytes input)
is_source exclude path bytes input contents word counted has reads counts = rw (counts, reads, has) refl

-- a fault is the same in an answer of another type
pub same_fault : {T U : Type 0} (one other : LoadFault) → (◌≡◌) {A = Result T LoadFault} (Err one) (Err other) → (◌≡◌) {A = Result U LoadFault} (Err one) (Err other)
same_fault one other is = let same : one ≡ other = cc in ap Err same
