-- What one step of a loading gives, where it goes on and where it stops.
use Rattle.std.specs.Prelude.{◌≡◌, ◌≢◌, ℕ, ◌<◌, ◌≤◌, List, [], length, Option, None, Some, Result, Err, Vec}
use Rattle.std.specs.declared.alloc.Global.{Global}
use Rattle.js_tree.specs.Plain.{File}
use Rattle.js_text.specs.Limits.{source_limits}
use Rattle.js_scopes.specs.Accepted.{Accepted}
use Rattle.source_map.specs.declared.place.Parts.{Parts}
use Rattle.source_map.specs.declared.fault.MapFault.TheVariants as map_fault
use Rattle.source_map.specs.Read.{source_map_of}
use Rattle.cov_base.specs.Store.{Held}
use Rattle.cov_sources.specs.Refused.{IsRefused}
use Rattle.cov_sources.specs.declared.source.Source.{Source}
use Rattle.cov_run.specs.Asked.{Asked, before_others}
use Rattle.cov_run.specs.Loaded.{Holds, HasInput, HasNoInput, Loads, map_path, most_map_bytes}
use Rattle.cov_run.specs.declared.fault.LoadFault.{LoadFault}
use Rattle.cov_run.specs.declared.fault.LoadFault.TheVariants as fault

-- what comes of the later comes of the earlier, where the file at a path with these bytes and this source map is next
abbrev pub Goes : List (List ℕ) → (path bytes : List ℕ) → Option Parts → List Source → Asked → List Source → Asked → Type 0
Goes exclude path bytes input sources asked later_sources later =
    (told : Option Held) (outcome : Result (List Source) LoadFault) → Holds told path (Some bytes) → HasInput told path input → Loads told exclude later_sources later outcome →
    Loads told exclude sources (before_others path asked) outcome

-- the same of what a store holds
abbrev pub GoesWith : Option Held → List (List ℕ) → (path bytes : List ℕ) → List Source → Asked → List Source → Asked → Type 0
GoesWith told exclude path bytes sources asked later_sources later =
    (outcome : Result (List Source) LoadFault) → Holds told path (Some bytes) → Loads told exclude later_sources later outcome → Loads told exclude sources (before_others path asked) outcome

-- the same where nothing is loaded and the file is the entry
abbrev pub GoesOn : Option Held → List (List ℕ) → List ℕ → Asked → List Source → Asked → Type 0
GoesOn told exclude entry asked later_sources later =
    (outcome : Result (List Source) LoadFault) → Loads told exclude later_sources later outcome → Loads told exclude [] (before_others entry asked) outcome

-- and this fault does
abbrev pub Stops : List (List ℕ) → (path bytes : List ℕ) → Option Parts → List Source → Asked → LoadFault → Type 0
Stops exclude path bytes input sources asked why =
    (told : Option Held) → Holds told path (Some bytes) → HasInput told path input → Loads told exclude sources (before_others path asked) (Err why)

abbrev pub StopsWith : Option Held → List (List ℕ) → (path bytes : List ℕ) → List Source → Asked → LoadFault → Type 0
StopsWith told exclude path bytes sources asked why = Holds told path (Some bytes) → Loads told exclude sources (before_others path asked) (Err why)

-- the same where some source is loaded, and files that aren't held are passed over
abbrev pub PassesTo : Option Held → Asked → Asked → Type 0
PassesTo told asked later = (exclude : List (List ℕ)) (sources : List Source) (outcome : Result (List Source) LoadFault) → 0 < length sources →
    Loads told exclude sources later outcome → Loads told exclude sources asked outcome

abbrev pub StopsAt : Option Held → Asked → LoadFault → Type 0
StopsAt told asked why = (exclude : List (List ℕ)) (sources : List Source) → 0 < length sources → Loads told exclude sources asked (Err why)

-- a file is found, or none is left
abbrev pub Finds : Option Held → Asked → Asked → Option (List ℕ × Vec ℕ Global) → Type 0
Finds told asked later None = PassesTo told asked later × (later.waiting ≡ [])
Finds told asked later (Some found) = PassesTo told asked (before_others found.0 later) × Holds told found.0 (Some found.1.items)

-- why a file isn't read
abbrev pub IsUnfound : Option Held → LoadFault → List ℕ → Type 0
IsUnfound told fault.NoFile path = Holds told path None
IsUnfound told (fault.ReadFault at) path = at ≡ path
IsUnfound told fault.Memory path = Unit {0}
IsUnfound told other path = ⊥

abbrev pub IsReadFailure : LoadFault → List ℕ → Type 0
IsReadFailure (fault.ReadFault at) path = at ≡ path
IsReadFailure fault.Memory path = Unit {0}
IsReadFailure other path = ⊥

-- why bytes at a path are no source map
abbrev pub IsMapFault : LoadFault → List ℕ → List ℕ → Type 0
IsMapFault (fault.TooLong at) path bytes = (at ≡ path) × (source_map_of most_map_bytes bytes ≡ Err map_fault.TooLong)
IsMapFault (fault.BadMap at why) path bytes = (at ≡ path) × (why ≢ map_fault.TooLong) × (source_map_of most_map_bytes bytes ≡ Err why)
IsMapFault fault.Memory path bytes = Unit {0}
IsMapFault other path bytes = ⊥

-- why what stands beside the file at a path isn't read as its map
abbrev pub IsInputFault : Option Held → LoadFault → List ℕ → Type 0
IsInputFault told (fault.TooLong at) path = (at ≡ map_path path) × HasNoInput told path map_fault.TooLong
IsInputFault told (fault.BadMap at why) path = (at ≡ map_path path) × (why ≢ map_fault.TooLong) × HasNoInput told path why
IsInputFault told (fault.ReadFault at) path = at ≡ map_path path
IsInputFault told fault.Memory path = Unit {0}
IsInputFault told other path = ⊥

-- why a file that was read isn't loaded
abbrev pub IsFileFault : LoadFault → List ℕ → List ℕ → Type 0
IsFileFault (fault.TooLong at) path bytes = (at ≡ path) × (source_limits.bytes < length bytes)
IsFileFault (fault.Refused at why) path bytes =
    (at ≡ path) × (length bytes ≤ source_limits.bytes) × IsRefused why bytes × ((tree : File) → Accepted bytes tree → ⊥)
IsFileFault fault.Memory path bytes = Unit {0}
IsFileFault other path bytes = ⊥
