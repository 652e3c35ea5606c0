-- The sources that a program is loaded from: the entry, and then, breadth first and in the order of each file's text, every file that
-- is asked for and that the store holds.
use Rattle.std.specs.Prelude.{◌≡◌, ◌≢◌, ℕ, ◌<◌, ◌≤◌, Bool, not, List, [], ◌∷◌, ◌++◌, length, Option, None, Some, Result, Ok, Err, IfSome, codes}
use Rattle.std.specs.List.{list_any}
use Rattle.js_tree.specs.Plain.{File}
use Rattle.js_text.specs.Limits.{source_limits}
use Rattle.js_scopes.specs.Accepted.{Accepted}
use Rattle.path_globs.specs.Wildcards.{matches}
use Rattle.source_map.specs.declared.place.Parts.{Parts}
use Rattle.source_map.specs.declared.fault.MapFault.{MapFault}
use Rattle.source_map.specs.declared.fault.MapFault.TheVariants as map_fault
use Rattle.source_map.specs.Kept.{HasTexts}
use Rattle.source_map.specs.Read.{source_map_of}
use Rattle.cov_base.specs.Store.{Held}
use Rattle.cov_sources.specs.Refused.{HasOnly, IsRefused}
use Rattle.cov_sources.specs.declared.source.Source.{Source}
use Rattle.cov_sources.specs.declared.why.Why.{Why}
use Rattle.cov_run.specs.Asked.{Asked, only_entry, with_file}
use Rattle.cov_run.specs.declared.fault.LoadFault.{LoadFault}
use Rattle.cov_run.specs.declared.fault.LoadFault.TheVariants as fault

-- where the store tells what it holds, this is what it holds at the path
abbrev pub Holds : Option Held → List ℕ → Option (List ℕ) → Type 0
Holds told path found = IfSome told (λ at. at path ≡ found)

-- a file is counted where no pattern stands for its path
abbrev pub is_counted : List (List ℕ) → List ℕ → Bool
is_counted exclude path = not (list_any (λ pattern. matches pattern path) exclude)

abbrev pub source_of : List (List ℕ) → (path bytes : List ℕ) → (input : Option Parts) → Source
source_of exclude path bytes input = record { path = path; bytes = bytes; counted = is_counted exclude path; input = input }

-- ---- the source map beside a file

abbrev pub map_path : List ℕ → List ℕ
map_path path = path ++ codes ".map"

-- how many bytes it may have: 16 MiB
abbrev pub most_map_bytes : ℕ
most_map_bytes = 16777216

abbrev pub some_map : Result Parts MapFault → Result (Option Parts) MapFault
some_map (Ok map) = Ok (Some map)
some_map (Err why) = Err why

-- what is held at its path is a map, or no map; nothing there is none
abbrev pub map_in : Option (List ℕ) → Result (Option Parts) MapFault
map_in None = Ok None
map_in (Some bytes) = some_map (source_map_of most_map_bytes bytes)

-- beside the file at a path stands this map, or none; its texts are UTF-8, as those of every map that is read
pub record HasInput (told : Option Held) (path : List ℕ) (input : Option Parts) : Type 0 where
  pub found : Option (List ℕ)
  pub held : Holds told (map_path path) found
  pub is : map_in found ≡ Ok input
  pub texts : IfSome input HasTexts

-- what stands there is no map, for this reason
pub record HasNoInput (told : Option Held) (path : List ℕ) (why : MapFault) : Type 0 where
  pub found : Option (List ℕ)
  pub held : Holds told (map_path path) found
  pub is : map_in found ≡ Err why

-- ---- a file

-- the file at the path is a source of this tree, and of no other
pub record IsSource (told : Option Held) (path bytes : List ℕ) (tree : File) : Type 0 where
  pub held : Holds told path (Some bytes)
  pub accepted : Accepted bytes tree
  pub only : HasOnly bytes tree

-- the file at the path is longer than a source may be
pub record IsTooLong (told : Option Held) (path bytes : List ℕ) : Type 0 where
  pub held : Holds told path (Some bytes)
  pub longer : source_limits.bytes < length bytes

-- the file at the path is within the limit, and no source for this reason
pub record IsNoSource (told : Option Held) (path bytes : List ℕ) (why : Why) : Type 0 where
  pub held : Holds told path (Some bytes)
  pub within : length bytes ≤ source_limits.bytes
  pub refused : IsRefused why bytes
  pub no_source : (tree : File) → Accepted bytes tree → ⊥

-- why the file at a path is no source, by itself
pub data IsUnread (told : Option Held) (path : List ℕ) : LoadFault → Type 0 where
  no_file : Holds told path None → IsUnread told path fault.NoFile
  too_long : {bytes : List ℕ} → IsTooLong told path bytes → IsUnread told path (fault.TooLong path)
  refused : {bytes : List ℕ} {why : Why} → IsNoSource told path bytes why → IsUnread told path (fault.Refused path why)
  failed : IsUnread told path (fault.ReadFault path)
  wanting : IsUnread told path fault.Memory

-- why it is no source with its map, by itself: the file comes first
pub data IsUnloaded (told : Option Held) (path : List ℕ) : LoadFault → Type 0 where
  unread : {why : LoadFault} → IsUnread told path why → IsUnloaded told path why
  map_too_long : {bytes : List ℕ} {tree : File} → IsSource told path bytes tree → HasNoInput told path map_fault.TooLong → IsUnloaded told path (fault.TooLong (map_path path))
  bad_map : {bytes : List ℕ} {tree : File} {why : MapFault} → IsSource told path bytes tree → HasNoInput told path why → why ≢ map_fault.TooLong →
      IsUnloaded told path (fault.BadMap (map_path path) why)
  map_failed : {bytes : List ℕ} {tree : File} → IsSource told path bytes tree → IsUnloaded told path (fault.ReadFault (map_path path))
  map_wanting : IsUnloaded told path fault.Memory

-- how many sources a program may have
abbrev pub most : ℕ
most = 1024

-- what it comes to where these sources are loaded already and these paths were asked for: the sources, or why there are none. The
-- path that waits at the front is read next. A failed read and want of memory may come whatever is held.
pub data Loads (told : Option Held) (exclude : List (List ℕ)) : List Source → Asked → Result (List Source) LoadFault → Type 0 where
  all : {sources : List Source} {known : List (List ℕ)} → Loads told exclude sources (record { known = known; waiting = [] }) (Ok sources)
  one_more : {sources : List Source} {known waiting : List (List ℕ)} {path bytes : List ℕ} {tree : File} {input : Option Parts} {outcome : Result (List Source) LoadFault} →
      IsSource told path bytes tree → HasInput told path input → length sources < most →
      Loads told exclude (sources ++ source_of exclude path bytes input ∷ []) (with_file path tree (record { known = known; waiting = waiting })) outcome →
      Loads told exclude sources (record { known = known; waiting = path ∷ waiting }) outcome
  passed_over : {first : Source} {sources : List Source} {known waiting : List (List ℕ)} {path : List ℕ} {outcome : Result (List Source) LoadFault} →
      Holds told path None → Loads told exclude (first ∷ sources) (record { known = known; waiting = waiting }) outcome →
      Loads told exclude (first ∷ sources) (record { known = known; waiting = path ∷ waiting }) outcome
  no_file : {known waiting : List (List ℕ)} {path : List ℕ} → Holds told path None → Loads told exclude [] (record { known = known; waiting = path ∷ waiting }) (Err fault.NoFile)
  too_long : {sources : List Source} {known waiting : List (List ℕ)} {path bytes : List ℕ} →
      IsTooLong told path bytes → Loads told exclude sources (record { known = known; waiting = path ∷ waiting }) (Err (fault.TooLong path))
  refused : {sources : List Source} {known waiting : List (List ℕ)} {path bytes : List ℕ} {why : Why} →
      IsNoSource told path bytes why → Loads told exclude sources (record { known = known; waiting = path ∷ waiting }) (Err (fault.Refused path why))
  map_too_long : {sources : List Source} {known waiting : List (List ℕ)} {path bytes : List ℕ} {tree : File} →
      IsSource told path bytes tree → HasNoInput told path map_fault.TooLong → Loads told exclude sources (record { known = known; waiting = path ∷ waiting }) (Err (fault.TooLong (map_path path)))
  bad_map : {sources : List Source} {known waiting : List (List ℕ)} {path bytes : List ℕ} {tree : File} {why : MapFault} →
      IsSource told path bytes tree → HasNoInput told path why → why ≢ map_fault.TooLong →
      Loads told exclude sources (record { known = known; waiting = path ∷ waiting }) (Err (fault.BadMap (map_path path) why))
  map_failed : {sources : List Source} {known waiting : List (List ℕ)} {path bytes : List ℕ} {tree : File} →
      IsSource told path bytes tree → Loads told exclude sources (record { known = known; waiting = path ∷ waiting }) (Err (fault.ReadFault (map_path path)))
  too_many : {sources : List Source} {known waiting : List (List ℕ)} {path bytes : List ℕ} {tree : File} {input : Option Parts} →
      IsSource told path bytes tree → HasInput told path input → most ≤ length sources → Loads told exclude sources (record { known = known; waiting = path ∷ waiting }) (Err fault.TooManyFiles)
  failed : {sources : List Source} {known waiting : List (List ℕ)} {path : List ℕ} →
      Loads told exclude sources (record { known = known; waiting = path ∷ waiting }) (Err (fault.ReadFault path))
  wanting : {sources : List Source} {asked : Asked} → Loads told exclude sources asked (Err fault.Memory)

-- what the program of an entry comes to, where the files for whose paths one of these patterns stands aren't counted
abbrev pub Loaded : Option Held → List ℕ → List (List ℕ) → Result (List Source) LoadFault → Type 0
Loaded told entry exclude outcome = Loads told exclude [] (only_entry entry) outcome
