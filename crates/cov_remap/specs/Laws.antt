-- What a reader expects of remapping, as laws on the definitions. A run's coverage is a list of files: those that were started, with the
-- counts of their constructs. That a run writes just these is no law of this crate: it is told by what the program promises of a run.
use Rattle.std.specs.Prelude.{◌≡◌, ℕ, ◌&&◌, Bool, false, cond, List, [], ◌∷◌, ◌++◌, sum_by, Option, Some, None, Result, Ok, Err}
use Rattle.std.specs.List.{list_any, AllByRecursion}
use Rattle.std.specs.List.Sorted.{IsPermutation}
use Rattle.cov_object.specs.declared.file.FileCoverage.{FileCoverage}
use Rattle.cov_merge.specs.Kind.{Kind}
use Rattle.cov_merge.specs.Same.{same_text}
use Rattle.cov_merge.specs.Entries.{entries_of}
use Rattle.cov_merge.specs.Maps.{merged}
use Rattle.cov_merge.specs.Laws.{count_at, count_of, has_key, with_path}
use Rattle.source_map.specs.declared.place.Parts.{Parts}
use Rattle.source_map.specs.declared.fault.MapFault.{MapFault}
use Rattle.cov_remap.specs.declared.fault.RemapFault.{RemapFault}
use Rattle.cov_remap.specs.Sent.{Sending, sending_statements, sending_functions, sending_branches, sent}
use Rattle.cov_remap.specs.Remapped.{and_then, read_map, merged_all, remapped}

-- ---- what is at a key

-- the sum of the counts at a key of the files at a path
abbrev pub count_in : {T : Type 0} → Kind T → List ℕ → T → ℕ → List FileCoverage → ℕ
count_in kind path key place files = count_of kind key place (entries_of kind (with_path path files))

-- whether the key is there
abbrev pub has_in : {T : Type 0} → Kind T → List ℕ → T → List FileCoverage → Bool
has_in kind path key files = has_key kind key (entries_of kind (with_path path files))

-- two reports have the same keys, with the same counts
abbrev pub AgreeOn : {T : Type 0} → Kind T → List FileCoverage → List FileCoverage → Type 0
AgreeOn {T} kind a b = (path : List ℕ) (key : T) →
    ((place : ℕ) → count_in kind path key place a ≡ count_in kind path key place b) × (has_in kind path key a ≡ has_in kind path key b)

-- ---- what is sent to a key

-- where an entry of a file at this path is sent by the file's map: without a map it stands for itself
abbrev pub goes_by : {T : Type 0} → Sending T → List ℕ → Result Parts MapFault → T → Option (List ℕ × T)
goes_by sending path (Ok map) entry = sent sending path map entry
goes_by sending path (Err why) entry = None

abbrev pub goes_from : {T : Type 0} → Sending T → List ℕ → Option (List ℕ) → T → Option (List ℕ × T)
goes_from sending path None entry = Some (path, entry)
goes_from sending path (Some text) entry = goes_by sending path (read_map text) entry

abbrev pub goes : {T : Type 0} → Sending T → FileCoverage → T → Option (List ℕ × T)
goes sending file entry = goes_from sending file.path file.input_source_map entry

-- whether that is this key
abbrev pub is_at : {T : Type 0} → Kind T → List ℕ → T → Option (List ℕ × T) → Bool
is_at kind path key None = false
is_at kind path key (Some to) = same_text path to.0 && kind.same to.1 key

-- and the count that it has there
abbrev pub count_there : {T : Type 0} → Kind T → List ℕ → T → ℕ → Option (List ℕ × T) → ℕ
count_there kind path key place None = 0
count_there kind path key place (Some to) = cond (same_text path to.0 && kind.same to.1 key) (count_at place (kind.counts to.1)) 0

module _ {T : Type 0} (sending : Sending T) (path : List ℕ) (key : T) where
  -- the counts of a file's entries that are sent to the key
  abbrev pub sent_from : ℕ → FileCoverage → ℕ
  sent_from place file = sum_by (λ entry. count_there sending.kind path key place (goes sending file entry.1)) (sending.kind.entries file)

  abbrev pub sent_count : ℕ → List FileCoverage → ℕ
  sent_count place files = sum_by (sent_from place) files

  -- whether some entry is sent there
  abbrev pub sends_from : FileCoverage → Bool
  sends_from file = list_any (λ entry. is_at sending.kind path key (goes sending file entry.1)) (sending.kind.entries file)

  abbrev pub is_sent : List FileCoverage → Bool
  is_sent files = list_any sends_from files

-- a report has at each key the counts that are sent there from these files, and has it exactly where some entry is sent there
abbrev pub HasWhatIsSent : {T : Type 0} → Sending T → List FileCoverage → List FileCoverage → Type 0
HasWhatIsSent {T} sending files sums = (path : List ℕ) (key : T) →
    ((place : ℕ) → count_in sending.kind path key place sums ≡ sent_count sending path key place files)
    × (has_in sending.kind path key sums ≡ is_sent sending path key files)

-- ---- the laws, for one kind

-- remapping sends each entry to its key, and no other entry
abbrev pub IsRemapped : {T : Type 0} → Sending T → Type 0
IsRemapped sending = (files sums : List FileCoverage) → remapped files ≡ Ok sums → HasWhatIsSent sending files sums

-- runs whose coverage is merged two by two, in any grouping and order, and remapped at any point on the way
pub data Report : Type 0 where
  run : List FileCoverage → Report
  both : Report → Report → Report
  mapped : Report → Report

abbrev pub made : Report → Result (List FileCoverage) RemapFault
made (run files) = Ok files
made (both a b) = and_then (made a) (λ first. and_then (made b) (λ second. merged_all (first ++ second)))
made (mapped r) = and_then (made r) remapped

-- in the end it is remapped
abbrev pub report : Report → Result (List FileCoverage) RemapFault
report r = made (mapped r)

-- the runs
abbrev pub runs_of : Report → List (List FileCoverage)
runs_of (run files) = files ∷ []
runs_of (both a b) = runs_of a ++ runs_of b
runs_of (mapped r) = runs_of r

-- the files of all runs, one after another
abbrev pub files_of : Report → List FileCoverage
files_of (run files) = files
files_of (both a b) = files_of a ++ files_of b
files_of (mapped r) = files_of r

-- files at one path have the same map, or all have none
abbrev pub HaveOneMap : List FileCoverage → Type 0
HaveOneMap files = (path : List ℕ) → (map : Option (List ℕ)) × AllByRecursion (λ file. file.input_source_map ≡ map) (with_path path files)

-- so do those that are merged, each time: merging would keep but one of two maps
abbrev pub KeepsMaps : Report → Type 0
KeepsMaps (run files) = Unit {0}
KeepsMaps (both a b) = KeepsMaps a × KeepsMaps b × ((first second : List FileCoverage) → made a ≡ Ok first → made b ≡ Ok second → HaveOneMap (first ++ second))
KeepsMaps (mapped r) = KeepsMaps r

-- each run is remapped somewhere
abbrev pub IsDone : Report → Type 0
IsDone (run files) = ⊥
IsDone (both a b) = IsDone a × IsDone b
IsDone (mapped r) = Unit {0}

-- a report has at each key the sum, over the runs, of the counts of the entries that the maps send there, and it has a key exactly
-- where an entry of some run is sent to it
abbrev pub IsWholeWay : {T : Type 0} → Sending T → Type 0
IsWholeWay {T} sending = (r : Report) (sums : List FileCoverage) → KeepsMaps r → report r ≡ Ok sums → (path : List ℕ) (key : T) →
    ((place : ℕ) → count_in sending.kind path key place sums ≡ sum_by (sent_count sending path key place) (runs_of r))
    × (has_in sending.kind path key sums ≡ list_any (is_sent sending path key) (runs_of r))

-- so it depends neither on the grouping nor on the order of the runs, nor on where on the way they are remapped
abbrev pub IsOrderFree : {T : Type 0} → Sending T → Type 0
IsOrderFree sending = (r s : Report) (a b : List FileCoverage) → KeepsMaps r → KeepsMaps s → IsPermutation (runs_of r) (runs_of s) → report r ≡ Ok a → report s ≡ Ok b → AgreeOn sending.kind a b

-- the files of all runs may also be merged at once, and then remapped, where those at one path have one map
abbrev pub IsEarly : {T : Type 0} → Sending T → Type 0
IsEarly sending = (r : Report) (sums a b : List FileCoverage) → KeepsMaps r → HaveOneMap (files_of r) → merged (files_of r) ≡ Ok sums → remapped sums ≡ Ok a → report r ≡ Ok b →
    AgreeOn sending.kind a b

-- ---- and for all three

abbrev pub AreRemapped : Type 0
AreRemapped = IsRemapped sending_statements × IsRemapped sending_functions × IsRemapped sending_branches

abbrev pub AreWholeWay : Type 0
AreWholeWay = IsWholeWay sending_statements × IsWholeWay sending_functions × IsWholeWay sending_branches

abbrev pub AreOrderFree : Type 0
AreOrderFree = IsOrderFree sending_statements × IsOrderFree sending_functions × IsOrderFree sending_branches

abbrev pub AreEarly : Type 0
AreEarly = IsEarly sending_statements × IsEarly sending_functions × IsEarly sending_branches

-- where all runs are remapped before they are merged, the maps are kept, whatever they are
abbrev pub AreKept : Type 0
AreKept = (a b : Report) (first second : List FileCoverage) → IsDone a → IsDone b → made a ≡ Ok first → made b ≡ Ok second → HaveOneMap (first ++ second)

-- then what is made of them is merged already
abbrev pub AreMerged : Type 0
AreMerged = (r : Report) (sums : List FileCoverage) → IsDone r → made r ≡ Ok sums → merged sums ≡ Ok sums

-- and remapping again changes nothing
abbrev pub AreRemappedOnce : Type 0
AreRemappedOnce = (r : Report) (sums : List FileCoverage) → IsDone r → made r ≡ Ok sums → remapped sums ≡ Ok sums
