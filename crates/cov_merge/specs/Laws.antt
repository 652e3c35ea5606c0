-- What a reader expects of merging, as laws on the definitions: of statements, of functions and of branches, and of whole maps.
use Rattle.std.specs.Prelude.{◌≡◌, ℕ, zero, suc, ◌+◌, Bool, cond, List, [], ◌∷◌, ◌++◌, map, Option, Some, None, Ok}
use Rattle.std.specs.List.{list_any, filter, IsDistinct}
use Rattle.cov_object.specs.declared.file.FileCoverage.{FileCoverage}
use Rattle.cov_object.specs.Files.{found}
use Rattle.cov_merge.specs.Kind.{Kind}
use Rattle.cov_merge.specs.Same.{same_text}
use Rattle.cov_merge.specs.Kinds.{statements, functions, branches}
use Rattle.cov_merge.specs.Entries.{entries_of, merged_entries}
use Rattle.cov_merge.specs.Files.{merged_file}
use Rattle.cov_merge.specs.Maps.{merged}

-- the count at a place, from 0 on; 0 past the end
abbrev pub count_at : ℕ → List ℕ → ℕ
count_at place [] = 0
count_at zero (count ∷ counts) = count
count_at (suc place) (count ∷ counts) = count_at place counts

-- the sum of the counts at a place over the entries with the key of this one
abbrev pub count_of : {T : Type 0} → Kind T → T → ℕ → List T → ℕ
count_of kind key place [] = 0
count_of kind key place (entry ∷ entries) = cond (kind.same entry key) (count_at place (kind.counts entry)) 0 + count_of kind key place entries

-- whether an entry with this key is among these
abbrev pub has_key : {T : Type 0} → Kind T → T → List T → Bool
has_key kind key entries = list_any (λ entry. kind.same entry key) entries

-- ---- the laws, for one kind

-- a count in what is merged is the sum of the counts with its key
abbrev pub IsSummed : {T : Type 0} → Kind T → Type 0
IsSummed {T} kind = (path : List ℕ) (files : List FileCoverage) (entries : List T) → merged_entries kind path files ≡ Ok entries →
    (key : T) (place : ℕ) → count_of kind key place entries ≡ count_of kind key place (entries_of kind files)

-- it has the keys of the files, and no others
abbrev pub HasTheirKeys : {T : Type 0} → Kind T → Type 0
HasTheirKeys {T} kind = (path : List ℕ) (files : List FileCoverage) (entries : List T) → merged_entries kind path files ≡ Ok entries →
    (key : T) → has_key kind key entries ≡ has_key kind key (entries_of kind files)

-- each of them once
abbrev pub HasEachOnce : {T : Type 0} → Kind T → Type 0
HasEachOnce {T} kind = (path : List ℕ) (files : List FileCoverage) (entries : List T) → merged_entries kind path files ≡ Ok entries → IsDistinct kind.same entries

-- a count doesn't depend on the order of the files
abbrev pub IsOrderFree : {T : Type 0} → Kind T → Type 0
IsOrderFree {T} kind = (path : List ℕ) (files others : List FileCoverage) (entries swapped : List T) →
    merged_entries kind path (files ++ others) ≡ Ok entries → merged_entries kind path (others ++ files) ≡ Ok swapped →
    (key : T) (place : ℕ) → count_of kind key place entries ≡ count_of kind key place swapped

-- nor on which of them are merged first
abbrev pub IsGroupingFree : {T : Type 0} → Kind T → Type 0
IsGroupingFree {T} kind = (path : List ℕ) (files others : List FileCoverage) (file : FileCoverage) (entries all : List T) → merged_file path files ≡ Ok file →
    merged_entries kind path (file ∷ others) ≡ Ok entries → merged_entries kind path (files ++ others) ≡ Ok all →
    (key : T) (place : ℕ) → count_of kind key place entries ≡ count_of kind key place all

-- what is merged already, merged before the others, gives what all of them give at once: the same entries in the same order, or the same fault
abbrev pub IsLeftToRight : {T : Type 0} → Kind T → Type 0
IsLeftToRight {T} kind = (path : List ℕ) (files others : List FileCoverage) (file : FileCoverage) → merged_file path files ≡ Ok file →
    merged_entries kind path (file ∷ others) ≡ merged_entries kind path (files ++ others)

-- a file alone, merged with nothing, has the sums of its equal keys
abbrev pub SumsAlone : {T : Type 0} → Kind T → Type 0
SumsAlone {T} kind = (path : List ℕ) (file : FileCoverage) (entries : List T) → merged_entries kind path (file ∷ []) ≡ Ok entries →
    IsDistinct kind.same entries
    × ((key : T) (place : ℕ) → count_of kind key place entries ≡ count_of kind key place (map (λ entry. entry.1) (kind.entries file)))

-- ---- and for all three

abbrev pub AreSummed : Type 0
AreSummed = IsSummed statements × IsSummed functions × IsSummed branches

abbrev pub HaveTheirKeys : Type 0
HaveTheirKeys = HasTheirKeys statements × HasTheirKeys functions × HasTheirKeys branches

abbrev pub HaveEachOnce : Type 0
HaveEachOnce = HasEachOnce statements × HasEachOnce functions × HasEachOnce branches

abbrev pub AreOrderFree : Type 0
AreOrderFree = IsOrderFree statements × IsOrderFree functions × IsOrderFree branches

abbrev pub AreGroupingFree : Type 0
AreGroupingFree = IsGroupingFree statements × IsGroupingFree functions × IsGroupingFree branches

abbrev pub AreLeftToRight : Type 0
AreLeftToRight = IsLeftToRight statements × IsLeftToRight functions × IsLeftToRight branches

abbrev pub SumAlone : Type 0
SumAlone = SumsAlone statements × SumsAlone functions × SumsAlone branches

-- ---- for whole maps

-- those of the files that have this path, in their order
abbrev pub with_path : List ℕ → List FileCoverage → List FileCoverage
with_path path files = filter (λ file. same_text path file.path) files

-- what a merged map has at a path, by the files that have it: nothing where there are none, else these as one
abbrev pub IsMergedAt : List ℕ → List FileCoverage → Option FileCoverage → Type 0
IsMergedAt path [] at = at ≡ None
IsMergedAt path (file ∷ files) None = ⊥
IsMergedAt path (file ∷ files) (Some at) = merged_file path (file ∷ files) ≡ Ok at

-- it has this at each path
abbrev pub AreByPath : Type 0
AreByPath = (files sums : List FileCoverage) → merged files ≡ Ok sums → (path : List ℕ) → IsMergedAt path (with_path path files) (found path sums)

-- what is merged already is merged to itself
abbrev pub AreMergedOnce : Type 0
AreMergedOnce = (files sums : List FileCoverage) → merged files ≡ Ok sums → merged sums ≡ Ok sums
