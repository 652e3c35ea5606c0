-- Coverage maps, merged.
use Rattle.std.specs.Prelude.{ℕ, List, [], ◌∷◌, ◌++◌, fold, Result, Ok, unwrap_or}
use Rattle.std.specs.Ordering.{nat_cmp}
use Rattle.std.specs.Cmp.Lexicographic.{slice_cmp}
use Rattle.std.specs.BTreeMap.{insert_entry, is_at}
use Rattle.std.specs.Map.{lookup}
use Rattle.cov_object.specs.declared.file.FileCoverage.{FileCoverage}
use Rattle.cov_object.specs.Files.{placed}
use Rattle.cov_merge.specs.declared.fault.MergeFault.{MergeFault}
use Rattle.cov_merge.specs.Answer.{and_then}
use Rattle.cov_merge.specs.Files.{merged_file}

-- the files that stand at a path
abbrev pub files_at : List ℕ → List (List ℕ × List FileCoverage) → List FileCoverage
files_at path groups = unwrap_or (lookup (is_at (slice_cmp nat_cmp path)) groups) []

-- the files by their paths, in the byte order of these, with one more file: it stands after the others at its path
abbrev pub with_file : List (List ℕ × List FileCoverage) → FileCoverage → List (List ℕ × List FileCoverage)
with_file groups file = insert_entry (slice_cmp nat_cmp) groups file.path (files_at file.path groups ++ file ∷ [])

abbrev pub by_path : List FileCoverage → List (List ℕ × List FileCoverage)
by_path files = fold with_file [] files

-- each path's files merged, put in a map
abbrev pub merged_groups : List FileCoverage → List (List ℕ × List FileCoverage) → Result (List FileCoverage) MergeFault
merged_groups map [] = Ok map
merged_groups map (group ∷ groups) = and_then (merged_file group.0 group.1) (λ file. merged_groups (placed file map) groups)

-- these files of some maps, in the order of the maps
abbrev pub merged : List FileCoverage → Result (List FileCoverage) MergeFault
merged files = merged_groups [] (by_path files)
