-- The files of a coverage map, in the byte order of their paths.
use Rattle.std.specs.Prelude.{◌≡◌, ℕ, List, [], ◌∷◌, map, Option, Some, None, String, string_bytes}
use Rattle.std.specs.Ordering.{nat_cmp, match_ordering}
use Rattle.std.specs.Cmp.Lexicographic.{slice_cmp}
use Rattle.std.specs.List.Sorted.{IsStrictlySortedBy}
use Rattle.std.specs.declared.alloc.Global.{Global}
use Rattle.cov_object.specs.Numbered.{AreSmall}
use Rattle.cov_object.specs.declared.file.FileCoverage.{FileCoverage}

-- the files with this one, which takes the place of one with its path
abbrev pub placed : FileCoverage → List FileCoverage → List FileCoverage
placed file [] = file ∷ []
placed file (other ∷ rest) =
    match_ordering (slice_cmp nat_cmp file.path other.path)
    (file ∷ other ∷ rest) (file ∷ rest) (other ∷ placed file rest)

-- the first file with this path
abbrev pub found : List ℕ → List FileCoverage → Option FileCoverage
found path [] = None
found path (file ∷ rest) =
    match_ordering (slice_cmp nat_cmp path file.path) (found path rest) (Some file) (found path rest)

-- each path's bytes come before those of every later path
abbrev pub AreInOrder : List FileCoverage → Type 0
AreInOrder files = IsStrictlySortedBy (slice_cmp nat_cmp) (map (λ file. file.path) files)

-- each id of a statement, a function or a branch is below 2^32, as those that are read are
abbrev pub HaveSmallIds : List FileCoverage → Type 0
HaveSmallIds [] = Unit {0}
HaveSmallIds (file ∷ files) = (AreSmall file.statements × AreSmall file.functions × AreSmall file.branches) × HaveSmallIds files

-- ---- for private facts

-- each file stands under its own path
abbrev pub AreUnderTheirPaths : List (String Global × FileCoverage) → Type 0
AreUnderTheirPaths [] = Unit {0}
AreUnderTheirPaths (entry ∷ rest) = (string_bytes entry.0 ≡ entry.1.path) × AreUnderTheirPaths rest
