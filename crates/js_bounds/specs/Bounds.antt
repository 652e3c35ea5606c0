-- What is counted in the tree of a text is within bounds.
use Rattle.std.specs.Prelude.{◌≡◌, ℕ, ◌+◌, ◌*◌, ◌^◌, ◌<◌, ◌≤◌, List, [], ◌∷◌, length, Option, Some, None}
use Rattle.std.specs.Str.{IsUtf8}
use Rattle.js_terms.specs.declared.place.Pos.{Pos}
use Rattle.js_terms.specs.declared.place.Loc.{Loc}
use Rattle.js_terms.specs.declared.construct.Construct.{Construct}
use Rattle.js_terms.specs.declared.construct.Construct.TheVariants as construct
use Rattle.js_tree.specs.Plain.{File}
use Rattle.js_tree.specs.Unmarked.{unmarked_file}
use Rattle.js_walk.specs.Constructs.{constructs_file}
use Rattle.js_reading.specs.Reads.{Reads}
use Rattle.js_layout.specs.Printable.{Printable}

-- how many counts constructs have: a statement and a function have one, a branch has one for each path; and one more for each branch
abbrev pub weight : Construct → ℕ
weight (construct.Statement loc) = 1
weight (construct.Function name declared body) = 1
weight (construct.Branch kind loc paths) = 1 + length paths

abbrev pub weights : List Construct → ℕ
weights [] = 0
weights (x ∷ xs) = weight x + weights xs

-- at most eight for each byte
abbrev pub CountsFew : Type 0
CountsFew = (bytes : List ℕ) (tree : File) → IsUtf8 bytes → Reads bytes tree → Printable tree → weights (constructs_file tree) ≤ 8 * length bytes

-- the names of functions are texts
abbrev pub IsNamed : Construct → Type 0
IsNamed (construct.Statement loc) = Unit {0}
IsNamed (construct.Function name declared body) = IsUtf8 name
IsNamed (construct.Branch kind loc paths) = Unit {0}

abbrev pub AreNamed : List Construct → Type 0
AreNamed [] = Unit {0}
AreNamed (x ∷ xs) = IsNamed x × AreNamed xs

abbrev pub NamesAreTexts : Type 0
NamesAreTexts = (bytes : List ℕ) (tree : File) → IsUtf8 bytes → Reads bytes tree → Printable tree → 8 * length bytes < 2 ^ 64 → AreNamed (constructs_file tree)

-- where they stand: lines and columns are below 2^32
abbrev pub IsLowPos : Pos → Type 0
IsLowPos place = (place.line < 2 ^ 32) × (place.column < 2 ^ 32)

abbrev pub IsLow : Loc → Type 0
IsLow loc = IsLowPos loc.start × IsLowPos loc.end

-- a place, or none
abbrev pub IsLowIf : Option Loc → Type 0
IsLowIf None = Unit {0}
IsLowIf (Some loc) = IsLow loc

abbrev pub ArePathsLow : List (Option Loc) → Type 0
ArePathsLow [] = Unit {0}
ArePathsLow (path ∷ paths) = IsLowIf path × ArePathsLow paths

abbrev pub IsConstructLow : Construct → Type 0
IsConstructLow (construct.Statement loc) = IsLow loc
IsConstructLow (construct.Function name declared body) = IsLow declared × IsLow body
IsConstructLow (construct.Branch kind loc paths) = IsLow loc × ArePathsLow paths

abbrev pub AreLow : List Construct → Type 0
AreLow [] = Unit {0}
AreLow (x ∷ xs) = IsConstructLow x × AreLow xs

abbrev pub StandLow : Type 0
StandLow = (text : List ℕ) (tree : File) → Reads text tree → AreLow (constructs_file tree)

-- a tree that can be printed has no marks
abbrev pub HasNoMarks : Type 0
HasNoMarks = (tree : File) → Printable tree → unmarked_file tree ≡ tree
