-- Places in a text: each line counts from 1.
use Rattle.std.specs.Prelude.{◌<◌, List, [], ◌∷◌, Option, Some, None}
use Rattle.js_terms.specs.declared.place.Loc.{Loc}
use Rattle.js_terms.specs.declared.construct.Construct.{Construct}
use Rattle.js_terms.specs.declared.construct.Construct.TheVariants as construct

abbrev pub IsPlaced : Loc → Type 0
IsPlaced loc = (0 < loc.start.line) × (0 < loc.end.line)

-- a place, or none
abbrev pub IsPlacedIf : Option Loc → Type 0
IsPlacedIf None = Unit {0}
IsPlacedIf (Some loc) = IsPlaced loc

abbrev pub ArePathsPlaced : List (Option Loc) → Type 0
ArePathsPlaced [] = Unit {0}
ArePathsPlaced (path ∷ paths) = IsPlacedIf path × ArePathsPlaced paths

abbrev pub IsConstructPlaced : Construct → Type 0
IsConstructPlaced (construct.Statement loc) = IsPlaced loc
IsConstructPlaced (construct.Function _ decl loc) = IsPlaced decl × IsPlaced loc
IsConstructPlaced (construct.Branch _ loc paths) = IsPlaced loc × ArePathsPlaced paths

-- all places of these constructs
abbrev pub ArePlaced : List Construct → Type 0
ArePlaced [] = Unit {0}
ArePlaced (construct ∷ rest) = IsConstructPlaced construct × ArePlaced rest
