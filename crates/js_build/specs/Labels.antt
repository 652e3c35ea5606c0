-- The label of a jump.
use Rattle.std.specs.Prelude.{List, ◌∷◌, Option, Some, None}
use Rattle.js_terms.specs.declared.words.Identifier.{Identifier}
use Rattle.js_reading.specs.Slots.{Piece, AWord, Missing}
use Rattle.js_reading.specs.Makes.{identifier}
use Rattle.js_build.specs.Shapes.{if_over, none_left}

-- a label, or none
abbrev pub label_of : List Piece → Option (Option Identifier)
label_of (Missing ∷ ps) = if_over (none_left ps) None
label_of (AWord w l ∷ ps) = if_over (none_left ps) (Some (identifier w l))
label_of ps = None
