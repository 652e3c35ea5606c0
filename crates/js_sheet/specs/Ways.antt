-- Where the text of a sheet goes.
use Rattle.std.specs.Prelude.{◌≡◌, ℕ, Bool, true, false, List, ◌++◌, length, Option}
use Rattle.std.specs.String.{string_bytes}
use Rattle.js_terms.specs.declared.place.Pos.{Pos}
use Rattle.cov_base.specs.Sink.{TakesPrefix}
use Rattle.cov_base.specs.Pieces.{Moves, held_of}
use Rattle.js_sheet.specs.declared.way.Way.{Way}
use Rattle.js_sheet.specs.declared.way.Way.TheVariants.{Whole, InPieces}

abbrev pub is_whole : Way → Bool
is_whole (Whole held offsets) = true
is_whole (InPieces pieces) = false

-- these were written since the sink had taken `before`: a text is held whole, with its marks; of what goes in pieces all but the last piece is taken
abbrev pub Keeps : Way → Option (List ℕ) → Option (List ℕ) → List ℕ → List (ℕ × Option Pos) → Type 0
Keeps (Whole held offsets) before now text marks = (string_bytes held ≡ text) × (offsets.items ≡ marks) × (now ≡ before)
Keeps (InPieces pieces) before now text marks = Moves text (held_of pieces) before now

-- bytes more are kept
abbrev pub KeepsMore : Way → Way → Option (List ℕ) → Option (List ℕ) → List ℕ → Type 0
KeepsMore old new taken now bytes = (before : Option (List ℕ)) (text : List ℕ) (marks : List (ℕ × Option Pos)) → Keeps old before taken text marks → Keeps new before now (text ++ bytes) marks

-- of what was kept and bytes more, the sink has taken a prefix
abbrev pub TakesPart : Way → Option (List ℕ) → Option (List ℕ) → List ℕ → Type 0
TakesPart old taken now bytes = (before : Option (List ℕ)) (text : List ℕ) (marks : List (ℕ × Option Pos)) → Keeps old before taken text marks → TakesPrefix before now (text ++ bytes)

-- marks more are kept, which stand at the text's end
abbrev pub KeepsMarks : Way → Way → (ℕ → List (ℕ × Option Pos)) → Type 0
KeepsMarks old new more = (before now : Option (List ℕ)) (text : List ℕ) (marks : List (ℕ × Option Pos)) → Keeps old before now text marks → Keeps new before now text (marks ++ more (length text))
