-- How a file is printed: its text, and from where in the source its tokens come.
use Rattle.std.specs.Prelude.{ℕ, ◌+◌, Bool, true, false, List, [], ◌∷◌, ◌++◌, length, map, Option, Some, None}
use Rattle.js_terms.specs.declared.place.Pos.{Pos}
use Rattle.js_tree.specs.Plain.{File}
use Rattle.js_text.specs.Position.{position}
use Rattle.js_text.specs.Token.{spelling}
use Rattle.js_spelling.specs.Written.{Written, Origin, Begins, Within, Inserted, between, text_of}
use Rattle.js_layout.specs.declared.mark.Mark.{Mark}
use Rattle.js_layout.specs.Tokens.{file_tokens}
use Rattle.js_layout.specs.Neat.{neat_file}

abbrev pub written : File → List Written
written file = file_tokens (neat_file file)

-- the text
abbrev pub layout : File → List ℕ
layout file = text_of (written file)

-- ---- marks

-- for what begins with a token in the source, and without source where a run of inserted tokens begins; after this many bytes
abbrev pub marked : Origin → Bool → ℕ → List (ℕ × Option Pos)
marked (Begins p) inserted at = (at, Some p) ∷ []
marked Within inserted at = []
marked Inserted true at = []
marked Inserted false at = (at, None) ∷ []

abbrev pub is_inserted : Origin → Bool
is_inserted Inserted = true
is_inserted o = false

-- of these tokens, where so many bytes stand before, and the token before was inserted or not
abbrev pub marks_from : ℕ → Bool → Written → List Written → List (ℕ × Option Pos)
marks_from at inserted t [] = marked t.origin inserted at
marks_from at inserted t (next ∷ ts) =
    marked t.origin inserted at ++ marks_from (at + length (spelling t.kind ++ between t next.kind)) (is_inserted t.origin) next ts

abbrev pub marks_of : List Written → List (ℕ × Option Pos)
marks_of [] = []
marks_of (t ∷ ts) = marks_from 0 false t ts

-- by their places in the text
abbrev pub mark_of : List ℕ → ℕ × Option Pos → Mark
mark_of text m = record { at = position text m.0; source = m.1 }

abbrev pub marks : File → List Mark
marks file = map (λ m. mark_of (layout file) m) (marks_of (written file))
