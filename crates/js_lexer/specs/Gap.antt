-- From where to where comments stand.
use Rattle.std.specs.Prelude.{ℕ, List, [], ◌∷◌, Option, Some, None}
use Rattle.js_lexer.specs.declared.token.Span.{Span}
use Rattle.js_text.specs.Place.{Place}
use Rattle.js_text.specs.Lex.{moved_to, offset_of}

-- these comments, and one more from here to there
abbrev pub spans : Option Span → ℕ → ℕ → Span
spans None start end = record { start = start; end = end }
spans (Some first) start end = record { start = first.start; end = end }

-- these comments, and more in the text of a place
abbrev pub grown : Place → Option Span → List (List ℕ × List ℕ) → Option Span
grown place before [] = before
grown place before (comment ∷ comments) =
    grown place (Some (spans before (offset_of (moved_to place comment.0)) (offset_of (moved_to place comment.1)))) comments
