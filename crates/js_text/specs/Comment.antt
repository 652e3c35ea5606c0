-- Comments (ECMA-262, 12.4 and 12.5). What follows one is told; no line terminator belongs to a comment of one line.
use Rattle.std.specs.Prelude.{ℕ, ◌==◌, Bool, false, ◌&&◌, List, [], ◌∷◌, drop, Option, Some, None, if◌then◌else◌}
use Rattle.js_text.specs.Position.{is_line_terminator}
use Rattle.js_text.specs.Character.{begins_with_character}

-- what follows a comment of several lines, from after its `/*` (12.4); none where it is not closed
abbrev pub multi_line_rest : List ℕ → Option (List ℕ)
multi_line_rest [] = None
multi_line_rest (c ∷ cs) = if (c == 0x2A) && begins_with_character 0x2F cs then Some (drop 1 cs) else multi_line_rest cs

-- what follows a comment of one line
abbrev pub single_line_rest : List ℕ → List ℕ
single_line_rest [] = []
single_line_rest (c ∷ cs) = if is_line_terminator c then c ∷ cs else single_line_rest cs

-- what follows a comment whose `/` was passed
abbrev pub comment_after_slash : List ℕ → Option (List ℕ)
comment_after_slash [] = None
comment_after_slash (c ∷ cs) = if c == 0x2F then Some (single_line_rest cs) else (if c == 0x2A then multi_line_rest cs else None)

-- what follows the comment that begins here; none where none does, or where it is not closed
abbrev pub comment_rest : List ℕ → Option (List ℕ)
comment_rest [] = None
comment_rest (c ∷ cs) = if c == 0x2F then comment_after_slash cs else None

-- SingleLineCommentChars and MultiLineCommentChars: the characters up to the line's end, and up to the `*/`
abbrev pub single_line_text : List ℕ → List ℕ
single_line_text [] = []
single_line_text (c ∷ cs) = if is_line_terminator c then [] else c ∷ single_line_text cs

abbrev pub closes_comment : List ℕ → Bool
closes_comment [] = false
closes_comment (c ∷ cs) = (c == 0x2A) && begins_with_character 0x2F cs

abbrev pub multi_line_text : List ℕ → List ℕ
multi_line_text [] = []
multi_line_text (c ∷ cs) = if closes_comment (c ∷ cs) then [] else c ∷ multi_line_text cs

-- what the comment that begins here says, a hashbang comment or another: its characters without `//`, `#!`, `/*` and `*/`
abbrev pub comment_text : List ℕ → List ℕ
comment_text cs = if begins_with_character 0x2A (drop 1 cs) then multi_line_text (drop 2 cs) else single_line_text (drop 2 cs)

-- a hashbang comment begins here (12.5)
abbrev pub begins_hashbang : List ℕ → Bool
begins_hashbang [] = false
begins_hashbang (c ∷ cs) = (c == 0x23) && begins_with_character 0x21 cs
