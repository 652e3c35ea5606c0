-- Where a comment of several lines is closed.
use Rattle.std.specs.Prelude.{ℕ, List, [], ◌∷◌, if◌then◌else◌}
use Rattle.js_text.specs.Comment.{closes_comment}

-- what stands from the first `*/` on
abbrev pub close_from : List ℕ → List ℕ
close_from [] = []
close_from (c ∷ cs) = if closes_comment (c ∷ cs) then c ∷ cs else close_from cs
