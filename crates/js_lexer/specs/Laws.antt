-- What holds of tokens and of the comments before them.
use Rattle.std.specs.Prelude.{◌≡◌, ℕ, ◌≤◌, true, List, length, map, Some}
use Rattle.std.specs.Str.{chars, IsUtf8, IsCharBoundary}
use Rattle.js_terms.specs.declared.place.Pos.{Pos}
use Rattle.js_text.specs.Place.{Place, place_at}
use Rattle.js_text.specs.declared.goal.Goal.{Goal}
use Rattle.js_text.specs.declared.punctuator.Punctuator.{Punctuator}
use Rattle.js_text.specs.Punctuator.{spelling_of, begins_with_punctuator, longest_punctuator}
use Rattle.js_text.specs.Token.{Token}
use Rattle.js_text.specs.Gap.{comment_of, comments_before}
use Rattle.js_text.specs.Lex.{Lex, next_token, comments_for, characters_of}

-- at one place of a text one token at most stands for a goal
abbrev pub OneToken : Type 0
OneToken = (goal : Goal) (text : List ℕ) (at : ℕ) (one other : Token) → Lex goal text at one → Lex goal text at other → one ≡ other

-- no punctuator that characters begin with is longer than the one that stands there
abbrev pub Longest : Type 0
Longest = (characters : List ℕ) (found other : Punctuator) → longest_punctuator characters ≡ Some found → begins_with_punctuator other characters ≡ true →
    length (spelling_of other) ≤ length (spelling_of found)

-- the comments that stand where a token's comments start are those that stand before it
abbrev pub CommentsOfToken : Type 0
CommentsOfToken = (goal : Goal) (place after : Place) (token : Token) (next : Pos) → next_token goal place ≡ Some (token, after) →
    comments_before next (place_at (characters_of place) token.comments.start) ≡ map (λ found. comment_of next found.0) (comments_for goal place)

-- and they start between two characters
abbrev pub CommentsStart : Type 0
CommentsStart = (text : List ℕ) (goal : Goal) (place after : Place) (token : Token) → IsUtf8 text → characters_of place ≡ chars text →
    next_token goal place ≡ Some (token, after) → IsCharBoundary text token.comments.start
