-- What is proved of the text of tokens.
use Rattle.std.specs.Prelude.{◌≡◌, ℕ, true, false, List, [], ◌∷◌}
use Rattle.std.specs.Str.{IsUtf8}
use Rattle.js_tree.specs.Plain.{File}
use Rattle.js_text.specs.Place.{Place}
use Rattle.js_text.specs.Token.{Kind, Word, EscapedWord, Token}
use Rattle.js_reading.specs.Productions.{name_of}
use Rattle.js_reading.specs.Sentences.{Sentence}
use Rattle.js_reading.specs.Reads.{Lexes, start_of}
use Rattle.js_spelling.specs.Written.{Written, text_of}
use Rattle.js_spelling.specs.Tokens.{is_written, IsToken, AreTokens, AreNeighbours, StandBeside, Follow}

-- the text of tokens is UTF-8
abbrev pub IsText : Type 0
IsText = (tokens : List Written) → AreTokens tokens → IsUtf8 (text_of tokens)

-- its tokens are those, where each may stand beside the next
pub record ReadAgain (written : List Written) : Type 0 where
  pub tokens : List Token
  pub end : Place
  pub lexed : Lexes (start_of (text_of written)) tokens end
  pub follow : Follow false written tokens

abbrev pub ReadsTokensAgain : Type 0
ReadsTokensAgain = (written : List Written) → AreTokens written → AreNeighbours written → ReadAgain written

-- the tokens of a sentence may stand so
abbrev pub SentencesStand : Type 0
SentencesStand = (tree : File) (tokens : List Token) → Sentence tree tokens → StandBeside tokens

-- each token of a text is one by its spelling alone, and so is the name that one with an escape stands for
abbrev pub IsOne : Kind → Type 0
IsOne (EscapedWord w) = IsToken (Word (name_of w))
IsOne kind = is_written kind ≡ true → IsToken kind

abbrev pub AreOnes : List Token → Type 0
AreOnes [] = Unit {0}
AreOnes (token ∷ tokens) = IsOne token.kind × AreOnes tokens

abbrev pub HasTokens : Type 0
HasTokens = (text : List ℕ) (tokens : List Token) (end : Place) → IsUtf8 text → Lexes (start_of text) tokens end → AreOnes tokens
