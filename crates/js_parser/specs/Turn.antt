-- What one turn of the reader does: it asks for a token with the goal of its place, and takes it.
use Rattle.std.specs.Prelude.{◌≡◌, ℕ, ◌<◌, ◌≤◌, ◌^◌, Bool, true, false, List, length, None, Some, ◌⊎◌, Result, Ok, Err}
use Rattle.std.specs.Str.{chars}
use Rattle.js_terms.specs.declared.place.Loc.{Loc}
use Rattle.js_terms.specs.declared.words.Comment.{Comment}
use Rattle.js_tree.specs.Plain.{Stmts}
use Rattle.js_tree.specs.Height.{height_stmts}
use Rattle.js_text.specs.Place.{Place}
use Rattle.js_text.specs.Token.{Token}
use Rattle.js_text.specs.Lex.{characters_of}
use Rattle.js_reading.specs.Turns.{Config, Finished, turn}
use Rattle.js_reading.specs.Open.{floor}
use Rattle.js_reading.specs.declared.unsupported.Unsupported.{Unsupported}
use Rattle.js_reading.specs.Found.{Find, Turns, Searched}
use Rattle.js_reading.specs.Reads.{comments_of_tokens, NoTree, Supported, LeftOutThere, Leads}
use Rattle.js_parser.specs.declared.recent.Recent.{Recent}
use Rattle.js_parser.specs.declared.refused.Refusal.{Refusal}
use Rattle.js_parser.specs.declared.refused.Refusal.TheVariants as why
use Rattle.js_parser.specs.Recent.{Remembers}

-- the tokens so far lead there, and nothing is found at any turn; these are the comments before them, and what is kept of the turns
pub record Stands (text : List ℕ) (here : Place) (c : Config) (kept : List Comment) (recent : Recent) : Type 0 where
  pub led : Leads text here c
  pub turns : Turns
  pub searched : Searched led.tokens turns c
  pub remembers : Remembers recent turns
  pub comments : kept ≡ comments_of_tokens (chars text) led.tokens
  pub within : characters_of here ≡ chars text

-- a file that is whole is within the limit
abbrev pub IsLow : Config → ℕ → Type 0
IsLow (Finished ss) limit = height_stmts ss ≤ limit
IsLow c limit = Unit {0}

-- a file is whole with this token, and too high
abbrev pub EndsHigh : Config → Token → ℕ → Type 0
EndsHigh c t limit = (ss : Stmts) × (turn c t ≡ Some (Finished ss)) × (limit < height_stmts ss)

-- a token that goes on is taken, or none is
abbrev pub Steps : Bool → Config → Config → Token → ℕ → Type 0
Steps true before after t limit = (turn before t ≡ Some after) × IsLow after limit
Steps false before after t limit = turn before t ≡ None

-- why a token isn't looked at, or what it makes isn't kept
abbrev pub Leaves : Refusal → Config → Token → ℕ → Type 0
Leaves why.TooDeep c t limit = (limit < floor c) ⊎ EndsHigh c t limit
Leaves why.Memory c t limit = Unit {0}
Leaves r c t limit = ⊥

-- what is found is left out of the text, if that isn't so long that positions tell no places apart
abbrev pub IsLeftOut : List ℕ → Unsupported × Loc → Type 0
IsLeftOut text find = length (chars text) < 2 ^ 30 → LeftOutThere text find

-- and where nothing is found, the text has no tree
abbrev pub Tells : {U : Type 0} → Result Find U → List ℕ → ℕ → Type 0
Tells (Ok None) text at = NoTree text at × Supported text at
Tells (Ok (Some find)) text at = IsLeftOut text find
Tells (Err want) text at = Unit {0}
