-- Which tree a text has, and why it has none: its tokens are a sentence for the tree, or come to where none can follow.
use Rattle.std.specs.Prelude.{◌≡◌, ℕ, ◌<◌, List, [], ◌∷◌, ◌++◌, Option, None, Some, if◌then◌else◌}
use Rattle.std.specs.Option.{option_map}
use Rattle.std.specs.Str.{chars}
use Rattle.js_terms.specs.declared.place.Loc.{Loc}
use Rattle.js_terms.specs.declared.words.Comment.{Comment}
use Rattle.js_tree.specs.Plain.{File, MakeFile}
use Rattle.js_tree.specs.Height.{height_file}
use Rattle.js_text.specs.Place.{Place, place_at}
use Rattle.js_text.specs.Gap.{comments_before}
use Rattle.js_text.specs.declared.goal.Goal.{Goal}
use Rattle.js_text.specs.declared.goal.Goal.TheVariants as goal
use Rattle.js_text.specs.Token.{Kind, RegularExpression, TemplateMiddle, TemplateTail, Token}
use Rattle.js_text.specs.Position.{position_of}
use Rattle.js_text.specs.Lex.{next_token, token_place, offset_of, characters_of}
use Rattle.js_reading.specs.Sentences.{Sentence, Dead}
use Rattle.js_reading.specs.Turns.{Config, run, Start, braced, goal_of_place}
use Rattle.js_reading.specs.Open.{OpensMore}
use Rattle.js_reading.specs.Unsupported.{Unsupported, BeginsAfter}
use Rattle.js_reading.specs.Found.{further, Clean}

-- ---- the next token, after white space and comments

-- the goal for which a token of this kind is lexed (12)
abbrev pub goal_of : Kind → Goal
goal_of (RegularExpression w) = goal.RegExp
goal_of (TemplateMiddle w) = goal.Template
goal_of (TemplateTail w) = goal.Template
goal_of kind = goal.Div

-- a part of a template where a `}` stands: what stands before that is before the part
abbrev pub after_gap_of : Token → Token × Place → Token × Place
after_gap_of brace found = (record found.0 { line_terminator_before = brace.line_terminator_before; comments = brace.comments }, found.1)

abbrev pub continued : Place → Option (Token × Place) → Option (Token × Place)
continued place None = None
continued place (Some brace) = option_map (after_gap_of brace.0) (next_token goal.Template (token_place goal.Div place))

-- the next token for a goal, and the place after it
abbrev pub next_for : Goal → Place → Option (Token × Place)
next_for goal.Template place = continued place (next_token goal.Div place)
next_for g place = next_token g place

-- the same where the goal is that of a place of the grammar: where an expression of a template ends, a `}` continues the template, and all
-- else is as for Div
abbrev pub unless_braced : Place → Option (Token × Place) → Option (Token × Place)
unless_braced place None = None
unless_braced place (Some found) = if braced found.0.kind then continued place (Some found) else Some found

abbrev pub asked_for : Goal → Place → Option (Token × Place)
asked_for goal.Template place = unless_braced place (next_token goal.Div place)
asked_for g place = next_token g place

-- ---- the tokens of a text, and the comments before them

-- from one place to another these tokens stand, each lexed for the goal of its kind
pub data Lexes : Place → List Token → Place → Type 0 where
  no_token : {place : Place} → Lexes place [] place
  one_more : {place between end : Place} {token : Token} {tokens : List Token} →
      next_for (goal_of token.kind) place ≡ Some (token, between) → Lexes between tokens end → Lexes place (token ∷ tokens) end

-- the comments before a token of a text of these characters: those from the start of its span of comments on
abbrev pub comments_of_token : List ℕ → Token → List Comment
comments_of_token text t = comments_before t.loc.start (place_at text t.comments.start)

-- the comments before these tokens, in order
abbrev pub comments_of_tokens : List ℕ → List Token → List Comment
comments_of_tokens text [] = []
comments_of_tokens text (t ∷ ts) = comments_of_token text t ++ comments_of_tokens text ts

-- the comments of a tree, and the tree without them
abbrev pub comments_of : File → List Comment
comments_of (MakeFile body comments) = comments

abbrev pub without_comments : File → File
without_comments (MakeFile body comments) = MakeFile body []

-- the place before a text's first character
abbrev pub start_of : List ℕ → Place
start_of text = record { before = []; after = chars text }

-- the text of these bytes has this tree: its tokens are a sentence, and its comments are those before them
pub record Reads (text : List ℕ) (tree : File) : Type 0 where
  pub tokens : List Token
  pub end : Place
  pub lexed : Lexes (start_of text) tokens end
  pub sentence : Sentence (without_comments tree) tokens
  pub comments : comments_of tree ≡ comments_of_tokens (chars text) tokens

-- ---- why a text has no tree, or one that is too high

-- after the tokens that lead to a place of the text, so many bytes stand before the next token, or what is none, or the end
pub record Reaches (text : List ℕ) (at : ℕ) : Type 0 where
  pub tokens : List Token
  pub place : Place
  pub lexed : Lexes (start_of text) tokens place
  pub there : at ≡ offset_of (token_place goal.Div place)

-- no token that stands at this place can follow these: no sentence begins with them and it
abbrev pub Stuck : List Token → Place → Type 0
Stuck tokens place = (token : Token) (after : Place) → next_for (goal_of token.kind) place ≡ Some (token, after) → Dead (tokens ++ token ∷ [])

-- the text has no tree, since no token that stands there goes on
pub record NoTree (text : List ℕ) (at : ℕ) : Type 0 where
  pub reached : Reaches text at
  pub stuck : Stuck reached.tokens reached.place
  pub none : (tree : File) → Reads text tree → ⊥

-- of the tokens up to there, the one for which the grammar asks there, and any after it, none begins a form that is left out
pub record Supported (text : List ℕ) (at : ℕ) : Type 0 where
  pub reached : Reaches text at
  pub place : Config
  pub ran : run Start reached.tokens ≡ Some place
  pub before : Clean reached.tokens
  pub there : (token : Token) (after end : Place) (others : List Token) → asked_for (goal_of_place place) reached.place ≡ Some (token, after) → Lexes after others end → Clean (reached.tokens ++ token ∷ others)

-- the text has no tree, since the token there begins a form that is left out
pub record LeftOut (text : List ℕ) (at : ℕ) (form : Unsupported) : Type 0 where
  pub reached : Reaches text at
  pub place : Config
  pub ran : run Start reached.tokens ≡ Some place
  pub others : List Token
  pub end : Place
  pub lexed : Lexes reached.place others end
  pub begins : BeginsAfter form reached.tokens place others
  pub none : (tree : File) → Reads text tree → ⊥

-- its tree, if it has one, is higher than the limit, since the tokens before begin more levels
pub record TooHigh (text : List ℕ) (at : ℕ) (limit : ℕ) : Type 0 where
  pub reached : Reaches text at
  pub begun : OpensMore limit reached.tokens
  pub higher : (tree : File) → Reads text tree → limit < height_file tree

-- a form is left out where the token starts that is told by its location
pub record LeftOutThere (text : List ℕ) (what : Unsupported × Loc) : Type 0 where
  pub place : Place
  pub within : characters_of place ≡ chars text
  pub starts : position_of place ≡ what.1.start
  pub left_out : LeftOut text (offset_of place) what.0

-- ---- where a reader stands, and how far it looks

-- the next tokens at a place, lexed for Div: two, or fewer where no more stand there
abbrev pub one_met : Option (Token × Place) → List Token
one_met None = []
one_met (Some found) = found.0 ∷ []

abbrev pub two_met : Option (Token × Place) → List Token
two_met None = []
two_met (Some found) = found.0 ∷ one_met (next_token goal.Div found.1)

abbrev pub next_two : Place → List Token
next_two place = two_met (next_token goal.Div place)

-- the tokens of a text up to a place lead to a place of the grammar
pub record Leads (text : List ℕ) (place : Place) (config : Config) : Type 0 where
  pub tokens : List Token
  pub lexed : Lexes (start_of text) tokens place
  pub ran : run Start tokens ≡ Some config

-- whatever tokens stand from there on, nothing is found further than two of them
abbrev pub NoneFurther : Config → Token → Place → Type 0
NoneFurther config token place = (tokens : List Token) (end : Place) → Lexes place tokens end → further config token tokens ≡ None
