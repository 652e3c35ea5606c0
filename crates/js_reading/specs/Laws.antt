-- What is proved of the whole language: of `Sentences`, `Turns` and `Open`.
use Rattle.std.specs.Prelude.{◌≡◌, ℕ, true, false, ◌≤◌, ◌<◌, ◌^◌, length, List, [], ◌∷◌, ◌++◌, Some, None, codes}
use Rattle.std.specs.Str.{chars}
use Rattle.js_terms.specs.declared.place.Loc.{Loc}
use Rattle.js_text.specs.Place.{Place}
use Rattle.js_tree.specs.Plain.{File}
use Rattle.js_tree.specs.Height.{height_file}
use Rattle.js_text.specs.declared.goal.Goal.TheVariants.{Div}
use Rattle.js_text.specs.Position.{position_of}
use Rattle.js_text.specs.Token.{Token}
use Rattle.js_text.specs.Lex.{token_place, offset_of, characters_of}
use Rattle.js_reading.specs.Sentences.{Sentence, Dead}
use Rattle.js_reading.specs.Productions.{is_word}
use Rattle.js_reading.specs.Turns.{Config, Frame, want, turn, run, tree_of, Start, is_for, asked, braced, goal_of_place}
use Rattle.js_reading.specs.Open.{OpensMore, floor}
use Rattle.js_reading.specs.Unsupported.{Unsupported, Stops, Begins, at_any_name}
use Rattle.js_reading.specs.Placed.{ArePlaced}
use Rattle.js_walk.specs.Constructs.{constructs_file}
use Rattle.js_reading.specs.Found.{first_of, shown, outside, proto_back, parameter, Turns, found, ahead, further, Searched, Clean, Apart, BegunAt}
use Rattle.js_reading.specs.Reads.{asked_for, Lexes, start_of, Reads, Supported, LeftOutThere, Leads, next_two, NoneFurther}

-- a sentence leads to its tree
abbrev pub ReadsEachSentence : Type 0
ReadsEachSentence = (tree : File) (ts : List Token) → Sentence tree ts → tree_of (run Start ts) ≡ Some tree

-- what it reads is a sentence for the tree
abbrev pub ReadsNothingElse : Type 0
ReadsNothingElse = (tree : File) (ts : List Token) → tree_of (run Start ts) ≡ Some tree → Sentence tree ts

-- a list of tokens has at most one tree
abbrev pub HasOneTree : Type 0
HasOneTree = (one other : File) (ts : List Token) → Sentence one ts → Sentence other ts → one ≡ other

-- no sentence begins with tokens that lead nowhere
abbrev pub StopsAtDead : Type 0
StopsAtDead = (ts : List Token) → run Start ts ≡ None → Dead ts

-- no tree whose tokens begin so is lower than what the place after them counts
abbrev pub CountsTrees : Type 0
CountsTrees = (ts us : List Token) (c : Config) (tree : File) → run Start ts ≡ Some c → Sentence tree (ts ++ us) → floor c ≤ height_file tree

-- where a place counts more levels than a limit, the tokens that lead to it begin more
abbrev pub BeginsLevels : Type 0
BeginsLevels = (ts : List Token) (c : Config) (limit : ℕ) → run Start ts ≡ Some c → limit < floor c → OpensMore limit ts

-- a sentence's tokens are those for the goals with which they are asked for
abbrev pub AsksForEach : Type 0
AsksForEach = (ts : List Token) (t : Token) (c d : Config) → run Start ts ≡ Some c → turn c t ≡ Some d → is_for (asked (goal_of_place c) (braced t.kind)) t.kind ≡ true

-- no sentence goes on with what begins a form that is left out
abbrev pub StopsAtLeftOut : Type 0
StopsAtLeftOut = (u : Unsupported) (ts us : List Token) (c : Config) → run Start ts ≡ Some c → Begins u c us → Dead (ts ++ us)

-- a `this` that is read, and is no name, stands where an expression begins: the frames there tell whether it is in a function
abbrev pub FindsThis : Type 0
FindsThis = (ts : List Token) (t : Token) (c d : Config) → run Start ts ≡ Some c → is_word (codes "this") t ≡ true → at_any_name c ≡ false → turn c t ≡ Some d → (fs : List Frame) × (turn c t ≡ want t fs)

-- at those in `Stops` the machine stops
abbrev pub StopsTheRun : Type 0
StopsTheRun = (u : Unsupported) (ts us : List Token) (c : Config) → run Start ts ≡ Some c → Stops u c us → run c us ≡ None

-- where nothing was found at any turn, no form is begun whose tokens are all among those
abbrev pub FindsAll : Type 0
FindsAll = (ts : List Token) (turns : Turns) (c : Config) → Searched ts turns c → Clean ts

-- where nothing was found at any turn, and nothing is found with the next token, no form is begun whose tokens are all among these
abbrev pub FindsWhatEnds : Type 0
FindsWhatEnds = (ts : List Token) (turns : Turns) (c : Config) (t : Token) → Searched ts turns c → found turns c t ≡ None → Clean (ts ++ t ∷ [])

-- the same of the whole text where a token is refused, and nothing is found ahead of it
abbrev pub FindsWhatIsRefused : Type 0
FindsWhatIsRefused = (ts : List Token) (turns : Turns) (c : Config) (r : Token) (us : List Token) → Searched ts turns c → turn c r ≡ None → found turns c r ≡ None → ahead turns c r us ≡ None → further c r us ≡ None → Clean (ts ++ r ∷ us)

-- no two tokens of a text of fewer than 2^30 characters start at one place, but its ends
abbrev pub TokensStandApart : Type 0
TokensStandApart = (text : List ℕ) (ts : List Token) (end : Place) → Lexes (start_of text) ts end → length (chars text) < 2 ^ 30 → Apart ts

-- where the token is read, only a group, `this`, a key `__proto__` and a parameter may be found
abbrev pub FindsFew : Type 0
FindsFew = (ts : List Token) (turns : Turns) (c d : Config) (t : Token) → Searched ts turns c → turn c t ≡ Some d → found turns c t ≡ first_of (shown c d t ∷ outside c t ∷ proto_back turns t ∷ parameter c t ∷ [])

-- what is found begins a form, where it is said
abbrev pub FindsOnlyBegun : Type 0
FindsOnlyBegun = (ts : List Token) (turns : Turns) (c : Config) (t : Token) (us : List Token) (x : Unsupported × Loc) → Searched ts turns c → Apart ts → found turns c t ≡ Some x → BegunAt (ts ++ t ∷ us) x

abbrev pub FindsOnlyBegunAhead : Type 0
FindsOnlyBegunAhead = (ts : List Token) (turns : Turns) (c : Config) (r : Token) (us : List Token) (x : Unsupported × Loc) → Searched ts turns c → found turns c r ≡ None → ahead turns c r us ≡ Some x → BegunAt (ts ++ r ∷ us) x

abbrev pub FindsOnlyBegunFurther : Type 0
FindsOnlyBegunFurther = (ts : List Token) (turns : Turns) (c : Config) (r : Token) (us : List Token) (x : Unsupported × Loc) → Searched ts turns c → Apart (ts ++ r ∷ us) → turn c r ≡ None → found turns c r ≡ None → further c r us ≡ Some x → BegunAt (ts ++ r ∷ us) x

-- what is found with the token that is asked for, or ahead of it where it is refused, is left out of the text
abbrev pub LeavesOut : Type 0
LeavesOut = (text : List ℕ) (place after : Place) (c : Config) (turns : Turns) (t : Token) (x : Unsupported × Loc) (led : Leads text place c) → Searched led.tokens turns c → tree_of (Some c) ≡ None → length (chars text) < 2 ^ 30 →
    asked_for (goal_of_place c) place ≡ Some (t, after) → found turns c t ≡ Some x → LeftOutThere text x

abbrev pub LeavesOutAhead : Type 0
LeavesOutAhead = (text : List ℕ) (place after : Place) (c : Config) (turns : Turns) (t : Token) (x : Unsupported × Loc) (led : Leads text place c) → Searched led.tokens turns c → tree_of (Some c) ≡ None →
    asked_for (goal_of_place c) place ≡ Some (t, after) → turn c t ≡ None → found turns c t ≡ None → ahead turns c t (next_two after) ≡ Some x → LeftOutThere text x

abbrev pub LeavesOutFurther : Type 0
LeavesOutFurther = (text : List ℕ) (place after end : Place) (c : Config) (turns : Turns) (t : Token) (us : List Token) (x : Unsupported × Loc) (led : Leads text place c) → Searched led.tokens turns c → tree_of (Some c) ≡ None → length (chars text) < 2 ^ 30 →
    asked_for (goal_of_place c) place ≡ Some (t, after) → Lexes after us end → turn c t ≡ None → found turns c t ≡ None → further c t us ≡ Some x → LeftOutThere text x

-- where nothing is, the text is one of supported forms up to there: where no token stands, and where the one that does is refused
abbrev pub SupportsWhatEnds : Type 0
SupportsWhatEnds = (text : List ℕ) (place : Place) (c : Config) (turns : Turns) (led : Leads text place c) → Searched led.tokens turns c → asked_for (goal_of_place c) place ≡ None → Supported text (offset_of (token_place Div place))

abbrev pub SupportsWhatIsRefused : Type 0
SupportsWhatIsRefused = (text : List ℕ) (place after : Place) (c : Config) (turns : Turns) (r : Token) (led : Leads text place c) → Searched led.tokens turns c →
    asked_for (goal_of_place c) place ≡ Some (r, after) → turn c r ≡ None → found turns c r ≡ None → ahead turns c r (next_two after) ≡ None → NoneFurther c r after → Supported text (offset_of (token_place Div place))

-- no two places of a text of fewer than 2^30 characters have one position
abbrev pub PlacesStandApart : Type 0
PlacesStandApart = (text : List ℕ) (p q : Place) → characters_of p ≡ chars text → characters_of q ≡ chars text → length (chars text) < 2 ^ 30 → position_of p ≡ position_of q → offset_of p ≡ offset_of q

-- a text has at most one tree
abbrev pub TextHasOneTree : Type 0
TextHasOneTree = (text : List ℕ) (one other : File) → Reads text one → Reads text other → one ≡ other

-- what coverage counts in the tree of a text stands at lines from 1
abbrev pub CountsLinesFromOne : Type 0
CountsLinesFromOne = (text : List ℕ) (tree : File) → Reads text tree → ArePlaced (constructs_file tree)
