-- What is found at a token that is refused, ahead of it and further on.
use Rattle.std.specs.Prelude.{◌≡◌, ◌⊎◌, Bool, true, false, List, [], ◌∷◌, Option, Some, None}
use Rattle.js_terms.specs.declared.place.Loc.{Loc}
use Rattle.js_text.specs.Place.{Place}
use Rattle.js_text.specs.Token.{Token}
use Rattle.js_reading.specs.Turns.{Config, Start, turn, run}
use Rattle.js_reading.specs.Found.{Find, Turns, found, ahead, arrow_comes, further}
use Rattle.js_reading.specs.Reads.{Lexes, next_two, NoneFurther}

-- `=>` comes after the arguments of the name there, with some tokens that stand at a place; or whatever tokens stand there, it doesn't
abbrev pub Comes : Bool → Loc → Config → Place → Type 0
Comes true l c place = (ts : List Token) × (end : Place) × Lexes place ts end × (arrow_comes l c ts ≡ true)
Comes false l c place = (ts : List Token) (end : Place) → Lexes place ts end → arrow_comes l c ts ≡ false

-- the same where tokens lead, if they lead anywhere
abbrev pub ComesAt : Bool → Loc → Option Config → Place → Type 0
ComesAt comes l None place = comes ≡ false
ComesAt comes l (Some c) place = Comes comes l c place

-- a token goes on, or it doesn't
abbrev pub GoesOn : Bool → Config → Config → Token → Type 0
GoesOn true before after t = turn before t ≡ Some after
GoesOn false before after t = turn before t ≡ None

-- what is read, of the arguments of a word: the tokens from it on lead there, and what comes there comes after the word and its `(`
pub record Arguing (word opening : Token) (from : Place) (c : Config) (here : Place) : Type 0 where
  pub tokens : List Token
  pub ran : run Start tokens ≡ Some c
  pub back : (comes : Bool) → Comes comes word.loc c here → ComesAt comes word.loc (run Start (word ∷ opening ∷ [])) from

-- what is found with some tokens that stand at a place, or that with none of them anything is
abbrev pub FoundFurther : Find → Config → Token → Place → Type 0
FoundFurther None c t place = NoneFurther c t place
FoundFurther (Some x) c t place = (ts : List Token) × (end : Place) × Lexes place ts end × (further c t ts ≡ Some x)

-- the first that is found with the token, ahead of it or further on, where these tokens stand after it
abbrev pub FoundBeyond : Find → Turns → Config → Token → Place → Type 0
FoundBeyond None turns c t place = (found turns c t ≡ None) × (ahead turns c t (next_two place) ≡ None) × NoneFurther c t place
FoundBeyond (Some x) turns c t place = (found turns c t ≡ Some x) ⊎ ((found turns c t ≡ None) × ((ahead turns c t (next_two place) ≡ Some x) ⊎ FoundFurther (Some x) c t place))
