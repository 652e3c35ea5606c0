-- What a reader keeps of the turns so far.
use Rattle.std.specs.Prelude.{◌≡◌, List, [], ◌∷◌, Option, Some, None}
use Rattle.js_terms.specs.declared.place.Loc.{Loc}
use Rattle.js_lexer.specs.Token.{plain_token}
use Rattle.js_text.specs.Token.{Token}
use Rattle.js_reading.specs.Turns.{Config}
use Rattle.js_reading.specs.Unsupported.{in_no_function}
use Rattle.js_reading.specs.Found.{Turns, group, parameter, asyncs, starts}
use Rattle.js_stack.specs.Sight.{Sees, callee}
use Rattle.js_parser.specs.declared.recent.Turn.{Turn}
use Rattle.js_parser.specs.declared.recent.Recent.{Recent}
use Rattle.js_parser.specs.declared.search.Seen.{Seen}

-- the last of these turns, and none where there is none
abbrev pub Recalls : Option Turn → Turns → Type 0
Recalls None [] = Unit {0}
Recalls (Some r) (x ∷ turns) = Sees r.sight x.0 × (plain_token r.token ≡ x.1)
Recalls r turns = ⊥

abbrev pub before_last : Turns → Turns
before_last [] = []
before_last (x ∷ turns) = turns

-- what starts where one of these does starts where one of those does
abbrev pub SameStarts : List Loc → List Loc → Type 0
SameStarts ls ms = (l : Loc) → starts l ls ≡ starts l ms

abbrev pub Remembers : Recent → Turns → Type 0
Remembers recent turns = Recalls recent.last turns × Recalls recent.before (before_last turns) × SameStarts recent.asyncs (asyncs turns)

-- what is said of a place where this token is next
abbrev pub Saw : Seen → Config → Token → Type 0
Saw seen c t = Sees seen.sight c × (seen.group ≡ group c t) × (seen.parameter ≡ parameter c t) × (seen.callee ≡ callee c) × (seen.outside ≡ in_no_function c)
