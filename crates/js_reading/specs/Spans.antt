-- From which token to which a part stands, and which token is the next.
use Rattle.std.specs.Prelude.{List, [], ◌∷◌}
use Rattle.js_terms.specs.declared.place.Loc.{Loc}
use Rattle.js_text.specs.Token.{Token}

-- from the start of one part to the end of another
abbrev pub through : Loc → Loc → Loc
through first last = record { start = first.start; end = last.end }

-- the first of these tokens, and of those that follow them
abbrev pub first : List Token → Token → Token
first [] next = next
first (t ∷ ts) next = t
