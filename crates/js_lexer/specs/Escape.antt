-- What the functions that read escapes answer, as the definition says it.
use Rattle.std.specs.Prelude.{ℕ, List, Option, Some, None}
use Rattle.js_lexer.specs.declared.escape.Escaped.{Escaped}
use Rattle.js_lexer.specs.declared.escape.Escaped.TheVariants as escaped
use Rattle.js_text.specs.Place.{Place}

-- what an escape stands for
abbrev pub meaning : Escaped → Option ℕ
meaning escaped.Nothing = None
meaning (escaped.Code c) = Some c

-- what was found, and what follows the place
abbrev pub found_at : {A : Type 0} → Option A → Place → Option (A × List ℕ)
found_at None place = None
found_at (Some found) place = Some (found, place.after)

-- the same of an escape
abbrev pub says_at : Option Escaped → Place → Option (Option ℕ × List ℕ)
says_at None place = None
says_at (Some found) place = Some (meaning found, place.after)
