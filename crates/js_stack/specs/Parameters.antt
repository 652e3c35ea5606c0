-- A pattern among the parameters of an arrow in parentheses, by the parts of the production.
use Rattle.std.specs.Prelude.{◌&&◌, List, [], ◌∷◌, Option, None, if◌then◌else◌}
use Rattle.js_terms.specs.declared.place.Loc.{Loc}
use Rattle.js_text.specs.Token.{Token}
use Rattle.js_reading.specs.declared.form.Form.{Form}
use Rattle.js_reading.specs.Slots.{Slot, Piece, TheExprs}
use Rattle.js_reading.specs.Unsupported.{is_parentheses}
use Rattle.js_reading.specs.Found.{Find, literal_item, before_body, on_its_line}
use Rattle.js_stack.specs.Groups.{arrow_left}
use Rattle.js_stack.specs.Own.{no_part}

-- where the first item is that is an array or an object
abbrev pub item_of : Piece → Option Loc
item_of (TheExprs b xs) = literal_item xs
item_of p = None

abbrev pub sole_item : List Piece → Option Loc
sole_item [] = None
sole_item (p ∷ ps) = if no_part ps then item_of p else None

abbrev pub before_arrow : Form → List Slot → Token → Option Loc → Find
before_arrow f ss t found = if (is_parentheses f && arrow_left ss) && on_its_line t then before_body found t else None

abbrev pub parameter_in : Form → List Slot → List Piece → Token → Find
parameter_in f ss ps t = before_arrow f ss t (sole_item ps)
