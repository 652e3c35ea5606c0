-- The production that a token of a kind tells, wherever it stands.
use Rattle.std.specs.Prelude.{List, [], ◌∷◌, Option, false}
use Rattle.js_text.specs.Token.{Kind, Token}
use Rattle.js_reading.specs.declared.form.Form.{Form}
use Rattle.js_reading.specs.declared.form.Form.TheVariants as slot
use Rattle.js_reading.specs.Productions.{find, prefixes, joins, statements, as_it_is, after_first}

-- some token of this kind
abbrev pub token_of : Kind → Token
token_of kind = record {
  kind = kind;
  span = record { start = 0; end = 0 };
  loc = record { start = record { line = 0; column = 0 }; end = record { line = 0; column = 0 } };
  line_terminator_before = false;
  comments = record { start = 0; end = 0 };
}

abbrev pub prefix_of : Kind → Option Form
prefix_of kind = find as_it_is prefixes (token_of kind)

-- a statement among some of the table
abbrev pub among : List Form → Kind → Option Form
among forms kind = find as_it_is forms (token_of kind)

abbrev pub statement_of : Kind → Option Form
statement_of kind = among statements kind

-- the last of the table, each list with those after it
abbrev pub lasts : List Form
lasts = slot.Throw ∷ slot.Try ∷ slot.Debugger ∷ []

abbrev pub leavings : List Form
leavings = slot.Continue ∷ slot.Break ∷ slot.Return ∷ slot.Switch ∷ lasts

abbrev pub compounds : List Form
compounds = slot.If ∷ slot.For ∷ slot.While ∷ slot.DoWhile ∷ leavings

abbrev pub join_of : Kind → Option Form
join_of kind = find after_first joins (token_of kind)
