-- What a literal of the code is spelt.
use Rattle.js_terms.specs.declared.words.Spelled.{Spelled}
use Rattle.js_code.specs.declared.literal.StringValue.{StringValue}

-- the string that a literal is of
abbrev pub spelled_of : StringValue → Spelled
spelled_of literal = record { spelling = literal.spelling; units = literal.units }
