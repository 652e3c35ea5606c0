-- The tests of characters that the lexer moves over.
use Rattle.std.specs.Prelude.{ℕ, Bool}
use Rattle.js_lexer.specs.declared.character.Class.{Class}
use Rattle.js_lexer.specs.declared.character.Class.TheVariants as class
use Rattle.js_text.specs.Character.{starts_identifier, continues_identifier, is_gap}

abbrev pub test_of : Class → ℕ → Bool
test_of class.First character = starts_identifier character
test_of class.Identifier character = continues_identifier character
test_of class.Gap character = is_gap character
