-- The classes of characters in a source text (ECMA-262, 12).
use Rattle.std.specs.Prelude.{ℕ, ◌==◌, Bool, false, ◌||◌, List, [], ◌∷◌}
use Rattle.std.specs.Char.{is_ascii_digit}
use Rattle.unicode_ident.specs.Ident.{is_xid_start, is_xid_continue}
pub use Rattle.js_terms.specs.Blank.{is_white_space}
use Rattle.js_text.specs.Position.{is_line_terminator}

-- white space and line terminators (12.2, 12.3)
unfoldable pub is_gap : ℕ → Bool
is_gap c = is_white_space c || is_line_terminator c

-- what an identifier starts with (12.7), without escapes: `$` and `_`, and what Unicode lets stand there
unfoldable pub starts_identifier : ℕ → Bool
starts_identifier c = is_xid_start c || (c == 0x24) || (c == 0x5F)

-- what it goes on with: `$`, ZWNJ and ZWJ besides
unfoldable pub continues_identifier : ℕ → Bool
continues_identifier c = is_xid_continue c || (c == 0x24) || (c == 0x200C) || (c == 0x200D)

-- a decimal digit (12.9.3)
unfoldable pub is_digit : ℕ → Bool
is_digit c = is_ascii_digit c

-- a digit stands here
abbrev pub begins_with_digit : List ℕ → Bool
begins_with_digit [] = false
begins_with_digit (c ∷ cs) = is_digit c

-- this character stands here
abbrev pub begins_with_character : ℕ → List ℕ → Bool
begins_with_character x [] = false
begins_with_character x (c ∷ cs) = c == x
