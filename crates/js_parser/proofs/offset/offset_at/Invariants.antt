-- The places that are passed have other positions.
use Rattle.std.proofs.Common.{◌≡◌, length}
use Rattle.std.specs.Str.{chars}
use Rattle.js_text.specs.Lex.{characters_of}
use Rattle.js_parser.proofs.Offsets.{NoneBefore}
use Rattle.js_parser.proofs.offset.offset_at.Given as goal

abbrev pub invariant-places : goal.invariant-places
invariant-places l = (characters_of l.cursor ≡ chars l.fn.text) × NoneBefore (chars l.fn.text) l.fn.position l.cursor

abbrev pub decreases-places : goal.decreases-places
decreases-places l = length l.cursor.after
