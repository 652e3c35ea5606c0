use Rattle.std.proofs.Common.{◌≡◌, drop}
use Rattle.std.specs.Str.{chars}
use Rattle.js_text.specs.Punctuator.{begins_with}
use Rattle.js_lexer.proofs.longest.begins.Given as goal

-- the characters that are left begin the rest exactly where all of them begin the text
abbrev pub invariant-loop-character : goal.invariant-loop-character
invariant-loop-character l = begins_with (drop l.character-index l.characters) l.cursor.after ≡ begins_with l.characters (chars l.text)
