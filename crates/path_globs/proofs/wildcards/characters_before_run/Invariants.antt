use Rattle.std.proofs.Common.{length}
use denote.Text.{Utf8}
use denote.Shadow.{shadow}
use Rattle.std.specs.Str.{chars}
use Rattle.path_globs.specs.Wildcards.{is_star, stands_for_character}
use Rattle.path_globs.specs.private.Search.{Past}
use Rattle.path_globs.proofs.wildcards.characters_before_run.Given as goal

-- the pieces so far stand for one item each
abbrev pub invariant-loop-after : goal.invariant-loop-after
invariant-loop-after l = shadow (Utf8 l.pieces) × shadow (Utf8 l.rest)
    × Past is_star stands_for_character (chars l.pieces) (chars l.rest) (chars l.pattern) (chars l.text)

abbrev pub decreases-loop-after : goal.decreases-loop-after
decreases-loop-after l = length (chars l.rest)
