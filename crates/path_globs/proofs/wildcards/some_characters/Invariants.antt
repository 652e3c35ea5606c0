use Rattle.std.proofs.Common.{◌≡◌, ◌+◌, length}
use denote.Text.{Utf8}
use denote.Shadow.{shadow}
use Rattle.std.specs.Str.{chars}
use Rattle.path_globs.specs.Wildcards.{stand_for, from_some, is_star, stands_for_character}
use Rattle.path_globs.proofs.wildcards.some_characters.Given as goal

-- what is left stands for as much as the whole
abbrev pub invariant-loop-next : goal.invariant-loop-next
invariant-loop-next l = shadow (Utf8 l.after) × shadow (Utf8 l.from)
    × (from_some (stand_for is_star stands_for_character (chars l.after)) (chars l.from)
    ≡ from_some (stand_for is_star stands_for_character (chars l.pattern)) (chars l.text))

abbrev pub decreases-loop-next : goal.decreases-loop-next
decreases-loop-next l = length (chars l.after) + length (chars l.from)
