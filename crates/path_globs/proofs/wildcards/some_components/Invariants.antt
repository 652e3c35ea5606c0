use Rattle.std.proofs.Common.{◌≡◌, ◌+◌, length}
use Rattle.path_globs.specs.private.Search.{components_left}
use Rattle.path_globs.specs.Wildcards.{stand_for, from_some, is_two_stars, stands_for_component}
use Rattle.path_globs.proofs.wildcards.some_components.Given as goal

-- what is left stands for as much as the whole
abbrev pub invariant-loop-next : goal.invariant-loop-next
invariant-loop-next l = (from_some (stand_for is_two_stars stands_for_component (components_left l.after)) (components_left l.from)
    ≡ from_some (stand_for is_two_stars stands_for_component (components_left l.pattern)) (components_left l.path))

abbrev pub decreases-loop-next : goal.decreases-loop-next
decreases-loop-next l = length (components_left l.after) + length (components_left l.from)
