use Rattle.std.proofs.Common.{length}
use Rattle.path_globs.specs.private.Search.{components_left}
use Rattle.path_globs.specs.Wildcards.{is_two_stars, stands_for_component}
use Rattle.path_globs.specs.private.Search.{Past}
use Rattle.path_globs.proofs.wildcards.components_before_run.Given as goal

-- the pieces so far stand for one item each
abbrev pub invariant-loop-after : goal.invariant-loop-after
invariant-loop-after l = Past is_two_stars stands_for_component (components_left l.pieces) (components_left l.rest) (components_left l.pattern) (components_left l.path)

abbrev pub decreases-loop-after : goal.decreases-loop-after
decreases-loop-after l = length (components_left l.rest)
