-- The things so far, numbered.
use Rattle.std.proofs.Common.{◌≡◌}
use Rattle.std.specs.List.{enumerate_from}
use Rattle.cov_object.proofs.numbered.Numbered.from_vec.Given as goal

abbrev pub invariant-loop-thing : goal.invariant-loop-thing
invariant-loop-thing g l = l.things.items ≡ enumerate_from 0 l.yielded
