-- The parts that are left end where all do.
use Rattle.std.proofs.Common.{◌≡◌, length}
use Rattle.js_build.specs.View.{plain_pieces}
use Rattle.js_stack.specs.Objects.{ends}
use Rattle.js_stack.specs.declared.objects.Awaits.TheVariants as awaits
use Rattle.js_stack.proofs.objects.is_object.Given as goal

abbrev pub invariant-loop-left : goal.invariant-loop-left
invariant-loop-left l = ends l.awaits (plain_pieces l.left) ≡ ends awaits.Key (plain_pieces l.parts)

abbrev pub decreases-loop-left : goal.decreases-loop-left
decreases-loop-left l = length l.left
