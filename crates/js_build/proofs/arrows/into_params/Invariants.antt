use Rattle.std.proofs.Common.{◌≡◌, length}
use Rattle.js_tree.specs.Tree.{plain_exprs, plain_params}
use Rattle.js_reading.specs.Makes.{params_of}
use Rattle.js_build.proofs.ArrowLaws.{with_front}
use Rattle.js_build.proofs.arrows.into_params.Given as goal

abbrev pub invariant-each : goal.invariant-each
invariant-each l = with_front (plain_params l.items) (params_of (plain_exprs l.left)) ≡ params_of (plain_exprs l.fn.list.items)

abbrev pub decreases-each : goal.decreases-each
decreases-each l = length l.left
