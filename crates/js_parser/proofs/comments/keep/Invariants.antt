-- The comments that came are kept.
use Rattle.std.proofs.Common.{◌≡◌, ◌++◌}
use Rattle.js_parser.proofs.comments.keep.Given as goal

abbrev pub invariant-loop-comment : goal.invariant-loop-comment
invariant-loop-comment l = l.kept ≡ l.initial.kept ++ l.yielded
