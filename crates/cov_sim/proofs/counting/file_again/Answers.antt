-- The text has a tree that is low enough.
use Rattle.std.proofs.Common.{subst}
use Rattle.js_text.specs.declared.limits.Limits.{Limits}
use Rattle.js_parser.specs.Refused.{Because}
use Rattle.cov_sim.proofs.ReadAgain.{never_refused}
use Rattle.cov_sim.proofs.counting.file_again.Goals as goal

pub unreachable-requires : goal.unreachable-requires
unreachable-requires c =
    let refused = c.in-Err.refused in
    never_refused refused.why c.args.text.now refused.at c.requires.0
    (subst (λ (limits : Limits). Because refused.why c.args.text.now refused.at limits.height) c.again.ensures c.in-Err.ensures.refused) c.in_default.not-Memory c.requires.1 c.requires.2
