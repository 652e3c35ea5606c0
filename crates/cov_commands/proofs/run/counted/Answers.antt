-- Of accepted sources none is refused.
use Rattle.std.proofs.Common.{subst}
use Rattle.cov_run.specs.Session.{IsFault}
use Rattle.cov_commands.proofs.run.counted.Goals as goal

pub unreachable-requires : goal.unreachable-requires
unreachable-requires c =
    c.requires.accepted c.in-Err-Refused.field-0-0 c.in-Err-Refused.field-0-1
    (subst (IsFault c.args.sources.now.items c.args.turns) c.in-Err-Refused.field-0-is c.in-Err-Refused.ensures.fault)
