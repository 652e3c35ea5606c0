-- What was read stands somewhere.
use Rattle.cov_commands.proofs.Placed.{placed}
use Rattle.cov_commands.proofs.maps.printed_for.Goals as goal

pub text_for-requires : goal.text_for-requires
text_for-requires c = placed c.requires c.in_ok-list.ensures
