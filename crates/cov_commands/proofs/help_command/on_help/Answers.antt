-- Want of memory for the line, or the line of a failed write.
use Rattle.cov_commands.proofs.Helped.{write_is_said}
use Rattle.cov_commands.proofs.Stands.{says_at_most}
use Rattle.cov_commands.proofs.help_command.on_help.Goals as goal

pub returns-in-Err-Device-clause-one_line : goal.returns-in-Err-Device-clause-one_line
returns-in-Err-Device-clause-one_line g c = λ told memory. let said = c.complain.ensures.one_line in says_at_most _ told (write_is_said told) said.1 said.2
