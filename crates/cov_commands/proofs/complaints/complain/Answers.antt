-- Where the line takes too much memory, that is said instead.
use Rattle.std.proofs.Common.{inr, refl}
use Rattle.cov_commands.specs.Line.{OutOfMemory}
use Rattle.cov_commands.proofs.complaints.complain.Goals as goal

pub returns-in_default-clause-one_line : goal.returns-in_default-clause-one_line
returns-in_default-clause-one_line g c = (OutOfMemory, inr refl, c.say_out_of_memory.ensures.says)

pub returns-in_default-clause-status : goal.returns-in_default-clause-status
returns-in_default-clause-status g c = inr c.say_out_of_memory.ensures.status

pub returns-in_default-clause-says : goal.returns-in_default-clause-says
returns-in_default-clause-says g c = λ other. absurd (other c.say_out_of_memory.ensures.status)
