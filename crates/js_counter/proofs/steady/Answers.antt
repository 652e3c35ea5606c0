use Rattle.js_counter.proofs.Calls.{calls_steadily, counts_two, counts_three, holds_ticked}
use Rattle.js_counter.proofs.steady.Goals as goal

pub returns-clause-calls : goal.returns-clause-calls
returns-clause-calls c = calls_steadily

pub returns-clause-two : goal.returns-clause-two
returns-clause-two c = counts_two

pub returns-clause-three : goal.returns-clause-three
returns-clause-three c = counts_three

pub returns-clause-ticked : goal.returns-clause-ticked
returns-clause-ticked c = holds_ticked
