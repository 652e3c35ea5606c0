use Rattle.js_meaning.proofs.Read.{follows, turns_by_step, turns_again, chooses_arm}
use Rattle.js_meaning.proofs.laws.forms.Goals as goal

pub returns-clause-follows : goal.returns-clause-follows
returns-clause-follows c = follows

pub returns-clause-test : goal.returns-clause-test
returns-clause-test c = turns_by_step

pub returns-clause-turn : goal.returns-clause-turn
returns-clause-turn c = turns_again

pub returns-clause-arm : goal.returns-clause-arm
returns-clause-arm c = chooses_arm
