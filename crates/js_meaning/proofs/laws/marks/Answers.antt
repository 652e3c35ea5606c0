use Rattle.js_tree.proofs.Unmarked.{unmarks_linked}
use Rattle.js_meaning.proofs.Numbered.{names_functions}
use Rattle.js_meaning.proofs.Constructed.{marks_constructs, marks_enter}
use Rattle.js_meaning.proofs.Once.{marks_once, marks_each}
use Rattle.js_meaning.proofs.laws.marks.Goals as goal

pub returns-clause-unmarked : goal.returns-clause-unmarked
returns-clause-unmarked c = unmarks_linked

pub returns-clause-functions : goal.returns-clause-functions
returns-clause-functions c = names_functions

pub returns-clause-once : goal.returns-clause-once
returns-clause-once c = marks_once

pub returns-clause-entered : goal.returns-clause-entered
returns-clause-entered c = marks_enter

pub returns-clause-constructs : goal.returns-clause-constructs
returns-clause-constructs c = marks_constructs

pub returns-clause-each : goal.returns-clause-each
returns-clause-each c = marks_each
