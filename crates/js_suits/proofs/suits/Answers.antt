use Rattle.js_suits.proofs.Whole.{readable_suits, accepted_readable, empty_readable, accepted_suits, shifted_numbered, constructs_counted}
use Rattle.js_suits.proofs.Inside.{marks_inside}
use Rattle.js_suits.proofs.This.{names_free}
use Rattle.js_suits.proofs.Silent.{programs_suit, fitted_suits}
use Rattle.js_suits.specs.Settings.{setting_of}
use Rattle.js_suits.proofs.suits.Goals as goal

pub returns-clause-readable : goal.returns-clause-readable
returns-clause-readable c = λ t p. readable_suits c.marks.ensures.constructs (setting_of t) p

pub returns-clause-accepted : goal.returns-clause-accepted
returns-clause-accepted c = accepted_readable

pub returns-clause-empty : goal.returns-clause-empty
returns-clause-empty c = empty_readable

pub returns-clause-whole : goal.returns-clause-whole
returns-clause-whole c = λ t p. accepted_suits c.marks.ensures.constructs (setting_of t) p

pub returns-clause-shifted : goal.returns-clause-shifted
returns-clause-shifted c = λ t p q added. shifted_numbered (setting_of t) p q added

pub returns-clause-constructs : goal.returns-clause-constructs
returns-clause-constructs c = λ t p. constructs_counted (setting_of t) p

pub returns-clause-programs : goal.returns-clause-programs
returns-clause-programs c = programs_suit c.marks.ensures.constructs

pub returns-clause-fitted : goal.returns-clause-fitted
returns-clause-fitted c = fitted_suits c.marks.ensures.constructs

pub returns-clause-inside : goal.returns-clause-inside
returns-clause-inside c = marks_inside

pub returns-clause-this : goal.returns-clause-this
returns-clause-this c = λ t. names_free (setting_of t)
