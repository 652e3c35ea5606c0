use Rattle.js_code.proofs.Programs.{program_stands}
use Rattle.js_code.proofs.code.Code.node.Goals as goal

pub returns-clause-read : goal.returns-clause-read
returns-clause-read c = (program_stands c.self.view_is c.node.ensures.stands).read

pub returns-clause-below : goal.returns-clause-below
returns-clause-below c = (program_stands c.self.view_is c.node.ensures.stands).below

pub returns-clause-scope : goal.returns-clause-scope
returns-clause-scope c = (program_stands c.self.view_is c.node.ensures.stands).scope
