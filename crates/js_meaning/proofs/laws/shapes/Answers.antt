use Rattle.js_meaning.proofs.Shaped.{gets_held, holds_name, blocks_alone, one_alone}
use Rattle.js_meaning.proofs.laws.shapes.Goals as goal

pub returns-clause-name : goal.returns-clause-name
returns-clause-name c = holds_name

pub returns-clause-block : goal.returns-clause-block
returns-clause-block c = blocks_alone

pub returns-clause-one : goal.returns-clause-one
returns-clause-one c = one_alone

pub returns-clause-held : goal.returns-clause-held
returns-clause-held c = gets_held
