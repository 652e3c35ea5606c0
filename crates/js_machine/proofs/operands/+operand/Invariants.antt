-- Each part of an operand has fewer parts inside each other.
use Rattle.js_machine.proofs.operands.+operand.Given as goal

abbrev pub decreases-operand : goal.decreases-operand
decreases-operand l = l.levels
