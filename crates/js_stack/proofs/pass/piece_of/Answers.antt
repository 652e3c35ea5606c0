-- What a branch leaves is told by its marker.
use Rattle.std.proofs.Common.{ap, sym}
use Rattle.js_grammar.specs.View.{plain_marker}
use Rattle.js_stack.proofs.pass.piece_of.Goals as goal

pub returns-in-Missing : goal.returns-in-Missing
returns-in-Missing c = sym (ap plain_marker c.in-Missing.is)

pub returns-in-Computed : goal.returns-in-Computed
returns-in-Computed c = sym (ap plain_marker c.in-Computed.is)

pub returns-in-Method : goal.returns-in-Method
returns-in-Method c = sym (ap plain_marker c.in-Method.is)

pub returns-in-In : goal.returns-in-In
returns-in-In c = sym (ap plain_marker c.in-In.is)

pub returns-in-Of : goal.returns-in-Of
returns-in-Of c = sym (ap plain_marker c.in-Of.is)

pub returns-in-Kind : goal.returns-in-Kind
returns-in-Kind c = sym (ap plain_marker c.in-Kind.is)
