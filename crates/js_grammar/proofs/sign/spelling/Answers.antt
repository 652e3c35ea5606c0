use Rattle.std.proofs.Common.{sym, ap}
use Rattle.js_grammar.specs.View.{spelled}
use Rattle.js_grammar.proofs.sign.spelling.Goals as goal

pub returns-in-Break : goal.returns-in-Break
returns-in-Break c = ap spelled (sym c.in-Break.is)

pub returns-in-Case : goal.returns-in-Case
returns-in-Case c = ap spelled (sym c.in-Case.is)

pub returns-in-Catch : goal.returns-in-Catch
returns-in-Catch c = ap spelled (sym c.in-Catch.is)

pub returns-in-Const : goal.returns-in-Const
returns-in-Const c = ap spelled (sym c.in-Const.is)

pub returns-in-Continue : goal.returns-in-Continue
returns-in-Continue c = ap spelled (sym c.in-Continue.is)

pub returns-in-Debugger : goal.returns-in-Debugger
returns-in-Debugger c = ap spelled (sym c.in-Debugger.is)

pub returns-in-Default : goal.returns-in-Default
returns-in-Default c = ap spelled (sym c.in-Default.is)

pub returns-in-Delete : goal.returns-in-Delete
returns-in-Delete c = ap spelled (sym c.in-Delete.is)

pub returns-in-Do : goal.returns-in-Do
returns-in-Do c = ap spelled (sym c.in-Do.is)

pub returns-in-Else : goal.returns-in-Else
returns-in-Else c = ap spelled (sym c.in-Else.is)

pub returns-in-Finally : goal.returns-in-Finally
returns-in-Finally c = ap spelled (sym c.in-Finally.is)

pub returns-in-For : goal.returns-in-For
returns-in-For c = ap spelled (sym c.in-For.is)

pub returns-in-Function : goal.returns-in-Function
returns-in-Function c = ap spelled (sym c.in-Function.is)

pub returns-in-If : goal.returns-in-If
returns-in-If c = ap spelled (sym c.in-If.is)

pub returns-in-In : goal.returns-in-In
returns-in-In c = ap spelled (sym c.in-In.is)

pub returns-in-InstanceOf : goal.returns-in-InstanceOf
returns-in-InstanceOf c = ap spelled (sym c.in-InstanceOf.is)

pub returns-in-Let : goal.returns-in-Let
returns-in-Let c = ap spelled (sym c.in-Let.is)

pub returns-in-New : goal.returns-in-New
returns-in-New c = ap spelled (sym c.in-New.is)

pub returns-in-Of : goal.returns-in-Of
returns-in-Of c = ap spelled (sym c.in-Of.is)

pub returns-in-Return : goal.returns-in-Return
returns-in-Return c = ap spelled (sym c.in-Return.is)

pub returns-in-Switch : goal.returns-in-Switch
returns-in-Switch c = ap spelled (sym c.in-Switch.is)

pub returns-in-Throw : goal.returns-in-Throw
returns-in-Throw c = ap spelled (sym c.in-Throw.is)

pub returns-in-Try : goal.returns-in-Try
returns-in-Try c = ap spelled (sym c.in-Try.is)

pub returns-in-TypeOf : goal.returns-in-TypeOf
returns-in-TypeOf c = ap spelled (sym c.in-TypeOf.is)

pub returns-in-Var : goal.returns-in-Var
returns-in-Var c = ap spelled (sym c.in-Var.is)

pub returns-in-Void : goal.returns-in-Void
returns-in-Void c = ap spelled (sym c.in-Void.is)

pub returns-in-While : goal.returns-in-While
returns-in-While c = ap spelled (sym c.in-While.is)
