-- A form that declares is a function or a lexical one.
use Rattle.std.proofs.Common.{ap, sym, rules, ◌∙◌}
use Rattle.js_reading.specs.declared.form.Form.TheVariants as form
use Rattle.js_reading.specs.Turns.{declares}
use Rattle.js_stack.proofs.start.declares.Goals as goal

pub returns-in-FunctionDeclaration : goal.returns-in-FunctionDeclaration
returns-in-FunctionDeclaration c = sym (ap declares c.in-FunctionDeclaration.is)

pub returns-in-Var : goal.returns-in-Var
returns-in-Var c = sym (ap declares c.in-Variables.is ∙ ap (λ kind. declares (form.Variables kind)) c.in-Var.is)

pub returns-in_default : goal.returns-in_default
returns-in_default c = search rules
