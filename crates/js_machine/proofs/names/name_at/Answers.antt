use Rattle.std.proofs.Common.{ap, ◌∙◌}
use Rattle.js_machine.specs.private.Config.{name_of}
use Rattle.js_machine.proofs.Nameless.{nameless}
use Rattle.js_machine.proofs.names.name_at.Goals as goal

pub returns-in_default : goal.returns-in_default
returns-in_default c = c.args.words.now.nameless.is ∙ nameless c.node.result.now c.in_default.not-IdentifierReference c.in_default.not-This c.in_default.not-FunctionExpression c.in_default.not-NamedMember c.in_default.not-Shorthand c.in_default.not-NameKey c.in_default.not-Param c.in_default.not-Labelled c.in_default.not-FunctionDeclaration c.in_default.not-Declarator c.in_default.not-TargetDeclaration c.in_default.not-CatchName ∙ ap name_of c.node.ensures.is
