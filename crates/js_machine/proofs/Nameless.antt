-- Nodes that have no name.
use Rattle.std.proofs.Common.{◌≡◌, [], refl}
use Rattle.js_code.specs.declared.node.Node.{Node}
use Rattle.js_code.specs.declared.node.Node.TheVariants as node
use Rattle.js_machine.specs.private.Config.{name_of}
use Rattle.js_machine.proofs.NotThese.{NotIdentifierReference, NotThis, NotFunctionExpression, NotNamedMember, NotShorthand, NotNameKey, NotParam, NotLabelled, NotFunctionDeclaration, NotDeclarator, NotTargetDeclaration, NotCatchName}

pub nameless : (n : Node) → NotIdentifierReference n → NotThis n → NotFunctionExpression n → NotNamedMember n → NotShorthand n → NotNameKey n → NotParam n → NotLabelled n → NotFunctionDeclaration n → NotDeclarator n → NotTargetDeclaration n → NotCatchName n → [] ≡ name_of n
nameless (node.IdentifierReference loc name) h _ _ _ _ _ _ _ _ _ _ _ = absurd (h loc name refl)
nameless (node.This loc) _ h _ _ _ _ _ _ _ _ _ _ = absurd (h loc refl)
nameless (node.FunctionExpression loc name function) _ _ h _ _ _ _ _ _ _ _ _ = absurd (h loc name function refl)
nameless (node.NamedMember loc object name) _ _ _ h _ _ _ _ _ _ _ _ = absurd (h loc object name refl)
nameless (node.Shorthand loc name) _ _ _ _ h _ _ _ _ _ _ _ = absurd (h loc name refl)
nameless (node.NameKey name) _ _ _ _ _ h _ _ _ _ _ _ = absurd (h name refl)
nameless (node.Param loc name_loc name default) _ _ _ _ _ _ h _ _ _ _ _ = absurd (h loc name_loc name default refl)
nameless (node.Labelled loc label body) _ _ _ _ _ _ _ h _ _ _ _ = absurd (h loc label body refl)
nameless (node.FunctionDeclaration loc name function) _ _ _ _ _ _ _ _ h _ _ _ = absurd (h loc name function refl)
nameless (node.Declarator loc name_loc name initializer) _ _ _ _ _ _ _ _ _ h _ _ = absurd (h loc name_loc name initializer refl)
nameless (node.TargetDeclaration kind name_loc name) _ _ _ _ _ _ _ _ _ _ h _ = absurd (h kind name_loc name refl)
nameless (node.CatchName name_loc name statements) _ _ _ _ _ _ _ _ _ _ _ h = absurd (h name_loc name statements refl)
nameless _ _ _ _ _ _ _ _ _ _ _ _ _ = refl
