-- That a node is none of a kind.
use Rattle.std.proofs.Common.{◌≡◌, ℕ, Bool, List, Option}
use Rattle.js_terms.specs.declared.place.Loc.{Loc}
use Rattle.js_terms.specs.declared.words.Identifier.{Identifier}
use Rattle.js_terms.specs.declared.operators.AssignmentOperator.{AssignmentOperator}
use Rattle.js_terms.specs.declared.operators.BinaryOperator.{BinaryOperator}
use Rattle.js_terms.specs.declared.operators.LogicalOperator.{LogicalOperator}
use Rattle.js_terms.specs.declared.operators.UnaryOperator.{UnaryOperator}
use Rattle.js_terms.specs.declared.operators.UpdateOperator.{UpdateOperator}
use Rattle.js_terms.specs.declared.operators.VariableKind.{VariableKind}
use Rattle.js_value.specs.State.{Binding}
use Rattle.js_code.specs.declared.literal.StringValue.{StringValue}
use Rattle.js_code.specs.declared.node.ListKind.{ListKind}
use Rattle.js_code.specs.declared.node.Node.{Node}
use Rattle.js_code.specs.declared.node.Node.TheVariants as node
use Rattle.js_code.specs.declared.scopes.BlockScope.{BlockScope}
use Rattle.js_code.specs.declared.scopes.BodyScope.{BodyScope}

abbrev pub NotMissing : Node → Type 0
NotMissing n = n ≡ node.Missing → ⊥

abbrev pub NotMore : ListKind → Node → Type 0
NotMore kind n = (first rest : ℕ) → n ≡ node.More kind first rest → ⊥

abbrev pub NotIdentifierReference : Node → Type 0
NotIdentifierReference n = (loc : Option Loc) (name : List ℕ) → n ≡ node.IdentifierReference loc name → ⊥

abbrev pub NotThis : Node → Type 0
NotThis n = (loc : Option Loc) → n ≡ node.This loc → ⊥

abbrev pub NotNullLiteral : Node → Type 0
NotNullLiteral n = (loc : Option Loc) → n ≡ node.NullLiteral loc → ⊥

abbrev pub NotBooleanLiteral : Node → Type 0
NotBooleanLiteral n = (loc : Option Loc) (value : Bool) → n ≡ node.BooleanLiteral loc value → ⊥

abbrev pub NotNumericLiteral : Node → Type 0
NotNumericLiteral n = (loc : Option Loc) (numeral : List ℕ) → n ≡ node.NumericLiteral loc numeral → ⊥

abbrev pub NotStringLiteral : Node → Type 0
NotStringLiteral n = (loc : Option Loc) (literal : StringValue) → n ≡ node.StringLiteral loc literal → ⊥

abbrev pub NotArrayLiteral : Node → Type 0
NotArrayLiteral n = (loc : Option Loc) (items : ℕ) → n ≡ node.ArrayLiteral loc items → ⊥

abbrev pub NotObjectLiteral : Node → Type 0
NotObjectLiteral n = (loc : Option Loc) (properties : ℕ) → n ≡ node.ObjectLiteral loc properties → ⊥

abbrev pub NotFunctionExpression : Node → Type 0
NotFunctionExpression n = (loc : Option Loc) (name : Option Identifier) (function : ℕ) → n ≡ node.FunctionExpression loc name function → ⊥

abbrev pub NotArrowFunction : Node → Type 0
NotArrowFunction n = (loc : Option Loc) (function : ℕ) → n ≡ node.ArrowFunction loc function → ⊥

abbrev pub NotRegularExpressionLiteral : Node → Type 0
NotRegularExpressionLiteral n = (loc : Option Loc) (pattern : List ℕ) (flags : List ℕ) → n ≡ node.RegularExpressionLiteral loc pattern flags → ⊥

abbrev pub NotTemplateLiteral : Node → Type 0
NotTemplateLiteral n = (loc : Option Loc) (text : StringValue) (parts : ℕ) → n ≡ node.TemplateLiteral loc text parts → ⊥

abbrev pub NotParenthesized : Node → Type 0
NotParenthesized n = (loc : Option Loc) (inner : ℕ) → n ≡ node.Parenthesized loc inner → ⊥

abbrev pub NotNamedMember : Node → Type 0
NotNamedMember n = (loc : Option Loc) (object : ℕ) (name : List ℕ) → n ≡ node.NamedMember loc object name → ⊥

abbrev pub NotComputedMember : Node → Type 0
NotComputedMember n = (loc : Option Loc) (object : ℕ) (key : ℕ) → n ≡ node.ComputedMember loc object key → ⊥

abbrev pub NotNew : Node → Type 0
NotNew n = (loc : Option Loc) (constructor : ℕ) (arguments : ℕ) → n ≡ node.New loc constructor arguments → ⊥

abbrev pub NotCall : Node → Type 0
NotCall n = (loc : Option Loc) (callee : ℕ) (arguments : ℕ) → n ≡ node.Call loc callee arguments → ⊥

abbrev pub NotPostfixUpdate : Node → Type 0
NotPostfixUpdate n = (loc : Option Loc) (operator : UpdateOperator) (target : ℕ) → n ≡ node.PostfixUpdate loc operator target → ⊥

abbrev pub NotPrefixUpdate : Node → Type 0
NotPrefixUpdate n = (loc : Option Loc) (operator : UpdateOperator) (target : ℕ) → n ≡ node.PrefixUpdate loc operator target → ⊥

abbrev pub NotUnary : Node → Type 0
NotUnary n = (loc : Option Loc) (operator : UnaryOperator) (operand : ℕ) → n ≡ node.Unary loc operator operand → ⊥

abbrev pub NotBinary : Node → Type 0
NotBinary n = (loc : Option Loc) (operator : BinaryOperator) (left : ℕ) (right : ℕ) → n ≡ node.Binary loc operator left right → ⊥

abbrev pub NotLogical : Node → Type 0
NotLogical n = (loc : Option Loc) (operator : LogicalOperator) (left : ℕ) (right : ℕ) → n ≡ node.Logical loc operator left right → ⊥

abbrev pub NotConditional : Node → Type 0
NotConditional n = (loc : Option Loc) (test : ℕ) (holds : ℕ) (fails : ℕ) → n ≡ node.Conditional loc test holds fails → ⊥

abbrev pub NotAssignment : Node → Type 0
NotAssignment n = (loc : Option Loc) (operator : AssignmentOperator) (target : ℕ) (value : ℕ) → n ≡ node.Assignment loc operator target value → ⊥

abbrev pub NotComma : Node → Type 0
NotComma n = (loc : Option Loc) (left : ℕ) (right : ℕ) → n ≡ node.Comma loc left right → ⊥

abbrev pub NotTemplatePart : Node → Type 0
NotTemplatePart n = (value : ℕ) (text : StringValue) → n ≡ node.TemplatePart value text → ⊥

abbrev pub NotShorthand : Node → Type 0
NotShorthand n = (loc : Option Loc) (name : List ℕ) → n ≡ node.Shorthand loc name → ⊥

abbrev pub NotKeyValue : Node → Type 0
NotKeyValue n = (loc : Option Loc) (key : ℕ) (value : ℕ) → n ≡ node.KeyValue loc key value → ⊥

abbrev pub NotMethod : Node → Type 0
NotMethod n = (loc : Option Loc) (key : ℕ) (function : ℕ) → n ≡ node.Method loc key function → ⊥

abbrev pub NotNameKey : Node → Type 0
NotNameKey n = (name : List ℕ) → n ≡ node.NameKey name → ⊥

abbrev pub NotStringKey : Node → Type 0
NotStringKey n = (literal : StringValue) → n ≡ node.StringKey literal → ⊥

abbrev pub NotNumberKey : Node → Type 0
NotNumberKey n = (numeral : List ℕ) → n ≡ node.NumberKey numeral → ⊥

abbrev pub NotComputedKey : Node → Type 0
NotComputedKey n = (value : ℕ) → n ≡ node.ComputedKey value → ⊥

abbrev pub NotFunction : Node → Type 0
NotFunction n = (is_method : Bool) (number : ℕ) (length : ℕ) (scope : BodyScope) (params : ℕ) (body_loc : Option Loc) (body : ℕ) → n ≡ node.Function is_method number length scope params body_loc body → ⊥

abbrev pub NotArrowExpression : Node → Type 0
NotArrowExpression n = (number : ℕ) (length : ℕ) (scope : BodyScope) (params : ℕ) (value : ℕ) → n ≡ node.ArrowExpression number length scope params value → ⊥

abbrev pub NotArrowBlock : Node → Type 0
NotArrowBlock n = (number : ℕ) (length : ℕ) (scope : BodyScope) (params : ℕ) (body_loc : Option Loc) (body : ℕ) → n ≡ node.ArrowBlock number length scope params body_loc body → ⊥

abbrev pub NotParam : Node → Type 0
NotParam n = (loc : Option Loc) (name_loc : Option Loc) (name : List ℕ) (default : ℕ) → n ≡ node.Param loc name_loc name default → ⊥

abbrev pub NotBlock : Node → Type 0
NotBlock n = (loc : Option Loc) (statements : ℕ) → n ≡ node.Block loc statements → ⊥

abbrev pub NotVariableDeclaration : Node → Type 0
NotVariableDeclaration n = (loc : Option Loc) (kind : VariableKind) (declarators : ℕ) → n ≡ node.VariableDeclaration loc kind declarators → ⊥

abbrev pub NotExpression : Node → Type 0
NotExpression n = (loc : Option Loc) (expression : ℕ) → n ≡ node.Expression loc expression → ⊥

abbrev pub NotIf : Node → Type 0
NotIf n = (loc : Option Loc) (test : ℕ) (holds : ℕ) (fails : ℕ) → n ≡ node.If loc test holds fails → ⊥

abbrev pub NotDoWhile : Node → Type 0
NotDoWhile n = (loc : Option Loc) (body : ℕ) (test : ℕ) → n ≡ node.DoWhile loc body test → ⊥

abbrev pub NotWhile : Node → Type 0
NotWhile n = (loc : Option Loc) (test : ℕ) (body : ℕ) → n ≡ node.While loc test body → ⊥

abbrev pub NotFor : Node → Type 0
NotFor n = (loc : Option Loc) (init : ℕ) (test : ℕ) (update : ℕ) (body : ℕ) → n ≡ node.For loc init test update body → ⊥

abbrev pub NotForIn : Node → Type 0
NotForIn n = (loc : Option Loc) (target : ℕ) (object : ℕ) (body : ℕ) → n ≡ node.ForIn loc target object body → ⊥

abbrev pub NotForOf : Node → Type 0
NotForOf n = (loc : Option Loc) (target : ℕ) (iterable : ℕ) (body : ℕ) → n ≡ node.ForOf loc target iterable body → ⊥

abbrev pub NotContinue : Node → Type 0
NotContinue n = (loc : Option Loc) (label : Option Identifier) → n ≡ node.Continue loc label → ⊥

abbrev pub NotBreak : Node → Type 0
NotBreak n = (loc : Option Loc) (label : Option Identifier) → n ≡ node.Break loc label → ⊥

abbrev pub NotReturn : Node → Type 0
NotReturn n = (loc : Option Loc) (value : ℕ) → n ≡ node.Return loc value → ⊥

abbrev pub NotSwitch : Node → Type 0
NotSwitch n = (loc : Option Loc) (value : ℕ) (cases : ℕ) → n ≡ node.Switch loc value cases → ⊥

abbrev pub NotLabelled : Node → Type 0
NotLabelled n = (loc : Option Loc) (label : Identifier) (body : ℕ) → n ≡ node.Labelled loc label body → ⊥

abbrev pub NotThrow : Node → Type 0
NotThrow n = (loc : Option Loc) (value : ℕ) → n ≡ node.Throw loc value → ⊥

abbrev pub NotTryCatch : Node → Type 0
NotTryCatch n = (loc : Option Loc) (block : ℕ) (catch : ℕ) → n ≡ node.TryCatch loc block catch → ⊥

abbrev pub NotTryFinally : Node → Type 0
NotTryFinally n = (loc : Option Loc) (block : ℕ) (last : ℕ) → n ≡ node.TryFinally loc block last → ⊥

abbrev pub NotTryCatchFinally : Node → Type 0
NotTryCatchFinally n = (loc : Option Loc) (block : ℕ) (catch : ℕ) (last : ℕ) → n ≡ node.TryCatchFinally loc block catch last → ⊥

abbrev pub NotDeclarator : Node → Type 0
NotDeclarator n = (loc : Option Loc) (name_loc : Option Loc) (name : List ℕ) (initializer : ℕ) → n ≡ node.Declarator loc name_loc name initializer → ⊥

abbrev pub NotInitDeclaration : Node → Type 0
NotInitDeclaration n = (kind : VariableKind) (names : List Binding) (fresh : Bool) (declarators : ℕ) → n ≡ node.InitDeclaration kind names fresh declarators → ⊥

abbrev pub NotInitExpression : Node → Type 0
NotInitExpression n = (expression : ℕ) → n ≡ node.InitExpression expression → ⊥

abbrev pub NotTargetDeclaration : Node → Type 0
NotTargetDeclaration n = (kind : VariableKind) (name_loc : Option Loc) (name : List ℕ) → n ≡ node.TargetDeclaration kind name_loc name → ⊥

abbrev pub NotTargetExpression : Node → Type 0
NotTargetExpression n = (expression : ℕ) → n ≡ node.TargetExpression expression → ⊥

abbrev pub NotCase : Node → Type 0
NotCase n = (loc : Option Loc) (test : ℕ) (statements : ℕ) → n ≡ node.Case loc test statements → ⊥

abbrev pub NotCatch : Node → Type 0
NotCatch n = (statements : ℕ) → n ≡ node.Catch statements → ⊥

abbrev pub NotCatchName : Node → Type 0
NotCatchName n = (name_loc : Option Loc) (name : List ℕ) (statements : ℕ) → n ≡ node.CatchName name_loc name statements → ⊥

abbrev pub NotScope : Node → Type 0
NotScope n = (scope : BlockScope) (statements : ℕ) → n ≡ node.Scope scope statements → ⊥

abbrev pub NotCaseScope : Node → Type 0
NotCaseScope n = (scope : BlockScope) (cases : ℕ) → n ≡ node.CaseScope scope cases → ⊥

abbrev pub NotFunctionDeclaration : Node → Type 0
NotFunctionDeclaration n = (loc : Option Loc) (name : Identifier) (function : ℕ) → n ≡ node.FunctionDeclaration loc name function → ⊥
