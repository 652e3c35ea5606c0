-- What each form makes of parts that were compiled, and of words that were copied.
use Rattle.std.proofs.Common.{◌≡◌, ℕ, List, Bool, Option, Some, refl, sym, ap, subst, ◌∙◌}
use Rattle.js_tree.specs.Plain as P
use Rattle.js_tree.specs.Codes as codes
use Rattle.js_tree.specs.Linked as linked
use Rattle.js_tree.specs.Linked.{Unmarked}
use Rattle.js_terms.specs.declared.place.Loc.{Loc}
use Rattle.js_terms.specs.declared.words.Identifier.{Identifier}
use Rattle.js_terms.specs.declared.words.Spelled.{Spelled}
use Rattle.js_terms.specs.declared.operators.AssignmentOperator.{AssignmentOperator}
use Rattle.js_terms.specs.declared.operators.BinaryOperator.{BinaryOperator}
use Rattle.js_terms.specs.declared.operators.UnaryOperator.{UnaryOperator}
use Rattle.js_terms.specs.declared.operators.UpdateOperator.{UpdateOperator}
use Rattle.js_terms.specs.declared.operators.VariableKind.{VariableKind}
use Rattle.js_code.specs.declared.literal.StringValue.{StringValue}
use Rattle.js_code.specs.declared.node.Node.TheVariants as node
use Rattle.js_code.specs.Literal.{spelled_of}
use Rattle.js_code.specs.Part.{AnExpr, AStmt, AProperty, APropertyKey, ATemplatePart, AParam, ADeclarator, ACase, ACatch, AForInit, AForTarget, AScope, ACaseScope, SomeExprs, SomeStmts, SomeProperties, SomeTemplateParts, SomeDeclarators, as_expr, as_stmt, as_property_key, as_code, as_catch, as_for_init, as_for_target, as_exprs, as_stmts, as_properties, as_template_parts, as_declarators, as_scope, as_case_scope, as_expr_if, as_stmt_if}
use Rattle.js_code.specs.Node.{function_of}
use Rattle.js_code.specs.private.Push.{Compiling}
use Rattle.js_code.specs.private.Compiled.{Pushed, built, Compiled, expr_or, stmt_or, an_ordinary, CompilesCase, CompilesCaseScope, CompilesCatch, CompilesDeclarator, CompilesDeclarators, CompilesExpr, CompilesExprIf, CompilesExprs, CompilesForInit, CompilesForTarget, CompilesFunction, CompilesParam, CompilesProperties, CompilesProperty, CompilesPropertyKey, CompilesScope, CompilesStmt, CompilesStmtIf, CompilesStmts, CompilesTemplatePart, CompilesTemplateParts}
use Rattle.js_code.proofs.Made.{leaf, one, two_parts, three_parts, four_parts, compiled_as}

expr_or_back : (e : P.MaybeExpr) → as_expr_if (expr_or e) ≡ e
expr_or_back P.none_expr = refl
expr_or_back (P.some_expr e) = refl

stmt_or_back : (x : P.MaybeStmt) → as_stmt_if (stmt_or x) ≡ x
stmt_or_back P.none_stmt = refl
stmt_or_back (P.some_stmt x) = refl
stmt_or_back (P.entered_none mark) = refl

param_linked : (loc : Option Loc) (pattern : P.Pattern) (e : P.MaybeExpr) (k : linked.Numbers) → linked.link_param Unmarked (P.MakeParam loc pattern e) k ≡ linked.made (P.MakeParam loc pattern) (linked.link_expr_if Unmarked e k)
param_linked loc pattern P.none_expr k = refl
param_linked loc pattern (P.some_expr e) k = refl

declarator_linked : (loc : Option Loc) (pattern : P.Pattern) (e : P.MaybeExpr) (k : linked.Numbers) →
    linked.link_declarator Unmarked (P.MakeDeclarator loc pattern e) k ≡ linked.made (P.MakeDeclarator loc pattern) (linked.link_expr_if Unmarked e k)
declarator_linked loc pattern P.none_expr k = refl
declarator_linked loc pattern (P.some_expr e) k = refl

pub identifier_reference_made : (s0 s1 : Compiling) {loc : Option Loc} {name : List ℕ} {name' : List ℕ} {e : P.Expr} {place : ℕ} → name ≡ name' →
    Pushed s0 s1 place (built (node.IdentifierReference loc name)) → e ≡ P.IdentifierReference loc name' → CompilesExpr s0 s1 place e
identifier_reference_made s0 s1 {loc = loc} {name = name} {name' = name'} {e = e} {place = place} e0 p is = record {
  compiled = λ chain. let Q : P.Expr → Type 0 = λ e. Compiled AnExpr codes.functions_expr s0 s1 place (linked.link_expr Unmarked chain e) in subst Q (sym is)
      (leaf AnExpr codes.functions_expr s0 s1 place (built (node.IdentifierReference loc name)) p (P.IdentifierReference loc name') (λ t. ap (λ p. AnExpr (P.IdentifierReference loc p)) e0) refl);
}

pub this_made : (s0 s1 : Compiling) {loc : Option Loc} {e : P.Expr} {place : ℕ} →
    Pushed s0 s1 place (built (node.This loc)) → e ≡ P.This loc → CompilesExpr s0 s1 place e
this_made s0 s1 {loc = loc} {e = e} {place = place} p is = record {
  compiled = λ chain. let Q : P.Expr → Type 0 = λ e. Compiled AnExpr codes.functions_expr s0 s1 place (linked.link_expr Unmarked chain e) in subst Q (sym is)
      (leaf AnExpr codes.functions_expr s0 s1 place (built (node.This loc)) p (P.This loc) (λ t. refl) refl);
}

pub null_literal_made : (s0 s1 : Compiling) {loc : Option Loc} {e : P.Expr} {place : ℕ} →
    Pushed s0 s1 place (built (node.NullLiteral loc)) → e ≡ P.NullLiteral loc → CompilesExpr s0 s1 place e
null_literal_made s0 s1 {loc = loc} {e = e} {place = place} p is = record {
  compiled = λ chain. let Q : P.Expr → Type 0 = λ e. Compiled AnExpr codes.functions_expr s0 s1 place (linked.link_expr Unmarked chain e) in subst Q (sym is)
      (leaf AnExpr codes.functions_expr s0 s1 place (built (node.NullLiteral loc)) p (P.NullLiteral loc) (λ t. refl) refl);
}

pub boolean_literal_made : (s0 s1 : Compiling) {loc : Option Loc} {value : Bool} {e : P.Expr} {place : ℕ} →
    Pushed s0 s1 place (built (node.BooleanLiteral loc value)) → e ≡ P.BooleanLiteral loc value → CompilesExpr s0 s1 place e
boolean_literal_made s0 s1 {loc = loc} {value = value} {e = e} {place = place} p is = record {
  compiled = λ chain. let Q : P.Expr → Type 0 = λ e. Compiled AnExpr codes.functions_expr s0 s1 place (linked.link_expr Unmarked chain e) in subst Q (sym is)
      (leaf AnExpr codes.functions_expr s0 s1 place (built (node.BooleanLiteral loc value)) p (P.BooleanLiteral loc value) (λ t. refl) refl);
}

pub numeric_literal_made : (s0 s1 : Compiling) {loc : Option Loc} {numeral : List ℕ} {numeral' : List ℕ} {e : P.Expr} {place : ℕ} → numeral ≡ numeral' →
    Pushed s0 s1 place (built (node.NumericLiteral loc numeral)) → e ≡ P.NumericLiteral loc numeral' → CompilesExpr s0 s1 place e
numeric_literal_made s0 s1 {loc = loc} {numeral = numeral} {numeral' = numeral'} {e = e} {place = place} e0 p is = record {
  compiled = λ chain. let Q : P.Expr → Type 0 = λ e. Compiled AnExpr codes.functions_expr s0 s1 place (linked.link_expr Unmarked chain e) in subst Q (sym is)
      (leaf AnExpr codes.functions_expr s0 s1 place (built (node.NumericLiteral loc numeral)) p (P.NumericLiteral loc numeral') (λ t. ap (λ p. AnExpr (P.NumericLiteral loc p)) e0) refl);
}

pub string_literal_made : (s0 s1 : Compiling) {loc : Option Loc} {literal : StringValue} {literal' : Spelled} {e : P.Expr} {place : ℕ} → spelled_of literal ≡ literal' →
    Pushed s0 s1 place (built (node.StringLiteral loc literal)) → e ≡ P.StringLiteral loc literal' → CompilesExpr s0 s1 place e
string_literal_made s0 s1 {loc = loc} {literal = literal} {literal' = literal'} {e = e} {place = place} e0 p is = record {
  compiled = λ chain. let Q : P.Expr → Type 0 = λ e. Compiled AnExpr codes.functions_expr s0 s1 place (linked.link_expr Unmarked chain e) in subst Q (sym is)
      (leaf AnExpr codes.functions_expr s0 s1 place (built (node.StringLiteral loc literal)) p (P.StringLiteral loc literal') (λ t. ap (λ p. AnExpr (P.StringLiteral loc p)) e0) refl);
}

pub array_literal_made : (s2 : Compiling) {s0 s1 : Compiling} {loc : Option Loc} {items : ℕ} {items' : P.Exprs} {e : P.Expr} {place : ℕ} → CompilesExprs s0 s1 items items' →
    Pushed s1 s2 place (built (node.ArrayLiteral loc items)) → e ≡ P.ArrayLiteral loc items' → CompilesExpr s0 s2 place e
array_literal_made s2 {s0 = s0} {s1 = s1} {loc = loc} {items = items} {items' = items'} {e = e} {place = place} h0 p is = record {
  compiled = λ chain. let Q : P.Expr → Type 0 = λ e. Compiled AnExpr codes.functions_expr s0 s2 place (linked.link_expr Unmarked chain e) in subst Q (sym is)
      (one SomeExprs AnExpr codes.functions_exprs codes.functions_expr s0 s1 s2 items place (built (node.ArrayLiteral loc items)) (linked.link_exprs Unmarked items')
      h0.compiled p (λ items'. P.ArrayLiteral loc items')
      (λ t items' r0. ap (λ p. AnExpr (P.ArrayLiteral loc (as_exprs p))) r0) (λ k. refl));
}

pub object_literal_made : (s2 : Compiling) {s0 s1 : Compiling} {loc : Option Loc} {properties : ℕ} {properties' : P.Properties} {e : P.Expr} {place : ℕ} → CompilesProperties s0 s1 properties properties' →
    Pushed s1 s2 place (built (node.ObjectLiteral loc properties)) → e ≡ P.ObjectLiteral loc properties' → CompilesExpr s0 s2 place e
object_literal_made s2 {s0 = s0} {s1 = s1} {loc = loc} {properties = properties} {properties' = properties'} {e = e} {place = place} h0 p is = record {
  compiled = λ chain. let Q : P.Expr → Type 0 = λ e. Compiled AnExpr codes.functions_expr s0 s2 place (linked.link_expr Unmarked chain e) in subst Q (sym is)
      (one SomeProperties AnExpr codes.functions_properties codes.functions_expr s0 s1 s2 properties place (built (node.ObjectLiteral loc properties)) (linked.link_properties Unmarked properties')
      h0.compiled p (λ properties'. P.ObjectLiteral loc properties')
      (λ t properties' r0. ap (λ p. AnExpr (P.ObjectLiteral loc (as_properties p))) r0) (λ k. refl));
}

pub function_expression_made : (s2 : Compiling) {s0 s1 : Compiling} {loc : Option Loc} {name : Option Identifier} {function : ℕ} {function' : P.Function} {name' : Option Identifier} {e : P.Expr} {place : ℕ} → CompilesFunction s0 s1 function function' → name ≡ name' →
    Pushed s1 s2 place (built (node.FunctionExpression loc name function)) → e ≡ P.FunctionExpression loc name' function' → CompilesExpr s0 s2 place e
function_expression_made s2 {s0 = s0} {s1 = s1} {loc = loc} {name = name} {function = function} {function' = function'} {name' = name'} {e = e} {place = place} h0 e0 p is = record {
  compiled = λ chain. let Q : P.Expr → Type 0 = λ e. Compiled AnExpr codes.functions_expr s0 s2 place (linked.link_expr Unmarked chain e) in subst Q (sym is)
      (one an_ordinary AnExpr codes.functions_function codes.functions_expr s0 s1 s2 function place (built (node.FunctionExpression loc name function)) (linked.link_function Unmarked loc name' function')
      (h0.compiled loc name') p (λ function'. P.FunctionExpression loc name' function')
      (λ t function' r0. ap (λ p. AnExpr (P.FunctionExpression loc name (function_of (as_code p)))) r0 ∙ ap (λ p. AnExpr (P.FunctionExpression loc p function')) e0) (λ k. refl));
}

pub regular_expression_literal_made : (s0 s1 : Compiling) {loc : Option Loc} {pattern : List ℕ} {flags : List ℕ} {pattern' : List ℕ} {flags' : List ℕ} {e : P.Expr} {place : ℕ} → pattern ≡ pattern' → flags ≡ flags' →
    Pushed s0 s1 place (built (node.RegularExpressionLiteral loc pattern flags)) → e ≡ P.RegularExpressionLiteral loc pattern' flags' → CompilesExpr s0 s1 place e
regular_expression_literal_made s0 s1 {loc = loc} {pattern = pattern} {flags = flags} {pattern' = pattern'} {flags' = flags'} {e = e} {place = place} e0 e1 p is = record {
  compiled = λ chain. let Q : P.Expr → Type 0 = λ e. Compiled AnExpr codes.functions_expr s0 s1 place (linked.link_expr Unmarked chain e) in subst Q (sym is)
      (leaf AnExpr codes.functions_expr s0 s1 place (built (node.RegularExpressionLiteral loc pattern flags)) p (P.RegularExpressionLiteral loc pattern' flags') (λ t. ap (λ p. AnExpr (P.RegularExpressionLiteral loc p flags)) e0 ∙ ap (λ p. AnExpr (P.RegularExpressionLiteral loc pattern' p)) e1) refl);
}

pub template_literal_made : (s2 : Compiling) {s0 s1 : Compiling} {loc : Option Loc} {text : StringValue} {parts : ℕ} {parts' : P.TemplateParts} {text' : Spelled} {e : P.Expr} {place : ℕ} → CompilesTemplateParts s0 s1 parts parts' → spelled_of text ≡ text' →
    Pushed s1 s2 place (built (node.TemplateLiteral loc text parts)) → e ≡ P.TemplateLiteral loc text' parts' → CompilesExpr s0 s2 place e
template_literal_made s2 {s0 = s0} {s1 = s1} {loc = loc} {text = text} {parts = parts} {parts' = parts'} {text' = text'} {e = e} {place = place} h0 e0 p is = record {
  compiled = λ chain. let Q : P.Expr → Type 0 = λ e. Compiled AnExpr codes.functions_expr s0 s2 place (linked.link_expr Unmarked chain e) in subst Q (sym is)
      (one SomeTemplateParts AnExpr codes.functions_template_parts codes.functions_expr s0 s1 s2 parts place (built (node.TemplateLiteral loc text parts)) (linked.link_template_parts Unmarked parts')
      h0.compiled p (λ parts'. P.TemplateLiteral loc text' parts')
      (λ t parts' r0. ap (λ p. AnExpr (P.TemplateLiteral loc (spelled_of text) (as_template_parts p))) r0 ∙ ap (λ p. AnExpr (P.TemplateLiteral loc p parts')) e0) (λ k. refl));
}

pub named_member_made : (s2 : Compiling) {s0 s1 : Compiling} {loc : Option Loc} {object : ℕ} {name : List ℕ} {object' : P.Expr} {name' : List ℕ} {e : P.Expr} {place : ℕ} → CompilesExpr s0 s1 object object' → name ≡ name' →
    Pushed s1 s2 place (built (node.NamedMember loc object name)) → e ≡ P.NamedMember loc object' name' → CompilesExpr s0 s2 place e
named_member_made s2 {s0 = s0} {s1 = s1} {loc = loc} {object = object} {name = name} {object' = object'} {name' = name'} {e = e} {place = place} h0 e0 p is = record {
  compiled = λ chain. let Q : P.Expr → Type 0 = λ e. Compiled AnExpr codes.functions_expr s0 s2 place (linked.link_expr Unmarked chain e) in subst Q (sym is)
      (one AnExpr AnExpr codes.functions_expr codes.functions_expr s0 s1 s2 object place (built (node.NamedMember loc object name)) (linked.link_expr Unmarked linked.Alone object')
      (h0.compiled linked.Alone) p (λ object'. P.NamedMember loc object' name')
      (λ t object' r0. ap (λ p. AnExpr (P.NamedMember loc (as_expr p) name)) r0 ∙ ap (λ p. AnExpr (P.NamedMember loc object' p)) e0) (λ k. refl));
}

pub computed_member_made : (s3 : Compiling) {s0 s1 s2 : Compiling} {loc : Option Loc} {object : ℕ} {key : ℕ} {object' : P.Expr} {key' : P.Expr} {e : P.Expr} {place : ℕ} → CompilesExpr s0 s1 object object' → CompilesExpr s1 s2 key key' →
    Pushed s2 s3 place (built (node.ComputedMember loc object key)) → e ≡ P.ComputedMember loc object' key' → CompilesExpr s0 s3 place e
computed_member_made s3 {s0 = s0} {s1 = s1} {s2 = s2} {loc = loc} {object = object} {key = key} {object' = object'} {key' = key'} {e = e} {place = place} h0 h1 p is = record {
  compiled = λ chain. let Q : P.Expr → Type 0 = λ e. Compiled AnExpr codes.functions_expr s0 s3 place (linked.link_expr Unmarked chain e) in subst Q (sym is)
      (two_parts AnExpr AnExpr AnExpr codes.functions_expr codes.functions_expr codes.functions_expr s0 s1 s2 s3 object key place (built (node.ComputedMember loc object key)) (linked.link_expr Unmarked linked.Alone object') (linked.link_expr Unmarked linked.Alone key')
      (h0.compiled linked.Alone) (h1.compiled linked.Alone) p (λ object' key'. P.ComputedMember loc object' key')
      (λ t object' key' r0 r1. ap (λ p. AnExpr (P.ComputedMember loc (as_expr p) (as_expr (t key)))) r0 ∙ ap (λ p. AnExpr (P.ComputedMember loc object' (as_expr p))) r1) (λ object' key'. refl));
}

pub new_made : (s3 : Compiling) {s0 s1 s2 : Compiling} {loc : Option Loc} {constructor : ℕ} {arguments : ℕ} {constructor' : P.Expr} {arguments' : P.Exprs} {e : P.Expr} {place : ℕ} → CompilesExpr s0 s1 constructor constructor' → CompilesExprs s1 s2 arguments arguments' →
    Pushed s2 s3 place (built (node.New loc constructor arguments)) → e ≡ P.New loc constructor' arguments' → CompilesExpr s0 s3 place e
new_made s3 {s0 = s0} {s1 = s1} {s2 = s2} {loc = loc} {constructor = constructor} {arguments = arguments} {constructor' = constructor'} {arguments' = arguments'} {e = e} {place = place} h0 h1 p is = record {
  compiled = λ chain. let Q : P.Expr → Type 0 = λ e. Compiled AnExpr codes.functions_expr s0 s3 place (linked.link_expr Unmarked chain e) in subst Q (sym is)
      (two_parts AnExpr SomeExprs AnExpr codes.functions_expr codes.functions_exprs codes.functions_expr s0 s1 s2 s3 constructor arguments place (built (node.New loc constructor arguments)) (linked.link_expr Unmarked linked.Alone constructor') (linked.link_exprs Unmarked arguments')
      (h0.compiled linked.Alone) h1.compiled p (λ constructor' arguments'. P.New loc constructor' arguments')
      (λ t constructor' arguments' r0 r1. ap (λ p. AnExpr (P.New loc (as_expr p) (as_exprs (t arguments)))) r0 ∙ ap (λ p. AnExpr (P.New loc constructor' (as_exprs p))) r1) (λ constructor' arguments'. refl));
}

pub call_made : (s3 : Compiling) {s0 s1 s2 : Compiling} {loc : Option Loc} {callee : ℕ} {arguments : ℕ} {callee' : P.Expr} {arguments' : P.Exprs} {e : P.Expr} {place : ℕ} → CompilesExpr s0 s1 callee callee' → CompilesExprs s1 s2 arguments arguments' →
    Pushed s2 s3 place (built (node.Call loc callee arguments)) → e ≡ P.Call loc callee' arguments' → CompilesExpr s0 s3 place e
call_made s3 {s0 = s0} {s1 = s1} {s2 = s2} {loc = loc} {callee = callee} {arguments = arguments} {callee' = callee'} {arguments' = arguments'} {e = e} {place = place} h0 h1 p is = record {
  compiled = λ chain. let Q : P.Expr → Type 0 = λ e. Compiled AnExpr codes.functions_expr s0 s3 place (linked.link_expr Unmarked chain e) in subst Q (sym is)
      (two_parts AnExpr SomeExprs AnExpr codes.functions_expr codes.functions_exprs codes.functions_expr s0 s1 s2 s3 callee arguments place (built (node.Call loc callee arguments)) (linked.link_expr Unmarked linked.Alone callee') (linked.link_exprs Unmarked arguments')
      (h0.compiled linked.Alone) h1.compiled p (λ callee' arguments'. P.Call loc callee' arguments')
      (λ t callee' arguments' r0 r1. ap (λ p. AnExpr (P.Call loc (as_expr p) (as_exprs (t arguments)))) r0 ∙ ap (λ p. AnExpr (P.Call loc callee' (as_exprs p))) r1) (λ callee' arguments'. refl));
}

pub postfix_update_made : (s2 : Compiling) {s0 s1 : Compiling} {loc : Option Loc} {operator : UpdateOperator} {target : ℕ} {target' : P.Expr} {e : P.Expr} {place : ℕ} → CompilesExpr s0 s1 target target' →
    Pushed s1 s2 place (built (node.PostfixUpdate loc operator target)) → e ≡ P.PostfixUpdate loc operator target' → CompilesExpr s0 s2 place e
postfix_update_made s2 {s0 = s0} {s1 = s1} {loc = loc} {operator = operator} {target = target} {target' = target'} {e = e} {place = place} h0 p is = record {
  compiled = λ chain. let Q : P.Expr → Type 0 = λ e. Compiled AnExpr codes.functions_expr s0 s2 place (linked.link_expr Unmarked chain e) in subst Q (sym is)
      (one AnExpr AnExpr codes.functions_expr codes.functions_expr s0 s1 s2 target place (built (node.PostfixUpdate loc operator target)) (linked.link_expr Unmarked linked.Alone target')
      (h0.compiled linked.Alone) p (λ target'. P.PostfixUpdate loc operator target')
      (λ t target' r0. ap (λ p. AnExpr (P.PostfixUpdate loc operator (as_expr p))) r0) (λ k. refl));
}

pub prefix_update_made : (s2 : Compiling) {s0 s1 : Compiling} {loc : Option Loc} {operator : UpdateOperator} {target : ℕ} {target' : P.Expr} {e : P.Expr} {place : ℕ} → CompilesExpr s0 s1 target target' →
    Pushed s1 s2 place (built (node.PrefixUpdate loc operator target)) → e ≡ P.PrefixUpdate loc operator target' → CompilesExpr s0 s2 place e
prefix_update_made s2 {s0 = s0} {s1 = s1} {loc = loc} {operator = operator} {target = target} {target' = target'} {e = e} {place = place} h0 p is = record {
  compiled = λ chain. let Q : P.Expr → Type 0 = λ e. Compiled AnExpr codes.functions_expr s0 s2 place (linked.link_expr Unmarked chain e) in subst Q (sym is)
      (one AnExpr AnExpr codes.functions_expr codes.functions_expr s0 s1 s2 target place (built (node.PrefixUpdate loc operator target)) (linked.link_expr Unmarked linked.Alone target')
      (h0.compiled linked.Alone) p (λ target'. P.PrefixUpdate loc operator target')
      (λ t target' r0. ap (λ p. AnExpr (P.PrefixUpdate loc operator (as_expr p))) r0) (λ k. refl));
}

pub unary_made : (s2 : Compiling) {s0 s1 : Compiling} {loc : Option Loc} {operator : UnaryOperator} {operand : ℕ} {operand' : P.Expr} {e : P.Expr} {place : ℕ} → CompilesExpr s0 s1 operand operand' →
    Pushed s1 s2 place (built (node.Unary loc operator operand)) → e ≡ P.Unary loc operator operand' → CompilesExpr s0 s2 place e
unary_made s2 {s0 = s0} {s1 = s1} {loc = loc} {operator = operator} {operand = operand} {operand' = operand'} {e = e} {place = place} h0 p is = record {
  compiled = λ chain. let Q : P.Expr → Type 0 = λ e. Compiled AnExpr codes.functions_expr s0 s2 place (linked.link_expr Unmarked chain e) in subst Q (sym is)
      (one AnExpr AnExpr codes.functions_expr codes.functions_expr s0 s1 s2 operand place (built (node.Unary loc operator operand)) (linked.link_expr Unmarked linked.Alone operand')
      (h0.compiled linked.Alone) p (λ operand'. P.Unary loc operator operand')
      (λ t operand' r0. ap (λ p. AnExpr (P.Unary loc operator (as_expr p))) r0) (λ k. refl));
}

pub binary_made : (s3 : Compiling) {s0 s1 s2 : Compiling} {loc : Option Loc} {operator : BinaryOperator} {left : ℕ} {right : ℕ} {left' : P.Expr} {right' : P.Expr} {e : P.Expr} {place : ℕ} → CompilesExpr s0 s1 left left' → CompilesExpr s1 s2 right right' →
    Pushed s2 s3 place (built (node.Binary loc operator left right)) → e ≡ P.Binary loc operator left' right' → CompilesExpr s0 s3 place e
binary_made s3 {s0 = s0} {s1 = s1} {s2 = s2} {loc = loc} {operator = operator} {left = left} {right = right} {left' = left'} {right' = right'} {e = e} {place = place} h0 h1 p is = record {
  compiled = λ chain. let Q : P.Expr → Type 0 = λ e. Compiled AnExpr codes.functions_expr s0 s3 place (linked.link_expr Unmarked chain e) in subst Q (sym is)
      (two_parts AnExpr AnExpr AnExpr codes.functions_expr codes.functions_expr codes.functions_expr s0 s1 s2 s3 left right place (built (node.Binary loc operator left right)) (linked.link_expr Unmarked linked.Alone left') (linked.link_expr Unmarked linked.Alone right')
      (h0.compiled linked.Alone) (h1.compiled linked.Alone) p (λ left' right'. P.Binary loc operator left' right')
      (λ t left' right' r0 r1. ap (λ p. AnExpr (P.Binary loc operator (as_expr p) (as_expr (t right)))) r0 ∙ ap (λ p. AnExpr (P.Binary loc operator left' (as_expr p))) r1) (λ left' right'. refl));
}

pub conditional_made : (s4 : Compiling) {s0 s1 s2 s3 : Compiling} {loc : Option Loc} {test : ℕ} {holds : ℕ} {fails : ℕ} {test' : P.Expr} {holds' : P.Expr} {fails' : P.Expr} {e : P.Expr} {place : ℕ} → CompilesExpr s0 s1 test test' → CompilesExpr s1 s2 holds holds' → CompilesExpr s2 s3 fails fails' →
    Pushed s3 s4 place (built (node.Conditional loc test holds fails)) → e ≡ P.Conditional loc test' holds' fails' → CompilesExpr s0 s4 place e
conditional_made s4 {s0 = s0} {s1 = s1} {s2 = s2} {s3 = s3} {loc = loc} {test = test} {holds = holds} {fails = fails} {test' = test'} {holds' = holds'} {fails' = fails'} {e = e} {place = place} h0 h1 h2 p is = record {
  compiled = λ chain. let Q : P.Expr → Type 0 = λ e. Compiled AnExpr codes.functions_expr s0 s4 place (linked.link_expr Unmarked chain e) in subst Q (sym is)
      (three_parts AnExpr AnExpr AnExpr AnExpr codes.functions_expr codes.functions_expr codes.functions_expr codes.functions_expr s0 s1 s2 s3 s4 test holds fails place (built (node.Conditional loc test holds fails)) (linked.link_expr Unmarked linked.Alone test') (linked.link_expr Unmarked linked.Alone holds') (linked.link_expr Unmarked linked.Alone fails')
      (h0.compiled linked.Alone) (h1.compiled linked.Alone) (h2.compiled linked.Alone) p (λ test' holds' fails'. P.Conditional loc test' holds' fails')
      (λ t test' holds' fails' r0 r1 r2. ap (λ p. AnExpr (P.Conditional loc (as_expr p) (as_expr (t holds)) (as_expr (t fails)))) r0 ∙ ap (λ p. AnExpr (P.Conditional loc test' (as_expr p) (as_expr (t fails)))) r1 ∙ ap (λ p. AnExpr (P.Conditional loc test' holds' (as_expr p))) r2) (λ test' holds' fails'. refl));
}

pub assignment_made : (s3 : Compiling) {s0 s1 s2 : Compiling} {loc : Option Loc} {operator : AssignmentOperator} {target : ℕ} {value : ℕ} {target' : P.Expr} {value' : P.Expr} {e : P.Expr} {place : ℕ} → CompilesExpr s0 s1 target target' → CompilesExpr s1 s2 value value' →
    Pushed s2 s3 place (built (node.Assignment loc operator target value)) → e ≡ P.Assignment loc operator target' value' → CompilesExpr s0 s3 place e
assignment_made s3 {s0 = s0} {s1 = s1} {s2 = s2} {loc = loc} {operator = operator} {target = target} {value = value} {target' = target'} {value' = value'} {e = e} {place = place} h0 h1 p is = record {
  compiled = λ chain. let Q : P.Expr → Type 0 = λ e. Compiled AnExpr codes.functions_expr s0 s3 place (linked.link_expr Unmarked chain e) in subst Q (sym is)
      (two_parts AnExpr AnExpr AnExpr codes.functions_expr codes.functions_expr codes.functions_expr s0 s1 s2 s3 target value place (built (node.Assignment loc operator target value)) (linked.link_expr Unmarked linked.Alone target') (linked.link_expr Unmarked linked.Alone value')
      (h0.compiled linked.Alone) (h1.compiled linked.Alone) p (λ target' value'. P.Assignment loc operator target' value')
      (λ t target' value' r0 r1. ap (λ p. AnExpr (P.Assignment loc operator (as_expr p) (as_expr (t value)))) r0 ∙ ap (λ p. AnExpr (P.Assignment loc operator target' (as_expr p))) r1) (λ target' value'. refl));
}

pub comma_made : (s3 : Compiling) {s0 s1 s2 : Compiling} {loc : Option Loc} {left : ℕ} {right : ℕ} {left' : P.Expr} {right' : P.Expr} {e : P.Expr} {place : ℕ} → CompilesExpr s0 s1 left left' → CompilesExpr s1 s2 right right' →
    Pushed s2 s3 place (built (node.Comma loc left right)) → e ≡ P.Comma loc left' right' → CompilesExpr s0 s3 place e
comma_made s3 {s0 = s0} {s1 = s1} {s2 = s2} {loc = loc} {left = left} {right = right} {left' = left'} {right' = right'} {e = e} {place = place} h0 h1 p is = record {
  compiled = λ chain. let Q : P.Expr → Type 0 = λ e. Compiled AnExpr codes.functions_expr s0 s3 place (linked.link_expr Unmarked chain e) in subst Q (sym is)
      (two_parts AnExpr AnExpr AnExpr codes.functions_expr codes.functions_expr codes.functions_expr s0 s1 s2 s3 left right place (built (node.Comma loc left right)) (linked.link_expr Unmarked linked.Alone left') (linked.link_expr Unmarked linked.Alone right')
      (h0.compiled linked.Alone) (h1.compiled linked.Alone) p (λ left' right'. P.Comma loc left' right')
      (λ t left' right' r0 r1. ap (λ p. AnExpr (P.Comma loc (as_expr p) (as_expr (t right)))) r0 ∙ ap (λ p. AnExpr (P.Comma loc left' (as_expr p))) r1) (λ left' right'. refl));
}

pub template_part_made : (s2 : Compiling) {s0 s1 : Compiling} {value : ℕ} {text : StringValue} {value' : P.Expr} {text' : Spelled} {e : P.TemplatePart} {place : ℕ} → CompilesExpr s0 s1 value value' → spelled_of text ≡ text' →
    Pushed s1 s2 place (built (node.TemplatePart value text)) → e ≡ P.MakeTemplatePart value' text' → CompilesTemplatePart s0 s2 place e
template_part_made s2 {s0 = s0} {s1 = s1} {value = value} {text = text} {value' = value'} {text' = text'} {e = e} {place = place} h0 e0 p is = record {
  compiled = let Q : P.TemplatePart → Type 0 = λ e. Compiled ATemplatePart codes.functions_template_part s0 s2 place (linked.link_template_part Unmarked e) in subst Q (sym is)
      (one AnExpr ATemplatePart codes.functions_expr codes.functions_template_part s0 s1 s2 value place (built (node.TemplatePart value text)) (linked.link_expr Unmarked linked.Alone value')
      (h0.compiled linked.Alone) p (λ value'. P.MakeTemplatePart value' text')
      (λ t value' r0. ap (λ p. ATemplatePart (P.MakeTemplatePart (as_expr p) (spelled_of text))) r0 ∙ ap (λ p. ATemplatePart (P.MakeTemplatePart value' p)) e0) (λ k. refl));
}

pub shorthand_made : (s0 s1 : Compiling) {loc : Option Loc} {name : List ℕ} {name' : List ℕ} {e : P.Property} {place : ℕ} → name ≡ name' →
    Pushed s0 s1 place (built (node.Shorthand loc name)) → e ≡ P.Shorthand loc name' → CompilesProperty s0 s1 place e
shorthand_made s0 s1 {loc = loc} {name = name} {name' = name'} {e = e} {place = place} e0 p is = record {
  compiled = let Q : P.Property → Type 0 = λ e. Compiled AProperty codes.functions_property s0 s1 place (linked.link_property Unmarked e) in subst Q (sym is)
      (leaf AProperty codes.functions_property s0 s1 place (built (node.Shorthand loc name)) p (P.Shorthand loc name') (λ t. ap (λ p. AProperty (P.Shorthand loc p)) e0) refl);
}

pub key_value_made : (s3 : Compiling) {s0 s1 s2 : Compiling} {loc : Option Loc} {key : ℕ} {value : ℕ} {key' : P.PropertyKey} {value' : P.Expr} {e : P.Property} {place : ℕ} → CompilesPropertyKey s0 s1 key key' → CompilesExpr s1 s2 value value' →
    Pushed s2 s3 place (built (node.KeyValue loc key value)) → e ≡ P.KeyValue loc key' value' → CompilesProperty s0 s3 place e
key_value_made s3 {s0 = s0} {s1 = s1} {s2 = s2} {loc = loc} {key = key} {value = value} {key' = key'} {value' = value'} {e = e} {place = place} h0 h1 p is = record {
  compiled = let Q : P.Property → Type 0 = λ e. Compiled AProperty codes.functions_property s0 s3 place (linked.link_property Unmarked e) in subst Q (sym is)
      (two_parts APropertyKey AnExpr AProperty codes.functions_property_key codes.functions_expr codes.functions_property s0 s1 s2 s3 key value place (built (node.KeyValue loc key value)) (linked.link_property_key Unmarked key') (linked.link_expr Unmarked linked.Alone value')
      h0.compiled (h1.compiled linked.Alone) p (λ key' value'. P.KeyValue loc key' value')
      (λ t key' value' r0 r1. ap (λ p. AProperty (P.KeyValue loc (as_property_key p) (as_expr (t value)))) r0 ∙ ap (λ p. AProperty (P.KeyValue loc key' (as_expr p))) r1) (λ key' value'. refl));
}

pub name_key_made : (s0 s1 : Compiling) {name : List ℕ} {name' : List ℕ} {e : P.PropertyKey} {place : ℕ} → name ≡ name' →
    Pushed s0 s1 place (built (node.NameKey name)) → e ≡ P.NameKey name' → CompilesPropertyKey s0 s1 place e
name_key_made s0 s1 {name = name} {name' = name'} {e = e} {place = place} e0 p is = record {
  compiled = let Q : P.PropertyKey → Type 0 = λ e. Compiled APropertyKey codes.functions_property_key s0 s1 place (linked.link_property_key Unmarked e) in subst Q (sym is)
      (leaf APropertyKey codes.functions_property_key s0 s1 place (built (node.NameKey name)) p (P.NameKey name') (λ t. ap (λ p. APropertyKey (P.NameKey p)) e0) refl);
}

pub string_key_made : (s0 s1 : Compiling) {literal : StringValue} {literal' : Spelled} {e : P.PropertyKey} {place : ℕ} → spelled_of literal ≡ literal' →
    Pushed s0 s1 place (built (node.StringKey literal)) → e ≡ P.StringKey literal' → CompilesPropertyKey s0 s1 place e
string_key_made s0 s1 {literal = literal} {literal' = literal'} {e = e} {place = place} e0 p is = record {
  compiled = let Q : P.PropertyKey → Type 0 = λ e. Compiled APropertyKey codes.functions_property_key s0 s1 place (linked.link_property_key Unmarked e) in subst Q (sym is)
      (leaf APropertyKey codes.functions_property_key s0 s1 place (built (node.StringKey literal)) p (P.StringKey literal') (λ t. ap (λ p. APropertyKey (P.StringKey p)) e0) refl);
}

pub number_key_made : (s0 s1 : Compiling) {numeral : List ℕ} {numeral' : List ℕ} {e : P.PropertyKey} {place : ℕ} → numeral ≡ numeral' →
    Pushed s0 s1 place (built (node.NumberKey numeral)) → e ≡ P.NumberKey numeral' → CompilesPropertyKey s0 s1 place e
number_key_made s0 s1 {numeral = numeral} {numeral' = numeral'} {e = e} {place = place} e0 p is = record {
  compiled = let Q : P.PropertyKey → Type 0 = λ e. Compiled APropertyKey codes.functions_property_key s0 s1 place (linked.link_property_key Unmarked e) in subst Q (sym is)
      (leaf APropertyKey codes.functions_property_key s0 s1 place (built (node.NumberKey numeral)) p (P.NumberKey numeral') (λ t. ap (λ p. APropertyKey (P.NumberKey p)) e0) refl);
}

pub computed_key_made : (s2 : Compiling) {s0 s1 : Compiling} {value : ℕ} {value' : P.Expr} {e : P.PropertyKey} {place : ℕ} → CompilesExpr s0 s1 value value' →
    Pushed s1 s2 place (built (node.ComputedKey value)) → e ≡ P.ComputedKey value' → CompilesPropertyKey s0 s2 place e
computed_key_made s2 {s0 = s0} {s1 = s1} {value = value} {value' = value'} {e = e} {place = place} h0 p is = record {
  compiled = let Q : P.PropertyKey → Type 0 = λ e. Compiled APropertyKey codes.functions_property_key s0 s2 place (linked.link_property_key Unmarked e) in subst Q (sym is)
      (one AnExpr APropertyKey codes.functions_expr codes.functions_property_key s0 s1 s2 value place (built (node.ComputedKey value)) (linked.link_expr Unmarked linked.Alone value')
      (h0.compiled linked.Alone) p (λ value'. P.ComputedKey value')
      (λ t value' r0. ap (λ p. APropertyKey (P.ComputedKey (as_expr p))) r0) (λ k. refl));
}

pub param_made : (s2 : Compiling) {s0 s1 : Compiling} {loc : Option Loc} {name_loc : Option Loc} {name : List ℕ} {default : ℕ} {default' : P.MaybeExpr} {name' : List ℕ} {e : P.Param} {place : ℕ} → CompilesExprIf s0 s1 default default' → name ≡ name' →
    Pushed s1 s2 place (built (node.Param loc name_loc name default)) → e ≡ P.MakeParam loc (P.BindingIdentifier name_loc name') default' → CompilesParam s0 s2 place e
param_made s2 {s0 = s0} {s1 = s1} {loc = loc} {name_loc = name_loc} {name = name} {default = default} {default' = default'} {name' = name'} {e = e} {place = place} h0 e0 p is = record {
  compiled = let Q : P.Param → Type 0 = λ e. Compiled AParam codes.functions_param s0 s2 place (linked.link_param Unmarked e) in subst Q (sym is)
      (compiled_as AParam codes.functions_param s0 s2 place _ _ (λ k. sym (param_linked loc (P.BindingIdentifier name_loc name') default' k))
      (one expr_or AParam codes.functions_expr_if codes.functions_param s0 s1 s2 default place (built (node.Param loc name_loc name default)) (linked.link_expr_if Unmarked default')
      h0.compiled p (λ default'. P.MakeParam loc (P.BindingIdentifier name_loc name') default')
      (λ t default' r0. ap (λ p. AParam (P.MakeParam loc (P.BindingIdentifier name_loc name) (as_expr_if p))) r0 ∙ ap (λ p. AParam (P.MakeParam loc (P.BindingIdentifier name_loc name) p)) (expr_or_back default') ∙ ap (λ p. AParam (P.MakeParam loc (P.BindingIdentifier name_loc p) default')) e0) (λ k. refl)));
}

pub directive_made : (s0 s1 : Compiling) {loc : Option Loc} {literal : StringValue} {literal' : Spelled} {e : P.Stmt} {place : ℕ} → spelled_of literal ≡ literal' →
    Pushed s0 s1 place (built (node.Directive loc literal)) → e ≡ P.Directive loc literal' → CompilesStmt s0 s1 place e
directive_made s0 s1 {loc = loc} {literal = literal} {literal' = literal'} {e = e} {place = place} e0 p is = record {
  compiled = let Q : P.Stmt → Type 0 = λ e. Compiled AStmt codes.functions_stmt s0 s1 place (linked.link_stmt Unmarked e) in subst Q (sym is)
      (leaf AStmt codes.functions_stmt s0 s1 place (built (node.Directive loc literal)) p (P.Directive loc literal') (λ t. ap (λ p. AStmt (P.Directive loc p)) e0) refl);
}

pub block_made : (s2 : Compiling) {s0 s1 : Compiling} {loc : Option Loc} {statements : ℕ} {statements' : P.Stmts} {e : P.Stmt} {place : ℕ} → CompilesScope s0 s1 statements statements' →
    Pushed s1 s2 place (built (node.Block loc statements)) → e ≡ P.Block loc statements' → CompilesStmt s0 s2 place e
block_made s2 {s0 = s0} {s1 = s1} {loc = loc} {statements = statements} {statements' = statements'} {e = e} {place = place} h0 p is = record {
  compiled = let Q : P.Stmt → Type 0 = λ e. Compiled AStmt codes.functions_stmt s0 s2 place (linked.link_stmt Unmarked e) in subst Q (sym is)
      (one AScope AStmt codes.functions_stmts codes.functions_stmt s0 s1 s2 statements place (built (node.Block loc statements)) (linked.link_stmts Unmarked statements')
      h0.compiled p (λ statements'. P.Block loc statements')
      (λ t statements' r0. ap (λ p. AStmt (P.Block loc (as_scope p))) r0) (λ k. refl));
}

pub variable_declaration_made : (s2 : Compiling) {s0 s1 : Compiling} {loc : Option Loc} {kind : VariableKind} {declarators : ℕ} {declarators' : P.Declarators} {e : P.Stmt} {place : ℕ} → CompilesDeclarators s0 s1 declarators declarators' →
    Pushed s1 s2 place (built (node.VariableDeclaration loc kind declarators)) → e ≡ P.VariableDeclaration loc kind declarators' → CompilesStmt s0 s2 place e
variable_declaration_made s2 {s0 = s0} {s1 = s1} {loc = loc} {kind = kind} {declarators = declarators} {declarators' = declarators'} {e = e} {place = place} h0 p is = record {
  compiled = let Q : P.Stmt → Type 0 = λ e. Compiled AStmt codes.functions_stmt s0 s2 place (linked.link_stmt Unmarked e) in subst Q (sym is)
      (one SomeDeclarators AStmt codes.functions_declarators codes.functions_stmt s0 s1 s2 declarators place (built (node.VariableDeclaration loc kind declarators)) (linked.link_declarators Unmarked declarators')
      h0.compiled p (λ declarators'. P.VariableDeclaration loc kind declarators')
      (λ t declarators' r0. ap (λ p. AStmt (P.VariableDeclaration loc kind (as_declarators p))) r0) (λ k. refl));
}

pub empty_made : (s0 s1 : Compiling) {loc : Option Loc} {e : P.Stmt} {place : ℕ} →
    Pushed s0 s1 place (built (node.Empty loc)) → e ≡ P.Empty loc → CompilesStmt s0 s1 place e
empty_made s0 s1 {loc = loc} {e = e} {place = place} p is = record {
  compiled = let Q : P.Stmt → Type 0 = λ e. Compiled AStmt codes.functions_stmt s0 s1 place (linked.link_stmt Unmarked e) in subst Q (sym is)
      (leaf AStmt codes.functions_stmt s0 s1 place (built (node.Empty loc)) p (P.Empty loc) (λ t. refl) refl);
}

pub expression_made : (s2 : Compiling) {s0 s1 : Compiling} {loc : Option Loc} {expression : ℕ} {expression' : P.Expr} {e : P.Stmt} {place : ℕ} → CompilesExpr s0 s1 expression expression' →
    Pushed s1 s2 place (built (node.Expression loc expression)) → e ≡ P.Expression loc expression' → CompilesStmt s0 s2 place e
expression_made s2 {s0 = s0} {s1 = s1} {loc = loc} {expression = expression} {expression' = expression'} {e = e} {place = place} h0 p is = record {
  compiled = let Q : P.Stmt → Type 0 = λ e. Compiled AStmt codes.functions_stmt s0 s2 place (linked.link_stmt Unmarked e) in subst Q (sym is)
      (one AnExpr AStmt codes.functions_expr codes.functions_stmt s0 s1 s2 expression place (built (node.Expression loc expression)) (linked.link_expr Unmarked linked.Alone expression')
      (h0.compiled linked.Alone) p (λ expression'. P.Expression loc expression')
      (λ t expression' r0. ap (λ p. AStmt (P.Expression loc (as_expr p))) r0) (λ k. refl));
}

pub if_made : (s4 : Compiling) {s0 s1 s2 s3 : Compiling} {loc : Option Loc} {test : ℕ} {holds : ℕ} {fails : ℕ} {test' : P.Expr} {holds' : P.Stmt} {fails' : P.MaybeStmt} {e : P.Stmt} {place : ℕ} → CompilesExpr s0 s1 test test' → CompilesStmt s1 s2 holds holds' → CompilesStmtIf s2 s3 fails fails' →
    Pushed s3 s4 place (built (node.If loc test holds fails)) → e ≡ P.If loc test' holds' fails' → CompilesStmt s0 s4 place e
if_made s4 {s0 = s0} {s1 = s1} {s2 = s2} {s3 = s3} {loc = loc} {test = test} {holds = holds} {fails = fails} {test' = test'} {holds' = holds'} {fails' = fails'} {e = e} {place = place} h0 h1 h2 p is = record {
  compiled = let Q : P.Stmt → Type 0 = λ e. Compiled AStmt codes.functions_stmt s0 s4 place (linked.link_stmt Unmarked e) in subst Q (sym is)
      (three_parts AnExpr AStmt stmt_or AStmt codes.functions_expr codes.functions_stmt codes.functions_stmt_if codes.functions_stmt s0 s1 s2 s3 s4 test holds fails place (built (node.If loc test holds fails)) (linked.link_expr Unmarked linked.Alone test') (linked.link_stmt Unmarked holds') (linked.link_stmt_if Unmarked fails')
      (h0.compiled linked.Alone) h1.compiled h2.compiled p (λ test' holds' fails'. P.If loc test' holds' fails')
      (λ t test' holds' fails' r0 r1 r2. ap (λ p. AStmt (P.If loc (as_expr p) (as_stmt (t holds)) (as_stmt_if (t fails)))) r0 ∙ ap (λ p. AStmt (P.If loc test' (as_stmt p) (as_stmt_if (t fails)))) r1 ∙ ap (λ p. AStmt (P.If loc test' holds' (as_stmt_if p))) r2 ∙ ap (λ p. AStmt (P.If loc test' holds' p)) (stmt_or_back fails')) (λ test' holds' fails'. refl));
}

pub do_while_made : (s3 : Compiling) {s0 s1 s2 : Compiling} {loc : Option Loc} {body : ℕ} {test : ℕ} {body' : P.Stmt} {test' : P.Expr} {e : P.Stmt} {place : ℕ} → CompilesStmt s0 s1 body body' → CompilesExpr s1 s2 test test' →
    Pushed s2 s3 place (built (node.DoWhile loc body test)) → e ≡ P.DoWhile loc body' test' → CompilesStmt s0 s3 place e
do_while_made s3 {s0 = s0} {s1 = s1} {s2 = s2} {loc = loc} {body = body} {test = test} {body' = body'} {test' = test'} {e = e} {place = place} h0 h1 p is = record {
  compiled = let Q : P.Stmt → Type 0 = λ e. Compiled AStmt codes.functions_stmt s0 s3 place (linked.link_stmt Unmarked e) in subst Q (sym is)
      (two_parts AStmt AnExpr AStmt codes.functions_stmt codes.functions_expr codes.functions_stmt s0 s1 s2 s3 body test place (built (node.DoWhile loc body test)) (linked.link_stmt Unmarked body') (linked.link_expr Unmarked linked.Alone test')
      h0.compiled (h1.compiled linked.Alone) p (λ body' test'. P.DoWhile loc body' test')
      (λ t body' test' r0 r1. ap (λ p. AStmt (P.DoWhile loc (as_stmt p) (as_expr (t test)))) r0 ∙ ap (λ p. AStmt (P.DoWhile loc body' (as_expr p))) r1) (λ body' test'. refl));
}

pub while_made : (s3 : Compiling) {s0 s1 s2 : Compiling} {loc : Option Loc} {test : ℕ} {body : ℕ} {test' : P.Expr} {body' : P.Stmt} {e : P.Stmt} {place : ℕ} → CompilesExpr s0 s1 test test' → CompilesStmt s1 s2 body body' →
    Pushed s2 s3 place (built (node.While loc test body)) → e ≡ P.While loc test' body' → CompilesStmt s0 s3 place e
while_made s3 {s0 = s0} {s1 = s1} {s2 = s2} {loc = loc} {test = test} {body = body} {test' = test'} {body' = body'} {e = e} {place = place} h0 h1 p is = record {
  compiled = let Q : P.Stmt → Type 0 = λ e. Compiled AStmt codes.functions_stmt s0 s3 place (linked.link_stmt Unmarked e) in subst Q (sym is)
      (two_parts AnExpr AStmt AStmt codes.functions_expr codes.functions_stmt codes.functions_stmt s0 s1 s2 s3 test body place (built (node.While loc test body)) (linked.link_expr Unmarked linked.Alone test') (linked.link_stmt Unmarked body')
      (h0.compiled linked.Alone) h1.compiled p (λ test' body'. P.While loc test' body')
      (λ t test' body' r0 r1. ap (λ p. AStmt (P.While loc (as_expr p) (as_stmt (t body)))) r0 ∙ ap (λ p. AStmt (P.While loc test' (as_stmt p))) r1) (λ test' body'. refl));
}

pub for_made : (s5 : Compiling) {s0 s1 s2 s3 s4 : Compiling} {loc : Option Loc} {init : ℕ} {test : ℕ} {update : ℕ} {body : ℕ} {init' : P.ForInit} {test' : P.MaybeExpr} {update' : P.MaybeExpr} {body' : P.Stmt} {e : P.Stmt} {place : ℕ} → CompilesForInit s0 s1 init init' → CompilesExprIf s1 s2 test test' → CompilesExprIf s2 s3 update update' → CompilesStmt s3 s4 body body' →
    Pushed s4 s5 place (built (node.For loc init test update body)) → e ≡ P.For loc init' test' update' body' → CompilesStmt s0 s5 place e
for_made s5 {s0 = s0} {s1 = s1} {s2 = s2} {s3 = s3} {s4 = s4} {loc = loc} {init = init} {test = test} {update = update} {body = body} {init' = init'} {test' = test'} {update' = update'} {body' = body'} {e = e} {place = place} h0 h1 h2 h3 p is = record {
  compiled = let Q : P.Stmt → Type 0 = λ e. Compiled AStmt codes.functions_stmt s0 s5 place (linked.link_stmt Unmarked e) in subst Q (sym is)
      (four_parts AForInit expr_or expr_or AStmt AStmt codes.functions_for_init codes.functions_expr_if codes.functions_expr_if codes.functions_stmt codes.functions_stmt s0 s1 s2 s3 s4 s5 init test update body place (built (node.For loc init test update body)) (linked.link_for_init Unmarked init') (linked.link_expr_if Unmarked test') (linked.link_expr_if Unmarked update') (linked.link_stmt Unmarked body')
      h0.compiled h1.compiled h2.compiled h3.compiled p (λ init' test' update' body'. P.For loc init' test' update' body')
      (λ t init' test' update' body' r0 r1 r2 r3. ap (λ p. AStmt (P.For loc (as_for_init p) (as_expr_if (t test)) (as_expr_if (t update)) (as_stmt (t body)))) r0 ∙ ap (λ p. AStmt (P.For loc init' (as_expr_if p) (as_expr_if (t update)) (as_stmt (t body)))) r1 ∙ ap (λ p. AStmt (P.For loc init' p (as_expr_if (t update)) (as_stmt (t body)))) (expr_or_back test') ∙ ap (λ p. AStmt (P.For loc init' test' (as_expr_if p) (as_stmt (t body)))) r2 ∙ ap (λ p. AStmt (P.For loc init' test' p (as_stmt (t body)))) (expr_or_back update') ∙ ap (λ p. AStmt (P.For loc init' test' update' (as_stmt p))) r3) (λ init' test' update' body'. refl));
}

pub for_in_made : (s4 : Compiling) {s0 s1 s2 s3 : Compiling} {loc : Option Loc} {target : ℕ} {object : ℕ} {body : ℕ} {target' : P.ForTarget} {object' : P.Expr} {body' : P.Stmt} {e : P.Stmt} {place : ℕ} → CompilesForTarget s0 s1 target target' → CompilesExpr s1 s2 object object' → CompilesStmt s2 s3 body body' →
    Pushed s3 s4 place (built (node.ForIn loc target object body)) → e ≡ P.ForIn loc target' object' body' → CompilesStmt s0 s4 place e
for_in_made s4 {s0 = s0} {s1 = s1} {s2 = s2} {s3 = s3} {loc = loc} {target = target} {object = object} {body = body} {target' = target'} {object' = object'} {body' = body'} {e = e} {place = place} h0 h1 h2 p is = record {
  compiled = let Q : P.Stmt → Type 0 = λ e. Compiled AStmt codes.functions_stmt s0 s4 place (linked.link_stmt Unmarked e) in subst Q (sym is)
      (three_parts AForTarget AnExpr AStmt AStmt codes.functions_for_target codes.functions_expr codes.functions_stmt codes.functions_stmt s0 s1 s2 s3 s4 target object body place (built (node.ForIn loc target object body)) (linked.link_for_target Unmarked target') (linked.link_expr Unmarked linked.Alone object') (linked.link_stmt Unmarked body')
      h0.compiled (h1.compiled linked.Alone) h2.compiled p (λ target' object' body'. P.ForIn loc target' object' body')
      (λ t target' object' body' r0 r1 r2. ap (λ p. AStmt (P.ForIn loc (as_for_target p) (as_expr (t object)) (as_stmt (t body)))) r0 ∙ ap (λ p. AStmt (P.ForIn loc target' (as_expr p) (as_stmt (t body)))) r1 ∙ ap (λ p. AStmt (P.ForIn loc target' object' (as_stmt p))) r2) (λ target' object' body'. refl));
}

pub for_of_made : (s4 : Compiling) {s0 s1 s2 s3 : Compiling} {loc : Option Loc} {target : ℕ} {iterable : ℕ} {body : ℕ} {target' : P.ForTarget} {iterable' : P.Expr} {body' : P.Stmt} {e : P.Stmt} {place : ℕ} → CompilesForTarget s0 s1 target target' → CompilesExpr s1 s2 iterable iterable' → CompilesStmt s2 s3 body body' →
    Pushed s3 s4 place (built (node.ForOf loc target iterable body)) → e ≡ P.ForOf loc target' iterable' body' → CompilesStmt s0 s4 place e
for_of_made s4 {s0 = s0} {s1 = s1} {s2 = s2} {s3 = s3} {loc = loc} {target = target} {iterable = iterable} {body = body} {target' = target'} {iterable' = iterable'} {body' = body'} {e = e} {place = place} h0 h1 h2 p is = record {
  compiled = let Q : P.Stmt → Type 0 = λ e. Compiled AStmt codes.functions_stmt s0 s4 place (linked.link_stmt Unmarked e) in subst Q (sym is)
      (three_parts AForTarget AnExpr AStmt AStmt codes.functions_for_target codes.functions_expr codes.functions_stmt codes.functions_stmt s0 s1 s2 s3 s4 target iterable body place (built (node.ForOf loc target iterable body)) (linked.link_for_target Unmarked target') (linked.link_expr Unmarked linked.Alone iterable') (linked.link_stmt Unmarked body')
      h0.compiled (h1.compiled linked.Alone) h2.compiled p (λ target' iterable' body'. P.ForOf loc target' iterable' body')
      (λ t target' iterable' body' r0 r1 r2. ap (λ p. AStmt (P.ForOf loc (as_for_target p) (as_expr (t iterable)) (as_stmt (t body)))) r0 ∙ ap (λ p. AStmt (P.ForOf loc target' (as_expr p) (as_stmt (t body)))) r1 ∙ ap (λ p. AStmt (P.ForOf loc target' iterable' (as_stmt p))) r2) (λ target' iterable' body'. refl));
}

pub continue_made : (s0 s1 : Compiling) {loc : Option Loc} {label : Option Identifier} {label' : Option Identifier} {e : P.Stmt} {place : ℕ} → label ≡ label' →
    Pushed s0 s1 place (built (node.Continue loc label)) → e ≡ P.Continue loc label' → CompilesStmt s0 s1 place e
continue_made s0 s1 {loc = loc} {label = label} {label' = label'} {e = e} {place = place} e0 p is = record {
  compiled = let Q : P.Stmt → Type 0 = λ e. Compiled AStmt codes.functions_stmt s0 s1 place (linked.link_stmt Unmarked e) in subst Q (sym is)
      (leaf AStmt codes.functions_stmt s0 s1 place (built (node.Continue loc label)) p (P.Continue loc label') (λ t. ap (λ p. AStmt (P.Continue loc p)) e0) refl);
}

pub break_made : (s0 s1 : Compiling) {loc : Option Loc} {label : Option Identifier} {label' : Option Identifier} {e : P.Stmt} {place : ℕ} → label ≡ label' →
    Pushed s0 s1 place (built (node.Break loc label)) → e ≡ P.Break loc label' → CompilesStmt s0 s1 place e
break_made s0 s1 {loc = loc} {label = label} {label' = label'} {e = e} {place = place} e0 p is = record {
  compiled = let Q : P.Stmt → Type 0 = λ e. Compiled AStmt codes.functions_stmt s0 s1 place (linked.link_stmt Unmarked e) in subst Q (sym is)
      (leaf AStmt codes.functions_stmt s0 s1 place (built (node.Break loc label)) p (P.Break loc label') (λ t. ap (λ p. AStmt (P.Break loc p)) e0) refl);
}

pub return_made : (s2 : Compiling) {s0 s1 : Compiling} {loc : Option Loc} {value : ℕ} {value' : P.MaybeExpr} {e : P.Stmt} {place : ℕ} → CompilesExprIf s0 s1 value value' →
    Pushed s1 s2 place (built (node.Return loc value)) → e ≡ P.Return loc value' → CompilesStmt s0 s2 place e
return_made s2 {s0 = s0} {s1 = s1} {loc = loc} {value = value} {value' = value'} {e = e} {place = place} h0 p is = record {
  compiled = let Q : P.Stmt → Type 0 = λ e. Compiled AStmt codes.functions_stmt s0 s2 place (linked.link_stmt Unmarked e) in subst Q (sym is)
      (one expr_or AStmt codes.functions_expr_if codes.functions_stmt s0 s1 s2 value place (built (node.Return loc value)) (linked.link_expr_if Unmarked value')
      h0.compiled p (λ value'. P.Return loc value')
      (λ t value' r0. ap (λ p. AStmt (P.Return loc (as_expr_if p))) r0 ∙ ap (λ p. AStmt (P.Return loc p)) (expr_or_back value')) (λ k. refl));
}

pub switch_made : (s3 : Compiling) {s0 s1 s2 : Compiling} {loc : Option Loc} {value : ℕ} {cases : ℕ} {value' : P.Expr} {cases' : P.Cases} {e : P.Stmt} {place : ℕ} → CompilesExpr s0 s1 value value' → CompilesCaseScope s1 s2 cases cases' →
    Pushed s2 s3 place (built (node.Switch loc value cases)) → e ≡ P.Switch loc value' cases' → CompilesStmt s0 s3 place e
switch_made s3 {s0 = s0} {s1 = s1} {s2 = s2} {loc = loc} {value = value} {cases = cases} {value' = value'} {cases' = cases'} {e = e} {place = place} h0 h1 p is = record {
  compiled = let Q : P.Stmt → Type 0 = λ e. Compiled AStmt codes.functions_stmt s0 s3 place (linked.link_stmt Unmarked e) in subst Q (sym is)
      (two_parts AnExpr ACaseScope AStmt codes.functions_expr codes.functions_cases codes.functions_stmt s0 s1 s2 s3 value cases place (built (node.Switch loc value cases)) (linked.link_expr Unmarked linked.Alone value') (linked.link_cases Unmarked linked.Uncounted 0 cases')
      (h0.compiled linked.Alone) h1.compiled p (λ value' cases'. P.Switch loc value' cases')
      (λ t value' cases' r0 r1. ap (λ p. AStmt (P.Switch loc (as_expr p) (as_case_scope (t cases)))) r0 ∙ ap (λ p. AStmt (P.Switch loc value' (as_case_scope p))) r1) (λ value' cases'. refl));
}

pub throw_made : (s2 : Compiling) {s0 s1 : Compiling} {loc : Option Loc} {value : ℕ} {value' : P.Expr} {e : P.Stmt} {place : ℕ} → CompilesExpr s0 s1 value value' →
    Pushed s1 s2 place (built (node.Throw loc value)) → e ≡ P.Throw loc value' → CompilesStmt s0 s2 place e
throw_made s2 {s0 = s0} {s1 = s1} {loc = loc} {value = value} {value' = value'} {e = e} {place = place} h0 p is = record {
  compiled = let Q : P.Stmt → Type 0 = λ e. Compiled AStmt codes.functions_stmt s0 s2 place (linked.link_stmt Unmarked e) in subst Q (sym is)
      (one AnExpr AStmt codes.functions_expr codes.functions_stmt s0 s1 s2 value place (built (node.Throw loc value)) (linked.link_expr Unmarked linked.Alone value')
      (h0.compiled linked.Alone) p (λ value'. P.Throw loc value')
      (λ t value' r0. ap (λ p. AStmt (P.Throw loc (as_expr p))) r0) (λ k. refl));
}

pub try_catch_made : (s3 : Compiling) {s0 s1 s2 : Compiling} {loc : Option Loc} {block : ℕ} {catch : ℕ} {block' : P.Stmts} {catch' : P.Catch} {e : P.Stmt} {place : ℕ} → CompilesScope s0 s1 block block' → CompilesCatch s1 s2 catch catch' →
    Pushed s2 s3 place (built (node.TryCatch loc block catch)) → e ≡ P.TryCatch loc block' catch' → CompilesStmt s0 s3 place e
try_catch_made s3 {s0 = s0} {s1 = s1} {s2 = s2} {loc = loc} {block = block} {catch = catch} {block' = block'} {catch' = catch'} {e = e} {place = place} h0 h1 p is = record {
  compiled = let Q : P.Stmt → Type 0 = λ e. Compiled AStmt codes.functions_stmt s0 s3 place (linked.link_stmt Unmarked e) in subst Q (sym is)
      (two_parts AScope ACatch AStmt codes.functions_stmts codes.functions_catch codes.functions_stmt s0 s1 s2 s3 block catch place (built (node.TryCatch loc block catch)) (linked.link_stmts Unmarked block') (linked.link_catch Unmarked catch')
      h0.compiled h1.compiled p (λ block' catch'. P.TryCatch loc block' catch')
      (λ t block' catch' r0 r1. ap (λ p. AStmt (P.TryCatch loc (as_scope p) (as_catch (t catch)))) r0 ∙ ap (λ p. AStmt (P.TryCatch loc block' (as_catch p))) r1) (λ block' catch'. refl));
}

pub try_finally_made : (s3 : Compiling) {s0 s1 s2 : Compiling} {loc : Option Loc} {block : ℕ} {last : ℕ} {block' : P.Stmts} {last' : P.Stmts} {e : P.Stmt} {place : ℕ} → CompilesScope s0 s1 block block' → CompilesScope s1 s2 last last' →
    Pushed s2 s3 place (built (node.TryFinally loc block last)) → e ≡ P.TryFinally loc block' last' → CompilesStmt s0 s3 place e
try_finally_made s3 {s0 = s0} {s1 = s1} {s2 = s2} {loc = loc} {block = block} {last = last} {block' = block'} {last' = last'} {e = e} {place = place} h0 h1 p is = record {
  compiled = let Q : P.Stmt → Type 0 = λ e. Compiled AStmt codes.functions_stmt s0 s3 place (linked.link_stmt Unmarked e) in subst Q (sym is)
      (two_parts AScope AScope AStmt codes.functions_stmts codes.functions_stmts codes.functions_stmt s0 s1 s2 s3 block last place (built (node.TryFinally loc block last)) (linked.link_stmts Unmarked block') (linked.link_stmts Unmarked last')
      h0.compiled h1.compiled p (λ block' last'. P.TryFinally loc block' last')
      (λ t block' last' r0 r1. ap (λ p. AStmt (P.TryFinally loc (as_scope p) (as_scope (t last)))) r0 ∙ ap (λ p. AStmt (P.TryFinally loc block' (as_scope p))) r1) (λ block' last'. refl));
}

pub try_catch_finally_made : (s4 : Compiling) {s0 s1 s2 s3 : Compiling} {loc : Option Loc} {block : ℕ} {catch : ℕ} {last : ℕ} {block' : P.Stmts} {catch' : P.Catch} {last' : P.Stmts} {e : P.Stmt} {place : ℕ} → CompilesScope s0 s1 block block' → CompilesCatch s1 s2 catch catch' → CompilesScope s2 s3 last last' →
    Pushed s3 s4 place (built (node.TryCatchFinally loc block catch last)) → e ≡ P.TryCatchFinally loc block' catch' last' → CompilesStmt s0 s4 place e
try_catch_finally_made s4 {s0 = s0} {s1 = s1} {s2 = s2} {s3 = s3} {loc = loc} {block = block} {catch = catch} {last = last} {block' = block'} {catch' = catch'} {last' = last'} {e = e} {place = place} h0 h1 h2 p is = record {
  compiled = let Q : P.Stmt → Type 0 = λ e. Compiled AStmt codes.functions_stmt s0 s4 place (linked.link_stmt Unmarked e) in subst Q (sym is)
      (three_parts AScope ACatch AScope AStmt codes.functions_stmts codes.functions_catch codes.functions_stmts codes.functions_stmt s0 s1 s2 s3 s4 block catch last place (built (node.TryCatchFinally loc block catch last)) (linked.link_stmts Unmarked block') (linked.link_catch Unmarked catch') (linked.link_stmts Unmarked last')
      h0.compiled h1.compiled h2.compiled p (λ block' catch' last'. P.TryCatchFinally loc block' catch' last')
      (λ t block' catch' last' r0 r1 r2. ap (λ p. AStmt (P.TryCatchFinally loc (as_scope p) (as_catch (t catch)) (as_scope (t last)))) r0 ∙ ap (λ p. AStmt (P.TryCatchFinally loc block' (as_catch p) (as_scope (t last)))) r1 ∙ ap (λ p. AStmt (P.TryCatchFinally loc block' catch' (as_scope p))) r2) (λ block' catch' last'. refl));
}

pub debugger_made : (s0 s1 : Compiling) {loc : Option Loc} {e : P.Stmt} {place : ℕ} →
    Pushed s0 s1 place (built (node.Debugger loc)) → e ≡ P.Debugger loc → CompilesStmt s0 s1 place e
debugger_made s0 s1 {loc = loc} {e = e} {place = place} p is = record {
  compiled = let Q : P.Stmt → Type 0 = λ e. Compiled AStmt codes.functions_stmt s0 s1 place (linked.link_stmt Unmarked e) in subst Q (sym is)
      (leaf AStmt codes.functions_stmt s0 s1 place (built (node.Debugger loc)) p (P.Debugger loc) (λ t. refl) refl);
}

pub function_declaration_made : (s2 : Compiling) {s0 s1 : Compiling} {loc : Option Loc} {name : Identifier} {function : ℕ} {function' : P.Function} {name' : Identifier} {e : P.Stmt} {place : ℕ} → CompilesFunction s0 s1 function function' → name ≡ name' →
    Pushed s1 s2 place (built (node.FunctionDeclaration loc name function)) → e ≡ P.FunctionDeclaration loc name' function' → CompilesStmt s0 s2 place e
function_declaration_made s2 {s0 = s0} {s1 = s1} {loc = loc} {name = name} {function = function} {function' = function'} {name' = name'} {e = e} {place = place} h0 e0 p is = record {
  compiled = let Q : P.Stmt → Type 0 = λ e. Compiled AStmt codes.functions_stmt s0 s2 place (linked.link_stmt Unmarked e) in subst Q (sym is)
      (one an_ordinary AStmt codes.functions_function codes.functions_stmt s0 s1 s2 function place (built (node.FunctionDeclaration loc name function)) (linked.link_function Unmarked loc (Some name') function')
      (h0.compiled loc (Some name')) p (λ function'. P.FunctionDeclaration loc name' function')
      (λ t function' r0. ap (λ p. AStmt (P.FunctionDeclaration loc name (function_of (as_code p)))) r0 ∙ ap (λ p. AStmt (P.FunctionDeclaration loc p function')) e0) (λ k. refl));
}

pub declarator_made : (s2 : Compiling) {s0 s1 : Compiling} {loc : Option Loc} {name_loc : Option Loc} {name : List ℕ} {initializer : ℕ} {initializer' : P.MaybeExpr} {name' : List ℕ} {e : P.Declarator} {place : ℕ} → CompilesExprIf s0 s1 initializer initializer' → name ≡ name' →
    Pushed s1 s2 place (built (node.Declarator loc name_loc name initializer)) → e ≡ P.MakeDeclarator loc (P.BindingIdentifier name_loc name') initializer' → CompilesDeclarator s0 s2 place e
declarator_made s2 {s0 = s0} {s1 = s1} {loc = loc} {name_loc = name_loc} {name = name} {initializer = initializer} {initializer' = initializer'} {name' = name'} {e = e} {place = place} h0 e0 p is = record {
  compiled = let Q : P.Declarator → Type 0 = λ e. Compiled ADeclarator codes.functions_declarator s0 s2 place (linked.link_declarator Unmarked e) in subst Q (sym is)
      (compiled_as ADeclarator codes.functions_declarator s0 s2 place _ _ (λ k. sym (declarator_linked loc (P.BindingIdentifier name_loc name') initializer' k))
      (one expr_or ADeclarator codes.functions_expr_if codes.functions_declarator s0 s1 s2 initializer place (built (node.Declarator loc name_loc name initializer)) (linked.link_expr_if Unmarked initializer')
      h0.compiled p (λ initializer'. P.MakeDeclarator loc (P.BindingIdentifier name_loc name') initializer')
      (λ t initializer' r0. ap (λ p. ADeclarator (P.MakeDeclarator loc (P.BindingIdentifier name_loc name) (as_expr_if p))) r0 ∙ ap (λ p. ADeclarator (P.MakeDeclarator loc (P.BindingIdentifier name_loc name) p)) (expr_or_back initializer') ∙ ap (λ p. ADeclarator (P.MakeDeclarator loc (P.BindingIdentifier name_loc p) initializer')) e0) (λ k. refl)));
}

pub no_init_made : (s0 s1 : Compiling) {e : P.ForInit} {place : ℕ} →
    Pushed s0 s1 place (built node.NoInit) → e ≡ P.NoInit → CompilesForInit s0 s1 place e
no_init_made s0 s1 {e = e} {place = place} p is = record {
  compiled = let Q : P.ForInit → Type 0 = λ e. Compiled AForInit codes.functions_for_init s0 s1 place (linked.link_for_init Unmarked e) in subst Q (sym is)
      (leaf AForInit codes.functions_for_init s0 s1 place (built node.NoInit) p P.NoInit (λ t. refl) refl);
}

pub init_expression_made : (s2 : Compiling) {s0 s1 : Compiling} {expression : ℕ} {expression' : P.Expr} {e : P.ForInit} {place : ℕ} → CompilesExpr s0 s1 expression expression' →
    Pushed s1 s2 place (built (node.InitExpression expression)) → e ≡ P.InitExpression expression' → CompilesForInit s0 s2 place e
init_expression_made s2 {s0 = s0} {s1 = s1} {expression = expression} {expression' = expression'} {e = e} {place = place} h0 p is = record {
  compiled = let Q : P.ForInit → Type 0 = λ e. Compiled AForInit codes.functions_for_init s0 s2 place (linked.link_for_init Unmarked e) in subst Q (sym is)
      (one AnExpr AForInit codes.functions_expr codes.functions_for_init s0 s1 s2 expression place (built (node.InitExpression expression)) (linked.link_expr Unmarked linked.Alone expression')
      (h0.compiled linked.Alone) p (λ expression'. P.InitExpression expression')
      (λ t expression' r0. ap (λ p. AForInit (P.InitExpression (as_expr p))) r0) (λ k. refl));
}

pub target_declaration_made : (s0 s1 : Compiling) {kind : VariableKind} {name_loc : Option Loc} {name : List ℕ} {name' : List ℕ} {e : P.ForTarget} {place : ℕ} → name ≡ name' →
    Pushed s0 s1 place (built (node.TargetDeclaration kind name_loc name)) → e ≡ P.TargetDeclaration kind (P.BindingIdentifier name_loc name') → CompilesForTarget s0 s1 place e
target_declaration_made s0 s1 {kind = kind} {name_loc = name_loc} {name = name} {name' = name'} {e = e} {place = place} e0 p is = record {
  compiled = let Q : P.ForTarget → Type 0 = λ e. Compiled AForTarget codes.functions_for_target s0 s1 place (linked.link_for_target Unmarked e) in subst Q (sym is)
      (leaf AForTarget codes.functions_for_target s0 s1 place (built (node.TargetDeclaration kind name_loc name)) p (P.TargetDeclaration kind (P.BindingIdentifier name_loc name')) (λ t. ap (λ p. AForTarget (P.TargetDeclaration kind (P.BindingIdentifier name_loc p))) e0) refl);
}

pub target_expression_made : (s2 : Compiling) {s0 s1 : Compiling} {expression : ℕ} {expression' : P.Expr} {e : P.ForTarget} {place : ℕ} → CompilesExpr s0 s1 expression expression' →
    Pushed s1 s2 place (built (node.TargetExpression expression)) → e ≡ P.TargetExpression expression' → CompilesForTarget s0 s2 place e
target_expression_made s2 {s0 = s0} {s1 = s1} {expression = expression} {expression' = expression'} {e = e} {place = place} h0 p is = record {
  compiled = let Q : P.ForTarget → Type 0 = λ e. Compiled AForTarget codes.functions_for_target s0 s2 place (linked.link_for_target Unmarked e) in subst Q (sym is)
      (one AnExpr AForTarget codes.functions_expr codes.functions_for_target s0 s1 s2 expression place (built (node.TargetExpression expression)) (linked.link_expr Unmarked linked.Alone expression')
      (h0.compiled linked.Alone) p (λ expression'. P.TargetExpression expression')
      (λ t expression' r0. ap (λ p. AForTarget (P.TargetExpression (as_expr p))) r0) (λ k. refl));
}

pub case_made : (s3 : Compiling) {s0 s1 s2 : Compiling} {loc : Option Loc} {test : ℕ} {statements : ℕ} {test' : P.MaybeExpr} {statements' : P.Stmts} {e : P.Case} {place : ℕ} → CompilesExprIf s0 s1 test test' → CompilesStmts s1 s2 statements statements' →
    Pushed s2 s3 place (built (node.Case loc test statements)) → e ≡ P.MakeCase loc test' statements' → CompilesCase s0 s3 place e
case_made s3 {s0 = s0} {s1 = s1} {s2 = s2} {loc = loc} {test = test} {statements = statements} {test' = test'} {statements' = statements'} {e = e} {place = place} h0 h1 p is = record {
  compiled = let Q : P.Case → Type 0 = λ e. Compiled ACase codes.functions_case s0 s3 place (linked.link_case Unmarked e) in subst Q (sym is)
      (two_parts expr_or SomeStmts ACase codes.functions_expr_if codes.functions_stmts codes.functions_case s0 s1 s2 s3 test statements place (built (node.Case loc test statements)) (linked.link_expr_if Unmarked test') (linked.link_stmts Unmarked statements')
      h0.compiled h1.compiled p (λ test' statements'. P.MakeCase loc test' statements')
      (λ t test' statements' r0 r1. ap (λ p. ACase (P.MakeCase loc (as_expr_if p) (as_stmts (t statements)))) r0 ∙ ap (λ p. ACase (P.MakeCase loc p (as_stmts (t statements)))) (expr_or_back test') ∙ ap (λ p. ACase (P.MakeCase loc test' (as_stmts p))) r1) (λ test' statements'. refl));
}

pub catch_made : (s2 : Compiling) {s0 s1 : Compiling} {statements : ℕ} {statements' : P.Stmts} {e : P.Catch} {place : ℕ} → CompilesScope s0 s1 statements statements' →
    Pushed s1 s2 place (built (node.Catch statements)) → e ≡ P.MakeCatch P.none_pattern statements' → CompilesCatch s0 s2 place e
catch_made s2 {s0 = s0} {s1 = s1} {statements = statements} {statements' = statements'} {e = e} {place = place} h0 p is = record {
  compiled = let Q : P.Catch → Type 0 = λ e. Compiled ACatch codes.functions_catch s0 s2 place (linked.link_catch Unmarked e) in subst Q (sym is)
      (one AScope ACatch codes.functions_stmts codes.functions_catch s0 s1 s2 statements place (built (node.Catch statements)) (linked.link_stmts Unmarked statements')
      h0.compiled p (λ statements'. P.MakeCatch P.none_pattern statements')
      (λ t statements' r0. ap (λ p. ACatch (P.MakeCatch P.none_pattern (as_scope p))) r0) (λ k. refl));
}

pub catch_name_made : (s2 : Compiling) {s0 s1 : Compiling} {name_loc : Option Loc} {name : List ℕ} {statements : ℕ} {statements' : P.Stmts} {name' : List ℕ} {e : P.Catch} {place : ℕ} → CompilesScope s0 s1 statements statements' → name ≡ name' →
    Pushed s1 s2 place (built (node.CatchName name_loc name statements)) → e ≡ P.MakeCatch (P.some_pattern (P.BindingIdentifier name_loc name')) statements' → CompilesCatch s0 s2 place e
catch_name_made s2 {s0 = s0} {s1 = s1} {name_loc = name_loc} {name = name} {statements = statements} {statements' = statements'} {name' = name'} {e = e} {place = place} h0 e0 p is = record {
  compiled = let Q : P.Catch → Type 0 = λ e. Compiled ACatch codes.functions_catch s0 s2 place (linked.link_catch Unmarked e) in subst Q (sym is)
      (one AScope ACatch codes.functions_stmts codes.functions_catch s0 s1 s2 statements place (built (node.CatchName name_loc name statements)) (linked.link_stmts Unmarked statements')
      h0.compiled p (λ statements'. P.MakeCatch (P.some_pattern (P.BindingIdentifier name_loc name')) statements')
      (λ t statements' r0. ap (λ p. ACatch (P.MakeCatch (P.some_pattern (P.BindingIdentifier name_loc name)) (as_scope p))) r0 ∙ ap (λ p. ACatch (P.MakeCatch (P.some_pattern (P.BindingIdentifier name_loc p)) statements')) e0) (λ k. refl));
}
