-- A statement that is none of these forms is counted itself, and an expression that is none of those is a leaf.
use Rattle.std.proofs.Common.{◌≡◌, Bool, true, false, List, Option, refl, sym, ap, subst, ◌∙◌}
use Rattle.js_terms.specs.declared.operators.AssignmentOperator.{AssignmentOperator}
use Rattle.js_terms.specs.declared.operators.BinaryOperator.{BinaryOperator}
use Rattle.js_terms.specs.declared.operators.LogicalOperator.{LogicalOperator}
use Rattle.js_terms.specs.declared.operators.UnaryOperator.{UnaryOperator}
use Rattle.js_terms.specs.declared.operators.UpdateOperator.{UpdateOperator}
use Rattle.js_terms.specs.declared.operators.VariableKind.{VariableKind}
use Rattle.js_terms.specs.declared.place.Loc.{Loc}
use Rattle.js_tree.specs.declared.tree.ConciseBody.{ConciseBody}
use Rattle.js_tree.specs.declared.tree.ExprNode.{ExprNode}
use Rattle.js_tree.specs.declared.tree.ForInit.{ForInit}
use Rattle.js_tree.specs.declared.tree.ForTarget.{ForTarget}
use Rattle.js_tree.specs.declared.tree.PropertyKey.{PropertyKey}
use Rattle.js_tree.specs.declared.tree.PropertyNode.{PropertyNode}
use Rattle.js_tree.specs.declared.tree.StmtNode.{StmtNode}
use Rattle.js_tree.specs.declared.tree.Case.{Case}
use Rattle.js_tree.specs.declared.tree.Catch.{Catch}
use Rattle.js_tree.specs.declared.tree.Declarator.{Declarator}
use Rattle.js_tree.specs.declared.tree.Expr.{Expr}
use Rattle.js_tree.specs.declared.tree.Function.{Function}
use Rattle.js_tree.specs.declared.tree.FunctionBody.{FunctionBody}
use Rattle.js_tree.specs.declared.tree.Param.{Param}
use Rattle.js_tree.specs.declared.tree.Property.{Property}
use Rattle.js_tree.specs.declared.tree.Stmt.{Stmt}
use Rattle.js_tree.specs.declared.tree.TemplatePart.{TemplatePart}
use Rattle.js_tree.specs.declared.tree.ExprNode.TheVariants as expr_node
use Rattle.js_tree.specs.declared.tree.StmtNode.TheVariants as stmt_node
use Rattle.js_tree.specs.declared.tree.ConciseBody.TheOpen.{ExprNode-F, StmtNode-F}
use Rattle.js_tree.specs.declared.tree.ConciseBody.TheViews.{roll-ExprNode, out-ExprNode, roll-out-ExprNode, roll-StmtNode, out-StmtNode, roll-out-StmtNode}
use Rattle.js_terms.specs.declared.words.Identifier.{Identifier}
use Rattle.js_terms.specs.declared.words.Spelled.{Spelled}
use Rattle.js_tree.specs.Tree.{plain_expr_node, plain_stmt_node}
use Rattle.js_tree.proofs.Equations.{expr_array_literal, expr_arrow_function, expr_assignment, expr_binary, expr_boolean_literal, expr_call, expr_comma, expr_computed_member, expr_conditional, expr_function_expression, expr_identifier_reference, expr_named_member, expr_new, expr_null_literal, expr_numeric_literal, expr_object_literal, expr_postfix_update, expr_prefix_update, expr_regular_expression_literal, expr_string_literal, expr_template_literal, expr_this, expr_unary, stmt_block, stmt_break, stmt_continue, stmt_debugger, stmt_directive, stmt_do_while, stmt_empty, stmt_expression, stmt_for, stmt_for_in, stmt_for_of, stmt_function_declaration, stmt_if, stmt_labelled, stmt_return, stmt_switch, stmt_throw, stmt_try_catch, stmt_try_catch_finally, stmt_try_finally, stmt_variable_declaration, stmt_while}
use Rattle.cov_rewrite.specs.Made as made

no : {A : Type 0} → false ≡ true → A
no e = absurd cc

abbrev pub NotDirective : StmtNode → Type 0
NotDirective n = (string : Spelled) → n ≡ stmt_node.Directive string → ⊥

abbrev pub NotBlock : StmtNode → Type 0
NotBlock n = (statements : List Stmt) → n ≡ stmt_node.Block statements → ⊥

abbrev pub NotVariableDeclaration : StmtNode → Type 0
NotVariableDeclaration n = (kind : VariableKind) (declarators : List Declarator) → n ≡ stmt_node.VariableDeclaration kind declarators → ⊥

abbrev pub NotEmpty : StmtNode → Type 0
NotEmpty n = n ≡ stmt_node.Empty → ⊥

abbrev pub NotExpression : StmtNode → Type 0
NotExpression n = (expression : Expr) → n ≡ stmt_node.Expression expression → ⊥

abbrev pub NotIf : StmtNode → Type 0
NotIf n = (test : Expr) (then : Stmt) (otherwise : Option Stmt) → n ≡ stmt_node.If test then otherwise → ⊥

abbrev pub NotDoWhile : StmtNode → Type 0
NotDoWhile n = (body : Stmt) (test : Expr) → n ≡ stmt_node.DoWhile body test → ⊥

abbrev pub NotWhile : StmtNode → Type 0
NotWhile n = (test : Expr) (body : Stmt) → n ≡ stmt_node.While test body → ⊥

abbrev pub NotFor : StmtNode → Type 0
NotFor n = (init : ForInit) (test : Option Expr) (update : Option Expr) (body : Stmt) → n ≡ stmt_node.For init test update body → ⊥

abbrev pub NotForIn : StmtNode → Type 0
NotForIn n = (target : ForTarget) (object : Expr) (body : Stmt) → n ≡ stmt_node.ForIn target object body → ⊥

abbrev pub NotForOf : StmtNode → Type 0
NotForOf n = (target : ForTarget) (iterable : Expr) (body : Stmt) → n ≡ stmt_node.ForOf target iterable body → ⊥

abbrev pub NotContinue : StmtNode → Type 0
NotContinue n = (label : Option Identifier) → n ≡ stmt_node.Continue label → ⊥

abbrev pub NotBreak : StmtNode → Type 0
NotBreak n = (label : Option Identifier) → n ≡ stmt_node.Break label → ⊥

abbrev pub NotReturn : StmtNode → Type 0
NotReturn n = (value : Option Expr) → n ≡ stmt_node.Return value → ⊥

abbrev pub NotSwitch : StmtNode → Type 0
NotSwitch n = (value : Expr) (cases : List Case) → n ≡ stmt_node.Switch value cases → ⊥

abbrev pub NotLabelled : StmtNode → Type 0
NotLabelled n = (label : Identifier) (body : Stmt) → n ≡ stmt_node.Labelled label body → ⊥

abbrev pub NotThrow : StmtNode → Type 0
NotThrow n = (value : Expr) → n ≡ stmt_node.Throw value → ⊥

abbrev pub NotTryCatch : StmtNode → Type 0
NotTryCatch n = (block : List Stmt) (catch : Catch) → n ≡ stmt_node.TryCatch block catch → ⊥

abbrev pub NotTryFinally : StmtNode → Type 0
NotTryFinally n = (block : List Stmt) (finally : List Stmt) → n ≡ stmt_node.TryFinally block finally → ⊥

abbrev pub NotTryCatchFinally : StmtNode → Type 0
NotTryCatchFinally n = (block : List Stmt) (catch : Catch) (finally : List Stmt) → n ≡ stmt_node.TryCatchFinally block catch finally → ⊥

abbrev pub NotDebugger : StmtNode → Type 0
NotDebugger n = n ≡ stmt_node.Debugger → ⊥

abbrev pub NotFunctionDeclaration : StmtNode → Type 0
NotFunctionDeclaration n = (name : Identifier) (function : Function) → n ≡ stmt_node.FunctionDeclaration name function → ⊥

abbrev pub NotParenthesized : ExprNode → Type 0
NotParenthesized n = (inner : Expr) → n ≡ expr_node.Parenthesized inner → ⊥

abbrev pub NotLogical : ExprNode → Type 0
NotLogical n = (operator : LogicalOperator) (left : Expr) (right : Expr) → n ≡ expr_node.Logical operator left right → ⊥

counted_else_layer : (y : StmtNode-F ConciseBody ExprNode ForInit ForTarget PropertyKey PropertyNode StmtNode Case Catch Declarator Expr Function FunctionBody Param Property Stmt TemplatePart) (loc : Option Loc) → NotDirective (roll-StmtNode y) → NotBlock (roll-StmtNode y) → NotVariableDeclaration (roll-StmtNode y) → NotEmpty (roll-StmtNode y) → NotLabelled (roll-StmtNode y) → NotFunctionDeclaration (roll-StmtNode y) → made.is_counted (plain_stmt_node (roll-StmtNode y) loc) ≡ true
counted_else_layer (StmtNode-F.Directive string) loc h _ _ _ _ _ = absurd (h string (stmt_node.rolls-Directive string))
counted_else_layer (StmtNode-F.Block statements) loc _ h _ _ _ _ = absurd (h statements (stmt_node.rolls-Block statements))
counted_else_layer (StmtNode-F.VariableDeclaration kind declarators) loc _ _ h _ _ _ = absurd (h kind declarators (stmt_node.rolls-VariableDeclaration kind declarators))
counted_else_layer StmtNode-F.Empty loc _ _ _ h _ _ = absurd (h (stmt_node.rolls-Empty))
counted_else_layer (StmtNode-F.Expression expression) loc _ _ _ _ _ _ = ap (λ (n : StmtNode). made.is_counted (plain_stmt_node n loc)) (stmt_node.rolls-Expression expression) ∙ ap made.is_counted (stmt_expression expression loc)
counted_else_layer (StmtNode-F.If test then otherwise) loc _ _ _ _ _ _ = ap (λ (n : StmtNode). made.is_counted (plain_stmt_node n loc)) (stmt_node.rolls-If test then otherwise) ∙ ap made.is_counted (stmt_if test then otherwise loc)
counted_else_layer (StmtNode-F.DoWhile body test) loc _ _ _ _ _ _ = ap (λ (n : StmtNode). made.is_counted (plain_stmt_node n loc)) (stmt_node.rolls-DoWhile body test) ∙ ap made.is_counted (stmt_do_while body test loc)
counted_else_layer (StmtNode-F.While test body) loc _ _ _ _ _ _ = ap (λ (n : StmtNode). made.is_counted (plain_stmt_node n loc)) (stmt_node.rolls-While test body) ∙ ap made.is_counted (stmt_while test body loc)
counted_else_layer (StmtNode-F.For init test update body) loc _ _ _ _ _ _ = ap (λ (n : StmtNode). made.is_counted (plain_stmt_node n loc)) (stmt_node.rolls-For init test update body) ∙ ap made.is_counted (stmt_for init test update body loc)
counted_else_layer (StmtNode-F.ForIn target object body) loc _ _ _ _ _ _ = ap (λ (n : StmtNode). made.is_counted (plain_stmt_node n loc)) (stmt_node.rolls-ForIn target object body) ∙ ap made.is_counted (stmt_for_in target object body loc)
counted_else_layer (StmtNode-F.ForOf target iterable body) loc _ _ _ _ _ _ = ap (λ (n : StmtNode). made.is_counted (plain_stmt_node n loc)) (stmt_node.rolls-ForOf target iterable body) ∙ ap made.is_counted (stmt_for_of target iterable body loc)
counted_else_layer (StmtNode-F.Continue label) loc _ _ _ _ _ _ = ap (λ (n : StmtNode). made.is_counted (plain_stmt_node n loc)) (stmt_node.rolls-Continue label) ∙ ap made.is_counted (stmt_continue label loc)
counted_else_layer (StmtNode-F.Break label) loc _ _ _ _ _ _ = ap (λ (n : StmtNode). made.is_counted (plain_stmt_node n loc)) (stmt_node.rolls-Break label) ∙ ap made.is_counted (stmt_break label loc)
counted_else_layer (StmtNode-F.Return value) loc _ _ _ _ _ _ = ap (λ (n : StmtNode). made.is_counted (plain_stmt_node n loc)) (stmt_node.rolls-Return value) ∙ ap made.is_counted (stmt_return value loc)
counted_else_layer (StmtNode-F.Switch value cases) loc _ _ _ _ _ _ = ap (λ (n : StmtNode). made.is_counted (plain_stmt_node n loc)) (stmt_node.rolls-Switch value cases) ∙ ap made.is_counted (stmt_switch value cases loc)
counted_else_layer (StmtNode-F.Labelled label body) loc _ _ _ _ h _ = absurd (h label body (stmt_node.rolls-Labelled label body))
counted_else_layer (StmtNode-F.Throw value) loc _ _ _ _ _ _ = ap (λ (n : StmtNode). made.is_counted (plain_stmt_node n loc)) (stmt_node.rolls-Throw value) ∙ ap made.is_counted (stmt_throw value loc)
counted_else_layer (StmtNode-F.TryCatch block catch) loc _ _ _ _ _ _ = ap (λ (n : StmtNode). made.is_counted (plain_stmt_node n loc)) (stmt_node.rolls-TryCatch block catch) ∙ ap made.is_counted (stmt_try_catch block catch loc)
counted_else_layer (StmtNode-F.TryFinally block finally) loc _ _ _ _ _ _ = ap (λ (n : StmtNode). made.is_counted (plain_stmt_node n loc)) (stmt_node.rolls-TryFinally block finally) ∙ ap made.is_counted (stmt_try_finally block finally loc)
counted_else_layer (StmtNode-F.TryCatchFinally block catch finally) loc _ _ _ _ _ _ = ap (λ (n : StmtNode). made.is_counted (plain_stmt_node n loc)) (stmt_node.rolls-TryCatchFinally block catch finally) ∙ ap made.is_counted (stmt_try_catch_finally block catch finally loc)
counted_else_layer StmtNode-F.Debugger loc _ _ _ _ _ _ = ap (λ (n : StmtNode). made.is_counted (plain_stmt_node n loc)) (stmt_node.rolls-Debugger) ∙ ap made.is_counted (stmt_debugger loc)
counted_else_layer (StmtNode-F.FunctionDeclaration name function) loc _ _ _ _ _ h = absurd (h name function (stmt_node.rolls-FunctionDeclaration name function))

pub counted_else : (n : StmtNode) (loc : Option Loc) → NotDirective n → NotBlock n → NotVariableDeclaration n → NotEmpty n → NotLabelled n → NotFunctionDeclaration n → made.is_counted (plain_stmt_node n loc) ≡ true
counted_else n loc = subst (λ (n : StmtNode). NotDirective n → NotBlock n → NotVariableDeclaration n → NotEmpty n → NotLabelled n → NotFunctionDeclaration n → made.is_counted (plain_stmt_node n loc) ≡ true) (roll-out-StmtNode n) (counted_else_layer (out-StmtNode n) loc)

branching_else_layer : (y : StmtNode-F ConciseBody ExprNode ForInit ForTarget PropertyKey PropertyNode StmtNode Case Catch Declarator Expr Function FunctionBody Param Property Stmt TemplatePart) (loc : Option Loc) → NotExpression (roll-StmtNode y) → NotDoWhile (roll-StmtNode y) → NotWhile (roll-StmtNode y) → NotFor (roll-StmtNode y) → NotForIn (roll-StmtNode y) → NotForOf (roll-StmtNode y) → NotContinue (roll-StmtNode y) → NotBreak (roll-StmtNode y) → NotReturn (roll-StmtNode y) → NotThrow (roll-StmtNode y) → NotDebugger (roll-StmtNode y) → made.is_counted (plain_stmt_node (roll-StmtNode y) loc) ≡ true → made.is_branching (plain_stmt_node (roll-StmtNode y) loc) ≡ true
branching_else_layer (StmtNode-F.Directive string) loc _ _ _ _ _ _ _ _ _ _ _ g = no (sym (ap (λ (n : StmtNode). made.is_counted (plain_stmt_node n loc)) (stmt_node.rolls-Directive string) ∙ ap made.is_counted (stmt_directive string loc)) ∙ g)
branching_else_layer (StmtNode-F.Block statements) loc _ _ _ _ _ _ _ _ _ _ _ g = no (sym (ap (λ (n : StmtNode). made.is_counted (plain_stmt_node n loc)) (stmt_node.rolls-Block statements) ∙ ap made.is_counted (stmt_block statements loc)) ∙ g)
branching_else_layer (StmtNode-F.VariableDeclaration kind declarators) loc _ _ _ _ _ _ _ _ _ _ _ g = no (sym (ap (λ (n : StmtNode). made.is_counted (plain_stmt_node n loc)) (stmt_node.rolls-VariableDeclaration kind declarators) ∙ ap made.is_counted (stmt_variable_declaration kind declarators loc)) ∙ g)
branching_else_layer StmtNode-F.Empty loc _ _ _ _ _ _ _ _ _ _ _ g = no (sym (ap (λ (n : StmtNode). made.is_counted (plain_stmt_node n loc)) (stmt_node.rolls-Empty) ∙ ap made.is_counted (stmt_empty loc)) ∙ g)
branching_else_layer (StmtNode-F.Expression expression) loc h _ _ _ _ _ _ _ _ _ _ _ = absurd (h expression (stmt_node.rolls-Expression expression))
branching_else_layer (StmtNode-F.If test then otherwise) loc _ _ _ _ _ _ _ _ _ _ _ _ = ap (λ (n : StmtNode). made.is_branching (plain_stmt_node n loc)) (stmt_node.rolls-If test then otherwise) ∙ ap made.is_branching (stmt_if test then otherwise loc)
branching_else_layer (StmtNode-F.DoWhile body test) loc _ h _ _ _ _ _ _ _ _ _ _ = absurd (h body test (stmt_node.rolls-DoWhile body test))
branching_else_layer (StmtNode-F.While test body) loc _ _ h _ _ _ _ _ _ _ _ _ = absurd (h test body (stmt_node.rolls-While test body))
branching_else_layer (StmtNode-F.For init test update body) loc _ _ _ h _ _ _ _ _ _ _ _ = absurd (h init test update body (stmt_node.rolls-For init test update body))
branching_else_layer (StmtNode-F.ForIn target object body) loc _ _ _ _ h _ _ _ _ _ _ _ = absurd (h target object body (stmt_node.rolls-ForIn target object body))
branching_else_layer (StmtNode-F.ForOf target iterable body) loc _ _ _ _ _ h _ _ _ _ _ _ = absurd (h target iterable body (stmt_node.rolls-ForOf target iterable body))
branching_else_layer (StmtNode-F.Continue label) loc _ _ _ _ _ _ h _ _ _ _ _ = absurd (h label (stmt_node.rolls-Continue label))
branching_else_layer (StmtNode-F.Break label) loc _ _ _ _ _ _ _ h _ _ _ _ = absurd (h label (stmt_node.rolls-Break label))
branching_else_layer (StmtNode-F.Return value) loc _ _ _ _ _ _ _ _ h _ _ _ = absurd (h value (stmt_node.rolls-Return value))
branching_else_layer (StmtNode-F.Switch value cases) loc _ _ _ _ _ _ _ _ _ _ _ _ = ap (λ (n : StmtNode). made.is_branching (plain_stmt_node n loc)) (stmt_node.rolls-Switch value cases) ∙ ap made.is_branching (stmt_switch value cases loc)
branching_else_layer (StmtNode-F.Labelled label body) loc _ _ _ _ _ _ _ _ _ _ _ g = no (sym (ap (λ (n : StmtNode). made.is_counted (plain_stmt_node n loc)) (stmt_node.rolls-Labelled label body) ∙ ap made.is_counted (stmt_labelled label body loc)) ∙ g)
branching_else_layer (StmtNode-F.Throw value) loc _ _ _ _ _ _ _ _ _ h _ _ = absurd (h value (stmt_node.rolls-Throw value))
branching_else_layer (StmtNode-F.TryCatch block catch) loc _ _ _ _ _ _ _ _ _ _ _ _ = ap (λ (n : StmtNode). made.is_branching (plain_stmt_node n loc)) (stmt_node.rolls-TryCatch block catch) ∙ ap made.is_branching (stmt_try_catch block catch loc)
branching_else_layer (StmtNode-F.TryFinally block finally) loc _ _ _ _ _ _ _ _ _ _ _ _ = ap (λ (n : StmtNode). made.is_branching (plain_stmt_node n loc)) (stmt_node.rolls-TryFinally block finally) ∙ ap made.is_branching (stmt_try_finally block finally loc)
branching_else_layer (StmtNode-F.TryCatchFinally block catch finally) loc _ _ _ _ _ _ _ _ _ _ _ _ = ap (λ (n : StmtNode). made.is_branching (plain_stmt_node n loc)) (stmt_node.rolls-TryCatchFinally block catch finally) ∙ ap made.is_branching (stmt_try_catch_finally block catch finally loc)
branching_else_layer StmtNode-F.Debugger loc _ _ _ _ _ _ _ _ _ _ h _ = absurd (h (stmt_node.rolls-Debugger))
branching_else_layer (StmtNode-F.FunctionDeclaration name function) loc _ _ _ _ _ _ _ _ _ _ _ g = no (sym (ap (λ (n : StmtNode). made.is_counted (plain_stmt_node n loc)) (stmt_node.rolls-FunctionDeclaration name function) ∙ ap made.is_counted (stmt_function_declaration name function loc)) ∙ g)

pub branching_else : (n : StmtNode) (loc : Option Loc) → NotExpression n → NotDoWhile n → NotWhile n → NotFor n → NotForIn n → NotForOf n → NotContinue n → NotBreak n → NotReturn n → NotThrow n → NotDebugger n → made.is_counted (plain_stmt_node n loc) ≡ true → made.is_branching (plain_stmt_node n loc) ≡ true
branching_else n loc = subst (λ (n : StmtNode). NotExpression n → NotDoWhile n → NotWhile n → NotFor n → NotForIn n → NotForOf n → NotContinue n → NotBreak n → NotReturn n → NotThrow n → NotDebugger n → made.is_counted (plain_stmt_node n loc) ≡ true → made.is_branching (plain_stmt_node n loc) ≡ true) (roll-out-StmtNode n) (branching_else_layer (out-StmtNode n) loc)

never_else_layer : (y : StmtNode-F ConciseBody ExprNode ForInit ForTarget PropertyKey PropertyNode StmtNode Case Catch Declarator Expr Function FunctionBody Param Property Stmt TemplatePart) (loc : Option Loc) → NotIf (roll-StmtNode y) → NotSwitch (roll-StmtNode y) → NotTryCatch (roll-StmtNode y) → NotTryFinally (roll-StmtNode y) → NotTryCatchFinally (roll-StmtNode y) → made.is_branching (plain_stmt_node (roll-StmtNode y) loc) ≡ true → ⊥
never_else_layer (StmtNode-F.Directive string) loc _ _ _ _ _ g = no (sym (ap (λ (n : StmtNode). made.is_branching (plain_stmt_node n loc)) (stmt_node.rolls-Directive string) ∙ ap made.is_branching (stmt_directive string loc)) ∙ g)
never_else_layer (StmtNode-F.Block statements) loc _ _ _ _ _ g = no (sym (ap (λ (n : StmtNode). made.is_branching (plain_stmt_node n loc)) (stmt_node.rolls-Block statements) ∙ ap made.is_branching (stmt_block statements loc)) ∙ g)
never_else_layer (StmtNode-F.VariableDeclaration kind declarators) loc _ _ _ _ _ g = no (sym (ap (λ (n : StmtNode). made.is_branching (plain_stmt_node n loc)) (stmt_node.rolls-VariableDeclaration kind declarators) ∙ ap made.is_branching (stmt_variable_declaration kind declarators loc)) ∙ g)
never_else_layer StmtNode-F.Empty loc _ _ _ _ _ g = no (sym (ap (λ (n : StmtNode). made.is_branching (plain_stmt_node n loc)) (stmt_node.rolls-Empty) ∙ ap made.is_branching (stmt_empty loc)) ∙ g)
never_else_layer (StmtNode-F.Expression expression) loc _ _ _ _ _ g = no (sym (ap (λ (n : StmtNode). made.is_branching (plain_stmt_node n loc)) (stmt_node.rolls-Expression expression) ∙ ap made.is_branching (stmt_expression expression loc)) ∙ g)
never_else_layer (StmtNode-F.If test then otherwise) loc h _ _ _ _ _ = absurd (h test then otherwise (stmt_node.rolls-If test then otherwise))
never_else_layer (StmtNode-F.DoWhile body test) loc _ _ _ _ _ g = no (sym (ap (λ (n : StmtNode). made.is_branching (plain_stmt_node n loc)) (stmt_node.rolls-DoWhile body test) ∙ ap made.is_branching (stmt_do_while body test loc)) ∙ g)
never_else_layer (StmtNode-F.While test body) loc _ _ _ _ _ g = no (sym (ap (λ (n : StmtNode). made.is_branching (plain_stmt_node n loc)) (stmt_node.rolls-While test body) ∙ ap made.is_branching (stmt_while test body loc)) ∙ g)
never_else_layer (StmtNode-F.For init test update body) loc _ _ _ _ _ g = no (sym (ap (λ (n : StmtNode). made.is_branching (plain_stmt_node n loc)) (stmt_node.rolls-For init test update body) ∙ ap made.is_branching (stmt_for init test update body loc)) ∙ g)
never_else_layer (StmtNode-F.ForIn target object body) loc _ _ _ _ _ g = no (sym (ap (λ (n : StmtNode). made.is_branching (plain_stmt_node n loc)) (stmt_node.rolls-ForIn target object body) ∙ ap made.is_branching (stmt_for_in target object body loc)) ∙ g)
never_else_layer (StmtNode-F.ForOf target iterable body) loc _ _ _ _ _ g = no (sym (ap (λ (n : StmtNode). made.is_branching (plain_stmt_node n loc)) (stmt_node.rolls-ForOf target iterable body) ∙ ap made.is_branching (stmt_for_of target iterable body loc)) ∙ g)
never_else_layer (StmtNode-F.Continue label) loc _ _ _ _ _ g = no (sym (ap (λ (n : StmtNode). made.is_branching (plain_stmt_node n loc)) (stmt_node.rolls-Continue label) ∙ ap made.is_branching (stmt_continue label loc)) ∙ g)
never_else_layer (StmtNode-F.Break label) loc _ _ _ _ _ g = no (sym (ap (λ (n : StmtNode). made.is_branching (plain_stmt_node n loc)) (stmt_node.rolls-Break label) ∙ ap made.is_branching (stmt_break label loc)) ∙ g)
never_else_layer (StmtNode-F.Return value) loc _ _ _ _ _ g = no (sym (ap (λ (n : StmtNode). made.is_branching (plain_stmt_node n loc)) (stmt_node.rolls-Return value) ∙ ap made.is_branching (stmt_return value loc)) ∙ g)
never_else_layer (StmtNode-F.Switch value cases) loc _ h _ _ _ _ = absurd (h value cases (stmt_node.rolls-Switch value cases))
never_else_layer (StmtNode-F.Labelled label body) loc _ _ _ _ _ g = no (sym (ap (λ (n : StmtNode). made.is_branching (plain_stmt_node n loc)) (stmt_node.rolls-Labelled label body) ∙ ap made.is_branching (stmt_labelled label body loc)) ∙ g)
never_else_layer (StmtNode-F.Throw value) loc _ _ _ _ _ g = no (sym (ap (λ (n : StmtNode). made.is_branching (plain_stmt_node n loc)) (stmt_node.rolls-Throw value) ∙ ap made.is_branching (stmt_throw value loc)) ∙ g)
never_else_layer (StmtNode-F.TryCatch block catch) loc _ _ h _ _ _ = absurd (h block catch (stmt_node.rolls-TryCatch block catch))
never_else_layer (StmtNode-F.TryFinally block finally) loc _ _ _ h _ _ = absurd (h block finally (stmt_node.rolls-TryFinally block finally))
never_else_layer (StmtNode-F.TryCatchFinally block catch finally) loc _ _ _ _ h _ = absurd (h block catch finally (stmt_node.rolls-TryCatchFinally block catch finally))
never_else_layer StmtNode-F.Debugger loc _ _ _ _ _ g = no (sym (ap (λ (n : StmtNode). made.is_branching (plain_stmt_node n loc)) (stmt_node.rolls-Debugger) ∙ ap made.is_branching (stmt_debugger loc)) ∙ g)
never_else_layer (StmtNode-F.FunctionDeclaration name function) loc _ _ _ _ _ g = no (sym (ap (λ (n : StmtNode). made.is_branching (plain_stmt_node n loc)) (stmt_node.rolls-FunctionDeclaration name function) ∙ ap made.is_branching (stmt_function_declaration name function loc)) ∙ g)

pub never_else : (n : StmtNode) (loc : Option Loc) → NotIf n → NotSwitch n → NotTryCatch n → NotTryFinally n → NotTryCatchFinally n → made.is_branching (plain_stmt_node n loc) ≡ true → ⊥
never_else n loc = subst (λ (n : StmtNode). NotIf n → NotSwitch n → NotTryCatch n → NotTryFinally n → NotTryCatchFinally n → made.is_branching (plain_stmt_node n loc) ≡ true → ⊥) (roll-out-StmtNode n) (never_else_layer (out-StmtNode n) loc)

leaf_else_layer : (y : ExprNode-F ConciseBody ExprNode ForInit ForTarget PropertyKey PropertyNode StmtNode Case Catch Declarator Expr Function FunctionBody Param Property Stmt TemplatePart) (loc : Option Loc) → NotLogical (roll-ExprNode y) → NotParenthesized (roll-ExprNode y) → made.is_leaf (plain_expr_node (roll-ExprNode y) loc) ≡ true
leaf_else_layer (ExprNode-F.IdentifierReference name) loc _ _ = ap (λ (n : ExprNode). made.is_leaf (plain_expr_node n loc)) (expr_node.rolls-IdentifierReference name) ∙ ap made.is_leaf (expr_identifier_reference name loc)
leaf_else_layer ExprNode-F.This loc _ _ = ap (λ (n : ExprNode). made.is_leaf (plain_expr_node n loc)) (expr_node.rolls-This) ∙ ap made.is_leaf (expr_this loc)
leaf_else_layer ExprNode-F.NullLiteral loc _ _ = ap (λ (n : ExprNode). made.is_leaf (plain_expr_node n loc)) (expr_node.rolls-NullLiteral) ∙ ap made.is_leaf (expr_null_literal loc)
leaf_else_layer (ExprNode-F.BooleanLiteral value) loc _ _ = ap (λ (n : ExprNode). made.is_leaf (plain_expr_node n loc)) (expr_node.rolls-BooleanLiteral value) ∙ ap made.is_leaf (expr_boolean_literal value loc)
leaf_else_layer (ExprNode-F.NumericLiteral spelling) loc _ _ = ap (λ (n : ExprNode). made.is_leaf (plain_expr_node n loc)) (expr_node.rolls-NumericLiteral spelling) ∙ ap made.is_leaf (expr_numeric_literal spelling loc)
leaf_else_layer (ExprNode-F.StringLiteral string) loc _ _ = ap (λ (n : ExprNode). made.is_leaf (plain_expr_node n loc)) (expr_node.rolls-StringLiteral string) ∙ ap made.is_leaf (expr_string_literal string loc)
leaf_else_layer (ExprNode-F.ArrayLiteral items) loc _ _ = ap (λ (n : ExprNode). made.is_leaf (plain_expr_node n loc)) (expr_node.rolls-ArrayLiteral items) ∙ ap made.is_leaf (expr_array_literal items loc)
leaf_else_layer (ExprNode-F.ObjectLiteral properties) loc _ _ = ap (λ (n : ExprNode). made.is_leaf (plain_expr_node n loc)) (expr_node.rolls-ObjectLiteral properties) ∙ ap made.is_leaf (expr_object_literal properties loc)
leaf_else_layer (ExprNode-F.FunctionExpression name function) loc _ _ = ap (λ (n : ExprNode). made.is_leaf (plain_expr_node n loc)) (expr_node.rolls-FunctionExpression name function) ∙ ap made.is_leaf (expr_function_expression name function loc)
leaf_else_layer (ExprNode-F.ArrowFunction params body) loc _ _ = ap (λ (n : ExprNode). made.is_leaf (plain_expr_node n loc)) (expr_node.rolls-ArrowFunction params body) ∙ ap made.is_leaf (expr_arrow_function params body loc)
leaf_else_layer (ExprNode-F.RegularExpressionLiteral body flags) loc _ _ = ap (λ (n : ExprNode). made.is_leaf (plain_expr_node n loc)) (expr_node.rolls-RegularExpressionLiteral body flags) ∙ ap made.is_leaf (expr_regular_expression_literal body flags loc)
leaf_else_layer (ExprNode-F.TemplateLiteral head parts) loc _ _ = ap (λ (n : ExprNode). made.is_leaf (plain_expr_node n loc)) (expr_node.rolls-TemplateLiteral head parts) ∙ ap made.is_leaf (expr_template_literal head parts loc)
leaf_else_layer (ExprNode-F.Parenthesized inner) loc _ h = absurd (h inner (expr_node.rolls-Parenthesized inner))
leaf_else_layer (ExprNode-F.NamedMember object name) loc _ _ = ap (λ (n : ExprNode). made.is_leaf (plain_expr_node n loc)) (expr_node.rolls-NamedMember object name) ∙ ap made.is_leaf (expr_named_member object name loc)
leaf_else_layer (ExprNode-F.ComputedMember object key) loc _ _ = ap (λ (n : ExprNode). made.is_leaf (plain_expr_node n loc)) (expr_node.rolls-ComputedMember object key) ∙ ap made.is_leaf (expr_computed_member object key loc)
leaf_else_layer (ExprNode-F.New constructor arguments) loc _ _ = ap (λ (n : ExprNode). made.is_leaf (plain_expr_node n loc)) (expr_node.rolls-New constructor arguments) ∙ ap made.is_leaf (expr_new constructor arguments loc)
leaf_else_layer (ExprNode-F.Call callee arguments) loc _ _ = ap (λ (n : ExprNode). made.is_leaf (plain_expr_node n loc)) (expr_node.rolls-Call callee arguments) ∙ ap made.is_leaf (expr_call callee arguments loc)
leaf_else_layer (ExprNode-F.PostfixUpdate operator operand) loc _ _ = ap (λ (n : ExprNode). made.is_leaf (plain_expr_node n loc)) (expr_node.rolls-PostfixUpdate operator operand) ∙ ap made.is_leaf (expr_postfix_update operator operand loc)
leaf_else_layer (ExprNode-F.PrefixUpdate operator operand) loc _ _ = ap (λ (n : ExprNode). made.is_leaf (plain_expr_node n loc)) (expr_node.rolls-PrefixUpdate operator operand) ∙ ap made.is_leaf (expr_prefix_update operator operand loc)
leaf_else_layer (ExprNode-F.Unary operator operand) loc _ _ = ap (λ (n : ExprNode). made.is_leaf (plain_expr_node n loc)) (expr_node.rolls-Unary operator operand) ∙ ap made.is_leaf (expr_unary operator operand loc)
leaf_else_layer (ExprNode-F.Binary operator left right) loc _ _ = ap (λ (n : ExprNode). made.is_leaf (plain_expr_node n loc)) (expr_node.rolls-Binary operator left right) ∙ ap made.is_leaf (expr_binary operator left right loc)
leaf_else_layer (ExprNode-F.Logical operator left right) loc h _ = absurd (h operator left right (expr_node.rolls-Logical operator left right))
leaf_else_layer (ExprNode-F.Conditional test then otherwise) loc _ _ = ap (λ (n : ExprNode). made.is_leaf (plain_expr_node n loc)) (expr_node.rolls-Conditional test then otherwise) ∙ ap made.is_leaf (expr_conditional test then otherwise loc)
leaf_else_layer (ExprNode-F.Assignment operator target value) loc _ _ = ap (λ (n : ExprNode). made.is_leaf (plain_expr_node n loc)) (expr_node.rolls-Assignment operator target value) ∙ ap made.is_leaf (expr_assignment operator target value loc)
leaf_else_layer (ExprNode-F.Comma left right) loc _ _ = ap (λ (n : ExprNode). made.is_leaf (plain_expr_node n loc)) (expr_node.rolls-Comma left right) ∙ ap made.is_leaf (expr_comma left right loc)

pub leaf_else : (n : ExprNode) (loc : Option Loc) → NotLogical n → NotParenthesized n → made.is_leaf (plain_expr_node n loc) ≡ true
leaf_else n loc = subst (λ (n : ExprNode). NotLogical n → NotParenthesized n → made.is_leaf (plain_expr_node n loc) ≡ true) (roll-out-ExprNode n) (leaf_else_layer (out-ExprNode n) loc)
