-- What stands in parentheses anew is the same tree but for its pairs.
use Rattle.std.proofs.Common.{◌≡◌, ℕ, Bool, true, false, [], None, refl, ap, ◌∙◌}
use Rattle.std.specs.Prelude.{nat_lt, ◌||◌, ◌&&◌}
use Rattle.js_terms.specs.declared.operators.LogicalOperator.{LogicalOperator}
use Rattle.js_terms.specs.declared.operators.LogicalOperator.TheVariants as logic
use Rattle.js_tree.specs.Plain.{Expr, IdentifierReference, This, NullLiteral, BooleanLiteral, NumericLiteral, StringLiteral, ArrayLiteral, ObjectLiteral, FunctionExpression, ArrowFunction, RegularExpressionLiteral, TemplateLiteral, Parenthesized, NamedMember, ComputedMember, New, Call, PostfixUpdate, PrefixUpdate, Unary, Binary, Logical, Conditional, Assignment, Comma, Entered}
use Rattle.js_tree.specs.Plain.{Stmt, Directive, Block, VariableDeclaration, Empty, Expression, If, DoWhile, While, For, ForIn, ForOf, Continue, Break, Return, Switch, Labelled, Throw, TryCatch, TryFinally, TryCatchFinally, Debugger, FunctionDeclaration, EnteredStmt}
use Rattle.js_tree.specs.Plain.{Property, Shorthand, KeyValue, Method, PropertyKey, NameKey, StringKey, NumberKey, ComputedKey, ConciseBody, ExpressionBody, BlockBody, ForInit, NoInit, InitDeclaration, InitExpression, ForTarget, TargetDeclaration, TargetExpression}
use Rattle.js_tree.specs.Plain.{MakeTemplatePart, Function, MakeFunction, FunctionBody, MakeFunctionBody, EnteredBody, MakeParam, MakeDeclarator, Case, MakeCase, EnteredCase, Catch, MakeCatch}
use Rattle.js_tree.specs.Plain.{MaybeExpr, none_expr, some_expr, MaybeStmt, none_stmt, some_stmt, entered_none}
use Rattle.js_tree.specs.Plain.{TemplateParts, no_template_part, more_template_part, Properties, no_property, more_property, Params, no_param, more_param, Exprs, no_expr, more_expr, Stmts, no_stmt, more_stmt, Declarators, no_declarator, more_declarator, Cases, no_case, more_case, File, MakeFile}
use Rattle.js_tree.specs.Same.{bare_identifier, bare_identifier_if, bare_pattern, bare_pattern_if, bare_expr, bare_stmt, bare_property, bare_property_key, bare_concise_body, bare_for_init, bare_for_target, bare_function, bare_function_body, bare_case, bare_catch, bare_expr_if, bare_stmt_if, bare_template_parts, bare_properties, bare_params, bare_exprs, bare_stmts, bare_declarators, bare_cases, bare_file}
use Rattle.js_reading.specs.Level.{assignment, logical_level, left_level, right_level}
use Rattle.js_reading.specs.Productions.{call, member, logical_right}
use Rattle.js_reading.specs.Makes.{bare_in, is_and_or}
use Rattle.js_layout.specs.Tokens.{expr_tokens}
use Rattle.js_layout.specs.Neat.{level, first_is, is_brace, is_function, is_string, paired, placed, left_operand, neat_expr, neat_exprs, neat_parts, neat_properties, neat_property, neat_key, neat_function, neat_body, neat_concise, neat_params, neat_initializer, neat_declarators, neat_maybe, neat_stmt, neat_stmts, neat_else, neat_init, neat_target, neat_cases, neat_case, neat_catch, neat_file}
use Rattle.js_layout.proofs.Several.{ap_two, ap_three, ap_four}

-- ---- pairs

pub bare_paired : (b : Bool) (e x : Expr) → bare_expr (paired b e x) ≡ bare_expr x
bare_paired false e x = refl
bare_paired true (Parenthesized l e) x = refl
bare_paired true e x = refl

pub bare_placed : (n : ℕ) (e x y : Expr) → bare_expr x ≡ bare_expr y → bare_expr (placed n e x) ≡ bare_expr y
bare_placed n e x y h = bare_paired (nat_lt (level e) n) e x ∙ h

pub bare_left : (o : LogicalOperator) (e x y : Expr) → bare_expr x ≡ bare_expr y → bare_expr (left_operand o e x) ≡ bare_expr y
bare_left logic.Coalesce e x y h = bare_paired (nat_lt (level e) (logical_level logic.Coalesce) || is_and_or x) e x ∙ h
bare_left logic.And e x y h = bare_placed (logical_level logic.And) e x y h
bare_left logic.Or e x y h = bare_placed (logical_level logic.Or) e x y h

-- ---- the tree

mutual
  pub bare_neat_expr : (e : Expr) → bare_expr (neat_expr e) ≡ bare_expr e
  bare_neat_expr (IdentifierReference l w) = refl
  bare_neat_expr (This l) = refl
  bare_neat_expr (NullLiteral l) = refl
  bare_neat_expr (BooleanLiteral l b) = refl
  bare_neat_expr (NumericLiteral l w) = refl
  bare_neat_expr (StringLiteral l s) = refl
  bare_neat_expr (ArrayLiteral l xs) = ap (ArrayLiteral None) (bare_neat_exprs xs)
  bare_neat_expr (ObjectLiteral l ps) = ap (ObjectLiteral None) (bare_neat_properties ps)
  bare_neat_expr (FunctionExpression l n f) = ap (FunctionExpression None (bare_identifier_if n)) (bare_neat_function f)
  bare_neat_expr (ArrowFunction l n ps body) = ap_two (ArrowFunction None n) (bare_neat_params ps) (bare_neat_concise body)
  bare_neat_expr (RegularExpressionLiteral l body flags) = refl
  bare_neat_expr (TemplateLiteral l s parts) = ap (TemplateLiteral None s) (bare_neat_parts parts)
  bare_neat_expr (Parenthesized l e) = bare_neat_expr e
  bare_neat_expr (NamedMember l o w) = ap (λ x. NamedMember None x w) (bare_placed call o (neat_expr o) o (bare_neat_expr o))
  bare_neat_expr (ComputedMember l o k) = ap_two (ComputedMember None) (bare_placed call o (neat_expr o) o (bare_neat_expr o)) (bare_neat_expr k)
  bare_neat_expr (New l c xs) = ap_two (New None) (bare_placed member c (neat_expr c) c (bare_neat_expr c)) (bare_neat_exprs xs)
  bare_neat_expr (Call l f xs) = ap_two (Call None) (bare_placed call f (neat_expr f) f (bare_neat_expr f)) (bare_neat_exprs xs)
  bare_neat_expr (PostfixUpdate l o e) = ap (PostfixUpdate None o) (bare_placed call e (neat_expr e) e (bare_neat_expr e))
  bare_neat_expr (PrefixUpdate l o e) = ap (PrefixUpdate None o) (bare_placed 16 e (neat_expr e) e (bare_neat_expr e))
  bare_neat_expr (Unary l o e) = ap (Unary None o) (bare_placed 16 e (neat_expr e) e (bare_neat_expr e))
  bare_neat_expr (Binary l o x y) = ap_two (Binary None o) (bare_placed (left_level o) x (neat_expr x) x (bare_neat_expr x)) (bare_placed (right_level o) y (neat_expr y) y (bare_neat_expr y))
  bare_neat_expr (Logical l o x y) = ap_two (Logical None o) (bare_left o x (neat_expr x) x (bare_neat_expr x)) (bare_placed (logical_right o) y (neat_expr y) y (bare_neat_expr y))
  bare_neat_expr (Conditional l c x y) = ap_three (Conditional None) (bare_placed 4 c (neat_expr c) c (bare_neat_expr c)) (bare_placed assignment x (neat_expr x) x (bare_neat_expr x)) (bare_placed assignment y (neat_expr y) y (bare_neat_expr y))
  bare_neat_expr (Assignment l o x y) = ap_two (Assignment None o) (bare_placed call x (neat_expr x) x (bare_neat_expr x)) (bare_placed assignment y (neat_expr y) y (bare_neat_expr y))
  bare_neat_expr (Comma l x y) = ap_two (Comma None) (bare_neat_expr x) (bare_placed assignment y (neat_expr y) y (bare_neat_expr y))
  bare_neat_expr (Entered m e) = ap (Entered m) (bare_neat_expr e)

  pub bare_neat_exprs : (es : Exprs) → bare_exprs (neat_exprs es) ≡ bare_exprs es
  bare_neat_exprs no_expr = refl
  bare_neat_exprs (more_expr e es) = ap_two more_expr (bare_placed assignment e (neat_expr e) e (bare_neat_expr e)) (bare_neat_exprs es)

  pub bare_neat_parts : (ps : TemplateParts) → bare_template_parts (neat_parts ps) ≡ bare_template_parts ps
  bare_neat_parts no_template_part = refl
  bare_neat_parts (more_template_part (MakeTemplatePart e s) ps) = ap_two (λ x. more_template_part (MakeTemplatePart x s)) (bare_neat_expr e) (bare_neat_parts ps)

  pub bare_neat_properties : (ps : Properties) → bare_properties (neat_properties ps) ≡ bare_properties ps
  bare_neat_properties no_property = refl
  bare_neat_properties (more_property p ps) = ap_two more_property (bare_neat_property p) (bare_neat_properties ps)

  pub bare_neat_property : (p : Property) → bare_property (neat_property p) ≡ bare_property p
  bare_neat_property (Shorthand l w) = refl
  bare_neat_property (KeyValue l k e) = ap_two (KeyValue None) (bare_neat_key k) (bare_placed assignment e (neat_expr e) e (bare_neat_expr e))
  bare_neat_property (Method l k f) = ap_two (Method None) (bare_neat_key k) (bare_neat_function f)

  pub bare_neat_key : (k : PropertyKey) → bare_property_key (neat_key k) ≡ bare_property_key k
  bare_neat_key (NameKey w) = refl
  bare_neat_key (StringKey s) = refl
  bare_neat_key (NumberKey w) = refl
  bare_neat_key (ComputedKey e) = ap ComputedKey (bare_placed assignment e (neat_expr e) e (bare_neat_expr e))

  pub bare_neat_function : (f : Function) → bare_function (neat_function f) ≡ bare_function f
  bare_neat_function (MakeFunction n ps body) = ap_two (MakeFunction n) (bare_neat_params ps) (bare_neat_body body)

  pub bare_neat_body : (body : FunctionBody) → bare_function_body (neat_body body) ≡ bare_function_body body
  bare_neat_body (MakeFunctionBody l ss) = ap (MakeFunctionBody None) (bare_neat_stmts ss)
  bare_neat_body (EnteredBody m body) = ap (EnteredBody m) (bare_neat_body body)

  pub bare_neat_concise : (body : ConciseBody) → bare_concise_body (neat_concise body) ≡ bare_concise_body body
  bare_neat_concise (ExpressionBody e) = ap ExpressionBody (bare_paired (nat_lt (level e) assignment || first_is is_brace (expr_tokens (neat_expr e))) e (neat_expr e) ∙ bare_neat_expr e)
  bare_neat_concise (BlockBody body) = ap BlockBody (bare_neat_body body)

  pub bare_neat_params : (ps : Params) → bare_params (neat_params ps) ≡ bare_params ps
  bare_neat_params no_param = refl
  bare_neat_params (more_param (MakeParam l x e) ps) = ap_two (λ y. more_param (MakeParam None (bare_pattern x) y)) (bare_neat_initializer false e) (bare_neat_params ps)

  pub bare_neat_initializer : (head : Bool) (e : MaybeExpr) → bare_expr_if (neat_initializer head e) ≡ bare_expr_if e
  bare_neat_initializer head none_expr = refl
  bare_neat_initializer head (some_expr e) = ap some_expr (bare_paired (nat_lt (level e) assignment || (head && bare_in (neat_expr e))) e (neat_expr e) ∙ bare_neat_expr e)

  pub bare_neat_declarators : (head : Bool) (ds : Declarators) → bare_declarators (neat_declarators head ds) ≡ bare_declarators ds
  bare_neat_declarators head no_declarator = refl
  bare_neat_declarators head (more_declarator (MakeDeclarator l x e) ds) = ap_two (λ y. more_declarator (MakeDeclarator None (bare_pattern x) y)) (bare_neat_initializer head e) (bare_neat_declarators head ds)

  pub bare_neat_maybe : (e : MaybeExpr) → bare_expr_if (neat_maybe e) ≡ bare_expr_if e
  bare_neat_maybe none_expr = refl
  bare_neat_maybe (some_expr e) = ap some_expr (bare_neat_expr e)

  pub bare_neat_stmt : (s : Stmt) → bare_stmt (neat_stmt s) ≡ bare_stmt s
  bare_neat_stmt (Directive l s) = refl
  bare_neat_stmt (Block l ss) = ap (Block None) (bare_neat_stmts ss)
  bare_neat_stmt (VariableDeclaration l k ds) = ap (VariableDeclaration None k) (bare_neat_declarators false ds)
  bare_neat_stmt (Empty l) = refl
  bare_neat_stmt (Expression l e) = ap (Expression None) (bare_paired (first_is is_brace (expr_tokens (neat_expr e)) || first_is is_function (expr_tokens (neat_expr e)) || is_string (neat_expr e)) e (neat_expr e) ∙ bare_neat_expr e)
  bare_neat_stmt (If l c s r) = ap_three (If None) (bare_neat_expr c) (bare_neat_stmt s) (bare_neat_else r)
  bare_neat_stmt (DoWhile l s c) = ap_two (DoWhile None) (bare_neat_stmt s) (bare_neat_expr c)
  bare_neat_stmt (While l c s) = ap_two (While None) (bare_neat_expr c) (bare_neat_stmt s)
  bare_neat_stmt (For l x y z s) = ap_four (For None) (bare_neat_init x) (bare_neat_maybe y) (bare_neat_maybe z) (bare_neat_stmt s)
  bare_neat_stmt (ForIn l x e s) = ap_three (ForIn None) (bare_neat_target x) (bare_neat_expr e) (bare_neat_stmt s)
  bare_neat_stmt (ForOf l x e s) = ap_three (ForOf None) (bare_neat_target x) (bare_placed assignment e (neat_expr e) e (bare_neat_expr e)) (bare_neat_stmt s)
  bare_neat_stmt (Continue l x) = refl
  bare_neat_stmt (Break l x) = refl
  bare_neat_stmt (Return l e) = ap (Return None) (bare_neat_maybe e)
  bare_neat_stmt (Switch l e cs) = ap_two (Switch None) (bare_neat_expr e) (bare_neat_cases cs)
  bare_neat_stmt (Labelled l x s) = ap (Labelled None (bare_identifier x)) (bare_neat_stmt s)
  bare_neat_stmt (Throw l e) = ap (Throw None) (bare_neat_expr e)
  bare_neat_stmt (TryCatch l b c) = ap_two (TryCatch None) (bare_neat_stmts b) (bare_neat_catch c)
  bare_neat_stmt (TryFinally l b f) = ap_two (TryFinally None) (bare_neat_stmts b) (bare_neat_stmts f)
  bare_neat_stmt (TryCatchFinally l b c f) = ap_three (TryCatchFinally None) (bare_neat_stmts b) (bare_neat_catch c) (bare_neat_stmts f)
  bare_neat_stmt (Debugger l) = refl
  bare_neat_stmt (FunctionDeclaration l x f) = ap (FunctionDeclaration None (bare_identifier x)) (bare_neat_function f)
  bare_neat_stmt (EnteredStmt m s) = ap (EnteredStmt m) (bare_neat_stmt s)

  pub bare_neat_stmts : (ss : Stmts) → bare_stmts (neat_stmts ss) ≡ bare_stmts ss
  bare_neat_stmts no_stmt = refl
  bare_neat_stmts (more_stmt s ss) = ap_two more_stmt (bare_neat_stmt s) (bare_neat_stmts ss)

  pub bare_neat_else : (r : MaybeStmt) → bare_stmt_if (neat_else r) ≡ bare_stmt_if r
  bare_neat_else none_stmt = refl
  bare_neat_else (some_stmt s) = ap some_stmt (bare_neat_stmt s)
  bare_neat_else (entered_none m) = refl

  pub bare_neat_init : (x : ForInit) → bare_for_init (neat_init x) ≡ bare_for_init x
  bare_neat_init NoInit = refl
  bare_neat_init (InitDeclaration k ds) = ap (InitDeclaration k) (bare_neat_declarators true ds)
  bare_neat_init (InitExpression e) = ap InitExpression (bare_paired (bare_in (neat_expr e)) e (neat_expr e) ∙ bare_neat_expr e)

  pub bare_neat_target : (x : ForTarget) → bare_for_target (neat_target x) ≡ bare_for_target x
  bare_neat_target (TargetDeclaration k x) = refl
  bare_neat_target (TargetExpression e) = ap TargetExpression (bare_neat_expr e)

  pub bare_neat_cases : (cs : Cases) → bare_cases (neat_cases cs) ≡ bare_cases cs
  bare_neat_cases no_case = refl
  bare_neat_cases (more_case c cs) = ap_two more_case (bare_neat_case c) (bare_neat_cases cs)

  pub bare_neat_case : (c : Case) → bare_case (neat_case c) ≡ bare_case c
  bare_neat_case (MakeCase l e ss) = ap_two (MakeCase None) (bare_neat_maybe e) (bare_neat_stmts ss)
  bare_neat_case (EnteredCase m c) = ap (EnteredCase m) (bare_neat_case c)

  pub bare_neat_catch : (c : Catch) → bare_catch (neat_catch c) ≡ bare_catch c
  bare_neat_catch (MakeCatch x ss) = ap (MakeCatch (bare_pattern_if x)) (bare_neat_stmts ss)

-- a file that has its parentheses is the same
pub bare_neat_file : (file : File) → bare_file (neat_file file) ≡ bare_file file
bare_neat_file (MakeFile ss comments) = ap (λ x. MakeFile x []) (bare_neat_stmts ss)
