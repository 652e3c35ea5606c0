-- A tree's tokens weigh no more than the tree is charged.
use Rattle.std.proofs.Common.{◌≡◌, ℕ, ◌+◌, ◌≤◌, Bool, true, false, List, ◌∷◌, length, Option, Some, None, refl, ap, arith, length-append}
use Rattle.std.specs.Prelude.{nat_lt, ◌||◌, ◌&&◌}
use Rattle.js_terms.specs.declared.place.Loc.{Loc}
use Rattle.js_terms.specs.declared.words.Identifier.{Identifier}
use Rattle.js_terms.specs.declared.operators.LogicalOperator.{LogicalOperator}
use Rattle.js_terms.specs.declared.operators.LogicalOperator.TheVariants as logic
use Rattle.js_tree.specs.Plain.{Expr, IdentifierReference, This, NullLiteral, BooleanLiteral, NumericLiteral, StringLiteral, ArrayLiteral, ObjectLiteral, FunctionExpression, ArrowFunction, RegularExpressionLiteral, TemplateLiteral, Parenthesized, NamedMember, ComputedMember, New, Call, PostfixUpdate, PrefixUpdate, Unary, Binary, Logical, Conditional, Assignment, Comma, Entered}
use Rattle.js_tree.specs.Plain.{Stmt, Directive, Block, VariableDeclaration, Empty, Expression, If, DoWhile, While, For, ForIn, ForOf, Continue, Break, Return, Switch, Labelled, Throw, TryCatch, TryFinally, TryCatchFinally, Debugger, FunctionDeclaration, EnteredStmt}
use Rattle.js_tree.specs.Plain.{Property, Shorthand, KeyValue, Method, PropertyKey, NameKey, StringKey, NumberKey, ComputedKey, ConciseBody, ExpressionBody, BlockBody, ForInit, NoInit, InitDeclaration, InitExpression, ForTarget, TargetDeclaration, TargetExpression}
use Rattle.js_tree.specs.Plain.{MakeTemplatePart, Function, MakeFunction, FunctionBody, MakeFunctionBody, EnteredBody, MakeParam, MakeDeclarator, Case, MakeCase, EnteredCase, Catch, MakeCatch, Pattern, BindingIdentifier}
use Rattle.js_tree.specs.Plain.{none_pattern, some_pattern, MaybeExpr, none_expr, some_expr, MaybeStmt, none_stmt, some_stmt, entered_none}
use Rattle.js_tree.specs.Plain.{TemplateParts, no_template_part, more_template_part, Properties, no_property, more_property, Params, no_param, more_param, Exprs, no_expr, more_expr, Stmts, no_stmt, more_stmt, Declarators, no_declarator, more_declarator, Cases, no_case, more_case}
use Rattle.js_text.specs.Token.{spelling}
use Rattle.js_reading.specs.Level.{assignment, logical_level, left_level, right_level}
use Rattle.js_reading.specs.Productions.{call, member, logical_right}
use Rattle.js_reading.specs.Makes.{bare_in, is_and_or}
use Rattle.js_layout.specs.Tokens.{first_part, later_part, label_tokens, pattern_tokens, expr_tokens, exprs_tokens, more_exprs_tokens, parts_tokens, properties_tokens, more_properties_tokens, property_tokens, key_tokens, function_tokens, body_tokens, concise_tokens, params_tokens, more_params_tokens, initializer_tokens, stmt_tokens, stmts_tokens, maybe_tokens, else_tokens, declarators_tokens, more_declarators_tokens, init_tokens, target_tokens, cases_tokens, case_tokens, catch_tokens}
use Rattle.js_layout.specs.Neat.{level, first_is, is_brace, is_function, is_string, placed, left_operand, as_statement, as_body, as_initializer, neat_expr, neat_exprs, neat_parts, neat_properties, neat_property, neat_key, neat_function, neat_body, neat_concise, neat_params, neat_initializer, neat_declarators, neat_maybe, neat_stmt, neat_stmts, neat_else, neat_init, neat_target, neat_cases, neat_case, neat_catch}
use Rattle.js_layout.proofs.ShortSizes.{size_label, size_pattern, size_expr, sizes, size_parts, size_properties, size_property, size_key, size_function, size_body, size_concise, size_params, size_initializer, size_stmt, size_stmts, size_maybe, size_else, size_declarators, size_init, size_target, size_cases, size_case, size_catch}
use Rattle.js_layout.proofs.ShortWeights.{weight, weight_append, weight_begun, weight_paired}

-- ---- pairs, names, and the parts of a template

placed_light : (n : ℕ) (e x : Expr) → weight (expr_tokens (placed n e x)) ≤ weight (expr_tokens x) + 4
placed_light n e x = weight_paired (nat_lt (level e) n) e x

left_light : (o : LogicalOperator) (e x : Expr) → weight (expr_tokens (left_operand o e x)) ≤ weight (expr_tokens x) + 4
left_light logic.Coalesce e x = weight_paired (nat_lt (level e) (logical_level logic.Coalesce) || is_and_or x) e x
left_light logic.And e x = placed_light (logical_level logic.And) e x
left_light logic.Or e x = placed_light (logical_level logic.Or) e x

statement_light : (e x : Expr) → weight (expr_tokens (as_statement e x)) ≤ weight (expr_tokens x) + 4
statement_light e x = weight_paired (first_is is_brace (expr_tokens x) || first_is is_function (expr_tokens x) || is_string x) e x

body_light : (e x : Expr) → weight (expr_tokens (as_body e x)) ≤ weight (expr_tokens x) + 4
body_light e x = weight_paired (nat_lt (level e) assignment || first_is is_brace (expr_tokens x)) e x

initializer_light : (head : Bool) (e x : Expr) → weight (expr_tokens (as_initializer head e x)) ≤ weight (expr_tokens x) + 4
initializer_light head e x = weight_paired (nat_lt (level e) assignment || (head && bare_in x)) e x

label_light : (l : Option Loc) (x : Option Identifier) → weight (label_tokens l x) ≤ size_label x
label_light l None = omega arith
label_light l (Some x) = omega arith

pattern_light : (l : Option Loc) (x : Pattern) → weight (pattern_tokens l x) ≤ size_pattern x
pattern_light l (BindingIdentifier m w) = omega arith

first_spelt : (ps : TemplateParts) (w : List ℕ) → spelling (first_part ps w) ≡ w
first_spelt no_template_part w = refl
first_spelt (more_template_part p ps) w = refl

later_spelt : (ps : TemplateParts) (w : List ℕ) → spelling (later_part ps w) ≡ w
later_spelt no_template_part w = refl
later_spelt (more_template_part p ps) w = refl

-- ---- the tree

mutual
  light_expr : (e : Expr) → weight (expr_tokens (neat_expr e)) + 4 ≤ size_expr e
  light_expr (IdentifierReference l w) = simp weight_begun (omega arith)
  light_expr (This l) = simp weight_begun (omega arith)
  light_expr (NullLiteral l) = simp weight_begun (omega arith)
  light_expr (BooleanLiteral l b) = simp weight_begun (omega arith)
  light_expr (NumericLiteral l w) = simp weight_begun (omega arith)
  light_expr (StringLiteral l s) = simp weight_begun (omega arith)
  light_expr (ArrayLiteral l xs) = simp (weight_begun, weight_append) (omega (arith, light_exprs l xs))
  light_expr (ObjectLiteral l ps) = simp (weight_begun, weight_append) (omega (arith, light_properties l ps))
  light_expr (FunctionExpression l n f) = simp (weight_begun, weight_append) (omega (arith, label_light l n, light_function l f))
  light_expr (ArrowFunction l n ps body) = simp (weight_begun, weight_append) (omega (arith, light_params l ps, light_concise body))
  light_expr (RegularExpressionLiteral l body flags) = simp weight_begun (omega (arith, length-append body (0x2F ∷ flags)))
  light_expr (TemplateLiteral l s parts) = simp weight_begun (omega (arith, ap (λ (x : List ℕ). length x) (first_spelt (neat_parts parts) s.spelling), light_parts l parts))
  light_expr (Parenthesized l e) = light_expr e
  light_expr (NamedMember l o w) = simp (weight_begun, weight_append) (omega (arith, light_expr o, placed_light call o (neat_expr o)))
  light_expr (ComputedMember l o k) = simp (weight_begun, weight_append) (omega (arith, light_expr o, placed_light call o (neat_expr o), light_expr k))
  light_expr (New l c xs) = simp (weight_begun, weight_append) (omega (arith, light_expr c, placed_light member c (neat_expr c), light_exprs l xs))
  light_expr (Call l f xs) = simp (weight_begun, weight_append) (omega (arith, light_expr f, placed_light call f (neat_expr f), light_exprs l xs))
  light_expr (PostfixUpdate l o e) = simp (weight_begun, weight_append) (omega (arith, light_expr e, placed_light call e (neat_expr e)))
  light_expr (PrefixUpdate l o e) = simp weight_begun (omega (arith, light_expr e, placed_light 16 e (neat_expr e)))
  light_expr (Unary l o e) = simp weight_begun (omega (arith, light_expr e, placed_light 16 e (neat_expr e)))
  light_expr (Binary l o x y) = simp (weight_begun, weight_append) (omega (arith, light_expr x, placed_light (left_level o) x (neat_expr x), light_expr y, placed_light (right_level o) y (neat_expr y)))
  light_expr (Logical l o x y) = simp (weight_begun, weight_append) (omega (arith, light_expr x, left_light o x (neat_expr x), light_expr y, placed_light (logical_right o) y (neat_expr y)))
  light_expr (Conditional l c x y) = simp (weight_begun, weight_append) (omega (arith, light_expr c, placed_light 4 c (neat_expr c), light_expr x, placed_light assignment x (neat_expr x), light_expr y, placed_light assignment y (neat_expr y)))
  light_expr (Assignment l o x y) = simp (weight_begun, weight_append) (omega (arith, light_expr x, placed_light call x (neat_expr x), light_expr y, placed_light assignment y (neat_expr y)))
  light_expr (Comma l x y) = simp (weight_begun, weight_append) (omega (arith, light_expr x, light_expr y, placed_light assignment y (neat_expr y)))
  light_expr (Entered m e) = light_expr e

  light_exprs : (l : Option Loc) (es : Exprs) → weight (exprs_tokens l (neat_exprs es)) ≤ sizes es
  light_exprs l no_expr = omega arith
  light_exprs l (more_expr e es) = simp weight_append (omega (arith, light_expr e, placed_light assignment e (neat_expr e), light_more_exprs l es))

  light_more_exprs : (l : Option Loc) (es : Exprs) → weight (more_exprs_tokens l (neat_exprs es)) ≤ sizes es
  light_more_exprs l no_expr = omega arith
  light_more_exprs l (more_expr e es) = simp weight_append (omega (arith, light_expr e, placed_light assignment e (neat_expr e), light_more_exprs l es))

  light_parts : (l : Option Loc) (ps : TemplateParts) → weight (parts_tokens l (neat_parts ps)) ≤ size_parts ps
  light_parts l no_template_part = omega arith
  light_parts l (more_template_part (MakeTemplatePart e s) ps) = simp weight_append (omega (arith, light_expr e, ap (λ (x : List ℕ). length x) (later_spelt (neat_parts ps) s.spelling), light_parts l ps))

  light_properties : (l : Option Loc) (ps : Properties) → weight (properties_tokens l (neat_properties ps)) ≤ size_properties ps
  light_properties l no_property = omega arith
  light_properties l (more_property p ps) = simp weight_append (omega (arith, light_property p, light_more_properties l ps))

  light_more_properties : (l : Option Loc) (ps : Properties) → weight (more_properties_tokens l (neat_properties ps)) ≤ size_properties ps
  light_more_properties l no_property = omega arith
  light_more_properties l (more_property p ps) = simp weight_append (omega (arith, light_property p, light_more_properties l ps))

  light_property : (p : Property) → weight (property_tokens (neat_property p)) ≤ size_property p
  light_property (Shorthand l w) = simp weight_begun (omega arith)
  light_property (KeyValue l k e) = simp weight_append (omega (arith, light_key l k, light_expr e, placed_light assignment e (neat_expr e)))
  light_property (Method l k f) = simp (weight_begun, weight_append) (omega (arith, light_key l k, light_function l f))

  light_key : (l : Option Loc) (k : PropertyKey) → weight (key_tokens l (neat_key k)) ≤ size_key k
  light_key l (NameKey w) = omega arith
  light_key l (StringKey s) = omega arith
  light_key l (NumberKey w) = omega arith
  light_key l (ComputedKey e) = simp weight_append (omega (arith, light_expr e, placed_light assignment e (neat_expr e)))

  -- ---- functions

  light_function : (l : Option Loc) (f : Function) → weight (function_tokens l (neat_function f)) ≤ size_function f
  light_function l (MakeFunction n ps body) = simp weight_append (omega (arith, light_params l ps, light_body body))

  light_body : (b : FunctionBody) → weight (body_tokens (neat_body b)) ≤ size_body b
  light_body (MakeFunctionBody l ss) = simp weight_append (omega (arith, light_stmts ss))
  light_body (EnteredBody m body) = light_body body

  light_concise : (b : ConciseBody) → weight (concise_tokens (neat_concise b)) ≤ size_concise b
  light_concise (ExpressionBody e) = omega (arith, light_expr e, body_light e (neat_expr e))
  light_concise (BlockBody body) = light_body body

  light_params : (l : Option Loc) (ps : Params) → weight (params_tokens l (neat_params ps)) ≤ size_params ps
  light_params l no_param = omega arith
  light_params l (more_param (MakeParam m x e) ps) = simp weight_append (omega (arith, pattern_light m x, light_initializer false m e, light_more_params l ps))

  light_more_params : (l : Option Loc) (ps : Params) → weight (more_params_tokens l (neat_params ps)) ≤ size_params ps
  light_more_params l no_param = omega arith
  light_more_params l (more_param (MakeParam m x e) ps) = simp weight_append (omega (arith, pattern_light m x, light_initializer false m e, light_more_params l ps))

  light_initializer : (head : Bool) (l : Option Loc) (x : MaybeExpr) → weight (initializer_tokens l (neat_initializer head x)) ≤ size_initializer x
  light_initializer head l none_expr = omega arith
  light_initializer head l (some_expr e) = omega (arith, light_expr e, initializer_light head e (neat_expr e))

  -- ---- statements

  light_stmt : (s : Stmt) → weight (stmt_tokens (neat_stmt s)) ≤ size_stmt s
  light_stmt (Directive l s) = simp weight_begun (omega arith)
  light_stmt (Block l ss) = simp (weight_begun, weight_append) (omega (arith, light_stmts ss))
  light_stmt (VariableDeclaration l k ds) = simp (weight_begun, weight_append) (omega (arith, light_declarators false l ds))
  light_stmt (Empty l) = simp weight_begun (omega arith)
  light_stmt (Expression l e) = simp (weight_begun, weight_append) (omega (arith, light_expr e, statement_light e (neat_expr e)))
  light_stmt (If l c s r) = simp (weight_begun, weight_append) (omega (arith, light_expr c, light_stmt s, light_else l r))
  light_stmt (DoWhile l s c) = simp (weight_begun, weight_append) (omega (arith, light_expr c, light_stmt s))
  light_stmt (While l c s) = simp (weight_begun, weight_append) (omega (arith, light_expr c, light_stmt s))
  light_stmt (For l x y z s) = simp (weight_begun, weight_append) (omega (arith, light_init l x, light_maybe y, light_maybe z, light_stmt s))
  light_stmt (ForIn l x e s) = simp (weight_begun, weight_append) (omega (arith, light_target l x, light_expr e, light_stmt s))
  light_stmt (ForOf l x e s) = simp (weight_begun, weight_append) (omega (arith, light_target l x, light_expr e, placed_light assignment e (neat_expr e), light_stmt s))
  light_stmt (Continue l x) = simp (weight_begun, weight_append) (omega (arith, label_light l x))
  light_stmt (Break l x) = simp (weight_begun, weight_append) (omega (arith, label_light l x))
  light_stmt (Return l e) = simp (weight_begun, weight_append) (omega (arith, light_maybe e))
  light_stmt (Switch l e cs) = simp (weight_begun, weight_append) (omega (arith, light_expr e, light_cases cs))
  light_stmt (Labelled l x s) = simp weight_begun (omega (arith, light_stmt s))
  light_stmt (Throw l e) = simp (weight_begun, weight_append) (omega (arith, light_expr e))
  light_stmt (TryCatch l b c) = simp (weight_begun, weight_append) (omega (arith, light_stmts b, light_catch l c))
  light_stmt (TryFinally l b f) = simp (weight_begun, weight_append) (omega (arith, light_stmts b, light_stmts f))
  light_stmt (TryCatchFinally l b c f) = simp (weight_begun, weight_append) (omega (arith, light_stmts b, light_catch l c, light_stmts f))
  light_stmt (Debugger l) = simp weight_begun (omega arith)
  light_stmt (FunctionDeclaration l x f) = simp weight_begun (omega (arith, light_function l f))
  light_stmt (EnteredStmt m s) = light_stmt s

  pub light_stmts : (ss : Stmts) → weight (stmts_tokens (neat_stmts ss)) ≤ size_stmts ss
  light_stmts no_stmt = omega arith
  light_stmts (more_stmt s ss) = simp weight_append (omega (arith, light_stmt s, light_stmts ss))

  light_maybe : (x : MaybeExpr) → weight (maybe_tokens (neat_maybe x)) ≤ size_maybe x
  light_maybe none_expr = omega arith
  light_maybe (some_expr e) = omega (arith, light_expr e)

  light_else : (l : Option Loc) (r : MaybeStmt) → weight (else_tokens l (neat_else r)) ≤ size_else r
  light_else l none_stmt = omega arith
  light_else l (some_stmt s) = omega (arith, light_stmt s)
  light_else l (entered_none m) = omega arith

  light_declarators : (head : Bool) (l : Option Loc) (ds : Declarators) → weight (declarators_tokens l (neat_declarators head ds)) ≤ size_declarators ds
  light_declarators head l no_declarator = omega arith
  light_declarators head l (more_declarator (MakeDeclarator m x e) ds) = simp (weight_append, weight_begun) (omega (arith, pattern_light m x, light_initializer head m e, light_more_declarators head l ds))

  light_more_declarators : (head : Bool) (l : Option Loc) (ds : Declarators) → weight (more_declarators_tokens l (neat_declarators head ds)) ≤ size_declarators ds
  light_more_declarators head l no_declarator = omega arith
  light_more_declarators head l (more_declarator (MakeDeclarator m x e) ds) = simp (weight_append, weight_begun) (omega (arith, pattern_light m x, light_initializer head m e, light_more_declarators head l ds))

  light_init : (l : Option Loc) (x : ForInit) → weight (init_tokens l (neat_init x)) ≤ size_init x
  light_init l NoInit = omega arith
  light_init l (InitDeclaration k ds) = omega (arith, light_declarators true l ds)
  light_init l (InitExpression e) = omega (arith, light_expr e, weight_paired (bare_in (neat_expr e)) e (neat_expr e))

  light_target : (l : Option Loc) (x : ForTarget) → weight (target_tokens l (neat_target x)) ≤ size_target x
  light_target l (TargetDeclaration k x) = omega (arith, pattern_light l x)
  light_target l (TargetExpression e) = omega (arith, light_expr e)

  light_cases : (cs : Cases) → weight (cases_tokens (neat_cases cs)) ≤ size_cases cs
  light_cases no_case = omega arith
  light_cases (more_case c cs) = simp weight_append (omega (arith, light_case c, light_cases cs))

  light_case : (c : Case) → weight (case_tokens (neat_case c)) ≤ size_case c
  light_case (MakeCase l none_expr ss) = omega (arith, light_stmts ss)
  light_case (MakeCase l (some_expr e) ss) = simp weight_append (omega (arith, light_expr e, light_stmts ss))
  light_case (EnteredCase m c) = light_case c

  light_catch : (l : Option Loc) (c : Catch) → weight (catch_tokens l (neat_catch c)) ≤ size_catch c
  light_catch l (MakeCatch none_pattern ss) = simp weight_append (omega (arith, light_stmts ss))
  light_catch l (MakeCatch (some_pattern x) ss) = simp weight_append (omega (arith, pattern_light l x, light_stmts ss))
