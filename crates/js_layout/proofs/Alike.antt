-- Trees that are the same are printed as the same text: neither places nor the pairs of the source are seen in it.
use Rattle.std.proofs.Common.{◌≡◌, ℕ, Bool, true, false, List, [], ◌∷◌, None, refl, sym, ap, ◌∙◌}
use Rattle.std.specs.Prelude.{nat_lt, ◌||◌, ◌&&◌}
use Rattle.js_terms.specs.declared.operators.BinaryOperator.TheVariants as binary
use Rattle.js_terms.specs.declared.operators.LogicalOperator.{LogicalOperator}
use Rattle.js_terms.specs.declared.operators.LogicalOperator.TheVariants as logic
use Rattle.js_tree.specs.Plain.{Expr, IdentifierReference, This, NullLiteral, BooleanLiteral, NumericLiteral, StringLiteral, ArrayLiteral, ObjectLiteral, FunctionExpression, ArrowFunction, RegularExpressionLiteral, TemplateLiteral, Parenthesized, NamedMember, ComputedMember, New, Call, PostfixUpdate, PrefixUpdate, Unary, Binary, Logical, Conditional, Assignment, Comma, Entered}
use Rattle.js_tree.specs.Plain.{Stmt, Directive, Block, VariableDeclaration, Empty, Expression, If, DoWhile, While, For, ForIn, ForOf, Continue, Break, Return, Switch, Labelled, Throw, TryCatch, TryFinally, TryCatchFinally, Debugger, FunctionDeclaration, EnteredStmt}
use Rattle.js_tree.specs.Plain.{Property, Shorthand, KeyValue, Method, PropertyKey, NameKey, StringKey, NumberKey, ComputedKey, ConciseBody, ExpressionBody, BlockBody, ForInit, NoInit, InitDeclaration, InitExpression, ForTarget, TargetDeclaration, TargetExpression}
use Rattle.js_tree.specs.Plain.{MakeTemplatePart, Function, MakeFunction, FunctionBody, MakeFunctionBody, EnteredBody, MakeParam, MakeDeclarator, Case, MakeCase, EnteredCase, Catch, MakeCatch, BindingIdentifier}
use Rattle.js_tree.specs.Plain.{none_pattern, some_pattern, MaybeExpr, none_expr, some_expr, MaybeStmt, none_stmt, some_stmt, entered_none}
use Rattle.js_tree.specs.Plain.{TemplateParts, no_template_part, more_template_part, Properties, no_property, more_property, Params, no_param, more_param, Exprs, no_expr, more_expr, Stmts, no_stmt, more_stmt, Declarators, no_declarator, more_declarator, Cases, no_case, more_case, File, MakeFile}
use Rattle.js_tree.specs.Same.{bare_identifier, bare_identifier_if, bare_expr, bare_stmt, bare_property, bare_property_key, bare_concise_body, bare_for_init, bare_for_target, bare_function, bare_function_body, bare_case, bare_catch, bare_expr_if, bare_stmt_if, bare_template_parts, bare_properties, bare_params, bare_exprs, bare_stmts, bare_declarators, bare_cases, bare_file}
use Rattle.js_text.specs.Token.{Kind}
use Rattle.js_reading.specs.Level.{assignment, logical_level, left_level, right_level}
use Rattle.js_reading.specs.Productions.{call, member, logical_right}
use Rattle.js_reading.specs.Makes.{bare_in, is_and_or}
use Rattle.js_spelling.specs.Written.{Written, text_of}
use Rattle.js_layout.specs.Tokens.{expr_tokens, file_tokens}
use Rattle.js_layout.specs.Neat.{member_level, level, first_is, is_brace, is_function, is_string, paired, placed, left_operand, as_statement, as_body, as_initializer, neat_expr, neat_exprs, neat_parts, neat_properties, neat_property, neat_key, neat_function, neat_body, neat_concise, neat_params, neat_initializer, neat_declarators, neat_maybe, neat_stmt, neat_stmts, neat_else, neat_init, neat_target, neat_cases, neat_case, neat_catch, neat_file}
use Rattle.js_layout.specs.Layout.{written, layout}
use Rattle.js_layout.specs.Unplaced.{unplaced_expr, unplaced_stmt, unplaced_property, unplaced_property_key, unplaced_concise_body, unplaced_for_init, unplaced_for_target, unplaced_function, unplaced_function_body, unplaced_case, unplaced_catch, unplaced_expr_if, unplaced_stmt_if, unplaced_template_parts, unplaced_properties, unplaced_params, unplaced_exprs, unplaced_stmts, unplaced_declarators, unplaced_cases, unplaced_file}
use Rattle.js_layout.specs.Laws.{ReadsSame}
use Rattle.js_layout.proofs.Several.{ap_two, ap_three, ap_four}
use Rattle.js_layout.proofs.Unplaced.{inserted, text_inserted, unplaced_expr_tokens, unplaced_file_tokens}

-- ---- what places ask for doesn't depend on where a tree stands

pub level_bare : (e : Expr) → level (bare_expr e) ≡ level e
level_bare (Parenthesized l e) = level_bare e
level_bare (NamedMember l o w) = ap member_level (level_bare o)
level_bare (ComputedMember l o k) = ap member_level (level_bare o)
level_bare (Entered m e) = level_bare e
level_bare e = refl

first_inserted : (test : Kind → Bool) (ts : List Written) → first_is test (inserted ts) ≡ first_is test ts
first_inserted test [] = refl
first_inserted test (t ∷ ts) = refl

begins_alike : (test : Kind → Bool) (e : Expr) → first_is test (expr_tokens (unplaced_expr e)) ≡ first_is test (expr_tokens e)
begins_alike test e = ap (first_is test) (unplaced_expr_tokens e) ∙ first_inserted test (expr_tokens e)

string_alike : (e : Expr) → is_string (unplaced_expr e) ≡ is_string e
string_alike (StringLiteral l s) = refl
string_alike e = refl

mixed_alike : (e : Expr) → is_and_or (unplaced_expr e) ≡ is_and_or e
mixed_alike (Logical l logic.And x y) = refl
mixed_alike (Logical l logic.Or x y) = refl
mixed_alike (Logical l logic.Coalesce x y) = refl
mixed_alike e = refl

in_alike : (e : Expr) → bare_in (unplaced_expr e) ≡ bare_in e
in_alike (Binary l binary.In x y) = refl
in_alike (Binary l o x y) = ap_two (λ a b. a || b) (in_alike x) (in_alike y)
in_alike (Logical l o x y) = ap_two (λ a b. a || b) (in_alike x) (in_alike y)
in_alike (Conditional l c x y) = ap_two (λ a b. a || b) (in_alike c) (in_alike y)
in_alike (Assignment l o x y) = in_alike y
in_alike (Comma l x y) = ap_two (λ a b. a || b) (in_alike x) (in_alike y)
in_alike (Unary l o x) = in_alike x
in_alike (PrefixUpdate l o x) = in_alike x
in_alike (ArrowFunction l n ps (ExpressionBody x)) = in_alike x
in_alike (ArrowFunction l n ps (BlockBody body)) = refl
in_alike e = refl

-- ---- pairs

-- a tree without its pairs is none
bare_in_pair : (e x : Expr) → paired true (bare_expr e) x ≡ Parenthesized None x
bare_in_pair (Parenthesized l e) x = bare_in_pair e x
bare_in_pair e x = refl

unplaced_pair : (e x : Expr) → unplaced_expr (paired true e x) ≡ Parenthesized None (unplaced_expr x)
unplaced_pair (Parenthesized l e) x = refl
unplaced_pair e x = refl

pair_alike : (b : Bool) (e x : Expr) → paired b (bare_expr e) (unplaced_expr x) ≡ unplaced_expr (paired b e x)
pair_alike false e x = refl
pair_alike true e x = bare_in_pair e (unplaced_expr x) ∙ sym (unplaced_pair e x)

-- by a test of the level and of what has its parentheses
alike_by : (test : ℕ → Expr → Bool) → ((i : ℕ) (z : Expr) → test i (unplaced_expr z) ≡ test i z) → (e x y : Expr) → y ≡ unplaced_expr x →
    paired (test (level (bare_expr e)) y) (bare_expr e) y ≡ unplaced_expr (paired (test (level e) x) e x)
alike_by test kept e x y h =
    ap_two (λ b z. paired b (bare_expr e) z) (ap_two test (level_bare e) h ∙ kept (level e) x) h ∙ pair_alike (test (level e) x) e x

placed_alike : (n : ℕ) (e x y : Expr) → y ≡ unplaced_expr x → placed n (bare_expr e) y ≡ unplaced_expr (placed n e x)
placed_alike n e x y h = alike_by (λ i z. nat_lt i n) (λ i z. refl) e x y h

left_alike : (o : LogicalOperator) (e x y : Expr) → y ≡ unplaced_expr x → left_operand o (bare_expr e) y ≡ unplaced_expr (left_operand o e x)
left_alike logic.Coalesce e x y h = alike_by (λ i z. nat_lt i (logical_level logic.Coalesce) || is_and_or z) (λ i z. ap (λ b. nat_lt i (logical_level logic.Coalesce) || b) (mixed_alike z)) e x y h
left_alike logic.And e x y h = placed_alike (logical_level logic.And) e x y h
left_alike logic.Or e x y h = placed_alike (logical_level logic.Or) e x y h

statement_alike : (e x y : Expr) → y ≡ unplaced_expr x → as_statement (bare_expr e) y ≡ unplaced_expr (as_statement e x)
statement_alike e x y h =
    alike_by (λ i z. first_is is_brace (expr_tokens z) || first_is is_function (expr_tokens z) || is_string z)
    (λ i z. ap_three (λ a b c. a || b || c) (begins_alike is_brace z) (begins_alike is_function z) (string_alike z)) e x y h

body_alike : (e x y : Expr) → y ≡ unplaced_expr x → as_body (bare_expr e) y ≡ unplaced_expr (as_body e x)
body_alike e x y h = alike_by (λ i z. nat_lt i assignment || first_is is_brace (expr_tokens z)) (λ i z. ap (λ b. nat_lt i assignment || b) (begins_alike is_brace z)) e x y h

initializer_alike : (head : Bool) (e x y : Expr) → y ≡ unplaced_expr x → as_initializer head (bare_expr e) y ≡ unplaced_expr (as_initializer head e x)
initializer_alike head e x y h = alike_by (λ i z. nat_lt i assignment || (head && bare_in z)) (λ i z. ap (λ b. nat_lt i assignment || (head && b)) (in_alike z)) e x y h

-- ---- the tree

mutual
  pub alike_expr : (e : Expr) → neat_expr (bare_expr e) ≡ unplaced_expr (neat_expr e)
  alike_expr (ArrayLiteral l xs) = ap (ArrayLiteral None) (alike_exprs xs)
  alike_expr (ObjectLiteral l ps) = ap (ObjectLiteral None) (alike_properties ps)
  alike_expr (FunctionExpression l n f) = ap (FunctionExpression None (bare_identifier_if n)) (alike_function f)
  alike_expr (ArrowFunction l n ps body) = ap_two (ArrowFunction None n) (alike_params ps) (alike_concise body)
  alike_expr (TemplateLiteral l s parts) = ap (TemplateLiteral None s) (alike_parts parts)
  alike_expr (Parenthesized l e) = alike_expr e
  alike_expr (NamedMember l o w) = ap (λ x. NamedMember None x w) (placed_alike call o (neat_expr o) (neat_expr (bare_expr o)) (alike_expr o))
  alike_expr (ComputedMember l o k) = ap_two (ComputedMember None) (placed_alike call o (neat_expr o) (neat_expr (bare_expr o)) (alike_expr o)) (alike_expr k)
  alike_expr (New l c xs) = ap_two (New None) (placed_alike member c (neat_expr c) (neat_expr (bare_expr c)) (alike_expr c)) (alike_exprs xs)
  alike_expr (Call l f xs) = ap_two (Call None) (placed_alike call f (neat_expr f) (neat_expr (bare_expr f)) (alike_expr f)) (alike_exprs xs)
  alike_expr (PostfixUpdate l o e) = ap (PostfixUpdate None o) (placed_alike call e (neat_expr e) (neat_expr (bare_expr e)) (alike_expr e))
  alike_expr (PrefixUpdate l o e) = ap (PrefixUpdate None o) (placed_alike 16 e (neat_expr e) (neat_expr (bare_expr e)) (alike_expr e))
  alike_expr (Unary l o e) = ap (Unary None o) (placed_alike 16 e (neat_expr e) (neat_expr (bare_expr e)) (alike_expr e))
  alike_expr (Binary l o x y) = ap_two (Binary None o) (placed_alike (left_level o) x (neat_expr x) (neat_expr (bare_expr x)) (alike_expr x)) (placed_alike (right_level o) y (neat_expr y) (neat_expr (bare_expr y)) (alike_expr y))
  alike_expr (Logical l o x y) = ap_two (Logical None o) (left_alike o x (neat_expr x) (neat_expr (bare_expr x)) (alike_expr x)) (placed_alike (logical_right o) y (neat_expr y) (neat_expr (bare_expr y)) (alike_expr y))
  alike_expr (Conditional l c x y) = ap_three (Conditional None) (placed_alike 4 c (neat_expr c) (neat_expr (bare_expr c)) (alike_expr c)) (placed_alike assignment x (neat_expr x) (neat_expr (bare_expr x)) (alike_expr x)) (placed_alike assignment y (neat_expr y) (neat_expr (bare_expr y)) (alike_expr y))
  alike_expr (Assignment l o x y) = ap_two (Assignment None o) (placed_alike call x (neat_expr x) (neat_expr (bare_expr x)) (alike_expr x)) (placed_alike assignment y (neat_expr y) (neat_expr (bare_expr y)) (alike_expr y))
  alike_expr (Comma l x y) = ap_two (Comma None) (alike_expr x) (placed_alike assignment y (neat_expr y) (neat_expr (bare_expr y)) (alike_expr y))
  alike_expr (Entered m e) = ap (Entered m) (alike_expr e)
  alike_expr (IdentifierReference l w) = refl
  alike_expr (This l) = refl
  alike_expr (NullLiteral l) = refl
  alike_expr (BooleanLiteral l b) = refl
  alike_expr (NumericLiteral l w) = refl
  alike_expr (StringLiteral l s) = refl
  alike_expr (RegularExpressionLiteral l body flags) = refl

  pub alike_exprs : (es : Exprs) → neat_exprs (bare_exprs es) ≡ unplaced_exprs (neat_exprs es)
  alike_exprs no_expr = refl
  alike_exprs (more_expr e es) = ap_two more_expr (placed_alike assignment e (neat_expr e) (neat_expr (bare_expr e)) (alike_expr e)) (alike_exprs es)

  pub alike_parts : (ps : TemplateParts) → neat_parts (bare_template_parts ps) ≡ unplaced_template_parts (neat_parts ps)
  alike_parts no_template_part = refl
  alike_parts (more_template_part (MakeTemplatePart e s) ps) = ap_two (λ x. more_template_part (MakeTemplatePart x s)) (alike_expr e) (alike_parts ps)

  pub alike_properties : (ps : Properties) → neat_properties (bare_properties ps) ≡ unplaced_properties (neat_properties ps)
  alike_properties no_property = refl
  alike_properties (more_property p ps) = ap_two more_property (alike_property p) (alike_properties ps)

  pub alike_property : (p : Property) → neat_property (bare_property p) ≡ unplaced_property (neat_property p)
  alike_property (Shorthand l w) = refl
  alike_property (KeyValue l k e) = ap_two (KeyValue None) (alike_key k) (placed_alike assignment e (neat_expr e) (neat_expr (bare_expr e)) (alike_expr e))
  alike_property (Method l k f) = ap_two (Method None) (alike_key k) (alike_function f)

  pub alike_key : (k : PropertyKey) → neat_key (bare_property_key k) ≡ unplaced_property_key (neat_key k)
  alike_key (NameKey w) = refl
  alike_key (StringKey s) = refl
  alike_key (NumberKey w) = refl
  alike_key (ComputedKey e) = ap ComputedKey (placed_alike assignment e (neat_expr e) (neat_expr (bare_expr e)) (alike_expr e))

  pub alike_function : (f : Function) → neat_function (bare_function f) ≡ unplaced_function (neat_function f)
  alike_function (MakeFunction n ps body) = ap_two (MakeFunction n) (alike_params ps) (alike_body body)

  pub alike_body : (body : FunctionBody) → neat_body (bare_function_body body) ≡ unplaced_function_body (neat_body body)
  alike_body (MakeFunctionBody l ss) = ap (MakeFunctionBody None) (alike_stmts ss)
  alike_body (EnteredBody m body) = ap (EnteredBody m) (alike_body body)

  pub alike_concise : (body : ConciseBody) → neat_concise (bare_concise_body body) ≡ unplaced_concise_body (neat_concise body)
  alike_concise (ExpressionBody e) = ap ExpressionBody (body_alike e (neat_expr e) (neat_expr (bare_expr e)) (alike_expr e))
  alike_concise (BlockBody body) = ap BlockBody (alike_body body)

  pub alike_params : (ps : Params) → neat_params (bare_params ps) ≡ unplaced_params (neat_params ps)
  alike_params no_param = refl
  alike_params (more_param (MakeParam l (BindingIdentifier m w) e) ps) = ap_two (λ y. more_param (MakeParam None (BindingIdentifier None w) y)) (alike_initializer false e) (alike_params ps)

  pub alike_initializer : (head : Bool) (e : MaybeExpr) → neat_initializer head (bare_expr_if e) ≡ unplaced_expr_if (neat_initializer head e)
  alike_initializer head none_expr = refl
  alike_initializer head (some_expr e) = ap some_expr (initializer_alike head e (neat_expr e) (neat_expr (bare_expr e)) (alike_expr e))

  pub alike_declarators : (head : Bool) (ds : Declarators) → neat_declarators head (bare_declarators ds) ≡ unplaced_declarators (neat_declarators head ds)
  alike_declarators head no_declarator = refl
  alike_declarators head (more_declarator (MakeDeclarator l (BindingIdentifier m w) e) ds) = ap_two (λ y. more_declarator (MakeDeclarator None (BindingIdentifier None w) y)) (alike_initializer head e) (alike_declarators head ds)

  pub alike_maybe : (e : MaybeExpr) → neat_maybe (bare_expr_if e) ≡ unplaced_expr_if (neat_maybe e)
  alike_maybe none_expr = refl
  alike_maybe (some_expr e) = ap some_expr (alike_expr e)

  pub alike_stmt : (s : Stmt) → neat_stmt (bare_stmt s) ≡ unplaced_stmt (neat_stmt s)
  alike_stmt (Directive l s) = refl
  alike_stmt (Block l ss) = ap (Block None) (alike_stmts ss)
  alike_stmt (VariableDeclaration l k ds) = ap (VariableDeclaration None k) (alike_declarators false ds)
  alike_stmt (Empty l) = refl
  alike_stmt (Expression l e) = ap (Expression None) (statement_alike e (neat_expr e) (neat_expr (bare_expr e)) (alike_expr e))
  alike_stmt (If l c s r) = ap_three (If None) (alike_expr c) (alike_stmt s) (alike_else r)
  alike_stmt (DoWhile l s c) = ap_two (DoWhile None) (alike_stmt s) (alike_expr c)
  alike_stmt (While l c s) = ap_two (While None) (alike_expr c) (alike_stmt s)
  alike_stmt (For l x y z s) = ap_four (For None) (alike_init x) (alike_maybe y) (alike_maybe z) (alike_stmt s)
  alike_stmt (ForIn l x e s) = ap_three (ForIn None) (alike_target x) (alike_expr e) (alike_stmt s)
  alike_stmt (ForOf l x e s) = ap_three (ForOf None) (alike_target x) (placed_alike assignment e (neat_expr e) (neat_expr (bare_expr e)) (alike_expr e)) (alike_stmt s)
  alike_stmt (Continue l x) = refl
  alike_stmt (Break l x) = refl
  alike_stmt (Return l e) = ap (Return None) (alike_maybe e)
  alike_stmt (Switch l e cs) = ap_two (Switch None) (alike_expr e) (alike_cases cs)
  alike_stmt (Labelled l x s) = ap (Labelled None (bare_identifier x)) (alike_stmt s)
  alike_stmt (Throw l e) = ap (Throw None) (alike_expr e)
  alike_stmt (TryCatch l b c) = ap_two (TryCatch None) (alike_stmts b) (alike_catch c)
  alike_stmt (TryFinally l b f) = ap_two (TryFinally None) (alike_stmts b) (alike_stmts f)
  alike_stmt (TryCatchFinally l b c f) = ap_three (TryCatchFinally None) (alike_stmts b) (alike_catch c) (alike_stmts f)
  alike_stmt (Debugger l) = refl
  alike_stmt (FunctionDeclaration l x f) = ap (FunctionDeclaration None (bare_identifier x)) (alike_function f)
  alike_stmt (EnteredStmt m s) = ap (EnteredStmt m) (alike_stmt s)

  pub alike_stmts : (ss : Stmts) → neat_stmts (bare_stmts ss) ≡ unplaced_stmts (neat_stmts ss)
  alike_stmts no_stmt = refl
  alike_stmts (more_stmt s ss) = ap_two more_stmt (alike_stmt s) (alike_stmts ss)

  pub alike_else : (r : MaybeStmt) → neat_else (bare_stmt_if r) ≡ unplaced_stmt_if (neat_else r)
  alike_else none_stmt = refl
  alike_else (some_stmt s) = ap some_stmt (alike_stmt s)
  alike_else (entered_none m) = refl

  pub alike_init : (x : ForInit) → neat_init (bare_for_init x) ≡ unplaced_for_init (neat_init x)
  alike_init NoInit = refl
  alike_init (InitDeclaration k ds) = ap (InitDeclaration k) (alike_declarators true ds)
  alike_init (InitExpression e) = ap InitExpression (alike_by (λ i z. bare_in z) (λ i z. in_alike z) e (neat_expr e) (neat_expr (bare_expr e)) (alike_expr e))

  pub alike_target : (x : ForTarget) → neat_target (bare_for_target x) ≡ unplaced_for_target (neat_target x)
  alike_target (TargetDeclaration k (BindingIdentifier m w)) = refl
  alike_target (TargetExpression e) = ap TargetExpression (alike_expr e)

  pub alike_cases : (cs : Cases) → neat_cases (bare_cases cs) ≡ unplaced_cases (neat_cases cs)
  alike_cases no_case = refl
  alike_cases (more_case c cs) = ap_two more_case (alike_case c) (alike_cases cs)

  pub alike_case : (c : Case) → neat_case (bare_case c) ≡ unplaced_case (neat_case c)
  alike_case (MakeCase l e ss) = ap_two (MakeCase None) (alike_maybe e) (alike_stmts ss)
  alike_case (EnteredCase m c) = ap (EnteredCase m) (alike_case c)

  pub alike_catch : (c : Catch) → neat_catch (bare_catch c) ≡ unplaced_catch (neat_catch c)
  alike_catch (MakeCatch none_pattern ss) = ap (MakeCatch none_pattern) (alike_stmts ss)
  alike_catch (MakeCatch (some_pattern (BindingIdentifier m w)) ss) = ap (MakeCatch (some_pattern (BindingIdentifier None w))) (alike_stmts ss)

pub alike_file : (file : File) → neat_file (bare_file file) ≡ unplaced_file (neat_file file)
alike_file (MakeFile ss comments) = ap (λ x. MakeFile x []) (alike_stmts ss)

-- ---- the text

pub layout_bare : (file : File) → layout (bare_file file) ≡ layout file
layout_bare file =
    ap (λ x. text_of (file_tokens x)) (alike_file file) ∙ ap text_of (unplaced_file_tokens (neat_file file)) ∙ text_inserted (written file)

-- trees that are the same are printed as the same text
pub layout_same : (a b : File) → bare_file a ≡ bare_file b → layout a ≡ layout b
layout_same a b h = sym (layout_bare a) ∙ ap layout h ∙ layout_bare b

-- what is printed, read and printed again is the same text
pub layout_again : (file : File) (read : ReadsSame (layout file) file) → layout read.tree ≡ layout file
layout_again file read = layout_same read.tree file read.same
