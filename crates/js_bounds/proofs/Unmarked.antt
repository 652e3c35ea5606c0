-- A tree that can be printed has no marks.
use Rattle.std.proofs.Common.{◌≡◌, Bool, true, false, refl, ap, ap₂, ◌∙◌}
use Rattle.js_tree.specs.Plain.{Expr, IdentifierReference, This, NullLiteral, BooleanLiteral, NumericLiteral, StringLiteral, ArrayLiteral, ObjectLiteral, FunctionExpression, ArrowFunction, RegularExpressionLiteral, TemplateLiteral, Parenthesized, NamedMember, ComputedMember, New, Call, PostfixUpdate, PrefixUpdate, Unary, Binary, Logical, Conditional, Assignment, Comma, Entered}
use Rattle.js_tree.specs.Plain.{Stmt, Directive, Block, VariableDeclaration, Empty, Expression, If, DoWhile, While, For, ForIn, ForOf, Continue, Break, Return, Switch, Labelled, Throw, TryCatch, TryFinally, TryCatchFinally, Debugger, FunctionDeclaration, EnteredStmt}
use Rattle.js_tree.specs.Plain.{Property, Shorthand, KeyValue, Method}
use Rattle.js_tree.specs.Plain.{PropertyKey, NameKey, StringKey, NumberKey, ComputedKey}
use Rattle.js_tree.specs.Plain.{ConciseBody, ExpressionBody, BlockBody}
use Rattle.js_tree.specs.Plain.{ForInit, NoInit, InitDeclaration, InitExpression}
use Rattle.js_tree.specs.Plain.{ForTarget, TargetDeclaration, TargetExpression}
use Rattle.js_tree.specs.Plain.{MakeTemplatePart}
use Rattle.js_tree.specs.Plain.{Function, MakeFunction}
use Rattle.js_tree.specs.Plain.{FunctionBody, MakeFunctionBody, EnteredBody}
use Rattle.js_tree.specs.Plain.{MakeParam}
use Rattle.js_tree.specs.Plain.{Declarator, MakeDeclarator}
use Rattle.js_tree.specs.Plain.{MakeCase, EnteredCase}
use Rattle.js_tree.specs.Plain.{Catch, MakeCatch}
use Rattle.js_tree.specs.Plain.{MaybeExpr, none_expr, some_expr}
use Rattle.js_tree.specs.Plain.{MaybeStmt, none_stmt, some_stmt, entered_none}
use Rattle.js_tree.specs.Plain.{TemplateParts, no_template_part, more_template_part}
use Rattle.js_tree.specs.Plain.{Properties, no_property, more_property}
use Rattle.js_tree.specs.Plain.{Params, no_param, more_param}
use Rattle.js_tree.specs.Plain.{Exprs, no_expr, more_expr}
use Rattle.js_tree.specs.Plain.{Stmts, no_stmt, more_stmt}
use Rattle.js_tree.specs.Plain.{Declarators, no_declarator, more_declarator}
use Rattle.js_tree.specs.Plain.{Cases, no_case, more_case}
use Rattle.js_tree.specs.Plain.{MakeFile}
use Rattle.js_tree.specs.Unmarked.{unmarked_expr, unmarked_stmt, unmarked_property, unmarked_property_key, unmarked_concise_body, unmarked_for_init, unmarked_for_target, unmarked_function, unmarked_function_body, unmarked_declarator, unmarked_catch, unmarked_expr_if, unmarked_stmt_if, unmarked_exprs, unmarked_template_parts, unmarked_properties, unmarked_params, unmarked_stmts, unmarked_declarators, unmarked_cases}
use Rattle.js_reading.specs.Makes.{is_const}
use Rattle.js_layout.specs.Printable.{IsExpr, AreExprs, AreParts, AreProperties, IsProperty, IsKey, IsFunction, IsBody, IsConcise, AreParams, IsMaybe, AreStmts, IsStmt, IsElse, HasDeclarators, AreDeclarators, IsDeclarator, IsInit, IsTarget, AreCases, IsCatch}
use Rattle.js_bounds.specs.Bounds.{HasNoMarks}

three : {A B C D : Type 0} (f : A → B → C → D) {a b : A} {c d : B} {x y : C} → a ≡ b → c ≡ d → x ≡ y → f a c x ≡ f b d y
three f {b = b} {c = c} {x = x} p q r = ap (λ z. f z c x) p ∙ ap₂ (f b) q r

mutual
  expr : (e : Expr) → IsExpr e → unmarked_expr e ≡ e
  expr (IdentifierReference l w) p = refl
  expr (This l) p = refl
  expr (NullLiteral l) p = refl
  expr (BooleanLiteral l b) p = refl
  expr (NumericLiteral l w) p = refl
  expr (StringLiteral l s) p = refl
  expr (ArrayLiteral l xs) p = ap (ArrayLiteral l) (exprs xs p)
  expr (ObjectLiteral l ps) p = ap (ObjectLiteral l) (properties ps p)
  expr (FunctionExpression l n f) p = ap (FunctionExpression l n) (function f p.1)
  expr (ArrowFunction l n ps b) p = ap₂ (ArrowFunction l n) (params ps p.1) (concise b p.2)
  expr (RegularExpressionLiteral l w flags) p = refl
  expr (TemplateLiteral l s ps) p = ap (TemplateLiteral l s) (parts ps p.1)
  expr (Parenthesized l e) p = ap (Parenthesized l) (expr e p)
  expr (NamedMember l o w) p = ap (λ x. NamedMember l x w) (expr o p.0)
  expr (ComputedMember l o k) p = ap₂ (ComputedMember l) (expr o p.0) (expr k p.1)
  expr (New l c xs) p = ap₂ (New l) (expr c p.0) (exprs xs p.1)
  expr (Call l f xs) p = ap₂ (Call l) (expr f p.0) (exprs xs p.1)
  expr (PostfixUpdate l o e) p = ap (PostfixUpdate l o) (expr e p.0)
  expr (PrefixUpdate l o e) p = ap (PrefixUpdate l o) (expr e p.0)
  expr (Unary l o e) p = ap (Unary l o) (expr e p)
  expr (Binary l o x y) p = ap₂ (Binary l o) (expr x p.0) (expr y p.1)
  expr (Logical l o x y) p = ap₂ (Logical l o) (expr x p.0) (expr y p.1)
  expr (Conditional l c x y) p = three (Conditional l) (expr c p.0) (expr x p.1) (expr y p.2)
  expr (Assignment l o x y) p = ap₂ (Assignment l o) (expr x p.0) (expr y p.2)
  expr (Comma l x y) p = ap₂ (Comma l) (expr x p.0) (expr y p.1)
  expr (Entered m e) p = absurd p

  exprs : (xs : Exprs) → AreExprs xs → unmarked_exprs xs ≡ xs
  exprs no_expr p = refl
  exprs (more_expr e es) p = ap₂ more_expr (expr e p.0) (exprs es p.1)

  parts : (ps : TemplateParts) → AreParts ps → unmarked_template_parts ps ≡ ps
  parts no_template_part p = refl
  parts (more_template_part (MakeTemplatePart e s) ps) p = ap₂ (λ x xs. more_template_part (MakeTemplatePart x s) xs) (expr e p.0) (parts ps p.2)

  properties : (ps : Properties) → AreProperties ps → unmarked_properties ps ≡ ps
  properties no_property p = refl
  properties (more_property x ps) p = ap₂ more_property (property x p.0) (properties ps p.1)

  property : (x : Property) → IsProperty x → unmarked_property x ≡ x
  property (Shorthand l w) p = refl
  property (KeyValue l k e) p = ap₂ (KeyValue l) (key k p.0) (expr e p.2)
  property (Method l k f) p = ap₂ (Method l) (key k p.0) (function f p.1)

  key : (k : PropertyKey) → IsKey k → unmarked_property_key k ≡ k
  key (NameKey w) p = refl
  key (StringKey s) p = refl
  key (NumberKey w) p = refl
  key (ComputedKey e) p = ap ComputedKey (expr e p)

  -- ---- functions

  function : (f : Function) → IsFunction f → unmarked_function f ≡ f
  function (MakeFunction n ps b) p = ap₂ (MakeFunction n) (params ps p.1) (body b p.2)

  body : (b : FunctionBody) → IsBody b → unmarked_function_body b ≡ b
  body (MakeFunctionBody l ss) p = ap (MakeFunctionBody l) (stmts true ss p)
  body (EnteredBody m b) p = absurd p

  concise : (b : ConciseBody) → IsConcise b → unmarked_concise_body b ≡ b
  concise (ExpressionBody e) p = ap ExpressionBody (expr e p)
  concise (BlockBody b) p = ap BlockBody (body b p)

  params : (ps : Params) → AreParams ps → unmarked_params ps ≡ ps
  params no_param p = refl
  params (more_param (MakeParam l x e) ps) p = ap₂ (λ d xs. more_param (MakeParam l x d) xs) (maybe e p.1) (params ps p.2)

  maybe : (x : MaybeExpr) → IsMaybe x → unmarked_expr_if x ≡ x
  maybe none_expr p = refl
  maybe (some_expr e) p = ap some_expr (expr e p)

  -- ---- statements

  stmt : (s : Stmt) → IsStmt s → unmarked_stmt s ≡ s
  stmt (Directive l s) p = absurd p
  stmt (Block l ss) p = ap (Block l) (stmts false ss p)
  stmt (VariableDeclaration l k ds) p = ap (VariableDeclaration l k) (variables (is_const k) ds p)
  stmt (Empty l) p = refl
  stmt (Expression l e) p = ap (Expression l) (expr e p)
  stmt (If l c s r) p = three (If l) (expr c p.0) (stmt s p.1) (other s r p.3)
  stmt (DoWhile l s c) p = ap₂ (DoWhile l) (stmt s p.0) (expr c p.2)
  stmt (While l c s) p = ap₂ (While l) (expr c p.0) (stmt s p.1)
  stmt (For l x y z s) p = ap₂ (λ a b. For l a (unmarked_expr_if y) (unmarked_expr_if z) b) (init x p.0) (stmt s p.3) ∙ ap₂ (λ a b. For l x a b s) (maybe y p.1) (maybe z p.2)
  stmt (ForIn l x e s) p = three (ForIn l) (target x p.0) (expr e p.1) (stmt s p.2)
  stmt (ForOf l x e s) p = three (ForOf l) (target x p.0) (expr e p.2) (stmt s p.3)
  stmt (Continue l x) p = refl
  stmt (Break l x) p = refl
  stmt (Return l e) p = ap (Return l) (maybe e p)
  stmt (Switch l e cs) p = ap₂ (Switch l) (expr e p.0) (cases false cs p.1)
  stmt (Labelled l x s) p = ap (Labelled l x) (stmt s p.1)
  stmt (Throw l e) p = ap (Throw l) (expr e p)
  stmt (TryCatch l b c) p = ap₂ (TryCatch l) (stmts false b p.0) (catch c p.1)
  stmt (TryFinally l b f) p = ap₂ (TryFinally l) (stmts false b p.0) (stmts false f p.1)
  stmt (TryCatchFinally l b c f) p = three (TryCatchFinally l) (stmts false b p.0) (catch c p.1) (stmts false f p.2)
  stmt (Debugger l) p = refl
  stmt (FunctionDeclaration l x f) p = ap (FunctionDeclaration l x) (function f p.1)
  stmt (EnteredStmt m s) p = absurd p

  stmts : (directed : Bool) (ss : Stmts) → AreStmts directed ss → unmarked_stmts ss ≡ ss
  stmts directed no_stmt p = refl
  stmts true (more_stmt (Directive l s) ss) p = ap (more_stmt (Directive l s)) (stmts true ss p.1)
  stmts true (more_stmt s ss) p = ap₂ more_stmt (stmt s p.0) (stmts false ss p.1)
  stmts false (more_stmt s ss) p = ap₂ more_stmt (stmt s p.0) (stmts false ss p.1)

  other : (s : Stmt) (r : MaybeStmt) → IsElse s r → unmarked_stmt_if r ≡ r
  other s none_stmt p = refl
  other s (some_stmt r) p = ap some_stmt (stmt r p.0)
  other s (entered_none m) p = absurd p

  variables : (due : Bool) (ds : Declarators) → HasDeclarators due ds → unmarked_declarators ds ≡ ds
  variables due no_declarator p = absurd p
  variables due (more_declarator d ds) p = ap₂ more_declarator (declarator due d p.0) (declarators due ds p.1)

  declarators : (due : Bool) (ds : Declarators) → AreDeclarators due ds → unmarked_declarators ds ≡ ds
  declarators due no_declarator p = refl
  declarators due (more_declarator d ds) p = ap₂ more_declarator (declarator due d p.0) (declarators due ds p.1)

  declarator : (due : Bool) (d : Declarator) → IsDeclarator due d → unmarked_declarator d ≡ d
  declarator true (MakeDeclarator l x none_expr) p = absurd p
  declarator false (MakeDeclarator l x none_expr) p = refl
  declarator true (MakeDeclarator l x (some_expr e)) p = ap (λ y. MakeDeclarator l x (some_expr y)) (expr e p.1)
  declarator false (MakeDeclarator l x (some_expr e)) p = ap (λ y. MakeDeclarator l x (some_expr y)) (expr e p.1)

  init : (x : ForInit) → IsInit x → unmarked_for_init x ≡ x
  init NoInit p = refl
  init (InitDeclaration k ds) p = ap (InitDeclaration k) (variables (is_const k) ds p)
  init (InitExpression e) p = ap InitExpression (expr e p)

  target : (x : ForTarget) → IsTarget x → unmarked_for_target x ≡ x
  target (TargetDeclaration k x) p = refl
  target (TargetExpression e) p = ap TargetExpression (expr e p.0)

  cases : (defaulted : Bool) (cs : Cases) → AreCases defaulted cs → unmarked_cases cs ≡ cs
  cases defaulted no_case p = refl
  cases true (more_case (MakeCase l none_expr ss) cs) p = absurd p
  cases false (more_case (MakeCase l none_expr ss) cs) p = ap₂ (λ x xs. more_case (MakeCase l none_expr x) xs) (stmts false ss p.0) (cases true cs p.1)
  cases true (more_case (MakeCase l (some_expr e) ss) cs) p = three (λ x y xs. more_case (MakeCase l (some_expr x) y) xs) (expr e p.0) (stmts false ss p.1) (cases true cs p.2)
  cases false (more_case (MakeCase l (some_expr e) ss) cs) p = three (λ x y xs. more_case (MakeCase l (some_expr x) y) xs) (expr e p.0) (stmts false ss p.1) (cases false cs p.2)
  cases true (more_case (EnteredCase m c) cs) p = absurd p
  cases false (more_case (EnteredCase m c) cs) p = absurd p

  catch : (c : Catch) → IsCatch c → unmarked_catch c ≡ c
  catch (MakeCatch x ss) p = ap (MakeCatch x) (stmts false ss p.1)

pub has_no_marks : HasNoMarks
has_no_marks (MakeFile ss comments) printable = ap (λ xs. MakeFile xs comments) (stmts true ss printable.body)
