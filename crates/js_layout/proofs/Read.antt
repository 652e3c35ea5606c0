-- The tokens of each tree that can be printed spell it with its parentheses, but for places: expressions and statements together.
use Rattle.std.proofs.Common.{◌≡◌, ℕ, ◌≤◌, Bool, true, false, Option, Some, None, refl, sym, subst, ◌∙◌, arith, List}
use Rattle.js_terms.specs.declared.place.Loc.{Loc}
use Rattle.js_tree.specs.Plain.{Expr, Exprs, no_expr, more_expr, TemplateParts, MakeTemplatePart, no_template_part, more_template_part, Properties, no_property, more_property, Property, Shorthand, KeyValue, Method, PropertyKey, NameKey, StringKey, NumberKey, ComputedKey, Function, MakeFunction, MakeFunctionBody, EnteredBody, ConciseBody, ExpressionBody, BlockBody, Params, no_param, more_param, MakeParam, BindingIdentifier, MaybeExpr, none_expr, some_expr, Stmts, Stmt, no_stmt, more_stmt, none_stmt, some_stmt, entered_none, NoInit, InitDeclaration, InitExpression, TargetDeclaration, TargetExpression, Declarators, MakeDeclarator, no_declarator, more_declarator, Cases, MakeCase, EnteredCase, no_case, more_case, MakeCatch, Pattern, File}
use Rattle.js_reading.specs.Level.{assignment, left_level, right_level}
use Rattle.js_reading.specs.Productions.{member, call, logical_right}
use Rattle.js_reading.specs.Makes.{is_proto, bare_in, is_const}
use Rattle.js_layout.specs.Neat.{placed, left_operand, as_body, neat_expr, neat_exprs, neat_parts, neat_properties, neat_property, neat_key, neat_function, neat_concise, neat_params, neat_initializer, neat_stmts, level, paired, as_statement, as_initializer, neat_stmt, neat_maybe, neat_declarators, neat_cases, neat_file}
use Rattle.js_layout.specs.Printable.{IsExpr, AreExprs, AreParts, AreProperties, IsProperty, IsKey, IsFunction, IsConcise, AreParams, IsMaybe, AreStmts, IsStmt, AreCases, IsDeclarator, AreDeclarators, Printable, body_of}
use Rattle.js_layout.proofs.Spelt.{standing, WillExpr, WillBody, WillStmt, WillBlock}
use Rattle.js_layout.proofs.ExpressStanding.{neat_level, neat_standing, neat_some, left_most, right_most, logical_most, placed_target}
use Rattle.js_layout.proofs.ExpressPairs.{placed_will, placed_low, placed_bound, left_will, left_low, left_mixes, paired_will}
use Rattle.js_layout.proofs.ExpressPlaces.{body_will, body_low, body_plain, initializer_will, initializer_low, initializer_bare, head_bare}
use Rattle.js_layout.proofs.ExpressItems.{AllWill, array, called, made_new}
use Rattle.js_layout.proofs.ExpressTemplates.{PartsWill, template}
use Rattle.js_layout.proofs.ExpressParameters.{DefaultWill, ParamsWill}
use Rattle.js_layout.proofs.ExpressFunctions.{WillReadFunction, function_read, function_expression, named_function, function_spelt}
use Rattle.js_layout.proofs.ExpressArrows.{WillConcise, value_body, block_body, arrow}
use Rattle.js_layout.proofs.ExpressProperties.{KeyWill, PropertyWill}
use Rattle.js_layout.proofs.ExpressObjects.{PropertiesWill, object}
use Rattle.std.specs.Prelude.{nat_le, nat_lt}
use Rattle.std.proofs.lemmas.Bool.{true≢false, le-leb}
use Rattle.js_layout.proofs.StatementSimple.{will_empty, will_debugger, will_return, will_return_value, will_throw, will_continue, will_break, will_expression, will_labelled}
use Rattle.js_layout.proofs.StatementCompound.{will_block, will_if, will_if_else, will_while, will_do, will_try_catch, will_try_finally, will_try_catch_finally, will_function_declaration}
use Rattle.js_layout.proofs.StatementSwitches.{WillCases, will_switch}
use Rattle.js_layout.proofs.StatementLists.{block_none, block_more, body_none, body_more, body_directive}
use Rattle.js_layout.proofs.StatementDeclarators.{WillInit, WillInits, WillInitial, will_variables}
use Rattle.js_layout.proofs.StatementFors.{WillMaybe, will_for, will_for_expression}
use Rattle.js_layout.proofs.StatementTargets.{will_for_declaration, will_for_in_declaration, will_for_in_target, will_for_of_declaration, will_for_of_target}
use Rattle.js_layout.proofs.StatementBeginnings.{no_let_first, no_let_paired, plain_statement, no_string_stmt, neat_ends_open, neat_declares, neat_target, neat_async}
use Rattle.js_text.specs.Token.{Token, End}
use Rattle.js_layout.specs.Tokens.{file_tokens}
use Rattle.js_layout.proofs.Follows.{Follows}
use Rattle.js_layout.proofs.StatementFile.{SpeltFile, spelt_file}
use Rattle.js_tree.specs.Plain as tree
use Rattle.js_layout.proofs.ExpressLeaves as leaf
use Rattle.js_layout.proofs.ExpressOperators as operator

proto_neat : (k : PropertyKey) → is_proto (neat_key k) ≡ is_proto k
proto_neat (NameKey w) = refl
proto_neat (StringKey s) = refl
proto_neat (NumberKey w) = refl
proto_neat (ComputedKey e) = refl

-- an expression where a place asks for this level
low : (n : ℕ) (e : Expr) → n ≤ member → n ≤ standing (placed n e (neat_expr e))
low n e most = placed_low n e (neat_expr e) most (neat_standing e)

high : (e : Expr) → nat_le assignment (standing (placed assignment e (neat_expr e))) ≡ true
high e = le-leb assignment (standing (placed assignment e (neat_expr e))) (low assignment e (omega arith))

-- an initializer, in the head of a `for` or elsewhere
initial_bare : (head : Bool) (e x : Expr) → head ≡ true → bare_in (as_initializer head e x) ≡ false
initial_bare true e x h = initializer_bare e x
initial_bare false e x h = absurd (true≢false (sym h))

initial : (head : Bool) (e : Expr) → WillExpr (neat_expr e) → WillInitial head (as_initializer head e (neat_expr e))
initial head e will = record {
  will = initializer_will head e (neat_expr e) will;
  high = le-leb assignment (standing (as_initializer head e (neat_expr e))) (initializer_low head e (neat_expr e) (neat_standing e));
  no_in = initial_bare head e (neat_expr e);
}

mutual
  pub expr_will : (e : Expr) → IsExpr e → WillExpr (neat_expr e)
  expr_will (tree.IdentifierReference l w) is = leaf.name l w is.name.free
  expr_will (tree.This l) is = leaf.this l
  expr_will (tree.NullLiteral l) is = leaf.null l
  expr_will (tree.BooleanLiteral l b) is = leaf.boolean l b
  expr_will (tree.NumericLiteral l w) is = leaf.number l w
  expr_will (tree.StringLiteral l s) is = leaf.string l s is.units
  expr_will (tree.ArrayLiteral l xs) is = array l (neat_exprs xs) (items_will xs is)
  expr_will (tree.ObjectLiteral l ps) is = object l (neat_properties ps) (properties_will ps is)
  expr_will (tree.FunctionExpression l None f) is = function_expression l (neat_function f) (function_will l f is.1)
  expr_will (tree.FunctionExpression l (Some x) f) is = named_function l x (neat_function f) is.0.free (function_will l f is.1)
  expr_will (tree.ArrowFunction l n ps body) is =
      subst (λ k. WillExpr (tree.ArrowFunction l k (neat_params ps) (neat_concise body))) (sym is.0) (arrow l (neat_params ps) (neat_concise body) (params_will ps is.1) (concise_will body is.2))
  expr_will (tree.RegularExpressionLiteral l body flags) is = leaf.pattern l body flags is.parts
  expr_will (tree.TemplateLiteral l s no_template_part) is = leaf.plain_template l s is.0.units
  expr_will (tree.TemplateLiteral l s (more_template_part (MakeTemplatePart e r) ps)) is =
      template l s (neat_expr e) r (neat_parts ps) is.0.units (neat_some e) (expr_will e is.1.0) is.1.1.units (parts_will ps is.1.2)
  expr_will (tree.Parenthesized l e) is = expr_will e is
  expr_will (tree.NamedMember l o w) is =
      operator.named_member l (placed call o (neat_expr o)) w (low call o (omega arith)) (placed_bound o (neat_expr o) (neat_standing o) (neat_level o)) (placed_will call o (neat_expr o) (expr_will o is.0))
  expr_will (tree.ComputedMember l o k) is =
      operator.computed_member l (placed call o (neat_expr o)) (neat_expr k) (low call o (omega arith)) (placed_bound o (neat_expr o) (neat_standing o) (neat_level o)) (neat_some k)
      (placed_will call o (neat_expr o) (expr_will o is.0)) (expr_will k is.1)
  expr_will (tree.New l c xs) is = made_new l (placed member c (neat_expr c)) (neat_exprs xs) (low member c (omega arith)) (placed_will member c (neat_expr c) (expr_will c is.0)) (items_will xs is.1)
  expr_will (tree.Call l f xs) is = called l (placed call f (neat_expr f)) (neat_exprs xs) (low call f (omega arith)) (placed_will call f (neat_expr f) (expr_will f is.0)) (items_will xs is.1)
  expr_will (tree.PostfixUpdate l o e) is = operator.postfix_updated l o (placed call e (neat_expr e)) (low call e (omega arith)) (placed_target call e (omega arith) is.1) (placed_will call e (neat_expr e) (expr_will e is.0))
  expr_will (tree.PrefixUpdate l o e) is = operator.prefix_updated l o (placed 16 e (neat_expr e)) (low 16 e (omega arith)) (placed_target 16 e (omega arith) is.1) (placed_will 16 e (neat_expr e) (expr_will e is.0))
  expr_will (tree.Unary l o e) is = operator.unary l o (placed 16 e (neat_expr e)) (low 16 e (omega arith)) (placed_will 16 e (neat_expr e) (expr_will e is))
  expr_will (tree.Binary l o x y) is =
      operator.binary l o (placed (left_level o) x (neat_expr x)) (placed (right_level o) y (neat_expr y)) (low (left_level o) x (left_most o)) (low (right_level o) y (right_most o))
      (placed_will (left_level o) x (neat_expr x) (expr_will x is.0)) (placed_will (right_level o) y (neat_expr y) (expr_will y is.1))
  expr_will (tree.Logical l o x y) is =
      operator.logical l o (left_operand o x (neat_expr x)) (placed (logical_right o) y (neat_expr y)) (left_low o x (neat_expr x) (neat_standing x)) (low (logical_right o) y (logical_most o)) (left_mixes o x (neat_expr x))
      (left_will o x (neat_expr x) (expr_will x is.0)) (placed_will (logical_right o) y (neat_expr y) (expr_will y is.1))
  expr_will (tree.Conditional l c x y) is =
      operator.conditional l (placed 4 c (neat_expr c)) (placed assignment x (neat_expr x)) (placed assignment y (neat_expr y)) (low 4 c (omega arith)) (low assignment x (omega arith)) (low assignment y (omega arith))
      (placed_will 4 c (neat_expr c) (expr_will c is.0)) (placed_will assignment x (neat_expr x) (expr_will x is.1)) (placed_will assignment y (neat_expr y) (expr_will y is.2))
  expr_will (tree.Assignment l o x y) is =
      operator.assigned l o (placed call x (neat_expr x)) (placed assignment y (neat_expr y)) (low call x (omega arith)) (placed_target call x (omega arith) is.1) (low assignment y (omega arith))
      (placed_will call x (neat_expr x) (expr_will x is.0)) (placed_will assignment y (neat_expr y) (expr_will y is.2))
  expr_will (tree.Comma l x y) is =
      operator.comma l (neat_expr x) (placed assignment y (neat_expr y)) (neat_some x) (low assignment y (omega arith)) (expr_will x is.0) (placed_will assignment y (neat_expr y) (expr_will y is.1))
  expr_will (tree.Entered m e) is = absurd is

  pub items_will : (es : Exprs) → AreExprs es → AllWill (neat_exprs es)
  items_will no_expr is = tt
  items_will (more_expr e es) is = (low assignment e (omega arith), placed_will assignment e (neat_expr e) (expr_will e is.0), items_will es is.1)

  pub parts_will : (ps : TemplateParts) → AreParts ps → PartsWill (neat_parts ps)
  parts_will no_template_part is = tt
  parts_will (more_template_part (MakeTemplatePart e s) ps) is = (neat_some e, expr_will e is.0, is.1.units, parts_will ps is.2)

  pub properties_will : (ps : Properties) → AreProperties ps → PropertiesWill (neat_properties ps)
  properties_will no_property is = tt
  properties_will (more_property p ps) is = (property_will p is.0, properties_will ps is.1)

  pub property_will : (p : Property) → IsProperty p → PropertyWill (neat_property p)
  property_will (Shorthand l w) is = is.free
  property_will (KeyValue l k e) is = (key_will k is.0, proto_neat k ∙ is.1, low assignment e (omega arith), placed_will assignment e (neat_expr e) (expr_will e is.2))
  property_will (Method l k f) is = (key_will k is.0, function_will l f is.1)

  pub key_will : (k : PropertyKey) → IsKey k → KeyWill (neat_key k)
  key_will (NameKey w) is = tt
  key_will (StringKey s) is = is.units
  key_will (NumberKey w) is = tt
  key_will (ComputedKey e) is = (low assignment e (omega arith), placed_will assignment e (neat_expr e) (expr_will e is))

  -- a function, with this place or another
  pub function_will : (l : Option Loc) (f : Function) → IsFunction f → WillReadFunction l (neat_function f)
  function_will l (MakeFunction n ps (MakeFunctionBody m ss)) is =
      subst (λ k. WillReadFunction l (MakeFunction k (neat_params ps) (MakeFunctionBody m (neat_stmts ss)))) (sym is.0) (function_read l m (neat_params ps) (neat_stmts ss) (params_will ps is.1) (read_body ss is.2))
  function_will l (MakeFunction n ps (EnteredBody m body)) is = absurd is.2

  pub concise_will : (body : ConciseBody) → IsConcise body → WillConcise (neat_concise body)
  concise_will (ExpressionBody e) is = value_body (as_body e (neat_expr e)) (body_low e (neat_expr e) (neat_standing e)) (body_plain e (neat_expr e)) (body_will e (neat_expr e) (expr_will e is))
  concise_will (BlockBody (MakeFunctionBody m ss)) is = block_body m (neat_stmts ss) (read_body ss is)
  concise_will (BlockBody (EnteredBody m body)) is = absurd is

  pub params_will : (ps : Params) → AreParams ps → ParamsWill (neat_params ps)
  params_will no_param is = tt
  params_will (more_param (MakeParam l (BindingIdentifier m w) e) ps) is = (is.0.free, default_will false e is.1, params_will ps is.2)

  pub default_will : (head : Bool) (e : MaybeExpr) → IsMaybe e → DefaultWill (neat_initializer head e)
  default_will head none_expr is = tt
  default_will head (some_expr e) is = (initializer_low head e (neat_expr e) (neat_standing e), initializer_will head e (neat_expr e) (expr_will e is))

  -- ---- statements

  read_maybe : (e : MaybeExpr) → IsMaybe e → WillMaybe (neat_maybe e)
  read_maybe none_expr is = tt
  read_maybe (some_expr e) is = expr_will e is

  read_init : (head due : Bool) (l : Option Loc) (x : Pattern) (e : MaybeExpr) → IsDeclarator due (MakeDeclarator l x e) → WillInit head due (MakeDeclarator l x (neat_initializer head e))
  read_init head true l x none_expr is = absurd is
  read_init head false l x none_expr is = is.0
  read_init head true l x (some_expr e) is = (is.0, initial head e (expr_will e is.1))
  read_init head false l x (some_expr e) is = (is.0, initial head e (expr_will e is.1))

  read_inits : (head due : Bool) (ds : Declarators) → AreDeclarators due ds → WillInits head due (neat_declarators head ds)
  read_inits head due no_declarator is = tt
  read_inits head due (more_declarator (MakeDeclarator l x e) ds) is = (read_init head due l x e is.0, read_inits head due ds is.1)

  pub read_stmt : (s : Stmt) → IsStmt s → WillStmt (neat_stmt s)
  read_stmt (tree.Directive l s) is = absurd is
  read_stmt (tree.Block l ss) is = will_block l (neat_stmts ss) (read_block ss is)
  read_stmt (tree.VariableDeclaration l v no_declarator) is = absurd is
  read_stmt (tree.VariableDeclaration l v (more_declarator (MakeDeclarator m x e) ds)) is =
      will_variables l v (MakeDeclarator m x (neat_initializer false e)) (neat_declarators false ds) (read_init false (is_const v) m x e is.0, read_inits false (is_const v) ds is.1)
  read_stmt (tree.Empty l) is = will_empty l
  read_stmt (tree.Expression l e) is = will_expression l (as_statement e (neat_expr e)) (paired_will _ e (neat_expr e) (expr_will e is)) (plain_statement e (neat_expr e) (no_let_first e is))
  read_stmt (tree.If l c s none_stmt) is = will_if l (neat_expr c) (neat_stmt s) (expr_will c is.0) (read_stmt s is.1) (neat_declares s ∙ is.2)
  read_stmt (tree.If l c s (some_stmt r)) is =
      will_if_else l (neat_expr c) (neat_stmt s) (neat_stmt r) (expr_will c is.0) (read_stmt s is.1) (neat_declares s ∙ is.2) (neat_ends_open s ∙ is.3.2) (read_stmt r is.3.0) (neat_declares r ∙ is.3.1)
  read_stmt (tree.If l c s (entered_none m)) is = absurd is.3
  read_stmt (tree.DoWhile l s c) is = will_do l (neat_stmt s) (neat_expr c) (read_stmt s is.0) (neat_declares s ∙ is.1) (expr_will c is.2)
  read_stmt (tree.While l c s) is = will_while l (neat_expr c) (neat_stmt s) (expr_will c is.0) (read_stmt s is.1) (neat_declares s ∙ is.2)
  read_stmt (tree.For l NoInit y z s) is = will_for l (neat_maybe y) (neat_maybe z) (neat_stmt s) (read_maybe y is.1) (read_maybe z is.2) (read_stmt s is.3) (neat_declares s ∙ is.4)
  read_stmt (tree.For l (InitDeclaration v no_declarator) y z s) is = absurd is.0
  read_stmt (tree.For l (InitDeclaration v (more_declarator (MakeDeclarator m x e) ds)) y z s) is =
      will_for_declaration l v (MakeDeclarator m x (neat_initializer true e)) (neat_declarators true ds) (neat_maybe y) (neat_maybe z) (neat_stmt s) (read_init true (is_const v) m x e is.0.0, read_inits true (is_const v) ds is.0.1)
      (read_maybe y is.1) (read_maybe z is.2) (read_stmt s is.3) (neat_declares s ∙ is.4)
  read_stmt (tree.For l (InitExpression e) y z s) is =
      will_for_expression l (paired (bare_in (neat_expr e)) e (neat_expr e)) (neat_maybe y) (neat_maybe z) (neat_stmt s) (paired_will (bare_in (neat_expr e)) e (neat_expr e) (expr_will e is.0)) (head_bare e (neat_expr e))
      (no_let_paired (bare_in (neat_expr e)) e (neat_expr e) (no_let_first e is.0)) (read_maybe y is.1) (read_maybe z is.2) (read_stmt s is.3) (neat_declares s ∙ is.4)
  read_stmt (tree.ForIn l (TargetDeclaration v (BindingIdentifier m w)) e s) is = will_for_in_declaration l v m w (neat_expr e) (neat_stmt s) is.0 (expr_will e is.1) (read_stmt s is.2) (neat_declares s ∙ is.3)
  read_stmt (tree.ForIn l (TargetExpression o) e s) is =
      will_for_in_target l (neat_expr o) (neat_expr e) (neat_stmt s) (expr_will o is.0.0) (neat_target o is.0.1) (no_let_first o is.0.0) (expr_will e is.1) (read_stmt s is.2) (neat_declares s ∙ is.3)
  read_stmt (tree.ForOf l (TargetDeclaration v (BindingIdentifier m w)) e s) is =
      will_for_of_declaration l v m w (placed assignment e (neat_expr e)) (neat_stmt s) is.0 (paired_will (nat_lt (level e) assignment) e (neat_expr e) (expr_will e is.2)) (high e) (read_stmt s is.3) (neat_declares s ∙ is.4)
  read_stmt (tree.ForOf l (TargetExpression o) e s) is =
      will_for_of_target l (neat_expr o) (placed assignment e (neat_expr e)) (neat_stmt s) (expr_will o is.0.0) (neat_target o is.0.1) (neat_async o is.0.1 ∙ is.1) (no_let_first o is.0.0)
      (paired_will (nat_lt (level e) assignment) e (neat_expr e) (expr_will e is.2)) (high e) (read_stmt s is.3) (neat_declares s ∙ is.4)
  read_stmt (tree.Continue l x) is = will_continue l x is
  read_stmt (tree.Break l x) is = will_break l x is
  read_stmt (tree.Return l none_expr) is = will_return l
  read_stmt (tree.Return l (some_expr e)) is = will_return_value l (neat_expr e) (expr_will e is)
  read_stmt (tree.Switch l e cs) is = will_switch l (neat_expr e) (neat_cases cs) (expr_will e is.0) (read_cases false cs is.1)
  read_stmt (tree.Labelled l x s) is = will_labelled l x (neat_stmt s) is.0 (read_stmt s is.1) (neat_declares s ∙ is.2)
  read_stmt (tree.Throw l e) is = will_throw l (neat_expr e) (expr_will e is)
  read_stmt (tree.TryCatch l b (MakeCatch x c)) is = will_try_catch l (neat_stmts b) x (neat_stmts c) (read_block b is.0) is.1.0 (read_block c is.1.1)
  read_stmt (tree.TryFinally l b f) is = will_try_finally l (neat_stmts b) (neat_stmts f) (read_block b is.0) (read_block f is.1)
  read_stmt (tree.TryCatchFinally l b (MakeCatch x c) f) is = will_try_catch_finally l (neat_stmts b) x (neat_stmts c) (neat_stmts f) (read_block b is.0) is.1.0 (read_block c is.1.1) (read_block f is.2)
  read_stmt (tree.Debugger l) is = will_debugger l
  read_stmt (tree.FunctionDeclaration l x f) is = will_function_declaration l x (neat_function f) is.0 (function_spelt l (neat_function f) (function_will l f is.1))
  read_stmt (tree.EnteredStmt m s) is = absurd is

  pub read_block : (ss : Stmts) → AreStmts false ss → WillBlock (neat_stmts ss)
  read_block no_stmt is = block_none
  read_block (more_stmt s ss) is = block_more (neat_stmt s) (neat_stmts ss) (read_stmt s is.0) (read_block ss is.1)

  read_cases : (defaulted : Bool) (cs : Cases) → AreCases defaulted cs → WillCases defaulted (neat_cases cs)
  read_cases defaulted no_case is = tt
  read_cases true (more_case (MakeCase l none_expr ss) cs) is = absurd is
  read_cases false (more_case (MakeCase l none_expr ss) cs) is = (read_block ss is.0, read_cases true cs is.1)
  read_cases true (more_case (MakeCase l (some_expr e) ss) cs) is = (expr_will e is.0, read_block ss is.1, read_cases true cs is.2)
  read_cases false (more_case (MakeCase l (some_expr e) ss) cs) is = (expr_will e is.0, read_block ss is.1, read_cases false cs is.2)
  read_cases true (more_case (EnteredCase m c) cs) is = absurd is
  read_cases false (more_case (EnteredCase m c) cs) is = absurd is

  -- statements of a body, after its directives
  pub read_body : (ss : Stmts) → AreStmts true ss → WillBody (neat_stmts ss)
  read_body no_stmt is = body_none
  read_body (more_stmt (tree.Directive l s) ss) is = body_directive l s (neat_stmts ss) is.0 (read_body ss is.1)
  read_body (more_stmt s ss) is = body_more (neat_stmt s) (neat_stmts ss) (read_stmt s is.0) (no_string_stmt s) (read_block ss is.1)

-- the tokens of a file that can be printed, and the end, are a sentence of the tree with its parentheses, but for places
pub file_read : (file : File) → Printable file → (line : Bool) (ts : List Token) (end : Token) → Follows line (file_tokens (neat_file file)) ts → end.kind ≡ End → SpeltFile file ts end
file_read file printable = spelt_file file printable (read_body (body_of file) printable.body)
