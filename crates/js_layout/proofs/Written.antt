-- Every token of a tree that can be printed is one by itself.
use Rattle.std.proofs.Common.{◌≡◌, ℕ, Bool, true, false, List, [], ◌∷◌, ◌++◌, Option, Some, None, refl, sym, subst, arith}
use Rattle.std.specs.Prelude.{codes, nat_lt, ◌||◌, ◌&&◌}
use Rattle.js_terms.specs.declared.place.Loc.{Loc}
use Rattle.js_terms.specs.declared.words.Identifier.{Identifier}
use Rattle.js_terms.specs.declared.words.Spelled.{Spelled}
use Rattle.js_terms.specs.declared.operators.LogicalOperator.{LogicalOperator}
use Rattle.js_terms.specs.declared.operators.LogicalOperator.TheVariants as logic
use Rattle.js_tree.specs.Plain.{Expr, IdentifierReference, This, NullLiteral, BooleanLiteral, NumericLiteral, StringLiteral, ArrayLiteral, ObjectLiteral, FunctionExpression, ArrowFunction, RegularExpressionLiteral, TemplateLiteral, Parenthesized, NamedMember, ComputedMember, New, Call, PostfixUpdate, PrefixUpdate, Unary, Binary, Logical, Conditional, Assignment, Comma, Entered}
use Rattle.js_tree.specs.Plain.{Stmt, Directive, Block, VariableDeclaration, Empty, Expression, If, DoWhile, While, For, ForIn, ForOf, Continue, Break, Return, Switch, Labelled, Throw, TryCatch, TryFinally, TryCatchFinally, Debugger, FunctionDeclaration, EnteredStmt}
use Rattle.js_tree.specs.Plain.{Property, Shorthand, KeyValue, Method, PropertyKey, NameKey, StringKey, NumberKey, ComputedKey, ConciseBody, ExpressionBody, BlockBody, ForInit, NoInit, InitDeclaration, InitExpression, ForTarget, TargetDeclaration, TargetExpression}
use Rattle.js_tree.specs.Plain.{MakeTemplatePart, Function, MakeFunction, FunctionBody, MakeFunctionBody, EnteredBody, MakeParam, MakeDeclarator, MakeCase, EnteredCase, Catch, MakeCatch, Pattern, BindingIdentifier}
use Rattle.js_tree.specs.Plain.{none_pattern, some_pattern, MaybeExpr, none_expr, some_expr, MaybeStmt, none_stmt, some_stmt, entered_none}
use Rattle.js_tree.specs.Plain.{TemplateParts, no_template_part, more_template_part, Properties, no_property, more_property, Params, no_param, more_param, Exprs, no_expr, more_expr, Stmts, no_stmt, more_stmt, Declarators, no_declarator, more_declarator, Cases, no_case, more_case, File, MakeFile}
use Rattle.js_text.specs.declared.punctuator.Punctuator.TheVariants as P
use Rattle.js_text.specs.Token as T
use Rattle.js_reading.specs.Level.{assignment, logical_level, left_level, right_level}
use Rattle.js_reading.specs.Productions.{call, member, logical_right, sign_of, logical_sign, assignment_sign, update_of}
use Rattle.js_reading.specs.Makes.{bare_in, is_and_or, is_const}
use Rattle.js_spelling.specs.Written.{Written}
use Rattle.js_spelling.specs.Tokens.{IsToken, AreTokens}
use Rattle.js_layout.specs.Tokens.{truth, regular_expression, begun, braced, in_parentheses, mark, last_mark, word, token, label_tokens, pattern_tokens, first_part, later_part, pair_of, expr_tokens, exprs_tokens, more_exprs_tokens, parts_tokens, properties_tokens, more_properties_tokens, property_tokens, key_tokens, function_tokens, body_tokens, concise_tokens, params_tokens, more_params_tokens, initializer_tokens, stmt_tokens, stmts_tokens, maybe_tokens, else_tokens, declarators_tokens, more_declarators_tokens, declarator_tokens, init_tokens, target_tokens, cases_tokens, case_tokens, catch_tokens}
use Rattle.js_layout.specs.Neat.{level, first_is, is_brace, is_function, is_string, paired, placed, left_operand, as_statement, as_initializer, neat_expr, neat_exprs, neat_parts, neat_properties, neat_property, neat_key, neat_function, neat_body, neat_concise, neat_params, neat_initializer, neat_declarators, neat_maybe, neat_stmt, neat_stmts, neat_else, neat_init, neat_target, neat_cases, neat_catch}
use Rattle.js_layout.specs.Layout.{written}
use Rattle.js_layout.specs.Printable.{IsNameIf, IsPart, Binds, IsExpr, AreExprs, AreParts, AreProperties, IsProperty, IsKey, IsFunction, IsBody, IsConcise, AreParams, IsMaybe, AreStmts, IsStmt, IsElse, HasDeclarators, AreDeclarators, IsDeclarator, IsInit, IsTarget, AreCases, IsCatch, Printable}
use Rattle.js_layout.proofs.Signs.{mark_token, word_token, sign_token, prefix_token, variable_token, truth_token}

-- ---- lists

pub are_append : (xs ys : List Written) → AreTokens xs → AreTokens ys → AreTokens (xs ++ ys)
are_append [] ys h k = k
are_append (x ∷ xs) ys h k = (h.0, are_append xs ys h.1 k)

pub are_begun : (l : Option Loc) (ts : List Written) → AreTokens ts → AreTokens (begun l ts)
are_begun None ts h = h
are_begun (Some l) [] h = h
are_begun (Some l) (t ∷ ts) h = h

pub are_in_parentheses : (l : Option Loc) (ts : List Written) → AreTokens ts → AreTokens (in_parentheses l ts)
are_in_parentheses l ts h = (mark_token P.OpenParenthesis, are_append ts (mark l P.CloseParenthesis ∷ []) h (mark_token P.CloseParenthesis, tt))

pub are_braced : (l : Option Loc) (ts : List Written) → AreTokens ts → AreTokens (braced l ts)
are_braced l ts h = (mark_token P.OpenBrace, are_append ts (last_mark l P.CloseBrace ∷ []) h (mark_token P.CloseBrace, tt))

-- these, and one token more
are_ended : (xs : List Written) (y : Written) → AreTokens xs → IsToken y.kind → AreTokens (xs ++ y ∷ [])
are_ended xs y h k = are_append xs (y ∷ []) h (k, tt)

-- two parts with a token between them
are_joined : (xs : List Written) (y : Written) (zs : List Written) → AreTokens xs → IsToken y.kind → AreTokens zs → AreTokens (xs ++ y ∷ zs)
are_joined xs y zs h k m = are_append xs (y ∷ zs) h (k, m)

-- ---- pairs

are_paired : (b : Bool) (e x : Expr) → AreTokens (expr_tokens x) → AreTokens (expr_tokens (paired b e x))
are_paired false e x h = h
are_paired true (Parenthesized l e) x h = are_begun l (in_parentheses (pair_of l x) (expr_tokens x)) (are_in_parentheses (pair_of l x) (expr_tokens x) h)
are_paired true e x h = are_in_parentheses (pair_of None x) (expr_tokens x) h

are_placed : (n : ℕ) (e x : Expr) → AreTokens (expr_tokens x) → AreTokens (expr_tokens (placed n e x))
are_placed n e x h = are_paired (nat_lt (level e) n) e x h

are_left : (o : LogicalOperator) (e x : Expr) → AreTokens (expr_tokens x) → AreTokens (expr_tokens (left_operand o e x))
are_left logic.Coalesce e x h = are_paired (nat_lt (level e) (logical_level logic.Coalesce) || is_and_or x) e x h
are_left logic.And e x h = are_placed (logical_level logic.And) e x h
are_left logic.Or e x h = are_placed (logical_level logic.Or) e x h

-- ---- names, and the parts of a template

are_label : (l : Option Loc) (x : Option Identifier) → IsNameIf x → AreTokens (label_tokens l x)
are_label l None h = tt
are_label l (Some x) h = (h.token, tt)

are_pattern : (l : Option Loc) (x : Pattern) → Binds x → AreTokens (pattern_tokens l x)
are_pattern l (BindingIdentifier m w) h = (h.token, tt)

-- whether a part is the last stays
first_neat : (ps : TemplateParts) (w : List ℕ) → first_part (neat_parts ps) w ≡ first_part ps w
first_neat no_template_part w = refl
first_neat (more_template_part (MakeTemplatePart e s) ps) w = refl

later_neat : (ps : TemplateParts) (w : List ℕ) → later_part (neat_parts ps) w ≡ later_part ps w
later_neat no_template_part w = refl
later_neat (more_template_part (MakeTemplatePart e s) ps) w = refl

first_token : (ps : TemplateParts) (s : Spelled) → IsPart (first_part ps s.spelling) s → IsToken (first_part (neat_parts ps) s.spelling)
first_token ps s h = subst IsToken (sym (first_neat ps s.spelling)) h.token

later_token : (ps : TemplateParts) (s : Spelled) → IsPart (later_part ps s.spelling) s → IsToken (later_part (neat_parts ps) s.spelling)
later_token ps s h = subst IsToken (sym (later_neat ps s.spelling)) h.token

-- a declarator binds a name, and has an initializer or none
record Declares (x : Pattern) (e : MaybeExpr) : Type 0 where
  binds : Binds x
  maybe : IsMaybe e

declares : (due : Bool) (l : Option Loc) (x : Pattern) (e : MaybeExpr) → IsDeclarator due (MakeDeclarator l x e) → Declares x e
declares true l x none_expr h = absurd h
declares true l x (some_expr e) h = record { binds = h.0; maybe = h.1 }
declares false l x e h = record { binds = h.0; maybe = h.1 }

-- ---- the tree

mutual
  pub are_expr : (e : Expr) → IsExpr e → AreTokens (expr_tokens (neat_expr e))
  are_expr (IdentifierReference l w) h = are_begun l (word l w ∷ []) (h.name.token, tt)
  are_expr (This l) h = are_begun l (word l (codes "this") ∷ []) (word_token (codes "this") refl (omega arith), tt)
  are_expr (NullLiteral l) h = are_begun l (word l (codes "null") ∷ []) (word_token (codes "null") refl (omega arith), tt)
  are_expr (BooleanLiteral l b) h = are_begun l (word l (truth b) ∷ []) (truth_token b, tt)
  are_expr (NumericLiteral l w) h = are_begun l (token l (T.Numeral w) ∷ []) (h, tt)
  are_expr (StringLiteral l s) h = are_begun l (token l (T.StringLiteral s.spelling) ∷ []) (h.token, tt)
  are_expr (ArrayLiteral l xs) h = are_begun l _ (mark_token P.OpenBracket, are_ended (exprs_tokens l (neat_exprs xs)) (mark l P.CloseBracket) (are_exprs l xs h) (mark_token P.CloseBracket))
  are_expr (ObjectLiteral l ps) h = are_begun l _ (mark_token P.OpenBrace, are_ended (properties_tokens l (neat_properties ps)) (mark l P.CloseBrace) (are_properties l ps h) (mark_token P.CloseBrace))
  are_expr (FunctionExpression l n f) h = are_begun l _ (word_token (codes "function") refl (omega arith), are_append (label_tokens l n) (function_tokens l (neat_function f)) (are_label l n h.0) (are_function l f h.1))
  are_expr (ArrowFunction l n ps body) h =
      are_begun l _ (mark_token P.OpenParenthesis, are_joined (params_tokens l (neat_params ps)) (mark l P.CloseParenthesis) (mark l P.Arrow ∷ concise_tokens (neat_concise body)) (are_params l ps h.1) (mark_token P.CloseParenthesis) (mark_token P.Arrow, are_concise body h.2))
  are_expr (RegularExpressionLiteral l body flags) h = are_begun l (token l (regular_expression body flags) ∷ []) (h.token, tt)
  are_expr (TemplateLiteral l s parts) h = are_begun l _ (first_token parts s h.0, are_parts l parts h.1)
  are_expr (Parenthesized l e) h = are_expr e h
  are_expr (NamedMember l o w) h = are_begun l _ (are_joined (expr_tokens (placed call o (neat_expr o))) (mark l P.Dot) (word l w ∷ []) (are_placed call o (neat_expr o) (are_expr o h.0)) (mark_token P.Dot) (h.1, tt))
  are_expr (ComputedMember l o k) h =
      are_begun l _ (are_joined (expr_tokens (placed call o (neat_expr o))) (mark l P.OpenBracket) (expr_tokens (neat_expr k) ++ mark l P.CloseBracket ∷ []) (are_placed call o (neat_expr o) (are_expr o h.0)) (mark_token P.OpenBracket)
      (are_ended (expr_tokens (neat_expr k)) (mark l P.CloseBracket) (are_expr k h.1) (mark_token P.CloseBracket)))
  are_expr (New l c xs) h =
      are_begun l _ (word_token (codes "new") refl (omega arith), are_append (expr_tokens (placed member c (neat_expr c))) (in_parentheses l (exprs_tokens l (neat_exprs xs))) (are_placed member c (neat_expr c) (are_expr c h.0)) (are_in_parentheses l (exprs_tokens l (neat_exprs xs)) (are_exprs l xs h.1)))
  are_expr (Call l f xs) h =
      are_begun l _ (are_append (expr_tokens (placed call f (neat_expr f))) (in_parentheses l (exprs_tokens l (neat_exprs xs))) (are_placed call f (neat_expr f) (are_expr f h.0)) (are_in_parentheses l (exprs_tokens l (neat_exprs xs)) (are_exprs l xs h.1)))
  are_expr (PostfixUpdate l o e) h = are_begun l _ (are_ended (expr_tokens (placed call e (neat_expr e))) (mark l (update_of o)) (are_placed call e (neat_expr e) (are_expr e h.0)) (mark_token (update_of o)))
  are_expr (PrefixUpdate l o e) h = are_begun l _ (mark_token (update_of o), are_placed 16 e (neat_expr e) (are_expr e h.0))
  are_expr (Unary l o e) h = are_begun l _ (prefix_token o, are_placed 16 e (neat_expr e) (are_expr e h))
  are_expr (Binary l o x y) h =
      are_begun l _ (are_joined (expr_tokens (placed (left_level o) x (neat_expr x))) (token l (sign_of o)) (expr_tokens (placed (right_level o) y (neat_expr y))) (are_placed (left_level o) x (neat_expr x) (are_expr x h.0)) (sign_token o) (are_placed (right_level o) y (neat_expr y) (are_expr y h.1)))
  are_expr (Logical l o x y) h =
      are_begun l _ (are_joined (expr_tokens (left_operand o x (neat_expr x))) (mark l (logical_sign o)) (expr_tokens (placed (logical_right o) y (neat_expr y))) (are_left o x (neat_expr x) (are_expr x h.0)) (mark_token (logical_sign o)) (are_placed (logical_right o) y (neat_expr y) (are_expr y h.1)))
  are_expr (Conditional l c x y) h =
      are_begun l _ (are_joined (expr_tokens (placed 4 c (neat_expr c))) (mark l P.Question) (expr_tokens (placed assignment x (neat_expr x)) ++ mark l P.Colon ∷ expr_tokens (placed assignment y (neat_expr y))) (are_placed 4 c (neat_expr c) (are_expr c h.0)) (mark_token P.Question)
      (are_joined (expr_tokens (placed assignment x (neat_expr x))) (mark l P.Colon) (expr_tokens (placed assignment y (neat_expr y))) (are_placed assignment x (neat_expr x) (are_expr x h.1)) (mark_token P.Colon) (are_placed assignment y (neat_expr y) (are_expr y h.2))))
  are_expr (Assignment l o x y) h =
      are_begun l _ (are_joined (expr_tokens (placed call x (neat_expr x))) (mark l (assignment_sign o)) (expr_tokens (placed assignment y (neat_expr y))) (are_placed call x (neat_expr x) (are_expr x h.0)) (mark_token (assignment_sign o)) (are_placed assignment y (neat_expr y) (are_expr y h.2)))
  are_expr (Comma l x y) h = are_begun l _ (are_joined (expr_tokens (neat_expr x)) (mark l P.Comma) (expr_tokens (placed assignment y (neat_expr y))) (are_expr x h.0) (mark_token P.Comma) (are_placed assignment y (neat_expr y) (are_expr y h.1)))
  are_expr (Entered m e) h = absurd h

  pub are_exprs : (l : Option Loc) (es : Exprs) → AreExprs es → AreTokens (exprs_tokens l (neat_exprs es))
  are_exprs l no_expr h = tt
  are_exprs l (more_expr e es) h = are_append (expr_tokens (placed assignment e (neat_expr e))) (more_exprs_tokens l (neat_exprs es)) (are_placed assignment e (neat_expr e) (are_expr e h.0)) (are_more_exprs l es h.1)

  are_more_exprs : (l : Option Loc) (es : Exprs) → AreExprs es → AreTokens (more_exprs_tokens l (neat_exprs es))
  are_more_exprs l no_expr h = tt
  are_more_exprs l (more_expr e es) h = (mark_token P.Comma, are_append (expr_tokens (placed assignment e (neat_expr e))) (more_exprs_tokens l (neat_exprs es)) (are_placed assignment e (neat_expr e) (are_expr e h.0)) (are_more_exprs l es h.1))

  pub are_parts : (l : Option Loc) (ps : TemplateParts) → AreParts ps → AreTokens (parts_tokens l (neat_parts ps))
  are_parts l no_template_part h = tt
  are_parts l (more_template_part (MakeTemplatePart e s) ps) h = are_joined (expr_tokens (neat_expr e)) (token l (later_part (neat_parts ps) s.spelling)) (parts_tokens l (neat_parts ps)) (are_expr e h.0) (later_token ps s h.1) (are_parts l ps h.2)

  pub are_properties : (l : Option Loc) (ps : Properties) → AreProperties ps → AreTokens (properties_tokens l (neat_properties ps))
  are_properties l no_property h = tt
  are_properties l (more_property p ps) h = are_append (property_tokens (neat_property p)) (more_properties_tokens l (neat_properties ps)) (are_property p h.0) (are_more_properties l ps h.1)

  are_more_properties : (l : Option Loc) (ps : Properties) → AreProperties ps → AreTokens (more_properties_tokens l (neat_properties ps))
  are_more_properties l no_property h = tt
  are_more_properties l (more_property p ps) h = (mark_token P.Comma, are_append (property_tokens (neat_property p)) (more_properties_tokens l (neat_properties ps)) (are_property p h.0) (are_more_properties l ps h.1))

  pub are_property : (p : Property) → IsProperty p → AreTokens (property_tokens (neat_property p))
  are_property (Shorthand l w) h = are_begun l (word l w ∷ []) (h.token, tt)
  are_property (KeyValue l k e) h = are_joined (key_tokens l (neat_key k)) (mark l P.Colon) (expr_tokens (placed assignment e (neat_expr e))) (are_key l k h.0) (mark_token P.Colon) (are_placed assignment e (neat_expr e) (are_expr e h.2))
  are_property (Method l k f) h = are_begun l _ (are_append (key_tokens l (neat_key k)) (function_tokens l (neat_function f)) (are_key l k h.0) (are_function l f h.1))

  pub are_key : (l : Option Loc) (k : PropertyKey) → IsKey k → AreTokens (key_tokens l (neat_key k))
  are_key l (NameKey w) h = (h, tt)
  are_key l (StringKey s) h = (h.token, tt)
  are_key l (NumberKey w) h = (h, tt)
  are_key l (ComputedKey e) h = (mark_token P.OpenBracket, are_ended (expr_tokens (placed assignment e (neat_expr e))) (mark l P.CloseBracket) (are_placed assignment e (neat_expr e) (are_expr e h)) (mark_token P.CloseBracket))

  pub are_function : (l : Option Loc) (f : Function) → IsFunction f → AreTokens (function_tokens l (neat_function f))
  are_function l (MakeFunction n ps body) h = (mark_token P.OpenParenthesis, are_joined (params_tokens l (neat_params ps)) (mark l P.CloseParenthesis) (body_tokens (neat_body body)) (are_params l ps h.1) (mark_token P.CloseParenthesis) (are_body body h.2))

  pub are_body : (body : FunctionBody) → IsBody body → AreTokens (body_tokens (neat_body body))
  are_body (MakeFunctionBody l ss) h = are_braced l (stmts_tokens (neat_stmts ss)) (are_stmts true ss h)
  are_body (EnteredBody m body) h = absurd h

  pub are_concise : (body : ConciseBody) → IsConcise body → AreTokens (concise_tokens (neat_concise body))
  are_concise (ExpressionBody e) h = are_paired (nat_lt (level e) assignment || first_is is_brace (expr_tokens (neat_expr e))) e (neat_expr e) (are_expr e h)
  are_concise (BlockBody body) h = are_body body h

  pub are_params : (l : Option Loc) (ps : Params) → AreParams ps → AreTokens (params_tokens l (neat_params ps))
  are_params l no_param h = tt
  are_params l (more_param (MakeParam m x e) ps) h =
      are_append (pattern_tokens m x ++ initializer_tokens m (neat_initializer false e)) (more_params_tokens l (neat_params ps))
      (are_append (pattern_tokens m x) (initializer_tokens m (neat_initializer false e)) (are_pattern m x h.0) (are_initializer false m e h.1)) (are_more_params l ps h.2)

  are_more_params : (l : Option Loc) (ps : Params) → AreParams ps → AreTokens (more_params_tokens l (neat_params ps))
  are_more_params l no_param h = tt
  are_more_params l (more_param (MakeParam m x e) ps) h = (
    mark_token P.Comma,
    are_append (pattern_tokens m x ++ initializer_tokens m (neat_initializer false e)) (more_params_tokens l (neat_params ps))
        (are_append (pattern_tokens m x) (initializer_tokens m (neat_initializer false e)) (are_pattern m x h.0) (are_initializer false m e h.1)) (are_more_params l ps h.2),
  )

  pub are_initializer : (head : Bool) (l : Option Loc) (e : MaybeExpr) → IsMaybe e → AreTokens (initializer_tokens l (neat_initializer head e))
  are_initializer head l none_expr h = tt
  are_initializer head l (some_expr e) h = (mark_token P.Assign, are_paired (nat_lt (level e) assignment || (head && bare_in (neat_expr e))) e (neat_expr e) (are_expr e h))

  pub are_maybe : (e : MaybeExpr) → IsMaybe e → AreTokens (maybe_tokens (neat_maybe e))
  are_maybe none_expr h = tt
  are_maybe (some_expr e) h = are_expr e h

  are_declarator : (head : Bool) (l : Option Loc) (x : Pattern) (e : MaybeExpr) → Declares x e → AreTokens (declarator_tokens (MakeDeclarator l x (neat_initializer head e)))
  are_declarator head l x none_expr h = are_begun l _ (are_append (pattern_tokens l x) [] (are_pattern l x h.binds) tt)
  are_declarator head l x (some_expr e) h =
      are_begun l _ (are_append (pattern_tokens l x) (mark l P.Assign ∷ expr_tokens (as_initializer head e (neat_expr e))) (are_pattern l x h.binds)
      (mark_token P.Assign, are_paired (nat_lt (level e) assignment || (head && bare_in (neat_expr e))) e (neat_expr e) (are_expr e h.maybe)))

  pub has_declarators : (head due : Bool) (l : Option Loc) (ds : Declarators) → HasDeclarators due ds → AreTokens (declarators_tokens l (neat_declarators head ds))
  has_declarators head due l no_declarator h = absurd h
  has_declarators head due l (more_declarator (MakeDeclarator m x e) ds) h =
      are_append (declarator_tokens (MakeDeclarator m x (neat_initializer head e))) (more_declarators_tokens l (neat_declarators head ds)) (are_declarator head m x e (declares due m x e h.0)) (are_declarators head due l ds h.1)

  are_declarators : (head due : Bool) (l : Option Loc) (ds : Declarators) → AreDeclarators due ds → AreTokens (more_declarators_tokens l (neat_declarators head ds))
  are_declarators head due l no_declarator h = tt
  are_declarators head due l (more_declarator (MakeDeclarator m x e) ds) h =
      (mark_token P.Comma, are_append (declarator_tokens (MakeDeclarator m x (neat_initializer head e))) (more_declarators_tokens l (neat_declarators head ds)) (are_declarator head m x e (declares due m x e h.0)) (are_declarators head due l ds h.1))

  pub are_stmt : (s : Stmt) → IsStmt s → AreTokens (stmt_tokens (neat_stmt s))
  are_stmt (Directive l s) h = absurd h
  are_stmt (Block l ss) h = are_begun l (braced l (stmts_tokens (neat_stmts ss))) (are_braced l (stmts_tokens (neat_stmts ss)) (are_stmts false ss h))
  are_stmt (VariableDeclaration l k ds) h = are_begun l _ (variable_token k, are_ended (declarators_tokens l (neat_declarators false ds)) (last_mark l P.Semicolon) (has_declarators false (is_const k) l ds h) (mark_token P.Semicolon))
  are_stmt (Empty l) h = are_begun l (last_mark l P.Semicolon ∷ []) (mark_token P.Semicolon, tt)
  are_stmt (Expression l e) h =
      are_begun l _ (are_ended (expr_tokens (as_statement e (neat_expr e))) (last_mark l P.Semicolon)
      (are_paired (first_is is_brace (expr_tokens (neat_expr e)) || first_is is_function (expr_tokens (neat_expr e)) || is_string (neat_expr e)) e (neat_expr e) (are_expr e h)) (mark_token P.Semicolon))
  are_stmt (If l c s r) h =
      are_begun l _ (
        word_token (codes "if") refl (omega arith),
        are_append (in_parentheses l (expr_tokens (neat_expr c))) (stmt_tokens (neat_stmt s) ++ else_tokens l (neat_else r)) (are_in_parentheses l (expr_tokens (neat_expr c)) (are_expr c h.0))
            (are_append (stmt_tokens (neat_stmt s)) (else_tokens l (neat_else r)) (are_stmt s h.1) (are_else l s r h.3)),
      )
  are_stmt (DoWhile l s c) h =
      are_begun l _ (
        word_token (codes "do") refl (omega arith),
        are_joined (stmt_tokens (neat_stmt s)) (word l (codes "while")) (in_parentheses l (expr_tokens (neat_expr c)) ++ last_mark l P.Semicolon ∷ []) (are_stmt s h.0) (word_token (codes "while") refl (omega arith))
            (are_ended (in_parentheses l (expr_tokens (neat_expr c))) (last_mark l P.Semicolon) (are_in_parentheses l (expr_tokens (neat_expr c)) (are_expr c h.2)) (mark_token P.Semicolon)),
      )
  are_stmt (While l c s) h =
      are_begun l _ (word_token (codes "while") refl (omega arith), are_append (in_parentheses l (expr_tokens (neat_expr c))) (stmt_tokens (neat_stmt s)) (are_in_parentheses l (expr_tokens (neat_expr c)) (are_expr c h.0)) (are_stmt s h.1))
  are_stmt (For l x y z s) h =
      are_begun l _ (
        word_token (codes "for") refl (omega arith),
        (
          mark_token P.OpenParenthesis,
          are_joined (init_tokens l (neat_init x)) (mark l P.Semicolon) (maybe_tokens (neat_maybe y) ++ mark l P.Semicolon ∷ (maybe_tokens (neat_maybe z) ++ mark l P.CloseParenthesis ∷ stmt_tokens (neat_stmt s))) (are_init l x h.0) (mark_token P.Semicolon)
              (are_joined (maybe_tokens (neat_maybe y)) (mark l P.Semicolon) (maybe_tokens (neat_maybe z) ++ mark l P.CloseParenthesis ∷ stmt_tokens (neat_stmt s)) (are_maybe y h.1) (mark_token P.Semicolon)
              (are_joined (maybe_tokens (neat_maybe z)) (mark l P.CloseParenthesis) (stmt_tokens (neat_stmt s)) (are_maybe z h.2) (mark_token P.CloseParenthesis) (are_stmt s h.3))),
        ),
      )
  are_stmt (ForIn l x e s) h =
      are_begun l _ (
        word_token (codes "for") refl (omega arith),
        (
          mark_token P.OpenParenthesis,
          are_joined (target_tokens l (neat_target x)) (word l (codes "in")) (expr_tokens (neat_expr e) ++ mark l P.CloseParenthesis ∷ stmt_tokens (neat_stmt s)) (are_target l x h.0) (word_token (codes "in") refl (omega arith))
              (are_joined (expr_tokens (neat_expr e)) (mark l P.CloseParenthesis) (stmt_tokens (neat_stmt s)) (are_expr e h.1) (mark_token P.CloseParenthesis) (are_stmt s h.2)),
        ),
      )
  are_stmt (ForOf l x e s) h =
      are_begun l _ (
        word_token (codes "for") refl (omega arith),
        (
          mark_token P.OpenParenthesis,
          are_joined (target_tokens l (neat_target x)) (word l (codes "of")) (expr_tokens (placed assignment e (neat_expr e)) ++ mark l P.CloseParenthesis ∷ stmt_tokens (neat_stmt s)) (are_target l x h.0) (word_token (codes "of") refl (omega arith))
              (are_joined (expr_tokens (placed assignment e (neat_expr e))) (mark l P.CloseParenthesis) (stmt_tokens (neat_stmt s)) (are_placed assignment e (neat_expr e) (are_expr e h.2)) (mark_token P.CloseParenthesis) (are_stmt s h.3)),
        ),
      )
  are_stmt (Continue l x) h = are_begun l _ (word_token (codes "continue") refl (omega arith), are_ended (label_tokens l x) (last_mark l P.Semicolon) (are_label l x h) (mark_token P.Semicolon))
  are_stmt (Break l x) h = are_begun l _ (word_token (codes "break") refl (omega arith), are_ended (label_tokens l x) (last_mark l P.Semicolon) (are_label l x h) (mark_token P.Semicolon))
  are_stmt (Return l e) h = are_begun l _ (word_token (codes "return") refl (omega arith), are_ended (maybe_tokens (neat_maybe e)) (last_mark l P.Semicolon) (are_maybe e h) (mark_token P.Semicolon))
  are_stmt (Switch l e cs) h =
      are_begun l _ (word_token (codes "switch") refl (omega arith), are_append (in_parentheses l (expr_tokens (neat_expr e))) (braced l (cases_tokens (neat_cases cs))) (are_in_parentheses l (expr_tokens (neat_expr e)) (are_expr e h.0)) (are_braced l (cases_tokens (neat_cases cs)) (are_cases false cs h.1)))
  are_stmt (Labelled l x s) h = are_begun l _ (h.0.name.token, (mark_token P.Colon, are_stmt s h.1))
  are_stmt (Throw l e) h = are_begun l _ (word_token (codes "throw") refl (omega arith), are_ended (expr_tokens (neat_expr e)) (last_mark l P.Semicolon) (are_expr e h) (mark_token P.Semicolon))
  are_stmt (TryCatch l b c) h =
      are_begun l _ (word_token (codes "try") refl (omega arith), are_append (braced l (stmts_tokens (neat_stmts b))) (catch_tokens l (neat_catch c)) (are_braced l (stmts_tokens (neat_stmts b)) (are_stmts false b h.0)) (are_catch l c h.1))
  are_stmt (TryFinally l b f) h =
      are_begun l _ (
        word_token (codes "try") refl (omega arith),
        are_joined (braced l (stmts_tokens (neat_stmts b))) (word l (codes "finally")) (braced l (stmts_tokens (neat_stmts f))) (are_braced l (stmts_tokens (neat_stmts b)) (are_stmts false b h.0)) (word_token (codes "finally") refl (omega arith))
            (are_braced l (stmts_tokens (neat_stmts f)) (are_stmts false f h.1)),
      )
  are_stmt (TryCatchFinally l b c f) h =
      are_begun l _ (
        word_token (codes "try") refl (omega arith),
        are_append (braced l (stmts_tokens (neat_stmts b))) (catch_tokens l (neat_catch c) ++ word l (codes "finally") ∷ braced l (stmts_tokens (neat_stmts f))) (are_braced l (stmts_tokens (neat_stmts b)) (are_stmts false b h.0))
            (are_joined (catch_tokens l (neat_catch c)) (word l (codes "finally")) (braced l (stmts_tokens (neat_stmts f))) (are_catch l c h.1) (word_token (codes "finally") refl (omega arith)) (are_braced l (stmts_tokens (neat_stmts f)) (are_stmts false f h.2))),
      )
  are_stmt (Debugger l) h = are_begun l (word l (codes "debugger") ∷ last_mark l P.Semicolon ∷ []) (word_token (codes "debugger") refl (omega arith), (mark_token P.Semicolon, tt))
  are_stmt (FunctionDeclaration l x f) h = are_begun l _ (word_token (codes "function") refl (omega arith), (h.0.token, are_function l f h.1))
  are_stmt (EnteredStmt m s) h = absurd h

  pub are_stmts : (directed : Bool) (ss : Stmts) → AreStmts directed ss → AreTokens (stmts_tokens (neat_stmts ss))
  are_stmts directed no_stmt h = tt
  are_stmts true (more_stmt (Directive l s) ss) h = are_append (stmt_tokens (Directive l s)) (stmts_tokens (neat_stmts ss)) (are_begun l _ (h.0.token, (mark_token P.Semicolon, tt))) (are_stmts true ss h.1)
  are_stmts true (more_stmt s ss) h = are_append (stmt_tokens (neat_stmt s)) (stmts_tokens (neat_stmts ss)) (are_stmt s h.0) (are_stmts false ss h.1)
  are_stmts false (more_stmt s ss) h = are_append (stmt_tokens (neat_stmt s)) (stmts_tokens (neat_stmts ss)) (are_stmt s h.0) (are_stmts false ss h.1)

  are_else : (l : Option Loc) (s : Stmt) (r : MaybeStmt) → IsElse s r → AreTokens (else_tokens l (neat_else r))
  are_else l s none_stmt h = tt
  are_else l s (some_stmt r) h = (word_token (codes "else") refl (omega arith), are_stmt r h.0)
  are_else l s (entered_none m) h = absurd h

  pub are_init : (l : Option Loc) (x : ForInit) → IsInit x → AreTokens (init_tokens l (neat_init x))
  are_init l NoInit h = tt
  are_init l (InitDeclaration k ds) h = (variable_token k, has_declarators true (is_const k) l ds h)
  are_init l (InitExpression e) h = are_paired (bare_in (neat_expr e)) e (neat_expr e) (are_expr e h)

  pub are_target : (l : Option Loc) (x : ForTarget) → IsTarget x → AreTokens (target_tokens l (neat_target x))
  are_target l (TargetDeclaration k x) h = (variable_token k, are_pattern l x h)
  are_target l (TargetExpression e) h = are_expr e h.0

  pub are_cases : (defaulted : Bool) (cs : Cases) → AreCases defaulted cs → AreTokens (cases_tokens (neat_cases cs))
  are_cases defaulted no_case h = tt
  are_cases true (more_case (MakeCase l none_expr ss) cs) h = absurd h
  are_cases false (more_case (MakeCase l none_expr ss) cs) h = are_append (case_tokens (MakeCase l none_expr (neat_stmts ss))) (cases_tokens (neat_cases cs)) (word_token (codes "default") refl (omega arith), (mark_token P.Colon, are_stmts false ss h.0)) (are_cases true cs h.1)
  are_cases defaulted (more_case (MakeCase l (some_expr e) ss) cs) h =
      are_append (case_tokens (MakeCase l (some_expr (neat_expr e)) (neat_stmts ss))) (cases_tokens (neat_cases cs))
      (word_token (codes "case") refl (omega arith), are_joined (expr_tokens (neat_expr e)) (mark l P.Colon) (stmts_tokens (neat_stmts ss)) (are_expr e h.0) (mark_token P.Colon) (are_stmts false ss h.1)) (are_cases defaulted cs h.2)
  are_cases defaulted (more_case (EnteredCase m c) cs) h = absurd h

  pub are_catch : (l : Option Loc) (c : Catch) → IsCatch c → AreTokens (catch_tokens l (neat_catch c))
  are_catch l (MakeCatch none_pattern ss) h = (word_token (codes "catch") refl (omega arith), are_braced l (stmts_tokens (neat_stmts ss)) (are_stmts false ss h.1))
  are_catch l (MakeCatch (some_pattern x) ss) h =
      (word_token (codes "catch") refl (omega arith), (mark_token P.OpenParenthesis, are_joined (pattern_tokens l x) (mark l P.CloseParenthesis) (braced l (stmts_tokens (neat_stmts ss))) (are_pattern l x h.0) (mark_token P.CloseParenthesis) (are_braced l (stmts_tokens (neat_stmts ss)) (are_stmts false ss h.1))))

-- ---- a file

pub are_written : (file : File) → Printable file → AreTokens (written file)
are_written (MakeFile ss comments) h = are_stmts true ss h.body
