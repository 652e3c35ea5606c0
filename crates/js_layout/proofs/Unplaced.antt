-- The tokens of a tree without its places are those of the tree, and come from nowhere.
use Rattle.std.proofs.Common.{◌≡◌, ℕ, List, [], ◌∷◌, ◌++◌, Option, Some, None, refl, ap, ◌∙◌}
use Rattle.std.specs.Prelude.{codes}
use Rattle.js_terms.specs.declared.place.Loc.{Loc}
use Rattle.js_terms.specs.declared.words.Identifier.{Identifier}
use Rattle.js_tree.specs.Plain.{Expr, IdentifierReference, This, NullLiteral, BooleanLiteral, NumericLiteral, StringLiteral, ArrayLiteral, ObjectLiteral, FunctionExpression, ArrowFunction, RegularExpressionLiteral, TemplateLiteral, Parenthesized, NamedMember, ComputedMember, New, Call, PostfixUpdate, PrefixUpdate, Unary, Binary, Logical, Conditional, Assignment, Comma, Entered}
use Rattle.js_tree.specs.Plain.{Stmt, Directive, Block, VariableDeclaration, Empty, Expression, If, DoWhile, While, For, ForIn, ForOf, Continue, Break, Return, Switch, Labelled, Throw, TryCatch, TryFinally, TryCatchFinally, Debugger, FunctionDeclaration, EnteredStmt}
use Rattle.js_tree.specs.Plain.{Property, Shorthand, KeyValue, Method, PropertyKey, NameKey, StringKey, NumberKey, ComputedKey, ConciseBody, ExpressionBody, BlockBody, ForInit, NoInit, InitDeclaration, InitExpression, ForTarget, TargetDeclaration, TargetExpression}
use Rattle.js_tree.specs.Plain.{MakeTemplatePart, Function, MakeFunction, FunctionBody, MakeFunctionBody, EnteredBody, MakeParam, Declarator, MakeDeclarator, Case, MakeCase, EnteredCase, Catch, MakeCatch, Pattern, BindingIdentifier}
use Rattle.js_tree.specs.Plain.{none_pattern, some_pattern, MaybeExpr, none_expr, some_expr, MaybeStmt, none_stmt, some_stmt, entered_none}
use Rattle.js_tree.specs.Plain.{TemplateParts, no_template_part, more_template_part, Properties, no_property, more_property, Params, no_param, more_param, Exprs, no_expr, more_expr, Stmts, no_stmt, more_stmt, Declarators, no_declarator, more_declarator, Cases, no_case, more_case, File, MakeFile}
use Rattle.js_tree.specs.Same.{bare_identifier_if}
use Rattle.js_text.specs.declared.punctuator.Punctuator.TheVariants as P
use Rattle.js_text.specs.Token.{spelling}
use Rattle.js_reading.specs.Makes.{loc_of}
use Rattle.js_spelling.specs.Written.{Written, Inserted, between, text_from, text_of}
use Rattle.js_layout.specs.Tokens.{begun, braced, mark, last_mark, word, label_tokens, pattern_tokens, first_part, later_part, expr_tokens, exprs_tokens, more_exprs_tokens, parts_tokens, properties_tokens, more_properties_tokens, property_tokens, key_tokens, function_tokens, body_tokens, concise_tokens, params_tokens, more_params_tokens, initializer_tokens, stmt_tokens, stmts_tokens, maybe_tokens, else_tokens, declarators_tokens, more_declarators_tokens, declarator_tokens, init_tokens, target_tokens, cases_tokens, case_tokens, catch_tokens, file_tokens}
use Rattle.js_layout.specs.Unplaced.{unplaced_expr, unplaced_stmt, unplaced_property, unplaced_property_key, unplaced_concise_body, unplaced_for_init, unplaced_for_target, unplaced_function, unplaced_function_body, unplaced_declarator, unplaced_case, unplaced_catch, unplaced_pattern, unplaced_expr_if, unplaced_stmt_if, unplaced_template_parts, unplaced_properties, unplaced_params, unplaced_exprs, unplaced_stmts, unplaced_declarators, unplaced_cases, unplaced_file}

-- ---- tokens that come from nowhere

abbrev pub inserted : List Written → List Written
inserted [] = []
inserted (t ∷ ts) = record t { origin = Inserted } ∷ inserted ts

inserted_append : (xs ys : List Written) → inserted (xs ++ ys) ≡ inserted xs ++ inserted ys
inserted_append [] ys = refl
inserted_append (x ∷ xs) ys = ap (λ ts. record x { origin = Inserted } ∷ ts) (inserted_append xs ys)

inserted_begun : (l : Option Loc) (ts : List Written) → inserted (begun l ts) ≡ inserted ts
inserted_begun None ts = refl
inserted_begun (Some l) [] = refl
inserted_begun (Some l) (t ∷ ts) = refl

-- the end of a pair of parentheses or braces, and what follows it
closed_more : (l : Option Loc) (ts us : List Written) → inserted ((ts ++ mark l P.CloseParenthesis ∷ []) ++ us) ≡ (inserted ts ++ mark None P.CloseParenthesis ∷ []) ++ inserted us
closed_more l ts us = inserted_append (ts ++ mark l P.CloseParenthesis ∷ []) us ∙ ap (λ xs. xs ++ inserted us) (inserted_append ts (mark l P.CloseParenthesis ∷ []))

braced_closed : (l : Option Loc) (ts : List Written) → inserted (ts ++ last_mark l P.CloseBrace ∷ []) ≡ inserted ts ++ last_mark None P.CloseBrace ∷ []
braced_closed l ts = inserted_append ts (last_mark l P.CloseBrace ∷ [])

braced_more : (l : Option Loc) (ts us : List Written) → inserted ((ts ++ last_mark l P.CloseBrace ∷ []) ++ us) ≡ (inserted ts ++ last_mark None P.CloseBrace ∷ []) ++ inserted us
braced_more l ts us = inserted_append (ts ++ last_mark l P.CloseBrace ∷ []) us ∙ ap (λ xs. xs ++ inserted us) (braced_closed l ts)

-- they make the same text
pub text_inserted : (ts : List Written) → text_of (inserted ts) ≡ text_of ts
text_inserted [] = refl
text_inserted (t ∷ ts) = from t ts
  where
    from : (t : Written) (ts : List Written) → text_from (record t { origin = Inserted }) (inserted ts) ≡ text_from t ts
    from t [] = refl
    from t (next ∷ ts) = ap (λ bytes. spelling t.kind ++ (between t next.kind ++ bytes)) (from next ts)

-- ---- the tokens of a tree without its places

loc_unplaced : (e : Expr) → loc_of (unplaced_expr e) ≡ None
loc_unplaced (Entered m e) = loc_unplaced e
loc_unplaced e = refl

first_unplaced : (ps : TemplateParts) (w : List ℕ) → first_part (unplaced_template_parts ps) w ≡ first_part ps w
first_unplaced no_template_part w = refl
first_unplaced (more_template_part (MakeTemplatePart e s) ps) w = refl

later_unplaced : (ps : TemplateParts) (w : List ℕ) → later_part (unplaced_template_parts ps) w ≡ later_part ps w
later_unplaced no_template_part w = refl
later_unplaced (more_template_part (MakeTemplatePart e s) ps) w = refl

label_unplaced : (l : Option Loc) (x : Option Identifier) → label_tokens None (bare_identifier_if x) ≡ inserted (label_tokens l x)
label_unplaced l None = refl
label_unplaced l (Some x) = refl

pattern_unplaced : (l : Option Loc) (x : Pattern) → pattern_tokens None (unplaced_pattern x) ≡ inserted (pattern_tokens l x)
pattern_unplaced l (BindingIdentifier m w) = refl

mutual
  pub unplaced_expr_tokens : (e : Expr) → expr_tokens (unplaced_expr e) ≡ inserted (expr_tokens e)
  unplaced_expr_tokens (IdentifierReference l w) = simp inserted_begun
  unplaced_expr_tokens (This l) = simp inserted_begun
  unplaced_expr_tokens (NullLiteral l) = simp inserted_begun
  unplaced_expr_tokens (BooleanLiteral l b) = simp inserted_begun
  unplaced_expr_tokens (NumericLiteral l w) = simp inserted_begun
  unplaced_expr_tokens (StringLiteral l s) = simp inserted_begun
  unplaced_expr_tokens (ArrayLiteral l xs) = simp (inserted_begun, inserted_append, unplaced_exprs_tokens l xs)
  unplaced_expr_tokens (ObjectLiteral l ps) = simp (inserted_begun, inserted_append, unplaced_properties_tokens l ps)
  unplaced_expr_tokens (FunctionExpression l n f) = simp (inserted_begun, inserted_append, label_unplaced l n, unplaced_function_tokens l f)
  unplaced_expr_tokens (ArrowFunction l n ps body) = simp (inserted_begun, inserted_append, unplaced_params_tokens l ps, unplaced_concise_tokens body)
  unplaced_expr_tokens (RegularExpressionLiteral l body flags) = simp inserted_begun
  unplaced_expr_tokens (TemplateLiteral l s parts) = simp (inserted_begun, first_unplaced parts s.spelling, unplaced_parts_tokens l parts)
  unplaced_expr_tokens (Parenthesized l e) = simp (inserted_begun, inserted_append, loc_unplaced e, unplaced_expr_tokens e)
  unplaced_expr_tokens (NamedMember l o w) = simp (inserted_begun, inserted_append, unplaced_expr_tokens o)
  unplaced_expr_tokens (ComputedMember l o k) = simp (inserted_begun, inserted_append, unplaced_expr_tokens o, unplaced_expr_tokens k)
  unplaced_expr_tokens (New l c xs) = simp (inserted_begun, inserted_append, unplaced_expr_tokens c, unplaced_exprs_tokens l xs)
  unplaced_expr_tokens (Call l f xs) = simp (inserted_begun, inserted_append, unplaced_expr_tokens f, unplaced_exprs_tokens l xs)
  unplaced_expr_tokens (PostfixUpdate l o e) = simp (inserted_begun, inserted_append, unplaced_expr_tokens e)
  unplaced_expr_tokens (PrefixUpdate l o e) = simp (inserted_begun, unplaced_expr_tokens e)
  unplaced_expr_tokens (Unary l o e) = simp (inserted_begun, unplaced_expr_tokens e)
  unplaced_expr_tokens (Binary l o x y) = simp (inserted_begun, inserted_append, unplaced_expr_tokens x, unplaced_expr_tokens y)
  unplaced_expr_tokens (Logical l o x y) = simp (inserted_begun, inserted_append, unplaced_expr_tokens x, unplaced_expr_tokens y)
  unplaced_expr_tokens (Conditional l c x y) = simp (inserted_begun, inserted_append, unplaced_expr_tokens c, unplaced_expr_tokens x, unplaced_expr_tokens y)
  unplaced_expr_tokens (Assignment l o x y) = simp (inserted_begun, inserted_append, unplaced_expr_tokens x, unplaced_expr_tokens y)
  unplaced_expr_tokens (Comma l x y) = simp (inserted_begun, inserted_append, unplaced_expr_tokens x, unplaced_expr_tokens y)
  unplaced_expr_tokens (Entered m e) = unplaced_expr_tokens e

  unplaced_exprs_tokens : (l : Option Loc) (es : Exprs) → exprs_tokens None (unplaced_exprs es) ≡ inserted (exprs_tokens l es)
  unplaced_exprs_tokens l no_expr = refl
  unplaced_exprs_tokens l (more_expr e es) = simp (inserted_append, unplaced_expr_tokens e, unplaced_more_exprs_tokens l es)

  unplaced_more_exprs_tokens : (l : Option Loc) (es : Exprs) → more_exprs_tokens None (unplaced_exprs es) ≡ inserted (more_exprs_tokens l es)
  unplaced_more_exprs_tokens l no_expr = refl
  unplaced_more_exprs_tokens l (more_expr e es) = simp (inserted_append, unplaced_expr_tokens e, unplaced_more_exprs_tokens l es)

  unplaced_parts_tokens : (l : Option Loc) (ps : TemplateParts) → parts_tokens None (unplaced_template_parts ps) ≡ inserted (parts_tokens l ps)
  unplaced_parts_tokens l no_template_part = refl
  unplaced_parts_tokens l (more_template_part (MakeTemplatePart e s) ps) = simp (inserted_append, unplaced_expr_tokens e, later_unplaced ps s.spelling, unplaced_parts_tokens l ps)

  unplaced_properties_tokens : (l : Option Loc) (ps : Properties) → properties_tokens None (unplaced_properties ps) ≡ inserted (properties_tokens l ps)
  unplaced_properties_tokens l no_property = refl
  unplaced_properties_tokens l (more_property p ps) = simp (inserted_append, unplaced_property_tokens p, unplaced_more_properties_tokens l ps)

  unplaced_more_properties_tokens : (l : Option Loc) (ps : Properties) → more_properties_tokens None (unplaced_properties ps) ≡ inserted (more_properties_tokens l ps)
  unplaced_more_properties_tokens l no_property = refl
  unplaced_more_properties_tokens l (more_property p ps) = simp (inserted_append, unplaced_property_tokens p, unplaced_more_properties_tokens l ps)

  unplaced_property_tokens : (p : Property) → property_tokens (unplaced_property p) ≡ inserted (property_tokens p)
  unplaced_property_tokens (Shorthand l w) = simp inserted_begun
  unplaced_property_tokens (KeyValue l k e) = simp (inserted_append, unplaced_key_tokens l k, unplaced_expr_tokens e)
  unplaced_property_tokens (Method l k f) = simp (inserted_begun, inserted_append, unplaced_key_tokens l k, unplaced_function_tokens l f)

  unplaced_key_tokens : (l : Option Loc) (k : PropertyKey) → key_tokens None (unplaced_property_key k) ≡ inserted (key_tokens l k)
  unplaced_key_tokens l (NameKey w) = refl
  unplaced_key_tokens l (StringKey s) = refl
  unplaced_key_tokens l (NumberKey w) = refl
  unplaced_key_tokens l (ComputedKey e) = simp (inserted_append, unplaced_expr_tokens e)

  unplaced_function_tokens : (l : Option Loc) (f : Function) → function_tokens None (unplaced_function f) ≡ inserted (function_tokens l f)
  unplaced_function_tokens l (MakeFunction n ps body) = simp (inserted_append, unplaced_params_tokens l ps, unplaced_body_tokens body)

  unplaced_body_tokens : (body : FunctionBody) → body_tokens (unplaced_function_body body) ≡ inserted (body_tokens body)
  unplaced_body_tokens (MakeFunctionBody l ss) = simp (inserted_append, unplaced_stmts_tokens ss)
  unplaced_body_tokens (EnteredBody m body) = unplaced_body_tokens body

  unplaced_concise_tokens : (body : ConciseBody) → concise_tokens (unplaced_concise_body body) ≡ inserted (concise_tokens body)
  unplaced_concise_tokens (ExpressionBody e) = unplaced_expr_tokens e
  unplaced_concise_tokens (BlockBody body) = unplaced_body_tokens body

  unplaced_params_tokens : (l : Option Loc) (ps : Params) → params_tokens None (unplaced_params ps) ≡ inserted (params_tokens l ps)
  unplaced_params_tokens l no_param = refl
  unplaced_params_tokens l (more_param (MakeParam m x e) ps) = simp (inserted_append, pattern_unplaced m x, unplaced_initializer_tokens m e, unplaced_more_params_tokens l ps)

  unplaced_more_params_tokens : (l : Option Loc) (ps : Params) → more_params_tokens None (unplaced_params ps) ≡ inserted (more_params_tokens l ps)
  unplaced_more_params_tokens l no_param = refl
  unplaced_more_params_tokens l (more_param (MakeParam m x e) ps) = simp (inserted_append, pattern_unplaced m x, unplaced_initializer_tokens m e, unplaced_more_params_tokens l ps)

  unplaced_initializer_tokens : (l : Option Loc) (e : MaybeExpr) → initializer_tokens None (unplaced_expr_if e) ≡ inserted (initializer_tokens l e)
  unplaced_initializer_tokens l none_expr = refl
  unplaced_initializer_tokens l (some_expr e) = simp (unplaced_expr_tokens e)

  unplaced_maybe_tokens : (e : MaybeExpr) → maybe_tokens (unplaced_expr_if e) ≡ inserted (maybe_tokens e)
  unplaced_maybe_tokens none_expr = refl
  unplaced_maybe_tokens (some_expr e) = unplaced_expr_tokens e

  unplaced_stmt_tokens : (s : Stmt) → stmt_tokens (unplaced_stmt s) ≡ inserted (stmt_tokens s)
  unplaced_stmt_tokens (Directive l s) = simp inserted_begun
  unplaced_stmt_tokens (Block l ss) = simp (inserted_begun, inserted_append, unplaced_stmts_tokens ss)
  unplaced_stmt_tokens (VariableDeclaration l k ds) = simp (inserted_begun, inserted_append, unplaced_declarators_tokens l ds)
  unplaced_stmt_tokens (Empty l) = simp inserted_begun
  unplaced_stmt_tokens (Expression l e) = simp (inserted_begun, inserted_append, unplaced_expr_tokens e)
  unplaced_stmt_tokens (If l c s r) = simp (inserted_begun, inserted_append, closed_more l (expr_tokens c) (stmt_tokens s ++ else_tokens l r), unplaced_expr_tokens c, unplaced_stmt_tokens s, unplaced_else_tokens l r)
  unplaced_stmt_tokens (DoWhile l s c) = simp (inserted_begun, inserted_append, closed_more l (expr_tokens c) (last_mark l P.Semicolon ∷ []), unplaced_stmt_tokens s, unplaced_expr_tokens c)
  unplaced_stmt_tokens (While l c s) = simp (inserted_begun, closed_more l (expr_tokens c) (stmt_tokens s), unplaced_expr_tokens c, unplaced_stmt_tokens s)
  unplaced_stmt_tokens (For l x y z s) = simp (inserted_begun, inserted_append, unplaced_init_tokens l x, unplaced_maybe_tokens y, unplaced_maybe_tokens z, unplaced_stmt_tokens s)
  unplaced_stmt_tokens (ForIn l x e s) = simp (inserted_begun, inserted_append, unplaced_target_tokens l x, unplaced_expr_tokens e, unplaced_stmt_tokens s)
  unplaced_stmt_tokens (ForOf l x e s) = simp (inserted_begun, inserted_append, unplaced_target_tokens l x, unplaced_expr_tokens e, unplaced_stmt_tokens s)
  unplaced_stmt_tokens (Continue l x) = simp (inserted_begun, inserted_append, label_unplaced l x)
  unplaced_stmt_tokens (Break l x) = simp (inserted_begun, inserted_append, label_unplaced l x)
  unplaced_stmt_tokens (Return l e) = simp (inserted_begun, inserted_append, unplaced_maybe_tokens e)
  unplaced_stmt_tokens (Switch l e cs) = simp (inserted_begun, inserted_append, closed_more l (expr_tokens e) (braced l (cases_tokens cs)), unplaced_expr_tokens e, unplaced_cases_tokens cs)
  unplaced_stmt_tokens (Labelled l x s) = simp (inserted_begun, unplaced_stmt_tokens s)
  unplaced_stmt_tokens (Throw l e) = simp (inserted_begun, inserted_append, unplaced_expr_tokens e)
  unplaced_stmt_tokens (TryCatch l b c) = simp (inserted_begun, braced_more l (stmts_tokens b) (catch_tokens l c), unplaced_stmts_tokens b, unplaced_catch_tokens l c)
  unplaced_stmt_tokens (TryFinally l b f) = simp (inserted_begun, inserted_append, braced_more l (stmts_tokens b) (word l (codes "finally") ∷ braced l (stmts_tokens f)), unplaced_stmts_tokens b, unplaced_stmts_tokens f)
  unplaced_stmt_tokens (TryCatchFinally l b c f) = simp (inserted_begun, inserted_append, braced_more l (stmts_tokens b) (catch_tokens l c ++ word l (codes "finally") ∷ braced l (stmts_tokens f)), unplaced_stmts_tokens b, unplaced_catch_tokens l c, unplaced_stmts_tokens f)
  unplaced_stmt_tokens (Debugger l) = simp inserted_begun
  unplaced_stmt_tokens (FunctionDeclaration l x f) = simp (inserted_begun, unplaced_function_tokens l f)
  unplaced_stmt_tokens (EnteredStmt m s) = unplaced_stmt_tokens s

  unplaced_stmts_tokens : (ss : Stmts) → stmts_tokens (unplaced_stmts ss) ≡ inserted (stmts_tokens ss)
  unplaced_stmts_tokens no_stmt = refl
  unplaced_stmts_tokens (more_stmt s ss) = simp (inserted_append, unplaced_stmt_tokens s, unplaced_stmts_tokens ss)

  unplaced_else_tokens : (l : Option Loc) (r : MaybeStmt) → else_tokens None (unplaced_stmt_if r) ≡ inserted (else_tokens l r)
  unplaced_else_tokens l none_stmt = refl
  unplaced_else_tokens l (some_stmt s) = simp (unplaced_stmt_tokens s)
  unplaced_else_tokens l (entered_none m) = refl

  unplaced_declarators_tokens : (l : Option Loc) (ds : Declarators) → declarators_tokens None (unplaced_declarators ds) ≡ inserted (declarators_tokens l ds)
  unplaced_declarators_tokens l no_declarator = refl
  unplaced_declarators_tokens l (more_declarator d ds) = simp (inserted_append, unplaced_declarator_tokens d, unplaced_more_declarators_tokens l ds)

  unplaced_more_declarators_tokens : (l : Option Loc) (ds : Declarators) → more_declarators_tokens None (unplaced_declarators ds) ≡ inserted (more_declarators_tokens l ds)
  unplaced_more_declarators_tokens l no_declarator = refl
  unplaced_more_declarators_tokens l (more_declarator d ds) = simp (inserted_append, unplaced_declarator_tokens d, unplaced_more_declarators_tokens l ds)

  unplaced_declarator_tokens : (d : Declarator) → declarator_tokens (unplaced_declarator d) ≡ inserted (declarator_tokens d)
  unplaced_declarator_tokens (MakeDeclarator l x e) = simp (inserted_begun, inserted_append, pattern_unplaced l x, unplaced_initializer_tokens l e)

  unplaced_init_tokens : (l : Option Loc) (x : ForInit) → init_tokens None (unplaced_for_init x) ≡ inserted (init_tokens l x)
  unplaced_init_tokens l NoInit = refl
  unplaced_init_tokens l (InitDeclaration k ds) = simp (unplaced_declarators_tokens l ds)
  unplaced_init_tokens l (InitExpression e) = unplaced_expr_tokens e

  unplaced_target_tokens : (l : Option Loc) (x : ForTarget) → target_tokens None (unplaced_for_target x) ≡ inserted (target_tokens l x)
  unplaced_target_tokens l (TargetDeclaration k x) = simp (pattern_unplaced l x)
  unplaced_target_tokens l (TargetExpression e) = unplaced_expr_tokens e

  unplaced_cases_tokens : (cs : Cases) → cases_tokens (unplaced_cases cs) ≡ inserted (cases_tokens cs)
  unplaced_cases_tokens no_case = refl
  unplaced_cases_tokens (more_case c cs) = simp (inserted_append, unplaced_case_tokens c, unplaced_cases_tokens cs)

  unplaced_case_tokens : (c : Case) → case_tokens (unplaced_case c) ≡ inserted (case_tokens c)
  unplaced_case_tokens (MakeCase l none_expr ss) = simp (unplaced_stmts_tokens ss)
  unplaced_case_tokens (MakeCase l (some_expr e) ss) = simp (inserted_append, unplaced_expr_tokens e, unplaced_stmts_tokens ss)
  unplaced_case_tokens (EnteredCase m c) = unplaced_case_tokens c

  unplaced_catch_tokens : (l : Option Loc) (c : Catch) → catch_tokens None (unplaced_catch c) ≡ inserted (catch_tokens l c)
  unplaced_catch_tokens l (MakeCatch none_pattern ss) = simp (inserted_append, unplaced_stmts_tokens ss)
  unplaced_catch_tokens l (MakeCatch (some_pattern x) ss) = simp (inserted_append, pattern_unplaced l x, unplaced_stmts_tokens ss)

pub unplaced_file_tokens : (file : File) → file_tokens (unplaced_file file) ≡ inserted (file_tokens file)
unplaced_file_tokens (MakeFile ss comments) = unplaced_stmts_tokens ss
