-- The tokens of a tree, in order, each with where it comes from and whether it ends a line. The tree's pairs of parentheses are written
-- as they stand; which ones stand says `Neat`.
use Rattle.std.specs.Prelude.{ℕ, Bool, true, false, List, [], ◌∷◌, ◌++◌, Option, Some, None, codes}
use Rattle.js_terms.specs.declared.place.Loc.{Loc}
use Rattle.js_terms.specs.declared.words.Identifier.{Identifier}
use Rattle.js_tree.specs.Plain.{Expr, IdentifierReference, This, NullLiteral, BooleanLiteral, NumericLiteral, StringLiteral, ArrayLiteral, ObjectLiteral, FunctionExpression, ArrowFunction, RegularExpressionLiteral, TemplateLiteral, Parenthesized, NamedMember, ComputedMember, New, Call, PostfixUpdate, PrefixUpdate, Unary, Binary, Logical, Conditional, Assignment, Comma, Entered}
use Rattle.js_tree.specs.Plain.{Stmt, Directive, Block, VariableDeclaration, Empty, Expression, If, DoWhile, While, For, ForIn, ForOf, Continue, Break, Return, Switch, Labelled, Throw, TryCatch, TryFinally, TryCatchFinally, Debugger, FunctionDeclaration, EnteredStmt}
use Rattle.js_tree.specs.Plain.{Property, Shorthand, KeyValue, Method, PropertyKey, NameKey, StringKey, NumberKey, ComputedKey, ConciseBody, ExpressionBody, BlockBody, ForInit, NoInit, InitDeclaration, InitExpression, ForTarget, TargetDeclaration, TargetExpression}
use Rattle.js_tree.specs.Plain.{MakeTemplatePart, Function, MakeFunction, FunctionBody, MakeFunctionBody, EnteredBody, Param, MakeParam, Declarator, MakeDeclarator, Case, MakeCase, EnteredCase, Catch, MakeCatch, Pattern, BindingIdentifier}
use Rattle.js_tree.specs.Plain.{none_pattern, some_pattern, MaybeExpr, none_expr, some_expr, MaybeStmt, some_stmt}
use Rattle.js_tree.specs.Plain.{TemplateParts, no_template_part, more_template_part, Properties, no_property, more_property, Params, no_param, more_param, Exprs, no_expr, more_expr, Stmts, no_stmt, more_stmt, Declarators, no_declarator, more_declarator, Cases, no_case, more_case, File, MakeFile}
use Rattle.js_text.specs.declared.punctuator.Punctuator.{Punctuator}
use Rattle.js_text.specs.declared.punctuator.Punctuator.TheVariants as P
use Rattle.js_text.specs.Token.{Kind, Word, Numeral, NoSubstitutionTemplate, TemplateHead, TemplateMiddle, TemplateTail, RegularExpression}
use Rattle.js_text.specs.Token as T
use Rattle.js_reading.specs.Productions.{sign_of, logical_sign, assignment_sign, prefix_of, update_of, variable_word}
use Rattle.js_reading.specs.Makes.{loc_of}
use Rattle.js_spelling.specs.Written.{Written, Origin, Begins, Within, Inserted}

-- ---- one token, of what stands at a place of the source or was inserted

abbrev pub origin_of : Option Loc → Origin
origin_of None = Inserted
origin_of (Some l) = Within

abbrev pub token : Option Loc → Kind → Written
token l k = record { kind = k; origin = origin_of l; ends_line = false }

abbrev pub word : Option Loc → List ℕ → Written
word l w = token l (Word w)

abbrev pub mark : Option Loc → Punctuator → Written
mark l p = token l (T.Punctuator p)

-- one that ends a line
abbrev pub last_mark : Option Loc → Punctuator → Written
last_mark l p = record { kind = T.Punctuator p; origin = origin_of l; ends_line = true }

-- in braces that end their lines, and in parentheses
abbrev pub braced : Option Loc → List Written → List Written
braced l ts = last_mark l P.OpenBrace ∷ (ts ++ last_mark l P.CloseBrace ∷ [])

abbrev pub in_parentheses : Option Loc → List Written → List Written
in_parentheses l ts = mark l P.OpenParenthesis ∷ (ts ++ mark l P.CloseParenthesis ∷ [])

-- what stands at a place of the source begins with the first of these: of several that do, the outermost counts
abbrev pub begun : Option Loc → List Written → List Written
begun (Some l) (t ∷ ts) = record t { origin = Begins l.start } ∷ ts
begun l ts = ts

-- ---- names and keys

abbrev pub label_tokens : Option Loc → Option Identifier → List Written
label_tokens l None = []
label_tokens l (Some x) = word l x.name ∷ []

abbrev pub pattern_tokens : Option Loc → Pattern → List Written
pattern_tokens l (BindingIdentifier m w) = word l w ∷ []

abbrev pub truth : Bool → List ℕ
truth true = codes "true"
truth false = codes "false"

-- a part of a template: the last ends with a backquote
abbrev pub first_part : TemplateParts → List ℕ → Kind
first_part no_template_part w = NoSubstitutionTemplate w
first_part parts w = TemplateHead w

abbrev pub later_part : TemplateParts → List ℕ → Kind
later_part no_template_part w = TemplateTail w
later_part parts w = TemplateMiddle w

abbrev pub regular_expression : List ℕ → List ℕ → Kind
regular_expression body flags = RegularExpression (0x2F ∷ (body ++ 0x2F ∷ flags))

-- a pair that isn't in the source goes with what stands in it
abbrev pub pair_of : Option Loc → Expr → Option Loc
pair_of None e = loc_of e
pair_of l e = l

-- ---- the tree

abbrev mutual
  pub expr_tokens : Expr → List Written
  expr_tokens (IdentifierReference l w) = begun l (word l w ∷ [])
  expr_tokens (This l) = begun l (word l (codes "this") ∷ [])
  expr_tokens (NullLiteral l) = begun l (word l (codes "null") ∷ [])
  expr_tokens (BooleanLiteral l b) = begun l (word l (truth b) ∷ [])
  expr_tokens (NumericLiteral l w) = begun l (token l (Numeral w) ∷ [])
  expr_tokens (StringLiteral l s) = begun l (token l (T.StringLiteral s.spelling) ∷ [])
  expr_tokens (ArrayLiteral l xs) = begun l (mark l P.OpenBracket ∷ (exprs_tokens l xs ++ mark l P.CloseBracket ∷ []))
  expr_tokens (ObjectLiteral l ps) = begun l (mark l P.OpenBrace ∷ (properties_tokens l ps ++ mark l P.CloseBrace ∷ []))
  expr_tokens (FunctionExpression l n f) = begun l (word l (codes "function") ∷ (label_tokens l n ++ function_tokens l f))
  expr_tokens (ArrowFunction l n ps body) = begun l (mark l P.OpenParenthesis ∷ (params_tokens l ps ++ mark l P.CloseParenthesis ∷ mark l P.Arrow ∷ concise_tokens body))
  expr_tokens (RegularExpressionLiteral l body flags) = begun l (token l (regular_expression body flags) ∷ [])
  expr_tokens (TemplateLiteral l s parts) = begun l (token l (first_part parts s.spelling) ∷ parts_tokens l parts)
  expr_tokens (Parenthesized l e) = begun l (in_parentheses (pair_of l e) (expr_tokens e))
  expr_tokens (NamedMember l o w) = begun l (expr_tokens o ++ mark l P.Dot ∷ word l w ∷ [])
  expr_tokens (ComputedMember l o k) = begun l (expr_tokens o ++ mark l P.OpenBracket ∷ (expr_tokens k ++ mark l P.CloseBracket ∷ []))
  expr_tokens (New l c xs) = begun l (word l (codes "new") ∷ (expr_tokens c ++ in_parentheses l (exprs_tokens l xs)))
  expr_tokens (Call l f xs) = begun l (expr_tokens f ++ in_parentheses l (exprs_tokens l xs))
  expr_tokens (PostfixUpdate l o e) = begun l (expr_tokens e ++ mark l (update_of o) ∷ [])
  expr_tokens (PrefixUpdate l o e) = begun l (mark l (update_of o) ∷ expr_tokens e)
  expr_tokens (Unary l o e) = begun l (token l (prefix_of o) ∷ expr_tokens e)
  expr_tokens (Binary l o x y) = begun l (expr_tokens x ++ token l (sign_of o) ∷ expr_tokens y)
  expr_tokens (Logical l o x y) = begun l (expr_tokens x ++ mark l (logical_sign o) ∷ expr_tokens y)
  expr_tokens (Conditional l c x y) = begun l (expr_tokens c ++ mark l P.Question ∷ (expr_tokens x ++ mark l P.Colon ∷ expr_tokens y))
  expr_tokens (Assignment l o x y) = begun l (expr_tokens x ++ mark l (assignment_sign o) ∷ expr_tokens y)
  expr_tokens (Comma l x y) = begun l (expr_tokens x ++ mark l P.Comma ∷ expr_tokens y)
  expr_tokens (Entered m e) = expr_tokens e

  -- items, with a comma between two
  pub exprs_tokens : Option Loc → Exprs → List Written
  exprs_tokens l no_expr = []
  exprs_tokens l (more_expr e es) = expr_tokens e ++ more_exprs_tokens l es

  pub more_exprs_tokens : Option Loc → Exprs → List Written
  more_exprs_tokens l no_expr = []
  more_exprs_tokens l (more_expr e es) = mark l P.Comma ∷ (expr_tokens e ++ more_exprs_tokens l es)

  pub parts_tokens : Option Loc → TemplateParts → List Written
  parts_tokens l no_template_part = []
  parts_tokens l (more_template_part (MakeTemplatePart e s) ps) = expr_tokens e ++ token l (later_part ps s.spelling) ∷ parts_tokens l ps

  pub properties_tokens : Option Loc → Properties → List Written
  properties_tokens l no_property = []
  properties_tokens l (more_property p ps) = property_tokens p ++ more_properties_tokens l ps

  pub more_properties_tokens : Option Loc → Properties → List Written
  more_properties_tokens l no_property = []
  more_properties_tokens l (more_property p ps) = mark l P.Comma ∷ (property_tokens p ++ more_properties_tokens l ps)

  -- a shorthand is a reference, and a method is a function
  pub property_tokens : Property → List Written
  property_tokens (Shorthand l w) = begun l (word l w ∷ [])
  property_tokens (KeyValue l k e) = key_tokens l k ++ mark l P.Colon ∷ expr_tokens e
  property_tokens (Method l k f) = begun l (key_tokens l k ++ function_tokens l f)

  pub key_tokens : Option Loc → PropertyKey → List Written
  key_tokens l (NameKey w) = word l w ∷ []
  key_tokens l (StringKey s) = token l (T.StringLiteral s.spelling) ∷ []
  key_tokens l (NumberKey w) = token l (Numeral w) ∷ []
  key_tokens l (ComputedKey e) = mark l P.OpenBracket ∷ (expr_tokens e ++ mark l P.CloseBracket ∷ [])

  -- ---- functions

  pub function_tokens : Option Loc → Function → List Written
  function_tokens l (MakeFunction n ps body) = mark l P.OpenParenthesis ∷ (params_tokens l ps ++ mark l P.CloseParenthesis ∷ body_tokens body)

  pub body_tokens : FunctionBody → List Written
  body_tokens (MakeFunctionBody l ss) = braced l (stmts_tokens ss)
  body_tokens (EnteredBody m body) = body_tokens body

  pub concise_tokens : ConciseBody → List Written
  concise_tokens (ExpressionBody e) = expr_tokens e
  concise_tokens (BlockBody body) = body_tokens body

  pub params_tokens : Option Loc → Params → List Written
  params_tokens l no_param = []
  params_tokens l (more_param p ps) = param_tokens p ++ more_params_tokens l ps

  pub more_params_tokens : Option Loc → Params → List Written
  more_params_tokens l no_param = []
  more_params_tokens l (more_param p ps) = mark l P.Comma ∷ (param_tokens p ++ more_params_tokens l ps)

  pub param_tokens : Param → List Written
  param_tokens (MakeParam l x e) = pattern_tokens l x ++ initializer_tokens l e

  pub initializer_tokens : Option Loc → MaybeExpr → List Written
  initializer_tokens l none_expr = []
  initializer_tokens l (some_expr e) = mark l P.Assign ∷ expr_tokens e

  -- ---- statements

  pub stmt_tokens : Stmt → List Written
  stmt_tokens (Directive l s) = begun l (token l (T.StringLiteral s.spelling) ∷ last_mark l P.Semicolon ∷ [])
  stmt_tokens (Block l ss) = begun l (braced l (stmts_tokens ss))
  stmt_tokens (VariableDeclaration l k ds) = begun l (word l (variable_word k) ∷ (declarators_tokens l ds ++ last_mark l P.Semicolon ∷ []))
  stmt_tokens (Empty l) = begun l (last_mark l P.Semicolon ∷ [])
  stmt_tokens (Expression l e) = begun l (expr_tokens e ++ last_mark l P.Semicolon ∷ [])
  stmt_tokens (If l c s r) = begun l (word l (codes "if") ∷ (in_parentheses l (expr_tokens c) ++ (stmt_tokens s ++ else_tokens l r)))
  stmt_tokens (DoWhile l s c) = begun l (word l (codes "do") ∷ (stmt_tokens s ++ word l (codes "while") ∷ (in_parentheses l (expr_tokens c) ++ last_mark l P.Semicolon ∷ [])))
  stmt_tokens (While l c s) = begun l (word l (codes "while") ∷ (in_parentheses l (expr_tokens c) ++ stmt_tokens s))
  stmt_tokens (For l x y z s) = begun l (word l (codes "for") ∷ mark l P.OpenParenthesis ∷ (init_tokens l x ++ mark l P.Semicolon ∷ (maybe_tokens y ++ mark l P.Semicolon ∷ (maybe_tokens z ++ mark l P.CloseParenthesis ∷ stmt_tokens s))))
  stmt_tokens (ForIn l x e s) = begun l (word l (codes "for") ∷ mark l P.OpenParenthesis ∷ (target_tokens l x ++ word l (codes "in") ∷ (expr_tokens e ++ mark l P.CloseParenthesis ∷ stmt_tokens s)))
  stmt_tokens (ForOf l x e s) = begun l (word l (codes "for") ∷ mark l P.OpenParenthesis ∷ (target_tokens l x ++ word l (codes "of") ∷ (expr_tokens e ++ mark l P.CloseParenthesis ∷ stmt_tokens s)))
  stmt_tokens (Continue l x) = begun l (word l (codes "continue") ∷ (label_tokens l x ++ last_mark l P.Semicolon ∷ []))
  stmt_tokens (Break l x) = begun l (word l (codes "break") ∷ (label_tokens l x ++ last_mark l P.Semicolon ∷ []))
  stmt_tokens (Return l e) = begun l (word l (codes "return") ∷ (maybe_tokens e ++ last_mark l P.Semicolon ∷ []))
  stmt_tokens (Switch l e cs) = begun l (word l (codes "switch") ∷ (in_parentheses l (expr_tokens e) ++ braced l (cases_tokens cs)))
  stmt_tokens (Labelled l x s) = begun l (word l x.name ∷ mark l P.Colon ∷ stmt_tokens s)
  stmt_tokens (Throw l e) = begun l (word l (codes "throw") ∷ (expr_tokens e ++ last_mark l P.Semicolon ∷ []))
  stmt_tokens (TryCatch l b c) = begun l (word l (codes "try") ∷ (braced l (stmts_tokens b) ++ catch_tokens l c))
  stmt_tokens (TryFinally l b f) = begun l (word l (codes "try") ∷ (braced l (stmts_tokens b) ++ word l (codes "finally") ∷ braced l (stmts_tokens f)))
  stmt_tokens (TryCatchFinally l b c f) = begun l (word l (codes "try") ∷ (braced l (stmts_tokens b) ++ (catch_tokens l c ++ word l (codes "finally") ∷ braced l (stmts_tokens f))))
  stmt_tokens (Debugger l) = begun l (word l (codes "debugger") ∷ last_mark l P.Semicolon ∷ [])
  stmt_tokens (FunctionDeclaration l x f) = begun l (word l (codes "function") ∷ word l x.name ∷ function_tokens l f)
  stmt_tokens (EnteredStmt m s) = stmt_tokens s

  pub stmts_tokens : Stmts → List Written
  stmts_tokens no_stmt = []
  stmts_tokens (more_stmt s ss) = stmt_tokens s ++ stmts_tokens ss

  pub maybe_tokens : MaybeExpr → List Written
  maybe_tokens none_expr = []
  maybe_tokens (some_expr e) = expr_tokens e

  pub else_tokens : Option Loc → MaybeStmt → List Written
  else_tokens l (some_stmt s) = word l (codes "else") ∷ stmt_tokens s
  else_tokens l r = []

  pub declarators_tokens : Option Loc → Declarators → List Written
  declarators_tokens l no_declarator = []
  declarators_tokens l (more_declarator d ds) = declarator_tokens d ++ more_declarators_tokens l ds

  pub more_declarators_tokens : Option Loc → Declarators → List Written
  more_declarators_tokens l no_declarator = []
  more_declarators_tokens l (more_declarator d ds) = mark l P.Comma ∷ (declarator_tokens d ++ more_declarators_tokens l ds)

  pub declarator_tokens : Declarator → List Written
  declarator_tokens (MakeDeclarator l x e) = begun l (pattern_tokens l x ++ initializer_tokens l e)

  pub init_tokens : Option Loc → ForInit → List Written
  init_tokens l NoInit = []
  init_tokens l (InitDeclaration k ds) = word l (variable_word k) ∷ declarators_tokens l ds
  init_tokens l (InitExpression e) = expr_tokens e

  pub target_tokens : Option Loc → ForTarget → List Written
  target_tokens l (TargetDeclaration k x) = word l (variable_word k) ∷ pattern_tokens l x
  target_tokens l (TargetExpression e) = expr_tokens e

  pub cases_tokens : Cases → List Written
  cases_tokens no_case = []
  cases_tokens (more_case c cs) = case_tokens c ++ cases_tokens cs

  pub case_tokens : Case → List Written
  case_tokens (MakeCase l none_expr ss) = word l (codes "default") ∷ mark l P.Colon ∷ stmts_tokens ss
  case_tokens (MakeCase l (some_expr e) ss) = word l (codes "case") ∷ (expr_tokens e ++ mark l P.Colon ∷ stmts_tokens ss)
  case_tokens (EnteredCase m c) = case_tokens c

  pub catch_tokens : Option Loc → Catch → List Written
  catch_tokens l (MakeCatch none_pattern ss) = word l (codes "catch") ∷ braced l (stmts_tokens ss)
  catch_tokens l (MakeCatch (some_pattern x) ss) = word l (codes "catch") ∷ mark l P.OpenParenthesis ∷ (pattern_tokens l x ++ mark l P.CloseParenthesis ∷ braced l (stmts_tokens ss))

abbrev pub file_tokens : File → List Written
file_tokens (MakeFile ss comments) = stmts_tokens ss
