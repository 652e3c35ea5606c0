-- Which trees can be printed and read again: those that the grammar has once parentheses stand where places ask for them. Each name,
-- number, string, template and regular expression is spelt as a token is; no name that is bound or referred to is a keyword; what is
-- assigned to is a target; and the statements stand where they may.
use Rattle.std.specs.Prelude.{◌≡◌, ℕ, Bool, true, false, List, ◌∷◌, ◌++◌, Option, Some, None, codes}
use Rattle.std.specs.Str.{bytes_eq}
use Rattle.js_terms.specs.declared.words.Identifier.{Identifier}
use Rattle.js_terms.specs.declared.words.Spelled.{Spelled}
use Rattle.js_tree.specs.Plain.{Expr, IdentifierReference, NumericLiteral, StringLiteral, ArrayLiteral, ObjectLiteral, FunctionExpression, ArrowFunction, RegularExpressionLiteral, TemplateLiteral, Parenthesized, NamedMember, ComputedMember, New, Call, PostfixUpdate, PrefixUpdate, Unary, Binary, Logical, Conditional, Assignment, Comma, Entered}
use Rattle.js_tree.specs.Plain.{Stmt, Directive, Block, VariableDeclaration, Expression, If, DoWhile, While, For, ForIn, ForOf, Continue, Break, Return, Switch, Labelled, Throw, TryCatch, TryFinally, TryCatchFinally, FunctionDeclaration, EnteredStmt}
use Rattle.js_tree.specs.Plain.{Property, Shorthand, KeyValue, Method, PropertyKey, NameKey, StringKey, NumberKey, ComputedKey, ConciseBody, ExpressionBody, BlockBody, ForInit, NoInit, InitDeclaration, InitExpression, ForTarget, TargetDeclaration, TargetExpression}
use Rattle.js_tree.specs.Plain.{MakeTemplatePart, Function, MakeFunction, FunctionBody, MakeFunctionBody, EnteredBody, MakeParam, Declarator, MakeDeclarator, MakeCase, EnteredCase, Catch, MakeCatch, Pattern, BindingIdentifier}
use Rattle.js_tree.specs.Plain.{MaybePattern, none_pattern, some_pattern, MaybeExpr, none_expr, some_expr, MaybeStmt, none_stmt, some_stmt, entered_none}
use Rattle.js_tree.specs.Plain.{TemplateParts, no_template_part, more_template_part, Properties, no_property, more_property, Params, no_param, more_param, Exprs, no_expr, more_expr, Stmts, no_stmt, more_stmt, Declarators, no_declarator, more_declarator, Cases, no_case, more_case, File, MakeFile}
use Rattle.js_text.specs.Token.{Kind, Word, Numeral}
use Rattle.js_text.specs.Token as T
use Rattle.js_reading.specs.Kinds.{is_keyword}
use Rattle.js_reading.specs.Productions.{string_of, text_of}
use Rattle.js_reading.specs.Makes.{is_target, is_async, is_declaration, is_const, is_proto}
use Rattle.js_reading.specs.Outside.{this_stmts}
use Rattle.js_reading.specs.Sentences.{body_and_flags}
use Rattle.js_spelling.specs.Tokens.{IsToken}
use Rattle.js_layout.specs.Tokens.{first_part, later_part, regular_expression}

-- ---- words

-- a name: it is spelt as a token is, and is no keyword
pub record IsName (w : List ℕ) : Type 0 where
  pub token : IsToken (Word w)
  pub free : is_keyword w ≡ false

-- one with which a statement may begin: `let` would begin a declaration
pub record Refers (w : List ℕ) : Type 0 where
  pub name : IsName w
  pub free : bytes_eq w (codes "let") ≡ false

abbrev pub IsNameIf : Option Identifier → Type 0
IsNameIf None = Unit {0}
IsNameIf (Some x) = IsName x.name

-- a string, and a part of a template, is what its spelling says
pub record IsString (s : Spelled) : Type 0 where
  pub token : IsToken (T.StringLiteral s.spelling)
  pub units : s ≡ string_of s.spelling

pub record IsPart (kind : Kind) (s : Spelled) : Type 0 where
  pub token : IsToken kind
  pub units : s ≡ text_of s.spelling

-- a regular expression is divided as its spelling says
pub record IsExpression (body flags : List ℕ) : Type 0 where
  pub token : IsToken (regular_expression body flags)
  pub parts : body_and_flags (0x2F ∷ (body ++ 0x2F ∷ flags)) ≡ Some (body, flags)

abbrev pub Binds : Pattern → Type 0
Binds (BindingIdentifier l w) = IsName w

abbrev pub BindsIf : MaybePattern → Type 0
BindsIf none_pattern = Unit {0}
BindsIf (some_pattern x) = Binds x

-- ---- statements that another token would go on with

-- it ends with an `if` that has no `else`
abbrev pub ends_open : Stmt → Bool
ends_open (If l c s (some_stmt r)) = ends_open r
ends_open (If l c s r) = true
ends_open (While l c s) = ends_open s
ends_open (For l x y z s) = ends_open s
ends_open (ForIn l x e s) = ends_open s
ends_open (ForOf l x e s) = ends_open s
ends_open (Labelled l x s) = ends_open s
ends_open (EnteredStmt m s) = ends_open s
ends_open s = false

-- it isn't one, which stands in a list of statements only
abbrev pub NoDeclaration : Stmt → Type 0
NoDeclaration s = is_declaration s ≡ false

-- ---- the tree

abbrev mutual
  pub IsExpr : Expr → Type 0
  IsExpr (IdentifierReference l w) = Refers w
  IsExpr (NumericLiteral l w) = IsToken (Numeral w)
  IsExpr (StringLiteral l s) = IsString s
  IsExpr (ArrayLiteral l xs) = AreExprs xs
  IsExpr (ObjectLiteral l ps) = AreProperties ps
  IsExpr (FunctionExpression l x f) = IsNameIf x × IsFunction f
  IsExpr (ArrowFunction l n ps body) = (n ≡ 0) × AreParams ps × IsConcise body
  IsExpr (RegularExpressionLiteral l body flags) = IsExpression body flags
  IsExpr (TemplateLiteral l s parts) = IsPart (first_part parts s.spelling) s × AreParts parts
  IsExpr (Parenthesized l e) = IsExpr e
  IsExpr (NamedMember l o w) = IsExpr o × IsToken (Word w)
  IsExpr (ComputedMember l o k) = IsExpr o × IsExpr k
  IsExpr (New l c xs) = IsExpr c × AreExprs xs
  IsExpr (Call l f xs) = IsExpr f × AreExprs xs
  IsExpr (PostfixUpdate l o e) = IsExpr e × (is_target e ≡ true)
  IsExpr (PrefixUpdate l o e) = IsExpr e × (is_target e ≡ true)
  IsExpr (Unary l o e) = IsExpr e
  IsExpr (Binary l o x y) = IsExpr x × IsExpr y
  IsExpr (Logical l o x y) = IsExpr x × IsExpr y
  IsExpr (Conditional l c x y) = IsExpr c × IsExpr x × IsExpr y
  IsExpr (Assignment l o x y) = IsExpr x × (is_target x ≡ true) × IsExpr y
  IsExpr (Comma l x y) = IsExpr x × IsExpr y
  IsExpr (Entered m e) = ⊥
  IsExpr e = Unit {0}

  pub AreExprs : Exprs → Type 0
  AreExprs no_expr = Unit {0}
  AreExprs (more_expr e es) = IsExpr e × AreExprs es

  pub AreParts : TemplateParts → Type 0
  AreParts no_template_part = Unit {0}
  AreParts (more_template_part (MakeTemplatePart e s) ps) = IsExpr e × IsPart (later_part ps s.spelling) s × AreParts ps

  pub AreProperties : Properties → Type 0
  AreProperties no_property = Unit {0}
  AreProperties (more_property p ps) = IsProperty p × AreProperties ps

  pub IsProperty : Property → Type 0
  IsProperty (Shorthand l w) = IsName w
  IsProperty (KeyValue l k e) = IsKey k × (is_proto k ≡ false) × IsExpr e
  IsProperty (Method l k f) = IsKey k × IsFunction f

  pub IsKey : PropertyKey → Type 0
  IsKey (NameKey w) = IsToken (Word w)
  IsKey (StringKey s) = IsString s
  IsKey (NumberKey w) = IsToken (Numeral w)
  IsKey (ComputedKey e) = IsExpr e

  pub IsFunction : Function → Type 0
  IsFunction (MakeFunction n ps body) = (n ≡ 0) × AreParams ps × IsBody body

  pub IsBody : FunctionBody → Type 0
  IsBody (MakeFunctionBody l ss) = AreStmts true ss
  IsBody (EnteredBody m body) = ⊥

  pub IsConcise : ConciseBody → Type 0
  IsConcise (ExpressionBody e) = IsExpr e
  IsConcise (BlockBody body) = IsBody body

  pub AreParams : Params → Type 0
  AreParams no_param = Unit {0}
  AreParams (more_param (MakeParam l x e) ps) = Binds x × IsMaybe e × AreParams ps

  pub IsMaybe : MaybeExpr → Type 0
  IsMaybe none_expr = Unit {0}
  IsMaybe (some_expr e) = IsExpr e

  -- statements, with directives first or none
  pub AreStmts : Bool → Stmts → Type 0
  AreStmts directed no_stmt = Unit {0}
  AreStmts true (more_stmt (Directive l s) ss) = IsString s × AreStmts true ss
  AreStmts directed (more_stmt s ss) = IsStmt s × AreStmts false ss

  pub IsStmt : Stmt → Type 0
  IsStmt (Directive l s) = ⊥
  IsStmt (Block l ss) = AreStmts false ss
  IsStmt (VariableDeclaration l k ds) = HasDeclarators (is_const k) ds
  IsStmt (Expression l e) = IsExpr e
  IsStmt (If l c s r) = IsExpr c × IsStmt s × NoDeclaration s × IsElse s r
  IsStmt (DoWhile l s c) = IsStmt s × NoDeclaration s × IsExpr c
  IsStmt (While l c s) = IsExpr c × IsStmt s × NoDeclaration s
  IsStmt (For l x y z s) = IsInit x × IsMaybe y × IsMaybe z × IsStmt s × NoDeclaration s
  IsStmt (ForIn l x e s) = IsTarget x × IsExpr e × IsStmt s × NoDeclaration s
  IsStmt (ForOf l x e s) = IsTarget x × IsNoAsync x × IsExpr e × IsStmt s × NoDeclaration s
  IsStmt (Continue l x) = IsNameIf x
  IsStmt (Break l x) = IsNameIf x
  IsStmt (Return l e) = IsMaybe e
  IsStmt (Switch l e cs) = IsExpr e × AreCases false cs
  IsStmt (Labelled l x s) = Refers x.name × IsStmt s × NoDeclaration s
  IsStmt (Throw l e) = IsExpr e
  IsStmt (TryCatch l b c) = AreStmts false b × IsCatch c
  IsStmt (TryFinally l b f) = AreStmts false b × AreStmts false f
  IsStmt (TryCatchFinally l b c f) = AreStmts false b × IsCatch c × AreStmts false f
  IsStmt (FunctionDeclaration l x f) = IsName x.name × IsFunction f
  IsStmt (EnteredStmt m s) = ⊥
  IsStmt s = Unit {0}

  -- before an `else` no statement ends with an `if` that has none
  pub IsElse : Stmt → MaybeStmt → Type 0
  IsElse s none_stmt = Unit {0}
  IsElse s (some_stmt r) = IsStmt r × NoDeclaration r × (ends_open s ≡ false)
  IsElse s (entered_none m) = ⊥

  -- one declarator at least, each with an initializer where one is due
  pub HasDeclarators : Bool → Declarators → Type 0
  HasDeclarators due no_declarator = ⊥
  HasDeclarators due (more_declarator d ds) = IsDeclarator due d × AreDeclarators due ds

  pub AreDeclarators : Bool → Declarators → Type 0
  AreDeclarators due no_declarator = Unit {0}
  AreDeclarators due (more_declarator d ds) = IsDeclarator due d × AreDeclarators due ds

  pub IsDeclarator : Bool → Declarator → Type 0
  IsDeclarator true (MakeDeclarator l x none_expr) = ⊥
  IsDeclarator due (MakeDeclarator l x e) = Binds x × IsMaybe e

  pub IsInit : ForInit → Type 0
  IsInit NoInit = Unit {0}
  IsInit (InitDeclaration k ds) = HasDeclarators (is_const k) ds
  IsInit (InitExpression e) = IsExpr e

  pub IsTarget : ForTarget → Type 0
  IsTarget (TargetDeclaration k x) = Binds x
  IsTarget (TargetExpression e) = IsExpr e × (is_target e ≡ true)

  pub IsNoAsync : ForTarget → Type 0
  IsNoAsync (TargetDeclaration k x) = Unit {0}
  IsNoAsync (TargetExpression e) = is_async e ≡ false

  -- one clause at most is `default`
  pub AreCases : Bool → Cases → Type 0
  AreCases defaulted no_case = Unit {0}
  AreCases true (more_case (MakeCase l none_expr ss) cs) = ⊥
  AreCases false (more_case (MakeCase l none_expr ss) cs) = AreStmts false ss × AreCases true cs
  AreCases defaulted (more_case (MakeCase l (some_expr e) ss) cs) = IsExpr e × AreStmts false ss × AreCases defaulted cs
  AreCases defaulted (more_case (EnteredCase m c) cs) = ⊥

  pub IsCatch : Catch → Type 0
  IsCatch (MakeCatch x ss) = BindsIf x × AreStmts false ss

abbrev pub body_of : File → Stmts
body_of (MakeFile ss comments) = ss

-- `this` stands in functions alone
pub record Printable (file : File) : Type 0 where
  pub body : AreStmts true (body_of file)
  pub this : this_stmts (body_of file) ≡ false
