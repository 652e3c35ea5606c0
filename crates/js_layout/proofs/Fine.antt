-- Trees that can be printed, but that a name that is referred to and a label may be `let`: so are all that the grammar has.
use Rattle.std.specs.Prelude.{◌≡◌, ℕ, Bool, true, false, List, [], ◌∷◌, Option, Some}
use Rattle.js_tree.specs.Plain.{Expr, IdentifierReference, NumericLiteral, StringLiteral, ArrayLiteral, ObjectLiteral, FunctionExpression, ArrowFunction, RegularExpressionLiteral, TemplateLiteral, Parenthesized, NamedMember, ComputedMember, New, Call, PostfixUpdate, PrefixUpdate, Unary, Binary, Logical, Conditional, Assignment, Comma, Entered}
use Rattle.js_tree.specs.Plain.{Stmt, Directive, Block, VariableDeclaration, Expression, If, DoWhile, While, For, ForIn, ForOf, Continue, Break, Return, Switch, Labelled, Throw, TryCatch, TryFinally, TryCatchFinally, FunctionDeclaration, EnteredStmt}
use Rattle.js_tree.specs.Plain.{Property, Shorthand, KeyValue, Method, PropertyKey, NameKey, StringKey, NumberKey, ComputedKey, ConciseBody, ExpressionBody, BlockBody, ForInit, NoInit, InitDeclaration, InitExpression, ForTarget, TargetDeclaration, TargetExpression}
use Rattle.js_tree.specs.Plain.{MakeTemplatePart, Function, MakeFunction, FunctionBody, MakeFunctionBody, EnteredBody, MakeParam, Declarator, MakeDeclarator, MakeCase, EnteredCase, Catch, MakeCatch}
use Rattle.js_tree.specs.Plain.{MaybeExpr, none_expr, some_expr, MaybeStmt, none_stmt, some_stmt, entered_none}
use Rattle.js_tree.specs.Plain.{TemplateParts, no_template_part, more_template_part, Properties, no_property, more_property, Params, no_param, more_param, Exprs, no_expr, more_expr, Stmts, no_stmt, more_stmt, Declarators, no_declarator, more_declarator, Cases, no_case, more_case}
use Rattle.js_text.specs.Token.{Word, Numeral}
use Rattle.js_reading.specs.Makes.{is_target, is_const, is_proto}
use Rattle.js_reading.specs.Slots.{Piece}
use Rattle.js_reading.specs.Slots as slot
use Rattle.js_spelling.specs.Tokens.{IsToken}
use Rattle.js_layout.specs.Tokens.{first_part, later_part}
use Rattle.js_layout.specs.Printable.{IsName, IsNameIf, IsString, IsPart, IsExpression, Binds, BindsIf, ends_open, NoDeclaration, IsNoAsync}

-- ---- the tree

abbrev mutual
  pub FineExpr : Expr → Type 0
  FineExpr (IdentifierReference l w) = IsName w
  FineExpr (NumericLiteral l w) = IsToken (Numeral w)
  FineExpr (StringLiteral l s) = IsString s
  FineExpr (ArrayLiteral l xs) = FineExprs xs
  FineExpr (ObjectLiteral l ps) = FineProperties ps
  FineExpr (FunctionExpression l x f) = IsNameIf x × FineFunction f
  FineExpr (ArrowFunction l n ps body) = (n ≡ 0) × FineParams ps × FineConcise body
  FineExpr (RegularExpressionLiteral l body flags) = IsExpression body flags
  FineExpr (TemplateLiteral l s parts) = IsPart (first_part parts s.spelling) s × FineParts parts
  FineExpr (Parenthesized l e) = FineExpr e
  FineExpr (NamedMember l o w) = FineExpr o × IsToken (Word w)
  FineExpr (ComputedMember l o k) = FineExpr o × FineExpr k
  FineExpr (New l c xs) = FineExpr c × FineExprs xs
  FineExpr (Call l f xs) = FineExpr f × FineExprs xs
  FineExpr (PostfixUpdate l o e) = FineExpr e × (is_target e ≡ true)
  FineExpr (PrefixUpdate l o e) = FineExpr e × (is_target e ≡ true)
  FineExpr (Unary l o e) = FineExpr e
  FineExpr (Binary l o x y) = FineExpr x × FineExpr y
  FineExpr (Logical l o x y) = FineExpr x × FineExpr y
  FineExpr (Conditional l c x y) = FineExpr c × FineExpr x × FineExpr y
  FineExpr (Assignment l o x y) = FineExpr x × (is_target x ≡ true) × FineExpr y
  FineExpr (Comma l x y) = FineExpr x × FineExpr y
  FineExpr (Entered m e) = ⊥
  FineExpr e = Unit {0}

  pub FineExprs : Exprs → Type 0
  FineExprs no_expr = Unit {0}
  FineExprs (more_expr e es) = FineExpr e × FineExprs es

  pub FineParts : TemplateParts → Type 0
  FineParts no_template_part = Unit {0}
  FineParts (more_template_part (MakeTemplatePart e s) ps) = FineExpr e × IsPart (later_part ps s.spelling) s × FineParts ps

  pub FineProperties : Properties → Type 0
  FineProperties no_property = Unit {0}
  FineProperties (more_property p ps) = FineProperty p × FineProperties ps

  pub FineProperty : Property → Type 0
  FineProperty (Shorthand l w) = IsName w
  FineProperty (KeyValue l k e) = FineKey k × (is_proto k ≡ false) × FineExpr e
  FineProperty (Method l k f) = FineKey k × FineFunction f

  pub FineKey : PropertyKey → Type 0
  FineKey (NameKey w) = IsToken (Word w)
  FineKey (StringKey s) = IsString s
  FineKey (NumberKey w) = IsToken (Numeral w)
  FineKey (ComputedKey e) = FineExpr e

  pub FineFunction : Function → Type 0
  FineFunction (MakeFunction n ps body) = (n ≡ 0) × FineParams ps × FineBody body

  pub FineBody : FunctionBody → Type 0
  FineBody (MakeFunctionBody l ss) = FineStmts true ss
  FineBody (EnteredBody m body) = ⊥

  pub FineConcise : ConciseBody → Type 0
  FineConcise (ExpressionBody e) = FineExpr e
  FineConcise (BlockBody body) = FineBody body

  pub FineParams : Params → Type 0
  FineParams no_param = Unit {0}
  FineParams (more_param (MakeParam l x e) ps) = Binds x × FineMaybe e × FineParams ps

  pub FineMaybe : MaybeExpr → Type 0
  FineMaybe none_expr = Unit {0}
  FineMaybe (some_expr e) = FineExpr e

  -- statements, with directives first or none
  pub FineStmts : Bool → Stmts → Type 0
  FineStmts directed no_stmt = Unit {0}
  FineStmts true (more_stmt (Directive l s) ss) = IsString s × FineStmts true ss
  FineStmts directed (more_stmt s ss) = FineStmt s × FineStmts false ss

  pub FineStmt : Stmt → Type 0
  FineStmt (Directive l s) = ⊥
  FineStmt (Block l ss) = FineStmts false ss
  FineStmt (VariableDeclaration l k ds) = FineSome (is_const k) ds
  FineStmt (Expression l e) = FineExpr e
  FineStmt (If l c s r) = FineExpr c × FineStmt s × NoDeclaration s × FineElse s r
  FineStmt (DoWhile l s c) = FineStmt s × NoDeclaration s × FineExpr c
  FineStmt (While l c s) = FineExpr c × FineStmt s × NoDeclaration s
  FineStmt (For l x y z s) = FineInit x × FineMaybe y × FineMaybe z × FineStmt s × NoDeclaration s
  FineStmt (ForIn l x e s) = FineTarget x × FineExpr e × FineStmt s × NoDeclaration s
  FineStmt (ForOf l x e s) = FineTarget x × IsNoAsync x × FineExpr e × FineStmt s × NoDeclaration s
  FineStmt (Continue l x) = IsNameIf x
  FineStmt (Break l x) = IsNameIf x
  FineStmt (Return l e) = FineMaybe e
  FineStmt (Switch l e cs) = FineExpr e × FineCases false cs
  FineStmt (Labelled l x s) = IsName x.name × FineStmt s × NoDeclaration s
  FineStmt (Throw l e) = FineExpr e
  FineStmt (TryCatch l b c) = FineStmts false b × FineCatch c
  FineStmt (TryFinally l b f) = FineStmts false b × FineStmts false f
  FineStmt (TryCatchFinally l b c f) = FineStmts false b × FineCatch c × FineStmts false f
  FineStmt (FunctionDeclaration l x f) = IsName x.name × FineFunction f
  FineStmt (EnteredStmt m s) = ⊥
  FineStmt s = Unit {0}

  -- before an `else` no statement ends with an `if` that has none
  pub FineElse : Stmt → MaybeStmt → Type 0
  FineElse s none_stmt = Unit {0}
  FineElse s (some_stmt r) = FineStmt r × NoDeclaration r × (ends_open s ≡ false)
  FineElse s (entered_none m) = ⊥

  -- one declarator at least, each with an initializer where one is due
  pub FineSome : Bool → Declarators → Type 0
  FineSome due no_declarator = ⊥
  FineSome due (more_declarator d ds) = FineDeclarator due d × FineDeclarators due ds

  pub FineDeclarators : Bool → Declarators → Type 0
  FineDeclarators due no_declarator = Unit {0}
  FineDeclarators due (more_declarator d ds) = FineDeclarator due d × FineDeclarators due ds

  pub FineDeclarator : Bool → Declarator → Type 0
  FineDeclarator true (MakeDeclarator l x none_expr) = ⊥
  FineDeclarator due (MakeDeclarator l x e) = Binds x × FineMaybe e

  pub FineInit : ForInit → Type 0
  FineInit NoInit = Unit {0}
  FineInit (InitDeclaration k ds) = FineSome (is_const k) ds
  FineInit (InitExpression e) = FineExpr e

  pub FineTarget : ForTarget → Type 0
  FineTarget (TargetDeclaration k x) = Binds x
  FineTarget (TargetExpression e) = FineExpr e × (is_target e ≡ true)

  -- one clause at most is `default`
  pub FineCases : Bool → Cases → Type 0
  FineCases defaulted no_case = Unit {0}
  FineCases true (more_case (MakeCase l none_expr ss) cs) = ⊥
  FineCases false (more_case (MakeCase l none_expr ss) cs) = FineStmts false ss × FineCases true cs
  FineCases defaulted (more_case (MakeCase l (some_expr e) ss) cs) = FineExpr e × FineStmts false ss × FineCases defaulted cs
  FineCases defaulted (more_case (EnteredCase m c) cs) = ⊥

  pub FineCatch : Catch → Type 0
  FineCatch (MakeCatch x ss) = BindsIf x × FineStmts false ss

-- pieces of a production: any word may stand, or a name alone; a statement among them is no declaration
abbrev pub FineWord : Bool → List ℕ → Type 0
FineWord true w = IsToken (Word w)
FineWord false w = IsName w

abbrev pub FinePiece : Bool → Piece → Type 0
FinePiece any (slot.AnExpr i e) = FineExpr e
FinePiece any (slot.AStmt s) = FineStmt s × NoDeclaration s
FinePiece any (slot.TheStmts ss) = FineStmts false ss
FinePiece any (slot.TheExprs b xs) = FineExprs xs
FinePiece any (slot.AWord w l) = FineWord any w
FinePiece any (slot.AKey k l) = FineKey k
FinePiece any p = Unit {0}

abbrev pub FinePieces : Bool → List Piece → Type 0
FinePieces any [] = Unit {0}
FinePieces any (p ∷ ps) = FinePiece any p × FinePieces any ps

-- what a production makes
abbrev pub FineMade : Option Piece → Type 0
FineMade (Some (slot.AnExpr i e)) = FineExpr e
FineMade (Some (slot.AStmt s)) = FineStmt s
FineMade o = Unit {0}
