-- A tree of a home: its names are free there, and its marks are of that home's file and have counters.
use Rattle.std.specs.Prelude.{◌≡◌, ℕ, ◌+◌, List, [], Option, Some, None, Bool, true, false}
use Rattle.js_terms.specs.Mark.{Mark}
use Rattle.js_terms.specs.declared.words.Identifier.{Identifier}
use Rattle.js_tree.specs.Codes.{Code, Ordinary, OfMethod, Arrow}
use Rattle.js_tree.specs.Plain as tree
use Rattle.js_tree.specs.Plain.{Expr, Stmt, Property, PropertyKey, ConciseBody, ForInit, ForTarget, TemplatePart, Function, FunctionBody, Param, Declarator, Case, Catch, Pattern, MaybePattern, MaybeExpr, MaybeStmt, Exprs, TemplateParts, Properties, Params, Stmts, Declarators, Cases}
use Rattle.js_value.specs.Functions.{name_units}
use Rattle.js_meaning.specs.Scopes.{lexical_stmt, function_stmt}
use Rattle.cov_rewritten.specs.Counters.{quoted}
use Rattle.cov_rewritten.specs.Rewritten.{is_anonymous, expr_marks}
use Rattle.js_suits.specs.Settings.{Home, Within, Setting, IsFree}

module _ (c : Setting) (h : Home) where
  abbrev pub SuitsMark : Mark → Type 0
  SuitsMark mark = (h ≡ Within mark.file) × c.Has mark

  abbrev pub SuitsName : List ℕ → Type 0
  SuitsName x = IsFree c.name h x

  abbrev pub SuitsIdentifier : Option Identifier → Type 0
  SuitsIdentifier None = Unit {0}
  SuitsIdentifier (Some x) = SuitsName x.name

  abbrev pub SuitsPattern : Pattern → Type 0
  SuitsPattern (tree.BindingIdentifier loc x) = SuitsName x

  abbrev pub SuitsPatternIf : MaybePattern → Type 0
  SuitsPatternIf tree.none_pattern = Unit {0}
  SuitsPatternIf (tree.some_pattern x) = SuitsPattern x

  -- an anonymous function with a mark before it in parentheses: code there takes the name from it that its place gives
  abbrev pub is_masked : Expr → Bool
  is_masked (tree.Parenthesized loc (tree.Entered mark e)) = is_anonymous e
  is_masked (tree.Parenthesized loc e) = is_masked e
  is_masked (tree.Entered mark e) = is_masked e
  is_masked _ = false

  -- what may be asked for a reference has no mark before it
  abbrev pub is_bare : Expr → Bool
  is_bare (tree.Parenthesized loc e) = is_bare e
  is_bare (tree.Entered mark e) = false
  is_bare _ = true

  -- one without marks before it
  abbrev pub Bare : Type 0 → Expr → Type 0
  Bare suits e = suits × (expr_marks e ≡ [])

  -- a statement that declares nothing in the block that it becomes
  abbrev pub DeclaresNothing : Stmt → Type 0
  DeclaresNothing x = (lexical_stmt x ≡ []) × (function_stmt x ≡ [])

  abbrev pub ArmDeclaresNothing : MaybeStmt → Type 0
  ArmDeclaresNothing (tree.some_stmt x) = DeclaresNothing x
  ArmDeclaresNothing _ = Unit {0}

  -- the name of an anonymous function with a mark before it is a text that a key spells
  abbrev pub IsSpelt : List ℕ → Expr → Type 0
  IsSpelt name (tree.Entered mark e) = is_anonymous e ≡ true → (quoted name).units ≡ name_units name
  IsSpelt name _ = Unit {0}

  abbrev pub IsHeld : List ℕ → Expr → Type 0
  IsHeld name e = (is_masked e ≡ false) × IsSpelt name e

  -- a block, marks notwithstanding: its own mark stands in it, and it has one at most
  abbrev pub is_block : Stmt → Bool
  is_block (tree.Block loc xs) = true
  is_block (tree.EnteredStmt mark x) = is_block x
  is_block _ = false

  abbrev pub IsFlat : Stmt → Type 0
  IsFlat (tree.EnteredStmt mark x) = is_block x ≡ false
  IsFlat _ = Unit {0}

  -- a block with a mark before it: an arm alone is one, and no element of a list
  abbrev pub is_marked_block : Stmt → Bool
  is_marked_block (tree.EnteredStmt mark x) = is_block x
  is_marked_block _ = false

  -- a mark of a body that is labelled stands before the label
  abbrev pub is_marked : Stmt → Bool
  is_marked (tree.EnteredStmt mark x) = true
  is_marked _ = false

  -- a function stands at its number, and the one that stands for it at its own
  abbrev mutual
    pub SuitsExpr : Expr → Type 0
    SuitsExpr (tree.IdentifierReference loc x) = SuitsName x
    SuitsExpr (tree.ArrayLiteral loc es) = SuitsExprs es
    SuitsExpr (tree.ObjectLiteral loc properties) = SuitsProperties properties
    SuitsExpr (tree.FunctionExpression loc name function) = SuitsIdentifier name × SuitsFunction function
    SuitsExpr (tree.ArrowFunction loc number params body) = c.Codes h number (c.shift h + number) × SuitsParams params × SuitsConcise body
    SuitsExpr (tree.TemplateLiteral loc spelled parts) = SuitsParts parts
    SuitsExpr (tree.Parenthesized loc e) = SuitsExpr e
    SuitsExpr (tree.NamedMember loc e text) = Bare (SuitsExpr e) e
    SuitsExpr (tree.ComputedMember loc e f) = Bare (SuitsExpr e) e × Bare (SuitsExpr f) f
    SuitsExpr (tree.New loc e es) = Bare (SuitsExpr e) e × SuitsExprs es
    SuitsExpr (tree.Call loc e es) = Bare (SuitsExpr e) e × SuitsExprs es × (is_bare e ≡ true)
    SuitsExpr (tree.PostfixUpdate loc operator e) = Bare (SuitsExpr e) e × (is_bare e ≡ true)
    SuitsExpr (tree.PrefixUpdate loc operator e) = Bare (SuitsExpr e) e × (is_bare e ≡ true)
    SuitsExpr (tree.Unary loc operator e) = Bare (SuitsExpr e) e × (is_bare e ≡ true)
    SuitsExpr (tree.Binary loc operator e f) = Bare (SuitsExpr e) e × Bare (SuitsExpr f) f
    SuitsExpr (tree.Logical loc operator e f) = SuitsExpr e × SuitsExpr f
    SuitsExpr (tree.Conditional loc e f g) = Bare (SuitsExpr e) e × SuitsExpr f × SuitsExpr g
    SuitsExpr (tree.Assignment loc operator e f) = Bare (SuitsExpr e) e × Bare (SuitsExpr f) f × (is_bare e ≡ true) × (is_masked f ≡ false)
    SuitsExpr (tree.Comma loc e f) = Bare (SuitsExpr e) e × Bare (SuitsExpr f) f
    SuitsExpr (tree.Entered mark e) = SuitsMark mark × SuitsExpr e
    SuitsExpr _ = Unit {0}

    pub SuitsStmt : Stmt → Type 0
    SuitsStmt (tree.Block loc xs) = SuitsStmts xs
    SuitsStmt (tree.VariableDeclaration loc kind declarators) = SuitsDeclarators declarators
    SuitsStmt (tree.Expression loc e) = Bare (SuitsExpr e) e
    SuitsStmt (tree.If loc e x y) = Bare (SuitsExpr e) e × SuitsStmt x × SuitsStmtIf y × DeclaresNothing x × ArmDeclaresNothing y
    SuitsStmt (tree.DoWhile loc x e) = SuitsStmt x × Bare (SuitsExpr e) e
    SuitsStmt (tree.While loc e x) = Bare (SuitsExpr e) e × SuitsStmt x
    SuitsStmt (tree.For loc start e f x) = SuitsForInit start × SuitsExprIf e × SuitsExprIf f × SuitsStmt x
    SuitsStmt (tree.ForIn loc target e x) = SuitsForTarget target × Bare (SuitsExpr e) e × SuitsStmt x
    SuitsStmt (tree.ForOf loc target e x) = SuitsForTarget target × Bare (SuitsExpr e) e × SuitsStmt x
    SuitsStmt (tree.Return loc e) = SuitsExprIf e
    SuitsStmt (tree.Switch loc e cases) = Bare (SuitsExpr e) e × SuitsCases cases
    SuitsStmt (tree.Labelled loc name x) = SuitsStmt x × (is_marked x ≡ false)
    SuitsStmt (tree.Throw loc e) = Bare (SuitsExpr e) e
    SuitsStmt (tree.TryCatch loc xs catch) = SuitsStmts xs × SuitsCatch catch
    SuitsStmt (tree.TryFinally loc xs ys) = SuitsStmts xs × SuitsStmts ys
    SuitsStmt (tree.TryCatchFinally loc xs catch ys) = SuitsStmts xs × SuitsCatch catch × SuitsStmts ys
    SuitsStmt (tree.FunctionDeclaration loc name function) = SuitsName name.name × SuitsFunction function
    SuitsStmt (tree.EnteredStmt mark x) = SuitsMark mark × SuitsStmt x × (lexical_stmt x ≡ []) × (function_stmt x ≡ []) × IsFlat x
    SuitsStmt _ = Unit {0}

    pub SuitsProperty : Property → Type 0
    SuitsProperty (tree.Shorthand loc x) = SuitsName x
    SuitsProperty (tree.KeyValue loc key e) = SuitsKey key × Bare (SuitsExpr e) e × (is_masked e ≡ false)
    SuitsProperty (tree.Method loc key function) = SuitsKey key × SuitsFunction function

    pub SuitsKey : PropertyKey → Type 0
    SuitsKey (tree.NameKey text) = Unit {0}
    SuitsKey (tree.StringKey spelled) = Unit {0}
    SuitsKey (tree.NumberKey text) = Unit {0}
    SuitsKey (tree.ComputedKey e) = Bare (SuitsExpr e) e

    pub SuitsConcise : ConciseBody → Type 0
    SuitsConcise (tree.ExpressionBody e) = SuitsExpr e
    SuitsConcise (tree.BlockBody body) = SuitsBody body

    pub SuitsForInit : ForInit → Type 0
    SuitsForInit tree.NoInit = Unit {0}
    SuitsForInit (tree.InitDeclaration kind tree.no_declarator) = ⊥
    SuitsForInit (tree.InitDeclaration kind (tree.more_declarator d ds)) = SuitsDeclarators (tree.more_declarator d ds)
    SuitsForInit (tree.InitExpression e) = Bare (SuitsExpr e) e

    pub SuitsForTarget : ForTarget → Type 0
    SuitsForTarget (tree.TargetDeclaration kind pattern) = SuitsPattern pattern
    SuitsForTarget (tree.TargetExpression e) = Bare (SuitsExpr e) e × (is_bare e ≡ true)

    pub SuitsPart : TemplatePart → Type 0
    SuitsPart (tree.MakeTemplatePart e spelled) = Bare (SuitsExpr e) e

    pub SuitsFunction : Function → Type 0
    SuitsFunction (tree.MakeFunction number params body) = c.Codes h number (c.shift h + number) × SuitsParams params × SuitsBody body

    pub SuitsBody : FunctionBody → Type 0
    SuitsBody (tree.MakeFunctionBody loc xs) = SuitsStmts xs
    SuitsBody (tree.EnteredBody mark body) = SuitsMark mark × SuitsBody body

    pub SuitsParam : Param → Type 0
    SuitsParam (tree.MakeParam loc (tree.BindingIdentifier place x) e) = SuitsName x × SuitsInitial x e

    pub SuitsDeclarator : Declarator → Type 0
    SuitsDeclarator (tree.MakeDeclarator loc (tree.BindingIdentifier place x) e) = SuitsName x × SuitsInitial x e

    pub SuitsCase : Case → Type 0
    SuitsCase (tree.MakeCase loc e xs) = SuitsExprIf e × SuitsStmts xs
    SuitsCase (tree.EnteredCase mark x) = SuitsMark mark × SuitsCase x

    pub SuitsCatch : Catch → Type 0
    SuitsCatch (tree.MakeCatch pattern xs) = SuitsPatternIf pattern × SuitsStmts xs

    -- an initializer or a default of a name
    pub SuitsInitial : List ℕ → MaybeExpr → Type 0
    SuitsInitial x tree.none_expr = Unit {0}
    SuitsInitial x (tree.some_expr e) = SuitsExpr e × IsHeld x e

    pub SuitsExprIf : MaybeExpr → Type 0
    SuitsExprIf tree.none_expr = Unit {0}
    SuitsExprIf (tree.some_expr e) = Bare (SuitsExpr e) e

    pub SuitsStmtIf : MaybeStmt → Type 0
    SuitsStmtIf tree.none_stmt = Unit {0}
    SuitsStmtIf (tree.some_stmt x) = SuitsStmt x
    SuitsStmtIf (tree.entered_none mark) = SuitsMark mark

    pub SuitsExprs : Exprs → Type 0
    SuitsExprs tree.no_expr = Unit {0}
    SuitsExprs (tree.more_expr x xs) = Bare (SuitsExpr x) x × SuitsExprs xs

    pub SuitsParts : TemplateParts → Type 0
    SuitsParts tree.no_template_part = Unit {0}
    SuitsParts (tree.more_template_part x xs) = SuitsPart x × SuitsParts xs

    pub SuitsProperties : Properties → Type 0
    SuitsProperties tree.no_property = Unit {0}
    SuitsProperties (tree.more_property x xs) = SuitsProperty x × SuitsProperties xs

    pub SuitsParams : Params → Type 0
    SuitsParams tree.no_param = Unit {0}
    SuitsParams (tree.more_param x xs) = SuitsParam x × SuitsParams xs

    pub SuitsStmts : Stmts → Type 0
    SuitsStmts tree.no_stmt = Unit {0}
    SuitsStmts (tree.more_stmt x xs) = (SuitsStmt x × (is_marked_block x ≡ false)) × SuitsStmts xs

    pub SuitsDeclarators : Declarators → Type 0
    SuitsDeclarators tree.no_declarator = Unit {0}
    SuitsDeclarators (tree.more_declarator x xs) = SuitsDeclarator x × SuitsDeclarators xs

    pub SuitsCases : Cases → Type 0
    SuitsCases tree.no_case = Unit {0}
    SuitsCases (tree.more_case x xs) = SuitsCase x × SuitsCases xs

  abbrev pub SuitsCode : Code → Type 0
  SuitsCode (Ordinary function) = SuitsFunction function
  SuitsCode (OfMethod function) = SuitsFunction function
  SuitsCode (Arrow number params body) = c.Codes h number (c.shift h + number) × SuitsParams params × SuitsConcise body
