-- A tree that can be printed, with marks where linking puts them: before statements of lists, bodies and arms; before initializers, defaults,
-- arms of conditionals, leaves of chains and bodies of arrows; where bodies of functions and clauses begin; and where an `else` is missing. No
-- body and no arm is a declaration, and of blocks an arm alone has a mark before it. Numbers of functions may differ.
use Rattle.std.specs.Prelude.{◌≡◌, ℕ, Bool, true, false, List, Option}
use Rattle.js_terms.specs.declared.operators.AssignmentOperator.{AssignmentOperator}
use Rattle.js_terms.specs.declared.operators.BinaryOperator.{BinaryOperator}
use Rattle.js_terms.specs.declared.operators.LogicalOperator.{LogicalOperator}
use Rattle.js_terms.specs.declared.operators.UnaryOperator.{UnaryOperator}
use Rattle.js_terms.specs.declared.operators.UpdateOperator.{UpdateOperator}
use Rattle.js_terms.specs.declared.operators.VariableKind.{VariableKind}
use Rattle.js_terms.specs.declared.place.Loc.{Loc}
use Rattle.js_terms.specs.declared.words.Comment.{Comment}
use Rattle.js_terms.specs.declared.words.Identifier.{Identifier}
use Rattle.js_terms.specs.declared.words.Spelled.{Spelled}
use Rattle.js_terms.specs.Mark.{Mark}
use Rattle.js_reading.specs.Makes.{is_declaration}
use Rattle.js_tree.specs.Plain as tree
use Rattle.js_tree.specs.Plain.{Expr, Stmt, Property, PropertyKey, ConciseBody, ForInit, ForTarget, TemplatePart, Function, FunctionBody, Param, Declarator, Case, Catch, Pattern, MaybePattern, MaybeExpr, MaybeStmt, Exprs, TemplateParts, Properties, Params, Stmts, Declarators, Cases, File}
use Rattle.js_layout.specs.Printable.{IsName, Printable}
use Rattle.js_tree.specs.Linked.{Marking, Numbers, link_file}

-- a block, marks notwithstanding
abbrev pub is_block : Stmt → Bool
is_block (tree.Block loc xs) = true
is_block (tree.EnteredStmt mark x) = is_block x
is_block _ = false

mutual
  -- an expression without a mark before it
  pub data MarkedExpr : Expr → Expr → Type 0 where
    identifier : {l : Option Loc} {w : List ℕ} → MarkedExpr (tree.IdentifierReference l w) (tree.IdentifierReference l w)
    this : {l : Option Loc} → MarkedExpr (tree.This l) (tree.This l)
    null : {l : Option Loc} → MarkedExpr (tree.NullLiteral l) (tree.NullLiteral l)
    boolean : {l : Option Loc} {b : Bool} → MarkedExpr (tree.BooleanLiteral l b) (tree.BooleanLiteral l b)
    numeric : {l : Option Loc} {w : List ℕ} → MarkedExpr (tree.NumericLiteral l w) (tree.NumericLiteral l w)
    string : {l : Option Loc} {s : Spelled} → MarkedExpr (tree.StringLiteral l s) (tree.StringLiteral l s)
    array : {l : Option Loc} {x x' : Exprs} → MarkedExprs x x' → MarkedExpr (tree.ArrayLiteral l x) (tree.ArrayLiteral l x')
    object : {l : Option Loc} {x x' : Properties} → MarkedProperties x x' → MarkedExpr (tree.ObjectLiteral l x) (tree.ObjectLiteral l x')
    function : {l : Option Loc} {n : Option Identifier} {f f' : Function} → MarkedFunction f f' → MarkedExpr (tree.FunctionExpression l n f) (tree.FunctionExpression l n f')
    arrow : {l : Option Loc} {i j : ℕ} {p p' : Params} {b b' : ConciseBody} → MarkedParams p p' → MarkedConcise b b' → MarkedExpr (tree.ArrowFunction l i p b) (tree.ArrowFunction l j p' b')
    regular : {l : Option Loc} {v w : List ℕ} → MarkedExpr (tree.RegularExpressionLiteral l v w) (tree.RegularExpressionLiteral l v w)
    template : {l : Option Loc} {s : Spelled} {x x' : TemplateParts} → MarkedParts x x' → MarkedExpr (tree.TemplateLiteral l s x) (tree.TemplateLiteral l s x')
    parenthesized : {l : Option Loc} {e e' : Expr} → MarkedExpr e e' → MarkedExpr (tree.Parenthesized l e) (tree.Parenthesized l e')
    named_member : {l : Option Loc} {e e' : Expr} {w : List ℕ} → MarkedExpr e e' → MarkedExpr (tree.NamedMember l e w) (tree.NamedMember l e' w)
    computed_member : {l : Option Loc} {e e' f f' : Expr} → MarkedExpr e e' → MarkedExpr f f' → MarkedExpr (tree.ComputedMember l e f) (tree.ComputedMember l e' f')
    new : {l : Option Loc} {e e' : Expr} {x x' : Exprs} → MarkedExpr e e' → MarkedExprs x x' → MarkedExpr (tree.New l e x) (tree.New l e' x')
    call : {l : Option Loc} {e e' : Expr} {x x' : Exprs} → MarkedExpr e e' → MarkedExprs x x' → MarkedExpr (tree.Call l e x) (tree.Call l e' x')
    postfix : {l : Option Loc} {o : UpdateOperator} {e e' : Expr} → MarkedExpr e e' → MarkedExpr (tree.PostfixUpdate l o e) (tree.PostfixUpdate l o e')
    prefix : {l : Option Loc} {o : UpdateOperator} {e e' : Expr} → MarkedExpr e e' → MarkedExpr (tree.PrefixUpdate l o e) (tree.PrefixUpdate l o e')
    unary : {l : Option Loc} {o : UnaryOperator} {e e' : Expr} → MarkedExpr e e' → MarkedExpr (tree.Unary l o e) (tree.Unary l o e')
    binary : {l : Option Loc} {o : BinaryOperator} {e e' f f' : Expr} → MarkedExpr e e' → MarkedExpr f f' → MarkedExpr (tree.Binary l o e f) (tree.Binary l o e' f')
    logical : {l : Option Loc} {o : LogicalOperator} {e e' f f' : Expr} → MarkedLeaf e e' → MarkedLeaf f f' → MarkedExpr (tree.Logical l o e f) (tree.Logical l o e' f')
    conditional : {l : Option Loc} {e e' f f' g g' : Expr} → MarkedExpr e e' → MarkedValue f f' → MarkedValue g g' → MarkedExpr (tree.Conditional l e f g) (tree.Conditional l e' f' g')
    assignment : {l : Option Loc} {o : AssignmentOperator} {e e' f f' : Expr} → MarkedExpr e e' → MarkedExpr f f' → MarkedExpr (tree.Assignment l o e f) (tree.Assignment l o e' f')
    comma : {l : Option Loc} {e e' f f' : Expr} → MarkedExpr e e' → MarkedExpr f f' → MarkedExpr (tree.Comma l e f) (tree.Comma l e' f')

  -- a value, with a mark before it or none
  pub data MarkedValue : Expr → Expr → Type 0 where
    unentered : {e e' : Expr} → MarkedExpr e e' → MarkedValue e e'
    entered : {e e' : Expr} (m : Mark) → MarkedExpr e e' → MarkedValue e (tree.Entered m e')

  -- a leaf of a chain of logical operators: its mark stands inside its parentheses
  pub data MarkedLeaf : Expr → Expr → Type 0 where
    a_leaf : {e e' : Expr} → MarkedValue e e' → MarkedLeaf e e'
    grouped : {l : Option Loc} {e e' : Expr} → MarkedLeaf e e' → MarkedLeaf (tree.Parenthesized l e) (tree.Parenthesized l e')

  -- a statement without a mark before it, and no directive: no mark stands between a label and its statement
  pub data MarkedStmt : Stmt → Stmt → Type 0 where
    block : {l : Option Loc} {x x' : Stmts} → MarkedStmts x x' → MarkedStmt (tree.Block l x) (tree.Block l x')
    declaration : {l : Option Loc} {k : VariableKind} {x x' : Declarators} → MarkedDeclarators x x' → MarkedStmt (tree.VariableDeclaration l k x) (tree.VariableDeclaration l k x')
    empty : {l : Option Loc} → MarkedStmt (tree.Empty l) (tree.Empty l)
    expression : {l : Option Loc} {e e' : Expr} → MarkedExpr e e' → MarkedStmt (tree.Expression l e) (tree.Expression l e')
    if_ : {l : Option Loc} {e e' : Expr} {x x' : Stmt} {y y' : MaybeStmt} → MarkedExpr e e' → Branched x x' → MarkedArm y y' → MarkedStmt (tree.If l e x y) (tree.If l e' x' y')
    do_ : {l : Option Loc} {x x' : Stmt} {e e' : Expr} → is_declaration x ≡ false → Around x x' → MarkedExpr e e' → MarkedStmt (tree.DoWhile l x e) (tree.DoWhile l x' e')
    while : {l : Option Loc} {e e' : Expr} {x x' : Stmt} → MarkedExpr e e' → is_declaration x ≡ false → Around x x' → MarkedStmt (tree.While l e x) (tree.While l e' x')
    for_ : {l : Option Loc} {i i' : ForInit} {e e' f f' : MaybeExpr} {x x' : Stmt} → MarkedInit i i' → MarkedMaybe e e' → MarkedMaybe f f' → is_declaration x ≡ false → Around x x' → MarkedStmt (tree.For l i e f x) (tree.For l i' e' f' x')
    for_in : {l : Option Loc} {i i' : ForTarget} {e e' : Expr} {x x' : Stmt} → MarkedTarget i i' → MarkedExpr e e' → is_declaration x ≡ false → Around x x' → MarkedStmt (tree.ForIn l i e x) (tree.ForIn l i' e' x')
    for_of : {l : Option Loc} {i i' : ForTarget} {e e' : Expr} {x x' : Stmt} → MarkedTarget i i' → MarkedExpr e e' → is_declaration x ≡ false → Around x x' → MarkedStmt (tree.ForOf l i e x) (tree.ForOf l i' e' x')
    continue : {l : Option Loc} {n : Option Identifier} → MarkedStmt (tree.Continue l n) (tree.Continue l n)
    break : {l : Option Loc} {n : Option Identifier} → MarkedStmt (tree.Break l n) (tree.Break l n)
    return : {l : Option Loc} {e e' : MaybeExpr} → MarkedMaybe e e' → MarkedStmt (tree.Return l e) (tree.Return l e')
    switch : {l : Option Loc} {e e' : Expr} {x x' : Cases} → MarkedExpr e e' → MarkedCases x x' → MarkedStmt (tree.Switch l e x) (tree.Switch l e' x')
    labelled : {l : Option Loc} {n : Identifier} {x x' : Stmt} → MarkedStmt x x' → MarkedStmt (tree.Labelled l n x) (tree.Labelled l n x')
    throw : {l : Option Loc} {e e' : Expr} → MarkedExpr e e' → MarkedStmt (tree.Throw l e) (tree.Throw l e')
    try_catch : {l : Option Loc} {x x' : Stmts} {c c' : Catch} → MarkedStmts x x' → MarkedCatch c c' → MarkedStmt (tree.TryCatch l x c) (tree.TryCatch l x' c')
    try_finally : {l : Option Loc} {x x' y y' : Stmts} → MarkedStmts x x' → MarkedStmts y y' → MarkedStmt (tree.TryFinally l x y) (tree.TryFinally l x' y')
    try_catch_finally : {l : Option Loc} {x x' y y' : Stmts} {c c' : Catch} → MarkedStmts x x' → MarkedCatch c c' → MarkedStmts y y' → MarkedStmt (tree.TryCatchFinally l x c y) (tree.TryCatchFinally l x' c' y')
    debugger : {l : Option Loc} → MarkedStmt (tree.Debugger l) (tree.Debugger l)
    function_declaration : {l : Option Loc} {n : Identifier} {f f' : Function} → MarkedFunction f f' → MarkedStmt (tree.FunctionDeclaration l n f) (tree.FunctionDeclaration l n f')

  -- one with marks before it
  pub data Around : Stmt → Stmt → Type 0 where
    bare : {x x' : Stmt} → MarkedStmt x x' → Around x x'
    around : {x x' : Stmt} (m : Mark) → is_declaration x ≡ false → is_block x ≡ false → Around x x' → Around x (tree.EnteredStmt m x')

  -- an arm, with the mark of its branch or none
  pub data Branched : Stmt → Stmt → Type 0 where
    unbranched : {x x' : Stmt} → is_declaration x ≡ false → Around x x' → Branched x x'
    branched : {x x' : Stmt} (m : Mark) → is_declaration x ≡ false → Around x x' → Branched x (tree.EnteredStmt m x')

  pub data MarkedArm : MaybeStmt → MaybeStmt → Type 0 where
    none : MarkedArm tree.none_stmt tree.none_stmt
    missing : (m : Mark) → MarkedArm tree.none_stmt (tree.entered_none m)
    some : {x x' : Stmt} → Branched x x' → MarkedArm (tree.some_stmt x) (tree.some_stmt x')

  -- a directive, or a statement
  pub data Listed : Stmt → Stmt → Type 0 where
    a_directive : {l : Option Loc} {s : Spelled} → Listed (tree.Directive l s) (tree.Directive l s)
    a_stmt : {x x' : Stmt} → Around x x' → Listed x x'

  pub data MarkedStmts : Stmts → Stmts → Type 0 where
    no_stmts : MarkedStmts tree.no_stmt tree.no_stmt
    more_stmts : {x x' : Stmt} {y y' : Stmts} → Listed x x' → MarkedStmts y y' → MarkedStmts (tree.more_stmt x y) (tree.more_stmt x' y')

  pub data MarkedProperty : Property → Property → Type 0 where
    shorthand : {l : Option Loc} {w : List ℕ} → MarkedProperty (tree.Shorthand l w) (tree.Shorthand l w)
    key_value : {l : Option Loc} {k k' : PropertyKey} {e e' : Expr} → MarkedKey k k' → MarkedExpr e e' → MarkedProperty (tree.KeyValue l k e) (tree.KeyValue l k' e')
    method : {l : Option Loc} {k k' : PropertyKey} {f f' : Function} → MarkedKey k k' → MarkedFunction f f' → MarkedProperty (tree.Method l k f) (tree.Method l k' f')

  pub data MarkedKey : PropertyKey → PropertyKey → Type 0 where
    name_key : {w : List ℕ} → MarkedKey (tree.NameKey w) (tree.NameKey w)
    string_key : {s : Spelled} → MarkedKey (tree.StringKey s) (tree.StringKey s)
    number_key : {w : List ℕ} → MarkedKey (tree.NumberKey w) (tree.NumberKey w)
    computed_key : {e e' : Expr} → MarkedExpr e e' → MarkedKey (tree.ComputedKey e) (tree.ComputedKey e')

  -- an expression with no mark, that of the function, or this and that of the expression
  pub data MarkedConcise : ConciseBody → ConciseBody → Type 0 where
    concise : {e e' : Expr} → MarkedExpr e e' → MarkedConcise (tree.ExpressionBody e) (tree.ExpressionBody e')
    concise_one : {e e' : Expr} (m : Mark) → MarkedExpr e e' → MarkedConcise (tree.ExpressionBody e) (tree.ExpressionBody (tree.Entered m e'))
    concise_two : {e e' : Expr} (m n : Mark) → MarkedExpr e e' → MarkedConcise (tree.ExpressionBody e) (tree.ExpressionBody (tree.Entered m (tree.Entered n e')))
    braced : {b b' : FunctionBody} → MarkedBody b b' → MarkedConcise (tree.BlockBody b) (tree.BlockBody b')

  pub data MarkedInit : ForInit → ForInit → Type 0 where
    no_init : MarkedInit tree.NoInit tree.NoInit
    init_declaration : {k : VariableKind} {x x' : Declarator} {y y' : Declarators} → MarkedDeclarator x x' → MarkedDeclarators y y' → MarkedInit (tree.InitDeclaration k (tree.more_declarator x y)) (tree.InitDeclaration k (tree.more_declarator x' y'))
    init_expression : {e e' : Expr} → MarkedExpr e e' → MarkedInit (tree.InitExpression e) (tree.InitExpression e')

  pub data MarkedTarget : ForTarget → ForTarget → Type 0 where
    target_declaration : {k : VariableKind} {p : Pattern} → MarkedTarget (tree.TargetDeclaration k p) (tree.TargetDeclaration k p)
    target_expression : {e e' : Expr} → MarkedExpr e e' → MarkedTarget (tree.TargetExpression e) (tree.TargetExpression e')

  pub data MarkedPart : TemplatePart → TemplatePart → Type 0 where
    a_part : {e e' : Expr} {s : Spelled} → MarkedExpr e e' → MarkedPart (tree.MakeTemplatePart e s) (tree.MakeTemplatePart e' s)

  pub data MarkedFunction : Function → Function → Type 0 where
    make_function : {i j : ℕ} {p p' : Params} {b b' : FunctionBody} → MarkedParams p p' → MarkedBody b b' → MarkedFunction (tree.MakeFunction i p b) (tree.MakeFunction j p' b')

  pub data MarkedBody : FunctionBody → FunctionBody → Type 0 where
    plain_body : {l : Option Loc} {x x' : Stmts} → MarkedStmts x x' → MarkedBody (tree.MakeFunctionBody l x) (tree.MakeFunctionBody l x')
    entered_body : {l : Option Loc} {x x' : Stmts} (m : Mark) → MarkedStmts x x' → MarkedBody (tree.MakeFunctionBody l x) (tree.EnteredBody m (tree.MakeFunctionBody l x'))

  pub data MarkedParam : Param → Param → Type 0 where
    plain_param : {l p : Option Loc} {w : List ℕ} → MarkedParam (tree.MakeParam l (tree.BindingIdentifier p w) tree.none_expr) (tree.MakeParam l (tree.BindingIdentifier p w) tree.none_expr)
    defaulted : {l p : Option Loc} {w : List ℕ} {e e' : Expr} → IsName w → MarkedValue e e' → MarkedParam (tree.MakeParam l (tree.BindingIdentifier p w) (tree.some_expr e)) (tree.MakeParam l (tree.BindingIdentifier p w) (tree.some_expr e'))

  pub data MarkedDeclarator : Declarator → Declarator → Type 0 where
    declarator : {l p : Option Loc} {w : List ℕ} → MarkedDeclarator (tree.MakeDeclarator l (tree.BindingIdentifier p w) tree.none_expr) (tree.MakeDeclarator l (tree.BindingIdentifier p w) tree.none_expr)
    initialized : {l p : Option Loc} {w : List ℕ} {e e' : Expr} → IsName w → MarkedValue e e' → MarkedDeclarator (tree.MakeDeclarator l (tree.BindingIdentifier p w) (tree.some_expr e)) (tree.MakeDeclarator l (tree.BindingIdentifier p w) (tree.some_expr e'))

  pub data MarkedCase : Case → Case → Type 0 where
    clause : {l : Option Loc} {e e' : MaybeExpr} {x x' : Stmts} → MarkedMaybe e e' → MarkedStmts x x' → MarkedCase (tree.MakeCase l e x) (tree.MakeCase l e' x')
    entered_clause : {l : Option Loc} {e e' : MaybeExpr} {x x' : Stmts} (m : Mark) → MarkedMaybe e e' → MarkedStmts x x' → MarkedCase (tree.MakeCase l e x) (tree.EnteredCase m (tree.MakeCase l e' x'))

  pub data MarkedCatch : Catch → Catch → Type 0 where
    catching : {p : MaybePattern} {x x' : Stmts} → MarkedStmts x x' → MarkedCatch (tree.MakeCatch p x) (tree.MakeCatch p x')

  pub data MarkedMaybe : MaybeExpr → MaybeExpr → Type 0 where
    no_value : MarkedMaybe tree.none_expr tree.none_expr
    some_value : {e e' : Expr} → MarkedExpr e e' → MarkedMaybe (tree.some_expr e) (tree.some_expr e')

  pub data MarkedExprs : Exprs → Exprs → Type 0 where
    no_exprs : MarkedExprs tree.no_expr tree.no_expr
    more_exprs : {x x' : Expr} {y y' : Exprs} → MarkedExpr x x' → MarkedExprs y y' → MarkedExprs (tree.more_expr x y) (tree.more_expr x' y')

  pub data MarkedParts : TemplateParts → TemplateParts → Type 0 where
    no_parts : MarkedParts tree.no_template_part tree.no_template_part
    more_parts : {x x' : TemplatePart} {y y' : TemplateParts} → MarkedPart x x' → MarkedParts y y' → MarkedParts (tree.more_template_part x y) (tree.more_template_part x' y')

  pub data MarkedProperties : Properties → Properties → Type 0 where
    no_properties : MarkedProperties tree.no_property tree.no_property
    more_properties : {x x' : Property} {y y' : Properties} → MarkedProperty x x' → MarkedProperties y y' → MarkedProperties (tree.more_property x y) (tree.more_property x' y')

  pub data MarkedParams : Params → Params → Type 0 where
    no_params : MarkedParams tree.no_param tree.no_param
    more_params : {x x' : Param} {y y' : Params} → MarkedParam x x' → MarkedParams y y' → MarkedParams (tree.more_param x y) (tree.more_param x' y')

  pub data MarkedDeclarators : Declarators → Declarators → Type 0 where
    no_declarators : MarkedDeclarators tree.no_declarator tree.no_declarator
    more_declarators : {x x' : Declarator} {y y' : Declarators} → MarkedDeclarator x x' → MarkedDeclarators y y' → MarkedDeclarators (tree.more_declarator x y) (tree.more_declarator x' y')

  pub data MarkedCases : Cases → Cases → Type 0 where
    no_cases : MarkedCases tree.no_case tree.no_case
    more_cases : {x x' : Case} {y y' : Cases} → MarkedCase x x' → MarkedCases y y' → MarkedCases (tree.more_case x y) (tree.more_case x' y')

-- the marked tree of a file
pub data MarkedFile : File → File → Type 0 where
  marked_file : {x x' : Stmts} {comments : List Comment} → MarkedStmts x x' → MarkedFile (tree.MakeFile x comments) (tree.MakeFile x' comments)

-- linking gives such a tree of a file that can be printed
abbrev pub LinksWell : Type 0
LinksWell = (m : Marking) (tree : File) (k : Numbers) → Printable tree → MarkedFile tree (link_file m tree k).tree
