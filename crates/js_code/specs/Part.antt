-- What a node can be read as: a part of a tree.
use Rattle.std.specs.Prelude.{[], None}
use Rattle.js_terms.specs.Mark.{Mark}
use Rattle.js_tree.specs.Plain as P
use Rattle.js_code.specs.declared.node.ListKind.{ListKind}
use Rattle.js_code.specs.declared.node.ListKind.TheVariants as list
use Rattle.js_tree.specs.Codes.{Code, Ordinary}

-- a part, or a list of parts of one kind
pub data Part : Type 0 where
  NoPart : Part
  AnExpr : P.Expr → Part
  AStmt : P.Stmt → Part
  AProperty : P.Property → Part
  APropertyKey : P.PropertyKey → Part
  ATemplatePart : P.TemplatePart → Part
  ACode : Code → Part
  AParam : P.Param → Part
  ADeclarator : P.Declarator → Part
  ACase : P.Case → Part
  ACatch : P.Catch → Part
  AForInit : P.ForInit → Part
  AForTarget : P.ForTarget → Part
  -- statements that are a scope of their own, and clauses that are
  AScope : P.Stmts → Part
  ACaseScope : P.Cases → Part
  -- of no node: a missing statement that enters a construct
  AnEntry : Mark → Part
  SomeExprs : P.Exprs → Part
  SomeStmts : P.Stmts → Part
  SomeProperties : P.Properties → Part
  SomeTemplateParts : P.TemplateParts → Part
  SomeParams : P.Params → Part
  SomeDeclarators : P.Declarators → Part
  SomeCases : P.Cases → Part

-- a part as one of a kind: what is none is told as the plainest of that kind
abbrev pub as_expr : Part → P.Expr
as_expr (AnExpr e) = e
as_expr _ = P.NullLiteral None

abbrev pub as_stmt : Part → P.Stmt
as_stmt (AStmt x) = x
as_stmt _ = P.Empty None

abbrev pub as_property : Part → P.Property
as_property (AProperty x) = x
as_property _ = P.Shorthand None []

abbrev pub as_property_key : Part → P.PropertyKey
as_property_key (APropertyKey key) = key
as_property_key _ = P.NameKey []

abbrev pub as_template_part : Part → P.TemplatePart
as_template_part (ATemplatePart x) = x
as_template_part _ = P.MakeTemplatePart (P.NullLiteral None) (record { spelling = []; units = [] })

abbrev pub as_code : Part → Code
as_code (ACode code) = code
as_code _ = Ordinary (P.MakeFunction 0 P.no_param (P.MakeFunctionBody None P.no_stmt))

abbrev pub as_param : Part → P.Param
as_param (AParam x) = x
as_param _ = P.MakeParam None (P.BindingIdentifier None []) P.none_expr

abbrev pub as_declarator : Part → P.Declarator
as_declarator (ADeclarator x) = x
as_declarator _ = P.MakeDeclarator None (P.BindingIdentifier None []) P.none_expr

abbrev pub as_case : Part → P.Case
as_case (ACase x) = x
as_case _ = P.MakeCase None P.none_expr P.no_stmt

abbrev pub as_catch : Part → P.Catch
as_catch (ACatch x) = x
as_catch _ = P.MakeCatch P.none_pattern P.no_stmt

abbrev pub as_for_init : Part → P.ForInit
as_for_init (AForInit x) = x
as_for_init _ = P.NoInit

abbrev pub as_for_target : Part → P.ForTarget
as_for_target (AForTarget x) = x
as_for_target _ = P.TargetExpression (P.NullLiteral None)

abbrev pub as_exprs : Part → P.Exprs
as_exprs (SomeExprs xs) = xs
as_exprs _ = P.no_expr

abbrev pub as_stmts : Part → P.Stmts
as_stmts (SomeStmts xs) = xs
as_stmts _ = P.no_stmt

abbrev pub as_properties : Part → P.Properties
as_properties (SomeProperties xs) = xs
as_properties _ = P.no_property

abbrev pub as_template_parts : Part → P.TemplateParts
as_template_parts (SomeTemplateParts xs) = xs
as_template_parts _ = P.no_template_part

abbrev pub as_params : Part → P.Params
as_params (SomeParams xs) = xs
as_params _ = P.no_param

abbrev pub as_declarators : Part → P.Declarators
as_declarators (SomeDeclarators xs) = xs
as_declarators _ = P.no_declarator

abbrev pub as_cases : Part → P.Cases
as_cases (SomeCases xs) = xs
as_cases _ = P.no_case

abbrev pub as_scope : Part → P.Stmts
as_scope (AScope xs) = xs
as_scope _ = P.no_stmt

abbrev pub as_case_scope : Part → P.Cases
as_case_scope (ACaseScope xs) = xs
as_case_scope _ = P.no_case

-- a part that may be missing
abbrev pub as_expr_if : Part → P.MaybeExpr
as_expr_if NoPart = P.none_expr
as_expr_if part = P.some_expr (as_expr part)

abbrev pub as_stmt_if : Part → P.MaybeStmt
as_stmt_if NoPart = P.none_stmt
as_stmt_if (AnEntry mark) = P.entered_none mark
as_stmt_if part = P.some_stmt (as_stmt part)

-- the empty list of a kind
abbrev pub end_of : ListKind → Part
end_of list.Exprs = SomeExprs P.no_expr
end_of list.Stmts = SomeStmts P.no_stmt
end_of list.Properties = SomeProperties P.no_property
end_of list.TemplateParts = SomeTemplateParts P.no_template_part
end_of list.Params = SomeParams P.no_param
end_of list.Declarators = SomeDeclarators P.no_declarator
end_of list.Cases = SomeCases P.no_case

-- a part in front of a list of a kind
abbrev pub before : ListKind → Part → Part → Part
before list.Exprs x xs = SomeExprs (P.more_expr (as_expr x) (as_exprs xs))
before list.Stmts x xs = SomeStmts (P.more_stmt (as_stmt x) (as_stmts xs))
before list.Properties x xs = SomeProperties (P.more_property (as_property x) (as_properties xs))
before list.TemplateParts x xs = SomeTemplateParts (P.more_template_part (as_template_part x) (as_template_parts xs))
before list.Params x xs = SomeParams (P.more_param (as_param x) (as_params xs))
before list.Declarators x xs = SomeDeclarators (P.more_declarator (as_declarator x) (as_declarators xs))
before list.Cases x xs = SomeCases (P.more_case (as_case x) (as_cases xs))
