-- What the marks of a tree enter: each mark, in the order of the text, with the place of what it enters; and how many of a list are such.
use Rattle.std.specs.Prelude.{ℕ, ◌+◌, Bool, List, [], ◌∷◌, ◌++◌, Option, Some, None}
use Rattle.js_terms.specs.declared.construct.ConstructKind.{ConstructKind}
use Rattle.js_terms.specs.declared.construct.ConstructKind.TheVariants as construct_kind
use Rattle.js_terms.specs.declared.place.Loc.{Loc}
use Rattle.js_terms.specs.Mark.{Mark}
use Rattle.js_tree.specs.Marked.{is_mark, one_if}
use Rattle.js_tree.specs.Places.{bare_place, stmt_place, case_place, braced_place}
use Rattle.js_tree.specs.Plain as tree
use Rattle.js_tree.specs.Plain.{Expr, Stmt, Property, PropertyKey, ConciseBody, ForInit, ForTarget, TemplatePart, Function, FunctionBody, Param, Declarator, Case, Catch, MaybeExpr, MaybeStmt, Exprs, TemplateParts, Properties, Params, Stmts, Declarators, Cases, File}

-- a mark, and the place of what it enters: none, where an arm is missing
pub record PlacedMark : Type 0 where
  pub mark : Mark
  pub place : Option Loc

abbrev pub placed : Mark → Option Loc → PlacedMark
placed mark place = record { mark = mark; place = place }

-- what stands nowhere is entered by no mark
abbrev pub with_place : Option Loc → List Loc → List Loc
with_place None places = places
with_place (Some loc) places = loc ∷ places

-- the places of the statements that begin here: of those that are labelled, from the outermost label on, and of the one under them
abbrev pub places_of : Stmt → List Loc
places_of (tree.Labelled loc _ x) = with_place loc (places_of x)
places_of (tree.EnteredStmt _ x) = places_of x
places_of x = with_place (stmt_place x) []

-- before a statement, a statement's mark enters the first of them that is left, and a branch's mark the arm that is here
abbrev pub place_by : ConstructKind → Option Loc → List Loc → Option Loc
place_by construct_kind.Statement arm [] = None
place_by construct_kind.Statement arm (loc ∷ places) = Some loc
place_by _ arm places = arm

abbrev pub places_after : ConstructKind → List Loc → List Loc
places_after construct_kind.Statement [] = []
places_after construct_kind.Statement (loc ∷ places) = places
places_after _ places = places

abbrev mutual
  pub entered_expr : Expr → List PlacedMark
  entered_expr (tree.IdentifierReference _ _) = []
  entered_expr (tree.This _) = []
  entered_expr (tree.NullLiteral _) = []
  entered_expr (tree.BooleanLiteral _ _) = []
  entered_expr (tree.NumericLiteral _ _) = []
  entered_expr (tree.StringLiteral _ _) = []
  entered_expr (tree.ArrayLiteral _ es) = entered_exprs es
  entered_expr (tree.ObjectLiteral _ properties) = entered_properties properties
  entered_expr (tree.FunctionExpression _ _ function) = entered_function function
  entered_expr (tree.ArrowFunction _ _ params body) = entered_params params ++ entered_concise_body body
  entered_expr (tree.RegularExpressionLiteral _ _ _) = []
  entered_expr (tree.TemplateLiteral _ _ parts) = entered_template_parts parts
  entered_expr (tree.Parenthesized _ e) = entered_expr e
  entered_expr (tree.NamedMember _ e _) = entered_expr e
  entered_expr (tree.ComputedMember _ e f) = entered_expr e ++ entered_expr f
  entered_expr (tree.New _ e es) = entered_expr e ++ entered_exprs es
  entered_expr (tree.Call _ e es) = entered_expr e ++ entered_exprs es
  entered_expr (tree.PostfixUpdate _ _ e) = entered_expr e
  entered_expr (tree.PrefixUpdate _ _ e) = entered_expr e
  entered_expr (tree.Unary _ _ e) = entered_expr e
  entered_expr (tree.Binary _ _ e f) = entered_expr e ++ entered_expr f
  entered_expr (tree.Logical _ _ e f) = entered_expr e ++ entered_expr f
  entered_expr (tree.Conditional _ e f g) = entered_expr e ++ entered_expr f ++ entered_expr g
  entered_expr (tree.Assignment _ _ e f) = entered_expr e ++ entered_expr f
  entered_expr (tree.Comma _ e f) = entered_expr e ++ entered_expr f
  entered_expr (tree.Entered mark e) = placed mark (bare_place e) ∷ entered_expr e

  -- a statement, by the place of the branch's path that leads here, and the places of those that the marks before it still enter
  pub entered_stmt : Option Loc → List Loc → Stmt → List PlacedMark
  entered_stmt arm places (tree.Directive _ _) = []
  entered_stmt arm places (tree.Block _ xs) = entered_stmts xs
  entered_stmt arm places (tree.VariableDeclaration _ _ declarators) = entered_declarators declarators
  entered_stmt arm places (tree.Empty _) = []
  entered_stmt arm places (tree.Expression _ e) = entered_expr e
  entered_stmt arm places (tree.If loc e x y) = entered_expr e ++ entered_stmt loc (places_of x) x ++ entered_stmt_if y
  entered_stmt arm places (tree.DoWhile _ x e) = entered_stmt None (places_of x) x ++ entered_expr e
  entered_stmt arm places (tree.While _ e x) = entered_expr e ++ entered_stmt None (places_of x) x
  entered_stmt arm places (tree.For _ init e f x) = entered_for_init init ++ entered_expr_if e ++ entered_expr_if f ++ entered_stmt None (places_of x) x
  entered_stmt arm places (tree.ForIn _ target e x) = entered_for_target target ++ entered_expr e ++ entered_stmt None (places_of x) x
  entered_stmt arm places (tree.ForOf _ target e x) = entered_for_target target ++ entered_expr e ++ entered_stmt None (places_of x) x
  entered_stmt arm places (tree.Continue _ _) = []
  entered_stmt arm places (tree.Break _ _) = []
  entered_stmt arm places (tree.Return _ e) = entered_expr_if e
  entered_stmt arm places (tree.Switch _ e cases) = entered_expr e ++ entered_cases cases
  entered_stmt arm places (tree.Labelled _ _ x) = entered_stmt None (places_of x) x
  entered_stmt arm places (tree.Throw _ e) = entered_expr e
  entered_stmt arm places (tree.TryCatch _ xs catch) = entered_stmts xs ++ entered_catch catch
  entered_stmt arm places (tree.TryFinally _ xs ys) = entered_stmts xs ++ entered_stmts ys
  entered_stmt arm places (tree.TryCatchFinally _ xs catch ys) = entered_stmts xs ++ entered_catch catch ++ entered_stmts ys
  entered_stmt arm places (tree.Debugger _) = []
  entered_stmt arm places (tree.FunctionDeclaration _ _ function) = entered_function function
  entered_stmt arm places (tree.EnteredStmt mark x) = placed mark (place_by mark.kind arm places) ∷ entered_stmt arm (places_after mark.kind places) x

  pub entered_property : Property → List PlacedMark
  entered_property (tree.Shorthand _ _) = []
  entered_property (tree.KeyValue _ key e) = entered_property_key key ++ entered_expr e
  entered_property (tree.Method _ key function) = entered_property_key key ++ entered_function function

  pub entered_property_key : PropertyKey → List PlacedMark
  entered_property_key (tree.NameKey _) = []
  entered_property_key (tree.StringKey _) = []
  entered_property_key (tree.NumberKey _) = []
  entered_property_key (tree.ComputedKey e) = entered_expr e

  pub entered_concise_body : ConciseBody → List PlacedMark
  entered_concise_body (tree.ExpressionBody e) = entered_expr e
  entered_concise_body (tree.BlockBody body) = entered_function_body body

  pub entered_for_init : ForInit → List PlacedMark
  entered_for_init tree.NoInit = []
  entered_for_init (tree.InitDeclaration _ declarators) = entered_declarators declarators
  entered_for_init (tree.InitExpression e) = entered_expr e

  pub entered_for_target : ForTarget → List PlacedMark
  entered_for_target (tree.TargetDeclaration _ _) = []
  entered_for_target (tree.TargetExpression e) = entered_expr e

  pub entered_template_part : TemplatePart → List PlacedMark
  entered_template_part (tree.MakeTemplatePart e _) = entered_expr e

  pub entered_function : Function → List PlacedMark
  entered_function (tree.MakeFunction _ params body) = entered_params params ++ entered_function_body body

  pub entered_function_body : FunctionBody → List PlacedMark
  entered_function_body (tree.MakeFunctionBody _ xs) = entered_stmts xs
  entered_function_body (tree.EnteredBody mark body) = placed mark (braced_place body) ∷ entered_function_body body

  pub entered_param : Param → List PlacedMark
  entered_param (tree.MakeParam _ _ e) = entered_expr_if e

  pub entered_declarator : Declarator → List PlacedMark
  entered_declarator (tree.MakeDeclarator _ _ e) = entered_expr_if e

  pub entered_case : Case → List PlacedMark
  entered_case (tree.MakeCase _ e xs) = entered_expr_if e ++ entered_stmts xs
  entered_case (tree.EnteredCase mark x) = placed mark (case_place x) ∷ entered_case x

  pub entered_catch : Catch → List PlacedMark
  entered_catch (tree.MakeCatch _ xs) = entered_stmts xs

  pub entered_expr_if : MaybeExpr → List PlacedMark
  entered_expr_if tree.none_expr = []
  entered_expr_if (tree.some_expr e) = entered_expr e

  pub entered_stmt_if : MaybeStmt → List PlacedMark
  entered_stmt_if tree.none_stmt = []
  entered_stmt_if (tree.some_stmt x) = entered_stmt (stmt_place x) (places_of x) x
  entered_stmt_if (tree.entered_none mark) = placed mark None ∷ []

  pub entered_exprs : Exprs → List PlacedMark
  entered_exprs tree.no_expr = []
  entered_exprs (tree.more_expr x xs) = entered_expr x ++ entered_exprs xs

  pub entered_template_parts : TemplateParts → List PlacedMark
  entered_template_parts tree.no_template_part = []
  entered_template_parts (tree.more_template_part x xs) = entered_template_part x ++ entered_template_parts xs

  pub entered_properties : Properties → List PlacedMark
  entered_properties tree.no_property = []
  entered_properties (tree.more_property x xs) = entered_property x ++ entered_properties xs

  pub entered_params : Params → List PlacedMark
  entered_params tree.no_param = []
  entered_params (tree.more_param x xs) = entered_param x ++ entered_params xs

  pub entered_stmts : Stmts → List PlacedMark
  entered_stmts tree.no_stmt = []
  entered_stmts (tree.more_stmt x xs) = entered_stmt None (places_of x) x ++ entered_stmts xs

  pub entered_declarators : Declarators → List PlacedMark
  entered_declarators tree.no_declarator = []
  entered_declarators (tree.more_declarator x xs) = entered_declarator x ++ entered_declarators xs

  pub entered_cases : Cases → List PlacedMark
  entered_cases tree.no_case = []
  entered_cases (tree.more_case x xs) = entered_case x ++ entered_cases xs

abbrev pub entered_file : File → List PlacedMark
entered_file (tree.MakeFile body comments) = entered_stmts body

-- how many of a list are such
abbrev pub how_many : {T : Type 0} → (T → Bool) → List T → ℕ
how_many such [] = 0
how_many such (x ∷ xs) = one_if (such x) + how_many such xs

-- how often a mark stands in a list
abbrev pub times_placed : Mark → List PlacedMark → ℕ
times_placed m ns = how_many (λ n. is_mark m n.mark) ns
