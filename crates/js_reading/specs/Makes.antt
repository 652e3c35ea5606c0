-- What each production makes of its parts: an expression with its level, or a statement. Where the parts are none that it
-- may have, as a target that is none, nothing.
use Rattle.std.specs.Prelude.{ℕ, suc, Bool, true, false, not, ◌&&◌, ◌||◌, List, [], ◌∷◌, Option, Some, None, codes, if◌then◌else◌}
use Rattle.std.specs.Str.{bytes_eq}
use Rattle.js_terms.specs.declared.place.Loc.{Loc}
use Rattle.js_terms.specs.declared.words.Identifier.{Identifier}
use Rattle.js_terms.specs.declared.words.Spelled.{Spelled}
use Rattle.js_terms.specs.declared.operators.AssignmentOperator.TheVariants as assign
use Rattle.js_terms.specs.declared.operators.LogicalOperator.TheVariants as logic
use Rattle.js_terms.specs.declared.operators.BinaryOperator.TheVariants as b
use Rattle.js_terms.specs.declared.operators.VariableKind.{VariableKind}
use Rattle.js_terms.specs.declared.operators.VariableKind.TheVariants as variable
use Rattle.js_tree.specs.Plain.{Expr, Exprs, no_expr, more_expr, Stmt, Stmts, no_stmt, more_stmt, MaybeExpr, none_expr, some_expr, none_stmt, some_stmt, none_pattern, some_pattern}
use Rattle.js_tree.specs.Plain as tree
use Rattle.js_reading.specs.Level.{any, assignment, binary_level, logical_level}
use Rattle.js_reading.specs.Spans.{through}
use Rattle.js_reading.specs.Kinds.{is_keyword}
use Rattle.js_reading.specs.Slots.{Piece, AnExpr, AStmt, TheStmts, TheExprs, AWord, AKey, AText, APlace, AKind, Missing, IsComputed, IsMethod, IsIn, IsOf, Form}
use Rattle.js_reading.specs.Slots as slot
use Rattle.js_reading.specs.Productions.{primary, member, call, bare, member_level}

-- ---- tests on trees

-- what may be assigned to (13.15.1): a name or a member, without parentheses
abbrev pub is_target : Expr → Bool
is_target (tree.IdentifierReference l w) = true
is_target (tree.NamedMember l o w) = true
is_target (tree.ComputedMember l o k) = true
is_target e = false

-- the target of `for` with `of` isn't the bare name `async` (14.7.5)
abbrev pub is_async : Expr → Bool
is_async (tree.IdentifierReference l w) = bytes_eq w (codes "async")
is_async e = false

-- a declaration, which stands in a list of statements only (14)
abbrev pub is_declaration : Stmt → Bool
is_declaration (tree.FunctionDeclaration l n f) = true
is_declaration (tree.VariableDeclaration l variable.Let ds) = true
is_declaration (tree.VariableDeclaration l variable.Const ds) = true
is_declaration s = false

-- `&&` or `||` without parentheses, with which `??` isn't mixed (13.13)
abbrev pub is_and_or : Expr → Bool
is_and_or (tree.Logical l logic.And x y) = true
is_and_or (tree.Logical l logic.Or x y) = true
is_and_or e = false

-- a bare `in`: one that stands in no brackets and not in the middle of a conditional
abbrev pub bare_in : Expr → Bool
bare_in (tree.Binary l b.In x y) = true
bare_in (tree.Binary l o x y) = bare_in x || bare_in y
bare_in (tree.Logical l o x y) = bare_in x || bare_in y
bare_in (tree.Conditional l c x y) = bare_in c || bare_in y
bare_in (tree.Assignment l o x y) = bare_in y
bare_in (tree.Comma l x y) = bare_in x || bare_in y
bare_in (tree.Unary l o x) = bare_in x
bare_in (tree.PrefixUpdate l o x) = bare_in x
bare_in (tree.ArrowFunction l n ps (tree.ExpressionBody x)) = bare_in x
bare_in e = false

-- how tightly the operand binds with which an expression ends: what asks for more never goes on with it
abbrev pub last_level : Expr → ℕ
last_level (tree.Binary l o x y) = last_level y
last_level (tree.Logical l o x y) = last_level y
last_level (tree.Conditional l c x y) = last_level y
last_level (tree.Assignment l o x y) = last_level y
last_level (tree.Comma l x y) = last_level y
last_level (tree.Unary l o x) = last_level x
last_level (tree.PrefixUpdate l o x) = last_level x
last_level (tree.PostfixUpdate l o x) = 17
last_level (tree.ArrowFunction l n ps (tree.ExpressionBody x)) = last_level x
last_level (tree.ArrowFunction l n ps (tree.BlockBody x)) = assignment
last_level e = primary

-- ---- lists

-- the strings at the start of a file or a body are its directives (11.2.1)
abbrev pub with_directives : Stmts → Stmts
with_directives (more_stmt (tree.Expression l (tree.StringLiteral m s)) ss) = more_stmt (tree.Directive l s) (with_directives ss)
with_directives ss = ss

-- what stands in parentheses, a comma between two (13.16)
abbrev pub comma_of : (Expr → Option Loc) → Expr → Exprs → Expr
comma_of loc e no_expr = e
comma_of loc e (more_expr x xs) = comma_of loc (tree.Comma (both (loc e) (loc x)) e x) xs
  where
    both : Option Loc → Option Loc → Option Loc
    both (Some l) (Some m) = Some (through l m)
    both l m = None

-- the place that a tree has of its own
abbrev pub loc_of : Expr → Option Loc
loc_of (tree.IdentifierReference l w) = l
loc_of (tree.This l) = l
loc_of (tree.NullLiteral l) = l
loc_of (tree.BooleanLiteral l x) = l
loc_of (tree.NumericLiteral l x) = l
loc_of (tree.StringLiteral l x) = l
loc_of (tree.ArrayLiteral l x) = l
loc_of (tree.ObjectLiteral l x) = l
loc_of (tree.FunctionExpression l n f) = l
loc_of (tree.ArrowFunction l n ps x) = l
loc_of (tree.RegularExpressionLiteral l x f) = l
loc_of (tree.TemplateLiteral l x ps) = l
loc_of (tree.Parenthesized l x) = l
loc_of (tree.NamedMember l x w) = l
loc_of (tree.ComputedMember l x y) = l
loc_of (tree.New l x xs) = l
loc_of (tree.Call l x xs) = l
loc_of (tree.PostfixUpdate l o x) = l
loc_of (tree.PrefixUpdate l o x) = l
loc_of (tree.Unary l o x) = l
loc_of (tree.Binary l o x y) = l
loc_of (tree.Logical l o x y) = l
loc_of (tree.Conditional l c x y) = l
loc_of (tree.Assignment l o x y) = l
loc_of (tree.Comma l x y) = l
loc_of (tree.Entered m x) = loc_of x

-- ---- parameters and functions

abbrev pub bound : List ℕ → Loc → tree.Pattern
bound w l = tree.BindingIdentifier (Some l) w

abbrev pub identifier : List ℕ → Loc → Identifier
identifier w l = record { name = w; loc = Some l }

abbrev pub with_param : tree.Param → Option tree.Function → Option tree.Function
with_param p None = None
with_param p (Some (tree.MakeFunction n xs body)) = Some (tree.MakeFunction n (tree.more_param p xs) body)

abbrev pub function_of : List Piece → Option tree.Function
function_of (APlace l ∷ TheStmts ss ∷ APlace m ∷ []) = Some (tree.MakeFunction 0 tree.no_param (tree.MakeFunctionBody (Some (through l m)) (with_directives ss)))
function_of (AWord w l ∷ Missing ∷ ps) = with_param (tree.MakeParam (Some l) (bound w l) none_expr) (function_of ps)
function_of (AWord w l ∷ AnExpr i e ∷ APlace m ∷ ps) = with_param (tree.MakeParam (Some (through l m)) (bound w l) (some_expr e)) (function_of ps)
function_of ps = None

-- what was read as items in parentheses, as parameters (15.3): names, each perhaps with a default
abbrev pub param_of : Expr → Option tree.Param
param_of (tree.IdentifierReference l w) = Some (tree.MakeParam l (tree.BindingIdentifier l w) none_expr)
param_of (tree.Assignment l assign.Assign (tree.IdentifierReference m w) e) = Some (tree.MakeParam l (tree.BindingIdentifier m w) (some_expr e))
param_of e = None

abbrev pub one_more_param : Option tree.Param → Option tree.Params → Option tree.Params
one_more_param (Some p) (Some ps) = Some (tree.more_param p ps)
one_more_param p ps = None

abbrev pub params_of : Exprs → Option tree.Params
params_of no_expr = Some tree.no_param
params_of (more_expr e es) = one_more_param (param_of e) (params_of es)

abbrev pub concise : List Piece → Option tree.ConciseBody
concise (AnExpr i e ∷ []) = Some (tree.ExpressionBody e)
concise (APlace l ∷ TheStmts ss ∷ APlace m ∷ []) = Some (tree.BlockBody (tree.MakeFunctionBody (Some (through l m)) (with_directives ss)))
concise ps = None

abbrev pub arrow_of : Loc → Option tree.Params → Option tree.ConciseBody → Option Piece
arrow_of l (Some xs) (Some body) = Some (AnExpr assignment (tree.ArrowFunction (Some l) 0 xs body))
arrow_of l xs body = None

abbrev pub expression_of : (tree.Function → Expr) → Option tree.Function → Option Piece
expression_of make None = None
expression_of make (Some f) = Some (AnExpr primary (make f))

abbrev pub declaration_of : (tree.Function → Stmt) → Option tree.Function → Option Piece
declaration_of make None = None
declaration_of make (Some f) = Some (AStmt (make f))

-- ---- declarators

-- declarators, and the pieces after them; whether each must have an initializer
abbrev pub one_more_declarator : tree.Declarator → Option (tree.Declarators × List Piece) → Option (tree.Declarators × List Piece)
one_more_declarator d None = None
one_more_declarator d (Some found) = Some (tree.more_declarator d found.0, found.1)

abbrev pub declarators_of : Bool → List Piece → Option (tree.Declarators × List Piece)
declarators_of true (AWord w l ∷ Missing ∷ ps) = None
declarators_of false (AWord w l ∷ Missing ∷ ps) = one_more_declarator (tree.MakeDeclarator (Some l) (bound w l) none_expr) (declarators_of false ps)
declarators_of strict (AWord w l ∷ AnExpr i e ∷ APlace m ∷ ps) = one_more_declarator (tree.MakeDeclarator (Some (through l m)) (bound w l) (some_expr e)) (declarators_of strict ps)
declarators_of strict ps = Some (tree.no_declarator, ps)

abbrev pub is_const : VariableKind → Bool
is_const variable.Const = true
is_const k = false

abbrev pub variables_of : Loc → VariableKind → Option (tree.Declarators × List Piece) → Option Piece
variables_of l k (Some (ds, [])) = Some (AStmt (tree.VariableDeclaration (Some l) k ds))
variables_of l k found = None

-- ---- the heads of `for`

abbrev pub maybe : Piece → Option MaybeExpr
maybe Missing = Some none_expr
maybe (AnExpr i e) = Some (some_expr e)
maybe p = None

abbrev pub for_with : Loc → tree.ForInit → Stmt → Option MaybeExpr → Option MaybeExpr → Option Piece
for_with l x s (Some y) (Some z) = Some (AStmt (tree.For (Some l) x y z s))
for_with l x s y z = None

abbrev pub for_of : Loc → tree.ForInit → List Piece → Option Piece
for_of l x (p ∷ q ∷ AStmt s ∷ []) = for_with l x s (maybe p) (maybe q)
for_of l x ps = None

abbrev pub for_declared : Loc → VariableKind → Option (tree.Declarators × List Piece) → Option Piece
for_declared l k None = None
for_declared l k (Some found) = for_of l (tree.InitDeclaration k found.0) found.1

abbrev pub for_parts : Loc → List Piece → Option Piece
for_parts l (AKind k ∷ AWord w m ∷ IsIn ∷ AnExpr i e ∷ AStmt s ∷ []) = Some (AStmt (tree.ForIn (Some l) (tree.TargetDeclaration k (bound w m)) e s))
for_parts l (AKind k ∷ AWord w m ∷ IsOf ∷ AnExpr i e ∷ AStmt s ∷ []) = Some (AStmt (tree.ForOf (Some l) (tree.TargetDeclaration k (bound w m)) e s))
for_parts l (AKind k ∷ ps) = for_declared l k (declarators_of (is_const k) ps)
for_parts l (AnExpr j x ∷ IsIn ∷ AnExpr i e ∷ AStmt s ∷ []) = if is_target x then Some (AStmt (tree.ForIn (Some l) (tree.TargetExpression x) e s)) else None
for_parts l (AnExpr j x ∷ IsOf ∷ AnExpr i e ∷ AStmt s ∷ []) = if is_target x && not (is_async x) then Some (AStmt (tree.ForOf (Some l) (tree.TargetExpression x) e s)) else None
for_parts l (AnExpr j x ∷ ps) = for_of l (tree.InitExpression x) ps
for_parts l (Missing ∷ ps) = for_of l tree.NoInit ps
for_parts l ps = None

-- ---- properties, templates, clauses

-- `__proto__` with `:` is no form of the language
abbrev pub is_proto : tree.PropertyKey → Bool
is_proto (tree.NameKey w) = bytes_eq w (codes "__proto__")
is_proto (tree.StringKey s) = bytes_eq s.units (codes "__proto__")
is_proto k = false

abbrev pub one_more_property : tree.Property → Option tree.Properties → Option tree.Properties
one_more_property p None = None
one_more_property p (Some ps) = Some (tree.more_property p ps)

-- one more parameter of a method
abbrev pub method_param : tree.Param → Option (tree.Function × Loc × List Piece) → Option (tree.Function × Loc × List Piece)
method_param p None = None
method_param p (Some (tree.MakeFunction n xs body, m, rest)) = Some (tree.MakeFunction n (tree.more_param p xs) body, m, rest)

-- the pieces of a method up to its `}`, and those after it
abbrev pub method_of : List Piece → Option (tree.Function × Loc × List Piece)
method_of (APlace l ∷ TheStmts ss ∷ APlace m ∷ ps) = Some (tree.MakeFunction 0 tree.no_param (tree.MakeFunctionBody (Some (through l m)) (with_directives ss)), m, ps)
method_of (AWord w l ∷ Missing ∷ ps) = method_param (tree.MakeParam (Some l) (bound w l) none_expr) (method_of ps)
method_of (AWord w l ∷ AnExpr i e ∷ APlace m ∷ ps) = method_param (tree.MakeParam (Some (through l m)) (bound w l) (some_expr e)) (method_of ps)
method_of ps = None

-- a property after its key, and the pieces after it
abbrev pub method_with : tree.PropertyKey → Loc → Option (tree.Function × Loc × List Piece) → Option (tree.Property × List Piece)
method_with k l None = None
method_with k l (Some (f, m, ps)) = Some (tree.Method (Some (through l m)) k f, ps)

abbrev pub after_key : tree.PropertyKey → Loc → List Piece → Option (tree.Property × List Piece)
after_key (tree.NameKey w) l (Missing ∷ ps) = if is_keyword w then None else Some (tree.Shorthand (Some l) w, ps)
after_key k l (AnExpr i v ∷ APlace m ∷ ps) = if is_proto k then None else Some (tree.KeyValue (Some (through l m)) k v, ps)
after_key k l (IsMethod ∷ ps) = method_with k l (method_of ps)
after_key k l ps = None

abbrev pub property_of : List Piece → Option (tree.Property × List Piece)
property_of (IsComputed ∷ APlace l ∷ AnExpr i e ∷ ps) = after_key (tree.ComputedKey e) l ps
property_of (AKey k l ∷ ps) = after_key k l ps
property_of ps = None

-- properties, no more than this many
abbrev pub then_properties : Option (tree.Property × List Piece) → (List Piece → Option tree.Properties) → Option tree.Properties
then_properties None more = None
then_properties (Some (p, ps)) more = one_more_property p (more ps)

abbrev pub properties_of : ℕ → List Piece → Option tree.Properties
properties_of n [] = Some tree.no_property
properties_of (suc n) (p ∷ ps) = then_properties (property_of (p ∷ ps)) (λ rest. properties_of n rest)
properties_of n ps = None

abbrev pub object_of : Loc → Option tree.Properties → Option Piece
object_of l None = None
object_of l (Some ps) = Some (AnExpr primary (tree.ObjectLiteral (Some l) ps))

abbrev pub one_more_part : tree.TemplatePart → Option tree.TemplateParts → Option tree.TemplateParts
one_more_part p None = None
one_more_part p (Some xs) = Some (tree.more_template_part p xs)

abbrev pub template_parts : List Piece → Option tree.TemplateParts
template_parts [] = Some tree.no_template_part
template_parts (AnExpr i e ∷ AText s ∷ ps) = one_more_part (tree.MakeTemplatePart e s) (template_parts ps)
template_parts ps = None

abbrev pub template_of : Loc → Spelled → Option tree.TemplateParts → Option Piece
template_of l s None = None
template_of l s (Some xs) = Some (AnExpr primary (tree.TemplateLiteral (Some l) s xs))

-- the clauses of a `switch`; at most one is `default` (14.12)
abbrev pub one_more_case : tree.Case → Option tree.Cases → Option tree.Cases
one_more_case c None = None
one_more_case c (Some cs) = Some (tree.more_case c cs)

abbrev pub cases_of : Bool → List Piece → Option tree.Cases
cases_of defaulted [] = Some tree.no_case
cases_of defaulted (APlace l ∷ AnExpr i e ∷ TheStmts ss ∷ APlace m ∷ ps) = one_more_case (tree.MakeCase (Some (through l m)) (some_expr e) ss) (cases_of defaulted ps)
cases_of false (APlace l ∷ TheStmts ss ∷ APlace m ∷ ps) = one_more_case (tree.MakeCase (Some (through l m)) none_expr ss) (cases_of true ps)
cases_of defaulted ps = None

abbrev pub switch_of : Loc → Expr → Option tree.Cases → Option Piece
switch_of l e None = None
switch_of l e (Some cs) = Some (AStmt (tree.Switch (Some l) e cs))

abbrev pub length_of : List Piece → ℕ
length_of [] = 0
length_of (p ∷ ps) = suc (length_of ps)

-- ---- the productions

abbrev pub build : Form → Loc → List Piece → Option Piece
build slot.Parentheses l (TheExprs false (more_expr e es) ∷ Missing ∷ []) = Some (AnExpr member (tree.Parenthesized (Some l) (comma_of loc_of e es)))
build slot.Parentheses l (TheExprs trailing xs ∷ p ∷ ps) = arrow_of l (params_of xs) (concise (p ∷ ps))
build slot.ArrayLiteral l (TheExprs trailing xs ∷ []) = Some (AnExpr primary (tree.ArrayLiteral (Some l) xs))
build slot.ObjectLiteral l ps = object_of l (properties_of (length_of ps) ps)
build slot.Template l (AText s ∷ ps) = template_of l s (template_parts ps)
build slot.FunctionExpression l (Missing ∷ ps) = expression_of (λ f. tree.FunctionExpression (Some l) None f) (function_of ps)
build slot.FunctionExpression l (AWord w m ∷ ps) = expression_of (λ f. tree.FunctionExpression (Some l) (Some (identifier w m)) f) (function_of ps)
build slot.New l (AnExpr i c ∷ TheExprs trailing xs ∷ []) = Some (AnExpr member (tree.New (Some l) c xs))
build slot.New l (AnExpr i c ∷ Missing ∷ []) = Some (AnExpr bare (tree.New (Some l) c no_expr))
build slot.Call l (AnExpr i f ∷ TheExprs trailing xs ∷ []) = Some (AnExpr call (tree.Call (Some l) f xs))
build slot.Dot l (AnExpr i o ∷ AWord w m ∷ []) = Some (AnExpr (member_level i) (tree.NamedMember (Some l) o w))
build slot.Member l (AnExpr i o ∷ AnExpr j k ∷ []) = Some (AnExpr (member_level i) (tree.ComputedMember (Some l) o k))
build (slot.Postfix o) l (AnExpr i e ∷ []) = if is_target e then Some (AnExpr 17 (tree.PostfixUpdate (Some l) o e)) else None
build (slot.PrefixUpdate o) l (AnExpr i e ∷ []) = if is_target e then Some (AnExpr 17 (tree.PrefixUpdate (Some l) o e)) else None
build (slot.Unary o) l (AnExpr i e ∷ []) = Some (AnExpr 16 (tree.Unary (Some l) o e))
build (slot.Binary o) l (AnExpr i x ∷ AnExpr j y ∷ []) = Some (AnExpr (binary_level o) (tree.Binary (Some l) o x y))
build (slot.Logical logic.Coalesce) l (AnExpr i x ∷ AnExpr j y ∷ []) = if is_and_or x then None else Some (AnExpr 4 (tree.Logical (Some l) logic.Coalesce x y))
build (slot.Logical o) l (AnExpr i x ∷ AnExpr j y ∷ []) = Some (AnExpr (logical_level o) (tree.Logical (Some l) o x y))
build slot.Conditional l (AnExpr h c ∷ AnExpr i x ∷ AnExpr j y ∷ []) = Some (AnExpr 3 (tree.Conditional (Some l) c x y))
build (slot.Assignment o) l (AnExpr i x ∷ AnExpr j v ∷ []) = if is_target x then Some (AnExpr assignment (tree.Assignment (Some l) o x v)) else None
build slot.ArrowOfName l (AnExpr i (tree.IdentifierReference m w) ∷ ps) = arrow_of l (params_of (more_expr (tree.IdentifierReference m w) no_expr)) (concise ps)
build slot.Comma l (AnExpr i x ∷ AnExpr j y ∷ []) = Some (AnExpr any (tree.Comma (Some l) x y))
build slot.Expression l (AnExpr i e ∷ []) = Some (AStmt (tree.Expression (Some l) e))
build slot.Labelled l (AnExpr i (tree.IdentifierReference m w) ∷ AStmt s ∷ []) = Some (AStmt (tree.Labelled (Some l) (record { name = w; loc = m }) s))
build slot.Block l (TheStmts ss ∷ []) = Some (AStmt (tree.Block (Some l) ss))
build (slot.Variables k) l ps = variables_of l k (declarators_of (is_const k) ps)
build slot.FunctionDeclaration l (AWord w m ∷ ps) = declaration_of (λ f. tree.FunctionDeclaration (Some l) (identifier w m) f) (function_of ps)
build slot.Empty l [] = Some (AStmt (tree.Empty (Some l)))
build slot.If l (AnExpr i c ∷ AStmt s ∷ Missing ∷ []) = Some (AStmt (tree.If (Some l) c s none_stmt))
build slot.If l (AnExpr i c ∷ AStmt s ∷ AStmt r ∷ []) = Some (AStmt (tree.If (Some l) c s (some_stmt r)))
build slot.For l ps = for_parts l ps
build slot.While l (AnExpr i c ∷ AStmt s ∷ []) = Some (AStmt (tree.While (Some l) c s))
build slot.DoWhile l (AStmt s ∷ AnExpr i c ∷ []) = Some (AStmt (tree.DoWhile (Some l) s c))
build slot.Continue l (Missing ∷ []) = Some (AStmt (tree.Continue (Some l) None))
build slot.Continue l (AWord w m ∷ []) = Some (AStmt (tree.Continue (Some l) (Some (identifier w m))))
build slot.Break l (Missing ∷ []) = Some (AStmt (tree.Break (Some l) None))
build slot.Break l (AWord w m ∷ []) = Some (AStmt (tree.Break (Some l) (Some (identifier w m))))
build slot.Return l (Missing ∷ []) = Some (AStmt (tree.Return (Some l) none_expr))
build slot.Return l (AnExpr i e ∷ []) = Some (AStmt (tree.Return (Some l) (some_expr e)))
build slot.Switch l (AnExpr i e ∷ ps) = switch_of l e (cases_of false ps)
build slot.Throw l (AnExpr i e ∷ []) = Some (AStmt (tree.Throw (Some l) e))
build slot.Try l (TheStmts b ∷ TheStmts f ∷ []) = Some (AStmt (tree.TryFinally (Some l) b f))
build slot.Try l (TheStmts b ∷ Missing ∷ TheStmts c ∷ Missing ∷ []) = Some (AStmt (tree.TryCatch (Some l) b (tree.MakeCatch none_pattern c)))
build slot.Try l (TheStmts b ∷ AWord w m ∷ TheStmts c ∷ Missing ∷ []) = Some (AStmt (tree.TryCatch (Some l) b (tree.MakeCatch (some_pattern (bound w m)) c)))
build slot.Try l (TheStmts b ∷ Missing ∷ TheStmts c ∷ TheStmts f ∷ []) = Some (AStmt (tree.TryCatchFinally (Some l) b (tree.MakeCatch none_pattern c) f))
build slot.Try l (TheStmts b ∷ AWord w m ∷ TheStmts c ∷ TheStmts f ∷ []) = Some (AStmt (tree.TryCatchFinally (Some l) b (tree.MakeCatch (some_pattern (bound w m)) c) f))
build slot.Debugger l [] = Some (AStmt (tree.Debugger (Some l)))
build f l ps = None
