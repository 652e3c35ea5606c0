-- The pieces of parameters and bodies, read from the front.
use Rattle.std.specs.Prelude.{ℕ, List, ◌∷◌, Option, Some, None}
use Rattle.js_terms.specs.declared.place.Loc.{Loc}
use Rattle.js_tree.specs.Plain.{Expr}
use Rattle.js_tree.specs.Plain as tree
use Rattle.js_tree.specs.Tree.{plain_concise_body, plain_expr, plain_function, plain_params, plain_stmts}
use Rattle.js_reading.specs.Spans.{through}
use Rattle.js_reading.specs.Slots.{Piece, AnExpr, APlace, Missing, TheStmts}
use Rattle.js_reading.specs.Makes.{bound, method_param}
use Rattle.js_build.specs.declared.operand.Statements.{Statements}
use Rattle.js_build.specs.declared.parts.Initializer.{Initializer}
use Rattle.js_build.specs.declared.parts.Initializer.TheVariants as init
use Rattle.js_build.specs.declared.parts.MadeConcise.{MadeConcise}
use Rattle.js_build.specs.declared.parts.MadeFunction.{MadeFunction}
use Rattle.js_build.specs.declared.parts.MadeParams.{MadeParams}

-- an initializer and its place, or none, and the pieces after it
abbrev pub initializer_of : List Piece → Option (Option (Expr × Loc) × List Piece)
initializer_of (Missing ∷ ps) = Some (None, ps)
initializer_of (AnExpr i e ∷ APlace m ∷ ps) = Some (Some (e, m), ps)
initializer_of ps = None

abbrev pub plain_initializer : Initializer → Option (Expr × Loc)
plain_initializer init.Without = None
plain_initializer (init.With x l) = Some (plain_expr x.tree, l)

abbrev pub initializer_view : Option Initializer → List Piece → Option (Option (Expr × Loc) × List Piece)
initializer_view None ps = None
initializer_view (Some x) ps = Some (plain_initializer x, ps)

abbrev pub param_with : List ℕ → Loc → Option (Expr × Loc) → tree.Param
param_with w l None = tree.MakeParam (Some l) (bound w l) tree.none_expr
param_with w l (Some x) = tree.MakeParam (Some (through l x.1)) (bound w l) (tree.some_expr x.0)

-- parameters before those of a function
abbrev pub prepend : tree.Params → Option (tree.Function × Loc × List Piece) → Option (tree.Function × Loc × List Piece)
prepend tree.no_param o = o
prepend (tree.more_param p ps) o = method_param p (prepend ps o)

abbrev pub callable_view : Option (MadeFunction × Loc) → List Piece → Option (tree.Function × Loc × List Piece)
callable_view None ps = None
callable_view (Some x) ps = Some (plain_function x.0.tree, x.1, ps)

abbrev pub function_view : MadeFunction → tree.Function
function_view f = plain_function f.tree

abbrev pub concise_view : MadeConcise → tree.ConciseBody
concise_view b = plain_concise_body b.tree

abbrev pub params_view : MadeParams → tree.Params
params_view ps = plain_params ps.items

-- statements in braces, after the place of the `{`, and where the `}` stands
abbrev pub braces_of : List Piece → Option ((tree.Stmts × Loc) × List Piece)
braces_of (TheStmts ss ∷ APlace m ∷ ps) = Some ((ss, m), ps)
braces_of ps = None

abbrev pub braces_view : Option (Statements × Loc) → List Piece → Option ((tree.Stmts × Loc) × List Piece)
braces_view None ps = None
braces_view (Some x) ps = Some ((plain_stmts x.0.items, x.1), ps)
