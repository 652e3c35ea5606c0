-- Parameters and bodies, read one by one from the front.
use Rattle.std.proofs.Common.{◌≡◌, ℕ, max, List, [], ◌∷◌, Option, Some, None, refl, ap, ◌∙◌, arith}
use Rattle.js_terms.specs.declared.place.Loc.{Loc}
use Rattle.js_tree.specs.Plain.{Expr, MaybeExpr, none_expr, some_expr, Param, Params, no_param, more_param, push_params}
use Rattle.js_tree.specs.Plain as tree
use Rattle.js_tree.specs.Height.{height_param, height_params}
use Rattle.js_reading.specs.Slots.{Piece, AnExpr, AWord, APlace, TheStmts, Missing}
use Rattle.js_reading.specs.Spans.{through}
use Rattle.js_reading.specs.Makes.{function_of, maybe, method_of, method_param, with_directives, with_param}
use Rattle.js_build.specs.Callables.{braces_of, initializer_of, param_with, prepend}
use Rattle.js_build.specs.DeclaratorPieces.{cons_if}
use Rattle.js_build.specs.Fors.{maybe_of}
use Rattle.js_build.specs.Objects.{first_place}
use Rattle.js_build.specs.Shapes.{first_stmts, if_over, none_left}
use Rattle.js_build.specs.View.{plain_piece}
use Rattle.js_build.specs.declared.piece.Piece as code

pub max_push_params : (xs : Params) (a : Param) → height_params (push_params xs a) ≡ max (height_param a) (height_params xs)
max_push_params no_param a = omega arith
max_push_params (more_param x xs) a = let e = max_push_params xs a in omega arith

pub prepend_push : (ps : Params) (p : Param) (o : Option (tree.Function × Loc × List Piece)) → prepend (push_params ps p) o ≡ prepend ps (method_param p o)
prepend_push no_param p o = refl
prepend_push (more_param q ps) p o = ap (method_param q) (prepend_push ps p o)

pub prepend_none : (ps : Params) → prepend ps None ≡ None
prepend_none no_param = refl
prepend_none (more_param q ps) = ap (method_param q) (prepend_none ps)

pub prepend_some : (ps : Params) (n : ℕ) (body : tree.FunctionBody) (m : Loc) (rest : List Piece) → prepend ps (Some (tree.MakeFunction n no_param body, m, rest)) ≡ Some (tree.MakeFunction n ps body, m, rest)
prepend_some no_param n body m rest = refl
prepend_some (more_param q ps) n body m rest = ap (method_param q) (prepend_some ps n body m rest)

-- ---- what is read by its first part

abbrev pub closed : tree.Stmts → Option (Loc × List Piece) → Option ((tree.Stmts × Loc) × List Piece)
closed ss None = None
closed ss (Some x) = Some ((ss, x.0), x.1)

abbrev pub braces_after : Option (tree.Stmts × List Piece) → Option ((tree.Stmts × Loc) × List Piece)
braces_after None = None
braces_after (Some x) = closed x.0 (first_place x.1)

pub braces_first : (ps : List Piece) → braces_of ps ≡ braces_after (first_stmts ps)
braces_first [] = refl
braces_first (TheStmts ss ∷ []) = refl
braces_first (TheStmts ss ∷ APlace m ∷ ps) = refl
braces_first (TheStmts ss ∷ p ∷ ps) = refl
braces_first (p ∷ ps) = refl

abbrev pub with_end : Expr → Option (Loc × List Piece) → Option (Option (Expr × Loc) × List Piece)
with_end e None = None
with_end e (Some x) = Some (Some (e, x.0), x.1)

abbrev pub initializer_after : Option MaybeExpr → List Piece → Option (Option (Expr × Loc) × List Piece)
initializer_after None ps = None
initializer_after (Some none_expr) ps = Some (None, ps)
initializer_after (Some (some_expr e)) ps = with_end e (first_place ps)

initializer_at : (p : Piece) (ps : List Piece) → initializer_of (p ∷ ps) ≡ initializer_after (maybe p) ps
initializer_at Missing ps = refl
initializer_at (AnExpr i e) [] = refl
initializer_at (AnExpr i e) (APlace m ∷ ps) = refl
initializer_at (AnExpr i e) (p ∷ ps) = refl
initializer_at p ps = refl

pub initializer_first : (y : Option code.Piece) (ps : List Piece) → initializer_of (cons_if y ps) ≡ initializer_after (maybe_of y) ps
initializer_first None ps = refl
initializer_first (Some y) ps = initializer_at (plain_piece y) ps

-- a body, which is the last part of a function
abbrev pub after_braces : Loc → Option ((tree.Stmts × Loc) × List Piece) → Option (tree.Function × Loc × List Piece)
after_braces l None = None
after_braces l (Some x) = Some (tree.MakeFunction 0 no_param (tree.MakeFunctionBody (Some (through l x.0.1)) (with_directives x.0.0)), x.0.1, x.1)

pub method_place : (l : Loc) (ps : List Piece) → method_of (APlace l ∷ ps) ≡ after_braces l (braces_of ps)
method_place l [] = refl
method_place l (TheStmts ss ∷ []) = refl
method_place l (TheStmts ss ∷ APlace m ∷ ps) = refl
method_place l (TheStmts ss ∷ p ∷ ps) = refl
method_place l (p ∷ ps) = refl

pub ruleset ending_rules = (prepend_none, prepend_some, method_place)

-- a parameter and what follows
abbrev pub after_word : List ℕ → Loc → Option (Option (Expr × Loc) × List Piece) → Option (tree.Function × Loc × List Piece)
after_word w l None = None
after_word w l (Some x) = method_param (param_with w l x.0) (method_of x.1)

pub method_word : (w : List ℕ) (l : Loc) (ps : List Piece) → method_of (AWord w l ∷ ps) ≡ after_word w l (initializer_of ps)
method_word w l [] = refl
method_word w l (Missing ∷ ps) = refl
method_word w l (AnExpr i e ∷ []) = refl
method_word w l (AnExpr i e ∷ APlace m ∷ ps) = refl
method_word w l (AnExpr i e ∷ p ∷ ps) = refl
method_word w l (p ∷ ps) = refl

pub ruleset callable_rules = (prepend_push, prepend_none, method_word, max_push_params)

-- a function, where nothing follows
abbrev pub ended : Option (tree.Function × Loc × List Piece) → Option tree.Function
ended None = None
ended (Some (f, m, ps)) = if_over (none_left ps) f

ended_param : (p : Param) (o : Option (tree.Function × Loc × List Piece)) → with_param p (ended o) ≡ ended (method_param p o)
ended_param p None = refl
ended_param p (Some (tree.MakeFunction n xs body, m, [])) = refl
ended_param p (Some (tree.MakeFunction n xs body, m, q ∷ qs)) = refl

pub function_whole : (ps : List Piece) → function_of ps ≡ ended (method_of ps)
function_whole (APlace l ∷ TheStmts ss ∷ APlace m ∷ []) = refl
function_whole (APlace l ∷ TheStmts ss ∷ APlace m ∷ p ∷ ps) = refl
function_whole (AWord w l ∷ Missing ∷ ps) = ap (with_param _) (function_whole ps) ∙ ended_param _ (method_of ps)
function_whole (AWord w l ∷ AnExpr i e ∷ APlace m ∷ ps) = ap (with_param _) (function_whole ps) ∙ ended_param _ (method_of ps)
function_whole ps = refl
