-- Lists that are read from the front: parts of templates, clauses of `switch`, declarators.
use Rattle.std.specs.Prelude.{Bool, true, false, List, ◌∷◌, Option, Some, None}
use Rattle.js_terms.specs.declared.place.Loc.{Loc}
use Rattle.js_tree.specs.Plain.{MaybeExpr, none_expr, some_expr, Stmts}
use Rattle.js_tree.specs.Plain as tree
use Rattle.js_tree.specs.Tree.{plain_case, plain_cases, plain_expr, plain_stmts, plain_template_parts}
use Rattle.js_reading.specs.Slots.{Piece, AnExpr, TheStmts, APlace}
use Rattle.js_reading.specs.Spans.{through}
use Rattle.js_build.specs.declared.lists.MadeCase.{MadeCase}
use Rattle.js_build.specs.declared.lists.MadeCases.{MadeCases}
use Rattle.js_build.specs.declared.lists.MadeParts.{MadeParts}
use Rattle.js_build.specs.declared.operand.Operand.{Operand}
use Rattle.js_build.specs.declared.operand.Statements.{Statements}

abbrev pub parts_view : MadeParts → tree.TemplateParts
parts_view xs = plain_template_parts xs.items

abbrev pub cases_view : MadeCases → tree.Cases
cases_view xs = plain_cases xs.items

abbrev pub place_of : Piece → Option Loc
place_of (APlace l) = Some l
place_of p = None

-- a clause after the place of its first word: its value, its statements, its end, and the pieces after it
abbrev pub clause_of : List Piece → Option ((MaybeExpr × (Stmts × Loc)) × List Piece)
clause_of (AnExpr i e ∷ TheStmts ss ∷ APlace m ∷ ps) = Some ((some_expr e, (ss, m)), ps)
clause_of (TheStmts ss ∷ APlace m ∷ ps) = Some ((none_expr, (ss, m)), ps)
clause_of ps = None

abbrev pub test_view : Option Operand → MaybeExpr
test_view None = none_expr
test_view (Some x) = some_expr (plain_expr x.tree)

abbrev pub clause_view : Option (Option Operand × (Statements × Loc)) → List Piece → Option ((MaybeExpr × (Stmts × Loc)) × List Piece)
clause_view None ps = None
clause_view (Some x) ps = Some ((test_view x.0, (plain_stmts x.1.0.items, x.1.1)), ps)

-- whether a clause is one of two defaults
abbrev pub is_second : Bool → MaybeExpr → Bool
is_second defaulted none_expr = defaulted
is_second defaulted (some_expr e) = false

abbrev pub is_default : Bool → MaybeExpr → Bool
is_default defaulted none_expr = true
is_default defaulted (some_expr e) = defaulted

-- a clause from its first word on, and whether there is a default with it; none that is a second one (14.12)
abbrev pub case_made : Bool → Bool → Loc → (MaybeExpr × (Stmts × Loc)) × List Piece → Option ((tree.Case × Bool) × List Piece)
case_made true defaulted l x = None
case_made false defaulted l x = Some ((tree.MakeCase (Some (through l x.0.1.1)) x.0.0 x.0.1.0, is_default defaulted x.0.0), x.1)

abbrev pub case_read : Bool → Loc → Option ((MaybeExpr × (Stmts × Loc)) × List Piece) → Option ((tree.Case × Bool) × List Piece)
case_read defaulted l None = None
case_read defaulted l (Some x) = case_made (is_second defaulted x.0.0) defaulted l x

abbrev pub case_view : Option (MadeCase × Bool) → List Piece → Option ((tree.Case × Bool) × List Piece)
case_view None ps = None
case_view (Some x) ps = Some ((plain_case x.0.tree, x.1), ps)
