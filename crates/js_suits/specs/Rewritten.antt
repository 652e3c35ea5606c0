-- The rewriting of counted files, with a setting's counters, and functions that are numbered from a shift on.
use Rattle.std.specs.Prelude.{ℕ, ◌+◌, Bool, List, None}
use Rattle.js_terms.specs.Mark.{Mark}
use Rattle.js_tree.specs.Codes.{Code}
use Rattle.js_tree.specs.Plain.{Expr, Stmt, Property, PropertyKey, ConciseBody, ForInit, ForTarget, TemplatePart, Function, FunctionBody, Param, Declarator, Case, Catch, MaybeExpr, MaybeStmt, Exprs, TemplateParts, Properties, Params, Stmts, Declarators, Cases}
use Rattle.js_tree.specs.Plain as P
use Rattle.cov_rewritten.specs.Rewritten as R
use Rattle.cov_rewritten.specs.Functions as F
use Rattle.js_suits.specs.Settings.{Setting}

module _ (c : Setting) where
  -- the statement that counts
  abbrev pub count : Mark → Stmt
  count mark = P.Expression None (c.code mark)

  abbrev pub counts : List Mark → Stmts
  counts = R.counts c.code

  abbrev pub in_block : List Mark → Stmt → Stmt
  in_block = R.in_block c.code

  abbrev pub looped : List Mark → Stmt → Stmt
  looped = R.looped c.code

  abbrev pub arm : Bool → List Mark → Stmt → Stmt
  arm = R.arm c.code

  abbrev pub counted : List Mark → Expr → Expr
  counted = R.counted c.code

  abbrev pub held : Bool → List ℕ → List Mark → Expr → Expr
  held = R.held c.code

  abbrev pub initial : Bool → Bool → List ℕ → List Mark → Expr → Expr
  initial = R.initial c.code

  abbrev pub concise : List Mark → Expr → ConciseBody
  concise = R.concise c.code

  abbrev pub begun_body : Mark → FunctionBody → FunctionBody
  begun_body = R.begun_body c.code

  abbrev pub begun_case : Mark → Case → Case
  begun_case = R.begun_case c.code

  module _ (shift : ℕ) where
    abbrev pub code_of : ℕ → ℕ
    code_of number = shift + number

    abbrev pub rewritten_expr : Expr → Expr
    rewritten_expr = R.rewritten_expr c.code code_of

    abbrev pub rewritten_stmt : Bool → Stmt → Stmt
    rewritten_stmt = R.rewritten_stmt c.code code_of

    abbrev pub rewritten_arm : Bool → MaybeStmt → MaybeStmt
    rewritten_arm = R.rewritten_arm c.code code_of

    abbrev pub rewritten_stmts : Bool → Stmts → Stmts
    rewritten_stmts = R.rewritten_stmts c.code code_of

    abbrev pub rewritten_property : Property → Property
    rewritten_property = R.rewritten_property c.code code_of

    abbrev pub rewritten_property_key : PropertyKey → PropertyKey
    rewritten_property_key = R.rewritten_property_key c.code code_of

    abbrev pub rewritten_concise_body : ConciseBody → ConciseBody
    rewritten_concise_body = R.rewritten_concise_body c.code code_of

    abbrev pub rewritten_for_init : ForInit → ForInit
    rewritten_for_init = R.rewritten_for_init c.code code_of

    abbrev pub rewritten_for_target : ForTarget → ForTarget
    rewritten_for_target = R.rewritten_for_target c.code code_of

    abbrev pub rewritten_template_part : TemplatePart → TemplatePart
    rewritten_template_part = R.rewritten_template_part c.code code_of

    abbrev pub rewritten_function : Function → Function
    rewritten_function = R.rewritten_function c.code code_of

    abbrev pub rewritten_function_body : FunctionBody → FunctionBody
    rewritten_function_body = R.rewritten_function_body c.code code_of

    abbrev pub rewritten_param : Param → Param
    rewritten_param = R.rewritten_param c.code code_of

    abbrev pub rewritten_declarator : Bool → Declarator → Declarator
    rewritten_declarator = R.rewritten_declarator c.code code_of

    abbrev pub rewritten_declarators : Bool → Declarators → Declarators
    rewritten_declarators = R.rewritten_declarators c.code code_of

    abbrev pub rewritten_case : Case → Case
    rewritten_case = R.rewritten_case c.code code_of

    abbrev pub rewritten_catch : Catch → Catch
    rewritten_catch = R.rewritten_catch c.code code_of

    abbrev pub rewritten_expr_if : MaybeExpr → MaybeExpr
    rewritten_expr_if = R.rewritten_expr_if c.code code_of

    abbrev pub rewritten_exprs : Exprs → Exprs
    rewritten_exprs = R.rewritten_exprs c.code code_of

    abbrev pub rewritten_template_parts : TemplateParts → TemplateParts
    rewritten_template_parts = R.rewritten_template_parts c.code code_of

    abbrev pub rewritten_properties : Properties → Properties
    rewritten_properties = R.rewritten_properties c.code code_of

    abbrev pub rewritten_params : Params → Params
    rewritten_params = R.rewritten_params c.code code_of

    abbrev pub rewritten_cases : Cases → Cases
    rewritten_cases = R.rewritten_cases c.code code_of

    abbrev pub rewritten_code : Code → Code
    rewritten_code = F.rewritten_code c.code code_of
