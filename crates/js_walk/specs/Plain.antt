-- The plain part that a part is.
use Rattle.js_tree.specs.Tree.{plain_stmt_if, plain_expr, plain_stmt, plain_property, plain_property_key, plain_concise_body, plain_for_init, plain_for_target, plain_template_part, plain_function, plain_function_body, plain_param, plain_declarator, plain_case, plain_catch, plain_pattern}
use Rattle.js_walk.specs.Part as P
use Rattle.js_walk.specs.declared.visitor.Part.{Part}
use Rattle.js_walk.specs.declared.visitor.Part.TheVariants as part

abbrev pub plain_part : Part → P.Part
plain_part (part.Expr x) = P.AnExpr (plain_expr x.now)
plain_part (part.Stmt x) = P.AStmt (plain_stmt x.now)
plain_part (part.Property x) = P.AProperty (plain_property x.now)
plain_part (part.PropertyKey x) = P.APropertyKey (plain_property_key x.now)
plain_part (part.ConciseBody x) = P.AConciseBody (plain_concise_body x.now)
plain_part (part.ForInit x) = P.AForInit (plain_for_init x.now)
plain_part (part.ForTarget x) = P.AForTarget (plain_for_target x.now)
plain_part (part.TemplatePart x) = P.ATemplatePart (plain_template_part x.now)
plain_part (part.Function x) = P.AFunction (plain_function x.now)
plain_part (part.FunctionBody x) = P.AFunctionBody (plain_function_body x.now)
plain_part (part.Param x) = P.AParam (plain_param x.now)
plain_part (part.Declarator x) = P.ADeclarator (plain_declarator x.now)
plain_part (part.Case x) = P.ACase (plain_case x.now)
plain_part (part.Catch x) = P.ACatch (plain_catch x.now)
plain_part (part.Pattern x) = P.APattern (plain_pattern x.now)
plain_part (part.Then x) = P.AThen (plain_stmt x.now)
plain_part (part.Else x) = P.AnElse (plain_stmt_if x.now)
