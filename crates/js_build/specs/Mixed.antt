-- `??` whose left operand is `&&` or `||` without parentheses (13.13).
use Rattle.std.specs.Prelude.{Bool, false}
use Rattle.js_terms.specs.declared.operators.LogicalOperator.{LogicalOperator}
use Rattle.js_terms.specs.declared.operators.LogicalOperator.TheVariants as logic
use Rattle.js_tree.specs.Plain.{Expr}
use Rattle.js_reading.specs.Makes.{is_and_or}

abbrev pub is_mixed : LogicalOperator → Expr → Bool
is_mixed logic.Coalesce left = is_and_or left
is_mixed operator left = false
