-- Each sign has a byte at least, and what stands for a kind of declaration has five at most.
use Rattle.std.proofs.Common.{◌≤◌, length, arith}
use Rattle.js_terms.specs.declared.operators.BinaryOperator.{BinaryOperator}
use Rattle.js_terms.specs.declared.operators.UnaryOperator.{UnaryOperator}
use Rattle.js_terms.specs.declared.operators.BinaryOperator.TheVariants as b
use Rattle.js_terms.specs.declared.operators.UnaryOperator.TheVariants as u
use Rattle.js_terms.specs.declared.operators.VariableKind.{VariableKind}
use Rattle.js_terms.specs.declared.operators.VariableKind.TheVariants as variable
use Rattle.js_text.specs.Token.{spelling}
use Rattle.js_reading.specs.Productions.{sign_of, prefix_of, variable_word}

pub sign_long : (o : BinaryOperator) → 1 ≤ length (spelling (sign_of o))
sign_long b.In = omega arith
sign_long o = omega arith

pub prefix_long : (o : UnaryOperator) → 1 ≤ length (spelling (prefix_of o))
prefix_long u.Void = omega arith
prefix_long o = omega arith

pub variable_long : (k : VariableKind) → 1 ≤ length (variable_word k)
variable_long variable.Var = omega arith
variable_long k = omega arith

pub variable_short : (k : VariableKind) → length (variable_word k) ≤ 5
variable_short variable.Var = omega arith
variable_short k = omega arith
