-- The unary operators that look at a value alone, and the step of `++` and `--` (ECMA-262, 13.4 and 13.5).
use Rattle.std.specs.Prelude.{ℕ, Bool, true, false, not, List, codes, ℤ, pos, ◌+ℤ◌, ◌-ℤ◌, neg_ℤ, Option, Some, None, option_and_then}
use Rattle.js_terms.specs.declared.operators.UnaryOperator.{UnaryOperator}
use Rattle.js_terms.specs.declared.operators.UnaryOperator.TheVariants.{Plus, Minus, BitwiseNot, LogicalNot}
use Rattle.js_terms.specs.declared.operators.UpdateOperator.{UpdateOperator}
use Rattle.js_terms.specs.declared.operators.UpdateOperator.TheVariants.{Increment, Decrement}
use Rattle.js_value.specs.declared.value.Primitive.{Primitive}
use Rattle.js_value.specs.declared.value.Primitive.TheVariants as P
use Rattle.js_value.specs.declared.value.Value.{Value}
use Rattle.js_value.specs.Numbers.{ranged}
use Rattle.js_value.specs.Bits.{bitwise_not}
use Rattle.js_value.specs.Conversions.{Answer, Refuses, Numbered, Is, NoNumber, numbered, to_number, to_boolean}
use Rattle.js_value.specs.Operators.{number_answer, truth}

-- the operators that look at nothing but a value: all but `delete`, `void` and `typeof`
abbrev pub has_unary_answer : UnaryOperator → Bool
has_unary_answer Plus = true
has_unary_answer Minus = true
has_unary_answer BitwiseNot = true
has_unary_answer LogicalNot = true
has_unary_answer _ = false

-- what an operator makes of a number: `+` (13.5.4), `-` (13.5.5, 6.1.6.1.1) and `~` (13.5.6); the others make no number
abbrev pub exact_unary : UnaryOperator → ℤ → Option ℤ
exact_unary Plus n = Some n
exact_unary Minus n = Some (neg_ℤ n)
exact_unary BitwiseNot n = Some (bitwise_not n)
exact_unary _ n = None

-- the same where it is in range
abbrev pub calculated_unary : UnaryOperator → ℤ → Option ℤ
calculated_unary operator n = option_and_then ranged (exact_unary operator n)

-- an operator on numbers, of what ToNumber answered
abbrev pub numeric_unary : UnaryOperator → Numbered → Answer
numeric_unary operator (NoNumber k) = Refuses k
numeric_unary operator (Is n) = number_answer (calculated_unary operator n)

-- a unary operator of a value; `!` is 13.5.7
abbrev pub unary : UnaryOperator → Value → Answer
unary LogicalNot operand = truth (not (to_boolean operand))
unary operator operand = numeric_unary operator (to_number operand)

-- `typeof` of a primitive value (13.5.3)
abbrev pub type_of : Primitive → List ℕ
type_of P.Undefined = codes "undefined"
type_of P.Null = codes "object"
type_of (P.Boolean b) = codes "boolean"
type_of (P.Number n) = codes "number"
type_of (P.Text units) = codes "string"

-- one more, or one less
abbrev pub next : UpdateOperator → ℤ → ℤ
next Increment n = n +ℤ pos 1
next Decrement n = n -ℤ pos 1

-- what `++` or `--` makes of the number that ToNumber answered (13.4), where it is in range
abbrev pub stepped : UpdateOperator → ℤ → Numbered
stepped operator n = numbered (ranged (next operator n))
