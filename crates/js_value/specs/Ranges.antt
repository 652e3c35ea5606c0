-- Numbers stay in range: a law above the operators.
use Rattle.std.specs.Prelude.{◌≡◌, ℕ, List, ℤ, Some, IsTrue, ⊤}
use Rattle.js_terms.specs.declared.operators.BinaryOperator.{BinaryOperator}
use Rattle.js_terms.specs.declared.operators.UnaryOperator.{UnaryOperator}
use Rattle.js_terms.specs.declared.operators.UpdateOperator.{UpdateOperator}
use Rattle.js_value.specs.declared.value.Primitive.TheVariants as P
use Rattle.js_value.specs.declared.value.Value.{Value}
use Rattle.js_value.specs.declared.value.Value.TheVariants as V
use Rattle.js_value.specs.Numbers.{in_range, literal_number}
use Rattle.js_value.specs.Conversions.{Gives, Is, to_number}
use Rattle.js_value.specs.Operators.{binary}
use Rattle.js_value.specs.UnaryOperators.{unary, stepped}

-- the number that a value is, if it is one, is in range
abbrev pub InRange : Value → Type 0
InRange (V.Primitive (P.Number n)) = IsTrue (in_range n)
InRange _ = ⊤

-- a literal's value is in range
abbrev pub LiteralsInRange : Type 0
LiteralsInRange = (bytes : List ℕ) (n : ℤ) → literal_number bytes ≡ Some n → IsTrue (in_range n)

-- so is what ToNumber gives of a value in range
abbrev pub ConversionsInRange : Type 0
ConversionsInRange = (operand : Value) (n : ℤ) → InRange operand → to_number operand ≡ Is n → IsTrue (in_range n)

-- and each number that an operator gives
abbrev pub BinaryInRange : Type 0
BinaryInRange = (operator : BinaryOperator) (left right : Value) (n : ℤ) → binary operator left right ≡ Gives (P.Number n) → IsTrue (in_range n)

abbrev pub UnaryInRange : Type 0
UnaryInRange = (operator : UnaryOperator) (operand : Value) (n : ℤ) → unary operator operand ≡ Gives (P.Number n) → IsTrue (in_range n)

abbrev pub StepsInRange : Type 0
StepsInRange = (operator : UpdateOperator) (number n : ℤ) → stepped operator number ≡ Is n → IsTrue (in_range n)
