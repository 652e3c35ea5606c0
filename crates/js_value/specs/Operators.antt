-- The binary operators of the language (ECMA-262, 13.6 to 13.12 and 13.15.3).
use Rattle.std.specs.Prelude.{Bool, true, false, not, ◌||◌, ◌++◌, ℤ, Option, Some, None, option_and_then, if◌then◌else◌}
use Rattle.std.specs.Ordering.{is_lt, is_gt, is_le, is_ge}
use Rattle.std.specs.declared.cmp.Ordering.{Ordering}
use Rattle.js_terms.specs.declared.operators.BinaryOperator.{BinaryOperator}
use Rattle.js_terms.specs.declared.operators.BinaryOperator.TheVariants.{Exponentiate, Multiply, Divide, Remainder, Add, Subtract, LeftShift, SignedRightShift, UnsignedRightShift, LessThan, GreaterThan, LessThanOrEqual, GreaterThanOrEqual, InstanceOf, In, Equal, NotEqual, StrictEqual, StrictNotEqual, BitwiseAnd, BitwiseXor, BitwiseOr}
use Rattle.js_value.specs.declared.value.Primitive.{Primitive}
use Rattle.js_value.specs.declared.value.Primitive.TheVariants as P
use Rattle.js_value.specs.declared.value.Value.{Value}
use Rattle.js_value.specs.declared.value.Value.TheVariants as V
use Rattle.js_value.specs.declared.value.Kind.TheVariants as K
use Rattle.js_value.specs.Numbers.{ranged}
use Rattle.js_value.specs.Arithmetic as arithmetic
use Rattle.js_value.specs.Bits as bits
use Rattle.js_value.specs.Equality.{Decided, Decides, Undecided, strictly_equal, loosely_equal}
use Rattle.js_value.specs.Order.{Compared, Stands, NoOrder, compare_values}
pub use Rattle.js_value.specs.Conversions.{Answer, Gives, Refuses, Answers, given, gives_text, Numbered, Is, NoNumber, Texted, Reads, NoText, is_text, number_of_primitive, to_number, text_of_primitive, to_text, to_boolean}

-- what an operator makes of two numbers, exactly, where that is whole (13.15.3); the other operators make no number
abbrev pub exact : BinaryOperator → ℤ → ℤ → Option ℤ
exact Exponentiate m n = arithmetic.power m n
exact Multiply m n = arithmetic.product m n
exact Divide m n = arithmetic.quotient m n
exact Remainder m n = arithmetic.remainder m n
exact Add m n = arithmetic.sum m n
exact Subtract m n = arithmetic.difference m n
exact LeftShift m n = Some (bits.left_shift m n)
exact SignedRightShift m n = Some (bits.signed_right_shift m n)
exact UnsignedRightShift m n = Some (bits.unsigned_right_shift m n)
exact BitwiseAnd m n = Some (bits.bitwise_and m n)
exact BitwiseXor m n = Some (bits.bitwise_xor m n)
exact BitwiseOr m n = Some (bits.bitwise_or m n)
exact _ m n = None

-- the same where it is in range
abbrev pub calculated : BinaryOperator → ℤ → ℤ → Option ℤ
calculated operator m n = option_and_then ranged (exact operator m n)

-- a number as an answer: where there is none, Number is refused
abbrev pub number_answer : Option ℤ → Answer
number_answer (Some n) = Gives (P.Number n)
number_answer None = Refuses K.Number

-- an operator on numbers, of what ToNumber answered; a refusal of the left operand comes first
abbrev pub numeric : BinaryOperator → Numbered → Numbered → Answer
numeric operator (NoNumber k) right = Refuses k
numeric operator (Is m) (NoNumber k) = Refuses k
numeric operator (Is m) (Is n) = number_answer (calculated operator m n)

-- `+` of two primitive values (13.15.3): where one is a text, both are joined as texts
abbrev pub add_primitives : Primitive → Primitive → Answer
add_primitives a b =
    if is_text a || is_text b then Gives (P.Text (text_of_primitive a ++ text_of_primitive b))
    else numeric Add (number_of_primitive a) (number_of_primitive b)

-- `+`: a reference is refused before all else
abbrev pub add : Value → Value → Answer
add (V.Primitive a) (V.Primitive b) = add_primitives a b
add (V.Primitive a) (V.Object o) = Refuses K.Convert
add (V.Object o) right = Refuses K.Convert

-- `true` or `false`
abbrev pub truth : Bool → Answer
truth b = Gives (P.Boolean b)

-- the answer of a test on how one value stands to another (13.10.1)
abbrev pub order_answer : (Ordering → Bool) → Compared → Answer
order_answer test (Stands o) = truth (test o)
order_answer test (NoOrder k) = Refuses k

-- the answer whether two values are equal, or whether they are not (13.11.1)
abbrev pub equal_answer : Decided → Answer
equal_answer (Decides b) = truth b
equal_answer (Undecided k) = Refuses k

abbrev pub not_equal_answer : Decided → Answer
not_equal_answer (Decides b) = truth (not b)
not_equal_answer (Undecided k) = Refuses k

-- the operators that look at nothing but two values: all others
abbrev pub has_answer : BinaryOperator → Bool
has_answer In = false
has_answer InstanceOf = false
has_answer _ = true

-- what stands for the answer of `in` and `instanceof`, which look into the heap, and means nothing
abbrev pub unsaid : Answer
unsaid = Gives P.Undefined

-- a binary operator of two values
abbrev pub binary : BinaryOperator → Value → Value → Answer
binary Add left right = add left right
binary LessThan left right = order_answer is_lt (compare_values left right)
binary GreaterThan left right = order_answer is_gt (compare_values left right)
binary LessThanOrEqual left right = order_answer is_le (compare_values left right)
binary GreaterThanOrEqual left right = order_answer is_ge (compare_values left right)
binary Equal left right = equal_answer (loosely_equal left right)
binary NotEqual left right = not_equal_answer (loosely_equal left right)
binary StrictEqual left right = truth (strictly_equal left right)
binary StrictNotEqual left right = truth (not (strictly_equal left right))
binary In left right = unsaid
binary InstanceOf left right = unsaid
binary operator left right = numeric operator (to_number left) (to_number right)
