-- Numbers stay in range: each that is given was tested.
use Rattle.std.proofs.Common.{◌≡◌, ℕ, List, Bool, true, false, cond, ℤ, pos, Option, Some, None, option_and_then, refl, ap, subst}
use Rattle.std.specs.declared.cmp.Ordering.{Ordering}
use Rattle.std.specs.Ordering.{is_lt, is_gt, is_le, is_ge}
use Rattle.js_terms.specs.declared.operators.BinaryOperator.{BinaryOperator}
use Rattle.js_terms.specs.declared.operators.BinaryOperator.TheVariants.{Exponentiate, Multiply, Divide, Remainder, Add, Subtract, LeftShift, SignedRightShift, UnsignedRightShift, LessThan, GreaterThan, LessThanOrEqual, GreaterThanOrEqual, InstanceOf, In, Equal, NotEqual, StrictEqual, StrictNotEqual, BitwiseAnd, BitwiseXor, BitwiseOr}
use Rattle.js_terms.specs.declared.operators.UnaryOperator.{UnaryOperator}
use Rattle.js_terms.specs.declared.operators.UnaryOperator.TheVariants as U
use Rattle.js_value.specs.declared.value.Primitive.TheVariants as P
use Rattle.js_value.specs.declared.value.Value.{Value}
use Rattle.js_value.specs.declared.value.Value.TheVariants as V
use Rattle.js_value.specs.Numbers.{in_range, ranged, literal_value, prefix_base, text_number, trimmed_number, trimmed}
use Rattle.js_value.specs.Conversions.{Gives, Numbered, Is, NoNumber, numbered, number_of_primitive, to_number}
use Rattle.js_value.specs.Equality.{Decided, Decides, Undecided, loosely_equal}
use Rattle.js_value.specs.Order.{Compared, Stands, NoOrder, compare_values}
use Rattle.js_value.specs.Operators.{exact, calculated, number_answer, numeric, add, order_answer, equal_answer, not_equal_answer}
use Rattle.js_value.specs.UnaryOperators.{exact_unary, calculated_unary, numeric_unary, next}
use Rattle.js_value.specs.Ranges.{LiteralsInRange, ConversionsInRange, BinaryInRange, UnaryInRange, StepsInRange}

ranged_by : (n m : ℤ) (t : Bool) → in_range n ≡ t → cond t (Some n) None ≡ Some m → in_range m ≡ true
ranged_by n m true t h = let e : n ≡ m = cc in subst (λ x. in_range x ≡ true) e t
ranged_by n m false t h = absurd cc

from_ranged : (n m : ℤ) → ranged n ≡ Some m → in_range m ≡ true
from_ranged n m h = ranged_by n m (in_range n) refl h

from_option : (o : Option ℤ) (m : ℤ) → option_and_then ranged o ≡ Some m → in_range m ≡ true
from_option None m h = absurd cc
from_option (Some n) m h = from_ranged n m h

from_count : (o : Option ℕ) (n : ℤ) → option_and_then (λ m. ranged (pos m)) o ≡ Some n → in_range n ≡ true
from_count None n h = absurd cc
from_count (Some m) n h = from_ranged (pos m) n h

pub literals : LiteralsInRange
literals cs n h = from_count (literal_value (prefix_base cs) cs) n h

read : (o : Option ℤ) (n : ℤ) → numbered o ≡ Is n → o ≡ Some n
read None n h = absurd cc
read (Some m) n h = let e : m ≡ n = cc in ap Some e

moved : (m n : ℤ) → in_range m ≡ true → Is m ≡ Is n → in_range n ≡ true
moved m n t h = let e : m ≡ n = cc in subst (λ x. in_range x ≡ true) e t

pub conversions : ConversionsInRange
conversions (V.Object o) n r h = absurd cc
conversions (V.Primitive P.Undefined) n r h = absurd cc
conversions (V.Primitive P.Null) n r h = moved (pos 0) n refl h
conversions (V.Primitive (P.Boolean true)) n r h = moved (pos 1) n refl h
conversions (V.Primitive (P.Boolean false)) n r h = moved (pos 0) n refl h
conversions (V.Primitive (P.Number m)) n r h = moved m n r h
conversions (V.Primitive (P.Text us)) n r h = from_option (trimmed_number (trimmed us)) n (read (text_number us) n h)

answered : (o : Option ℤ) (n : ℤ) → number_answer o ≡ Gives (P.Number n) → o ≡ Some n
answered None n h = absurd cc
answered (Some m) n h = let e : m ≡ n = cc in ap Some e

numeric_in : (operator : BinaryOperator) (x y : Numbered) (n : ℤ) → numeric operator x y ≡ Gives (P.Number n) → in_range n ≡ true
numeric_in operator (NoNumber k) y n h = absurd cc
numeric_in operator (Is a) (NoNumber k) n h = absurd cc
numeric_in operator (Is a) (Is b) n h = from_option (exact operator a b) n (answered (calculated operator a b) n h)

add_by : (t : Bool) (us : List ℕ) (x y : Numbered) (n : ℤ) → cond t (Gives (P.Text us)) (numeric Add x y) ≡ Gives (P.Number n) → in_range n ≡ true
add_by true us x y n h = absurd cc
add_by false us x y n h = numeric_in Add x y n h

add_in : (left right : Value) (n : ℤ) → add left right ≡ Gives (P.Number n) → in_range n ≡ true
add_in (V.Object o) right n h = absurd cc
add_in (V.Primitive a) (V.Object o) n h = absurd cc
add_in (V.Primitive a) (V.Primitive b) n h = add_by _ _ (number_of_primitive a) (number_of_primitive b) n h

order_in : (test : Ordering → Bool) (x : Compared) (n : ℤ) → order_answer test x ≡ Gives (P.Number n) → in_range n ≡ true
order_in test (Stands o) n h = absurd cc
order_in test (NoOrder k) n h = absurd cc

equal_in : (x : Decided) (n : ℤ) → equal_answer x ≡ Gives (P.Number n) → in_range n ≡ true
equal_in (Decides b) n h = absurd cc
equal_in (Undecided k) n h = absurd cc

not_equal_in : (x : Decided) (n : ℤ) → not_equal_answer x ≡ Gives (P.Number n) → in_range n ≡ true
not_equal_in (Decides b) n h = absurd cc
not_equal_in (Undecided k) n h = absurd cc

pub binary_in : BinaryInRange
binary_in Add l r n h = add_in l r n h
binary_in LessThan l r n h = order_in is_lt (compare_values l r) n h
binary_in GreaterThan l r n h = order_in is_gt (compare_values l r) n h
binary_in LessThanOrEqual l r n h = order_in is_le (compare_values l r) n h
binary_in GreaterThanOrEqual l r n h = order_in is_ge (compare_values l r) n h
binary_in Equal l r n h = equal_in (loosely_equal l r) n h
binary_in NotEqual l r n h = not_equal_in (loosely_equal l r) n h
binary_in StrictEqual l r n h = absurd cc
binary_in StrictNotEqual l r n h = absurd cc
binary_in In l r n h = absurd cc
binary_in InstanceOf l r n h = absurd cc
binary_in Exponentiate l r n h = numeric_in Exponentiate (to_number l) (to_number r) n h
binary_in Multiply l r n h = numeric_in Multiply (to_number l) (to_number r) n h
binary_in Divide l r n h = numeric_in Divide (to_number l) (to_number r) n h
binary_in Remainder l r n h = numeric_in Remainder (to_number l) (to_number r) n h
binary_in Subtract l r n h = numeric_in Subtract (to_number l) (to_number r) n h
binary_in LeftShift l r n h = numeric_in LeftShift (to_number l) (to_number r) n h
binary_in SignedRightShift l r n h = numeric_in SignedRightShift (to_number l) (to_number r) n h
binary_in UnsignedRightShift l r n h = numeric_in UnsignedRightShift (to_number l) (to_number r) n h
binary_in BitwiseAnd l r n h = numeric_in BitwiseAnd (to_number l) (to_number r) n h
binary_in BitwiseXor l r n h = numeric_in BitwiseXor (to_number l) (to_number r) n h
binary_in BitwiseOr l r n h = numeric_in BitwiseOr (to_number l) (to_number r) n h

numeric_unary_in : (operator : UnaryOperator) (x : Numbered) (n : ℤ) → numeric_unary operator x ≡ Gives (P.Number n) → in_range n ≡ true
numeric_unary_in operator (NoNumber k) n h = absurd cc
numeric_unary_in operator (Is a) n h = from_option (exact_unary operator a) n (answered (calculated_unary operator a) n h)

pub unary_in : UnaryInRange
unary_in U.LogicalNot v n h = absurd cc
unary_in U.Plus v n h = numeric_unary_in U.Plus (to_number v) n h
unary_in U.Minus v n h = numeric_unary_in U.Minus (to_number v) n h
unary_in U.BitwiseNot v n h = numeric_unary_in U.BitwiseNot (to_number v) n h
unary_in U.Delete v n h = numeric_unary_in U.Delete (to_number v) n h
unary_in U.Void v n h = numeric_unary_in U.Void (to_number v) n h
unary_in U.TypeOf v n h = numeric_unary_in U.TypeOf (to_number v) n h

pub steps : StepsInRange
steps operator m n h = from_ranged (next operator m) n (read (ranged (next operator m)) n h)
