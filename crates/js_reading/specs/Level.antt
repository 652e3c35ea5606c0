-- How tightly each form of expression binds (ECMA-262, 13, from the loosest to the tightest).
use Rattle.std.specs.Prelude.{ℕ, ◌+◌}
use Rattle.js_terms.specs.declared.operators.BinaryOperator.{BinaryOperator}
use Rattle.js_terms.specs.declared.operators.BinaryOperator.TheVariants as b
use Rattle.js_terms.specs.declared.operators.LogicalOperator.{LogicalOperator}
use Rattle.js_terms.specs.declared.operators.LogicalOperator.TheVariants as l

-- the level of a binary operator's expression (13.6 to 13.12)
abbrev pub binary_level : BinaryOperator → ℕ
binary_level b.Exponentiate = 15
binary_level b.Multiply = 14
binary_level b.Divide = 14
binary_level b.Remainder = 14
binary_level b.Add = 13
binary_level b.Subtract = 13
binary_level b.LeftShift = 12
binary_level b.SignedRightShift = 12
binary_level b.UnsignedRightShift = 12
binary_level b.LessThan = 11
binary_level b.GreaterThan = 11
binary_level b.LessThanOrEqual = 11
binary_level b.GreaterThanOrEqual = 11
binary_level b.InstanceOf = 11
binary_level b.In = 11
binary_level b.Equal = 10
binary_level b.NotEqual = 10
binary_level b.StrictEqual = 10
binary_level b.StrictNotEqual = 10
binary_level b.BitwiseAnd = 9
binary_level b.BitwiseXor = 8
binary_level b.BitwiseOr = 7

-- the least level of its left operand: its own, but of `**` that of an update expression (13.6)
abbrev pub left_level : BinaryOperator → ℕ
left_level b.Exponentiate = 17
left_level operator = binary_level operator

-- the least level of its right operand: one more than its own, but of `**` its own
abbrev pub right_level : BinaryOperator → ℕ
right_level b.Exponentiate = 15
right_level operator = binary_level operator + 1

-- the level of a logical operator's expression (13.13)
abbrev pub logical_level : LogicalOperator → ℕ
logical_level l.And = 6
logical_level l.Or = 5
logical_level l.Coalesce = 4

-- what an argument, an initializer and the right side of `=` are (13.15)
abbrev pub assignment : ℕ
assignment = 2

-- what a statement and parentheses hold (13.16)
abbrev pub any : ℕ
any = 1
