use Rattle.std.proofs.Common.{sym, ap}
use Rattle.js_reading.specs.Kinds.{code_of}
use Rattle.js_grammar.proofs.sign.code_of.Goals as goal

pub returns-in-UnsignedShiftRightAssign : goal.returns-in-UnsignedShiftRightAssign
returns-in-UnsignedShiftRightAssign c = ap code_of (sym c.in-UnsignedShiftRightAssign.is)

pub returns-in-Ellipsis : goal.returns-in-Ellipsis
returns-in-Ellipsis c = ap code_of (sym c.in-Ellipsis.is)

pub returns-in-StrictEqual : goal.returns-in-StrictEqual
returns-in-StrictEqual c = ap code_of (sym c.in-StrictEqual.is)

pub returns-in-StrictNotEqual : goal.returns-in-StrictNotEqual
returns-in-StrictNotEqual c = ap code_of (sym c.in-StrictNotEqual.is)

pub returns-in-ExponentAssign : goal.returns-in-ExponentAssign
returns-in-ExponentAssign c = ap code_of (sym c.in-ExponentAssign.is)

pub returns-in-ShiftLeftAssign : goal.returns-in-ShiftLeftAssign
returns-in-ShiftLeftAssign c = ap code_of (sym c.in-ShiftLeftAssign.is)

pub returns-in-ShiftRightAssign : goal.returns-in-ShiftRightAssign
returns-in-ShiftRightAssign c = ap code_of (sym c.in-ShiftRightAssign.is)

pub returns-in-UnsignedShiftRight : goal.returns-in-UnsignedShiftRight
returns-in-UnsignedShiftRight c = ap code_of (sym c.in-UnsignedShiftRight.is)

pub returns-in-LogicalAndAssign : goal.returns-in-LogicalAndAssign
returns-in-LogicalAndAssign c = ap code_of (sym c.in-LogicalAndAssign.is)

pub returns-in-LogicalOrAssign : goal.returns-in-LogicalOrAssign
returns-in-LogicalOrAssign c = ap code_of (sym c.in-LogicalOrAssign.is)

pub returns-in-CoalesceAssign : goal.returns-in-CoalesceAssign
returns-in-CoalesceAssign c = ap code_of (sym c.in-CoalesceAssign.is)

pub returns-in-Arrow : goal.returns-in-Arrow
returns-in-Arrow c = ap code_of (sym c.in-Arrow.is)

pub returns-in-Equal : goal.returns-in-Equal
returns-in-Equal c = ap code_of (sym c.in-Equal.is)

pub returns-in-NotEqual : goal.returns-in-NotEqual
returns-in-NotEqual c = ap code_of (sym c.in-NotEqual.is)

pub returns-in-LessOrEqual : goal.returns-in-LessOrEqual
returns-in-LessOrEqual c = ap code_of (sym c.in-LessOrEqual.is)

pub returns-in-GreaterOrEqual : goal.returns-in-GreaterOrEqual
returns-in-GreaterOrEqual c = ap code_of (sym c.in-GreaterOrEqual.is)

pub returns-in-Increment : goal.returns-in-Increment
returns-in-Increment c = ap code_of (sym c.in-Increment.is)

pub returns-in-Decrement : goal.returns-in-Decrement
returns-in-Decrement c = ap code_of (sym c.in-Decrement.is)

pub returns-in-Exponent : goal.returns-in-Exponent
returns-in-Exponent c = ap code_of (sym c.in-Exponent.is)

pub returns-in-ShiftLeft : goal.returns-in-ShiftLeft
returns-in-ShiftLeft c = ap code_of (sym c.in-ShiftLeft.is)

pub returns-in-ShiftRight : goal.returns-in-ShiftRight
returns-in-ShiftRight c = ap code_of (sym c.in-ShiftRight.is)

pub returns-in-LogicalAnd : goal.returns-in-LogicalAnd
returns-in-LogicalAnd c = ap code_of (sym c.in-LogicalAnd.is)

pub returns-in-LogicalOr : goal.returns-in-LogicalOr
returns-in-LogicalOr c = ap code_of (sym c.in-LogicalOr.is)

pub returns-in-Coalesce : goal.returns-in-Coalesce
returns-in-Coalesce c = ap code_of (sym c.in-Coalesce.is)

pub returns-in-OptionalChain : goal.returns-in-OptionalChain
returns-in-OptionalChain c = ap code_of (sym c.in-OptionalChain.is)

pub returns-in-AddAssign : goal.returns-in-AddAssign
returns-in-AddAssign c = ap code_of (sym c.in-AddAssign.is)

pub returns-in-SubtractAssign : goal.returns-in-SubtractAssign
returns-in-SubtractAssign c = ap code_of (sym c.in-SubtractAssign.is)

pub returns-in-MultiplyAssign : goal.returns-in-MultiplyAssign
returns-in-MultiplyAssign c = ap code_of (sym c.in-MultiplyAssign.is)

pub returns-in-DivideAssign : goal.returns-in-DivideAssign
returns-in-DivideAssign c = ap code_of (sym c.in-DivideAssign.is)

pub returns-in-RemainderAssign : goal.returns-in-RemainderAssign
returns-in-RemainderAssign c = ap code_of (sym c.in-RemainderAssign.is)

pub returns-in-AndAssign : goal.returns-in-AndAssign
returns-in-AndAssign c = ap code_of (sym c.in-AndAssign.is)

pub returns-in-OrAssign : goal.returns-in-OrAssign
returns-in-OrAssign c = ap code_of (sym c.in-OrAssign.is)

pub returns-in-XorAssign : goal.returns-in-XorAssign
returns-in-XorAssign c = ap code_of (sym c.in-XorAssign.is)

pub returns-in-OpenBrace : goal.returns-in-OpenBrace
returns-in-OpenBrace c = ap code_of (sym c.in-OpenBrace.is)

pub returns-in-CloseBrace : goal.returns-in-CloseBrace
returns-in-CloseBrace c = ap code_of (sym c.in-CloseBrace.is)

pub returns-in-OpenParenthesis : goal.returns-in-OpenParenthesis
returns-in-OpenParenthesis c = ap code_of (sym c.in-OpenParenthesis.is)

pub returns-in-CloseParenthesis : goal.returns-in-CloseParenthesis
returns-in-CloseParenthesis c = ap code_of (sym c.in-CloseParenthesis.is)

pub returns-in-OpenBracket : goal.returns-in-OpenBracket
returns-in-OpenBracket c = ap code_of (sym c.in-OpenBracket.is)

pub returns-in-CloseBracket : goal.returns-in-CloseBracket
returns-in-CloseBracket c = ap code_of (sym c.in-CloseBracket.is)

pub returns-in-Dot : goal.returns-in-Dot
returns-in-Dot c = ap code_of (sym c.in-Dot.is)

pub returns-in-Semicolon : goal.returns-in-Semicolon
returns-in-Semicolon c = ap code_of (sym c.in-Semicolon.is)

pub returns-in-Comma : goal.returns-in-Comma
returns-in-Comma c = ap code_of (sym c.in-Comma.is)

pub returns-in-LessThan : goal.returns-in-LessThan
returns-in-LessThan c = ap code_of (sym c.in-LessThan.is)

pub returns-in-GreaterThan : goal.returns-in-GreaterThan
returns-in-GreaterThan c = ap code_of (sym c.in-GreaterThan.is)

pub returns-in-Plus : goal.returns-in-Plus
returns-in-Plus c = ap code_of (sym c.in-Plus.is)

pub returns-in-Minus : goal.returns-in-Minus
returns-in-Minus c = ap code_of (sym c.in-Minus.is)

pub returns-in-Star : goal.returns-in-Star
returns-in-Star c = ap code_of (sym c.in-Star.is)

pub returns-in-Slash : goal.returns-in-Slash
returns-in-Slash c = ap code_of (sym c.in-Slash.is)

pub returns-in-Percent : goal.returns-in-Percent
returns-in-Percent c = ap code_of (sym c.in-Percent.is)

pub returns-in-Ampersand : goal.returns-in-Ampersand
returns-in-Ampersand c = ap code_of (sym c.in-Ampersand.is)

pub returns-in-Bar : goal.returns-in-Bar
returns-in-Bar c = ap code_of (sym c.in-Bar.is)

pub returns-in-Caret : goal.returns-in-Caret
returns-in-Caret c = ap code_of (sym c.in-Caret.is)

pub returns-in-Exclamation : goal.returns-in-Exclamation
returns-in-Exclamation c = ap code_of (sym c.in-Exclamation.is)

pub returns-in-Tilde : goal.returns-in-Tilde
returns-in-Tilde c = ap code_of (sym c.in-Tilde.is)

pub returns-in-Question : goal.returns-in-Question
returns-in-Question c = ap code_of (sym c.in-Question.is)

pub returns-in-Colon : goal.returns-in-Colon
returns-in-Colon c = ap code_of (sym c.in-Colon.is)

pub returns-in-Assign : goal.returns-in-Assign
returns-in-Assign c = ap code_of (sym c.in-Assign.is)
