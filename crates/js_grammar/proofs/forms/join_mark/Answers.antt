use Rattle.std.proofs.Common.{sym, ap}
use Rattle.js_text.specs.Token as T
use Rattle.js_grammar.specs.private.Told.{join_of}
use Rattle.js_grammar.proofs.forms.join_mark.Goals as goal

pub returns-in-OpenParenthesis : goal.returns-in-OpenParenthesis
returns-in-OpenParenthesis c = ap (λ mark. join_of (T.Punctuator mark)) (sym c.in-OpenParenthesis.is)

pub returns-in-Dot : goal.returns-in-Dot
returns-in-Dot c = ap (λ mark. join_of (T.Punctuator mark)) (sym c.in-Dot.is)

pub returns-in-OpenBracket : goal.returns-in-OpenBracket
returns-in-OpenBracket c = ap (λ mark. join_of (T.Punctuator mark)) (sym c.in-OpenBracket.is)

pub returns-in-Increment : goal.returns-in-Increment
returns-in-Increment c = ap (λ mark. join_of (T.Punctuator mark)) (sym c.in-Increment.is)

pub returns-in-Decrement : goal.returns-in-Decrement
returns-in-Decrement c = ap (λ mark. join_of (T.Punctuator mark)) (sym c.in-Decrement.is)

pub returns-in-Exponent : goal.returns-in-Exponent
returns-in-Exponent c = ap (λ mark. join_of (T.Punctuator mark)) (sym c.in-Exponent.is)

pub returns-in-Star : goal.returns-in-Star
returns-in-Star c = ap (λ mark. join_of (T.Punctuator mark)) (sym c.in-Star.is)

pub returns-in-Slash : goal.returns-in-Slash
returns-in-Slash c = ap (λ mark. join_of (T.Punctuator mark)) (sym c.in-Slash.is)

pub returns-in-Percent : goal.returns-in-Percent
returns-in-Percent c = ap (λ mark. join_of (T.Punctuator mark)) (sym c.in-Percent.is)

pub returns-in-Plus : goal.returns-in-Plus
returns-in-Plus c = ap (λ mark. join_of (T.Punctuator mark)) (sym c.in-Plus.is)

pub returns-in-Minus : goal.returns-in-Minus
returns-in-Minus c = ap (λ mark. join_of (T.Punctuator mark)) (sym c.in-Minus.is)

pub returns-in-ShiftLeft : goal.returns-in-ShiftLeft
returns-in-ShiftLeft c = ap (λ mark. join_of (T.Punctuator mark)) (sym c.in-ShiftLeft.is)

pub returns-in-ShiftRight : goal.returns-in-ShiftRight
returns-in-ShiftRight c = ap (λ mark. join_of (T.Punctuator mark)) (sym c.in-ShiftRight.is)

pub returns-in-UnsignedShiftRight : goal.returns-in-UnsignedShiftRight
returns-in-UnsignedShiftRight c = ap (λ mark. join_of (T.Punctuator mark)) (sym c.in-UnsignedShiftRight.is)

pub returns-in-LessThan : goal.returns-in-LessThan
returns-in-LessThan c = ap (λ mark. join_of (T.Punctuator mark)) (sym c.in-LessThan.is)

pub returns-in-GreaterThan : goal.returns-in-GreaterThan
returns-in-GreaterThan c = ap (λ mark. join_of (T.Punctuator mark)) (sym c.in-GreaterThan.is)

pub returns-in-LessOrEqual : goal.returns-in-LessOrEqual
returns-in-LessOrEqual c = ap (λ mark. join_of (T.Punctuator mark)) (sym c.in-LessOrEqual.is)

pub returns-in-GreaterOrEqual : goal.returns-in-GreaterOrEqual
returns-in-GreaterOrEqual c = ap (λ mark. join_of (T.Punctuator mark)) (sym c.in-GreaterOrEqual.is)

pub returns-in-Equal : goal.returns-in-Equal
returns-in-Equal c = ap (λ mark. join_of (T.Punctuator mark)) (sym c.in-Equal.is)

pub returns-in-NotEqual : goal.returns-in-NotEqual
returns-in-NotEqual c = ap (λ mark. join_of (T.Punctuator mark)) (sym c.in-NotEqual.is)

pub returns-in-StrictEqual : goal.returns-in-StrictEqual
returns-in-StrictEqual c = ap (λ mark. join_of (T.Punctuator mark)) (sym c.in-StrictEqual.is)

pub returns-in-StrictNotEqual : goal.returns-in-StrictNotEqual
returns-in-StrictNotEqual c = ap (λ mark. join_of (T.Punctuator mark)) (sym c.in-StrictNotEqual.is)

pub returns-in-Ampersand : goal.returns-in-Ampersand
returns-in-Ampersand c = ap (λ mark. join_of (T.Punctuator mark)) (sym c.in-Ampersand.is)

pub returns-in-Caret : goal.returns-in-Caret
returns-in-Caret c = ap (λ mark. join_of (T.Punctuator mark)) (sym c.in-Caret.is)

pub returns-in-Bar : goal.returns-in-Bar
returns-in-Bar c = ap (λ mark. join_of (T.Punctuator mark)) (sym c.in-Bar.is)

pub returns-in-LogicalAnd : goal.returns-in-LogicalAnd
returns-in-LogicalAnd c = ap (λ mark. join_of (T.Punctuator mark)) (sym c.in-LogicalAnd.is)

pub returns-in-LogicalOr : goal.returns-in-LogicalOr
returns-in-LogicalOr c = ap (λ mark. join_of (T.Punctuator mark)) (sym c.in-LogicalOr.is)

pub returns-in-Coalesce : goal.returns-in-Coalesce
returns-in-Coalesce c = ap (λ mark. join_of (T.Punctuator mark)) (sym c.in-Coalesce.is)

pub returns-in-Question : goal.returns-in-Question
returns-in-Question c = ap (λ mark. join_of (T.Punctuator mark)) (sym c.in-Question.is)

pub returns-in-Assign : goal.returns-in-Assign
returns-in-Assign c = ap (λ mark. join_of (T.Punctuator mark)) (sym c.in-Assign.is)

pub returns-in-ExponentAssign : goal.returns-in-ExponentAssign
returns-in-ExponentAssign c = ap (λ mark. join_of (T.Punctuator mark)) (sym c.in-ExponentAssign.is)

pub returns-in-MultiplyAssign : goal.returns-in-MultiplyAssign
returns-in-MultiplyAssign c = ap (λ mark. join_of (T.Punctuator mark)) (sym c.in-MultiplyAssign.is)

pub returns-in-DivideAssign : goal.returns-in-DivideAssign
returns-in-DivideAssign c = ap (λ mark. join_of (T.Punctuator mark)) (sym c.in-DivideAssign.is)

pub returns-in-RemainderAssign : goal.returns-in-RemainderAssign
returns-in-RemainderAssign c = ap (λ mark. join_of (T.Punctuator mark)) (sym c.in-RemainderAssign.is)

pub returns-in-AddAssign : goal.returns-in-AddAssign
returns-in-AddAssign c = ap (λ mark. join_of (T.Punctuator mark)) (sym c.in-AddAssign.is)

pub returns-in-SubtractAssign : goal.returns-in-SubtractAssign
returns-in-SubtractAssign c = ap (λ mark. join_of (T.Punctuator mark)) (sym c.in-SubtractAssign.is)

pub returns-in-ShiftLeftAssign : goal.returns-in-ShiftLeftAssign
returns-in-ShiftLeftAssign c = ap (λ mark. join_of (T.Punctuator mark)) (sym c.in-ShiftLeftAssign.is)

pub returns-in-ShiftRightAssign : goal.returns-in-ShiftRightAssign
returns-in-ShiftRightAssign c = ap (λ mark. join_of (T.Punctuator mark)) (sym c.in-ShiftRightAssign.is)

pub returns-in-UnsignedShiftRightAssign : goal.returns-in-UnsignedShiftRightAssign
returns-in-UnsignedShiftRightAssign c = ap (λ mark. join_of (T.Punctuator mark)) (sym c.in-UnsignedShiftRightAssign.is)

pub returns-in-AndAssign : goal.returns-in-AndAssign
returns-in-AndAssign c = ap (λ mark. join_of (T.Punctuator mark)) (sym c.in-AndAssign.is)

pub returns-in-XorAssign : goal.returns-in-XorAssign
returns-in-XorAssign c = ap (λ mark. join_of (T.Punctuator mark)) (sym c.in-XorAssign.is)

pub returns-in-OrAssign : goal.returns-in-OrAssign
returns-in-OrAssign c = ap (λ mark. join_of (T.Punctuator mark)) (sym c.in-OrAssign.is)

pub returns-in-Arrow : goal.returns-in-Arrow
returns-in-Arrow c = ap (λ mark. join_of (T.Punctuator mark)) (sym c.in-Arrow.is)

pub returns-in-Comma : goal.returns-in-Comma
returns-in-Comma c = ap (λ mark. join_of (T.Punctuator mark)) (sym c.in-Comma.is)
