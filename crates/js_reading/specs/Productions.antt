-- The productions of the language, each a row with its sections of ECMA-262, and what a token tells of them.
use Rattle.std.specs.Prelude.{ℕ, zero, Bool, true, false, ◌&&◌, List, [], ◌∷◌, ◌++◌, Option, Some, None, codes, if◌then◌else◌, nat_le, is_some}
use Rattle.std.specs.Str.{bytes_eq, chars}
use Rattle.std.specs.Prelude.{encode_utf8_all}
use Rattle.js_terms.specs.declared.place.Loc.{Loc}
use Rattle.js_terms.specs.declared.words.Spelled.{Spelled}
use Rattle.js_terms.specs.declared.operators.BinaryOperator.{BinaryOperator}
use Rattle.js_terms.specs.declared.operators.BinaryOperator.TheVariants as b
use Rattle.js_terms.specs.declared.operators.LogicalOperator.{LogicalOperator}
use Rattle.js_terms.specs.declared.operators.LogicalOperator.TheVariants as logic
use Rattle.js_terms.specs.declared.operators.AssignmentOperator.{AssignmentOperator}
use Rattle.js_terms.specs.declared.operators.AssignmentOperator.TheVariants as assign
use Rattle.js_terms.specs.declared.operators.VariableKind.{VariableKind}
use Rattle.js_terms.specs.declared.operators.VariableKind.TheVariants as variable
use Rattle.js_terms.specs.declared.operators.UpdateOperator.{UpdateOperator}
use Rattle.js_terms.specs.declared.operators.UpdateOperator.TheVariants as up
use Rattle.js_terms.specs.declared.operators.UnaryOperator.{UnaryOperator}
use Rattle.js_terms.specs.declared.operators.UnaryOperator.TheVariants as u
use Rattle.js_tree.specs.Plain.{Expr}
use Rattle.js_tree.specs.Plain as tree
use Rattle.js_text.specs.Token.{Token, Kind, Word, EscapedWord, End}
use Rattle.js_text.specs.Token as T
use Rattle.js_text.specs.declared.punctuator.Punctuator.{Punctuator}
use Rattle.js_text.specs.declared.punctuator.Punctuator.TheVariants as P
use Rattle.js_text.specs.Identifier.{decoded}
use Rattle.js_text.specs.Units.{units_of, template_units}
use Rattle.js_reading.specs.Level.{any, assignment, binary_level, left_level, right_level, logical_level}
use Rattle.js_reading.specs.Kinds.{is_kind, is_keyword}
use Rattle.js_reading.specs.Slots.{Wanted, Level, WithoutIn, Callee, Class, BoundName, AnyName, Key, FirstText, LaterText, Choice, Slot, Sign, Text, Expr_, Stmt_, Stmts_, Items_, Place_, By, Piece, AnExpr, AWord, AKey, AText, AKind, Missing, IsComputed, IsMethod, IsIn, IsOf, Branch, Refuse, Pass, Go, Form}
use Rattle.js_reading.specs.Slots as slot

-- ---- levels: a name, a literal or what stands in brackets; a member and parentheses; a call; `new a` without arguments

abbrev pub primary : ℕ
primary = 22

abbrev pub member : ℕ
member = 21

abbrev pub call : ℕ
call = 20

abbrev pub bare : ℕ
bare = 19

-- a member of what holds a call is like a call
abbrev pub member_level : ℕ → ℕ
member_level i = if nat_le member i then member else call

-- ---- tokens

abbrev pub mark : Punctuator → Slot
mark p = Sign (T.Punctuator p)

abbrev pub word : List ℕ → Slot
word w = Sign (Word w)

abbrev pub is_mark : Punctuator → Token → Bool
is_mark p t = is_kind (T.Punctuator p) t.kind

abbrev pub is_word : List ℕ → Token → Bool
is_word w t = is_kind (Word w) t.kind

-- the name that a token with an escape stands for
abbrev pub name_of : List ℕ → List ℕ
name_of bytes = encode_utf8_all (decoded zero (chars bytes))

-- a name that is bound or referred to is no reserved word, with or without an escape (12.7.2)
abbrev pub bound_name : Kind → Option (List ℕ)
bound_name (Word w) = if is_keyword w then None else Some w
bound_name (EscapedWord w) = if is_keyword (name_of w) then None else Some (name_of w)
bound_name k = None

-- what a string or a part of a template is
abbrev pub string_of : List ℕ → Spelled
string_of bytes = record { spelling = bytes; units = units_of bytes }

abbrev pub text_of : List ℕ → Spelled
text_of bytes = record { spelling = bytes; units = template_units bytes }

-- what a token of a class leaves
abbrev pub word_piece : Loc → Option (List ℕ) → Option Piece
word_piece l None = None
word_piece l (Some w) = Some (AWord w l)

abbrev pub piece_of : Class → Kind → Loc → Option Piece
piece_of BoundName k l = word_piece l (bound_name k)
piece_of AnyName (Word w) l = Some (AWord w l)
piece_of AnyName (EscapedWord w) l = Some (AWord (name_of w) l)
piece_of Key (Word w) l = Some (AKey (tree.NameKey w) l)
piece_of Key (EscapedWord w) l = Some (AKey (tree.NameKey (name_of w)) l)
piece_of Key (T.StringLiteral w) l = Some (AKey (tree.StringKey (string_of w)) l)
piece_of Key (T.Numeral w) l = Some (AKey (tree.NumberKey w) l)
piece_of FirstText (T.TemplateHead w) l = Some (AText (text_of w))
piece_of LaterText (T.TemplateMiddle w) l = Some (AText (text_of w))
piece_of LaterText (T.TemplateTail w) l = Some (AText (text_of w))
piece_of class k l = None

abbrev pub is_class : Class → Token → Bool
is_class class t = is_some (piece_of class t.kind t.loc)

-- `__proto__` as a key that is not computed
abbrev pub is_proto_word : Kind → Bool
is_proto_word (Word w) = bytes_eq w (codes "__proto__")
is_proto_word (EscapedWord w) = bytes_eq (name_of w) (codes "__proto__")
is_proto_word (T.StringLiteral w) = bytes_eq (units_of w) (codes "__proto__")
is_proto_word k = false

-- ---- operators

abbrev pub sign_of : BinaryOperator → Kind
sign_of b.Exponentiate = T.Punctuator P.Exponent
sign_of b.Multiply = T.Punctuator P.Star
sign_of b.Divide = T.Punctuator P.Slash
sign_of b.Remainder = T.Punctuator P.Percent
sign_of b.Add = T.Punctuator P.Plus
sign_of b.Subtract = T.Punctuator P.Minus
sign_of b.LeftShift = T.Punctuator P.ShiftLeft
sign_of b.SignedRightShift = T.Punctuator P.ShiftRight
sign_of b.UnsignedRightShift = T.Punctuator P.UnsignedShiftRight
sign_of b.LessThan = T.Punctuator P.LessThan
sign_of b.GreaterThan = T.Punctuator P.GreaterThan
sign_of b.LessThanOrEqual = T.Punctuator P.LessOrEqual
sign_of b.GreaterThanOrEqual = T.Punctuator P.GreaterOrEqual
sign_of b.InstanceOf = Word (codes "instanceof")
sign_of b.In = Word (codes "in")
sign_of b.Equal = T.Punctuator P.Equal
sign_of b.NotEqual = T.Punctuator P.NotEqual
sign_of b.StrictEqual = T.Punctuator P.StrictEqual
sign_of b.StrictNotEqual = T.Punctuator P.StrictNotEqual
sign_of b.BitwiseAnd = T.Punctuator P.Ampersand
sign_of b.BitwiseXor = T.Punctuator P.Caret
sign_of b.BitwiseOr = T.Punctuator P.Bar

abbrev pub logical_sign : LogicalOperator → Punctuator
logical_sign logic.And = P.LogicalAnd
logical_sign logic.Or = P.LogicalOr
logical_sign logic.Coalesce = P.Coalesce

-- the least level of its right operand: one more than its own, but of `??` that of `|` (13.13)
abbrev pub logical_right : LogicalOperator → ℕ
logical_right logic.And = 7
logical_right logic.Or = 6
logical_right logic.Coalesce = 7

abbrev pub assignment_sign : AssignmentOperator → Punctuator
assignment_sign assign.Assign = P.Assign
assignment_sign assign.ExponentiateAssign = P.ExponentAssign
assignment_sign assign.MultiplyAssign = P.MultiplyAssign
assignment_sign assign.DivideAssign = P.DivideAssign
assignment_sign assign.RemainderAssign = P.RemainderAssign
assignment_sign assign.AddAssign = P.AddAssign
assignment_sign assign.SubtractAssign = P.SubtractAssign
assignment_sign assign.LeftShiftAssign = P.ShiftLeftAssign
assignment_sign assign.SignedRightShiftAssign = P.ShiftRightAssign
assignment_sign assign.UnsignedRightShiftAssign = P.UnsignedShiftRightAssign
assignment_sign assign.BitwiseAndAssign = P.AndAssign
assignment_sign assign.BitwiseXorAssign = P.XorAssign
assignment_sign assign.BitwiseOrAssign = P.OrAssign

abbrev pub prefix_of : UnaryOperator → Kind
prefix_of u.Delete = Word (codes "delete")
prefix_of u.Void = Word (codes "void")
prefix_of u.TypeOf = Word (codes "typeof")
prefix_of u.Plus = T.Punctuator P.Plus
prefix_of u.Minus = T.Punctuator P.Minus
prefix_of u.BitwiseNot = T.Punctuator P.Tilde
prefix_of u.LogicalNot = T.Punctuator P.Exclamation

abbrev pub update_of : UpdateOperator → Punctuator
update_of up.Increment = P.Increment
update_of up.Decrement = P.Decrement

abbrev pub variable_word : VariableKind → List ℕ
variable_word variable.Var = codes "var"
variable_word variable.Let = codes "let"
variable_word variable.Const = codes "const"

-- ---- the rows

-- statements in braces, with the places of both (14.2)
abbrev pub braces : List Slot
braces = mark P.OpenBrace ∷ Place_ ∷ Stmts_ ∷ mark P.CloseBrace ∷ Place_ ∷ []

-- parameters and body (15.2)
abbrev pub callable : List Slot
callable = mark P.OpenParenthesis ∷ By slot.Parameters ∷ braces

-- what is in the parentheses of a `while` or an `if`
abbrev pub tested : List Slot
tested = mark P.OpenParenthesis ∷ Expr_ (Level any) ∷ mark P.CloseParenthesis ∷ []

abbrev pub slots : Form → List Slot
-- 13.2.9 and 15.3; 13.2.4, 13.2.5, 13.2.8, 15.2
slots slot.Parentheses = mark P.OpenParenthesis ∷ Items_ P.CloseParenthesis ∷ By slot.Arrow ∷ []
slots slot.ArrayLiteral = mark P.OpenBracket ∷ Items_ P.CloseBracket ∷ []
slots slot.ObjectLiteral = mark P.OpenBrace ∷ By slot.Properties ∷ []
slots slot.Template = Text FirstText ∷ Expr_ (Level any) ∷ By slot.TemplateRest ∷ []
slots slot.FunctionExpression = word (codes "function") ∷ By slot.FunctionName ∷ callable
-- 13.3
slots slot.New = word (codes "new") ∷ Expr_ Callee ∷ By slot.Arguments ∷ []
slots slot.Call = Expr_ (Level call) ∷ mark P.OpenParenthesis ∷ Items_ P.CloseParenthesis ∷ []
slots slot.Dot = Expr_ (Level call) ∷ mark P.Dot ∷ Text AnyName ∷ []
slots slot.Member = Expr_ (Level call) ∷ mark P.OpenBracket ∷ Expr_ (Level any) ∷ mark P.CloseBracket ∷ []
-- 13.4, 13.5
slots (slot.Postfix o) = Expr_ (Level call) ∷ mark (update_of o) ∷ []
slots (slot.PrefixUpdate o) = mark (update_of o) ∷ Expr_ (Level 16) ∷ []
slots (slot.Unary o) = Sign (prefix_of o) ∷ Expr_ (Level 16) ∷ []
-- 13.6 to 13.12, 13.13, 13.14
slots (slot.Binary o) = Expr_ (Level (left_level o)) ∷ Sign (sign_of o) ∷ Expr_ (Level (right_level o)) ∷ []
slots (slot.Logical o) = Expr_ (Level (logical_level o)) ∷ mark (logical_sign o) ∷ Expr_ (Level (logical_right o)) ∷ []
slots slot.Conditional = Expr_ (Level 4) ∷ mark P.Question ∷ Expr_ (Level assignment) ∷ mark P.Colon ∷ Expr_ (Level assignment) ∷ []
-- 13.15, 15.3, 13.16
slots (slot.Assignment o) = Expr_ (Level call) ∷ mark (assignment_sign o) ∷ Expr_ (Level assignment) ∷ []
slots slot.ArrowOfName = Expr_ (Level primary) ∷ mark P.Arrow ∷ By slot.ConciseBody ∷ []
slots slot.Comma = Expr_ (Level any) ∷ mark P.Comma ∷ Expr_ (Level assignment) ∷ []
-- 14.5, 14.13, 14.2, 14.3.1, 14.3.2, 15.2, 14.4
slots slot.Expression = Expr_ (Level any) ∷ By slot.Semicolon ∷ []
slots slot.Labelled = Expr_ (Level primary) ∷ mark P.Colon ∷ Stmt_ ∷ []
slots slot.Block = mark P.OpenBrace ∷ Stmts_ ∷ mark P.CloseBrace ∷ []
slots (slot.Variables k) = word (variable_word k) ∷ Text BoundName ∷ By slot.Initializer ∷ By slot.Declarators ∷ By slot.Semicolon ∷ []
slots slot.FunctionDeclaration = word (codes "function") ∷ Text BoundName ∷ callable
slots slot.Empty = mark P.Semicolon ∷ []
-- 14.6, 14.7
slots slot.If = word (codes "if") ∷ (tested ++ Stmt_ ∷ By slot.Else ∷ [])
slots slot.For = word (codes "for") ∷ mark P.OpenParenthesis ∷ By slot.Head ∷ []
slots slot.While = word (codes "while") ∷ (tested ++ Stmt_ ∷ [])
slots slot.DoWhile = word (codes "do") ∷ Stmt_ ∷ word (codes "while") ∷ (tested ++ By slot.SemicolonOfDo ∷ [])
-- 14.8, 14.9, 14.10, 14.12, 14.14, 14.15, 14.16
slots slot.Continue = word (codes "continue") ∷ By slot.LabelOnLine ∷ By slot.Semicolon ∷ []
slots slot.Break = word (codes "break") ∷ By slot.LabelOnLine ∷ By slot.Semicolon ∷ []
slots slot.Return = word (codes "return") ∷ By slot.ValueOnLine ∷ By slot.Semicolon ∷ []
slots slot.Switch = word (codes "switch") ∷ (tested ++ mark P.OpenBrace ∷ By slot.Clauses ∷ [])
slots slot.Throw = word (codes "throw") ∷ By slot.OnLine ∷ Expr_ (Level any) ∷ By slot.Semicolon ∷ []
slots slot.Try = word (codes "try") ∷ mark P.OpenBrace ∷ Stmts_ ∷ mark P.CloseBrace ∷ By slot.Handler ∷ []
slots slot.Debugger = word (codes "debugger") ∷ By slot.Semicolon ∷ []

-- ---- which production a token begins, or goes on with

abbrev pub begins_with : List Slot → Token → Bool
begins_with (Sign k ∷ ss) t = is_kind k t.kind
begins_with (Text class ∷ ss) t = is_class class t
begins_with ss t = false

abbrev pub after_first : List Slot → List Slot
after_first [] = []
after_first (s ∷ ss) = ss

abbrev pub find : (List Slot → List Slot) → List Form → Token → Option Form
find part [] t = None
find part (f ∷ fs) t = if begins_with (part (slots f)) t then Some f else find part fs t

-- expressions that begin with a token, and those that go on with one
abbrev pub prefixes : List Form
prefixes =
    slot.Parentheses ∷ slot.ArrayLiteral ∷ slot.ObjectLiteral ∷ slot.Template ∷ slot.FunctionExpression ∷ slot.New ∷ slot.PrefixUpdate up.Increment ∷ slot.PrefixUpdate up.Decrement ∷ slot.Unary u.Delete ∷
    slot.Unary u.Void ∷ slot.Unary u.TypeOf ∷ slot.Unary u.Plus ∷ slot.Unary u.Minus ∷ slot.Unary u.BitwiseNot ∷ slot.Unary u.LogicalNot ∷ []

abbrev pub joins : List Form
joins =
    slot.Call ∷ slot.Dot ∷ slot.Member ∷ slot.Postfix up.Increment ∷ slot.Postfix up.Decrement ∷ slot.Binary b.Exponentiate ∷ slot.Binary b.Multiply ∷ slot.Binary b.Divide ∷ slot.Binary b.Remainder ∷
    slot.Binary b.Add ∷ slot.Binary b.Subtract ∷ slot.Binary b.LeftShift ∷ slot.Binary b.SignedRightShift ∷ slot.Binary b.UnsignedRightShift ∷ slot.Binary b.LessThan ∷ slot.Binary b.GreaterThan ∷
    slot.Binary b.LessThanOrEqual ∷ slot.Binary b.GreaterThanOrEqual ∷ slot.Binary b.InstanceOf ∷ slot.Binary b.In ∷ slot.Binary b.Equal ∷ slot.Binary b.NotEqual ∷ slot.Binary b.StrictEqual ∷
    slot.Binary b.StrictNotEqual ∷ slot.Binary b.BitwiseAnd ∷ slot.Binary b.BitwiseXor ∷ slot.Binary b.BitwiseOr ∷ slot.Logical logic.And ∷ slot.Logical logic.Or ∷ slot.Logical logic.Coalesce ∷ slot.Conditional ∷
    slot.Assignment assign.Assign ∷ slot.Assignment assign.ExponentiateAssign ∷ slot.Assignment assign.MultiplyAssign ∷ slot.Assignment assign.DivideAssign ∷ slot.Assignment assign.RemainderAssign ∷
    slot.Assignment assign.AddAssign ∷ slot.Assignment assign.SubtractAssign ∷ slot.Assignment assign.LeftShiftAssign ∷ slot.Assignment assign.SignedRightShiftAssign ∷
    slot.Assignment assign.UnsignedRightShiftAssign ∷ slot.Assignment assign.BitwiseAndAssign ∷ slot.Assignment assign.BitwiseXorAssign ∷ slot.Assignment assign.BitwiseOrAssign ∷ slot.ArrowOfName ∷ slot.Comma ∷ []

abbrev pub statements : List Form
statements =
    slot.Block ∷ slot.Variables variable.Var ∷ slot.Variables variable.Let ∷ slot.Variables variable.Const ∷ slot.FunctionDeclaration ∷ slot.Empty ∷ slot.If ∷ slot.For ∷ slot.While ∷ slot.DoWhile ∷
    slot.Continue ∷ slot.Break ∷ slot.Return ∷ slot.Switch ∷ slot.Throw ∷ slot.Try ∷ slot.Debugger ∷ []

abbrev pub as_it_is : List Slot → List Slot
as_it_is ss = ss

-- the expression, or the statement, that a token begins
abbrev pub prefix : Token → Option Form
prefix t = find as_it_is prefixes t

abbrev pub statement : Token → Option Form
statement t = find as_it_is statements t

-- no line terminator may stand before the token of these (13.4, 15.3)
abbrev pub same_line : Form → Bool
same_line (slot.Postfix o) = true
same_line slot.ArrowOfName = true
same_line f = false

abbrev pub on_line : Token → Option Form → Option Form
on_line t None = None
on_line t (Some f) = if same_line f && t.line_terminator_before then None else Some f

-- the expression that goes on with a token
abbrev pub join : Token → Option Form
join t = on_line t (find after_first joins t)

-- the level that it makes, and the least that it asks of what it goes on with
abbrev pub form_level : Form → ℕ
form_level slot.Call = call
form_level slot.Dot = member
form_level slot.Member = member
form_level (slot.Postfix o) = 17
form_level (slot.Binary o) = binary_level o
form_level (slot.Logical o) = logical_level o
form_level slot.Conditional = 3
form_level (slot.Assignment o) = assignment
form_level slot.ArrowOfName = assignment
form_level slot.Comma = any
form_level f = 0

abbrev pub strength : Option Form → ℕ
strength None = 0
strength (Some f) = form_level f

abbrev pub first_level : List Slot → ℕ
first_level (Expr_ (Level n) ∷ ss) = n
first_level ss = 0

abbrev pub wants : Option Form → ℕ
wants None = 0
wants (Some f) = first_level (slots f)
