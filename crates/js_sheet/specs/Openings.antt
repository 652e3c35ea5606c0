-- With what an expression begins, as far as a statement or a body may not begin so, and whether `in` stands bare in it: by its form, once its
-- parts have their parentheses.
use Rattle.std.specs.Prelude.{Bool, true, false, not, ◌&&◌, ◌||◌, List, [], ◌∷◌, codes, if◌then◌else◌, nat_lt}
use Rattle.std.specs.Str.{bytes_eq}
use Rattle.js_terms.specs.declared.operators.BinaryOperator.{BinaryOperator}
use Rattle.js_terms.specs.declared.operators.BinaryOperator.TheVariants as b
use Rattle.js_terms.specs.declared.operators.LogicalOperator.{LogicalOperator}
use Rattle.js_terms.specs.declared.operators.LogicalOperator.TheVariants as logic
use Rattle.js_tree.specs.Plain.{Expr, IdentifierReference, StringLiteral, ObjectLiteral, FunctionExpression, ArrowFunction, Parenthesized, NamedMember, ComputedMember, Call, PostfixUpdate, PrefixUpdate, Unary, Binary, Logical, Conditional, Assignment, Comma, Entered, ExpressionBody}
use Rattle.js_text.specs.declared.punctuator.Punctuator.TheVariants as P
use Rattle.js_text.specs.Token.{Kind, Word}
use Rattle.js_text.specs.Token as T
use Rattle.js_spelling.specs.Written.{Written}
use Rattle.js_reading.specs.Level.{left_level, right_level, logical_level}
use Rattle.js_reading.specs.Productions.{call, logical_right}
use Rattle.js_layout.specs.Neat.{level}
use Rattle.js_sheet.specs.declared.opening.Opening.{Opening}
use Rattle.js_sheet.specs.declared.opening.Opening.TheVariants as first

-- ---- of tokens

abbrev pub opening_kind : Kind → Opening
opening_kind (T.Punctuator P.OpenBrace) = first.Brace
opening_kind (Word w) = if bytes_eq w (codes "function") then first.Function else first.Other
opening_kind k = first.Other

abbrev pub opening : List Written → Opening
opening [] = first.Other
opening (t ∷ ts) = opening_kind t.kind

-- ---- of expressions

-- `&&` or `||`, in pairs or without
abbrev pub mixes : Expr → Bool
mixes (Parenthesized l e) = mixes e
mixes (Logical l logic.And x y) = true
mixes (Logical l logic.Or x y) = true
mixes e = false

-- the left operand of a logical operator stands in parentheses
abbrev pub left_in_pair : LogicalOperator → Expr → Bool
left_in_pair logic.Coalesce e = nat_lt (level e) (logical_level logic.Coalesce) || mixes e
left_in_pair o e = nat_lt (level e) (logical_level o)

abbrev pub unless_pair : Bool → Opening → Opening
unless_pair pair o = if pair then first.Other else o

abbrev pub opens : Expr → Opening
opens (IdentifierReference l w) = if bytes_eq w (codes "function") then first.Function else first.Other
opens (ObjectLiteral l ps) = first.Brace
opens (FunctionExpression l n f) = first.Function
opens (Parenthesized l e) = opens e
opens (NamedMember l o w) = unless_pair (nat_lt (level o) call) (opens o)
opens (ComputedMember l o k) = unless_pair (nat_lt (level o) call) (opens o)
opens (Call l f xs) = unless_pair (nat_lt (level f) call) (opens f)
opens (PostfixUpdate l o e) = unless_pair (nat_lt (level e) call) (opens e)
opens (Assignment l o x y) = unless_pair (nat_lt (level x) call) (opens x)
opens (Binary l o x y) = unless_pair (nat_lt (level x) (left_level o)) (opens x)
opens (Logical l o x y) = unless_pair (left_in_pair o x) (opens x)
opens (Conditional l c x y) = unless_pair (nat_lt (level c) 4) (opens c)
opens (Comma l x y) = opens x
opens (Entered m e) = opens e
opens e = first.Other

-- a body that stands in parentheses
abbrev pub is_brace_opening : Opening → Bool
is_brace_opening first.Brace = true
is_brace_opening o = false

abbrev pub is_barred_opening : Opening → Bool
is_barred_opening first.Other = false
is_barred_opening o = true

abbrev pub body_in_pair : Expr → Bool
body_in_pair e = nat_lt (level e) 2 || is_brace_opening (opens e)

-- a string, in pairs or without
abbrev pub is_text : Expr → Bool
is_text (Parenthesized l e) = is_text e
is_text (StringLiteral l s) = true
is_text e = false

abbrev pub statement_in_pair : Expr → Bool
statement_in_pair e = is_barred_opening (opens e) || is_text e

abbrev pub is_in : BinaryOperator → Bool
is_in b.In = true
is_in _ = false

-- `in` is bare in an expression, and in a part whose place asks for a level
abbrev pub bares : Expr → Bool
bares (Parenthesized l e) = bares e
bares (Binary l o x y) = is_in o || ((not (nat_lt (level x) (left_level o)) && bares x) || (not (nat_lt (level y) (right_level o)) && bares y))
bares (Logical l o x y) = (not (left_in_pair o x) && bares x) || (not (nat_lt (level y) (logical_right o)) && bares y)
bares (Conditional l c x y) = (not (nat_lt (level c) 4) && bares c) || (not (nat_lt (level y) 2) && bares y)
bares (Assignment l o x y) = not (nat_lt (level y) 2) && bares y
bares (Comma l x y) = bares x || (not (nat_lt (level y) 2) && bares y)
bares (Unary l o e) = not (nat_lt (level e) 16) && bares e
bares (PrefixUpdate l o e) = not (nat_lt (level e) 16) && bares e
bares (ArrowFunction l n ps (ExpressionBody e)) = not (body_in_pair e) && bares e
bares e = false

-- an initializer, in the head of a `for` or elsewhere, that stands in parentheses
abbrev pub initializer_in_pair : Bool → Expr → Bool
initializer_in_pair head e = nat_lt (level e) 2 || (head && bares e)
