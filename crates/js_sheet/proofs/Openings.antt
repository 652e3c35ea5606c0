-- What the code looks at is what the layout asks: with what the tokens begin, and whether `in` stands bare.
use Rattle.std.proofs.Common.{◌≡◌, ◌∙◌, ℕ, Bool, true, false, not, ◌&&◌, List, [], ◌∷◌, ◌++◌, Option, Some, None, refl, sym, ap, if◌then◌else◌}
use Rattle.std.specs.Prelude.{◌||◌, nat_lt}
use Rattle.js_terms.specs.declared.place.Loc.{Loc}
use Rattle.js_terms.specs.declared.operators.BinaryOperator.TheVariants as b
use Rattle.js_terms.specs.declared.operators.BinaryOperator.{BinaryOperator}
use Rattle.js_terms.specs.declared.operators.LogicalOperator.{LogicalOperator}
use Rattle.js_terms.specs.declared.operators.LogicalOperator.TheVariants as logic
use Rattle.js_tree.specs.Plain as tree
use Rattle.js_tree.specs.Plain.{Expr}
use Rattle.js_terms.specs.declared.operators.UpdateOperator.TheVariants as up
use Rattle.js_terms.specs.declared.operators.UnaryOperator.TheVariants as u
use Rattle.std.specs.Prelude.{codes}
use Rattle.std.specs.Str.{bytes_eq}
use Rattle.js_text.specs.declared.punctuator.Punctuator.TheVariants as P
use Rattle.js_text.specs.Token.{Kind, Word}
use Rattle.js_text.specs.Token as T
use Rattle.js_spelling.specs.Written.{Written}
use Rattle.js_reading.specs.Level.{left_level, right_level}
use Rattle.js_reading.specs.Productions.{logical_right}
use Rattle.js_reading.specs.Makes.{bare_in, is_and_or}
use Rattle.js_layout.specs.Tokens.{begun, expr_tokens}
use Rattle.js_layout.specs.Neat.{level, first_is, is_brace, is_function, is_string, paired, placed, left_operand, as_statement, as_initializer, as_body, neat_expr}
use Rattle.js_sheet.specs.declared.opening.Opening.TheVariants as first
use Rattle.js_sheet.specs.Openings.{opening, opening_kind, mixes, is_text, left_in_pair, unless_pair, opens, is_brace_opening, is_barred_opening, body_in_pair, statement_in_pair, initializer_in_pair, bares}
use Rattle.js_sheet.proofs.Puts.{HasToken, has_expr}

-- ---- of tokens

opening_begun : (l : Option Loc) (ts : List Written) → opening (begun l ts) ≡ opening ts
opening_begun None ts = refl
opening_begun (Some l) [] = refl
opening_begun (Some l) (t ∷ ts) = refl

opening_append : {ts : List Written} (us : List Written) → HasToken ts → opening (ts ++ us) ≡ opening ts
opening_append us h = ap (λ ts. opening (ts ++ us)) h.are ∙ sym (ap opening h.are)

-- a part begins what it is the first part of
opening_part : (l : Option Loc) (e : Expr) (us : List Written) → opening (begun l (expr_tokens e ++ us)) ≡ opening (expr_tokens e)
opening_part l e us = opening_begun l (expr_tokens e ++ us) ∙ opening_append us (has_expr e)

opening_paired : (pair : Bool) (e x : Expr) → opening (expr_tokens (paired pair e x)) ≡ unless_pair pair (opening (expr_tokens x))
opening_paired false e x = refl
opening_paired true (tree.Parenthesized l e) x = opening_begun l _
opening_paired true e x = refl

-- ---- `&&`, `||` and strings

mixes_is : (e : Expr) → is_and_or (neat_expr e) ≡ mixes e
mixes_is (tree.Parenthesized l e) = mixes_is e
mixes_is (tree.Logical l logic.And x y) = refl
mixes_is (tree.Logical l logic.Or x y) = refl
mixes_is (tree.Logical l logic.Coalesce x y) = refl
mixes_is e = refl

text_is : (e : Expr) → is_string (neat_expr e) ≡ is_text e
text_is (tree.Parenthesized l e) = text_is e
text_is e = refl

pub left_is : (o : LogicalOperator) (e x : Expr) → x ≡ neat_expr e → left_operand o e x ≡ paired (left_in_pair o e) e x
left_is logic.Coalesce e x h = ap (λ m. paired (nat_lt (level e) 4 || m) e x) (ap is_and_or h ∙ mixes_is e)
left_is logic.And e x h = refl
left_is logic.Or e x h = refl

-- ---- what an expression begins with

pub opens_is : (e : Expr) → opening (expr_tokens (neat_expr e)) ≡ opens e
opens_is (tree.Parenthesized l e) = opens_is e
opens_is (tree.NamedMember l o w) = opening_part l (placed 20 o (neat_expr o)) _ ∙ opening_paired (nat_lt (level o) 20) o (neat_expr o) ∙ ap (unless_pair (nat_lt (level o) 20)) (opens_is o)
opens_is (tree.ComputedMember l o k) = opening_part l (placed 20 o (neat_expr o)) _ ∙ opening_paired (nat_lt (level o) 20) o (neat_expr o) ∙ ap (unless_pair (nat_lt (level o) 20)) (opens_is o)
opens_is (tree.Call l f xs) = opening_part l (placed 20 f (neat_expr f)) _ ∙ opening_paired (nat_lt (level f) 20) f (neat_expr f) ∙ ap (unless_pair (nat_lt (level f) 20)) (opens_is f)
opens_is (tree.PostfixUpdate l o e) = opening_part l (placed 20 e (neat_expr e)) _ ∙ opening_paired (nat_lt (level e) 20) e (neat_expr e) ∙ ap (unless_pair (nat_lt (level e) 20)) (opens_is e)
opens_is (tree.Assignment l o x y) = opening_part l (placed 20 x (neat_expr x)) _ ∙ opening_paired (nat_lt (level x) 20) x (neat_expr x) ∙ ap (unless_pair (nat_lt (level x) 20)) (opens_is x)
opens_is (tree.Binary l o x y) = opening_part l (placed (left_level o) x (neat_expr x)) _ ∙ opening_paired (nat_lt (level x) (left_level o)) x (neat_expr x) ∙ ap (unless_pair (nat_lt (level x) (left_level o))) (opens_is x)
opens_is (tree.Logical l o x y) =
    opening_part l (left_operand o x (neat_expr x)) _ ∙ ap (λ e. opening (expr_tokens e)) (left_is o x (neat_expr x) refl)
    ∙ opening_paired (left_in_pair o x) x (neat_expr x) ∙ ap (unless_pair (left_in_pair o x)) (opens_is x)
opens_is (tree.Conditional l c x y) = opening_part l (placed 4 c (neat_expr c)) _ ∙ opening_paired (nat_lt (level c) 4) c (neat_expr c) ∙ ap (unless_pair (nat_lt (level c) 4)) (opens_is c)
opens_is (tree.Comma l x y) = opening_part l (neat_expr x) _ ∙ opens_is x
opens_is (tree.Entered m e) = opens_is e
opens_is (tree.IdentifierReference l w) = opening_begun l _
opens_is (tree.This l) = opening_begun l _
opens_is (tree.NullLiteral l) = opening_begun l _
opens_is (tree.BooleanLiteral l true) = opening_begun l _
opens_is (tree.BooleanLiteral l false) = opening_begun l _
opens_is (tree.NumericLiteral l w) = opening_begun l _
opens_is (tree.StringLiteral l s) = opening_begun l _
opens_is (tree.ArrayLiteral l xs) = opening_begun l _
opens_is (tree.ObjectLiteral l ps) = opening_begun l _
opens_is (tree.FunctionExpression l n f) = opening_begun l _
opens_is (tree.ArrowFunction l n ps body) = opening_begun l _
opens_is (tree.RegularExpressionLiteral l body flags) = opening_begun l _
opens_is (tree.TemplateLiteral l s tree.no_template_part) = opening_begun l _
opens_is (tree.TemplateLiteral l s (tree.more_template_part (tree.MakeTemplatePart e t) ps)) = opening_begun l _
opens_is (tree.New l c xs) = opening_begun l _
opens_is (tree.PrefixUpdate l up.Increment e) = opening_begun l _
opens_is (tree.PrefixUpdate l up.Decrement e) = opening_begun l _
opens_is (tree.Unary l u.Delete e) = opening_begun l _
opens_is (tree.Unary l u.Void e) = opening_begun l _
opens_is (tree.Unary l u.TypeOf e) = opening_begun l _
opens_is (tree.Unary l u.Plus e) = opening_begun l _
opens_is (tree.Unary l u.Minus e) = opening_begun l _
opens_is (tree.Unary l u.BitwiseNot e) = opening_begun l _
opens_is (tree.Unary l u.LogicalNot e) = opening_begun l _

-- ---- which pairs that asks for

brace_word : (x : Bool) → false ≡ is_brace_opening (if x then first.Function else first.Other)
brace_word true = refl
brace_word false = refl

brace_kind : (k : Kind) → is_brace k ≡ is_brace_opening (opening_kind k)
brace_kind (T.Punctuator P.OpenBrace) = refl
brace_kind (T.Punctuator p) = refl
brace_kind (Word w) = brace_word (bytes_eq w (codes "function"))
brace_kind k = refl

barred_word : (x : Bool) → x ≡ is_barred_opening (if x then first.Function else first.Other)
barred_word true = refl
barred_word false = refl

barred_kind : (k : Kind) → (is_brace k || is_function k) ≡ is_barred_opening (opening_kind k)
barred_kind (T.Punctuator P.OpenBrace) = refl
barred_kind (T.Punctuator p) = refl
barred_kind (Word w) = barred_word (bytes_eq w (codes "function"))
barred_kind k = refl

brace_first : (ts : List Written) → first_is is_brace ts ≡ is_brace_opening (opening ts)
brace_first [] = refl
brace_first (t ∷ ts) = brace_kind t.kind

barred_first : (ts : List Written) → (first_is is_brace ts || first_is is_function ts) ≡ is_barred_opening (opening ts)
barred_first [] = refl
barred_first (t ∷ ts) = barred_kind t.kind

pub statement_is : (e : Expr) → as_statement e (neat_expr e) ≡ paired (statement_in_pair e) e (neat_expr e)
statement_is e =
    let ts = expr_tokens (neat_expr e) in
    ap (λ pair. paired pair e (neat_expr e))
    (ap (λ x. x || is_string (neat_expr e)) (barred_first ts ∙ ap is_barred_opening (opens_is e))
    ∙ ap (λ x. is_barred_opening (opens e) || x) (text_is e))

pub body_is : (e : Expr) → as_body e (neat_expr e) ≡ paired (body_in_pair e) e (neat_expr e)
body_is e = ap (λ x. paired (nat_lt (level e) 2 || x) e (neat_expr e)) (brace_first (expr_tokens (neat_expr e)) ∙ ap is_brace_opening (opens_is e))

pub left_pair : (o : LogicalOperator) (e : Expr) → left_operand o e (neat_expr e) ≡ paired (left_in_pair o e) e (neat_expr e)
left_pair o e = left_is o e (neat_expr e) refl

-- ---- a bare `in`

bare_paired : (pair : Bool) (e x : Expr) → bare_in (paired pair e x) ≡ (not pair && bare_in x)
bare_paired false e x = refl
bare_paired true (tree.Parenthesized l e) x = refl
bare_paired true e x = refl

bare_part : (n : ℕ) (e : Expr) → bare_in (neat_expr e) ≡ bares e → bare_in (placed n e (neat_expr e)) ≡ (not (nat_lt (level e) n) && bares e)
bare_part n e h = bare_paired (nat_lt (level e) n) e (neat_expr e) ∙ ap (λ x. not (nat_lt (level e) n) && x) h

either : {x y v w : Bool} → x ≡ v → y ≡ w → (x || y) ≡ (v || w)
either {x = x} {w = w} p q = ap (λ z. x || z) q ∙ ap (λ z. z || w) p

bare_binary : (l : Option Loc) (o : BinaryOperator) (x y : Expr) → bare_in (neat_expr x) ≡ bares x → bare_in (neat_expr y) ≡ bares y → bare_in (neat_expr (tree.Binary l o x y)) ≡ bares (tree.Binary l o x y)
bare_binary l b.In x y hx hy = refl
bare_binary l b.Exponentiate x y hx hy = either (bare_part (left_level b.Exponentiate) x hx) (bare_part (right_level b.Exponentiate) y hy)
bare_binary l o x y hx hy = either (bare_part (left_level o) x hx) (bare_part (right_level o) y hy)

pub bares_is : (e : Expr) → bare_in (neat_expr e) ≡ bares e
bares_is (tree.Parenthesized l e) = bares_is e
bares_is (tree.Binary l o x y) = bare_binary l o x y (bares_is x) (bares_is y)
bares_is (tree.Logical l o x y) =
    either (ap bare_in (left_pair o x) ∙ bare_paired (left_in_pair o x) x (neat_expr x) ∙ ap (λ z. not (left_in_pair o x) && z) (bares_is x)) (bare_part (logical_right o) y (bares_is y))
bares_is (tree.Conditional l c x y) = either (bare_part 4 c (bares_is c)) (bare_part 2 y (bares_is y))
bares_is (tree.Assignment l o x y) = bare_part 2 y (bares_is y)
bares_is (tree.Comma l x y) = either (bares_is x) (bare_part 2 y (bares_is y))
bares_is (tree.Unary l o e) = bare_part 16 e (bares_is e)
bares_is (tree.PrefixUpdate l o e) = bare_part 16 e (bares_is e)
bares_is (tree.ArrowFunction l n ps (tree.ExpressionBody e)) = ap bare_in (body_is e) ∙ bare_paired (body_in_pair e) e (neat_expr e) ∙ ap (λ z. not (body_in_pair e) && z) (bares_is e)
bares_is (tree.ArrowFunction l n ps (tree.BlockBody body)) = refl
bares_is (tree.Entered m e) = refl
bares_is e = refl

pub initializer_is : (head : Bool) (e : Expr) → as_initializer head e (neat_expr e) ≡ paired (initializer_in_pair head e) e (neat_expr e)
initializer_is head e = ap (λ b. paired (nat_lt (level e) 2 || (head && b)) e (neat_expr e)) (bares_is e)
