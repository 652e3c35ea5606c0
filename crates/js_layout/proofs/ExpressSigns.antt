-- What the signs of operators and brackets begin, or go on with.
use Rattle.std.proofs.Common.{◌≡◌, ℕ, ◌<◌, ◌≤◌, false, List, Some, None, refl, sym, ap, subst, ◌∙◌, arith}
use Rattle.std.specs.Prelude.{codes}
use Rattle.js_terms.specs.declared.operators.BinaryOperator.{BinaryOperator}
use Rattle.js_terms.specs.declared.operators.BinaryOperator.TheVariants as b
use Rattle.js_terms.specs.declared.operators.LogicalOperator.{LogicalOperator}
use Rattle.js_terms.specs.declared.operators.LogicalOperator.TheVariants as logic
use Rattle.js_terms.specs.declared.operators.AssignmentOperator.{AssignmentOperator}
use Rattle.js_terms.specs.declared.operators.AssignmentOperator.TheVariants as assign
use Rattle.js_terms.specs.declared.operators.UpdateOperator.{UpdateOperator}
use Rattle.js_terms.specs.declared.operators.UpdateOperator.TheVariants as up
use Rattle.js_terms.specs.declared.operators.UnaryOperator.{UnaryOperator}
use Rattle.js_terms.specs.declared.operators.UnaryOperator.TheVariants as u
use Rattle.js_text.specs.Token.{Token, Kind, Word}
use Rattle.js_text.specs.Token as T
use Rattle.js_text.specs.declared.punctuator.Punctuator.TheVariants as P
use Rattle.js_reading.specs.Kinds.{is_kind}
use Rattle.js_reading.specs.declared.form.Form.{Form}
use Rattle.js_reading.specs.declared.form.Form.TheVariants as slot
use Rattle.js_reading.specs.Productions.{sign_of, logical_sign, assignment_sign, prefix_of, update_of, prefix, join, on_line, strength, form_level}
use Rattle.js_reading.specs.Sentences.{stands_for}
use Rattle.js_layout.proofs.Follows.{Quiet}

-- a token of this kind
abbrev pub of_kind : Token → Kind → Token
of_kind t k = record t { kind = k }

pub known : (t : Token) (k : Kind) → t.kind ≡ k → t ≡ of_kind t k
known t k h = ap (λ j. of_kind t j) h

-- ---- operators between two operands, and what goes on with one

pub join_binary : (o : BinaryOperator) (t : Token) → t.kind ≡ sign_of o → join t ≡ Some (slot.Binary o)
join_binary b.Exponentiate t h = ap join (known t (sign_of b.Exponentiate) h)
join_binary o t h = ap join (known t (sign_of o) h)

pub join_logical : (o : LogicalOperator) (t : Token) → t.kind ≡ T.Punctuator (logical_sign o) → join t ≡ Some (slot.Logical o)
join_logical logic.And t h = ap join (known t (T.Punctuator (logical_sign logic.And)) h)
join_logical o t h = ap join (known t (T.Punctuator (logical_sign o)) h)

pub join_assignment : (o : AssignmentOperator) (t : Token) → t.kind ≡ T.Punctuator (assignment_sign o) → join t ≡ Some (slot.Assignment o)
join_assignment assign.Assign t h = ap join (known t (T.Punctuator (assignment_sign assign.Assign)) h)
join_assignment o t h = ap join (known t (T.Punctuator (assignment_sign o)) h)

-- on the line
pub join_update : (o : UpdateOperator) (t : Token) → t.kind ≡ T.Punctuator (update_of o) → t.line_terminator_before ≡ false → join t ≡ Some (slot.Postfix o)
join_update up.Increment t h line = ap join (known t (T.Punctuator (update_of up.Increment)) h) ∙ ap (λ c. on_line (record t { line_terminator_before = c }) (Some (slot.Postfix up.Increment))) line
join_update up.Decrement t h line = ap join (known t (T.Punctuator (update_of up.Decrement)) h) ∙ ap (λ c. on_line (record t { line_terminator_before = c }) (Some (slot.Postfix up.Decrement))) line

pub join_question : (t : Token) → t.kind ≡ T.Punctuator P.Question → join t ≡ Some slot.Conditional
join_question t h = ap join (known t (T.Punctuator P.Question) h)

pub join_comma : (t : Token) → t.kind ≡ T.Punctuator P.Comma → join t ≡ Some slot.Comma
join_comma t h = ap join (known t (T.Punctuator P.Comma) h)

pub join_dot : (t : Token) → t.kind ≡ T.Punctuator P.Dot → join t ≡ Some slot.Dot
join_dot t h = ap join (known t (T.Punctuator P.Dot) h)

pub join_bracket : (t : Token) → t.kind ≡ T.Punctuator P.OpenBracket → join t ≡ Some slot.Member
join_bracket t h = ap join (known t (T.Punctuator P.OpenBracket) h)

pub join_parenthesis : (t : Token) → t.kind ≡ T.Punctuator P.OpenParenthesis → join t ≡ Some slot.Call
join_parenthesis t h = ap join (known t (T.Punctuator P.OpenParenthesis) h)

-- ---- what begins an expression

pub prefix_unary : (o : UnaryOperator) (t : Token) → t.kind ≡ prefix_of o → prefix t ≡ Some (slot.Unary o)
prefix_unary u.Delete t h = ap prefix (known t (prefix_of u.Delete) h)
prefix_unary o t h = ap prefix (known t (prefix_of o) h)

pub prefix_update : (o : UpdateOperator) (t : Token) → t.kind ≡ T.Punctuator (update_of o) → prefix t ≡ Some (slot.PrefixUpdate o)
prefix_update up.Increment t h = ap prefix (known t (T.Punctuator (update_of up.Increment)) h)
prefix_update up.Decrement t h = ap prefix (known t (T.Punctuator (update_of up.Decrement)) h)

pub prefix_parenthesis : (t : Token) → t.kind ≡ T.Punctuator P.OpenParenthesis → prefix t ≡ Some slot.Parentheses
prefix_parenthesis t h = ap prefix (known t (T.Punctuator P.OpenParenthesis) h)

pub prefix_bracket : (t : Token) → t.kind ≡ T.Punctuator P.OpenBracket → prefix t ≡ Some slot.ArrayLiteral
prefix_bracket t h = ap prefix (known t (T.Punctuator P.OpenBracket) h)

pub prefix_brace : (t : Token) → t.kind ≡ T.Punctuator P.OpenBrace → prefix t ≡ Some slot.ObjectLiteral
prefix_brace t h = ap prefix (known t (T.Punctuator P.OpenBrace) h)

pub prefix_function : (t : Token) → t.kind ≡ Word (codes "function") → prefix t ≡ Some slot.FunctionExpression
prefix_function t h = ap prefix (known t (Word (codes "function")) h)

pub prefix_new : (t : Token) → t.kind ≡ Word (codes "new") → prefix t ≡ Some slot.New
prefix_new t h = ap prefix (known t (Word (codes "new")) h)

pub prefix_template : (t : Token) (w : List ℕ) → t.kind ≡ T.TemplateHead w → prefix t ≡ Some slot.Template
prefix_template t w h = ap prefix (known t (T.TemplateHead w) h)

-- ---- quiet signs

-- a token that goes on with what it is known to
pub quiet_join : (n : ℕ) (t : Token) (k : Kind) (f : Form) → t.kind ≡ k → stands_for k ≡ 0 → is_kind (T.Punctuator P.Arrow) k ≡ false → join t ≡ Some f → form_level f < n → Quiet n t
quiet_join n t k f is literal arrow joins low = record { no_literal = ap stands_for is ∙ literal; no_arrow = ap (is_kind (T.Punctuator P.Arrow)) is ∙ arrow; weak = subst (λ o. strength o < n) (sym joins) low }

-- one that goes on with nothing
pub quiet_none : (n : ℕ) (t : Token) (k : Kind) → 1 ≤ n → t.kind ≡ k → stands_for k ≡ 0 → is_kind (T.Punctuator P.Arrow) k ≡ false → join t ≡ None → Quiet n t
quiet_none n t k some is literal arrow none = record { no_literal = ap stands_for is ∙ literal; no_arrow = ap (is_kind (T.Punctuator P.Arrow)) is ∙ arrow; weak = subst (λ o. strength o < n) (sym none) (omega arith) }

pub quiet_close : (n : ℕ) (t : Token) → 1 ≤ n → t.kind ≡ T.Punctuator P.CloseParenthesis → Quiet n t
quiet_close n t some h = quiet_none n t (T.Punctuator P.CloseParenthesis) some h refl refl (ap join (known t (T.Punctuator P.CloseParenthesis) h))

pub quiet_bracket : (n : ℕ) (t : Token) → 1 ≤ n → t.kind ≡ T.Punctuator P.CloseBracket → Quiet n t
quiet_bracket n t some h = quiet_none n t (T.Punctuator P.CloseBracket) some h refl refl (ap join (known t (T.Punctuator P.CloseBracket) h))

pub quiet_brace : (n : ℕ) (t : Token) → 1 ≤ n → t.kind ≡ T.Punctuator P.CloseBrace → Quiet n t
quiet_brace n t some h = quiet_none n t (T.Punctuator P.CloseBrace) some h refl refl (ap join (known t (T.Punctuator P.CloseBrace) h))

pub quiet_colon : (n : ℕ) (t : Token) → 1 ≤ n → t.kind ≡ T.Punctuator P.Colon → Quiet n t
quiet_colon n t some h = quiet_none n t (T.Punctuator P.Colon) some h refl refl (ap join (known t (T.Punctuator P.Colon) h))

pub quiet_middle : (n : ℕ) (t : Token) (w : List ℕ) → 1 ≤ n → t.kind ≡ T.TemplateMiddle w → Quiet n t
quiet_middle n t w some h = quiet_none n t (T.TemplateMiddle w) some h refl refl (ap join (known t (T.TemplateMiddle w) h))

pub quiet_tail : (n : ℕ) (t : Token) (w : List ℕ) → 1 ≤ n → t.kind ≡ T.TemplateTail w → Quiet n t
quiet_tail n t w some h = quiet_none n t (T.TemplateTail w) some h refl refl (ap join (known t (T.TemplateTail w) h))

-- a comma ends what binds more tightly than one
pub quiet_comma : (n : ℕ) (t : Token) → 2 ≤ n → t.kind ≡ T.Punctuator P.Comma → Quiet n t
quiet_comma n t some h = quiet_join n t (T.Punctuator P.Comma) slot.Comma h refl refl (join_comma t h) (omega arith)
