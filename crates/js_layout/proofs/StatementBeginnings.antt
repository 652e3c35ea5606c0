-- What the tokens of an expression begin with, and what stays as it is where a tree gets its parentheses.
use Rattle.std.proofs.Common.{◌≡◌, ℕ, Bool, true, false, not, List, [], ◌∷◌, ◌++◌, Option, Some, None, refl, sym, ap, ◌∙◌}
use Rattle.std.specs.Prelude.{◌||◌, nat_lt}
use Rattle.std.proofs.lemmas.Bool.{true≢false}
use Rattle.js_terms.specs.declared.place.Loc.{Loc}
use Rattle.js_terms.specs.declared.operators.LogicalOperator.{LogicalOperator}
use Rattle.js_terms.specs.declared.operators.LogicalOperator.TheVariants as logic
use Rattle.js_terms.specs.declared.operators.UnaryOperator.{UnaryOperator}
use Rattle.js_terms.specs.declared.operators.UnaryOperator.TheVariants as u
use Rattle.js_terms.specs.declared.operators.VariableKind.TheVariants as variable
use Rattle.js_tree.specs.Plain as tree
use Rattle.js_tree.specs.Plain.{Expr, Stmt, TemplateParts, no_template_part, more_template_part, none_stmt, some_stmt, entered_none}
use Rattle.js_text.specs.Token.{Kind, Word}
use Rattle.js_text.specs.Token as T
use Rattle.js_text.specs.declared.punctuator.Punctuator.TheVariants as P
use Rattle.js_reading.specs.Level.{assignment, left_level, right_level, logical_level}
use Rattle.js_reading.specs.Productions.{call, prefix_of, update_of, sign_of, logical_sign, logical_right, assignment_sign}
use Rattle.js_reading.specs.Makes.{is_target, is_async, is_and_or, is_declaration}
use Rattle.js_spelling.specs.Written.{Written}
use Rattle.js_layout.specs.Tokens.{expr_tokens, exprs_tokens, begun, truth, mark, word, token, in_parentheses}
use Rattle.js_layout.specs.Neat.{level, first_is, is_brace, is_function, is_string, paired, placed, left_operand, as_statement, neat_expr, neat_exprs, neat_stmt}
use Rattle.js_layout.specs.Printable.{IsExpr, ends_open}
use Rattle.js_layout.proofs.Spelt.{is_string_stmt}
use Rattle.js_layout.proofs.StatementWords.{is_let, no_let, plain, first_append}

-- ---- the first token

first_begun : (p : Kind → Bool) (l : Option Loc) (ws : List Written) → first_is p (begun l ws) ≡ first_is p ws
first_begun p None ws = refl
first_begun p (Some l) [] = refl
first_begun p (Some l) (w ∷ ws) = refl

-- of what begins with these tokens, which go on
first_goes : (p : Kind → Bool) (l : Option Loc) (vs ws : List Written) → first_is p vs ≡ true → first_is p (begun l (vs ++ ws)) ≡ true
first_goes p l vs ws h = first_begun p l (vs ++ ws) ∙ first_append p vs ws h

in_pair : (p : Kind → Bool) (e x : Expr) → p (T.Punctuator P.OpenParenthesis) ≡ true → first_is p (expr_tokens (paired true e x)) ≡ true
in_pair p (tree.Parenthesized l e) x h = first_begun p l _ ∙ h
in_pair p (tree.This l) x h = h
in_pair p e x h = h

in_pair_or_not : (p : Kind → Bool) (b : Bool) (e x : Expr) → p (T.Punctuator P.OpenParenthesis) ≡ true → first_is p (expr_tokens x) ≡ true → first_is p (expr_tokens (paired b e x)) ≡ true
in_pair_or_not p true e x h k = in_pair p e x h
in_pair_or_not p false e x h k = k

let_placed : (n : ℕ) (e x : Expr) → first_is no_let (expr_tokens x) ≡ true → first_is no_let (expr_tokens (placed n e x)) ≡ true
let_placed n e x h = in_pair_or_not no_let (nat_lt (level e) n) e x refl h

let_left : (o : LogicalOperator) (e x : Expr) → first_is no_let (expr_tokens x) ≡ true → first_is no_let (expr_tokens (left_operand o e x)) ≡ true
let_left logic.Coalesce e x h = in_pair_or_not no_let (nat_lt (level e) (logical_level logic.Coalesce) || is_and_or x) e x refl h
let_left logic.And e x h = let_placed (logical_level logic.And) e x h
let_left logic.Or e x h = let_placed (logical_level logic.Or) e x h

let_truth : (b : Bool) → no_let (Word (truth b)) ≡ true
let_truth true = refl
let_truth false = refl

let_unary : (o : UnaryOperator) → no_let (prefix_of o) ≡ true
let_unary u.Delete = refl
let_unary o = refl

-- the name `let` begins no expression
pub no_let_first : (e : Expr) → IsExpr e → first_is no_let (expr_tokens (neat_expr e)) ≡ true
no_let_first (tree.IdentifierReference l w) is = first_begun no_let l _ ∙ ap not is.free
no_let_first (tree.BooleanLiteral l b) is = first_begun no_let l _ ∙ let_truth b
no_let_first (tree.TemplateLiteral l s tree.no_template_part) is = first_begun no_let l _
no_let_first (tree.TemplateLiteral l s (tree.more_template_part (tree.MakeTemplatePart e w) ps)) is = first_begun no_let l _
no_let_first (tree.Parenthesized l e) is = no_let_first e is
no_let_first (tree.NamedMember l o w) is = first_goes no_let l (expr_tokens (placed call o (neat_expr o))) (mark l P.Dot ∷ word l w ∷ []) (let_placed call o (neat_expr o) (no_let_first o is.0))
no_let_first (tree.ComputedMember l o k) is = first_goes no_let l (expr_tokens (placed call o (neat_expr o))) (mark l P.OpenBracket ∷ (expr_tokens (neat_expr k) ++ mark l P.CloseBracket ∷ [])) (let_placed call o (neat_expr o) (no_let_first o is.0))
no_let_first (tree.Call l f xs) is = first_goes no_let l (expr_tokens (placed call f (neat_expr f))) (in_parentheses l (exprs_tokens l (neat_exprs xs))) (let_placed call f (neat_expr f) (no_let_first f is.0))
no_let_first (tree.PostfixUpdate l o e) is = first_goes no_let l (expr_tokens (placed call e (neat_expr e))) (mark l (update_of o) ∷ []) (let_placed call e (neat_expr e) (no_let_first e is.0))
no_let_first (tree.Unary l o e) is = first_begun no_let l _ ∙ let_unary o
no_let_first (tree.Binary l o x y) is = first_goes no_let l (expr_tokens (placed (left_level o) x (neat_expr x))) (token l (sign_of o) ∷ expr_tokens (placed (right_level o) y (neat_expr y))) (let_placed (left_level o) x (neat_expr x) (no_let_first x is.0))
no_let_first (tree.Logical l o x y) is = first_goes no_let l (expr_tokens (left_operand o x (neat_expr x))) (mark l (logical_sign o) ∷ expr_tokens (placed (logical_right o) y (neat_expr y))) (let_left o x (neat_expr x) (no_let_first x is.0))
no_let_first (tree.Conditional l c x y) is = first_goes no_let l (expr_tokens (placed 4 c (neat_expr c))) (mark l P.Question ∷ (expr_tokens (placed assignment x (neat_expr x)) ++ mark l P.Colon ∷ expr_tokens (placed assignment y (neat_expr y)))) (let_placed 4 c (neat_expr c) (no_let_first c is.0))
no_let_first (tree.Assignment l o x y) is = first_goes no_let l (expr_tokens (placed call x (neat_expr x))) (mark l (assignment_sign o) ∷ expr_tokens (placed assignment y (neat_expr y))) (let_placed call x (neat_expr x) (no_let_first x is.0))
no_let_first (tree.Comma l x y) is = first_goes no_let l (expr_tokens (neat_expr x)) (mark l P.Comma ∷ expr_tokens (placed assignment y (neat_expr y))) (no_let_first x is.0)
no_let_first (tree.Entered m e) is = absurd is
no_let_first (tree.This l) is = first_begun no_let l _
no_let_first (tree.NullLiteral l) is = first_begun no_let l _
no_let_first (tree.NumericLiteral l w) is = first_begun no_let l _
no_let_first (tree.StringLiteral l w) is = first_begun no_let l _
no_let_first (tree.ArrayLiteral l xs) is = first_begun no_let l _
no_let_first (tree.ObjectLiteral l ps) is = first_begun no_let l _
no_let_first (tree.FunctionExpression l n f) is = first_begun no_let l _
no_let_first (tree.ArrowFunction l n ps body) is = first_begun no_let l _
no_let_first (tree.RegularExpressionLiteral l body flags) is = first_begun no_let l _
no_let_first (tree.New l c xs) is = first_begun no_let l _
no_let_first (tree.PrefixUpdate l o e) is = first_begun no_let l _

-- an initial part of a `for` in a pair or not
pub no_let_paired : (b : Bool) (e x : Expr) → first_is no_let (expr_tokens x) ≡ true → first_is no_let (expr_tokens (paired b e x)) ≡ true
no_let_paired b e x h = in_pair_or_not no_let b e x refl h

-- ---- an expression statement

none_plain : (ws : List Written) → first_is is_brace ws ≡ false → first_is is_function ws ≡ false → first_is no_let ws ≡ true → first_is plain ws ≡ true
none_plain [] a b c = absurd (true≢false (sym c))
none_plain (w ∷ ws) a b c = ap (λ x. not (x || is_function w.kind || is_let w.kind)) a ∙ ap (λ x. not (false || x || is_let w.kind)) b ∙ c

-- the tests, one by one
three_none : (a b c : Bool) → (a || b || c) ≡ false → (a ≡ false) × (b ≡ false) × (c ≡ false)
three_none true b c h = absurd (true≢false h)
three_none false true c h = absurd (true≢false h)
three_none false false true h = absurd (true≢false h)
three_none false false false h = (refl, refl, refl)

pub plain_statement : (e x : Expr) → first_is no_let (expr_tokens x) ≡ true → first_is plain (expr_tokens (as_statement e x)) ≡ true
plain_statement e x h = by_test (first_is is_brace (expr_tokens x) || first_is is_function (expr_tokens x) || is_string x) refl
  where
    by_test : (b : Bool) → (first_is is_brace (expr_tokens x) || first_is is_function (expr_tokens x) || is_string x) ≡ b → first_is plain (expr_tokens (paired b e x)) ≡ true
    by_test true q = in_pair plain e x refl
    by_test false q = let n = three_none (first_is is_brace (expr_tokens x)) (first_is is_function (expr_tokens x)) (is_string x) q in none_plain (expr_tokens x) n.0 n.1 h

pair_no_string : (e x : Expr) → is_string (paired true e x) ≡ false
pair_no_string (tree.Parenthesized l e) x = refl
pair_no_string e x = refl

pub no_string : (e x : Expr) → is_string (as_statement e x) ≡ false
no_string e x = by_test (first_is is_brace (expr_tokens x) || first_is is_function (expr_tokens x) || is_string x) refl
  where
    by_test : (b : Bool) → (first_is is_brace (expr_tokens x) || first_is is_function (expr_tokens x) || is_string x) ≡ b → is_string (paired b e x) ≡ false
    by_test true q = pair_no_string e x
    by_test false q = (three_none (first_is is_brace (expr_tokens x)) (first_is is_function (expr_tokens x)) (is_string x) q).2

-- no statement that has its parentheses is a string
pub no_string_stmt : (s : Stmt) → is_string_stmt (neat_stmt s) ≡ false
no_string_stmt (tree.Expression l e) = no_string e (neat_expr e)
no_string_stmt s = refl

-- ---- what stays as it is

pub neat_ends_open : (s : Stmt) → ends_open (neat_stmt s) ≡ ends_open s
neat_ends_open (tree.If l c s (some_stmt r)) = neat_ends_open r
neat_ends_open (tree.If l c s none_stmt) = refl
neat_ends_open (tree.If l c s (entered_none m)) = refl
neat_ends_open (tree.While l c s) = neat_ends_open s
neat_ends_open (tree.For l x y z s) = neat_ends_open s
neat_ends_open (tree.ForIn l x e s) = neat_ends_open s
neat_ends_open (tree.ForOf l x e s) = neat_ends_open s
neat_ends_open (tree.Labelled l x s) = neat_ends_open s
neat_ends_open (tree.EnteredStmt m s) = neat_ends_open s
neat_ends_open s = refl

pub neat_declares : (s : Stmt) → is_declaration (neat_stmt s) ≡ is_declaration s
neat_declares (tree.VariableDeclaration l variable.Var ds) = refl
neat_declares (tree.VariableDeclaration l variable.Let ds) = refl
neat_declares (tree.VariableDeclaration l variable.Const ds) = refl
neat_declares s = refl

pub neat_target : (e : Expr) → is_target e ≡ true → is_target (neat_expr e) ≡ true
neat_target (tree.IdentifierReference l w) h = refl
neat_target (tree.NamedMember l o w) h = refl
neat_target (tree.ComputedMember l o k) h = refl
neat_target e h = absurd (true≢false (sym h))

pub neat_async : (e : Expr) → is_target e ≡ true → is_async (neat_expr e) ≡ is_async e
neat_async (tree.IdentifierReference l w) h = refl
neat_async (tree.NamedMember l o w) h = refl
neat_async (tree.ComputedMember l o k) h = refl
neat_async e h = absurd (true≢false (sym h))
