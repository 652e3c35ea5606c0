-- Expressions in places that ask for more than a level: an arrow's body, an initializer, a statement.
use Rattle.std.proofs.Common.{◌≡◌, ◌≤◌, Bool, true, false, ◌&&◌, List, [], ◌∷◌, Option, Some, None, refl, ◌∙◌, arith}
use Rattle.std.specs.Prelude.{nat_lt, ◌||◌}
use Rattle.std.proofs.lemmas.Bool.{ltb-false}
use Rattle.js_terms.specs.declared.place.Loc.{Loc}
use Rattle.js_tree.specs.Plain.{Expr}
use Rattle.js_tree.specs.Plain as tree
use Rattle.js_text.specs.Token.{Kind}
use Rattle.js_reading.specs.Level.{assignment}
use Rattle.js_reading.specs.Makes.{bare_in}
use Rattle.js_spelling.specs.Written.{Written}
use Rattle.js_layout.specs.Tokens.{expr_tokens, in_parentheses, pair_of, begun}
use Rattle.js_layout.specs.Neat.{level, paired, first_is, is_brace, as_body, as_initializer}
use Rattle.js_layout.proofs.Spelt.{standing, WillExpr}
use Rattle.js_layout.proofs.ExpressPairs.{paired_will, low_or_pair, or_false}

pub first_begun : (test : Kind → Bool) (l : Option Loc) (ws : List Written) → first_is test (begun l ws) ≡ first_is test ws
first_begun test None ws = refl
first_begun test (Some l) [] = refl
first_begun test (Some l) (w ∷ ws) = refl

-- a pair begins with `(`
first_pair : (test : Kind → Bool) (e x : Expr) → first_is test (in_parentheses None []) ≡ false → first_is test (expr_tokens (paired true e x)) ≡ false
first_pair test (tree.Parenthesized l e) x h = first_begun test l (in_parentheses (pair_of l x) (expr_tokens x)) ∙ h
first_pair test e x h = h

first_or_pair : (test : Kind → Bool) (b : Bool) (e x : Expr) → first_is test (in_parentheses None []) ≡ false → (b ≡ false → first_is test (expr_tokens x) ≡ false) → first_is test (expr_tokens (paired b e x)) ≡ false
first_or_pair test true e x h g = first_pair test e x h
first_or_pair test false e x h g = g refl

bare_or_pair : (b : Bool) (e x : Expr) → (b ≡ false → bare_in x ≡ false) → bare_in (paired b e x) ≡ false
bare_or_pair true (tree.Parenthesized l e) x g = refl
bare_or_pair true e x g = refl
bare_or_pair false e x g = g refl

-- ---- an arrow's body

pub body_will : (e x : Expr) → WillExpr x → WillExpr (as_body e x)
body_will e x will = paired_will (nat_lt (level e) assignment || first_is is_brace (expr_tokens x)) e x will

pub body_low : (e x : Expr) → standing x ≡ level e → assignment ≤ standing (as_body e x)
body_low e x same =
    low_or_pair (nat_lt (level e) assignment || first_is is_brace (expr_tokens x)) assignment e x (omega arith)
    (λ h. omega (arith, same, ltb-false (level e) assignment (or_false (nat_lt (level e) assignment) (first_is is_brace (expr_tokens x)) h).0))

pub body_plain : (e x : Expr) → first_is is_brace (expr_tokens (as_body e x)) ≡ false
body_plain e x = first_or_pair is_brace (nat_lt (level e) assignment || first_is is_brace (expr_tokens x)) e x refl (λ h. (or_false (nat_lt (level e) assignment) (first_is is_brace (expr_tokens x)) h).1)

-- ---- an initializer

pub initializer_will : (head : Bool) (e x : Expr) → WillExpr x → WillExpr (as_initializer head e x)
initializer_will head e x will = paired_will (nat_lt (level e) assignment || (head && bare_in x)) e x will

pub initializer_low : (head : Bool) (e x : Expr) → standing x ≡ level e → assignment ≤ standing (as_initializer head e x)
initializer_low head e x same =
    low_or_pair (nat_lt (level e) assignment || (head && bare_in x)) assignment e x (omega arith)
    (λ h. omega (arith, same, ltb-false (level e) assignment (or_false (nat_lt (level e) assignment) (head && bare_in x) h).0))

-- in the head of a `for` it has no bare `in`
pub initializer_bare : (e x : Expr) → bare_in (as_initializer true e x) ≡ false
initializer_bare e x = bare_or_pair (nat_lt (level e) assignment || (true && bare_in x)) e x (λ h. (or_false (nat_lt (level e) assignment) (bare_in x) h).1)

-- the same of an expression there
pub head_bare : (e x : Expr) → bare_in (paired (bare_in x) e x) ≡ false
head_bare e x = bare_or_pair (bare_in x) e x (λ h. h)
