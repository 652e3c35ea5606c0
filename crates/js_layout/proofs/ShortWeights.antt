-- The text of tokens is no longer than their spellings with one byte more for each.
use Rattle.std.proofs.Common.{◌≡◌, ℕ, ◌+◌, ◌≤◌, Bool, true, false, List, [], ◌∷◌, ◌++◌, length, Option, Some, None, if◌then◌else◌, refl, arith, length-append}
use Rattle.js_terms.specs.declared.place.Loc.{Loc}
use Rattle.js_tree.specs.Plain.{Expr, Parenthesized}
use Rattle.js_text.specs.declared.punctuator.Punctuator.TheVariants as P
use Rattle.js_text.specs.Token.{spelling}
use Rattle.js_spelling.specs.Written.{Written, spaced, between, after_last, text_from, text_of}
use Rattle.js_layout.specs.Tokens.{begun, braced, in_parentheses, mark, last_mark, pair_of, expr_tokens}
use Rattle.js_layout.specs.Neat.{paired}
use Rattle.js_layout.proofs.ShortSizes.{charge}

abbrev pub weight : List Written → ℕ
weight [] = 0
weight (t ∷ ts) = charge t.kind + weight ts

-- ---- the text

one_between : (b c : Bool) → length {A = ℕ} (if b then 0x0A ∷ [] else (if c then 0x20 ∷ [] else [])) ≤ 1
one_between true c = omega arith
one_between false true = omega arith
one_between false false = omega arith

one_after : (b : Bool) → length {A = ℕ} (if b then 0x0A ∷ [] else []) ≤ 1
one_after true = omega arith
one_after false = omega arith

from_light : (t : Written) (ts : List Written) → length (text_from t ts) ≤ weight (t ∷ ts)
from_light t [] = omega (arith, length-append (spelling t.kind) (after_last t), one_after t.ends_line)
from_light t (next ∷ ts) =
    omega (arith, length-append (spelling t.kind) (between t next.kind ++ text_from next ts), length-append (between t next.kind) (text_from next ts), one_between t.ends_line (spaced t.kind next.kind), from_light next ts)

pub text_light : (ts : List Written) → length (text_of ts) ≤ weight ts
text_light [] = omega arith
text_light (t ∷ ts) = from_light t ts

-- ---- lists

pub weight_append : (xs ys : List Written) → weight (xs ++ ys) ≡ weight xs + weight ys
weight_append [] ys = omega arith
weight_append (x ∷ xs) ys = omega (arith, weight_append xs ys)

pub weight_begun : (l : Option Loc) (ts : List Written) → weight (begun l ts) ≡ weight ts
weight_begun None ts = refl
weight_begun (Some l) [] = refl
weight_begun (Some l) (t ∷ ts) = refl

pub weight_braced : (l : Option Loc) (ts : List Written) → weight (braced l ts) ≡ weight ts + 4
weight_braced l ts = omega (arith, weight_append ts (last_mark l P.CloseBrace ∷ []))

pub weight_parentheses : (l : Option Loc) (ts : List Written) → weight (in_parentheses l ts) ≡ weight ts + 4
weight_parentheses l ts = omega (arith, weight_append ts (mark l P.CloseParenthesis ∷ []))

-- a pair of parentheses
pub weight_paired : (b : Bool) (e x : Expr) → weight (expr_tokens (paired b e x)) ≤ weight (expr_tokens x) + 4
weight_paired false e x = omega arith
weight_paired true (Parenthesized l e) x = omega (arith, weight_begun l (in_parentheses (pair_of l x) (expr_tokens x)), weight_parentheses (pair_of l x) (expr_tokens x))
weight_paired true e x = omega (arith, weight_parentheses (pair_of None x) (expr_tokens x))
