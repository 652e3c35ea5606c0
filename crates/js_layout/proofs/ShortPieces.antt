-- What the pieces of a production may be charged, and what the signs among its slots pay: eight for each byte.
use Rattle.std.proofs.Common.{◌≡◌, ℕ, ◌+◌, ◌*◌, ◌≤◌, List, [], ◌∷◌, ◌++◌, length, Option, Some, arith}
use Rattle.js_tree.specs.Plain.{Exprs, no_expr, more_expr}
use Rattle.js_text.specs.Token.{Token, spelling}
use Rattle.js_reading.specs.declared.choice.Choice.{Choice}
use Rattle.js_reading.specs.declared.choice.Choice.TheVariants as choice
use Rattle.js_reading.specs.Slots.{Slot, Sign, Place_, By, Piece, AnExpr, AStmt, TheStmts, TheExprs, AWord, AKey, AText, APlace}
use Rattle.js_layout.proofs.ShortSizes.{size_expr, sizes, size_key, size_stmt, size_stmts}

-- the bytes of the spellings of tokens
abbrev pub bulk : List Token → ℕ
bulk [] = 0
bulk (t ∷ ts) = length (spelling t.kind) + bulk ts

-- items: no comma stands before the first
abbrev pub size_items : Exprs → ℕ
size_items no_expr = 0
size_items (more_expr e es) = size_expr e + sizes es

pub sizes_items : (es : Exprs) → sizes es ≤ size_items es + 6
sizes_items no_expr = omega arith
sizes_items (more_expr e es) = omega arith

abbrev pub cost : Piece → ℕ
cost (AnExpr i e) = size_expr e + 2
cost (AStmt s) = size_stmt s
cost (TheStmts ss) = size_stmts ss
cost (TheExprs b xs) = size_items xs + 8
cost (AWord w l) = length w + 7
cost (AKey k l) = size_key k + 6
cost (AText s) = length s.spelling + 7
cost (APlace l) = 8
cost p = 0

abbrev pub costs : List Piece → ℕ
costs [] = 0
costs (p ∷ ps) = cost p + costs ps

-- what each branch of a choice pays
abbrev pub allowance : Choice → ℕ
allowance choice.Properties = 8
allowance choice.AfterProperty = 8
allowance c = 0

-- what the signs pay
abbrev pub paid : List Slot → ℕ
paid [] = 0
paid (Sign k ∷ ss) = 8 * length (spelling k) + paid ss
paid (By c ∷ ss) = allowance c + paid ss
paid (s ∷ ss) = paid ss

-- what they owe: a place is charged, and no token pays for it
abbrev pub debt : List Slot → ℕ
debt [] = 0
debt (Place_ ∷ ss) = 8 + debt ss
debt (s ∷ ss) = debt ss

pub bulk_append : (ts us : List Token) → bulk (ts ++ us) ≡ bulk ts + bulk us
bulk_append [] us = omega arith
bulk_append (t ∷ ts) us = omega (arith, bulk_append ts us)

pub costs_append : (qs ps : List Piece) → costs (qs ++ ps) ≡ costs qs + costs ps
costs_append [] ps = omega arith
costs_append (q ∷ qs) ps = omega (arith, costs_append qs ps)

pub paid_append : (rs ss : List Slot) → paid (rs ++ ss) ≡ paid rs + paid ss
paid_append [] ss = omega arith
paid_append (Sign k ∷ rs) ss = omega (arith, paid_append rs ss)
paid_append (By c ∷ rs) ss = omega (arith, paid_append rs ss)
paid_append (r ∷ rs) ss = omega (arith, paid_append rs ss)

pub debt_append : (rs ss : List Slot) → debt (rs ++ ss) ≡ debt rs + debt ss
debt_append [] ss = omega arith
debt_append (Place_ ∷ rs) ss = omega (arith, debt_append rs ss)
debt_append (r ∷ rs) ss = omega (arith, debt_append rs ss)

-- what a production makes costs no more than this
abbrev pub Pays : ℕ → Option Piece → Type 0
Pays n (Some (AnExpr i e)) = size_expr e + 2 ≤ n
Pays n (Some (AStmt s)) = size_stmt s ≤ n
Pays n o = Unit {0}
