-- The tokens that have been read begin as many levels as the place that they lead to counts.
use Rattle.std.proofs.Common.{◌≡◌, ℕ, ◌+◌, ◌<◌, max, true, List, [], ◌∷◌, ◌++◌, Some, refl, sym, subst, arith, append_assoc, append-nil}
use Rattle.js_tree.specs.Height.{height_exprs, height_stmts}
use Rattle.js_text.specs.Token.{Token, End}
use Rattle.js_reading.specs.Spans.{first}
use Rattle.js_reading.specs.Slots.{Piece, Slot, Form}
use Rattle.js_reading.specs.Open
use Rattle.js_reading.specs.Open.{height, heights, OpensExpr, OpensStmt, OpensSlots, none_open, open_expr, open_stmt, open_stmts, open_items, no_items_token, OpensItems, open_item, OpensStmts, open_last, OpensMore, lift, up, floor}
use Rattle.js_reading.specs.Turns.{Frame, Config, Start, place, run}
use Rattle.js_reading.proofs.sentences.Standing.{When, Any, Only, Holds, Sort, AsExpr, AsStmt, Begun}
use Rattle.js_reading.proofs.sentences.Places.{Frames, in_file, in_stmts, in_expression, in_expr, in_stmt, in_items, Open, opened, Reads, due, having, item_next, not_begun, at_end}
use Rattle.js_reading.proofs.sentences.Sound.{reads_so}

as_stmts : {n m : ℕ} {ts us : List Token} → OpensStmts n ts → n ≡ m → ts ≡ us → OpensStmts m us
as_stmts {m = m} {ts = ts} d e q = subst (λ x. OpensStmts m x) q (subst (λ x. OpensStmts x ts) e d)

mutual
  -- a part of a sort is begun in these frames
  begun_part : (k : Sort) {fs : List Frame} {u : List Token} {b : Token} → Frames k fs u (Only b) → (h : ℕ) (us : List Token) → Begun k fs h (b ∷ us) → OpensStmts (up fs h) (u ++ b ∷ us)
  begun_part AsStmt {b = b} (in_file dss) h us d = open_last b (dss b refl) d
  begun_part AsStmt {b = b} (in_stmts {fs = fs} {acc = acc} {u = u} ts a o dss firsts) h us d =
      as_stmts (begun_open o (max (height_stmts acc) h) (ts ++ b ∷ us) b (first_is ts (firsts b refl)) (open_stmts (open_last b (dss b refl) d))) refl (sym (append_assoc u ts (b ∷ us)))
    where
      first_is : {a : Token} (ts : List Token) → first ts b ≡ a → first (ts ++ b ∷ us) b ≡ a
      first_is [] q = q
      first_is (t ∷ ts) q = q
  begun_part AsStmt {b = b} (in_stmt o) h us d = begun_open o h (b ∷ us) b refl (open_stmt d)
  begun_part AsExpr (in_expression b fr none) h us d = begun_part AsStmt fr (h + 1) us (Open.in_expression b none (open_expr d))
  begun_part AsExpr {b = b} (in_expr o) h us d = begun_open o h (b ∷ us) b refl (open_expr d)
  begun_part AsExpr {b = b} (in_items {acc = acc} {u = u} ts a o items opens firsts) h us d =
      as_stmts (begun_open o (max (height_exprs acc) h) (ts ++ b ∷ us) b (first_is ts (firsts b refl)) (open_items (opens h (b ∷ us) (open_item d)))) refl (sym (append_assoc u ts (b ∷ us)))
    where
      first_is : {a : Token} (ts : List Token) → first ts b ≡ a → first (ts ++ b ∷ us) b ≡ a
      first_is [] q = q
      first_is (t ∷ ts) q = q

  -- slots of an open production are begun
  begun_open : {f : Form} {w l : _} {ss : List Slot} {ps : List Piece} {fs : List Frame} {u : List Token} {c : When} → Open f w ss ps l fs u c → (h : ℕ) (us : List Token) (next : Token) → Holds c (first us next) → OpensSlots (place fs) ss h us →
      OpensStmts (up fs (max (heights ps) h + 1)) (u ++ us)
  begun_open {ps = ps} (opened {k = k} {u = u} {us = vs} b fr st kd tail) h us next holds d =
      as_stmts (begun_part k fr (max (heights ps) h + 1) (vs ++ us) (tail.begins next holds d)) refl (sym (append_assoc u (b ∷ vs) us))

-- any token
any_token : Token
any_token = record {
  kind = End;
  span = record { start = 0; end = 0 };
  loc = record { start = record { line = 1; column = 0 }; end = record { line = 1; column = 0 } };
  line_terminator_before = true;
  comments = record { start = 0; end = 0 };
}

up_same : (fs : List Frame) {h k : ℕ} {ts us : List Token} → OpensStmts (up fs h) ts → h ≡ k → ts ≡ us → OpensStmts (up fs k) us
up_same fs {h = h} {k = k} d e q = as_stmts d (subst (λ x. up fs h ≡ up fs x) e refl) q

-- an item is due
begun_item : {fs : List Frame} {u : List Token} → Frames AsExpr fs u Any → OpensStmts (up fs 0) u
begun_item (in_items {fs = fs} {acc = acc} ts a o items opens firsts) =
    begun_open o (max (height_exprs acc) 0) ts any_token (firsts any_token tt) (open_items (subst (λ x. OpensItems (max (height_exprs acc) 0) x) (append-nil ts) (opens 0 [] no_items_token)))
begun_item (in_expr {fs = fs} {u = u} o) = as_stmts (begun_open o 0 [] any_token tt none_open) refl (append-nil u)

begun : {c : Config} {u : List Token} → Reads c u → (limit : ℕ) → limit < floor c → OpensStmts (floor c) u
begun (due {ps = ps} {fs = fs} {u = u} o) limit lt = up_same fs (begun_open o 0 [] any_token tt none_open) (omega arith) (append-nil u)
begun (having {k = k} {p = p} {ts = ts} b fr led is sp d) limit lt = begun_part k fr (height p) ts d
begun (item_next fr) limit lt = begun_item fr
begun not_begun limit lt = absurd (omega arith)
begun (at_end s) limit lt = absurd (omega arith)

-- where a place counts more levels than a limit, the tokens that lead to it begin more
pub begins_more : (ts : List Token) (c : Config) (limit : ℕ) → run Start ts ≡ Some c → limit < floor c → OpensMore limit ts
begins_more ts c limit h lt = (floor c, lt, begun (reads_so ts c h) limit lt)
