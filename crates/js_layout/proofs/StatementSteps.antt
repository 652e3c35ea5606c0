-- What is read at a row of slots from tokens that were written: a step for each kind of slot.
use Rattle.std.proofs.Common.{◌≡◌, ℕ, ◌+◌, ◌<◌, ◌≤◌, Bool, true, false, List, [], ◌∷◌, ◌++◌, Some, None, codes, if◌then◌else◌, refl, sym, ap, subst, ◌∙◌, arith}
use Rattle.std.specs.Prelude.{nat_le, ◌==◌}
use Rattle.std.proofs.lemmas.Bool.{leb-false}
use Rattle.js_terms.specs.declared.place.Loc.{Loc}
use Rattle.js_tree.specs.Plain.{Expr, Stmt, Stmts}
use Rattle.js_text.specs.Token.{Token, Kind, Word}
use Rattle.js_text.specs.Token as T
use Rattle.js_text.specs.declared.punctuator.Punctuator.TheVariants as P
use Rattle.js_reading.specs.Spans.{first}
use Rattle.js_reading.specs.declared.class.Class.{Class}
use Rattle.js_reading.specs.declared.class.Class.TheVariants.{BoundName}
use Rattle.js_reading.specs.declared.choice.Choice.{Choice}
use Rattle.js_reading.specs.Slots.{Wanted, Level, WithoutIn, Callee, Slot, Sign, Text, Expr_, Stmt_, Stmts_, Place_, By, Piece, AnExpr, AStmt, TheStmts, AWord, APlace, Pass, Go}
use Rattle.js_reading.specs.Productions.{piece_of, word_piece}
use Rattle.js_reading.specs.Choices.{branch}
use Rattle.js_reading.specs.Makes.{is_declaration}
use Rattle.js_reading.specs.Kinds.{is_keyword}
use Rattle.js_reading.specs.Sentences
use Rattle.js_reading.specs.Sentences.{fits, continues, closes, SpellsSlots}
use Rattle.js_spelling.specs.Written.{Written}
use Rattle.js_layout.specs.Tokens.{expr_tokens, stmt_tokens, stmts_tokens}
use Rattle.js_layout.specs.Printable.{IsName}
use Rattle.js_layout.specs.Unplaced.{unplaced_expr, unplaced_stmt, unplaced_stmts}
use Rattle.js_layout.proofs.Follows.{Follows, last_line, split, Quiet}
use Rattle.js_layout.proofs.Spelt.{traits, standing, edge, WillExpr, AfterStmt, WillStmt, WillBlock}

-- ---- tokens

-- a token of this kind, before which a line ends or not
abbrev pub made_of : Kind → Bool → Token → Token
made_of k line t = record { kind = k; span = t.span; loc = t.loc; line_terminator_before = line; comments = t.comments }

-- what holds of each token of a kind holds of this one
pub of_kind : (Q : Token → Type 0) (t : Token) (k : Kind) → t.kind ≡ k → Q (made_of k t.line_terminator_before t) → Q t
of_kind Q t k e h = subst (λ x. Q (made_of x t.line_terminator_before t)) (sym e) h

pub of_token : (Q : Token → Type 0) (t : Token) (k : Kind) (line : Bool) → t.kind ≡ k → t.line_terminator_before ≡ line → Q (made_of k line t) → Q t
of_token Q t k line e f h = of_kind Q t k e (subst (λ x. Q (made_of k x t)) (sym f) h)

-- the first token of these, or the one after them
pub record At (line : Bool) (ws : List Written) (N Q : Token → Type 0) : Type 0 where
  pub holds : (us : List Token) (next : Token) → Follows line ws us → N next → Q (first us next)

first_holds : (line : Bool) (w : Written) (ws : List Written) (us : List Token) (next : Token) (Q : Token → Type 0) → Follows line (w ∷ ws) us → ((t : Token) → Q (made_of w.kind line t)) → Q (first us next)
first_holds line w ws [] next Q f h = absurd f
first_holds line w ws (t ∷ ts) next Q f h = of_token Q t w.kind line f.0 f.1 (h t)

pub at_mark : {line : Bool} {w : Written} {ws : List Written} {N Q : Token → Type 0} → ((t : Token) → Q (made_of w.kind line t)) → At line (w ∷ ws) N Q
at_mark {line = line} {w = w} {ws = ws} {Q = Q} h = record { holds = λ us next f n. first_holds line w ws us next Q f h }

next_holds : (line : Bool) (us : List Token) (next : Token) (Q : Token → Type 0) → Follows line [] us → Q next → Q (first us next)
next_holds line [] next Q f h = h
next_holds line (t ∷ ts) next Q f h = absurd f

pub at_next : {line : Bool} {N Q : Token → Type 0} → ((t : Token) → N t → Q t) → At line [] N Q
at_next {line = line} {Q = Q} h = record { holds = λ us next f n. next_holds line us next Q f (h next n) }

-- ---- slots

-- these slots are read from these tokens, and what holds of their pieces
pub record Slotted (ss : List Slot) (P : List Piece → Type 0) (l : Loc) (ts : List Token) (next : Token) : Type 0 where
  pub pieces : List Piece
  pub end : Loc
  pub spells : SpellsSlots ss pieces l end ts next
  pub made : P pieces

-- they are from any tokens that are those that were written
pub record Will (line : Bool) (ss : List Slot) (P : List Piece → Type 0) (ws : List Written) (N : Token → Type 0) : Type 0 where
  pub read : (ts : List Token) (next : Token) (l : Loc) → Follows line ws ts → N next → Slotted ss P l ts next

pub same_tokens : {line : Bool} {ss : List Slot} {P : List Piece → Type 0} {vs ws : List Written} {N : Token → Type 0} → vs ≡ ws → Will line ss P vs N → Will line ss P ws N
same_tokens {line = line} {ss = ss} {P = P} {N = N} e h = subst (λ x. Will line ss P x N) e h

pub mapped : {line : Bool} {ss : List Slot} {P Q : List Piece → Type 0} {ws : List Written} {N : Token → Type 0} → ((ps : List Piece) → P ps → Q ps) → Will line ss P ws N → Will line ss Q ws N
mapped f h = record { read = λ ts next l g n. let x = h.read ts next l g n in record { pieces = x.pieces; end = x.end; spells = x.spells; made = f x.pieces x.made } }

pub before : {line : Bool} {ss : List Slot} {P : List Piece → Type 0} {ws : List Written} {N M : Token → Type 0} → ((t : Token) → M t → N t) → Will line ss P ws N → Will line ss P ws M
before f h = record { read = λ ts next l g n. h.read ts next l g (f next n) }

pub ended : {line : Bool} {P : List Piece → Type 0} {N : Token → Type 0} → P [] → Will line [] P [] N
ended {line = line} {P = P} p = record { read = λ ts next l h n. go ts next l h }
  where
    go : (ts : List Token) (next : Token) (l : Loc) → Follows line [] ts → Slotted [] P l ts next
    go [] next l h = record { pieces = []; end = l; spells = Sentences.done; made = p }
    go (t ∷ ts) next l h = absurd h

pub signed : {line : Bool} {k : Kind} {ss : List Slot} {P : List Piece → Type 0} {w : Written} {ws : List Written} {N : Token → Type 0} → w.kind ≡ k → Will w.ends_line ss P ws N → Will line (Sign k ∷ ss) P (w ∷ ws) N
signed {line = line} {k = k} {ss = ss} {P = P} {w = w} {ws = ws} {N = N} e r = record { read = λ ts next l h n. go ts next l h n }
  where
    go : (ts : List Token) (next : Token) (l : Loc) → Follows line (w ∷ ws) ts → N next → Slotted (Sign k ∷ ss) P l ts next
    go [] next l h n = absurd h
    go (t ∷ ts) next l h n = let x = r.read ts next t.loc h.2 n in record { pieces = x.pieces; end = x.end; spells = Sentences.sign t (h.0 ∙ e) x.spells; made = x.made }

pub texted : {line : Bool} {c : Class} {ss : List Slot} {P : List Piece → Type 0} {w : Written} {ws : List Written} {N : Token → Type 0} (p : Loc → Piece) → ((m : Loc) → piece_of c w.kind m ≡ Some (p m)) →
    ((m : Loc) → Will w.ends_line ss (λ ps. P (p m ∷ ps)) ws N) → Will line (Text c ∷ ss) P (w ∷ ws) N
texted {line = line} {c = c} {ss = ss} {P = P} {w = w} {ws = ws} {N = N} p e r = record { read = λ ts next l h n. go ts next l h n }
  where
    go : (ts : List Token) (next : Token) (l : Loc) → Follows line (w ∷ ws) ts → N next → Slotted (Text c ∷ ss) P l ts next
    go [] next l h n = absurd h
    go (t ∷ ts) next l h n =
        let x = (r t.loc).read ts next t.loc h.2 n in
        record { pieces = p t.loc ∷ x.pieces; end = x.end; spells = Sentences.text t (ap (λ k. piece_of c k t.loc) h.0 ∙ e t.loc) x.spells; made = x.made }

-- a name that is no keyword
named_piece : (w : List ℕ) (m : Loc) → is_keyword w ≡ false → piece_of BoundName (Word w) m ≡ Some (AWord w m)
named_piece w m h = ap (λ b. word_piece m (if b then None else Some w)) h

pub named : {line : Bool} {ss : List Slot} {P : List Piece → Type 0} {w : Written} {ws : List Written} {N : Token → Type 0} (x : List ℕ) → IsName x → w.kind ≡ Word x →
    ((m : Loc) → Will w.ends_line ss (λ ps. P (AWord x m ∷ ps)) ws N) → Will line (Text BoundName ∷ ss) P (w ∷ ws) N
named x is e r = texted (λ m. AWord x m) (λ m. ap (λ k. piece_of BoundName k m) e ∙ named_piece x m is.free) r

pub placed : {line : Bool} {ss : List Slot} {P : List Piece → Type 0} {ws : List Written} {N : Token → Type 0} → ((m : Loc) → Will line ss (λ ps. P (APlace m ∷ ps)) ws N) → Will line (Place_ ∷ ss) P ws N
placed r = record { read = λ ts next l h n. let x = (r l).read ts next l h n in record { pieces = APlace l ∷ x.pieces; end = x.end; spells = Sentences.place x.spells; made = x.made } }

-- what the next token chooses
pub passed : {line : Bool} {c : Choice} {qs : List Piece} {ss : List Slot} {P : List Piece → Type 0} {ws : List Written} {N : Token → Type 0} → At line ws N (λ t. branch c t ≡ Pass qs) →
    Will line ss (λ ps. P (qs ++ ps)) ws N → Will line (By c ∷ ss) P ws N
passed {qs = qs} a r = record {
  read = λ ts next l h n. let x = r.read ts next l h n in record { pieces = qs ++ x.pieces; end = x.end; spells = Sentences.passed (a.holds ts next h n) x.spells; made = x.made };
}

pub chosen : {line : Bool} {c : Choice} {qs : List Piece} {s : Slot} {rs ss : List Slot} {P : List Piece → Type 0} {ws : List Written} {N : Token → Type 0} → At line ws N (λ t. branch c t ≡ Go qs s rs) →
    Will line (s ∷ (rs ++ ss)) (λ ps. P (qs ++ ps)) ws N → Will line (By c ∷ ss) P ws N
chosen {qs = qs} a r = record {
  read = λ ts next l h n. let x = r.read ts next l h n in record { pieces = qs ++ x.pieces; end = x.end; spells = Sentences.chosen (a.holds ts next h n) x.spells; made = x.made };
}

-- ---- parts

-- a tree that is the same as another in its place, but for places inside
pub record Like (e x : Expr) : Type 0 where
  pub same : unplaced_expr x ≡ unplaced_expr e
  pub traits : traits x ≡ traits e

-- an expression ends before a token, in a place
pub record Ends (w : Wanted) (n : ℕ) (t : Token) : Type 0 where
  pub quiet : Quiet (edge n) t
  pub stops : (e : Expr) → continues w e t ≡ false

pub expressed : {line : Bool} {w : Wanted} {ss : List Slot} {P : List Piece → Type 0} {ws : List Written} {N : Token → Type 0} (e : Expr) → WillExpr e → ((x : Expr) → Like e x → fits w (standing e) x ≡ true) →
    ((b : Bool) → At b ws N (Ends w (standing e))) → ((b : Bool) (x : Expr) → Like e x → Will b ss (λ ps. P (AnExpr (standing e) x ∷ ps)) ws N) → Will line (Expr_ w ∷ ss) P (expr_tokens e ++ ws) N
expressed {line = line} {w = w} {ss = ss} {P = P} {ws = ws} {N = N} e will fit ends r = record { read = λ ts next l h n. go ts next l h n }
  where
    go : (ts : List Token) (next : Token) (l : Loc) → Follows line (expr_tokens e ++ ws) ts → N next → Slotted (Expr_ w ∷ ss) P l ts next
    go ts next l h n =
        let s = split line (expr_tokens e) ws ts h in
        let end = (ends (last_line line (expr_tokens e))).holds s.rest next s.then n in
        let x = will line s.front (first s.rest next) s.first end.quiet in
        let like : Like e x.tree = record { same = x.same; traits = x.traits } in
        let y = (r (last_line line (expr_tokens e)) x.tree like).read s.rest next x.loc s.then n in
        record {
          pieces = AnExpr (standing e) x.tree ∷ y.pieces;
          end = y.end;
          spells = subst (λ us. SpellsSlots (Expr_ w ∷ ss) (AnExpr (standing e) x.tree ∷ y.pieces) l y.end us next) (sym s.are) (Sentences.expr (fit x.tree like) x.spells (end.stops x.tree) y.spells);
          made = y.made;
        }

pub stated : {line : Bool} {ss : List Slot} {P : List Piece → Type 0} {ws : List Written} {N : Token → Type 0} (s : Stmt) → WillStmt s → is_declaration s ≡ false →
    ((b : Bool) → At b ws N (AfterStmt s)) → ((b : Bool) (x : Stmt) → unplaced_stmt x ≡ unplaced_stmt s → Will b ss (λ ps. P (AStmt x ∷ ps)) ws N) → Will line (Stmt_ ∷ ss) P (stmt_tokens s ++ ws) N
stated {line = line} {ss = ss} {P = P} {ws = ws} {N = N} s will none after r = record { read = λ ts next l h n. go ts next l h n }
  where
    go : (ts : List Token) (next : Token) (l : Loc) → Follows line (stmt_tokens s ++ ws) ts → N next → Slotted (Stmt_ ∷ ss) P l ts next
    go ts next l h n =
        let p = split line (stmt_tokens s) ws ts h in
        let x = will line p.front (first p.rest next) p.first ((after (last_line line (stmt_tokens s))).holds p.rest next p.then n) in
        let y = (r (last_line line (stmt_tokens s)) x.tree x.same).read p.rest next x.loc p.then n in
        record {
          pieces = AStmt x.tree ∷ y.pieces;
          end = y.end;
          spells = subst (λ us. SpellsSlots (Stmt_ ∷ ss) (AStmt x.tree ∷ y.pieces) l y.end us next) (sym p.are) (Sentences.stmt (x.declares ∙ none) x.spells y.spells);
          made = y.made;
        }

pub listed : {line : Bool} {ss : List Slot} {P : List Piece → Type 0} {ws : List Written} {N : Token → Type 0} (xs : Stmts) → WillBlock xs →
    ((b : Bool) → At b ws N (λ t. closes t ≡ true)) → ((b : Bool) (x : Stmts) → unplaced_stmts x ≡ unplaced_stmts xs → Will b ss (λ ps. P (TheStmts x ∷ ps)) ws N) → Will line (Stmts_ ∷ ss) P (stmts_tokens xs ++ ws) N
listed {line = line} {ss = ss} {P = P} {ws = ws} {N = N} xs will close r = record { read = λ ts next l h n. go ts next l h n }
  where
    go : (ts : List Token) (next : Token) (l : Loc) → Follows line (stmts_tokens xs ++ ws) ts → N next → Slotted (Stmts_ ∷ ss) P l ts next
    go ts next l h n =
        let p = split line (stmts_tokens xs) ws ts h in
        let closed = (close (last_line line (stmts_tokens xs))).holds p.rest next p.then n in
        let x = will line p.front (first p.rest next) p.first closed in
        let y = (r (last_line line (stmts_tokens xs)) x.tree x.same).read p.rest next (x.end l) p.then n in
        record {
          pieces = TheStmts x.tree ∷ y.pieces;
          end = y.end;
          spells = subst (λ us. SpellsSlots (Stmts_ ∷ ss) (TheStmts x.tree ∷ y.pieces) l y.end us next) (sym p.are) (Sentences.stmts (x.spells l) closed y.spells);
          made = y.made;
        }

-- ---- where an expression ends

either_edge : (b : Bool) (x y : ℕ) → 2 ≤ x → 2 ≤ y → 2 ≤ (if b then x else y)
either_edge true x y h k = h
either_edge false x y h k = k

pub edge_two : (n : ℕ) → 2 ≤ edge n
edge_two n = by_low (nat_le n 3) refl
  where
    rest : 3 < n → 2 ≤ (if n == 4 then 7 else (if nat_le n 14 then n + 1 else (if n == 15 then 15 else (if nat_le n 17 then 16 else 100))))
    rest h = either_edge (n == 4) 7 _ (omega arith) (either_edge (nat_le n 14) (n + 1) _ (omega arith) (either_edge (n == 15) 15 _ (omega arith) (either_edge (nat_le n 17) 16 100 (omega arith) (omega arith))))

    by_low : (b : Bool) → nat_le n 3 ≡ b → 2 ≤ (if b then 2 else (if n == 4 then 7 else (if nat_le n 14 then n + 1 else (if n == 15 then 15 else (if nat_le n 17 then 16 else 100)))))
    by_low true e = omega arith
    by_low false e = rest (leb-false n 3 e)

pub edge_some : (n : ℕ) → 0 < edge n
edge_some n = let h = edge_two n in omega arith

-- before `;`, `)`, `:` and `of` any does, and before `,` one that is no sequence
pub ends_semicolon : (w : Wanted) (n : ℕ) (b : Bool) (t : Token) → Ends w n (made_of (T.Punctuator P.Semicolon) b t)
ends_semicolon (Level m) n b t = record { quiet = record { no_literal = refl; no_arrow = refl; weak = edge_some n }; stops = λ e. refl }
ends_semicolon (WithoutIn m) n b t = record { quiet = record { no_literal = refl; no_arrow = refl; weak = edge_some n }; stops = λ e. refl }
ends_semicolon Callee n b t = record { quiet = record { no_literal = refl; no_arrow = refl; weak = edge_some n }; stops = λ e. refl }

pub ends_parenthesis : (w : Wanted) (n : ℕ) (b : Bool) (t : Token) → Ends w n (made_of (T.Punctuator P.CloseParenthesis) b t)
ends_parenthesis (Level m) n b t = record { quiet = record { no_literal = refl; no_arrow = refl; weak = edge_some n }; stops = λ e. refl }
ends_parenthesis (WithoutIn m) n b t = record { quiet = record { no_literal = refl; no_arrow = refl; weak = edge_some n }; stops = λ e. refl }
ends_parenthesis Callee n b t = record { quiet = record { no_literal = refl; no_arrow = refl; weak = edge_some n }; stops = λ e. refl }

pub ends_colon : (w : Wanted) (n : ℕ) (b : Bool) (t : Token) → Ends w n (made_of (T.Punctuator P.Colon) b t)
ends_colon (Level m) n b t = record { quiet = record { no_literal = refl; no_arrow = refl; weak = edge_some n }; stops = λ e. refl }
ends_colon (WithoutIn m) n b t = record { quiet = record { no_literal = refl; no_arrow = refl; weak = edge_some n }; stops = λ e. refl }
ends_colon Callee n b t = record { quiet = record { no_literal = refl; no_arrow = refl; weak = edge_some n }; stops = λ e. refl }

pub ends_of : (w : Wanted) (n : ℕ) (b : Bool) (t : Token) → Ends w n (made_of (Word (codes "of")) b t)
ends_of (Level m) n b t = record { quiet = record { no_literal = refl; no_arrow = refl; weak = edge_some n }; stops = λ e. refl }
ends_of (WithoutIn m) n b t = record { quiet = record { no_literal = refl; no_arrow = refl; weak = edge_some n }; stops = λ e. refl }
ends_of Callee n b t = record { quiet = record { no_literal = refl; no_arrow = refl; weak = edge_some n }; stops = λ e. refl }
