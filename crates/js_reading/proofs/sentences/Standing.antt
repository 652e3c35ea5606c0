-- What an open production of the whole language stands for: whatever completes its slots completes it.
use Rattle.std.proofs.Common.{◌≡◌, ℕ, ◌+◌, max, Bool, true, false, List, [], ◌∷◌, ◌++◌, Some, refl, sym, ap, subst, ◌∙◌, arith, append_assoc, append-nil}
use Rattle.js_terms.specs.declared.place.Loc.{Loc}
use Rattle.js_tree.specs.Plain.{Expr, Exprs, no_expr, more_expr, push_exprs, Stmt, Stmts, no_stmt, more_stmt, push_stmts}
use Rattle.js_tree.specs.Height.{height_expr, height_exprs}
use Rattle.js_reading.proofs.levels.Makings.{is_first}
use Rattle.js_reading.proofs.sentences.Shapes.{first_append}
use Rattle.js_text.specs.Token.{Token, Kind}
use Rattle.js_text.specs.Token as T
use Rattle.js_text.specs.declared.punctuator.Punctuator.{Punctuator}
use Rattle.js_reading.specs.Spans.{through, first}
use Rattle.js_reading.specs.Slots.{Wanted, Slot, Sign, Text, Expr_, Stmt_, Stmts_, Items_, Place_, By, Piece, AnExpr, AStmt, TheStmts, TheExprs, APlace, Pass, Go, Form, Class, Choice}
use Rattle.js_reading.specs.Productions.{piece_of, slots}
use Rattle.js_reading.specs.Choices.{branch}
use Rattle.js_reading.specs.Makes.{build, is_declaration}
use Rattle.js_reading.specs.Sentences
use Rattle.js_reading.specs.Sentences.{fits, continues, closes, Spells, SpellsSlots, SpellsItems, SpellsStmts}
use Rattle.js_reading.specs.Turns.{Frame, place, leads, listing}
use Rattle.js_reading.specs.Open.{heights, OpensExpr, OpensStmt, OpensSlots, past, open_passed, open_chosen}

-- which token follows: any, or this one
pub data When : Type 0 where
  Any : When
  Only : Token → When

abbrev pub Holds : When → Token → Type 0
Holds Any n = Unit {0}
Holds (Only t) n = n ≡ t

-- an expression, or a statement
pub data Sort : Type 0 where
  AsExpr : Sort
  AsStmt : Sort

abbrev pub IsOf : Sort → Piece → Type 0
IsOf AsExpr (AnExpr i e) = Unit {0}
IsOf AsStmt (AStmt s) = Unit {0}
IsOf k p = ⊥

-- in these frames so many levels are begun by a part of a sort
abbrev pub Begun : Sort → List Frame → ℕ → List Token → Type 0
Begun AsExpr fs n ts = OpensExpr (place fs) n ts
Begun AsStmt fs n ts = OpensStmt (listing fs) n ts

pub heights_append : (ps qs : List Piece) → heights (ps ++ qs) ≡ max (heights ps) (heights qs)
heights_append [] qs = omega arith
heights_append (p ∷ ps) qs = let e = heights_append ps qs in omega arith

pub exprs_pushed : (xs : Exprs) (e : Expr) → height_exprs (push_exprs xs e) ≡ max (height_exprs xs) (height_expr e)
exprs_pushed no_expr e = omega arith
exprs_pushed (more_expr x xs) e = let r = exprs_pushed xs e in omega (arith, r)

pub of_height : (k : Sort) (fs : List Frame) {n m : ℕ} {ts us : List Token} → Begun k fs n ts → n ≡ m → ts ≡ us → Begun k fs m us
of_height k fs {m = m} {ts = ts} d e q = subst (λ x. Begun k fs m x) q (subst (λ x. Begun k fs x ts) e d)

-- from these tokens on, these slots complete a production of a sort, and what they begin is begun in it; where its first token tells it, they
-- complete its slots
pub record Tail (k : Sort) (fs : List Frame) (c : When) (f : Form) (w : Loc) (ss : List Slot) (ps : List Piece) (l : Loc) (us : List Token) : Type 0 where
  pub spells : {qs : List Piece} {m : Loc} {ts : List Token} {next : Token} {p : Piece} → IsOf k p → Holds c (first ts next) → SpellsSlots ss qs l m ts next → build f (through w m) (ps ++ qs) ≡ Some p → Spells p (through w m) (us ++ ts) next
  pub begins : {n : ℕ} {ts : List Token} (next : Token) → Holds c (first ts next) → OpensSlots (place fs) ss n ts → Begun k fs (max (heights ps) n + 1) (us ++ ts)
  pub parts : {qs : List Piece} {m : Loc} {ts : List Token} {next : Token} → is_first f ≡ true → Holds c (first ts next) → SpellsSlots ss qs l m ts next → SpellsSlots (slots f) (ps ++ qs) w m (us ++ ts) next

-- a part more
move : {k : Sort} {fs : List Frame} {c d : When} {f : Form} {w l x : Loc} {ss rs : List Slot} {ps : List Piece} {us : List Token} (new : List Piece) (vs : List Token) →
    ((ts : List Token) (next : Token) → Holds d (first ts next) → Holds c (first (vs ++ ts) next)) →
    ((qs : List Piece) (m : Loc) (ts : List Token) (next : Token) → Holds d (first ts next) → SpellsSlots rs qs x m ts next → SpellsSlots ss (new ++ qs) l m (vs ++ ts) next) →
    ((n : ℕ) (ts : List Token) (next : Token) → Holds d (first ts next) → OpensSlots (place fs) rs n ts → OpensSlots (place fs) ss (max (heights new) n) (vs ++ ts)) →
    Tail k fs c f w ss ps l us → Tail k fs d f w rs (ps ++ new) x (us ++ vs)
move {k = k} {fs = fs} {f = f} {w = w} {ps = ps} {us = us} new vs holds slot begin tail = record {
  spells = λ {qs} {m} {ts} {next} {p} is h d e.
      subst (λ x. Spells p (through w m) x next) (sym (append_assoc us vs ts))
      (tail.spells is (holds ts next h) (slot qs m ts next h d) (ap (λ x. build f (through w m) x) (sym (append_assoc ps new qs)) ∙ e));
  begins = λ {n} {ts} next h d. let a = heights_append ps new in of_height k fs (tail.begins next (holds ts next h) (begin n ts next h d)) (omega (arith, a)) (sym (append_assoc us vs ts));
  parts = λ {qs} {m} {ts} {next} is h d.
      subst (λ x. SpellsSlots (slots f) x w m ((us ++ vs) ++ ts) next) (sym (append_assoc ps new qs))
      (subst (λ x. SpellsSlots (slots f) (ps ++ (new ++ qs)) w m x next) (sym (append_assoc us vs ts)) (tail.parts is (holds ts next h) (slot qs m ts next h d)));
}

-- the same with no piece more
move_on : {k : Sort} {fs : List Frame} {c d : When} {f : Form} {w l x : Loc} {ss rs : List Slot} {ps : List Piece} {us : List Token} (vs : List Token) →
    ((ts : List Token) (next : Token) → Holds d (first ts next) → Holds c (first (vs ++ ts) next)) →
    ((qs : List Piece) (m : Loc) (ts : List Token) (next : Token) → Holds d (first ts next) → SpellsSlots rs qs x m ts next → SpellsSlots ss qs l m (vs ++ ts) next) →
    ((n : ℕ) (ts : List Token) (next : Token) → Holds d (first ts next) → OpensSlots (place fs) rs n ts → OpensSlots (place fs) ss (max (heights []) n) (vs ++ ts)) →
    Tail k fs c f w ss ps l us → Tail k fs d f w rs ps x (us ++ vs)
move_on {k = k} {fs = fs} {d = d} {f = f} {w = w} {x = x} {rs = rs} {ps = ps} {us = us} vs holds slot begin tail = subst (λ y. Tail k fs d f w rs y x (us ++ vs)) (append-nil ps) (move [] vs holds slot begin tail)

pub after_sign : {k : Sort} {fs : List Frame} {c : When} {f : Form} {w l : Loc} {j : Kind} {ss : List Slot} {ps : List Piece} {us : List Token} (t : Token) → t.kind ≡ j → Holds c t → Tail k fs c f w (Sign j ∷ ss) ps l us → Tail k fs Any f w ss ps t.loc (us ++ t ∷ [])
after_sign t is h tail = move_on (t ∷ []) (λ ts next _. h) (λ qs m ts next _ d. Sentences.sign t is d) (λ n ts next h d. past next refl (Sentences.sign {l = t.loc} t is Sentences.done) d) tail

pub after_text : {k : Sort} {fs : List Frame} {c : When} {f : Form} {w l : Loc} {class : Class} {p : Piece} {ss : List Slot} {ps : List Piece} {us : List Token} (t : Token) → piece_of class t.kind t.loc ≡ Some p → Holds c t → Tail k fs c f w (Text class ∷ ss) ps l us →
    Tail k fs Any f w ss (ps ++ p ∷ []) t.loc (us ++ t ∷ [])
after_text {p = p} t is h tail = move (p ∷ []) (t ∷ []) (λ ts next _. h) (λ qs m ts next _ d. Sentences.text t is d) (λ n ts next h d. past next refl (Sentences.text {l = t.loc} t is Sentences.done) d) tail

pub after_expr : {k : Sort} {fs : List Frame} {f : Form} {w l le : Loc} {v : Wanted} {ss : List Slot} {ps : List Piece} {us te : List Token} {i : ℕ} {e : Expr} (b t : Token) → fits v i e ≡ true → Spells (AnExpr i e) le (b ∷ te) t → continues v e t ≡ false →
    Tail k fs (Only b) f w (Expr_ v ∷ ss) ps l us → Tail k fs (Only t) f w ss (ps ++ AnExpr i e ∷ []) le (us ++ b ∷ te)
after_expr {le = le} {v = v} {te = te} {i = i} {e = e} b t fit de go tail =
    move (AnExpr i e ∷ []) (b ∷ te) (λ ts next h. refl)
    (λ qs m ts next h d. Sentences.expr fit (subst (λ x. Spells (AnExpr i e) le (b ∷ te) x) (sym h) de) (subst (λ x. continues v e x ≡ false) (sym h) go) d)
    (λ n ts next h d. past next refl (subst (λ x. SpellsSlots (Expr_ v ∷ []) (AnExpr i e ∷ []) le le x (first ts next)) (append-nil (b ∷ te))
    (Sentences.expr {l = le} fit (subst (λ x. Spells (AnExpr i e) le (b ∷ te) x) (sym h) de) (subst (λ x. continues v e x ≡ false) (sym h) go) Sentences.done)) d) tail

pub after_stmt : {k : Sort} {fs : List Frame} {f : Form} {w l ls : Loc} {ss : List Slot} {ps : List Piece} {us vs : List Token} {s : Stmt} (b t : Token) → is_declaration s ≡ false → Spells (AStmt s) ls (b ∷ vs) t →
    Tail k fs (Only b) f w (Stmt_ ∷ ss) ps l us → Tail k fs (Only t) f w ss (ps ++ AStmt s ∷ []) ls (us ++ b ∷ vs)
after_stmt {ls = ls} {vs = vs} {s = s} b t plainly ds tail =
    move (AStmt s ∷ []) (b ∷ vs) (λ ts next h. refl) (λ qs m ts next h d. Sentences.stmt plainly (subst (λ x. Spells (AStmt s) ls (b ∷ vs) x) (sym h) ds) d)
    (λ n ts next h d. past next refl (subst (λ x. SpellsSlots (Stmt_ ∷ []) (AStmt s ∷ []) ls ls x (first ts next)) (append-nil (b ∷ vs))
    (Sentences.stmt {l = ls} plainly (subst (λ x. Spells (AStmt s) ls (b ∷ vs) x) (sym h) ds) Sentences.done)) d) tail

pub after_stmts : {k : Sort} {fs : List Frame} {c : When} {f : Form} {w l ls : Loc} {ss : List Slot} {ps : List Piece} {us vs : List Token} {xs : Stmts} (t : Token) → SpellsStmts xs l ls vs t → closes t ≡ true → Holds c (first vs t) →
    Tail k fs c f w (Stmts_ ∷ ss) ps l us → Tail k fs (Only t) f w ss (ps ++ TheStmts xs ∷ []) ls (us ++ vs)
after_stmts {c = c} {l = l} {ls = ls} {vs = vs} {xs = xs} t dss ends h tail =
    move (TheStmts xs ∷ []) vs (λ ts next q. subst (λ x. Holds c x) (sym (firsts vs ts next t q)) h)
    (λ qs m ts next q d. Sentences.stmts (subst (λ x. SpellsStmts xs l ls vs x) (sym q) dss) (subst (λ x. closes x ≡ true) (sym q) ends) d)
    (λ n ts next q d. past next refl (subst (λ x. SpellsSlots (Stmts_ ∷ []) (TheStmts xs ∷ []) l ls x (first ts next)) (append-nil vs)
    (Sentences.stmts (subst (λ x. SpellsStmts xs l ls vs x) (sym q) dss) (subst (λ x. closes x ≡ true) (sym q) ends) Sentences.done)) d) tail
  where
    firsts : (vs ts : List Token) (next t : Token) → first ts next ≡ t → first (vs ++ ts) next ≡ first vs t
    firsts [] ts next t q = q
    firsts (v ∷ vs) ts next t q = refl

pub after_items : {k : Sort} {fs : List Frame} {c : When} {f : Form} {w l : Loc} {p : Punctuator} {b : Bool} {ss : List Slot} {ps : List Piece} {us vs : List Token} {xs : Exprs} (t : Token) → SpellsItems b xs vs t → t.kind ≡ T.Punctuator p → Holds c (first vs t) →
    Tail k fs c f w (Items_ p ∷ ss) ps l us → Tail k fs Any f w ss (ps ++ TheExprs b xs ∷ []) t.loc (us ++ (vs ++ t ∷ []))
after_items {c = c} {l = l} {p = p} {b = b} {ss = ss} {vs = vs} {xs = xs} t dxs is h tail =
    move (TheExprs b xs ∷ []) (vs ++ t ∷ []) (λ ts next _. subst (λ x. Holds c x) (sym (firsts vs ts next)) h)
    (λ qs m ts next _ d. subst (λ x. SpellsSlots (Items_ p ∷ ss) (TheExprs b xs ∷ qs) l m x next) (sym (append_assoc vs (t ∷ []) ts)) (Sentences.items t dxs is d))
    (λ n ts next _ d. past next refl (Sentences.items {l = l} t dxs is Sentences.done) d) tail
  where
    firsts : (vs ts : List Token) (next : Token) → first ((vs ++ t ∷ []) ++ ts) next ≡ first vs t
    firsts [] ts next = refl
    firsts (v ∷ vs) ts next = refl

pub still : {k : Sort} {fs : List Frame} {d : When} {f : Form} {w x : Loc} {rs : List Slot} {ps : List Piece} {us : List Token} → Tail k fs d f w rs ps x (us ++ []) → Tail k fs d f w rs ps x us
still {k = k} {fs = fs} {d = d} {f = f} {w = w} {x = x} {rs = rs} {ps = ps} {us = us} t = subst (λ y. Tail k fs d f w rs ps x y) (append-nil us) t

pub after_place : {k : Sort} {fs : List Frame} {c : When} {f : Form} {w l : Loc} {ss : List Slot} {ps : List Piece} {us : List Token} → Tail k fs c f w (Place_ ∷ ss) ps l us → Tail k fs c f w ss (ps ++ APlace l ∷ []) l us
after_place {l = l} tail = still (move (APlace l ∷ []) [] (λ ts next h. h) (λ qs m ts next _ d. Sentences.place d) (λ n ts next h d. past next refl (Sentences.place {l = l} Sentences.done) d) tail)

pub after_passed : {k : Sort} {fs : List Frame} {f : Form} {w l : Loc} {c : Choice} {rs : List Piece} {ss : List Slot} {ps : List Piece} {us : List Token} (t : Token) → branch c t ≡ Pass rs → Tail k fs (Only t) f w (By c ∷ ss) ps l us → Tail k fs (Only t) f w ss (ps ++ rs) l us
after_passed {c = c} {rs = rs} t is tail = still (move rs [] (λ ts next h. h) (λ qs m ts next h d. Sentences.passed (subst (λ x. branch c x ≡ Pass rs) (sym h) is) d)
    (λ n ts next h d. open_passed next (subst (λ x. branch c x ≡ Pass rs) (sym h) is) d) tail)

pub after_chosen : {k : Sort} {fs : List Frame} {f : Form} {w l : Loc} {c : Choice} {xs : List Piece} {s : Slot} {rs ss : List Slot} {ps : List Piece} {us : List Token} (t : Token) → branch c t ≡ Go xs s rs → leads (place fs) c ≡ true → Tail k fs (Only t) f w (By c ∷ ss) ps l us →
    Tail k fs (Only t) f w (s ∷ (rs ++ ss)) (ps ++ xs) l us
after_chosen {c = c} {xs = xs} {s = s} {rs = rs} t is may tail = still (move xs [] (λ ts next h. h) (λ qs m ts next h d. Sentences.chosen (subst (λ x. branch c x ≡ Go xs s rs) (sym h) is) d)
    (λ n ts next h d. open_chosen next (subst (λ x. branch c x ≡ Go xs s rs) (sym h) is) may d) tail)

pub narrowed : {k : Sort} {fs : List Frame} {f : Form} {w l : Loc} {ss : List Slot} {ps : List Piece} {us : List Token} {t : Token} → Tail k fs Any f w ss ps l us → Tail k fs (Only t) f w ss ps l us
narrowed tail = record { spells = λ is h d e. tail.spells is tt d e; begins = λ next h d. tail.begins next tt d; parts = λ is h d. tail.parts is tt d }

-- the production is there
pub spelled : {k : Sort} {fs : List Frame} {c : When} {f : Form} {w l : Loc} {ps : List Piece} {us : List Token} {p : Piece} → Tail k fs c f w [] ps l us → IsOf k p → build f (through w l) ps ≡ Some p → (n : Token) → Holds c n → Spells p (through w l) us n
spelled {f = f} {w = w} {l = l} {ps = ps} {us = us} {p = p} tail is q n h =
    subst (λ x. Spells p (through w l) x n) (append-nil us) (tail.spells {ts = []} {next = n} is h Sentences.done (ap (λ x. build f (through w l) x) (append-nil ps) ∙ q))

-- one more statement at the end of a list
pub stmts_then : {acc : Stmts} {s : Stmt} {l m ls : Loc} {ts : List Token} {b : Token} (us : List Token) {n : Token} → SpellsStmts acc l m ts b → Spells (AStmt s) ls (b ∷ us) n → SpellsStmts (push_stmts acc s) l ls (ts ++ b ∷ us) n
stmts_then {s = s} {l = l} {ls = ls} {b = b} us {n = n} Sentences.no_statement d =
    let alone : SpellsStmts (more_stmt s no_stmt) l ls ((b ∷ us) ++ []) n = Sentences.more_statements d Sentences.no_statement in subst (λ x. SpellsStmts (more_stmt s no_stmt) l ls x n) (append-nil (b ∷ us)) alone
stmts_then {s = r} {l = l} {ls = lr} {b = b} us {n = n} (Sentences.more_statements {s = s} {ss = ss} {ls = ls} {ts = ts} {us = vs} ds dss) d =
    let all = Sentences.more_statements {l = l} (subst (λ x. Spells (AStmt s) ls ts x) (sym (first_append vs (b ∷ us) n)) ds) (stmts_then us dss d) in
    subst (λ x. SpellsStmts (more_stmt s (push_stmts ss r)) l lr x n) (sym (append_assoc ts vs (b ∷ us))) all
