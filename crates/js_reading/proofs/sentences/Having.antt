-- A part that stands in frames before a token: what has been read goes on to stand for a place.
use Rattle.std.proofs.Common.{◌≡◌, ℕ, ◌≤◌, max, arith, Bool, false, List, [], ◌∷◌, ◌++◌, Some, if◌then◌else◌, refl, sym, ap, subst, ◌∙◌, append_assoc}
use Rattle.js_terms.specs.declared.place.Loc.{Loc}
use Rattle.js_tree.specs.Plain.{Expr, Exprs, no_expr, more_expr, push_exprs, Stmt, push_stmts}
use Rattle.js_tree.specs.Height.{height_expr, height_exprs}
use Rattle.js_text.specs.Token.{Token, Kind, End}
use Rattle.js_text.specs.Token as T
use Rattle.js_text.specs.declared.punctuator.Punctuator.{Punctuator}
use Rattle.js_text.specs.declared.punctuator.Punctuator.TheVariants as P
use Rattle.js_reading.specs.Level.{assignment}
use Rattle.js_reading.specs.Spans.{first}
use Rattle.js_reading.specs.Kinds.{is_kind}
use Rattle.js_reading.specs.Outside.{this_stmts}
use Rattle.js_reading.specs.Slots.{Wanted, Level, Slot, Expr_, Stmts_, Items_, Piece, AnExpr, AStmt, TheStmts, TheExprs, Form}
use Rattle.js_reading.specs.Productions.{is_mark}
use Rattle.js_reading.specs.Makes.{is_declaration}
use Rattle.js_reading.specs.Sentences
use Rattle.js_reading.specs.Sentences.{fits, continues, goes_on, closes, Spells, SpellsSlots, SpellsItems, SpellsStmts, Sentence}
use Rattle.js_reading.specs.Turns.{Frame, InForm, InStmts, InItems, Config, Due, Item, Finished, begin, pass, banned, listed, have}
use Rattle.js_reading.specs.Open.{OpensItems, after_item}
use Rattle.js_reading.proofs.levels.Allowed.{gripped}
use Rattle.js_reading.proofs.sentences.KindsLemmas.{kind_is}
use Rattle.js_reading.proofs.sentences.Lists.{append_exprs, exprs_push, exprs_last}
use Rattle.js_reading.proofs.sentences.Shapes.{first_append}
use Rattle.js_reading.proofs.sentences.Standing.{exprs_pushed, Only, Sort, AsStmt, IsOf, after_expr, after_stmt, after_stmts, after_items, stmts_then, AsExpr}
use Rattle.js_reading.proofs.sentences.Places.{Frames, in_file, in_stmts, in_expr, in_stmt, in_items, Open, opened, Reads, due, item_next, at_end, grow, begin_sound, items_more, Led, Came, came_at}
use Rattle.js_reading.proofs.sentences.Runs.{by_bool}
use Rattle.js_reading.proofs.sentences.Passing.{pass_sound, shift_sound, have_option}

-- the same tokens, put together
pub further : {d : Config} (u vs ts : List Token) (t : Token) → Reads d ((u ++ (vs ++ ts)) ++ t ∷ []) → Reads d (((u ++ vs) ++ ts) ++ t ∷ [])
further {d = d} u vs ts t r = subst (λ x. Reads d (x ++ t ∷ [])) (sym (append_assoc u vs ts)) r

-- what stands in these frames before a token leads to a place that stands for the tokens
abbrev pub Sound : List Frame → Token → Config → Type 0
Sound fs t d = (k : Sort) (v : List Token) (a : Token) (vs : List Token) (p : Piece) (m : Loc) → Frames k fs v (Only a) → Led k fs v a → Came d (v ++ a ∷ vs) t → IsOf k p → Spells p m (a ∷ vs) t → have fs (Some p) m t ≡ Some d → Reads d ((v ++ a ∷ vs) ++ t ∷ [])

-- the same of the frames below the first
abbrev pub Below : List Frame → Token → Config → Type 0
Below [] t d = Unit {0}
Below (f ∷ fs) t d = Sound fs t d

-- a statement in a frame of a production, where what is sound of the frames below is
pub stmt_sound : {fs : List Frame} {u ts : List Token} {l : Loc} {d : Config} {s : Stmt} (b t : Token) → Frames AsStmt fs u (Only b) → Came d (u ++ b ∷ ts) t → Spells (AStmt s) l (b ∷ ts) t → Below fs t d →
    have fs (Some (AStmt s)) l t ≡ Some d → Reads d ((u ++ b ∷ ts) ++ t ∷ [])
stmt_sound {ts = ts} {l = l} {d = d} {s = s} b t (in_stmt {f = f} {w = w} {ss = ss} {ps = ps} {fs = fs} (opened {u = u} {us = us} a fr st kd tail)) came ds rec h =
    by_bool (is_declaration s) _ _ d (λ e q. absurd cc)
    (λ plainly q. further u (a ∷ us) (b ∷ ts) t
    (pass_sound f w ss (ps ++ AStmt s ∷ []) l fs u (us ++ b ∷ ts) a t d (λ p m. have fs p m t) fr st (came_at t (append_assoc u (a ∷ us) (b ∷ ts)) came) kd (after_stmt b t plainly ds tail) (λ o m so sp r. have_option fs u a o m t d fr so (λ p x is y. rec _ u a (us ++ b ∷ ts) p m fr st.0 (came_at t (append_assoc u (a ∷ us) (b ∷ ts)) came) is (sp p x is) y) r) q)) h
stmt_sound {ts = ts} {l = l} {d = d} {s = s} b t (in_stmts {f = f} {w = w} {l = begun} {ss = ss} {ps = ps} {fs = fs} {acc = acc} vs a o dss firsts) came ds rec h = by_open o came h
  where
    all : SpellsStmts (push_stmts acc s) begun l (vs ++ b ∷ ts) t
    all = stmts_then ts (dss b refl) ds

    first_is : (n : Token) → first (vs ++ b ∷ ts) n ≡ a
    first_is n = first_append vs (b ∷ ts) n ∙ firsts b refl

    by_open : {u : List Token} → Open f w (Stmts_ ∷ ss) ps begun fs u (Only a) → Came d ((u ++ vs) ++ b ∷ ts) t → (if closes t then pass f w ss (ps ++ TheStmts (push_stmts acc s) ∷ []) l fs t (λ p m. have fs p m t) else begin t (InStmts f w ss ps (push_stmts acc s) ∷ fs)) ≡ Some d →
        Reads d (((u ++ vs) ++ b ∷ ts) ++ t ∷ [])
    by_open (opened {u = u} {us = us} c fr st kd tail) came g =
        further (u ++ c ∷ us) vs (b ∷ ts) t
        (by_bool (closes t) _ _ d
        (λ e q. further u (c ∷ us) (vs ++ b ∷ ts) t
        (pass_sound f w ss (ps ++ TheStmts (push_stmts acc s) ∷ []) l fs u (us ++ (vs ++ b ∷ ts)) c t d (λ p m. have fs p m t) fr st (came_at t (append_assoc (u ++ c ∷ us) vs (b ∷ ts) ∙ append_assoc u (c ∷ us) (vs ++ b ∷ ts)) came) kd (after_stmts t all e (first_is t) tail) (λ o m so sp r. have_option fs u c o m t d fr so (λ p x is y. rec _ u c (us ++ (vs ++ b ∷ ts)) p m fr st.0 (came_at t (append_assoc (u ++ c ∷ us) vs (b ∷ ts) ∙ append_assoc u (c ∷ us) (vs ++ b ∷ ts)) came) is (sp p x is) y) r) q))
        (λ e q. begin_sound t (in_stmts (vs ++ b ∷ ts) a (opened c fr st kd tail) (λ n z. subst (λ x. SpellsStmts (push_stmts acc s) begun l (vs ++ b ∷ ts) x) (sym z) all) (λ n z. first_is n)) (came_at t (append_assoc (u ++ c ∷ us) vs (b ∷ ts)) came) q) g)
stmt_sound {ts = ts} {l = l} {d = d} {s = s} b t (in_file {acc = acc} {l = begun} {ts = us} dss) came ds rec h =
    by_bool (is_kind End t.kind) _ _ d
    (λ e q. by_bool (this_stmts (push_stmts acc s)) _ _ d (λ x g. absurd cc)
    (λ x g. let r : Finished (push_stmts acc s) ≡ d = cc in
    subst (λ y. Reads y ((us ++ b ∷ ts) ++ t ∷ [])) r (at_end (Sentences.file t (kind_is End t.kind e) all x))) q)
    (λ e q. begin_sound t (in_file (λ n z. subst (λ x. SpellsStmts (push_stmts acc s) begun l (us ++ b ∷ ts) x) (sym z) all)) came q) h
  where
    all : SpellsStmts (push_stmts acc s) begun l (us ++ b ∷ ts) t
    all = stmts_then ts (dss b refl) ds

-- an expression in a slot, where what is sound of the frames below is
pub expr_sound : {f : Form} {w l0 : Loc} {v : Wanted} {ss : List Slot} {ps : List Piece} {fs : List Frame} {u ts : List Token} {l : Loc} {d : Config} {i : ℕ} {e : Expr} (b t : Token) → Open f w (Expr_ v ∷ ss) ps l0 fs u (Only b) → Led AsExpr (InForm f w (Expr_ v) ss ps ∷ fs) u b → Came d (u ++ b ∷ ts) t → Spells (AnExpr i e) l (b ∷ ts) t →
    Sound fs t d →
    have (InForm f w (Expr_ v) ss ps ∷ fs) (Some (AnExpr i e)) l t ≡ Some d → Reads d ((u ++ b ∷ ts) ++ t ∷ [])
expr_sound {f = f} {w = w} {v = v} {ss = ss} {ps = ps} {fs = fs} {ts = ts} {l = l} {d = d} {i = i} {e = e} b t (opened {u = u} {us = us} a fr st kd tail) led came de rec h =
    by_bool (continues v e t) _ _ d
    (λ c g. by_bool (banned t (InForm f w (Expr_ v) ss ps ∷ fs)) _ _ d (λ x q. absurd cc) (λ x q. shift_sound b t (in_expr (opened a fr st kd tail)) led de x (λ g is. gripped (InForm f w (Expr_ v) ss ps) fs e t g c is) q) g)
    (λ c g. by_bool (fits v i e) _ _ d
    (λ fit q. further u (a ∷ us) (b ∷ ts) t
    (pass_sound f w ss (ps ++ AnExpr i e ∷ []) l fs u (us ++ b ∷ ts) a t d (λ p m. have fs p m t) fr st (came_at t (append_assoc u (a ∷ us) (b ∷ ts)) came) kd (after_expr b t fit de c tail) (λ o m so sp r. have_option fs u a o m t d fr so (λ p x is y. rec _ u a (us ++ b ∷ ts) p m fr st.0 (came_at t (append_assoc u (a ∷ us) (b ∷ ts)) came) is (sp p x is) y) r) q))
    (λ x q. absurd cc) g) h

-- an expression in a list of items
pub item_sound : {f : Form} {w : Loc} {p : Punctuator} {ss : List Slot} {ps : List Piece} {fs : List Frame} (acc : Exprs) {l0 : Loc} {u ts : List Token} {l : Loc} {d : Config} {i : ℕ} {e : Expr} (vs : List Token) (a b t : Token) → Open f w (Items_ p ∷ ss) ps l0 fs u (Only a) →
    ((x : Bool) (xs : Exprs) (us : List Token) (n : Token) → SpellsItems x xs us n → SpellsItems x (append_exprs acc xs) (vs ++ us) n) → ((h : ℕ) (us : List Token) → OpensItems h us → OpensItems (max (height_exprs acc) h) (vs ++ us)) → first vs b ≡ a → Spells (AnExpr i e) l (b ∷ ts) t → continues (Level assignment) e t ≡ false → assignment ≤ i →
    listed f w p ss ps (push_exprs acc e) fs t ≡ Some d → Reads d (((u ++ vs) ++ b ∷ ts) ++ t ∷ [])
item_sound {f = f} {w = w} {p = p} {ss = ss} {ps = ps} {fs = fs} acc {u = u} {ts = ts} {d = d} {e = e} vs a b t o items opens is de go ge h =
    by_bool (is_mark P.Comma t) _ _ d
    (λ c q. let r : Item (InItems f w p ss ps (push_exprs acc e) ∷ fs) ≡ d = cc in
    subst (λ y. Reads y (((u ++ vs) ++ b ∷ ts) ++ t ∷ [])) r (subst (λ y. Reads (Item (InItems f w p ss ps (push_exprs acc e) ∷ fs)) y) regrouped
    (item_next (in_items (vs ++ b ∷ (ts ++ t ∷ [])) a o
    (λ x xs us n dxs. subst (λ y. SpellsItems x y ((vs ++ b ∷ (ts ++ t ∷ [])) ++ us) n) (sym (exprs_push acc e xs)) (subst (λ y. SpellsItems x (append_exprs acc (more_expr e xs)) y n) (on us) (items x (more_expr e xs) (b ∷ (ts ++ t ∷ us)) n (Sentences.more_items t ge de (kind_is (T.Punctuator P.Comma) t.kind c) dxs))))
    (λ n us dxs. let r = exprs_pushed acc e in items_more (omega (arith, r)) (on us) (opens (max (height_expr e) n) (b ∷ (ts ++ t ∷ us)) (after_item t ge de (kind_is (T.Punctuator P.Comma) t.kind c) dxs)))
    (λ n z. first_append vs (b ∷ (ts ++ t ∷ [])) n ∙ is)))))
    (λ c q. by_bool (is_mark p t) _ _ d
    (λ k g. let r : Due f w ss (ps ++ TheExprs false (push_exprs acc e) ∷ []) t.loc fs ≡ d = cc in
    subst (λ y. Reads y (((u ++ vs) ++ b ∷ ts) ++ t ∷ [])) r (subst (λ y. Reads (Due f w ss (ps ++ TheExprs false (push_exprs acc e) ∷ []) t.loc fs) y) closed
    (due (grow ((vs ++ b ∷ ts) ++ t ∷ []) o (λ k' us tail. after_items {vs = vs ++ b ∷ ts} t (subst (λ y. SpellsItems false y (vs ++ b ∷ ts) t) (exprs_last acc e) (items false (more_expr e no_expr) (b ∷ ts) t (Sentences.last_item ge de go))) (kind_is (T.Punctuator p) t.kind k) (first_append vs (b ∷ ts) t ∙ is) tail)))))
    (λ k g. absurd cc) q) h
  where
    regrouped : u ++ (vs ++ b ∷ (ts ++ t ∷ [])) ≡ ((u ++ vs) ++ b ∷ ts) ++ t ∷ []
    regrouped = sym (append_assoc u vs (b ∷ (ts ++ t ∷ []))) ∙ sym (append_assoc (u ++ vs) (b ∷ ts) (t ∷ []))

    closed : u ++ ((vs ++ b ∷ ts) ++ t ∷ []) ≡ ((u ++ vs) ++ b ∷ ts) ++ t ∷ []
    closed = sym (append_assoc u (vs ++ b ∷ ts) (t ∷ [])) ∙ ap (λ y. y ++ t ∷ []) (sym (append_assoc u vs (b ∷ ts)))

    on : (us : List Token) → vs ++ b ∷ (ts ++ t ∷ us) ≡ (vs ++ b ∷ (ts ++ t ∷ [])) ++ us
    on us = ap (λ y. vs ++ b ∷ y) (sym (append_assoc ts (t ∷ []) us)) ∙ sym (append_assoc vs (b ∷ (ts ++ t ∷ [])) us)
