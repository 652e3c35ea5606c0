-- What has been read stands for the tokens: a run that ends has read a sentence.
use Rattle.std.proofs.Common.{◌≡◌, ℕ, ◌+◌, max, arith, Bool, true, false, ◌&&◌, List, [], ◌∷◌, ◌++◌, Option, Some, None, refl, sym, ap, subst, ◌∙◌, append_assoc, append-nil}
use Rattle.std.specs.Prelude.{nat_le}
use Rattle.std.proofs.lemmas.Bool.{true≢false, leb-true, le-leb, and_parts}
use Rattle.js_terms.specs.declared.place.Loc.{Loc}
use Rattle.js_tree.specs.Plain.{Expr, Exprs, no_expr, Stmts, no_stmt, File, MakeFile}
use Rattle.js_text.specs.Token.{Token, Kind, End}
use Rattle.js_text.specs.Token as T
use Rattle.js_text.specs.declared.punctuator.Punctuator.TheVariants as P
use Rattle.js_reading.specs.Level.{any, assignment}
use Rattle.js_reading.specs.Spans.{through, first}
use Rattle.js_reading.specs.Kinds.{is_kind}
use Rattle.js_text.specs.declared.punctuator.Punctuator.{Punctuator}
use Rattle.js_reading.specs.Slots.{Wanted, Level, Slot, Sign, Expr_, Stmt_, Items_, By, Piece, AnExpr, AStmt, TheExprs, Form}
use Rattle.js_reading.specs.Slots as slot
use Rattle.js_reading.specs.Productions.{primary, is_mark, statement}
use Rattle.js_reading.specs.Makes.{build, with_directives}
use Rattle.js_reading.specs.Sentences
use Rattle.js_reading.specs.Sentences.{fits, continues, goes_on, Spells, SpellsSlots, SpellsItems, SpellsStmts, Sentence}
use Rattle.js_reading.specs.Open
use Rattle.js_reading.specs.Open.{heights, OpensSlots, past, in_labelled}
use Rattle.js_reading.specs.Turns.{place, Frame, InExpression, InItems, Config, Due, Start, Finished, begin_by, enter, pass, is_name, begin_file, have, item, turn, run, then_run, tree_of}
use Rattle.js_reading.proofs.levels.Allowed.{gripped}
use Rattle.js_reading.proofs.sentences.KindsLemmas.{kind_is}
use Rattle.js_reading.proofs.sentences.Lists.{append_exprs, exprs_end}
use Rattle.js_reading.proofs.sentences.Firsts.{remade}
use Rattle.js_reading.proofs.levels.Levels.{some_level}
use Rattle.js_reading.proofs.sentences.Standing.{Any, Only, AsExpr, AsStmt, IsOf, Begun, Tail, of_height, after_items, narrowed}
use Rattle.js_reading.proofs.sentences.Places.{Frames, in_file, in_expression, in_expr, in_items, Open, opened, Reads, due, having, item_next, any_place, not_begun, at_end, grow, want_sound, begin_sound, Led, Came}
use Rattle.js_reading.proofs.sentences.Runs.{by_bool, run_append}
use Rattle.js_reading.proofs.sentences.Passing.{pass_sound, shift_sound, have_option}
use Rattle.js_reading.proofs.sentences.Having.{Sound, stmt_sound, expr_sound, item_sound}

-- no expression goes on with a colon
ends_at_colon : (n : ℕ) (e : Expr) (t : Token) → t.kind ≡ T.Punctuator P.Colon → continues (Level n) e t ≡ false
ends_at_colon n e t is = subst (λ k. continues (Level n) e (remade t k) ≡ false) (sym is) refl

-- an expression that is a statement, or the label of one
expression_sound : {fs : List Frame} {u ts : List Token} {l : Loc} {d : Config} {i : ℕ} {e : Expr} (b t : Token) → Frames AsStmt fs u (Only b) → statement b ≡ None → Led AsExpr (InExpression b.loc ∷ fs) u b → Came d (u ++ b ∷ ts) t → Spells (AnExpr i e) l (b ∷ ts) t → Sound fs t d →
    have (InExpression b.loc ∷ fs) (Some (AnExpr i e)) l t ≡ Some d → Reads d ((u ++ b ∷ ts) ++ t ∷ [])
expression_sound {fs = fs} {u = u} {ts = ts} {l = l} {d = d} {i = i} {e = e} b t fr none led came de rec h =
    by_bool (continues (Level any) e t) _ _ d
    (λ c g. shift_sound b t (in_expression b fr none) led de refl (λ g is. gripped (InExpression b.loc) fs e t g c is) g)
    (λ c g. by_bool (is_mark P.Colon t && (is_name e && nat_le primary i)) _ _ d (λ x q. as_label x q) (λ x q. as_statement c q) g) h
  where
    below : Led AsStmt fs u b
    below = (led.0, led.1, led.2 ∙ sym (ap (λ o. begin_by o b fs) none))

    alone : {v : Wanted} {n : Token} → SpellsSlots (Expr_ v ∷ []) (AnExpr i e ∷ []) l l ((b ∷ ts) ++ []) n → SpellsSlots (Expr_ v ∷ []) (AnExpr i e ∷ []) l l (b ∷ ts) n
    alone {v = v} {n = n} dd = subst (λ x. SpellsSlots (Expr_ v ∷ []) (AnExpr i e ∷ []) l l x n) (append-nil (b ∷ ts)) dd

    label_made : {qs : List Piece} (p : Piece) → IsOf AsStmt p → (m : Loc) (vs : List Token) (next : Token) → fits (Level primary) i e ≡ true → t.kind ≡ T.Punctuator P.Colon → SpellsSlots (Stmt_ ∷ []) qs t.loc m vs next →
        build slot.Labelled (through b.loc m) (AnExpr i e ∷ qs) ≡ Some p → Spells p (through b.loc m) ((b ∷ (ts ++ t ∷ [])) ++ vs) next
    label_made (AStmt s) sort m vs next fit is dd made =
        subst (λ z. Spells (AStmt s) (through b.loc m) (b ∷ z) next) (sym (append_assoc ts (t ∷ []) vs))
        (Sentences.labelled b none (Sentences.expr fit de (ends_at_colon primary e t is) (Sentences.sign t is dd)) made)
    label_made p sort m vs next fit is dd made = absurd sort

    label_begun : (h : ℕ) (vs : List Token) (next : Token) → fits (Level primary) i e ≡ true → t.kind ≡ T.Punctuator P.Colon → OpensSlots (place fs) (Stmt_ ∷ []) h vs → Begun AsStmt fs (max (heights (AnExpr i e ∷ [])) h + 1) ((b ∷ (ts ++ t ∷ [])) ++ vs)
    label_begun h vs next fit is dd =
        of_height AsStmt fs
        (in_labelled b none (past next refl (alone (Sentences.expr fit de (ends_at_colon primary e t is) Sentences.done)) (past next refl (Sentences.sign {l = l} t is Sentences.done) (subst (λ v. OpensSlots v (Stmt_ ∷ []) h vs) (any_place fr) dd)))) (omega arith)
        (ap (λ z. b ∷ z) (sym (append_assoc ts (t ∷ []) vs)))

    statement_begun : (h : ℕ) (vs : List Token) (next : Token) → continues (Level any) e t ≡ false → first vs next ≡ t → OpensSlots (place fs) (By slot.Semicolon ∷ []) h vs → Begun AsStmt fs (max (heights (AnExpr i e ∷ [])) h + 1) ((b ∷ ts) ++ vs)
    statement_begun h vs next c is dd =
        Open.in_expression b none (past next refl (alone (Sentences.expr (le-leb any i (some_level de)) (subst (λ x. Spells (AnExpr i e) l (b ∷ ts) x) (sym is) de) (subst (λ x. continues (Level any) e x ≡ false) (sym is) c) Sentences.done))
        (subst (λ v. OpensSlots v (By slot.Semicolon ∷ []) h vs) (any_place fr) dd))

    as_label : (is_mark P.Colon t && (is_name e && nat_le primary i)) ≡ true → enter slot.Labelled b.loc (Stmt_ ∷ []) (AnExpr i e ∷ []) t.loc fs ≡ Some d → Reads d ((u ++ b ∷ ts) ++ t ∷ [])
    as_label x q =
        let r : Due slot.Labelled b.loc (Stmt_ ∷ []) (AnExpr i e ∷ []) t.loc fs ≡ d = cc in
        let both = and_parts _ _ x in
        let fit = (and_parts _ _ both.1).1 in
        let tail : Tail AsStmt fs Any slot.Labelled b.loc (Stmt_ ∷ []) (AnExpr i e ∷ []) t.loc (b ∷ (ts ++ t ∷ [])) = record {
          spells = λ {qs} {m} {ts = vs} {next} {p} sort _ dd made. label_made p sort m vs next fit (kind_is (T.Punctuator P.Colon) t.kind both.0) dd made;
          begins = λ {n = h} {ts = vs} next _ dd. label_begun h vs next fit (kind_is (T.Punctuator P.Colon) t.kind both.0) dd;
          parts = λ k _ dd. absurd (true≢false (sym k));
        } in
        subst (λ y. Reads y ((u ++ b ∷ ts) ++ t ∷ [])) r (subst (λ y. Reads (Due slot.Labelled b.loc (Stmt_ ∷ []) (AnExpr i e ∷ []) t.loc fs) y) (sym (append_assoc u (b ∷ ts) (t ∷ []))) (due (opened b fr (below, λ k. absurd (true≢false (sym k)), λ k. absurd (true≢false (sym k))) refl tail)))

    statement_made : {qs : List Piece} (p : Piece) → IsOf AsStmt p → (m : Loc) (vs : List Token) (next : Token) → continues (Level any) e t ≡ false → first vs next ≡ t → SpellsSlots (By slot.Semicolon ∷ []) qs l m vs next →
        build slot.Expression (through b.loc m) (AnExpr i e ∷ qs) ≡ Some p → Spells p (through b.loc m) ((b ∷ ts) ++ vs) next
    statement_made (AStmt s) sort m vs next c is dd made =
        Sentences.expression b none (Sentences.expr (le-leb any i (some_level de)) (subst (λ x. Spells (AnExpr i e) l (b ∷ ts) x) (sym is) de) (subst (λ x. continues (Level any) e x ≡ false) (sym is) c) dd) made
    statement_made p sort m vs next c is dd made = absurd sort

    as_statement : continues (Level any) e t ≡ false → pass slot.Expression b.loc (By slot.Semicolon ∷ []) (AnExpr i e ∷ []) l fs t (λ p m. have fs p m t) ≡ Some d → Reads d ((u ++ b ∷ ts) ++ t ∷ [])
    as_statement c q =
        let tail : Tail AsStmt fs (Only t) slot.Expression b.loc (By slot.Semicolon ∷ []) (AnExpr i e ∷ []) l (b ∷ ts) = record {
          spells = λ {qs} {m} {ts = vs} {next} {p} sort is dd made. statement_made p sort m vs next c is dd made;
          begins = λ {n = h} {ts = vs} next is dd. statement_begun h vs next c is dd;
          parts = λ k _ dd. absurd (true≢false (sym k));
        } in
        pass_sound slot.Expression b.loc (By slot.Semicolon ∷ []) (AnExpr i e ∷ []) l fs u ts b t d (λ p m. have fs p m t) fr (below, λ k. absurd (true≢false (sym k)), λ k. absurd (true≢false (sym k))) came refl tail
        (λ o m so sp r. have_option fs u b o m t d fr so (λ p x is y. rec _ u b ts p m fr below came is (sp p x is) y) r) q

-- an expression that is an item
items_sound : {f : Form} {w : Loc} {ss : List Slot} {ps : List Piece} {fs : List Frame} {u ts : List Token} {l : Loc} {d : Config} {i : ℕ} {e : Expr} (b t : Token) {p : Punctuator} {acc : Exprs} →
    Frames AsExpr (InItems f w p ss ps acc ∷ fs) u (Only b) → Led AsExpr (InItems f w p ss ps acc ∷ fs) u b → Spells (AnExpr i e) l (b ∷ ts) t → have (InItems f w p ss ps acc ∷ fs) (Some (AnExpr i e)) l t ≡ Some d → Reads d ((u ++ b ∷ ts) ++ t ∷ [])
items_sound {f = f} {w = w} {ss = ss} {ps = ps} {fs = fs} {ts = ts} {d = d} {i = i} {e = e} b t {p = p} {acc = acc} (in_items {u = u} vs a o items opens firsts) led de h =
    by_bool (continues (Level assignment) e t) _ _ d
    (λ c g. shift_sound b t (in_items vs a o items opens firsts) led de refl (λ g is. gripped (InItems f w p ss ps acc) fs e t g c is) g)
    (λ c g. by_bool (nat_le assignment i) _ _ d (λ x q. item_sound acc vs a b t o items opens (firsts b refl) de c (leb-true assignment i x) q) (λ x q. absurd cc) g) h

-- a part that stands in frames
have_sound : (fs : List Frame) (t : Token) (d : Config) → Sound fs t d
have_sound [] t d k u b ts p l fr led came is sp h = absurd cc
have_sound (f ∷ fs) t d k u b ts (AnExpr i e) l (in_expr o) led came is sp h = expr_sound b t o led came sp (have_sound fs t d) h
have_sound (f ∷ fs) t d k u _ ts (AnExpr i e) l (in_expression b fr none) led came is sp h = expression_sound b t fr none led came sp (have_sound fs t d) h
have_sound (f ∷ fs) t d k u b ts (AnExpr i e) l (in_items vs a o items opens firsts) led came is sp h = items_sound b t (in_items vs a o items opens firsts) led sp h
have_sound (f ∷ fs) t d AsStmt u b ts (AStmt s) l fr led came is sp h = stmt_sound b t fr came sp (have_sound fs t d) h
have_sound (f ∷ fs) t d AsStmt u b ts (AnExpr i e) l fr led came is sp h = absurd is
have_sound (f ∷ fs) t d AsExpr u b ts (AStmt s) l fr led came is sp h = absurd is
have_sound (f ∷ fs) t d AsStmt u b ts p l fr led came is sp h = absurd is
have_sound (f ∷ fs) t d AsExpr u b ts p l fr led came is sp h = absurd is

-- ---- a turn, and a run

narrow_open : {f : Form} {w l : Loc} {ss : List Slot} {ps : List Piece} {fs : List Frame} {u : List Token} (t : Token) → Open f w ss ps l fs u Any → Open f w ss ps l fs u (Only t)
narrow_open t (opened b fr st kd tail) = opened b fr st kd (narrowed tail)

-- the next item of a list, or its end
next_item : {f : Form} {w : Loc} {ss : List Slot} {ps : List Piece} {fs : List Frame} {u : List Token} {d : Config} {p : Punctuator} {acc : Exprs} (t : Token) →
    Frames AsExpr (InItems f w p ss ps acc ∷ fs) u Any → Came d u t → item (InItems f w p ss ps acc ∷ fs) t ≡ Some d → Reads d (u ++ t ∷ [])
next_item {f = f} {w = w} {ss = ss} {ps = ps} {fs = fs} {d = d} {p = p} {acc = acc} t (in_items {u = u} vs a o items opens firsts) came h =
    by_bool (is_mark p t) _ _ d
    (λ c q. let r : Due f w ss (ps ++ TheExprs true acc ∷ []) t.loc fs ≡ d = cc in
    subst (λ y. Reads y ((u ++ vs) ++ t ∷ [])) r (subst (λ y. Reads (Due f w ss (ps ++ TheExprs true acc ∷ []) t.loc fs) y) (sym (append_assoc u vs (t ∷ [])))
    (due (grow (vs ++ t ∷ []) o (λ k us tail. after_items {vs = vs} t (ended items) (kind_is (T.Punctuator p) t.kind c) (firsts t tt) tail)))))
    (λ c q. want_sound t (in_items vs a o items opens (λ n z. firsts n tt)) came q) h
  where
    ended : ((x : Bool) (xs : Exprs) (us : List Token) (n : Token) → SpellsItems x xs us n → SpellsItems x (append_exprs acc xs) (vs ++ us) n) → SpellsItems true acc vs t
    ended items = subst (λ y. SpellsItems true y vs t) (exprs_end acc) (subst (λ y. SpellsItems true (append_exprs acc no_expr) y t) (append-nil vs) (items true no_expr [] t Sentences.no_item))

due_sound : {f : Form} {w l : Loc} {ss : List Slot} {ps : List Piece} {fs : List Frame} {u : List Token} {d : Config} (t : Token) → Open f w ss ps l fs u Any → Came d u t → pass f w ss ps l fs t (λ p m. have fs p m t) ≡ Some d → Reads d (u ++ t ∷ [])
due_sound {f = f} {w = w} {l = l} {ss = ss} {ps = ps} {fs = fs} {d = d} t (opened {u = u} {us = us} b fr st kd tail) came h =
    pass_sound f w ss ps l fs u us b t d (λ p m. have fs p m t) fr st came kd (narrowed tail)
    (λ o m so sp r. have_option fs u b o m t d fr so (λ p x is y. have_sound fs t d _ u b us p m fr st.0 came is (sp p x is) y) r) h

file_sound : {d : Config} (t : Token) → begin_file t ≡ Some d → Reads d (t ∷ [])
file_sound {d = d} t h =
    by_bool (is_kind End t.kind) _ _ d
    (λ e q. let r : Finished no_stmt ≡ d = cc in subst (λ y. Reads y (t ∷ [])) r (at_end (Sentences.file {l = t.loc} {ts = []} t (kind_is End t.kind e) Sentences.no_statement refl)))
    (λ e q. begin_sound {u = []} t (in_file {l = t.loc} {m = t.loc} (λ n z. Sentences.no_statement)) (record { place = Start; ran = refl; goes = h }) q) h

pub turn_sound : {c d : Config} {u : List Token} (t : Token) → Reads c u → run Start u ≡ Some c → turn c t ≡ Some d → Reads d (u ++ t ∷ [])
turn_sound {c = c} t (due o) ran h = due_sound t o (record { place = c; ran = ran; goes = h }) h
turn_sound {c = c} {d = d} t (having {k = k} {p = p} {l = l} {fs = fs} {u = u} {ts = ts} b fr led is sp begun) ran h = have_sound fs t d k u b ts p l fr led (record { place = c; ran = ran; goes = h }) is (sp t) h
turn_sound {c = c} t (item_next fr) ran h = next_item t fr (record { place = c; ran = ran; goes = h }) h
turn_sound t not_begun ran h = file_sound t h
turn_sound t (at_end s) ran h = absurd cc

pub stepped : {A : Type 0} (o : Option Config) (go : Config → Option Config) (d : Config) → ((x : Config) → o ≡ Some x → go x ≡ Some d → A) → then_run o go ≡ Some d → A
stepped None go d f h = absurd cc
stepped (Some x) go d f h = f x refl h

pub run_sound : (ts u : List Token) (c d : Config) → Reads c u → run Start u ≡ Some c → run c ts ≡ Some d → Reads d (u ++ ts)
run_sound [] u c d r ran h = let q : c ≡ d = cc in subst (λ x. Reads x (u ++ [])) q (subst (λ y. Reads c y) (sym (append-nil u)) r)
run_sound (t ∷ ts) u c d r ran h = stepped (turn c t) (λ x. run x ts) d
    (λ x e g. subst (λ y. Reads d y) (append_assoc u (t ∷ []) ts) (run_sound ts (u ++ t ∷ []) x d (turn_sound t r ran e) (run_append Start u (t ∷ []) ∙ ap (λ o. then_run o (λ y. run y (t ∷ []))) ran ∙ ap (λ o. then_run o (λ y. Some y)) e) g)) h

-- what is read stands for its tokens
pub reads_so : (ts : List Token) (c : Config) → run Start ts ≡ Some c → Reads c ts
reads_so ts c h = run_sound ts [] Start c not_begun refl h

-- what a finished run has read is a sentence
finished_sentence : {ss : Stmts} {us : List Token} → Reads (Finished ss) us → Sentence (MakeFile (with_directives ss) []) us
finished_sentence (at_end s) = s

pub sound : (ts : List Token) (ss : Stmts) → run Start ts ≡ Some (Finished ss) → Sentence (MakeFile (with_directives ss) []) ts
sound ts ss h = finished_sentence (reads_so ts (Finished ss) h)

pub reads_only : (tree : File) (ts : List Token) → tree_of (run Start ts) ≡ Some tree → Sentence tree ts
reads_only tree ts h = by_run (run Start ts) refl h
  where
    by_run : (o : Option Config) → run Start ts ≡ o → tree_of o ≡ Some tree → Sentence tree ts
    by_run (Some (Finished ss)) e g = let q : MakeFile (with_directives ss) [] ≡ tree = cc in subst (λ x. Sentence x ts) q (sound ts ss e)
    by_run o e g = absurd cc
