-- What a place of the reader of the whole language stands for: the tokens that have been read. A token that begins a part.
use Rattle.std.proofs.Common.{◌≡◌, ℕ, ◌+◌, max, arith, Bool, true, false, not, List, [], ◌∷◌, ◌++◌, Option, Some, None, if◌then◌else◌, refl, sym, subst, ◌∙◌, append_assoc, append-nil}
use Rattle.std.specs.Prelude.{◌||◌, ◌&&◌, nat_le}
use Rattle.std.proofs.lemmas.Bool.{true≢false, leb-true}
use Rattle.js_terms.specs.declared.place.Loc.{Loc}
use Rattle.js_tree.specs.Plain.{Expr, Exprs, no_expr, Stmts, MakeFile}
use Rattle.js_tree.specs.Height.{height_exprs}
use Rattle.js_reading.specs.Level.{any}
use Rattle.js_text.specs.Token.{Token, Kind}
use Rattle.js_text.specs.Token as T
use Rattle.js_text.specs.declared.punctuator.Punctuator.{Punctuator}
use Rattle.js_reading.specs.Spans.{through, first}
use Rattle.js_reading.specs.Kinds.{is_kind}
use Rattle.js_reading.specs.Slots.{Wanted, Level, Slot, Sign, Text, Expr_, Stmt_, Stmts_, Items_, Piece, AnExpr, AStmt, TheExprs, Form}
use Rattle.js_reading.specs.Slots as slot
use Rattle.js_reading.specs.Productions.{primary, call, is_mark, piece_of, slots, begins_with, prefix, statement, statements, as_it_is}
use Rattle.js_reading.specs.Makes.{build, with_directives}
use Rattle.js_reading.specs.Sentences
use Rattle.js_reading.specs.Sentences.{leaf_of, least, grip, Spells, SpellsSlots, SpellsItems, SpellsStmts, Sentence}
use Rattle.js_reading.specs.Turns.{place, begun_level, declares, listing, Frame, InForm, InExpression, InStmts, InFile, InItems, Config, Due, Have, Item, Start, Finished, begin_form, begin_leaf, want_by, want, begin_by, begin, texted, enter, take, turn, run}
use Rattle.js_reading.specs.Open.{height, heights, OpensSlots, past, OpensItems, one_token, in_prefixed, in_headed}
use Rattle.js_reading.proofs.sentences.Runs.{nowhere, by_bool}
use Rattle.js_reading.proofs.sentences.KindsLemmas.{kind_is}
use Rattle.js_reading.proofs.sentences.Lists.{append_exprs}
use Rattle.js_reading.proofs.sentences.Shapes.{find_all, begins_prefix}
use Rattle.js_reading.proofs.levels.Makings.{is_first, is_join}
use Rattle.js_reading.proofs.sentences.Standing.{When, Any, Only, Holds, Sort, AsExpr, AsStmt, IsOf, Begun, Tail, after_sign, after_text, after_items}

abbrev pub Kindly : Sort → Form → Type 0
Kindly AsExpr f = Unit {0}
Kindly AsStmt f = (is_first f || is_join f) ≡ false

-- after these tokens the machine begins with the next one what stands in these frames
abbrev pub Led : Sort → List Frame → List Token → Token → Type 0
Led AsExpr fs u b = (c : Config) × (run Start u ≡ Some c) × (turn c b ≡ want b fs)
Led AsStmt fs u b = (c : Config) × (run Start u ≡ Some c) × (turn c b ≡ begin b fs)

-- what stands in brackets starts with its first token
abbrev pub bracketed : Form → Bool
bracketed slot.Parentheses = true
bracketed slot.ArrayLiteral = true
bracketed slot.ObjectLiteral = true
bracketed f = false

-- a call stands only where one may
abbrev pub is_called : Form → Bool
is_called slot.Call = true
is_called f = false

abbrev pub Stood : Sort → Form → Loc → List Frame → List Token → Token → Type 0
Stood k f w fs u b = Led k fs u b × (bracketed f ≡ true → b.loc ≡ w) × (is_called f ≡ true → nat_le (grip (place fs)) call ≡ true)

abbrev pub part_first : List Slot → Bool
part_first (Expr_ v ∷ ss) = true
part_first ss = false

call_first : (f : Form) (ss : List Slot) → is_called f ≡ true → slots f ≡ ss → part_first ss ≡ true
call_first slot.Call ss h are = subst (λ x. part_first x ≡ true) are refl
call_first f ss h are = absurd (true≢false (sym h))

-- after these tokens this one leads to the place
pub record Came (d : Config) (u : List Token) (t : Token) : Type 0 where
  pub place : Config
  pub ran : run Start u ≡ Some place
  pub goes : turn place t ≡ Some d

pub came_at : {d : Config} {u v : List Token} (t : Token) → u ≡ v → Came d u t → Came d v t
came_at {d = d} t e came = subst (λ x. Came d x t) e came

-- the frames stand for these tokens, where the next is such a one
mutual
  pub data Frames : Sort → List Frame → List Token → When → Type 0 where
    in_file : {acc : Stmts} {l m : Loc} {ts : List Token} {c : When} → ((n : Token) → Holds c n → SpellsStmts acc l m ts n) → Frames AsStmt (InFile acc ∷ []) ts c
    in_stmts : {f : Form} {w l m : Loc} {ss : List Slot} {ps : List Piece} {fs : List Frame} {acc : Stmts} {u : List Token} (ts : List Token) {c : When} (b : Token) → Open f w (Stmts_ ∷ ss) ps l fs u (Only b) → ((n : Token) → Holds c n → SpellsStmts acc l m ts n) →
        ((n : Token) → Holds c n → first ts n ≡ b) → Frames AsStmt (InStmts f w ss ps acc ∷ fs) (u ++ ts) c
    in_expression : {fs : List Frame} {u : List Token} (b : Token) → Frames AsStmt fs u (Only b) → statement b ≡ None → Frames AsExpr (InExpression b.loc ∷ fs) u (Only b)
    in_expr : {f : Form} {w l : Loc} {v : Wanted} {ss : List Slot} {ps : List Piece} {fs : List Frame} {u : List Token} {c : When} → Open f w (Expr_ v ∷ ss) ps l fs u c → Frames AsExpr (InForm f w (Expr_ v) ss ps ∷ fs) u c
    in_stmt : {f : Form} {w l : Loc} {ss : List Slot} {ps : List Piece} {fs : List Frame} {u : List Token} {c : When} → Open f w (Stmt_ ∷ ss) ps l fs u c → Frames AsStmt (InForm f w Stmt_ ss ps ∷ fs) u c
    in_items : {f : Form} {w l : Loc} {p : Punctuator} {ss : List Slot} {ps : List Piece} {fs : List Frame} {acc : Exprs} {u : List Token} (ts : List Token) {c : When} (b : Token) → Open f w (Items_ p ∷ ss) ps l fs u (Only b) →
        ((x : Bool) (xs : Exprs) (us : List Token) (n : Token) → SpellsItems x xs us n → SpellsItems x (append_exprs acc xs) (ts ++ us) n) → ((h : ℕ) (us : List Token) → OpensItems h us → OpensItems (max (height_exprs acc) h) (ts ++ us)) → ((n : Token) → Holds c n → first ts n ≡ b) → Frames AsExpr (InItems f w p ss ps acc ∷ fs) (u ++ ts) c

  -- a production is open, and these slots are left of it
  pub data Open : Form → Loc → List Slot → List Piece → Loc → List Frame → List Token → When → Type 0 where
    opened : {k : Sort} {f : Form} {w l : Loc} {ss : List Slot} {ps : List Piece} {fs : List Frame} {u us : List Token} {c : When} (b : Token) → Frames k fs u (Only b) → Stood k f w fs u b → Kindly k f → Tail k fs c f w ss ps l (b ∷ us) → Open f w ss ps l fs (u ++ b ∷ us) c

pub data Reads : Config → List Token → Type 0 where
  due : {f : Form} {w l : Loc} {ss : List Slot} {ps : List Piece} {fs : List Frame} {u : List Token} → Open f w ss ps l fs u Any → Reads (Due f w ss ps l fs) u
  having : {k : Sort} {p : Piece} {l : Loc} {fs : List Frame} {u ts : List Token} (b : Token) → Frames k fs u (Only b) → Led k fs u b → IsOf k p → ((n : Token) → Spells p l (b ∷ ts) n) → Begun k fs (height p) (b ∷ ts) → Reads (Have p l fs) (u ++ b ∷ ts)
  item_next : {f : Form} {w : Loc} {p : Punctuator} {ss : List Slot} {ps : List Piece} {acc : Exprs} {fs : List Frame} {u : List Token} → Frames AsExpr (InItems f w p ss ps acc ∷ fs) u Any → Reads (Item (InItems f w p ss ps acc ∷ fs)) u
  not_begun : Reads Start []
  at_end : {ss : Stmts} {us : List Token} → Sentence (MakeFile (with_directives ss) []) us → Reads (Finished ss) us

-- one part of an open production more
pub grow : {f : Form} {w l x : Loc} {ss rs : List Slot} {ps qs : List Piece} {fs : List Frame} {u : List Token} {c d : When} (vs : List Token) → Open f w ss ps l fs u c →
    ((k : Sort) (us : List Token) → Tail k fs c f w ss ps l us → Tail k fs d f w rs qs x (us ++ vs)) → Open f w rs qs x fs (u ++ vs) d
grow {f = f} {w = w} {x = x} {rs = rs} {qs = qs} {fs = fs} {d = d} vs (opened {k = k} {u = u} {us = us} b fr st kd tail) go =
    subst (λ y. Open f w rs qs x fs y d) (sym (append_assoc u (b ∷ us) vs)) (opened b fr st kd (go k (b ∷ us) tail))

abbrev pub Begins : Sort → Form → Token → Type 0
Begins k f t = (ps : List Piece) (p : Piece) (l : Loc) (ts : List Token) (next : Token) → IsOf k p → SpellsSlots (slots f) ps t.loc l (t ∷ ts) next → build f (through t.loc l) ps ≡ Some p → Spells p (through t.loc l) (t ∷ ts) next

-- so does what these slots begin begin it in frames
abbrev pub Starts : Sort → List Frame → Form → Token → Type 0
Starts k fs f t = (n : ℕ) (ts : List Token) → OpensSlots (place fs) (slots f) n (t ∷ ts) → Begun k fs (n + 1) (t ∷ ts)

-- the first token of a production is read
form_sound : {k : Sort} (f : Form) (t : Token) (fs : List Frame) (u : List Token) (d : Config) (ss : List Slot) → Frames k fs u (Only t) → Led k fs u t → Kindly k f → Begins k f t → Starts k fs f t → slots f ≡ ss → begins_with ss t ≡ true → begin_form f t ss fs ≡ Some d → Reads d (u ++ t ∷ [])
form_sound {k = k} f t fs u d (Sign j ∷ ss) fr led kd spell start are told h =
    let q : Due f t.loc ss [] t.loc fs ≡ d = cc in
    let tail : Tail k fs Any f t.loc ss [] t.loc (t ∷ []) = record {
      spells = λ {qs} {m} {ts} {next} is _ dd made. spell _ _ _ _ _ is (subst (λ x. SpellsSlots x qs t.loc m (t ∷ ts) next) (sym are) (Sentences.sign t (kind_is j t.kind told) dd)) made;
      begins = λ {n} {ts} next _ dd. start (max (heights []) n) ts (subst (λ x. OpensSlots (place fs) x (max (heights []) n) (t ∷ ts)) (sym are) (past next refl (Sentences.sign {l = t.loc} t (kind_is j t.kind told) Sentences.done) dd));
      parts = λ {qs} {m} {ts} {next} is _ dd. subst (λ x. SpellsSlots x qs t.loc m (t ∷ ts) next) (sym are) (Sentences.sign t (kind_is j t.kind told) dd);
    } in
    subst (λ x. Reads x (u ++ t ∷ [])) q (due (opened t fr (led, λ is. refl, λ k. absurd (true≢false (sym (call_first f _ k are)))) kd tail))
form_sound {k = k} f t fs u d (Text c ∷ ss) fr led kd spell start are told h = by_piece (piece_of c t.kind t.loc) refl h
  where
    by_piece : (o : Option Piece) → piece_of c t.kind t.loc ≡ o → texted o (λ p. enter f t.loc ss (p ∷ []) t.loc fs) ≡ Some d → Reads d (u ++ t ∷ [])
    by_piece None e g = absurd cc
    by_piece (Some p) e g =
        let q : Due f t.loc ss (p ∷ []) t.loc fs ≡ d = cc in
        let tail : Tail k fs Any f t.loc ss (p ∷ []) t.loc (t ∷ []) = record {
          spells = λ {qs} {m} {ts} {next} is _ dd made. spell _ _ _ _ _ is (subst (λ x. SpellsSlots x (p ∷ qs) t.loc m (t ∷ ts) next) (sym are) (Sentences.text t e dd)) made;
          begins = λ {n} {ts} next _ dd. start (max (heights (p ∷ [])) n) ts (subst (λ x. OpensSlots (place fs) x (max (heights (p ∷ [])) n) (t ∷ ts)) (sym are) (past next refl (Sentences.text {l = t.loc} t e Sentences.done) dd));
          parts = λ {qs} {m} {ts} {next} is _ dd. subst (λ x. SpellsSlots x (p ∷ qs) t.loc m (t ∷ ts) next) (sym are) (Sentences.text t e dd);
        } in
        subst (λ x. Reads x (u ++ t ∷ [])) q (due (opened t fr (led, λ is. refl, λ k. absurd (true≢false (sym (call_first f _ k are)))) kd tail))
form_sound f t fs u d ss fr led kd spell start are told h = absurd (true≢false (sym told))

begins_expr : (f : Form) (t : Token) → prefix t ≡ Some f → Begins AsExpr f t
begins_expr f t is ps (AnExpr i e) l ts next k dd made = Sentences.prefixed f t is dd made
begins_expr f t is ps p l ts next k dd made = absurd k

begins_stmt : (f : Form) (t : Token) → statement t ≡ Some f → Begins AsStmt f t
begins_stmt f t is ps (AStmt s) l ts next k dd made = Sentences.headed f t is dd made
begins_stmt f t is ps p l ts next k dd made = absurd k

statement_kind : (t : Token) (f : Form) → statement t ≡ Some f → ((is_first f || is_join f) ≡ false) × (begins_with (slots f) t ≡ true)
statement_kind t f h = let a = find_all (λ g. not (is_first g || is_join g)) as_it_is statements t f refl h in (not_true (is_first f || is_join f) a.0, a.1)
  where
    not_true : (b : Bool) → not b ≡ true → b ≡ false
    not_true false q = refl
    not_true true q = absurd (true≢false (sym q))

-- no frame that asks for a statement asks for an expression
pub any_place : {fs : List Frame} {u : List Token} {c : When} → Frames AsStmt fs u c → place fs ≡ Level any
any_place (in_file d) = refl
any_place (in_stmts ts b o d firsts) = refl
any_place (in_stmt o) = refl

-- a token that begins an expression, and one that begins a statement
pub want_sound : {fs : List Frame} {u : List Token} {d : Config} (t : Token) → Frames AsExpr fs u (Only t) → Came d u t → want t fs ≡ Some d → Reads d (u ++ t ∷ [])
want_sound {fs = fs} {u = u} {d = d} t fr came h = by_form (prefix t) refl h
  where
    led : Led AsExpr fs u t
    led = (came.place, came.ran, came.goes ∙ sym h)

    by_leaf : (o : Option Expr) → prefix t ≡ None → leaf_of t.kind t.loc ≡ o → begin_leaf t fs o ≡ Some d → Reads d (u ++ t ∷ [])
    by_leaf None none e g = absurd cc
    by_leaf (Some x) none e g = let q : Have (AnExpr primary x) t.loc fs ≡ d = cc in subst (λ y. Reads y (u ++ t ∷ [])) q (having t fr led tt (λ n. Sentences.leaf t none e) (one_token t none e))

    by_form : (o : Option Form) → prefix t ≡ o → want_by o t fs ≡ Some d → Reads d (u ++ t ∷ [])
    by_form None e g = by_leaf (leaf_of t.kind t.loc) e refl g
    by_form (Some f) e g =
        by_bool (nat_le (least (place fs)) (begun_level f)) _ _ d
        (λ c q. form_sound f t fs u d (slots f) fr led tt (begins_expr f t e) (λ n ts dd. in_prefixed f t e (leb-true _ _ c) dd) refl (begins_prefix t f e) q) (λ c q. nowhere q) g

pub begin_sound : {fs : List Frame} {u : List Token} {d : Config} (t : Token) → Frames AsStmt fs u (Only t) → Came d u t → begin t fs ≡ Some d → Reads d (u ++ t ∷ [])
begin_sound {fs = fs} {u = u} {d = d} t fr came h = by_form (statement t) refl h
  where
    led : Led AsStmt fs u t
    led = (came.place, came.ran, came.goes ∙ sym h)

    by_form : (o : Option Form) → statement t ≡ o → begin_by o t fs ≡ Some d → Reads d (u ++ t ∷ [])
    by_form None e g = want_sound t (in_expression t fr e) came g
    by_form (Some f) e g =
        let a = statement_kind t f e in
        by_bool (declares f && not (listing fs)) _ _ d (λ c q. nowhere q)
        (λ c q. form_sound f t fs u d (slots f) fr led a.0 (begins_stmt f t e) (λ n ts dd. in_headed f t e c (subst (λ v. OpensSlots v (slots f) n (t ∷ ts)) (any_place fr) dd)) refl a.1 q) g

pub items_more : {n m : ℕ} {ts us : List Token} → n ≡ m → ts ≡ us → OpensItems n ts → OpensItems m us
items_more {n = n} {m = m} {ts = ts} e q d = subst (λ x. OpensItems m x) q (subst (λ x. OpensItems x ts) e d)

-- a token that a slot takes
pub take_sound : {f : Form} {w l : Loc} {ss : List Slot} {ps : List Piece} {fs : List Frame} {u : List Token} {d : Config} (s : Slot) (t : Token) → Open f w (s ∷ ss) ps l fs u (Only t) → Came d u t → take f w s ss ps fs t ≡ Some d → Reads d (u ++ t ∷ [])
take_sound {f = f} {w = w} {ss = ss} {ps = ps} {fs = fs} {u = u} {d = d} (Sign j) t o came h = by_test (is_kind j t.kind) refl h
  where
    by_test : (b : Bool) → is_kind j t.kind ≡ b → (if b then enter f w ss ps t.loc fs else None) ≡ Some d → Reads d (u ++ t ∷ [])
    by_test false e g = absurd cc
    by_test true e g = let q : Due f w ss ps t.loc fs ≡ d = cc in subst (λ y. Reads y (u ++ t ∷ [])) q (due (grow (t ∷ []) o (λ k us tail. after_sign t (kind_is j t.kind e) refl tail)))
take_sound {f = f} {w = w} {ss = ss} {ps = ps} {fs = fs} {u = u} {d = d} (Text c) t o came h = by_piece (piece_of c t.kind t.loc) refl h
  where
    by_piece : (x : Option Piece) → piece_of c t.kind t.loc ≡ x → texted x (λ p. enter f w ss (ps ++ p ∷ []) t.loc fs) ≡ Some d → Reads d (u ++ t ∷ [])
    by_piece None e g = absurd cc
    by_piece (Some p) e g = let q : Due f w ss (ps ++ p ∷ []) t.loc fs ≡ d = cc in subst (λ y. Reads y (u ++ t ∷ [])) q (due (grow (t ∷ []) o (λ k us tail. after_text t e refl tail)))
take_sound (Expr_ v) t o came h = want_sound t (in_expr o) came h
take_sound Stmt_ t o came h = begin_sound t (in_stmt o) came h
take_sound {f = f} {w = w} {ss = ss} {ps = ps} {fs = fs} {u = u} {d = d} (Items_ p) t o came h = by_test (is_mark p t) refl h
  where
    by_test : (b : Bool) → is_mark p t ≡ b → (if b then enter f w ss (ps ++ TheExprs true no_expr ∷ []) t.loc fs else want t (InItems f w p ss ps no_expr ∷ fs)) ≡ Some d → Reads d (u ++ t ∷ [])
    by_test true e g = let q : Due f w ss (ps ++ TheExprs true no_expr ∷ []) t.loc fs ≡ d = cc in
        subst (λ y. Reads y (u ++ t ∷ [])) q (due (grow (t ∷ []) o (λ k us tail. after_items {vs = []} t Sentences.no_item (kind_is (T.Punctuator p) t.kind e) refl tail)))
    by_test false e g = subst (λ x. Reads d (x ++ t ∷ [])) (append-nil u) (want_sound t (in_items [] t o (λ x xs us n ds. ds) (λ n us ds. items_more (omega arith) refl ds) (λ n k. k)) (came_at t (sym (append-nil u)) came) g)
take_sound s t o came h = absurd cc
