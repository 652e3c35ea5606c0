-- What a place counts never falls, so that no tree which it leads to is lower.
use Rattle.std.proofs.Common.{◌≡◌, ℕ, ◌+◌, ◌≤◌, max, true, false, ◌&&◌, List, [], ◌∷◌, ◌++◌, Option, Some, None, refl, sym, ap, ◌∙◌, subst, arith, le_trans, le_refl}
use Rattle.std.specs.Prelude.{nat_le}
use Rattle.js_terms.specs.declared.place.Loc.{Loc}
use Rattle.js_tree.specs.Plain.{Expr, Exprs, no_expr, push_exprs, Stmt, Stmts, no_stmt, more_stmt, push_stmts, File, MakeFile}
use Rattle.js_tree.specs.Height.{height_expr, height_exprs, height_stmt, height_stmts, height_file}
use Rattle.js_text.specs.Token.{Token, End}
use Rattle.js_reading.specs.Level.{assignment}
use Rattle.js_text.specs.declared.punctuator.Punctuator.{Punctuator}
use Rattle.js_text.specs.declared.punctuator.Punctuator.TheVariants as P
use Rattle.js_reading.specs.Spans.{through}
use Rattle.js_reading.specs.Kinds.{is_kind}
use Rattle.js_reading.specs.Outside.{this_stmts}
use Rattle.js_reading.specs.Slots.{Wanted, Level, Slot, Sign, Text, Expr_, Stmt_, Stmts_, Items_, Place_, By, Piece, AnExpr, AStmt, TheStmts, TheExprs, APlace, Branch, Refuse, Pass, Go, Form}
use Rattle.js_reading.specs.Slots as slot
use Rattle.js_reading.specs.Productions.{primary, is_mark, piece_of, slots, prefix, statement, join, wants, after_first}
use Rattle.js_reading.specs.Choices.{branch}
use Rattle.js_reading.specs.Makes.{build, is_declaration, with_directives}
use Rattle.js_reading.specs.Sentences.{leaf_of, fits, continues, closes, Sentence}
use Rattle.js_reading.specs.Turns.{place, leads, Frame, InForm, InExpression, InStmts, InFile, InItems, Config, Due, Have, Item, Start, Finished, enter, begin_form, begin_leaf, want_by, want, begin_by, begin, texted, take, pass, wanted, banned, take_second, shift, is_name, listed, leave, finished, left, have, item, turn, then_run, run, tree_of}
use Rattle.js_reading.specs.Open.{height, heights, lift, up, floor}
use Rattle.js_reading.proofs.heights.Heights.{Raises, height_made, directives_same}
use Rattle.js_reading.proofs.sentences.Standing.{heights_append, exprs_pushed}
use Rattle.js_reading.proofs.sentences.Runs.{nowhere, by_bool, by_branch}
use Rattle.js_reading.proofs.sentences.Reading.{complete}
use Rattle.js_reading.proofs.sentences.Sound.{stepped}

-- what a place counts, and the height of a file that is read
abbrev pub reach : Config → ℕ
reach (Finished ss) = height_stmts ss
reach c = floor c

floor_reach : (c : Config) → floor c ≤ reach c
floor_reach (Finished ss) = omega arith
floor_reach (Due f w ss ps l fs) = le_refl _
floor_reach (Have p l fs) = le_refl _
floor_reach (Item fs) = le_refl _
floor_reach Start = le_refl _

stmts_pushed : (xs : Stmts) (s : Stmt) → height_stmts (push_stmts xs s) ≡ max (height_stmts xs) (height_stmt s)
stmts_pushed no_stmt s = omega arith
stmts_pushed (more_stmt x xs) s = let r = stmts_pushed xs s in omega (arith, r)

up_mono : (fs : List Frame) (h k : ℕ) → h ≤ k → up fs h ≤ up fs k
up_mono [] h k le = le
up_mono (InFile xs ∷ fs) h k le = omega arith
up_mono (InForm f w s ss ps ∷ fs) h k le = up_mono fs (lift (InForm f w s ss ps) h) (lift (InForm f w s ss ps) k) (omega arith)
up_mono (InExpression w ∷ fs) h k le = up_mono fs (h + 1) (k + 1) (omega arith)
up_mono (InStmts f w ss ps xs ∷ fs) h k le = up_mono fs (lift (InStmts f w ss ps xs) h) (lift (InStmts f w ss ps xs) k) (omega arith)
up_mono (InItems f w p ss ps xs ∷ fs) h k le = up_mono fs (lift (InItems f w p ss ps xs) h) (lift (InItems f w p ss ps xs) k) (omega arith)

lands : {c d : Config} (n : ℕ) → Some c ≡ Some d → n ≤ reach c → n ≤ reach d
lands {c = c} {d = d} n h le = let e : c ≡ d = cc in subst (λ x. n ≤ reach x) e le

-- ---- a part begins

form_up : (f : Form) (t : Token) (ss : List Slot) (fs : List Frame) (d : Config) → begin_form f t ss fs ≡ Some d → up fs 0 ≤ reach d
form_up f t (Sign k ∷ ss) fs d h = lands (up fs 0) h (up_mono fs 0 (heights [] + 1) (omega arith))
form_up f t (Text c ∷ ss) fs d h = by_piece (piece_of c t.kind t.loc) h
  where
    by_piece : (o : Option Piece) → texted o (λ p. enter f t.loc ss (p ∷ []) t.loc fs) ≡ Some d → up fs 0 ≤ reach d
    by_piece None q = absurd cc
    by_piece (Some p) q = lands (up fs 0) q (up_mono fs 0 (heights (p ∷ []) + 1) (omega arith))
form_up f t ss fs d h = absurd cc

want_up : (t : Token) (fs : List Frame) (d : Config) → want t fs ≡ Some d → up fs 0 ≤ reach d
want_up t fs d h = by_form (prefix t) h
  where
    by_leaf : (o : Option Expr) → begin_leaf t fs o ≡ Some d → up fs 0 ≤ reach d
    by_leaf None q = absurd cc
    by_leaf (Some e) q = lands (up fs 0) q (up_mono fs 0 (height_expr e) (omega arith))

    by_form : (o : Option Form) → want_by o t fs ≡ Some d → up fs 0 ≤ reach d
    by_form None q = by_leaf (leaf_of t.kind t.loc) q
    by_form (Some f) q = by_bool _ _ _ d (λ c g. form_up f t (slots f) fs d g) (λ c g. nowhere g) q

begin_up : (t : Token) (fs : List Frame) (d : Config) → begin t fs ≡ Some d → up fs 0 ≤ reach d
begin_up t fs d h = by_form (statement t) h
  where
    by_form : (o : Option Form) → begin_by o t fs ≡ Some d → up fs 0 ≤ reach d
    by_form None q = le_trans (up_mono fs 0 (lift (InExpression t.loc) 0) (omega arith)) (want_up t (InExpression t.loc ∷ fs) d q)
    by_form (Some f) q = by_bool _ _ _ d (λ c g. nowhere g) (λ c g. form_up f t (slots f) fs d g) q

take_up : (f : Form) (w : Loc) (s : Slot) (ss : List Slot) (ps : List Piece) (fs : List Frame) (t : Token) (d : Config) → take f w s ss ps fs t ≡ Some d → up fs (heights ps + 1) ≤ reach d
take_up f w (Sign k) ss ps fs t d h = by_bool (is_kind k t.kind) _ _ d (λ e q. lands (up fs (heights ps + 1)) q (le_refl _)) (λ e q. absurd cc) h
take_up f w (Text c) ss ps fs t d h = by_piece (piece_of c t.kind t.loc) h
  where
    by_piece : (o : Option Piece) → texted o (λ p. enter f w ss (ps ++ p ∷ []) t.loc fs) ≡ Some d → up fs (heights ps + 1) ≤ reach d
    by_piece None q = absurd cc
    by_piece (Some p) q = let e = heights_append ps (p ∷ []) in lands (up fs (heights ps + 1)) q (up_mono fs (heights ps + 1) (heights (ps ++ p ∷ []) + 1) (omega (arith, e)))
take_up f w (Expr_ n) ss ps fs t d h = le_trans (up_mono fs (heights ps + 1) (lift (InForm f w (Expr_ n) ss ps) 0) (omega arith)) (want_up t (InForm f w (Expr_ n) ss ps ∷ fs) d h)
take_up f w Stmt_ ss ps fs t d h = le_trans (up_mono fs (heights ps + 1) (lift (InForm f w Stmt_ ss ps) 0) (omega arith)) (begin_up t (InForm f w Stmt_ ss ps ∷ fs) d h)
take_up f w (Items_ p) ss ps fs t d h =
    by_bool (is_mark p t) _ _ d
    (λ e q. let r = heights_append ps (TheExprs true no_expr ∷ []) in lands (up fs (heights ps + 1)) q (up_mono fs (heights ps + 1) (heights (ps ++ TheExprs true no_expr ∷ []) + 1) (omega (arith, r))))
    (λ e q. le_trans (up_mono fs (heights ps + 1) (lift (InItems f w p ss ps no_expr) 0) (omega arith)) (want_up t (InItems f w p ss ps no_expr ∷ fs) d q)) h
take_up f w s ss ps fs t d h = absurd cc

-- ---- a part stands there

abbrev pub Rises : List Frame → Token → Config → Type 0
Rises fs t d = (p : Piece) (m : Loc) → have fs (Some p) m t ≡ Some d → up fs (height p) ≤ reach d

made_up : (fs : List Frame) (ps : List Piece) (o : Option Piece) (m : Loc) (t : Token) (d : Config) → Rises fs t d → Raises ps o → have fs o m t ≡ Some d → up fs (heights ps + 1) ≤ reach d
made_up fs ps (Some (AnExpr i e)) m t d rec is h = le_trans (up_mono fs (heights ps + 1) (height_expr e) is) (rec (AnExpr i e) m h)
made_up fs ps (Some (AStmt s)) m t d rec is h = le_trans (up_mono fs (heights ps + 1) (height_stmt s) is) (rec (AStmt s) m h)
made_up [] ps o m t d rec is h = absurd cc
made_up (f ∷ fs) ps o m t d rec is h = absurd cc

pass_up : (f : Form) (w : Loc) (ss : List Slot) (ps : List Piece) (l : Loc) (fs : List Frame) (t : Token) (d : Config) → Rises fs t d → pass f w ss ps l fs t (λ p m. have fs p m t) ≡ Some d → up fs (heights ps + 1) ≤ reach d
pass_up f w [] ps l fs t d rec h = made_up fs ps (build f (through w l) ps) (through w l) t d rec (height_made f (through w l) ps) h
pass_up f w (Place_ ∷ ss) ps l fs t d rec h =
    let e = heights_append ps (APlace l ∷ []) in le_trans (up_mono fs (heights ps + 1) (heights (ps ++ APlace l ∷ []) + 1) (omega (arith, e))) (pass_up f w ss (ps ++ APlace l ∷ []) l fs t d rec h)
pass_up f w (Stmts_ ∷ ss) ps l fs t d rec h =
    by_bool (closes t) _ _ d
    (λ c q. let e = heights_append ps (TheStmts no_stmt ∷ []) in le_trans (up_mono fs (heights ps + 1) (heights (ps ++ TheStmts no_stmt ∷ []) + 1) (omega (arith, e))) (pass_up f w ss (ps ++ TheStmts no_stmt ∷ []) l fs t d rec q))
    (λ c q. le_trans (up_mono fs (heights ps + 1) (lift (InStmts f w ss ps no_stmt) 0) (omega arith)) (begin_up t (InStmts f w ss ps no_stmt ∷ fs) d q)) h
pass_up f w (By c ∷ ss) ps l fs t d rec h =
    by_branch (branch c t) _ _ d
    (λ qs e q. let r = heights_append ps qs in le_trans (up_mono fs (heights ps + 1) (heights (ps ++ qs) + 1) (omega (arith, r))) (pass_up f w ss (ps ++ qs) l fs t d rec q))
    (λ qs s rs e q. let r = heights_append ps qs in le_trans (up_mono fs (heights ps + 1) (heights (ps ++ qs) + 1) (omega (arith, r))) (by_bool (leads (place fs) c) _ _ d (λ k g. take_up f w s (rs ++ ss) (ps ++ qs) fs t d g) (λ k g. nowhere g) q)) h
pass_up f w (s ∷ ss) ps l fs t d rec h = take_up f w s ss ps fs t d h

second_up : (f : Form) (i : ℕ) (e : Expr) (l : Loc) (fs : List Frame) (t : Token) (ss : List Slot) (d : Config) → take_second f i e l fs t ss ≡ Some d → up fs (height_expr e) ≤ reach d
second_up f i e l fs t (Sign k ∷ ss) d h = lands (up fs (height_expr e)) h (up_mono fs (height_expr e) (heights (AnExpr i e ∷ []) + 1) (omega arith))
second_up f i e l fs t ss d h = absurd cc

shift_up : (o : Option Form) (i : ℕ) (e : Expr) (l : Loc) (fs : List Frame) (t : Token) (d : Config) → shift o i e l fs t ≡ Some d → up fs (height_expr e) ≤ reach d
shift_up None i e l fs t d h = absurd cc
shift_up (Some f) i e l fs t d h = by_bool (nat_le (wants (Some f)) i && fits (place fs) i e) _ _ d (λ c q. second_up f i e l fs t (after_first (slots f)) d q) (λ c q. absurd cc) h

listed_up : (f : Form) (w : Loc) (p : Punctuator) (ss : List Slot) (ps : List Piece) (xs : Exprs) (fs : List Frame) (t : Token) (d : Config) → listed f w p ss ps xs fs t ≡ Some d → up fs (max (heights ps) (height_exprs xs) + 1) ≤ reach d
listed_up f w p ss ps xs fs t d h =
    by_bool (is_mark P.Comma t) _ _ d
    (λ c q. lands (up fs (max (heights ps) (height_exprs xs) + 1)) q (up_mono fs (max (heights ps) (height_exprs xs) + 1) (lift (InItems f w p ss ps xs) 0) (omega arith)))
    (λ c q. by_bool (is_mark p t) _ _ d
    (λ k g. let r = heights_append ps (TheExprs false xs ∷ []) in lands (up fs (max (heights ps) (height_exprs xs) + 1)) g (up_mono fs (max (heights ps) (height_exprs xs) + 1) (heights (ps ++ TheExprs false xs ∷ []) + 1) (omega (arith, r))))
    (λ k g. absurd cc) q) h

leave_up : (f : Frame) (i : ℕ) (e : Expr) (l : Loc) (fs : List Frame) (t : Token) (d : Config) → Rises fs t d → leave f i e l fs t (λ p m. have fs p m t) ≡ Some d → up (f ∷ fs) (height_expr e) ≤ reach d
leave_up (InForm f w (Expr_ n) ss ps) i e l fs t d rec h =
    by_bool (fits n i e) _ _ d
    (λ c q. let r = heights_append ps (AnExpr i e ∷ []) in
    le_trans (up_mono fs (lift (InForm f w (Expr_ n) ss ps) (height_expr e)) (heights (ps ++ AnExpr i e ∷ []) + 1) (omega (arith, r))) (pass_up f w ss (ps ++ AnExpr i e ∷ []) l fs t d rec q))
    (λ c q. absurd cc) h
leave_up (InExpression w) i e l fs t d rec h =
    by_bool (is_mark P.Colon t && (is_name e && nat_le primary i)) _ _ d
    (λ c q. lands (up fs (lift (InExpression w) (height_expr e))) q (up_mono fs (lift (InExpression w) (height_expr e)) (heights (AnExpr i e ∷ []) + 1) (omega arith)))
    (λ c q. le_trans (up_mono fs (lift (InExpression w) (height_expr e)) (heights (AnExpr i e ∷ []) + 1) (omega arith)) (pass_up slot.Expression w (By slot.Semicolon ∷ []) (AnExpr i e ∷ []) l fs t d rec q)) h
leave_up (InItems f w p ss ps xs) i e l fs t d rec h =
    by_bool (nat_le assignment i) _ _ d
    (λ c q. let r = exprs_pushed xs e in
    le_trans (up_mono fs (lift (InItems f w p ss ps xs) (height_expr e)) (max (heights ps) (height_exprs (push_exprs xs e)) + 1) (omega (arith, r))) (listed_up f w p ss ps (push_exprs xs e) fs t d q))
    (λ c q. absurd cc) h
leave_up f i e l fs t d rec h = absurd cc

finished_up : (ss : Stmts) (d : Config) → finished ss ≡ Some d → height_stmts ss ≤ reach d
finished_up ss d h = by_bool (this_stmts ss) _ _ d (λ c q. absurd cc) (λ c q. lands (height_stmts ss) q (le_refl _)) h

left_up : (f : Frame) (s : Stmt) (l : Loc) (fs : List Frame) (t : Token) (d : Config) → Rises fs t d → left f s l fs t (λ p m. have fs p m t) ≡ Some d → up (f ∷ fs) (height_stmt s) ≤ reach d
left_up (InForm f w Stmt_ ss ps) s l fs t d rec h =
    by_bool (is_declaration s) _ _ d (λ c q. absurd cc)
    (λ c q. let r = heights_append ps (AStmt s ∷ []) in
    le_trans (up_mono fs (lift (InForm f w Stmt_ ss ps) (height_stmt s)) (heights (ps ++ AStmt s ∷ []) + 1) (omega (arith, r))) (pass_up f w ss (ps ++ AStmt s ∷ []) l fs t d rec q)) h
left_up (InStmts f w ss ps xs) s l fs t d rec h =
    let p = stmts_pushed xs s in
    by_bool (closes t) _ _ d
    (λ c q. let r = heights_append ps (TheStmts (push_stmts xs s) ∷ []) in
    le_trans (up_mono fs (lift (InStmts f w ss ps xs) (height_stmt s)) (heights (ps ++ TheStmts (push_stmts xs s) ∷ []) + 1) (omega (arith, r, p))) (pass_up f w ss (ps ++ TheStmts (push_stmts xs s) ∷ []) l fs t d rec q))
    (λ c q. le_trans (up_mono fs (lift (InStmts f w ss ps xs) (height_stmt s)) (lift (InStmts f w ss ps (push_stmts xs s)) 0) (omega (arith, p))) (begin_up t (InStmts f w ss ps (push_stmts xs s) ∷ fs) d q)) h
left_up (InFile xs) s l fs t d rec h =
    let p = stmts_pushed xs s in
    by_bool (is_kind End t.kind) _ _ d
    (λ c q. le_trans (omega (arith, p)) (finished_up (push_stmts xs s) d q))
    (λ c q. le_trans (omega (arith, p)) (begin_up t (InFile (push_stmts xs s) ∷ fs) d q)) h
left_up f s l fs t d rec h = absurd cc

have_up : (fs : List Frame) (t : Token) (d : Config) → Rises fs t d
have_up [] t d p l h = absurd cc
have_up (f ∷ fs) t d (AnExpr i e) l h =
    by_bool (continues (wanted f) e t) _ _ d
    (λ c q. by_bool (banned t (f ∷ fs)) _ _ d (λ x g. absurd cc) (λ x g. shift_up (join t) i e l (f ∷ fs) t d g) q)
    (λ c q. leave_up f i e l fs t d (have_up fs t d) q) h
have_up (f ∷ fs) t d (AStmt s) l h = left_up f s l fs t d (have_up fs t d) h
have_up (f ∷ fs) t d p l h = absurd cc

item_up : (fs : List Frame) (t : Token) (d : Config) → item fs t ≡ Some d → up fs 0 ≤ reach d
item_up (InItems f w p ss ps xs ∷ fs) t d h =
    by_bool (is_mark p t) _ _ d
    (λ c q. let r = heights_append ps (TheExprs true xs ∷ []) in lands (up fs (lift (InItems f w p ss ps xs) 0)) q (up_mono fs (lift (InItems f w p ss ps xs) 0) (heights (ps ++ TheExprs true xs ∷ []) + 1) (omega (arith, r))))
    (λ c q. want_up t (InItems f w p ss ps xs ∷ fs) d q) h
item_up fs t d h = absurd cc

run_append : (c : Config) (ts us : List Token) (d : Config) → run c ts ≡ Some d → run c (ts ++ us) ≡ run d us
run_append c [] us d h = let e : c ≡ d = cc in ap (λ x. run x us) e
run_append c (t ∷ ts) us d h = by_turn (turn c t) (λ x. run_append x ts us d) h
  where
    by_turn : (o : Option Config) → ((x : Config) → run x ts ≡ Some d → run x (ts ++ us) ≡ run d us) → then_run o (λ x. run x ts) ≡ Some d → then_run o (λ x. run x (ts ++ us)) ≡ run d us
    by_turn None go q = absurd cc
    by_turn (Some x) go q = go x q

pub turn_up : (c d : Config) (t : Token) → turn c t ≡ Some d → reach c ≤ reach d
turn_up (Due f w ss ps l fs) d t h = pass_up f w ss ps l fs t d (have_up fs t d) h
turn_up (Have p l fs) d t h = have_up fs t d p l h
turn_up (Item fs) d t h = item_up fs t d h
turn_up Start d t h = omega arith
turn_up (Finished ss) d t h = absurd cc

pub run_up : (ts : List Token) (c d : Config) → run c ts ≡ Some d → reach c ≤ reach d
run_up [] c d h = lands (reach c) h (le_refl _)
run_up (t ∷ ts) c d h = stepped (turn c t) (λ x. run x ts) d (λ x e q. le_trans (turn_up c x t e) (run_up ts x d q)) h

with_height : (ss : Stmts) (tree : File) → MakeFile (with_directives ss) [] ≡ tree → height_stmts ss ≡ height_file tree
with_height ss tree e = sym (directives_same ss) ∙ ap height_file e

-- a tree whose tokens begin so is at least as high as the place counts
pub low : (ts us : List Token) (c : Config) (tree : File) → run Start ts ≡ Some c → Sentence tree (ts ++ us) → floor c ≤ height_file tree
low ts us c tree h d = by_run (run c us) refl (sym (ap tree_of (run_append Start ts us c h)) ∙ complete d)
  where
    by_run : (o : Option Config) → run c us ≡ o → tree_of o ≡ Some tree → floor c ≤ height_file tree
    by_run (Some (Finished ss)) e q =
        let t : MakeFile (with_directives ss) [] ≡ tree = cc in
        let r = with_height ss tree t in
        le_trans (floor_reach c) (subst (λ n. reach c ≤ n) r (run_up us c (Finished ss) e))
    by_run o e q = absurd cc
