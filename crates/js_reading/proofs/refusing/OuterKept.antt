-- A `this` outside functions stays among the parts of what is open, in every place after, so that no run ends.
use Rattle.std.proofs.Common.{◌≡◌, ℕ, ◌⊎◌, inl, inr, Bool, true, false, not, ◌&&◌, List, [], ◌∷◌, ◌++◌, Option, Some, None, codes, refl, sym, ap, subst, ◌∙◌}
use Rattle.std.specs.Prelude.{nat_le, ◌||◌}
use Rattle.std.proofs.lemmas.Bool.{true≢false}
use Rattle.js_terms.specs.declared.place.Loc.{Loc}
use Rattle.js_tree.specs.Plain.{Expr, Exprs, no_expr, more_expr, push_exprs, Stmt, Stmts, no_stmt, more_stmt, push_stmts}
use Rattle.js_tree.specs.Plain as tree
use Rattle.js_text.specs.Token.{Token, Word, End}
use Rattle.js_reading.specs.Level.{assignment}
use Rattle.js_text.specs.declared.punctuator.Punctuator.TheVariants as P
use Rattle.js_reading.specs.Spans.{through}
use Rattle.js_reading.specs.Kinds.{is_kind}
use Rattle.js_reading.specs.Outside.{is_there, this_stmts}
use Rattle.js_reading.specs.Slots.{Slot, Sign, Text, Expr_, Stmt_, Stmts_, Items_, Place_, By, Piece, AnExpr, AStmt, TheStmts, TheExprs, APlace, IsMethod, Form}
use Rattle.js_reading.specs.Slots as slot
use Rattle.js_reading.specs.Productions.{primary, is_mark, piece_of, slots, prefix, statement, join, joins, wants, after_first}
use Rattle.js_reading.specs.Choices.{branch}
use Rattle.js_reading.specs.Makes.{build, is_declaration}
use Rattle.js_reading.specs.Sentences.{leaf_of, least, fits, continues, closes}
use Rattle.js_reading.specs.Turns.{place, begun_level, leads, declares, listing, Frame, InForm, InExpression, InStmts, InFile, InItems, Config, Due, Have, Item, Start, Finished, enter, begin_form, begin_leaf, want_by, want, begin_by, begin, texted, take, pass, wanted, banned, take_second, shift, is_name, leave, left, have, item, turn, run}
use Rattle.js_reading.specs.Unsupported.{in_own, is_function, in_function}
use Rattle.js_reading.proofs.refusing.Endless.{Endless, LostIn, lost_of, lost_then}
use Rattle.js_reading.proofs.sentences.Firsts.{remade}
use Rattle.js_reading.proofs.refusing.OuterMade.{expr_at, stmt_at, exprs_at, stmts_at, has, shown, Kept, one, in_left, in_right, mapped, kept}
use Rattle.js_reading.proofs.sentences.Runs.{nowhere, by_bool, by_branch}
use Rattle.js_reading.proofs.sentences.Rows.{either_of}
use Rattle.js_reading.proofs.sentences.Shapes.{find_all, join_found}
use Rattle.js_reading.proofs.sentences.Ways.{lands}

or_one : (x y : Bool) → x ≡ true → (x || y) ≡ true
or_one x y h = ap (λ b. b || y) h

or_two : (x y : Bool) → y ≡ true → (x || y) ≡ true
or_two true y h = refl
or_two false y h = h

pub not_or : (x y : Bool) → (x || y) ≡ false → (x ≡ false) × (y ≡ false)
not_or false y h = (refl, h)
not_or true y h = absurd (true≢false h)

-- ---- pieces

shown_more : (b : Bool) (ps qs : List Piece) → shown b ps ≡ true → shown b (ps ++ qs) ≡ true
shown_more b [] qs h = absurd (true≢false (sym h))
shown_more b (IsMethod ∷ ps) qs h = shown_more true ps qs h
shown_more b (TheStmts ss ∷ ps) qs h =
    either_of (not b && has (TheStmts ss)) (shown false ps) h (or_one (not b && has (TheStmts ss)) (shown false (ps ++ qs))) (λ q. or_two (not b && has (TheStmts ss)) (shown false (ps ++ qs)) (shown_more false ps qs q))
shown_more b (p ∷ ps) qs h = either_of (not b && has p) (shown b ps) h (or_one (not b && has p) (shown b (ps ++ qs))) (λ q. or_two (not b && has p) (shown b (ps ++ qs)) (shown_more b ps qs q))

pub alone : (p : Piece) → has p ≡ true → shown false (p ∷ []) ≡ true
alone IsMethod h = absurd (true≢false (sym h))
alone (TheStmts ss) h = or_one (has (TheStmts ss)) false h
alone p h = or_one (has p) false h

shown_part : (b : Bool) (ps : List Piece) (p : Piece) → in_own b ps ≡ false → has p ≡ true → shown b (ps ++ p ∷ []) ≡ true
shown_part b [] p o h = subst (λ x. shown x (p ∷ []) ≡ true) (sym o) (alone p h)
shown_part b (IsMethod ∷ ps) p o h = shown_part true ps p o h
shown_part b (TheStmts ss ∷ ps) p o h = or_two (not b && has (TheStmts ss)) (shown false (ps ++ p ∷ [])) (shown_part false ps p o h)
shown_part b (q ∷ ps) p o h = or_two (not b && has q) (shown b (ps ++ p ∷ [])) (shown_part b ps p o h)

-- it stands before the last, or is in that
shown_split : (b : Bool) (ps : List Piece) (p : Piece) → shown b (ps ++ p ∷ []) ≡ true → (shown b ps ≡ true) ⊎ ((in_own b ps ≡ false) × (has p ≡ true))
shown_split b [] p h = inr (by_piece p b h)
  where
    by_test : (x y : Bool) → ((not x && y) || false) ≡ true → (x ≡ false) × (y ≡ true)
    by_test false y q = (refl, one y q)
    by_test true y q = absurd (true≢false (sym q))

    by_piece : (p : Piece) (b : Bool) → shown b (p ∷ []) ≡ true → (b ≡ false) × (has p ≡ true)
    by_piece IsMethod b q = absurd (true≢false (sym q))
    by_piece (TheStmts ss) b q = by_test b (has (TheStmts ss)) q
    by_piece p b q = by_test b (has p) q
shown_split b (IsMethod ∷ ps) p h = shown_split true ps p h
shown_split b (TheStmts ss ∷ ps) p h =
    either_of (not b && has (TheStmts ss)) (shown false (ps ++ p ∷ [])) h (λ q. inl (or_one (not b && has (TheStmts ss)) (shown false ps) q)) (λ q. later (shown_split false ps p q))
  where
    later : (shown false ps ≡ true) ⊎ ((in_own false ps ≡ false) × (has p ≡ true)) → (((not b && has (TheStmts ss)) || shown false ps) ≡ true) ⊎ ((in_own false ps ≡ false) × (has p ≡ true))
    later (inl q) = inl (or_two (not b && has (TheStmts ss)) (shown false ps) q)
    later (inr q) = inr q
shown_split b (r ∷ ps) p h = either_of (not b && has r) (shown b (ps ++ p ∷ [])) h (λ q. inl (or_one (not b && has r) (shown b ps) q)) (λ q. later (shown_split b ps p q))
  where
    later : (shown b ps ≡ true) ⊎ ((in_own b ps ≡ false) × (has p ≡ true)) → (((not b && has r) || shown b ps) ≡ true) ⊎ ((in_own b ps ≡ false) × (has p ≡ true))
    later (inl q) = inl (or_two (not b && has r) (shown b ps) q)
    later (inr q) = inr q

shown_last : (b : Bool) (ps : List Piece) (p q : Piece) → (has p ≡ true → has q ≡ true) → shown b (ps ++ p ∷ []) ≡ true → shown b (ps ++ q ∷ []) ≡ true
shown_last b ps p q go h = by_side (shown_split b ps p h)
  where
    by_side : (shown b ps ≡ true) ⊎ ((in_own b ps ≡ false) × (has p ≡ true)) → shown b (ps ++ q ∷ []) ≡ true
    by_side (inl k) = shown_more b ps (q ∷ []) k
    by_side (inr k) = shown_part b ps q k.0 (go k.1)

-- one more in a list
old_expr : (xs : Exprs) (e : Expr) → is_there (exprs_at xs) ≡ true → is_there (exprs_at (push_exprs xs e)) ≡ true
old_expr no_expr e h = absurd (true≢false (sym h))
old_expr (more_expr x xs) e h = mapped (expr_at x) (exprs_at xs) (expr_at x) (exprs_at (push_exprs xs e)) (λ q. q) (old_expr xs e) h

new_expr : (xs : Exprs) (e : Expr) → is_there (expr_at e) ≡ true → is_there (exprs_at (push_exprs xs e)) ≡ true
new_expr no_expr e h = in_left (expr_at e) [] h
new_expr (more_expr x xs) e h = in_right (expr_at x) (exprs_at (push_exprs xs e)) (new_expr xs e h)

old_stmt : (xs : Stmts) (s : Stmt) → is_there (stmts_at xs) ≡ true → is_there (stmts_at (push_stmts xs s)) ≡ true
old_stmt no_stmt s h = absurd (true≢false (sym h))
old_stmt (more_stmt x xs) s h = mapped (stmt_at x) (stmts_at xs) (stmt_at x) (stmts_at (push_stmts xs s)) (λ q. q) (old_stmt xs s) h

new_stmt : (xs : Stmts) (s : Stmt) → is_there (stmt_at s) ≡ true → is_there (stmts_at (push_stmts xs s)) ≡ true
new_stmt no_stmt s h = in_left (stmt_at s) [] h
new_stmt (more_stmt x xs) s h = in_right (stmt_at x) (stmts_at (push_stmts xs s)) (new_stmt xs s h)

-- ---- places

-- among these parts, in no function around
abbrev pub Here : Form → List Piece → List Frame → Type 0
Here f ps fs = (shown (is_function f) ps ≡ true) × (in_function fs ≡ false)

abbrev pub ShownIn : List Frame → Type 0
ShownIn [] = ⊥
ShownIn (InForm f w s ss ps ∷ fs) = Here f ps fs ⊎ ShownIn fs
ShownIn (InStmts f w ss ps xs ∷ fs) = Here f (ps ++ TheStmts xs ∷ []) fs ⊎ ShownIn fs
ShownIn (InItems f w p ss ps xs ∷ fs) = Here f (ps ++ TheExprs true xs ∷ []) fs ⊎ ShownIn fs
ShownIn (InExpression w ∷ fs) = ShownIn fs
ShownIn (InFile xs ∷ fs) = this_stmts xs ≡ true

-- in a part that stands in frames, or in these
abbrev pub Stands : Option Piece → List Frame → Type 0
Stands None fs = Unit {0}
Stands (Some p) fs = ((has p ≡ true) × (in_function fs ≡ false)) ⊎ ShownIn fs

abbrev pub ShownAt : Config → Type 0
ShownAt (Due f w ss ps l fs) = Here f ps fs ⊎ ShownIn fs
ShownAt (Have p l fs) = ((has p ≡ true) × (in_function fs ≡ false)) ⊎ ShownIn fs
ShownAt (Item fs) = ShownIn fs
ShownAt c = ⊥

more : (f : Form) (ps : List Piece) (fs : List Frame) {A : Type 0} (new : List Piece) → Here f ps fs ⊎ A → Here f (ps ++ new) fs ⊎ A
more f ps fs new (inl h) = inl (shown_more (is_function f) ps new h.0, h.1)
more f ps fs new (inr h) = inr h

-- a part that comes into its production
joined : (f : Form) (ps : List Piece) (fs : List Frame) {A : Type 0} (p : Piece) → ((has p ≡ true) × ((in_own (is_function f) ps || in_function fs) ≡ false)) ⊎ (Here f ps fs ⊎ A) → Here f (ps ++ p ∷ []) fs ⊎ A
joined f ps fs p (inl h) = let a = not_or (in_own (is_function f) ps) (in_function fs) h.1 in inl (shown_part (is_function f) ps p a.0 h.0, a.1)
joined f ps fs p (inr h) = more f ps fs (p ∷ []) h

-- one that comes into a list, which stands for the old one
listed_new : (f : Form) (ps : List Piece) (fs : List Frame) {A : Type 0} (p old new : Piece) → (has p ≡ true → has new ≡ true) → (has old ≡ true → has new ≡ true) →
    ((has p ≡ true) × ((in_own (is_function f) ps || in_function fs) ≡ false)) ⊎ (Here f (ps ++ old ∷ []) fs ⊎ A) → Here f (ps ++ new ∷ []) fs ⊎ A
listed_new f ps fs p old new one_ all_ (inl h) = let a = not_or (in_own (is_function f) ps) (in_function fs) h.1 in inl (shown_part (is_function f) ps new a.0 (one_ h.0), a.1)
listed_new f ps fs p old new one_ all_ (inr (inl h)) = inl (shown_last (is_function f) ps old new all_ h.0, h.1)
listed_new f ps fs p old new one_ all_ (inr (inr h)) = inr h

-- a production that is whole
stands_made : (b : Bool) (ps : List Piece) (fs : List Frame) (o : Option Piece) → Kept b ps o → ((shown b ps ≡ true) × (in_function fs ≡ false)) ⊎ ShownIn fs → Stands o fs
stands_made b ps fs None go x = tt
stands_made b ps fs (Some p) go (inl h) = inl (go h.0, h.1)
stands_made b ps fs (Some p) go (inr h) = inr h

-- ---- a part begins

form_shown : (f : Form) (t : Token) (ss : List Slot) (fs : List Frame) (d : Config) → ShownIn fs → begin_form f t ss fs ≡ Some d → ShownAt d
form_shown f t (Sign k ∷ ss) fs d x h = lands ShownAt h (inr x)
form_shown f t (Text c ∷ ss) fs d x h = by_piece (piece_of c t.kind t.loc) h
  where
    by_piece : (o : Option Piece) → texted o (λ p. enter f t.loc ss (p ∷ []) t.loc fs) ≡ Some d → ShownAt d
    by_piece None q = nowhere q
    by_piece (Some p) q = lands ShownAt q (inr x)
form_shown f t ss fs d x h = nowhere h

want_shown : (t : Token) (fs : List Frame) (d : Config) → ShownIn fs → want t fs ≡ Some d → ShownAt d
want_shown t fs d x h = by_form (prefix t) h
  where
    by_leaf : (o : Option Expr) → begin_leaf t fs o ≡ Some d → ShownAt d
    by_leaf None q = nowhere q
    by_leaf (Some e) q = lands ShownAt q (inr x)

    by_form : (o : Option Form) → want_by o t fs ≡ Some d → ShownAt d
    by_form None q = by_leaf (leaf_of t.kind t.loc) q
    by_form (Some f) q = by_bool (nat_le (least (place fs)) (begun_level f)) _ _ d (λ c g. form_shown f t (slots f) fs d x g) (λ c g. nowhere g) q

begin_shown : (t : Token) (fs : List Frame) (d : Config) → ShownIn fs → begin t fs ≡ Some d → ShownAt d
begin_shown t fs d x h = by_form (statement t) h
  where
    by_form : (o : Option Form) → begin_by o t fs ≡ Some d → ShownAt d
    by_form None q = want_shown t (InExpression t.loc ∷ fs) d x q
    by_form (Some f) q = by_bool (declares f && not (listing fs)) _ _ d (λ c g. nowhere g) (λ c g. form_shown f t (slots f) fs d x g) q

take_shown : (f : Form) (w : Loc) (s : Slot) (ss : List Slot) (ps : List Piece) (fs : List Frame) (t : Token) (d : Config) → Here f ps fs ⊎ ShownIn fs → take f w s ss ps fs t ≡ Some d → ShownAt d
take_shown f w (Sign k) ss ps fs t d x h = by_bool (is_kind k t.kind) _ _ d (λ c q. lands ShownAt q x) (λ c q. nowhere q) h
take_shown f w (Text c) ss ps fs t d x h = by_piece (piece_of c t.kind t.loc) h
  where
    by_piece : (o : Option Piece) → texted o (λ p. enter f w ss (ps ++ p ∷ []) t.loc fs) ≡ Some d → ShownAt d
    by_piece None q = nowhere q
    by_piece (Some p) q = lands ShownAt q (more f ps fs (p ∷ []) x)
take_shown f w (Expr_ n) ss ps fs t d x h = want_shown t (InForm f w (Expr_ n) ss ps ∷ fs) d x h
take_shown f w Stmt_ ss ps fs t d x h = begin_shown t (InForm f w Stmt_ ss ps ∷ fs) d x h
take_shown f w (Items_ p) ss ps fs t d x h =
    by_bool (is_mark p t) _ _ d (λ c q. lands ShownAt q (more f ps fs (TheExprs true no_expr ∷ []) x)) (λ c q. want_shown t (InItems f w p ss ps no_expr ∷ fs) d (more f ps fs (TheExprs true no_expr ∷ []) x) q) h
take_shown f w s ss ps fs t d x h = nowhere h

-- ---- a part stands there

abbrev pub Goes : List Frame → Token → Config → Type 0
Goes fs t d = (o : Option Piece) (m : Loc) → Stands o fs → have fs o m t ≡ Some d → ShownAt d

pass_shown : (f : Form) (w : Loc) (ss : List Slot) (ps : List Piece) (l : Loc) (fs : List Frame) (t : Token) (d : Config) → Goes fs t d → Here f ps fs ⊎ ShownIn fs → pass f w ss ps l fs t (λ p m. have fs p m t) ≡ Some d → ShownAt d
pass_shown f w [] ps l fs t d go x h = go (build f (through w l) ps) (through w l) (stands_made (is_function f) ps fs (build f (through w l) ps) (kept f (through w l) ps) x) h
pass_shown f w (Place_ ∷ ss) ps l fs t d go x h = pass_shown f w ss (ps ++ APlace l ∷ []) l fs t d go (more f ps fs (APlace l ∷ []) x) h
pass_shown f w (Stmts_ ∷ ss) ps l fs t d go x h =
    by_bool (closes t) _ _ d (λ c q. pass_shown f w ss (ps ++ TheStmts no_stmt ∷ []) l fs t d go (more f ps fs (TheStmts no_stmt ∷ []) x) q) (λ c q. begin_shown t (InStmts f w ss ps no_stmt ∷ fs) d (more f ps fs (TheStmts no_stmt ∷ []) x) q) h
pass_shown f w (By c ∷ ss) ps l fs t d go x h =
    by_branch (branch c t) _ _ d (λ qs e q. pass_shown f w ss (ps ++ qs) l fs t d go (more f ps fs qs x) q)
    (λ qs s rs e q. by_bool (leads (place fs) c) _ _ d (λ k g. take_shown f w s (rs ++ ss) (ps ++ qs) fs t d (more f ps fs qs x) g) (λ k g. nowhere g) q) h
pass_shown f w (s ∷ ss) ps l fs t d go x h = take_shown f w s ss ps fs t d x h

-- no function begins with an expression
join_free : (t : Token) (f : Form) → join t ≡ Some f → is_function f ≡ false
join_free t f h = off (is_function f) (find_all (λ g. not (is_function g)) after_first joins t f refl (join_found t f h)).0
  where
    off : (x : Bool) → not x ≡ true → x ≡ false
    off false q = refl
    off true q = absurd (true≢false (sym q))

second_shown : (f : Form) (i : ℕ) (e : Expr) (l : Loc) (fs : List Frame) (t : Token) (ss : List Slot) (d : Config) → is_function f ≡ false → Stands (Some (AnExpr i e)) fs → take_second f i e l fs t ss ≡ Some d → ShownAt d
second_shown f i e l fs t (Sign k ∷ ss) d n (inl x) h = lands ShownAt h (inl (subst (λ b. shown b (AnExpr i e ∷ []) ≡ true) (sym n) (alone (AnExpr i e) x.0), x.1))
second_shown f i e l fs t (Sign k ∷ ss) d n (inr x) h = lands ShownAt h (inr x)
second_shown f i e l fs t ss d n x h = nowhere h

shift_shown : (t : Token) (o : Option Form) → join t ≡ o → (i : ℕ) (e : Expr) (l : Loc) (fs : List Frame) (d : Config) → Stands (Some (AnExpr i e)) fs → shift o i e l fs t ≡ Some d → ShownAt d
shift_shown t None is i e l fs d x h = nowhere h
shift_shown t (Some f) is i e l fs d x h = by_bool (nat_le (wants (Some f)) i && fits (place fs) i e) _ _ d (λ c q. second_shown f i e l fs t (after_first (slots f)) d (join_free t f is) x q) (λ c q. nowhere q) h

-- an expression that is a statement, or a label
apart : {A : Type 0} (f : Form) (fs : List Frame) (p : Piece) → is_function f ≡ false → ((has p ≡ true) × (in_function fs ≡ false)) ⊎ A → Here f (p ∷ []) fs ⊎ A
apart f fs p n (inl x) = inl (subst (λ b. shown b (p ∷ []) ≡ true) (sym n) (alone p x.0), x.1)
apart f fs p n (inr x) = inr x

leave_shown : (f : Frame) (i : ℕ) (e : Expr) (l : Loc) (fs : List Frame) (t : Token) (d : Config) → Goes fs t d → Stands (Some (AnExpr i e)) (f ∷ fs) → leave f i e l fs t (λ p m. have fs p m t) ≡ Some d → ShownAt d
leave_shown (InForm f w (Expr_ n) ss ps) i e l fs t d go x h = by_bool (fits n i e) _ _ d (λ c q. pass_shown f w ss (ps ++ AnExpr i e ∷ []) l fs t d go (joined f ps fs (AnExpr i e) x) q) (λ c q. nowhere q) h
leave_shown (InExpression w) i e l fs t d go x h =
    by_bool (is_mark P.Colon t && (is_name e && nat_le primary i)) _ _ d (λ c q. lands ShownAt q (apart slot.Labelled fs (AnExpr i e) refl x))
    (λ c q. pass_shown slot.Expression w (By slot.Semicolon ∷ []) (AnExpr i e ∷ []) l fs t d go (apart slot.Expression fs (AnExpr i e) refl x) q) h
leave_shown (InItems f w p ss ps xs) i e l fs t d go x h =
    by_bool (nat_le assignment i) _ _ d
    (λ c q. by_bool (is_mark P.Comma t) _ _ d (λ k g. lands ShownAt g (pushed true)) (λ k g. by_bool (is_mark p t) _ _ d (λ j r. lands ShownAt r (pushed false)) (λ j r. nowhere r) g) q)
    (λ c q. nowhere q) h
  where
    pushed : (b : Bool) → Here f (ps ++ TheExprs b (push_exprs xs e) ∷ []) fs ⊎ ShownIn fs
    pushed b = listed_new f ps fs (AnExpr i e) (TheExprs true xs) (TheExprs b (push_exprs xs e)) (new_expr xs e) (old_expr xs e) x
leave_shown f i e l fs t d go x h = nowhere h

left_shown : (f : Frame) (s : Stmt) (l : Loc) (fs : List Frame) (t : Token) (d : Config) → Goes fs t d → Stands (Some (AStmt s)) (f ∷ fs) → left f s l fs t (λ p m. have fs p m t) ≡ Some d → ShownAt d
left_shown (InForm f w Stmt_ ss ps) s l fs t d go x h = by_bool (is_declaration s) _ _ d (λ c q. nowhere q) (λ c q. pass_shown f w ss (ps ++ AStmt s ∷ []) l fs t d go (joined f ps fs (AStmt s) x) q) h
left_shown (InStmts f w ss ps xs) s l fs t d go x h =
    by_bool (closes t) _ _ d (λ c q. pass_shown f w ss (ps ++ TheStmts (push_stmts xs s) ∷ []) l fs t d go pushed q) (λ c q. begin_shown t (InStmts f w ss ps (push_stmts xs s) ∷ fs) d pushed q) h
  where
    pushed : Here f (ps ++ TheStmts (push_stmts xs s) ∷ []) fs ⊎ ShownIn fs
    pushed = listed_new f ps fs (AStmt s) (TheStmts xs) (TheStmts (push_stmts xs s)) (new_stmt xs s) (old_stmt xs s) x
left_shown (InFile xs) s l fs t d go x h =
    by_bool (is_kind End t.kind) _ _ d (λ c q. by_bool (this_stmts (push_stmts xs s)) _ _ d (λ k g. nowhere g) (λ k g. absurd (true≢false (sym (pushed x) ∙ k))) q) (λ c q. begin_shown t (InFile (push_stmts xs s) ∷ fs) d (pushed x) q) h
  where
    pushed : Stands (Some (AStmt s)) (InFile xs ∷ fs) → this_stmts (push_stmts xs s) ≡ true
    pushed (inl y) = new_stmt xs s y.0
    pushed (inr y) = old_stmt xs s y
left_shown f s l fs t d go x h = nowhere h

have_shown : (fs : List Frame) (t : Token) (d : Config) → Goes fs t d
have_shown [] t d o m x h = nowhere h
have_shown (f ∷ fs) t d (Some (AnExpr i e)) m x h =
    by_bool (continues (wanted f) e t) _ _ d (λ c q. by_bool (banned t (f ∷ fs)) _ _ d (λ k g. nowhere g) (λ k g. shift_shown t (join t) refl i e m (f ∷ fs) d x g) q) (λ c q. leave_shown f i e m fs t d (have_shown fs t d) x q) h
have_shown (f ∷ fs) t d (Some (AStmt s)) m x h = left_shown f s m fs t d (have_shown fs t d) x h
have_shown (f ∷ fs) t d o m x h = nowhere h

item_shown : (fs : List Frame) (t : Token) (d : Config) → ShownIn fs → item fs t ≡ Some d → ShownAt d
item_shown (InItems f w p ss ps xs ∷ fs) t d x h = by_bool (is_mark p t) _ _ d (λ c q. lands ShownAt q x) (λ c q. want_shown t (InItems f w p ss ps xs ∷ fs) d x q) h
item_shown fs t d x h = nowhere h

turn_shown : (c d : Config) (t : Token) → ShownAt c → turn c t ≡ Some d → ShownAt d
turn_shown (Due f w ss ps l fs) d t x h = pass_shown f w ss ps l fs t d (have_shown fs t d) x h
turn_shown (Have p l fs) d t x h = have_shown fs t d (Some p) l x h
turn_shown (Item fs) d t x h = item_shown fs t d x h
turn_shown Start d t x h = absurd x
turn_shown (Finished ss) d t x h = absurd x

-- ---- where it is read

pub this_wanted : (t : Token) (fs : List Frame) → want (remade t (Word (codes "this"))) fs ≡ Some (Have (AnExpr primary (tree.This (Some t.loc))) t.loc fs)
this_wanted t fs = refl

-- no run ends
pub outer_endless : Endless ShownAt
outer_endless = record { keeps = λ c d t x h. turn_shown c d t x h; no_end = λ ss x. x }

pub this_lost : (t : Token) (us : List Token) (c : Config) (fs : List Frame) → turn c t ≡ want t fs → t.kind ≡ Word (codes "this") → in_function fs ≡ false → LostIn ShownAt (run c (t ∷ us))
this_lost t us c fs begins is n = lost_then ShownAt outer_endless (turn c t) us (lost_of ShownAt (turn c t) (λ d h. lands ShownAt (sym there ∙ h) (inl (refl, n))))
  where
    there : turn c t ≡ Some (Have (AnExpr primary (tree.This (Some t.loc))) t.loc fs)
    there = begins ∙ subst (λ k. want (remade t k) fs ≡ Some (Have (AnExpr primary (tree.This (Some t.loc))) t.loc fs)) (sym is) (this_wanted t fs)
