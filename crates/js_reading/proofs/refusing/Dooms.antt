-- Where the parts of an open production are none that it may have, no run from there ends.
use Rattle.std.proofs.Common.{◌≡◌, ℕ, ◌⊎◌, inl, inr, Bool, true, false, not, ◌&&◌, List, [], ◌∷◌, ◌++◌, Option, Some, None, if◌then◌else◌, refl, sym, ap, subst, ◌∙◌, append_assoc, append-nil}
use Rattle.std.specs.Prelude.{nat_le}
use Rattle.js_terms.specs.declared.place.Loc.{Loc}
use Rattle.js_tree.specs.Plain.{Expr, no_expr, push_exprs, Stmt, no_stmt, push_stmts}
use Rattle.js_text.specs.Token.{Token}
use Rattle.js_reading.specs.Level.{assignment}
use Rattle.js_text.specs.declared.punctuator.Punctuator.TheVariants as P
use Rattle.js_reading.specs.Spans.{through}
use Rattle.js_reading.specs.Kinds.{is_kind}
use Rattle.js_reading.specs.Slots.{Level, Slot, Sign, Text, Expr_, Stmt_, Stmts_, Items_, Place_, By, Piece, AnExpr, AStmt, TheStmts, TheExprs, APlace, Missing, Go, Form}
use Rattle.js_reading.specs.Slots as slot
use Rattle.js_reading.specs.Productions.{primary, mark, is_mark, piece_of, slots, prefix, statement, join, wants, after_first}
use Rattle.js_reading.specs.Choices.{branch, either}
use Rattle.js_reading.specs.Makes.{build, is_declaration}
use Rattle.js_reading.specs.Sentences.{leaf_of, least, fits, continues, closes}
use Rattle.js_reading.specs.Turns.{place, begun_level, leads, declares, listing, Frame, InForm, InExpression, InStmts, InFile, InItems, Config, Due, Have, Item, Start, Finished, enter, begin_form, begin_leaf, want_by, want, begin_by, begin, texted, take, choose, pass, wanted, banned, take_second, shift, is_name, leave, left, have, item, turn, run, then_run}
use Rattle.js_reading.proofs.refusing.Endless
use Rattle.js_reading.proofs.refusing.Endless.{Endless, LostIn}
use Rattle.js_reading.proofs.sentences.Runs.{nowhere, by_bool, by_branch}
use Rattle.js_reading.proofs.sentences.Ways.{lands}

abbrev pub DoomedForm : Form → List Piece → Type 0
DoomedForm f ps = (l : Loc) (qs : List Piece) → build f l (ps ++ qs) ≡ None

-- the same once an arrow's body begins: any part, but a missing one
abbrev pub is_missing : Piece → Bool
is_missing Missing = true
is_missing p = false

abbrev pub BodyDoomed : Form → List Piece → Type 0
BodyDoomed f ps = (p : Piece) → is_missing p ≡ false → DoomedForm f (ps ++ p ∷ [])

-- the same once what is due stands there: an expression and its place, or an arrow's body
abbrev pub Half : Form → List Slot → List Piece → Type 0
Half f (Expr_ n ∷ Place_ ∷ ss) ps = (i : ℕ) (e : Expr) (l : Loc) → DoomedForm f (ps ++ AnExpr i e ∷ APlace l ∷ [])
Half f (Expr_ n ∷ []) ps = BodyDoomed f ps
Half f (Place_ ∷ ss) ps = BodyDoomed f ps
Half f (By slot.ConciseBody ∷ []) ps = BodyDoomed f ps
Half f ss ps = ⊥

abbrev pub DoomedIn : List Frame → Type 0
DoomedIn [] = ⊥
DoomedIn (InForm f w s ss ps ∷ fs) = Half f (s ∷ ss) ps ⊎ (DoomedForm f ps ⊎ DoomedIn fs)
DoomedIn (InStmts f w ss ps xs ∷ fs) = DoomedForm f ps ⊎ DoomedIn fs
DoomedIn (InItems f w p ss ps xs ∷ fs) = DoomedForm f ps ⊎ DoomedIn fs
DoomedIn (InExpression w ∷ fs) = DoomedIn fs
DoomedIn (InFile xs ∷ fs) = ⊥

abbrev pub Doomed : Config → Type 0
Doomed (Due f w ss ps l fs) = Half f ss ps ⊎ (DoomedForm f ps ⊎ DoomedIn fs)
Doomed (Have p l fs) = DoomedIn fs
Doomed (Item fs) = DoomedIn fs
Doomed c = ⊥

more : (f : Form) (ps : List Piece) {A : Type 0} (new : List Piece) → DoomedForm f ps ⊎ A → DoomedForm f (ps ++ new) ⊎ A
more f ps new (inl h) = inl (λ l qs. ap (build f l) (append_assoc ps new qs) ∙ h l (new ++ qs))
more f ps new (inr h) = inr h

-- ---- a part begins

form_doomed : (f : Form) (t : Token) (ss : List Slot) (fs : List Frame) (d : Config) → DoomedIn fs → begin_form f t ss fs ≡ Some d → Doomed d
form_doomed f t (Sign k ∷ ss) fs d x h = lands Doomed h (inr (inr x))
form_doomed f t (Text c ∷ ss) fs d x h = by_piece (piece_of c t.kind t.loc) h
  where
    by_piece : (o : Option Piece) → texted o (λ p. enter f t.loc ss (p ∷ []) t.loc fs) ≡ Some d → Doomed d
    by_piece None q = nowhere q
    by_piece (Some p) q = lands Doomed q (inr (inr x))
form_doomed f t ss fs d x h = nowhere h

want_doomed : (t : Token) (fs : List Frame) (d : Config) → DoomedIn fs → want t fs ≡ Some d → Doomed d
want_doomed t fs d x h = by_form (prefix t) h
  where
    by_leaf : (o : Option Expr) → begin_leaf t fs o ≡ Some d → Doomed d
    by_leaf None q = nowhere q
    by_leaf (Some e) q = lands Doomed q x

    by_form : (o : Option Form) → want_by o t fs ≡ Some d → Doomed d
    by_form None q = by_leaf (leaf_of t.kind t.loc) q
    by_form (Some f) q = by_bool (nat_le (least (place fs)) (begun_level f)) _ _ d (λ c g. form_doomed f t (slots f) fs d x g) (λ c g. nowhere g) q

begin_doomed : (t : Token) (fs : List Frame) (d : Config) → DoomedIn fs → begin t fs ≡ Some d → Doomed d
begin_doomed t fs d x h = by_form (statement t) h
  where
    by_form : (o : Option Form) → begin_by o t fs ≡ Some d → Doomed d
    by_form None q = want_doomed t (InExpression t.loc ∷ fs) d x q
    by_form (Some f) q = by_bool (declares f && not (listing fs)) _ _ d (λ c g. nowhere g) (λ c g. form_doomed f t (slots f) fs d x g) q

take_doomed : (f : Form) (w : Loc) (s : Slot) (ss : List Slot) (ps : List Piece) (fs : List Frame) (t : Token) (d : Config) → DoomedForm f ps ⊎ DoomedIn fs → take f w s ss ps fs t ≡ Some d → Doomed d
take_doomed f w (Sign k) ss ps fs t d x h = by_bool (is_kind k t.kind) _ _ d (λ c q. lands Doomed q (inr x)) (λ c q. nowhere q) h
take_doomed f w (Text c) ss ps fs t d x h = by_piece (piece_of c t.kind t.loc) h
  where
    by_piece : (o : Option Piece) → texted o (λ p. enter f w ss (ps ++ p ∷ []) t.loc fs) ≡ Some d → Doomed d
    by_piece None q = nowhere q
    by_piece (Some p) q = lands Doomed q (inr (more f ps (p ∷ []) x))
take_doomed f w (Expr_ n) ss ps fs t d x h = want_doomed t (InForm f w (Expr_ n) ss ps ∷ fs) d (inr x) h
take_doomed f w Stmt_ ss ps fs t d x h = begin_doomed t (InForm f w Stmt_ ss ps ∷ fs) d (inr x) h
take_doomed f w (Items_ p) ss ps fs t d x h = by_bool (is_mark p t) _ _ d (λ c q. lands Doomed q (inr (more f ps (TheExprs true no_expr ∷ []) x))) (λ c q. want_doomed t (InItems f w p ss ps no_expr ∷ fs) d x q) h
take_doomed f w s ss ps fs t d x h = nowhere h

-- ---- a part stands there

abbrev pub Goes : List Frame → Token → Config → Type 0
Goes fs t d = DoomedIn fs → (o : Option Piece) (m : Loc) → have fs o m t ≡ Some d → Doomed d

no_have : {A : Type 0} (fs : List Frame) (m : Loc) (t : Token) (d : Config) → have fs None m t ≡ Some d → A
no_have [] m t d h = nowhere h
no_have (f ∷ fs) m t d h = nowhere h

pass_doomed : (f : Form) (w : Loc) (ss : List Slot) (ps : List Piece) (l : Loc) (fs : List Frame) (t : Token) (d : Config) → Goes fs t d → DoomedForm f ps ⊎ DoomedIn fs → pass f w ss ps l fs t (λ p m. have fs p m t) ≡ Some d → Doomed d
pass_doomed f w [] ps l fs t d go (inl x) h = no_have fs (through w l) t d (sym (ap (λ o. have fs o (through w l) t) (sym (ap (build f (through w l)) (append-nil ps)) ∙ x (through w l) [])) ∙ h)
pass_doomed f w [] ps l fs t d go (inr x) h = go x (build f (through w l) ps) (through w l) h
pass_doomed f w (Place_ ∷ ss) ps l fs t d go x h = pass_doomed f w ss (ps ++ APlace l ∷ []) l fs t d go (more f ps (APlace l ∷ []) x) h
pass_doomed f w (Stmts_ ∷ ss) ps l fs t d go x h =
    by_bool (closes t) _ _ d (λ c q. pass_doomed f w ss (ps ++ TheStmts no_stmt ∷ []) l fs t d go (more f ps (TheStmts no_stmt ∷ []) x) q) (λ c q. begin_doomed t (InStmts f w ss ps no_stmt ∷ fs) d x q) h
pass_doomed f w (By c ∷ ss) ps l fs t d go x h =
    by_branch (branch c t) _ _ d (λ qs e q. pass_doomed f w ss (ps ++ qs) l fs t d go (more f ps qs x) q)
    (λ qs s rs e q. by_bool (leads (place fs) c) _ _ d (λ k g. take_doomed f w s (rs ++ ss) (ps ++ qs) fs t d (more f ps qs x) g) (λ k g. nowhere g) q) h
pass_doomed f w (s ∷ ss) ps l fs t d go x h = take_doomed f w s ss ps fs t d x h

second_doomed : (f : Form) (i : ℕ) (e : Expr) (l : Loc) (fs : List Frame) (t : Token) (ss : List Slot) (d : Config) → DoomedIn fs → take_second f i e l fs t ss ≡ Some d → Doomed d
second_doomed f i e l fs t (Sign k ∷ ss) d x h = lands Doomed h (inr (inr x))
second_doomed f i e l fs t ss d x h = nowhere h

shift_doomed : (o : Option Form) (i : ℕ) (e : Expr) (l : Loc) (fs : List Frame) (t : Token) (d : Config) → DoomedIn fs → shift o i e l fs t ≡ Some d → Doomed d
shift_doomed None i e l fs t d x h = nowhere h
shift_doomed (Some f) i e l fs t d x h = by_bool (nat_le (wants (Some f)) i && fits (place fs) i e) _ _ d (λ c q. second_doomed f i e l fs t (after_first (slots f)) d x q) (λ c q. nowhere q) h

leave_doomed : (f : Frame) (i : ℕ) (e : Expr) (l : Loc) (fs : List Frame) (t : Token) (d : Config) → Goes fs t d → DoomedIn (f ∷ fs) → leave f i e l fs t (λ p m. have fs p m t) ≡ Some d → Doomed d
leave_doomed (InForm f w (Expr_ n) ss ps) i e l fs t d go (inr x) h = by_bool (fits n i e) _ _ d (λ c q. pass_doomed f w ss (ps ++ AnExpr i e ∷ []) l fs t d go (more f ps (AnExpr i e ∷ []) x) q) (λ c q. nowhere q) h
leave_doomed (InForm f w (Expr_ n) (Place_ ∷ ss) ps) i e l fs t d go (inl x) h =
    by_bool (fits n i e) _ _ d
    (λ c q. pass_doomed f w ss ((ps ++ AnExpr i e ∷ []) ++ APlace l ∷ []) l fs t d go (inl (subst (λ y. DoomedForm f y) (sym (append_assoc ps (AnExpr i e ∷ []) (APlace l ∷ []))) (x i e l))) q) (λ c q. nowhere q) h
leave_doomed (InForm f w (Expr_ n) [] ps) i e l fs t d go (inl x) h = by_bool (fits n i e) _ _ d (λ c q. pass_doomed f w [] (ps ++ AnExpr i e ∷ []) l fs t d go (inl (x (AnExpr i e) refl)) q) (λ c q. nowhere q) h
leave_doomed (InForm f w (Expr_ n) ss ps) i e l fs t d go (inl x) h = absurd x
leave_doomed (InExpression w) i e l fs t d go x h =
    by_bool (is_mark P.Colon t && (is_name e && nat_le primary i)) _ _ d (λ c q. lands Doomed q (inr (inr x))) (λ c q. pass_doomed slot.Expression w (By slot.Semicolon ∷ []) (AnExpr i e ∷ []) l fs t d go (inr x) q) h
leave_doomed (InItems f w p ss ps xs) i e l fs t d go x h =
    by_bool (nat_le assignment i) _ _ d
    (λ c q. by_bool (is_mark P.Comma t) _ _ d (λ k g. lands Doomed g x) (λ k g. by_bool (is_mark p t) _ _ d (λ j r. lands Doomed r (inr (more f ps (TheExprs false (push_exprs xs e) ∷ []) x))) (λ j r. nowhere r) g) q)
    (λ c q. nowhere q) h
leave_doomed f i e l fs t d go x h = nowhere h

left_doomed : (f : Frame) (s : Stmt) (l : Loc) (fs : List Frame) (t : Token) (d : Config) → Goes fs t d → DoomedIn (f ∷ fs) → left f s l fs t (λ p m. have fs p m t) ≡ Some d → Doomed d
left_doomed (InForm f w Stmt_ ss ps) s l fs t d go (inl x) h = absurd x
left_doomed (InForm f w Stmt_ ss ps) s l fs t d go (inr x) h = by_bool (is_declaration s) _ _ d (λ c q. nowhere q) (λ c q. pass_doomed f w ss (ps ++ AStmt s ∷ []) l fs t d go (more f ps (AStmt s ∷ []) x) q) h
left_doomed (InStmts f w ss ps xs) s l fs t d go x h =
    by_bool (closes t) _ _ d (λ c q. pass_doomed f w ss (ps ++ TheStmts (push_stmts xs s) ∷ []) l fs t d go (more f ps (TheStmts (push_stmts xs s) ∷ []) x) q) (λ c q. begin_doomed t (InStmts f w ss ps (push_stmts xs s) ∷ fs) d x q) h
left_doomed (InFile xs) s l fs t d go x h = absurd x
left_doomed f s l fs t d go x h = nowhere h

have_doomed : (fs : List Frame) (t : Token) (d : Config) → Goes fs t d
have_doomed [] t d x o m h = absurd x
have_doomed (f ∷ fs) t d x (Some (AnExpr i e)) m h =
    by_bool (continues (wanted f) e t) _ _ d (λ c q. by_bool (banned t (f ∷ fs)) _ _ d (λ k g. nowhere g) (λ k g. shift_doomed (join t) i e m (f ∷ fs) t d x g) q)
    (λ c q. leave_doomed f i e m fs t d (have_doomed fs t d) x q) h
have_doomed (f ∷ fs) t d x (Some (AStmt s)) m h = left_doomed f s m fs t d (have_doomed fs t d) x h
have_doomed (f ∷ fs) t d x o m h = nowhere h

item_doomed : (fs : List Frame) (t : Token) (d : Config) → DoomedIn fs → item fs t ≡ Some d → Doomed d
item_doomed (InItems f w p ss ps xs ∷ fs) t d x h = by_bool (is_mark p t) _ _ d (λ c q. lands Doomed q (inr (more f ps (TheExprs true xs ∷ []) x))) (λ c q. want_doomed t (InItems f w p ss ps xs ∷ fs) d x q) h
item_doomed fs t d x h = nowhere h

-- a body begins
body_doomed : (f : Form) (w : Loc) (ps : List Piece) (l : Loc) (fs : List Frame) (t : Token) (d : Config) → BodyDoomed f ps → turn (Due f w (By slot.ConciseBody ∷ []) ps l fs) t ≡ Some d → Doomed d
body_doomed f w ps l fs t d x h = by_brace (is_mark P.OpenBrace t) refl h
  where
    same : BodyDoomed f (ps ++ [])
    same = subst (BodyDoomed f) (sym (append-nil ps)) x

    by_brace : (b : Bool) → is_mark P.OpenBrace t ≡ b → choose (either b (Go [] (mark P.OpenBrace) (Place_ ∷ Stmts_ ∷ mark P.CloseBrace ∷ Place_ ∷ [])) (Go [] (Expr_ (Level assignment)) []))
        (λ qs. pass f w [] (ps ++ qs) l fs t (λ p m. have fs p m t)) (λ qs s rs. if leads (place fs) slot.ConciseBody then take f w s (rs ++ []) (ps ++ qs) fs t else None) ≡ Some d → Doomed d
    by_brace true is q = by_bool (is_mark P.OpenBrace t) _ _ d (λ c g. lands Doomed g (inl same)) (λ c g. nowhere g) q
    by_brace false is q = want_doomed t (InForm f w (Expr_ (Level assignment)) [] (ps ++ []) ∷ fs) d (inl same) q

turn_doomed : (c d : Config) (t : Token) → Doomed c → turn c t ≡ Some d → Doomed d
turn_doomed (Due f w ss ps l fs) d t (inr x) h = pass_doomed f w ss ps l fs t d (have_doomed fs t d) x h
turn_doomed (Due f w (Expr_ n ∷ Place_ ∷ ss) ps l fs) d t (inl x) h = want_doomed t (InForm f w (Expr_ n) (Place_ ∷ ss) ps ∷ fs) d (inl x) h
turn_doomed (Due f w (Expr_ n ∷ []) ps l fs) d t (inl x) h = want_doomed t (InForm f w (Expr_ n) [] ps ∷ fs) d (inl x) h
turn_doomed (Due f w (Place_ ∷ ss) ps l fs) d t (inl x) h = pass_doomed f w ss (ps ++ APlace l ∷ []) l fs t d (have_doomed fs t d) (inl (x (APlace l) refl)) h
turn_doomed (Due f w (By slot.ConciseBody ∷ []) ps l fs) d t (inl x) h = body_doomed f w ps l fs t d x h
turn_doomed (Due f w ss ps l fs) d t (inl x) h = absurd x
turn_doomed (Have p l fs) d t x h = have_doomed fs t d x (Some p) l h
turn_doomed (Item fs) d t x h = item_doomed fs t d x h
turn_doomed Start d t x h = absurd x
turn_doomed (Finished ss) d t x h = absurd x

pub doomed_endless : Endless Doomed
doomed_endless = record { keeps = λ c d t x h. turn_doomed c d t x h; no_end = λ ss x. x }

-- these tokens lead nowhere, or to where no run ends
abbrev pub Lost : Option Config → Type 0
Lost o = LostIn Doomed o

pub lost_of : (o : Option Config) → ((d : Config) → o ≡ Some d → Doomed d) → Lost o
lost_of o h = Endless.lost_of Doomed o h

pub lost_then : (o : Option Config) (ts : List Token) → Lost o → Lost (then_run o (λ d. run d ts))
lost_then o ts x = Endless.lost_then Doomed doomed_endless o ts x
