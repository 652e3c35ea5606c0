-- Where a token may lead: what holds of each way that a token is read holds of the place that a turn comes to.
use Rattle.std.proofs.Common.{◌≡◌, ℕ, Bool, true, false, not, ◌&&◌, List, [], ◌∷◌, ◌++◌, Option, Some, None, refl, sym, ap, subst, ◌∙◌}
use Rattle.std.specs.Prelude.{nat_le, ◌||◌}
use Rattle.std.proofs.lemmas.Bool.{true≢false, and_parts}
use Rattle.js_terms.specs.declared.place.Loc.{Loc}
use Rattle.js_tree.specs.Plain.{Expr, no_expr, push_exprs, Stmt, Stmts, no_stmt, push_stmts}
use Rattle.js_text.specs.Token.{Token, Kind, End}
use Rattle.js_text.specs.Token as T
use Rattle.js_text.specs.declared.punctuator.Punctuator.{Punctuator}
use Rattle.js_text.specs.declared.punctuator.Punctuator.TheVariants as P
use Rattle.js_reading.specs.Level.{assignment}
use Rattle.js_reading.specs.Spans.{through}
use Rattle.js_reading.specs.Kinds.{is_kind}
use Rattle.js_reading.specs.Outside.{this_stmts}
use Rattle.js_reading.specs.Slots.{Wanted, Level, Slot, Sign, Text, Expr_, Stmt_, Stmts_, Items_, Place_, By, Piece, AnExpr, AStmt, TheStmts, TheExprs, APlace, Branch, Pass, Go, Form, Choice, Class, LaterText}
use Rattle.js_reading.specs.Slots as slot
use Rattle.js_reading.specs.Productions.{primary, is_mark, piece_of, slots, prefix, statement, join, wants, after_first}
use Rattle.js_reading.specs.Choices.{branch}
use Rattle.js_reading.specs.Makes.{build, is_declaration, last_level}
use Rattle.js_reading.specs.Sentences.{leaf_of, least, fits, continues, closes}
use Rattle.js_reading.specs.Turns.{place, begun_level, leads, declares, listing, Frame, InForm, InExpression, InStmts, InFile, InItems, Config, Due, Have, Item, Start, Finished, enter, begin_form, begin_leaf, want_by, want, begin_by, begin, texted, take, pass, wanted, banned, take_second, shift, is_name, leave, left, have, item, begin_file, turn, run}
use Rattle.js_reading.proofs.sentences.Branches.{branches, each, among}
use Rattle.js_reading.proofs.sentences.Runs.{nowhere, by_bool, by_branch}
use Rattle.js_reading.proofs.sentences.Shapes.{closing}
use Rattle.js_reading.proofs.sentences.Rows.{follows, follows_rest, follows_chosen, after, sign_kind, later_next, is_token, due_rest, is_rest, either_of, nameless, sure, sure_rest, sure_chosen, makes, well, due_well, by_choice, well_chosen, tame_rest, tame_chosen, Fine, DueFine, fine_due, prefix_fine, join_fine, statement_fine}
use Rattle.js_reading.proofs.levels.Tightness.{Leaf, leaf_made}
use Rattle.js_reading.proofs.sentences.Sound.{stepped}

-- ---- what the machine comes to

abbrev pub FineFrame : Frame → Type 0
FineFrame (InForm f w s ss ps) = Fine f (s ∷ ss)
FineFrame (InStmts f w ss ps xs) = Fine f (Stmts_ ∷ ss)
FineFrame (InItems f w p ss ps xs) = Fine f (Items_ p ∷ ss)
FineFrame f = Unit {0}

abbrev pub Framed : List Frame → Type 0
Framed [] = Unit {0}
Framed (f ∷ fs) = FineFrame f × Framed fs

-- what stands there alone is one token
abbrev pub Leafy : Piece → Type 0
Leafy (AnExpr i e) = last_level e ≡ primary
Leafy p = ⊥

abbrev pub FineAt : Config → Type 0
FineAt (Due f w ss ps l fs) = DueFine f ss × Framed fs
FineAt (Have p l fs) = Leafy p × Framed fs
FineAt (Item fs) = Framed fs
FineAt c = Unit {0}

-- a name may stand at the place
abbrev pub named : Config → Bool
named (Due f w ss ps l fs) = not (nameless ss)
named c = false

abbrev pub may : List Slot → Bool → Bool
may (Text slot.AnyName ∷ ss) b = b
may (Text slot.Key ∷ ss) b = b
may (By slot.Properties ∷ ss) b = b
may (Text LaterText ∷ ss) b = false
may (By slot.TemplateRest ∷ ss) b = false
may ss b = true

nameless_may : (ss : List Slot) (b : Bool) → nameless ss ≡ true → may ss b ≡ true
nameless_may (Text slot.AnyName ∷ ss) b h = absurd (true≢false (sym h))
nameless_may (Text slot.Key ∷ ss) b h = absurd (true≢false (sym h))
nameless_may (By slot.Properties ∷ ss) b h = absurd (true≢false (sym h))
nameless_may (Text LaterText ∷ ss) b h = h
nameless_may (By slot.TemplateRest ∷ ss) b h = h
nameless_may ss b h = refl

-- with its head as it is
due_may : (ss : List Slot) → not (later_next ss) ≡ true → may ss (not (nameless ss)) ≡ true
due_may (Text slot.AnyName ∷ ss) h = refl
due_may (Text slot.Key ∷ ss) h = refl
due_may (By slot.Properties ∷ ss) h = refl
due_may (Text LaterText ∷ ss) h = h
due_may (By slot.TemplateRest ∷ ss) h = h
due_may ss h = refl

-- ---- the ways of a token, where a name may stand or not

pub record Ways (t : Token) (name : Bool) (Q : Config → Type 0) : Type 0 where
  pub by_want : (fs : List Frame) (d : Config) → Framed fs → want t fs ≡ Some d → Q d
  pub by_begin : (fs : List Frame) (d : Config) → Framed fs → begin t fs ≡ Some d → Q d
  pub by_sign : (k : Kind) (f : Form) (w : Loc) (ss : List Slot) (ps : List Piece) (fs : List Frame) → sign_kind k ≡ true → is_kind k t.kind ≡ true → DueFine f ss → Framed fs → Q (Due f w ss ps t.loc fs)
  pub by_text : (c : Class) (p : Piece) (f : Form) (w : Loc) (ss : List Slot) (ps : List Piece) (fs : List Frame) → piece_of c t.kind t.loc ≡ Some p → may (Text c ∷ ss) name ≡ true → follows (makes f) (Text c ∷ ss) ≡ true → DueFine f ss → Framed fs → Q (Due f w ss ps t.loc fs)
  pub by_comma : (fs : List Frame) → is_mark P.Comma t ≡ true → Framed fs → Q (Item fs)
  pub by_end : (ss : Stmts) → is_kind End t.kind ≡ true → Q (Finished ss)

-- a token is a template's next part
abbrev pub Laters : Token → (Config → Type 0) → Type 0
Laters t Q = (p : Piece) (f : Form) (w : Loc) (ss : List Slot) (ps : List Piece) (fs : List Frame) → piece_of LaterText t.kind t.loc ≡ Some p → DueFine f ss → Framed fs → Q (Due f w ss ps t.loc fs)

-- a token goes on with an expression
abbrev pub Shifts : Token → (Config → Type 0) → Type 0
Shifts t Q = (i : ℕ) (e : Expr) (l : Loc) (fs : List Frame) (d : Config) → Framed fs → shift (join t) i e l fs t ≡ Some d → Q d

pub lands : (Q : Config → Type 0) {c d : Config} → Some c ≡ Some d → Q c → Q d
lands Q {c = c} {d = d} h q = let e : c ≡ d = cc in subst Q e q

or_left : (x y : Bool) → x ≡ true → (x || y) ≡ true
or_left x y h = ap (λ b. b || y) h

closing_inner : (p : Punctuator) → closing p ≡ true → sign_kind (T.Punctuator p) ≡ true
closing_inner P.CloseParenthesis h = refl
closing_inner P.CloseBracket h = refl
closing_inner p h = absurd (true≢false (sym h))

token_fine : (f : Form) (s : Slot) (ss : List Slot) → is_token s ≡ true → Fine f (s ∷ ss) → (makes f ≡ true → well f (s ∷ ss) ≡ due_well f ss) → DueFine f ss
token_fine f s ss is h e = (due_rest s ss is h.0, λ m. sym (e m) ∙ h.1 m, follows_rest (makes f) s ss h.2, tame_rest s ss h.3)

next_fine : (f : Form) (s : Slot) (ss : List Slot) → Fine f (s ∷ ss) → (well f (s ∷ ss) ≡ true → well f ss ≡ true) → Fine f ss
next_fine f s ss h e = (sure_rest s ss h.0, λ m. e (h.1 m), follows_rest (makes f) s ss h.2, tame_rest s ss h.3)

take_way : {t : Token} {b : Bool} {Q : Config → Type 0} (y : Ways t b Q) (f : Form) (w : Loc) (s : Slot) (ss : List Slot) (ps : List Piece) (fs : List Frame) (d : Config) → Fine f (s ∷ ss) → may (s ∷ ss) b ≡ true → Framed fs → take f w s ss ps fs t ≡ Some d → Q d
take_way {t = t} {Q = Q} y f w (Sign k) ss ps fs d fine n fr h =
    by_bool (is_kind k t.kind) _ _ d (λ c q. lands Q q (y.by_sign k f w ss ps fs (and_parts (sign_kind k) (not (later_next ss) && sure ss) fine.0).0 c (token_fine f (Sign k) ss refl fine (λ m. refl)) fr)) (λ c q. nowhere q) h
take_way {t = t} {Q = Q} y f w (Text c) ss ps fs d fine n fr h = by_piece (piece_of c t.kind t.loc) refl h
  where
    by_piece : (o : Option Piece) → piece_of c t.kind t.loc ≡ o → texted o (λ p. enter f w ss (ps ++ p ∷ []) t.loc fs) ≡ Some d → Q d
    by_piece None e q = nowhere q
    by_piece (Some p) e q = lands Q q (y.by_text c p f w ss (ps ++ p ∷ []) fs e n fine.2 (token_fine f (Text c) ss refl fine (λ m. refl)) fr)
take_way y f w (Expr_ n) ss ps fs d fine m fr h = y.by_want (InForm f w (Expr_ n) ss ps ∷ fs) d (fine, fr) h
take_way y f w Stmt_ ss ps fs d fine m fr h = y.by_begin (InForm f w Stmt_ ss ps ∷ fs) d (fine, fr) h
take_way {t = t} {Q = Q} y f w (Items_ p) ss ps fs d fine n fr h =
    by_bool (is_mark p t) _ _ d
    (λ c q. lands Q q (y.by_sign (T.Punctuator p) f w ss (ps ++ TheExprs true no_expr ∷ []) fs (closing_inner p (and_parts (closing p) (nameless ss && sure ss) fine.0).0) c (token_fine f (Items_ p) ss refl fine (λ m. refl)) fr))
    (λ c q. y.by_want (InItems f w p ss ps no_expr ∷ fs) d (fine, fr) q) h
take_way y f w s ss ps fs d fine n fr h = nowhere h

-- ---- slots that the token passes

abbrev pub is_pass : Branch → Bool
is_pass (Pass qs) = true
is_pass b = false

abbrev pub passing : List Slot → Token → Bool
passing [] t = true
passing (Place_ ∷ ss) t = passing ss t
passing (Stmts_ ∷ ss) t = closes t && passing ss t
passing (By c ∷ ss) t = is_pass (branch c t) && passing ss t
passing (s ∷ ss) t = false

both : (x y : Bool) → x ≡ true → y ≡ true → (x && y) ≡ true
both x y h k = ap (λ b. b && y) h ∙ k

nameless_rest : (c : Choice) (ss : List Slot) → sure (By c ∷ ss) ≡ true → nameless ss ≡ true
nameless_rest c ss h = (and_parts (nameless ss) (sure ss) h).0

abbrev pub begins_nameless : Branch → Bool
begins_nameless (Go qs s rs) = nameless (s ∷ [])
begins_nameless b = true

bound_branches : (c : Choice) → nameless (By c ∷ []) ≡ true → each begins_nameless (branches c) ≡ true
bound_branches slot.Properties h = absurd (true≢false (sym h))
bound_branches slot.TemplateRest h = absurd (true≢false (sym h))
bound_branches slot.Semicolon h = refl
bound_branches c h = refl

first_text : (c : Class) (ss : List Slot) (b : Bool) → nameless (Text c ∷ []) ≡ true → may (Text c ∷ ss) b ≡ true
first_text slot.AnyName ss b h = absurd (true≢false (sym h))
first_text slot.Key ss b h = absurd (true≢false (sym h))
first_text slot.LaterText ss b h = h
first_text c ss b h = refl

first_choice : (c : Choice) (ss : List Slot) (b : Bool) → nameless (By c ∷ []) ≡ true → may (By c ∷ ss) b ≡ true
first_choice slot.Properties ss b h = absurd (true≢false (sym h))
first_choice slot.TemplateRest ss b h = h
first_choice c ss b h = refl

first_may : (s : Slot) (ss : List Slot) (b : Bool) → nameless (s ∷ []) ≡ true → may (s ∷ ss) b ≡ true
first_may (Text c) ss b h = first_text c ss b h
first_may (By c) ss b h = first_choice c ss b h
first_may s ss b h = refl

-- the branches of properties take a name where one may stand
abbrev pub begins_key : Branch → Bool
begins_key (Go qs s rs) = may (s ∷ []) true
begins_key b = true

key_text : (c : Class) (ss : List Slot) → may (Text c ∷ []) true ≡ true → may (Text c ∷ ss) true ≡ true
key_text slot.AnyName ss h = refl
key_text slot.Key ss h = refl
key_text slot.LaterText ss h = h
key_text c ss h = refl

key_choice : (c : Choice) (ss : List Slot) → may (By c ∷ []) true ≡ true → may (By c ∷ ss) true ≡ true
key_choice slot.Properties ss h = refl
key_choice slot.TemplateRest ss h = h
key_choice c ss h = refl

key_may : (s : Slot) (ss : List Slot) → may (s ∷ []) true ≡ true → may (s ∷ ss) true ≡ true
key_may (Text c) ss h = key_text c ss h
key_may (By c) ss h = key_choice c ss h
key_may s ss h = refl

chosen_may : (c : Choice) (t : Token) (qs : List Piece) (s : Slot) (rs ss : List Slot) (b : Bool) → branch c t ≡ Go qs s rs → may (By c ∷ ss) b ≡ true → may (s ∷ (rs ++ ss)) b ≡ true
chosen_may slot.Properties t qs s rs ss b h n = subst (λ x. may (s ∷ (rs ++ ss)) x ≡ true) (sym n) (key_may s (rs ++ ss) (subst (λ x. begins_key x ≡ true) h (among slot.Properties t begins_key refl)))
chosen_may slot.TemplateRest t qs s rs ss b h n = absurd (true≢false (sym n))
chosen_may c t qs s rs ss b h n = first_may s (rs ++ ss) b (subst (λ x. begins_nameless x ≡ true) h (among c t begins_nameless (bound_branches c refl)))

-- a token that passes slots, up to the end of the production
pub pass_way : {t : Token} {b : Bool} {Q : Config → Type 0} (y : Ways t b Q) (f : Form) (w : Loc) (ss : List Slot) (ps : List Piece) (l : Loc) (fs : List Frame) (d : Config) (go : Option Piece → Loc → Option Config) → Fine f ss → may ss b ≡ true → Framed fs →
    ((qs : List Piece) → passing ss t ≡ true → go (build f (through w l) qs) (through w l) ≡ Some d → Q d) → pass f w ss ps l fs t go ≡ Some d → Q d
pass_way y f w [] ps l fs d go fine n fr rec h = rec ps refl h
pass_way {b = b} y f w (Place_ ∷ ss) ps l fs d go fine n fr rec h =
    pass_way y f w ss (ps ++ APlace l ∷ []) l fs d go (next_fine f Place_ ss fine (λ q. q)) (nameless_may ss b (and_parts (nameless ss) (sure ss) fine.0).0) fr rec h
pass_way {t = t} {b = b} y f w (Stmts_ ∷ ss) ps l fs d go fine n fr rec h =
    by_bool (closes t) _ _ d
    (λ c q. pass_way y f w ss (ps ++ TheStmts no_stmt ∷ []) l fs d go (next_fine f Stmts_ ss fine (λ q. q)) (nameless_may ss b (and_parts (nameless ss) (sure ss) fine.0).0) fr (λ qs p. rec qs (both (closes t) (passing ss t) c p)) q)
    (λ c q. y.by_begin (InStmts f w ss ps no_stmt ∷ fs) d (fine, fr) q) h
pass_way {t = t} {b = b} y f w (By c ∷ ss) ps l fs d go fine n fr rec h =
    by_branch (branch c t) _ _ d
    (λ qs e q. pass_way y f w ss (ps ++ qs) l fs d go (next_fine f (By c) ss fine (λ m. (and_parts (by_choice f c ss) (well f ss) m).1)) (nameless_may ss b (nameless_rest c ss fine.0)) fr
    (λ rs p. rec rs (both (is_pass (branch c t)) (passing ss t) (ap is_pass e) p)) q)
    (λ qs s rs e q. by_bool (leads (place fs) c) _ _ d
    (λ k g. take_way y f w s (rs ++ ss) (ps ++ qs) fs d
    (sure_chosen c t qs s rs ss e (nameless_rest c ss fine.0) (sure_rest (By c) ss fine.0), λ m. let a = and_parts (by_choice f c ss) (well f ss) (fine.1 m) in well_chosen f c t qs s rs ss e a.0 a.1, follows_chosen (makes f) c t qs s rs ss e fine.2, tame_chosen c t qs s rs ss e fine.3)
    (chosen_may c t qs s rs ss b e n) fr g)
    (λ k g. nowhere g) q) h
pass_way y f w (s ∷ ss) ps l fs d go fine n fr rec h = take_way y f w s ss ps fs d fine n fr h

-- ---- a part that stands there

no_have : {A : Type 0} (fs : List Frame) (m : Loc) (t : Token) (d : Config) → have fs None m t ≡ Some d → A
no_have [] m t d h = nowhere h
no_have (f ∷ fs) m t d h = nowhere h

-- the production that a frame holds, and the slots after its missing part
abbrev pub form_of : Frame → Form
form_of (InForm f w s ss ps) = f
form_of (InStmts f w ss ps xs) = f
form_of (InItems f w p ss ps xs) = f
form_of f = slot.Expression

abbrev pub rest_of : Frame → List Slot
rest_of (InForm f w s ss ps) = ss
rest_of (InStmts f w ss ps xs) = Stmts_ ∷ ss
rest_of (InExpression w) = By slot.Semicolon ∷ []
rest_of (InItems f w p ss ps xs) = Items_ p ∷ ss
rest_of f = []

-- what comes of the production that a frame holds, once the token has passed the rest of it
abbrev pub Leads : (Config → Type 0) → Frame → List Frame → Token → Config → Type 0
Leads Q f fs t d = (qs : List Piece) (l : Loc) → passing (rest_of f) t ≡ true → have fs (build (form_of f) l qs) l t ≡ Some d → Q d

begun_label : DueFine slot.Labelled (Stmt_ ∷ [])
begun_label = (refl, λ m. absurd (true≢false (sym m)), refl, refl)

begun_expression : Fine slot.Expression (By slot.Semicolon ∷ [])
begun_expression = (refl, λ m. absurd (true≢false (sym m)), refl, refl)

part_rest : (s : Slot) (ss : List Slot) → sure (s ∷ ss) ≡ true → (sure (s ∷ ss) ≡ (nameless ss && sure ss)) → nameless ss ≡ true
part_rest s ss h e = (and_parts (nameless ss) (sure ss) (sym e ∙ h)).0

pub leave_way : {t : Token} {b : Bool} {Q : Config → Type 0} (y : Ways t b Q) (f : Frame) (i : ℕ) (e : Expr) (l : Loc) (fs : List Frame) (d : Config) → Framed (f ∷ fs) → Leads Q f fs t d → (is_rest (rest_of f) ≡ true → Q d) → leave f i e l fs t (λ p m. have fs p m t) ≡ Some d → Q d
leave_way {t = t} {b = b} y (InForm f w (Expr_ n) ss ps) i e l fs d fr rec later h =
    by_bool (fits n i e) _ _ d
    (λ c q. either_of (nameless ss) (is_rest ss) (and_parts (nameless ss || is_rest ss) (sure ss) fr.0.0).0
    (λ free. pass_way y f w ss (ps ++ AnExpr i e ∷ []) l fs d (λ p m. have fs p m t) (next_fine f (Expr_ n) ss fr.0 (λ m. (and_parts (after f n ss) (well f ss) m).1)) (nameless_may ss b free) fr.1 (λ qs p. rec qs (through w l) p) q) later)
    (λ c q. nowhere q) h
leave_way {t = t} {Q = Q} y (InExpression w) i e l fs d fr rec later h =
    by_bool (is_mark P.Colon t && (is_name e && nat_le primary i)) _ _ d
    (λ c q. lands Q q (y.by_sign (T.Punctuator P.Colon) slot.Labelled w (Stmt_ ∷ []) (AnExpr i e ∷ []) fs refl (and_parts (is_mark P.Colon t) (is_name e && nat_le primary i) c).0 begun_label fr.1))
    (λ c q. pass_way y slot.Expression w (By slot.Semicolon ∷ []) (AnExpr i e ∷ []) l fs d (λ p m. have fs p m t) begun_expression refl fr.1 (λ qs p. rec qs (through w l) p) q) h
leave_way {t = t} {Q = Q} y (InItems f w p ss ps xs) i e l fs d fr rec later h =
    by_bool (nat_le assignment i) _ _ d
    (λ c q. by_bool (is_mark P.Comma t) _ _ d (λ k g. lands Q g (y.by_comma (InItems f w p ss ps (push_exprs xs e) ∷ fs) k fr))
    (λ k g. by_bool (is_mark p t) _ _ d
    (λ j r. lands Q r (y.by_sign (T.Punctuator p) f w ss (ps ++ TheExprs false (push_exprs xs e) ∷ []) fs (closing_inner p (and_parts (closing p) (nameless ss && sure ss) fr.0.0).0) j (token_fine f (Items_ p) ss refl fr.0 (λ m. refl)) fr.1))
    (λ j r. nowhere r) g) q)
    (λ c q. nowhere q) h
leave_way y f i e l fs d fr rec later h = nowhere h

pub left_way : {t : Token} {b : Bool} {Q : Config → Type 0} (y : Ways t b Q) (f : Frame) (s : Stmt) (l : Loc) (fs : List Frame) (d : Config) → Framed (f ∷ fs) → Leads Q f fs t d → left f s l fs t (λ p m. have fs p m t) ≡ Some d → Q d
left_way {t = t} {b = b} y (InForm f w Stmt_ ss ps) s l fs d fr rec h =
    by_bool (is_declaration s) _ _ d (λ c q. nowhere q)
    (λ c q. pass_way y f w ss (ps ++ AStmt s ∷ []) l fs d (λ p m. have fs p m t) (sure_rest Stmt_ ss fr.0.0, λ m. absurd (true≢false (sym (fr.0.1 m))), fr.0.2, tame_rest Stmt_ ss fr.0.3) (nameless_may ss b (part_rest Stmt_ ss fr.0.0 refl)) fr.1 (λ qs p. rec qs (through w l) p) q) h
left_way {t = t} {b = b} y (InStmts f w ss ps xs) s l fs d fr rec h =
    by_bool (closes t) _ _ d
    (λ c q. pass_way y f w ss (ps ++ TheStmts (push_stmts xs s) ∷ []) l fs d (λ p m. have fs p m t) (next_fine f Stmts_ ss fr.0 (λ q. q)) (nameless_may ss b (part_rest Stmts_ ss fr.0.0 refl)) fr.1 (λ qs p. rec qs (through w l) (both (closes t) (passing ss t) c p)) q)
    (λ c q. y.by_begin (InStmts f w ss ps (push_stmts xs s) ∷ fs) d fr q) h
left_way {t = t} {Q = Q} y (InFile xs) s l fs d fr rec h =
    by_bool (is_kind End t.kind) _ _ d
    (λ c q. by_bool (this_stmts (push_stmts xs s)) _ _ d (λ k g. nowhere g) (λ k g. lands Q g (y.by_end (push_stmts xs s) c)) q)
    (λ c q. y.by_begin (InFile (push_stmts xs s) ∷ fs) d fr q) h
left_way y f s l fs d fr rec h = nowhere h

-- a template's next part
rest_way : (t : Token) (Q : Config → Type 0) → Laters t Q → (f : Form) (w : Loc) (ss : List Slot) (ps : List Piece) (l : Loc) (fs : List Frame) (d : Config) (go : Option Piece → Loc → Option Config) → Fine f ss → Framed fs → is_rest ss ≡ true →
    pass f w ss ps l fs t go ≡ Some d → Q d
rest_way t Q later f w (By slot.TemplateRest ∷ ss) ps l fs d go fine fr r h =
    by_branch (branch slot.TemplateRest t) _ _ d (λ qs e q. absurd (true≢false (sym (subst (λ x. goes x ≡ true) e (among slot.TemplateRest t goes refl)))))
    (λ qs s rs e q. by_slot qs s rs (subst (λ x. texts x ≡ true) e (among slot.TemplateRest t texts refl))
    (sure_chosen slot.TemplateRest t qs s rs ss e (nameless_rest slot.TemplateRest ss fine.0) (sure_rest (By slot.TemplateRest) ss fine.0), λ m. let a = and_parts (by_choice f slot.TemplateRest ss) (well f ss) (fine.1 m) in well_chosen f slot.TemplateRest t qs s rs ss e a.0 a.1, follows_chosen (makes f) slot.TemplateRest t qs s rs ss e fine.2, tame_chosen slot.TemplateRest t qs s rs ss e fine.3) q) h
  where
    goes : Branch → Bool
    goes (Pass qs) = false
    goes x = true

    is_later_slot : Slot → Bool
    is_later_slot (Text LaterText) = true
    is_later_slot s = false

    texts : Branch → Bool
    texts (Go qs s rs) = is_later_slot s
    texts x = true

    by_slot : (qs : List Piece) (s : Slot) (rs : List Slot) → is_later_slot s ≡ true → Fine f (s ∷ (rs ++ ss)) → take f w s (rs ++ ss) (ps ++ qs) fs t ≡ Some d → Q d
    by_slot qs (Text LaterText) rs is k q = by_piece (piece_of LaterText t.kind t.loc) refl q
      where
        by_piece : (o : Option Piece) → piece_of LaterText t.kind t.loc ≡ o → texted o (λ p. enter f w (rs ++ ss) ((ps ++ qs) ++ p ∷ []) t.loc fs) ≡ Some d → Q d
        by_piece None e g = nowhere g
        by_piece (Some p) e g = lands Q g (later p f w (rs ++ ss) ((ps ++ qs) ++ p ∷ []) fs e (token_fine f (Text LaterText) (rs ++ ss) refl k (λ m. refl)) fr)
    by_slot qs s rs is k q = absurd (true≢false (sym is))
rest_way t Q later f w ss ps l fs d go fine fr r h = absurd (true≢false (sym r))

pub rest_left : (t : Token) (Q : Config → Type 0) → Laters t Q → (f : Frame) (i : ℕ) (e : Expr) (l : Loc) (fs : List Frame) (d : Config) → Framed (f ∷ fs) → leave f i e l fs t (λ p m. have fs p m t) ≡ Some d → is_rest (rest_of f) ≡ true → Q d
rest_left t Q later (InForm f w (Expr_ n) ss ps) i e l fs d fr h r =
    by_bool (fits n i e) _ _ d (λ c q. rest_way t Q later f w ss (ps ++ AnExpr i e ∷ []) l fs d (λ p m. have fs p m t) (next_fine f (Expr_ n) ss fr.0 (λ m. (and_parts (after f n ss) (well f ss) m).1)) fr.1 r q) (λ c q. nowhere q) h
rest_left t Q later (InExpression w) i e l fs d fr h r = absurd (true≢false (sym r))
rest_left t Q later (InItems f w p ss ps xs) i e l fs d fr h r = absurd (true≢false (sym r))
rest_left t Q later f i e l fs d fr h r = nowhere h

pub have_way : {t : Token} {b : Bool} {Q : Config → Type 0} (y : Ways t b Q) → Shifts t Q → Laters t Q → (fs : List Frame) (d : Config) → Framed fs → (o : Option Piece) (m : Loc) → have fs o m t ≡ Some d → Q d
have_way y go later [] d fr o m h = nowhere h
have_way {t = t} {Q = Q} y go later (f ∷ fs) d fr (Some (AnExpr i e)) m h =
    by_bool (continues (wanted f) e t) _ _ d
    (λ c q. by_bool (banned t (f ∷ fs)) _ _ d (λ k g. nowhere g) (λ k g. go i e m (f ∷ fs) d fr g) q)
    (λ c q. leave_way y f i e m fs d fr (λ qs l p. have_way y go later fs d fr.1 _ l) (rest_left t Q later f i e m fs d fr q) q) h
have_way y go later (f ∷ fs) d fr (Some (AStmt s)) m h = left_way y f s m fs d fr (λ qs l p. have_way y go later fs d fr.1 _ l) h
have_way y go later (f ∷ fs) d fr o m h = nowhere h

-- ---- a turn

pub item_way : {t : Token} {b : Bool} {Q : Config → Type 0} (y : Ways t b Q) (fs : List Frame) (d : Config) → Framed fs → item fs t ≡ Some d → Q d
item_way {t = t} {Q = Q} y (InItems f w p ss ps xs ∷ fs) d fine h =
    by_bool (is_mark p t) _ _ d
    (λ c q. lands Q q (y.by_sign (T.Punctuator p) f w ss (ps ++ TheExprs true xs ∷ []) fs (closing_inner p (and_parts (closing p) (nameless ss && sure ss) fine.0.0).0) c (token_fine f (Items_ p) ss refl fine.0 (λ m. refl)) fine.1))
    (λ c q. y.by_want (InItems f w p ss ps xs ∷ fs) d fine q) h
item_way y fs d fine h = nowhere h

pub start_way : {t : Token} {b : Bool} {Q : Config → Type 0} (y : Ways t b Q) (d : Config) → begin_file t ≡ Some d → Q d
start_way {t = t} {Q = Q} y d h = by_bool (is_kind End t.kind) _ _ d (λ c q. lands Q q (y.by_end no_stmt c)) (λ c q. y.by_begin (InFile no_stmt ∷ []) d (tt, tt) q) h

-- slots that are due, and what comes of the production once the token has passed them
pub due_way : {t : Token} {Q : Config → Type 0} (f : Form) (w : Loc) (ss : List Slot) (ps : List Piece) (l : Loc) (fs : List Frame) (d : Config) → Ways t (not (nameless ss)) Q → DueFine f ss → Framed fs →
    ((qs : List Piece) (m : Loc) → passing ss t ≡ true → have fs (build f m qs) m t ≡ Some d → Q d) → turn (Due f w ss ps l fs) t ≡ Some d → Q d
due_way {t = t} f w ss ps l fs d y fine fr rec h = pass_way y f w ss ps l fs d (λ p m. have fs p m t) (fine_due f ss fine) (due_may ss (and_parts (not (later_next ss)) (sure ss) fine.0).0) fr (λ qs p. rec qs (through w l) p) h

pub turn_way : {t : Token} {Q : Config → Type 0} (c d : Config) → Ways t (named c) Q → Shifts t Q → Laters t Q → FineAt c → turn c t ≡ Some d → Q d
turn_way (Due f w ss ps l fs) d y go later fine h = due_way f w ss ps l fs d y fine.0 fine.1 (λ qs m p q. have_way y go later fs d fine.1 _ m q) h
turn_way (Have p l fs) d y go later fine h = have_way y go later fs d fine.1 (Some p) l h
turn_way (Item fs) d y go later fine h = item_way y fs d fine h
turn_way Start d y go later fine h = start_way y d h
turn_way (Finished ss) d y go later fine h = nowhere h

-- ---- what the machine comes to is fine

keeps : (t : Token) (b : Bool) → Ways t b FineAt
keeps t b = record {
  by_want = λ fs d fr h. want_kept fs d fr h;
  by_begin = λ fs d fr h. begin_kept fs d fr h;
  by_sign = λ k f w ss ps fs is c fine fr. (fine, fr);
  by_text = λ c p f w ss ps fs e n x fine fr. (fine, fr);
  by_comma = λ fs c fr. fr;
  by_end = λ ss c. tt;
}
  where
    form_kept : (f : Form) (ss : List Slot) (fs : List Frame) (d : Config) → DueFine f (after_first ss) → Framed fs → begin_form f t ss fs ≡ Some d → FineAt d
    form_kept f (Sign k ∷ ss) fs d fine fr h = lands FineAt h (fine, fr)
    form_kept f (Text c ∷ ss) fs d fine fr h = by_piece (piece_of c t.kind t.loc) h
      where
        by_piece : (o : Option Piece) → texted o (λ p. enter f t.loc ss (p ∷ []) t.loc fs) ≡ Some d → FineAt d
        by_piece None q = nowhere q
        by_piece (Some p) q = lands FineAt q (fine, fr)
    form_kept f ss fs d fine fr h = nowhere h

    leaf_kept : (o : Option Expr) → leaf_of t.kind t.loc ≡ o → (fs : List Frame) (d : Config) → Framed fs → begin_leaf t fs o ≡ Some d → FineAt d
    leaf_kept None is fs d fr h = nowhere h
    leaf_kept (Some e) is fs d fr h = lands FineAt h ((subst Leaf is (leaf_made t.kind t.loc)).1, fr)

    want_kept : (fs : List Frame) (d : Config) → Framed fs → want t fs ≡ Some d → FineAt d
    want_kept fs d fr h = by_form (prefix t) refl h
      where
        by_form : (o : Option Form) → prefix t ≡ o → want_by o t fs ≡ Some d → FineAt d
        by_form None is q = leaf_kept (leaf_of t.kind t.loc) refl fs d fr q
        by_form (Some f) is q = by_bool (nat_le (least (place fs)) (begun_level f)) _ _ d (λ c g. form_kept f (slots f) fs d (prefix_fine t f is) fr g) (λ c g. nowhere g) q

    begin_kept : (fs : List Frame) (d : Config) → Framed fs → begin t fs ≡ Some d → FineAt d
    begin_kept fs d fr h = by_form (statement t) refl h
      where
        by_form : (o : Option Form) → statement t ≡ o → begin_by o t fs ≡ Some d → FineAt d
        by_form None is q = want_kept (InExpression t.loc ∷ fs) d (tt, fr) q
        by_form (Some f) is q = by_bool (declares f && not (listing fs)) _ _ d (λ c g. nowhere g) (λ c g. form_kept f (slots f) fs d (statement_fine t f is) fr g) q

second_kept : (t : Token) (f : Form) (i : ℕ) (e : Expr) (l : Loc) (fs : List Frame) (ss : List Slot) (d : Config) → DueFine f (after_first ss) → Framed fs → take_second f i e l fs t ss ≡ Some d → FineAt d
second_kept t f i e l fs (Sign k ∷ ss) d fine fr h = lands FineAt h (fine, fr)
second_kept t f i e l fs ss d fine fr h = nowhere h

shift_kept : (t : Token) (o : Option Form) → join t ≡ o → (i : ℕ) (e : Expr) (l : Loc) (fs : List Frame) (d : Config) → Framed fs → shift o i e l fs t ≡ Some d → FineAt d
shift_kept t None is i e l fs d fr h = nowhere h
shift_kept t (Some f) is i e l fs d fr h = by_bool (nat_le (wants (Some f)) i && fits (place fs) i e) _ _ d (λ c g. second_kept t f i e l fs (after_first (slots f)) d (join_fine t f is) fr g) (λ c g. nowhere g) h

pub run_fine : (ts : List Token) (c d : Config) → FineAt c → run c ts ≡ Some d → FineAt d
run_fine [] c d fine h = lands FineAt h fine
run_fine (t ∷ ts) c d fine h = stepped (turn c t) (λ x. run x ts) d (λ x e q. run_fine ts x d (turn_way c x (keeps t (named c)) (λ i y l fs z fr g. shift_kept t (join t) refl i y l fs z fr g) (λ p f w ss ps fs e fine fr. (fine, fr)) fine e) q) h

-- the place after these tokens
pub come_to : (ts : List Token) (c : Config) → run Start ts ≡ Some c → FineAt c
come_to ts c h = run_fine ts Start c tt h
