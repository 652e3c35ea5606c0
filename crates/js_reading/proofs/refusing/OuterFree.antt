-- From a place in no function a turn leads to an expression in none: only a token of its own begins a function.
use Rattle.std.proofs.Common.{◌≡◌, ℕ, Bool, true, false, not, ◌&&◌, List, [], ◌∷◌, ◌++◌, Option, Some, None, codes, refl, sym, ap, subst, ◌∙◌}
use Rattle.std.specs.Prelude.{nat_le, ◌||◌}
use Rattle.std.proofs.lemmas.Bool.{true≢false}
use Rattle.js_terms.specs.declared.place.Loc.{Loc}
use Rattle.js_tree.specs.Plain.{Expr, Exprs, no_expr, push_exprs, Stmt, Stmts, no_stmt, push_stmts}
use Rattle.js_tree.specs.Plain as tree
use Rattle.js_text.specs.Token.{Token, Word, End}
use Rattle.js_text.specs.declared.punctuator.Punctuator.TheVariants as P
use Rattle.js_reading.specs.Level.{assignment}
use Rattle.js_reading.specs.Spans.{through}
use Rattle.js_reading.specs.Kinds.{is_kind}
use Rattle.js_reading.specs.Outside.{this_stmts}
use Rattle.js_reading.specs.Slots.{Slot, Sign, Text, Expr_, Stmt_, Stmts_, Items_, Place_, By, Piece, AnExpr, AStmt, TheStmts, TheExprs, APlace, IsMethod, Branch, Refuse, Pass, Go, Form, Choice}
use Rattle.js_reading.specs.Slots as slot
use Rattle.js_reading.specs.Productions.{primary, is_mark, piece_of, slots, prefix, statement, join, wants, after_first}
use Rattle.js_reading.specs.Choices.{branch}
use Rattle.js_reading.specs.Makes.{build, is_declaration}
use Rattle.js_reading.specs.Sentences.{leaf_of, least, fits, continues, closes}
use Rattle.js_reading.specs.Turns.{place, begun_level, leads, declares, listing, Frame, InForm, InExpression, InStmts, InFile, InItems, Config, Due, Have, Item, Start, Finished, enter, begin_form, begin_leaf, want_by, want, begin_by, begin, texted, take, pass, wanted, banned, take_second, shift, is_name, leave, left, have, item, turn}
use Rattle.js_reading.specs.Unsupported.{in_own, is_function, in_function, in_no_function}
use Rattle.js_reading.proofs.sentences.Branches.{branches, each, among}
use Rattle.js_reading.proofs.sentences.Firsts.{remade}
use Rattle.js_reading.proofs.refusing.OuterKept.{not_or, this_wanted}
use Rattle.js_reading.proofs.sentences.Rows.{either_of}
use Rattle.js_reading.proofs.sentences.Runs.{nowhere, by_bool, by_branch}
use Rattle.js_reading.proofs.sentences.Ways.{lands}

-- ---- pieces

-- no mark of a method among these
abbrev plain : List Piece → Bool
plain [] = true
plain (IsMethod ∷ ps) = false
plain (p ∷ ps) = plain ps

own_plain : (b : Bool) (qs : List Piece) → b ≡ false → plain qs ≡ true → in_own b qs ≡ false
own_plain b [] h k = h
own_plain b (IsMethod ∷ qs) h k = absurd (true≢false (sym k))
own_plain b (TheStmts ss ∷ qs) h k = own_plain false qs refl k
own_plain b (q ∷ qs) h k = own_plain b qs h k

own_more : (b : Bool) (ps qs : List Piece) → in_own b ps ≡ false → plain qs ≡ true → in_own b (ps ++ qs) ≡ false
own_more b [] qs h k = own_plain b qs h k
own_more b (IsMethod ∷ ps) qs h k = own_more true ps qs h k
own_more b (TheStmts ss ∷ ps) qs h k = own_more false ps qs h k
own_more b (p ∷ ps) qs h k = own_more b ps qs h k

both_off : (x y : Bool) → x ≡ false → y ≡ false → (x || y) ≡ false
both_off x y h k = ap (λ b. b || y) h ∙ k

-- what comes after these parts of a production, in these frames, is in no function
abbrev FreeIn : Form → List Piece → List Frame → Type 0
FreeIn f ps fs = (in_own (is_function f) ps || in_function fs) ≡ false

free_more : (f : Form) (ps qs : List Piece) (fs : List Frame) → FreeIn f ps fs → plain qs ≡ true → FreeIn f (ps ++ qs) fs
free_more f ps qs fs h k = let a = not_or (in_own (is_function f) ps) (in_function fs) h in both_off (in_own (is_function f) (ps ++ qs)) (in_function fs) (own_more (is_function f) ps qs a.0 k) a.1

-- an expression that stands there is in none
abbrev Free : Config → Type 0
Free (Have p l fs) = in_function fs ≡ false
Free c = Unit {0}

-- ---- a part begins

form_free : (f : Form) (t : Token) (ss : List Slot) (fs : List Frame) (d : Config) → begin_form f t ss fs ≡ Some d → Free d
form_free f t (Sign k ∷ ss) fs d h = lands Free h tt
form_free f t (Text c ∷ ss) fs d h = by_piece (piece_of c t.kind t.loc) h
  where
    by_piece : (o : Option Piece) → texted o (λ p. enter f t.loc ss (p ∷ []) t.loc fs) ≡ Some d → Free d
    by_piece None q = nowhere q
    by_piece (Some p) q = lands Free q tt
form_free f t ss fs d h = nowhere h

want_free : (t : Token) (fs : List Frame) (d : Config) → in_function fs ≡ false → want t fs ≡ Some d → Free d
want_free t fs d x h = by_form (prefix t) h
  where
    by_leaf : (o : Option Expr) → begin_leaf t fs o ≡ Some d → Free d
    by_leaf None q = nowhere q
    by_leaf (Some e) q = lands Free q x

    by_form : (o : Option Form) → want_by o t fs ≡ Some d → Free d
    by_form None q = by_leaf (leaf_of t.kind t.loc) q
    by_form (Some f) q = by_bool (nat_le (least (place fs)) (begun_level f)) _ _ d (λ c g. form_free f t (slots f) fs d g) (λ c g. nowhere g) q

begin_free : (t : Token) (fs : List Frame) (d : Config) → in_function fs ≡ false → begin t fs ≡ Some d → Free d
begin_free t fs d x h = by_form (statement t) h
  where
    by_form : (o : Option Form) → begin_by o t fs ≡ Some d → Free d
    by_form None q = want_free t (InExpression t.loc ∷ fs) d x q
    by_form (Some f) q = by_bool (declares f && not (listing fs)) _ _ d (λ c g. nowhere g) (λ c g. form_free f t (slots f) fs d g) q

take_free : (f : Form) (w : Loc) (s : Slot) (ss : List Slot) (ps : List Piece) (fs : List Frame) (t : Token) (d : Config) → FreeIn f ps fs → take f w s ss ps fs t ≡ Some d → Free d
take_free f w (Sign k) ss ps fs t d x h = by_bool (is_kind k t.kind) _ _ d (λ c q. lands Free q tt) (λ c q. nowhere q) h
take_free f w (Text c) ss ps fs t d x h = by_piece (piece_of c t.kind t.loc) h
  where
    by_piece : (o : Option Piece) → texted o (λ p. enter f w ss (ps ++ p ∷ []) t.loc fs) ≡ Some d → Free d
    by_piece None q = nowhere q
    by_piece (Some p) q = lands Free q tt
take_free f w (Expr_ n) ss ps fs t d x h = want_free t (InForm f w (Expr_ n) ss ps ∷ fs) d x h
take_free f w Stmt_ ss ps fs t d x h = begin_free t (InForm f w Stmt_ ss ps ∷ fs) d x h
take_free f w (Items_ p) ss ps fs t d x h = by_bool (is_mark p t) _ _ d (λ c q. lands Free q tt) (λ c q. want_free t (InItems f w p ss ps no_expr ∷ fs) d x q) h
take_free f w s ss ps fs t d x h = nowhere h

-- ---- what the next token chooses: after the mark of a method stands its `(`

abbrev is_sign : Slot → Bool
is_sign (Sign k) = true
is_sign s = false

abbrev marked : Branch → Bool
marked Refuse = true
marked (Pass qs) = plain qs
marked (Go qs s rs) = plain qs || is_sign s

marked_branches : (c : Choice) → each marked (branches c) ≡ true
marked_branches slot.AfterKey = refl
marked_branches c = refl

passed_plain : (c : Choice) (t : Token) (qs : List Piece) → branch c t ≡ Pass qs → plain qs ≡ true
passed_plain c t qs h = subst (λ b. marked b ≡ true) h (among c t marked (marked_branches c))

sign_free : (f : Form) (w : Loc) (s : Slot) (ss : List Slot) (ps : List Piece) (fs : List Frame) (t : Token) (d : Config) → is_sign s ≡ true → take f w s ss ps fs t ≡ Some d → Free d
sign_free f w (Sign k) ss ps fs t d is h = by_bool (is_kind k t.kind) _ _ d (λ c q. lands Free q tt) (λ c q. nowhere q) h
sign_free f w s ss ps fs t d is h = absurd (true≢false (sym is))

chosen_free : (c : Choice) (qs : List Piece) (s : Slot) (rs : List Slot) (f : Form) (w : Loc) (ss : List Slot) (ps : List Piece) (fs : List Frame) (t : Token) (d : Config) → branch c t ≡ Go qs s rs → FreeIn f ps fs → take f w s ss (ps ++ qs) fs t ≡ Some d → Free d
chosen_free c qs s rs f w ss ps fs t d e x h =
    either_of (plain qs) (is_sign s) (subst (λ b. marked b ≡ true) e (among c t marked (marked_branches c))) (λ k. take_free f w s ss (ps ++ qs) fs t d (free_more f ps qs fs x k) h) (λ k. sign_free f w s ss (ps ++ qs) fs t d k h)

-- ---- a part stands there

abbrev Goes : List Frame → Token → Config → Type 0
Goes fs t d = (o : Option Piece) (m : Loc) → in_function fs ≡ false → have fs o m t ≡ Some d → Free d

pass_free : (f : Form) (w : Loc) (ss : List Slot) (ps : List Piece) (l : Loc) (fs : List Frame) (t : Token) (d : Config) → Goes fs t d → FreeIn f ps fs → pass f w ss ps l fs t (λ p m. have fs p m t) ≡ Some d → Free d
pass_free f w [] ps l fs t d go x h = go (build f (through w l) ps) (through w l) (not_or (in_own (is_function f) ps) (in_function fs) x).1 h
pass_free f w (Place_ ∷ ss) ps l fs t d go x h = pass_free f w ss (ps ++ APlace l ∷ []) l fs t d go (free_more f ps (APlace l ∷ []) fs x refl) h
pass_free f w (Stmts_ ∷ ss) ps l fs t d go x h =
    by_bool (closes t) _ _ d (λ c q. pass_free f w ss (ps ++ TheStmts no_stmt ∷ []) l fs t d go (free_more f ps (TheStmts no_stmt ∷ []) fs x refl) q) (λ c q. begin_free t (InStmts f w ss ps no_stmt ∷ fs) d x q) h
pass_free f w (By c ∷ ss) ps l fs t d go x h =
    by_branch (branch c t) _ _ d (λ qs e q. pass_free f w ss (ps ++ qs) l fs t d go (free_more f ps qs fs x (passed_plain c t qs e)) q)
    (λ qs s rs e q. by_bool (leads (place fs) c) _ _ d (λ k g. chosen_free c qs s rs f w (rs ++ ss) ps fs t d e x g) (λ k g. nowhere g) q) h
pass_free f w (s ∷ ss) ps l fs t d go x h = take_free f w s ss ps fs t d x h

-- the token after an expression stands in the production that begins with it
second_free : (f : Form) (i : ℕ) (e : Expr) (l : Loc) (fs : List Frame) (t : Token) (ss : List Slot) (d : Config) → take_second f i e l fs t ss ≡ Some d → Free d
second_free f i e l fs t (Sign k ∷ ss) d h = lands Free h tt
second_free f i e l fs t ss d h = nowhere h

shift_free : (t : Token) (o : Option Form) (i : ℕ) (e : Expr) (l : Loc) (fs : List Frame) (d : Config) → shift o i e l fs t ≡ Some d → Free d
shift_free t None i e l fs d h = nowhere h
shift_free t (Some f) i e l fs d h = by_bool (nat_le (wants (Some f)) i && fits (place fs) i e) _ _ d (λ c q. second_free f i e l fs t (after_first (slots f)) d q) (λ c q. nowhere q) h

leave_free : (f : Frame) (i : ℕ) (e : Expr) (l : Loc) (fs : List Frame) (t : Token) (d : Config) → Goes fs t d → in_function (f ∷ fs) ≡ false → leave f i e l fs t (λ p m. have fs p m t) ≡ Some d → Free d
leave_free (InForm f w (Expr_ n) ss ps) i e l fs t d go x h = by_bool (fits n i e) _ _ d (λ c q. pass_free f w ss (ps ++ AnExpr i e ∷ []) l fs t d go (free_more f ps (AnExpr i e ∷ []) fs x refl) q) (λ c q. nowhere q) h
leave_free (InExpression w) i e l fs t d go x h =
    by_bool (is_mark P.Colon t && (is_name e && nat_le primary i)) _ _ d (λ c q. lands Free q tt) (λ c q. pass_free slot.Expression w (By slot.Semicolon ∷ []) (AnExpr i e ∷ []) l fs t d go x q) h
leave_free (InItems f w p ss ps xs) i e l fs t d go x h =
    by_bool (nat_le assignment i) _ _ d (λ c q. by_bool (is_mark P.Comma t) _ _ d (λ k g. lands Free g tt) (λ k g. by_bool (is_mark p t) _ _ d (λ j r. lands Free r tt) (λ j r. nowhere r) g) q) (λ c q. nowhere q) h
leave_free f i e l fs t d go x h = nowhere h

left_free : (f : Frame) (s : Stmt) (l : Loc) (fs : List Frame) (t : Token) (d : Config) → Goes fs t d → in_function (f ∷ fs) ≡ false → left f s l fs t (λ p m. have fs p m t) ≡ Some d → Free d
left_free (InForm f w Stmt_ ss ps) s l fs t d go x h = by_bool (is_declaration s) _ _ d (λ c q. nowhere q) (λ c q. pass_free f w ss (ps ++ AStmt s ∷ []) l fs t d go (free_more f ps (AStmt s ∷ []) fs x refl) q) h
left_free (InStmts f w ss ps xs) s l fs t d go x h =
    by_bool (closes t) _ _ d (λ c q. pass_free f w ss (ps ++ TheStmts (push_stmts xs s) ∷ []) l fs t d go (free_more f ps (TheStmts (push_stmts xs s) ∷ []) fs x refl) q)
    (λ c q. begin_free t (InStmts f w ss ps (push_stmts xs s) ∷ fs) d x q) h
left_free (InFile xs) s l fs t d go x h =
    by_bool (is_kind End t.kind) _ _ d (λ c q. by_bool (this_stmts (push_stmts xs s)) _ _ d (λ k g. nowhere g) (λ k g. lands Free g tt) q) (λ c q. begin_free t (InFile (push_stmts xs s) ∷ fs) d x q) h
left_free f s l fs t d go x h = nowhere h

have_free : (fs : List Frame) (t : Token) (d : Config) → Goes fs t d
have_free [] t d o m x h = nowhere h
have_free (f ∷ fs) t d (Some (AnExpr i e)) m x h =
    by_bool (continues (wanted f) e t) _ _ d (λ c q. by_bool (banned t (f ∷ fs)) _ _ d (λ k g. nowhere g) (λ k g. shift_free t (join t) i e m (f ∷ fs) d g) q) (λ c q. leave_free f i e m fs t d (have_free fs t d) x q) h
have_free (f ∷ fs) t d (Some (AStmt s)) m x h = left_free f s m fs t d (have_free fs t d) x h
have_free (f ∷ fs) t d o m x h = nowhere h

item_free : (fs : List Frame) (t : Token) (d : Config) → in_function fs ≡ false → item fs t ≡ Some d → Free d
item_free (InItems f w p ss ps xs ∷ fs) t d x h = by_bool (is_mark p t) _ _ d (λ c q. lands Free q tt) (λ c q. want_free t (InItems f w p ss ps xs ∷ fs) d x q) h
item_free fs t d x h = nowhere h

off : (b : Bool) → not b ≡ true → b ≡ false
off false h = refl
off true h = absurd (true≢false (sym h))

turn_free : (c d : Config) (t : Token) → in_no_function c ≡ true → turn c t ≡ Some d → Free d
turn_free (Due f w ss ps l fs) d t x h = pass_free f w ss ps l fs t d (have_free fs t d) (off (in_own (is_function f) ps || in_function fs) x) h
turn_free (Have p l fs) d t x h = have_free fs t d (Some p) l (off (in_function fs) x) h
turn_free (Item fs) d t x h = item_free fs t d (off (in_function fs) x) h
turn_free Start d t x h = by_bool (is_kind End t.kind) _ _ d (λ c q. lands Free q tt) (λ c q. begin_free t (InFile no_stmt ∷ []) d refl q) h
turn_free (Finished ss) d t x h = nowhere h

-- ---- `this`

-- where it is read as an expression
pub this_free : (c : Config) (t : Token) (fs : List Frame) → in_no_function c ≡ true → t.kind ≡ Word (codes "this") → turn c t ≡ want t fs → in_function fs ≡ false
this_free c t fs out is begins = turn_free c (Have (AnExpr primary (tree.This (Some t.loc))) t.loc fs) t out (begins ∙ there)
  where
    there : want t fs ≡ Some (Have (AnExpr primary (tree.This (Some t.loc))) t.loc fs)
    there = subst (λ k. want (remade t k) fs ≡ Some (Have (AnExpr primary (tree.This (Some t.loc))) t.loc fs)) (sym is) (this_wanted t fs)
