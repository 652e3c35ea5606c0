-- After a call, and after all that is no name alone, no sentence goes on with `=>`.
use Rattle.std.proofs.Common.{◌≡◌, ℕ, ◌≤◌, ◌⊎◌, inl, inr, Bool, true, false, not, ◌&&◌, List, [], ◌∷◌, ◌++◌, Option, Some, None, codes, if◌then◌else◌, refl, sym, ap, subst, ◌∙◌, arith}
use Rattle.std.specs.Prelude.{nat_le, ◌||◌}
use Rattle.std.proofs.lemmas.Bool.{true≢false, and_parts, leb-true}
use Rattle.js_terms.specs.declared.place.Loc.{Loc}
use Rattle.js_terms.specs.declared.operators.BinaryOperator.{BinaryOperator}
use Rattle.js_terms.specs.declared.operators.BinaryOperator.TheVariants as b
use Rattle.js_terms.specs.declared.operators.LogicalOperator.TheVariants as logic
use Rattle.js_tree.specs.Plain.{Expr, Exprs, no_expr, more_expr, Stmt}
use Rattle.js_tree.specs.Plain as tree
use Rattle.js_text.specs.Token.{Token, Kind, Word, End}
use Rattle.js_text.specs.Token as T
use Rattle.js_text.specs.Word.{reserved_word}
use Rattle.js_reading.specs.Level.{assignment, binary_level}
use Rattle.js_reading.specs.Spans.{through}
use Rattle.js_text.specs.declared.punctuator.Punctuator.{Punctuator}
use Rattle.js_text.specs.declared.punctuator.Punctuator.TheVariants as P
use Rattle.js_reading.specs.Kinds.{is_kind, is_keyword}
use Rattle.js_reading.specs.Slots.{Wanted, Level, WithoutIn, Callee, Slot, Sign, Text, Expr_, Stmt_, Stmts_, Items_, Place_, By, Piece, AnExpr, AStmt, TheStmts, TheExprs, AWord, APlace, Missing, Branch, Pass, Go, Form, Choice, Class}
use Rattle.js_reading.specs.Slots as slot
use Rattle.js_reading.specs.Productions.{primary, member, call, member_level, is_mark, piece_of, join, wants}
use Rattle.js_reading.specs.Choices.{branch}
use Rattle.js_reading.specs.Makes.{build, is_declaration, is_target, is_and_or, arrow_of, params_of, concise}
use Rattle.js_reading.specs.Sentences.{fits, continues, closes, SpellsItems}
use Rattle.js_reading.specs.Turns.{leads, place, texted, enter, Frame, InForm, InExpression, InStmts, InFile, InItems, Config, Due, Have, want, begin, take, pass, wanted, banned, shift, is_name, leave, have, turn, run, then_run}
use Rattle.js_reading.proofs.sentences.Branches.{branches, each, among}
use Rattle.js_reading.proofs.sentences.Firsts.{remade}
use Rattle.js_reading.proofs.sentences.KindsLemmas.{kind_is}
use Rattle.js_reading.proofs.sentences.Lists.{append_exprs}
use Rattle.js_reading.proofs.sentences.Reading.{complete_items}
use Rattle.js_reading.proofs.sentences.Runs.{nowhere, by_bool, by_branch}
use Rattle.js_reading.proofs.sentences.Shapes.{split, closing, both_true}
use Rattle.js_reading.proofs.sentences.Rows.{either_of, is_rest, is_new, is_callee, makes, tight, held, after, well, is_arrow, is_arrow_choice, arrowless, open_to, tame}
use Rattle.js_reading.proofs.sentences.Ways.{Framed, FineAt, is_pass, passing, lands, run_fine}
use Rattle.js_reading.proofs.goals.Asking.{template_stays, held_stays, ends_part, after_part, piece_option, stmt_option, made_nothing, by_makes, no_shift, leads_nowhere}

-- ---- the token

of_kind : (P : Token → Type 0) (t : Token) (k : Kind) → t.kind ≡ k → P (remade t k) → P t
of_kind P t k is p = subst (λ x. P (remade t x)) (sym is) p

none_of : (o : Option Config) → ((d : Config) → o ≡ Some d → ⊥) → o ≡ None
none_of None h = refl
none_of (Some d) h = absurd (h d refl)

-- it begins nothing, and is taken where an arrow is chosen alone
pub record Arrow (t : Token) : Type 0 where
  pub no_want : (fs : List Frame) → want t fs ≡ None
  pub no_begin : (fs : List Frame) → begin t fs ≡ None
  pub no_text : (c : Class) → piece_of c t.kind t.loc ≡ None
  pub no_close : closes t ≡ false
  pub is_it : is_arrow t.kind ≡ true
  pub joins : (join t ≡ None) ⊎ (join t ≡ Some slot.ArrowOfName)

arrow_texts : (c : Class) (l : Loc) → piece_of c (T.Punctuator P.Arrow) l ≡ None
arrow_texts slot.BoundName l = refl
arrow_texts slot.AnyName l = refl
arrow_texts slot.Key l = refl
arrow_texts slot.FirstText l = refl
arrow_texts slot.LaterText l = refl

pub arrow_of_kind : (t : Token) → t.kind ≡ T.Punctuator P.Arrow → Arrow t
arrow_of_kind t is = of_kind Arrow t (T.Punctuator P.Arrow) is (record { no_want = λ fs. refl; no_begin = λ fs. refl; no_text = λ c. arrow_texts c t.loc; no_close = refl; is_it = refl; joins = by_line t.line_terminator_before })
  where
    by_line : (x : Bool) → ((if x then None else Some slot.ArrowOfName) ≡ None) ⊎ ((if x then None else Some slot.ArrowOfName) ≡ Some slot.ArrowOfName)
    by_line true = inl refl
    by_line false = inr refl

no_other : {A : Type 0} (t : Token) (k : Kind) → Arrow t → is_arrow k ≡ false → is_kind k t.kind ≡ true → A
no_other t k a none h = absurd (true≢false (sym a.is_it ∙ ap is_arrow (kind_is k t.kind h) ∙ none))

off : (x : Bool) → not x ≡ true → x ≡ false
off false h = refl
off true h = absurd (true≢false (sym h))

-- ---- slots that it passes

take_arrow : {A : Type 0} (t : Token) → Arrow t → (f : Form) (w : Loc) (s : Slot) (ss : List Slot) (ps : List Piece) (fs : List Frame) (d : Config) → arrowless (s ∷ []) ≡ true → take f w s ss ps fs t ≡ Some d → A
take_arrow t a f w (Sign k) ss ps fs d n h = by_bool (is_kind k t.kind) _ _ d (λ c q. no_other t k a (off (is_arrow k) n) c) (λ c q. nowhere q) h
take_arrow t a f w (Text c) ss ps fs d n h = leads_nowhere (ap (λ o. texted o (λ p. enter f w ss (ps ++ p ∷ []) t.loc fs)) (a.no_text c)) h
take_arrow t a f w (Expr_ v) ss ps fs d n h = leads_nowhere (a.no_want (InForm f w (Expr_ v) ss ps ∷ fs)) h
take_arrow t a f w Stmt_ ss ps fs d n h = leads_nowhere (a.no_begin (InForm f w Stmt_ ss ps ∷ fs)) h
take_arrow t a f w (Items_ p) ss ps fs d n h = by_bool (is_mark p t) _ _ d (λ c q. no_other t (T.Punctuator p) a (off (is_arrow (T.Punctuator p)) n) c) (λ c q. leads_nowhere (a.no_want (InItems f w p ss ps no_expr ∷ fs)) q) h
take_arrow t a f w s ss ps fs d n h = nowhere h

abbrev pub other_first : Choice → Branch → Bool
other_first c (Go qs s rs) = is_arrow_choice c || arrowless (s ∷ [])
other_first c x = true

other_branches : (c : Choice) → each (other_first c) (branches c) ≡ true
other_branches slot.Semicolon = refl
other_branches c = refl

first_other : (c : Choice) (t : Token) (qs : List Piece) (s : Slot) (rs : List Slot) → not (is_arrow_choice c) ≡ true → branch c t ≡ Go qs s rs → arrowless (s ∷ []) ≡ true
first_other c t qs s rs n h = either_of (is_arrow_choice c) (arrowless (s ∷ [])) (subst (λ x. other_first c x ≡ true) h (among c t (other_first c) (other_branches c))) (λ q. absurd (true≢false (sym q ∙ off (is_arrow_choice c) n))) (λ q. q)

pass_arrow : {A : Type 0} (t : Token) → Arrow t → (f : Form) (w : Loc) (ss : List Slot) (ps : List Piece) (l : Loc) (fs : List Frame) (d : Config) (go : Option Piece → Loc → Option Config) → arrowless ss ≡ true →
    ((qs : List Piece) → passing ss t ≡ true → go (build f (through w l) qs) (through w l) ≡ Some d → A) → pass f w ss ps l fs t go ≡ Some d → A
pass_arrow t a f w [] ps l fs d go n rec h = rec ps refl h
pass_arrow t a f w (Place_ ∷ ss) ps l fs d go n rec h = pass_arrow t a f w ss (ps ++ APlace l ∷ []) l fs d go n rec h
pass_arrow t a f w (Stmts_ ∷ ss) ps l fs d go n rec h = by_bool (closes t) _ _ d (λ c q. absurd (true≢false (sym c ∙ a.no_close))) (λ c q. leads_nowhere (a.no_begin _) q) h
pass_arrow t a f w (By c ∷ ss) ps l fs d go n rec h =
    let x = and_parts (not (is_arrow_choice c)) (arrowless ss) n in
    by_branch (branch c t) _ _ d (λ qs e q. pass_arrow t a f w ss (ps ++ qs) l fs d go x.1 (λ rs p. rec rs (both_true (ap is_pass e) p)) q)
    (λ qs s rs e q. by_bool (leads (place fs) c) _ _ d (λ k g. take_arrow t a f w s (rs ++ ss) (ps ++ qs) fs d (first_other c t qs s rs x.0 e) g) (λ k g. nowhere g) q) h
pass_arrow t a f w (Sign k ∷ ss) ps l fs d go n rec h = take_arrow t a f w (Sign k) ss ps fs d n h
pass_arrow t a f w (Items_ p ∷ ss) ps l fs d go n rec h = take_arrow t a f w (Items_ p) ss ps fs d n h
pass_arrow t a f w (Text c ∷ ss) ps l fs d go n rec h = take_arrow t a f w (Text c) ss ps fs d refl h
pass_arrow t a f w (Expr_ v ∷ ss) ps l fs d go n rec h = take_arrow t a f w (Expr_ v) ss ps fs d refl h
pass_arrow t a f w (Stmt_ ∷ ss) ps l fs d go n rec h = take_arrow t a f w Stmt_ ss ps fs d refl h

-- ---- after a statement

stmt_arrow : {A : Type 0} (t : Token) → Arrow t → (fs : List Frame) (d : Config) → Framed fs → (s : Stmt) (m : Loc) → have fs (Some (AStmt s)) m t ≡ Some d → A
stmt_arrow t a [] d fr s m h = nowhere h
stmt_arrow t a (InForm f w Stmt_ ss ps ∷ fs) d fr s m h =
    by_bool (is_declaration s) _ _ d (λ c q. nowhere q)
    (λ c q. pass_arrow t a f w ss (ps ++ AStmt s ∷ []) m fs d (λ p x. have fs p x t) (and_parts (arrowless ss) (tame ss) fr.0.3).0
    (λ qs p g. stmt_option fs (build f (through w m) qs) (through w m) t d (made_nothing f (through w m) qs (none (makes f) refl)) (λ r k. stmt_arrow t a fs d fr.1 r (through w m) k) g) q) h
  where
    none : (x : Bool) → makes f ≡ x → makes f ≡ false
    none false e = e
    none true e = absurd (true≢false (sym (fr.0.1 e)))
stmt_arrow t a (InStmts f w ss ps xs ∷ fs) d fr s m h = by_bool (closes t) _ _ d (λ c q. absurd (true≢false (sym c ∙ a.no_close))) (λ c q. leads_nowhere (a.no_begin _) q) h
stmt_arrow t a (InFile xs ∷ fs) d fr s m h = by_bool (is_kind End t.kind) _ _ d (λ c q. no_other t End a refl c) (λ c q. leads_nowhere (a.no_begin _) q) h
stmt_arrow t a (f ∷ fs) d fr s m h = nowhere h

-- ---- after an expression that is no name

abbrev pub Under : Option Piece → Type 0
Under (Some (AnExpr i e)) = i ≤ 21
Under o = Unit {0}

-- a literal, or a function
abbrev pub brackets : Form → Bool
brackets slot.ArrayLiteral = true
brackets slot.ObjectLiteral = true
brackets slot.Template = true
brackets slot.FunctionExpression = true
brackets f = false

under_arrow : (l : Loc) (xs : Option tree.Params) (o : Option tree.ConciseBody) → Under (arrow_of l xs o)
under_arrow l (Some xs) (Some x) = omega arith
under_arrow l xs o = tt

under_binary : (o : BinaryOperator) → binary_level o ≤ 21
under_binary b.Exponentiate = omega arith
under_binary o = omega arith

under_member : (i : ℕ) → member_level i ≤ 21
under_member i = by_test (nat_le member i)
  where
    by_test : (x : Bool) → (if x then member else call) ≤ 21
    by_test true = omega arith
    by_test false = omega arith

under_made : (f : Form) (l : Loc) (ps : List Piece) → makes f ≡ true → brackets f ≡ false → Under (build f l ps)
under_made slot.Parentheses l (TheExprs false (more_expr e es) ∷ Missing ∷ []) is n = omega arith
under_made slot.Parentheses l (TheExprs x xs ∷ p ∷ ps) is n = under_arrow l (params_of xs) (concise (p ∷ ps))
under_made slot.Parentheses l ps is n = tt
under_made slot.New l (AnExpr i c ∷ TheExprs x xs ∷ []) is n = omega arith
under_made slot.New l (AnExpr i c ∷ Missing ∷ []) is n = omega arith
under_made slot.New l ps is n = tt
under_made slot.Call l (AnExpr i f ∷ TheExprs x xs ∷ []) is n = omega arith
under_made slot.Call l ps is n = tt
under_made slot.Dot l (AnExpr i o ∷ AWord w m ∷ []) is n = under_member i
under_made slot.Dot l ps is n = tt
under_made slot.Member l (AnExpr i o ∷ AnExpr j k ∷ []) is n = under_member i
under_made slot.Member l ps is n = tt
under_made (slot.Postfix o) l (AnExpr i e ∷ []) is n = elim (is_target e) as (λ t. Under (if t then Some (AnExpr 17 (tree.PostfixUpdate (Some l) o e)) else None)) [ true ↦ (omega arith) | false ↦ tt ]
under_made (slot.Postfix o) l ps is n = tt
under_made (slot.PrefixUpdate o) l (AnExpr i e ∷ []) is n = elim (is_target e) as (λ t. Under (if t then Some (AnExpr 17 (tree.PrefixUpdate (Some l) o e)) else None)) [ true ↦ (omega arith) | false ↦ tt ]
under_made (slot.PrefixUpdate o) l ps is n = tt
under_made (slot.Unary o) l (AnExpr i e ∷ []) is n = omega arith
under_made (slot.Unary o) l ps is n = tt
under_made (slot.Binary o) l (AnExpr i x ∷ AnExpr j y ∷ []) is n = under_binary o
under_made (slot.Binary o) l ps is n = tt
under_made (slot.Logical logic.Coalesce) l (AnExpr i x ∷ AnExpr j y ∷ []) is n = elim (is_and_or x) as (λ t. Under (if t then None else Some (AnExpr 4 (tree.Logical (Some l) logic.Coalesce x y)))) [ true ↦ tt | false ↦ (omega arith) ]
under_made (slot.Logical logic.And) l (AnExpr i x ∷ AnExpr j y ∷ []) is n = omega arith
under_made (slot.Logical logic.Or) l (AnExpr i x ∷ AnExpr j y ∷ []) is n = omega arith
under_made (slot.Logical logic.Coalesce) l ps is n = tt
under_made (slot.Logical o) l ps is n = tt
under_made slot.Conditional l (AnExpr k c ∷ AnExpr i x ∷ AnExpr j y ∷ []) is n = omega arith
under_made slot.Conditional l ps is n = tt
under_made (slot.Assignment o) l (AnExpr i x ∷ AnExpr j v ∷ []) is n = elim (is_target x) as (λ t. Under (if t then Some (AnExpr assignment (tree.Assignment (Some l) o x v)) else None)) [ true ↦ (omega arith) | false ↦ tt ]
under_made (slot.Assignment o) l ps is n = tt
under_made slot.ArrowOfName l (AnExpr i (tree.IdentifierReference m w) ∷ ps) is n = under_arrow l (params_of (more_expr (tree.IdentifierReference m w) no_expr)) (concise ps)
under_made slot.ArrowOfName l ps is n = tt
under_made slot.Comma l (AnExpr i x ∷ AnExpr j y ∷ []) is n = omega arith
under_made slot.Comma l ps is n = tt
under_made slot.ArrayLiteral l ps is n = absurd (true≢false n)
under_made slot.ObjectLiteral l ps is n = absurd (true≢false n)
under_made slot.Template l ps is n = absurd (true≢false n)
under_made slot.FunctionExpression l ps is n = absurd (true≢false n)
under_made f l ps is n = absurd (true≢false (sym is))

loose_open : (f : Form) → tight f ≡ false → brackets f ≡ false
loose_open slot.ArrayLiteral h = absurd (true≢false h)
loose_open slot.ObjectLiteral h = absurd (true≢false h)
loose_open slot.Template h = absurd (true≢false h)
loose_open slot.FunctionExpression h = absurd (true≢false h)
loose_open f h = refl

new_open : (f : Form) → is_new f ≡ true → brackets f ≡ false
new_open slot.New h = refl
new_open f h = absurd (true≢false (sym h))

part_open : (f : Form) (n : Wanted) (ss : List Slot) → after f n ss ≡ true → ends_part ss ≡ true → brackets f ≡ false
part_open f n [] h e = loose_open f (off (tight f) h)
part_open f n (By slot.Arguments ∷ []) h e = new_open f (and_parts (is_callee n) (is_new f) h).1
part_open f n ss h e = absurd (true≢false (sym e))

rest_stays : {A : Type 0} (t : Token) (ss : List Slot) → is_rest ss ≡ true → passing ss t ≡ true → A
rest_stays t (By slot.TemplateRest ∷ ss) k p = absurd (true≢false (sym (and_parts (is_pass (branch slot.TemplateRest t)) (passing ss t) p).0 ∙ template_stays t))
rest_stays t ss k p = absurd (true≢false (sym k))

shift_arrow : {A : Type 0} (t : Token) → Arrow t → (i : ℕ) (e : Expr) (l : Loc) (fs : List Frame) (d : Config) → i ≤ 21 → shift (join t) i e l fs t ≡ Some d → A
shift_arrow t a i e l fs d low h = by_join a.joins
  where
    by_join : {A : Type 0} → (join t ≡ None) ⊎ (join t ≡ Some slot.ArrowOfName) → A
    by_join (inl none) = no_shift t i e l fs d none h
    by_join (inr is) = by_bool (nat_le (wants (Some slot.ArrowOfName)) i && fits (place fs) i e) _ _ d (λ c q. let r = leb-true 22 i (and_parts (nat_le 22 i) (fits (place fs) i e) c).0 in absurd (omega arith)) (λ c q. nowhere q) (sym (ap (λ o. shift o i e l fs t) is) ∙ h)

-- what comes of a production that the token passes the rest of
made_arrow : {A : Type 0} (t : Token) → Arrow t → (f : Form) (qs : List Piece) (m : Loc) (fs : List Frame) (d : Config) → (makes f ≡ true → brackets f ≡ false) → Framed fs → ((i : ℕ) (e : Expr) → i ≤ 21 → have fs (Some (AnExpr i e)) m t ≡ Some d → A) → have fs (build f m qs) m t ≡ Some d → A
made_arrow t a f qs m fs d n fr rec h =
    by_makes f (λ is. piece_option fs (build f m qs) m t d (λ j x made r. rec j x (subst Under made (under_made f m qs is (n is))) r) (λ s made r. stmt_arrow t a fs d fr s m r) h)
    (λ no. stmt_option fs (build f m qs) m t d (made_nothing f m qs no) (λ s r. stmt_arrow t a fs d fr s m r) h)

have_arrow : {A : Type 0} (t : Token) → Arrow t → (fs : List Frame) (d : Config) → Framed fs → (i : ℕ) (e : Expr) (m : Loc) → i ≤ 21 → have fs (Some (AnExpr i e)) m t ≡ Some d → A
have_arrow t a [] d fr i e m low h = nowhere h
have_arrow t a (InForm f w (Expr_ n) ss ps ∷ fs) d fr i e m low h =
    by_bool (continues n e t) _ _ d (λ c g. by_bool (banned t (InForm f w (Expr_ n) ss ps ∷ fs)) _ _ d (λ k y. nowhere y) (λ k y. shift_arrow t a i e m (InForm f w (Expr_ n) ss ps ∷ fs) d low y) g)
    (λ c g. by_bool (fits n i e) _ _ d
    (λ k y. pass_arrow t a f w ss (ps ++ AnExpr i e ∷ []) m fs d (λ p x. have fs p x t) (and_parts (arrowless ss) (tame ss) (and_parts (open_to n ss) (arrowless ss && tame ss) fr.0.3).1).0
    (λ qs p z. made_arrow t a f qs (through w m) fs d (λ is. opened is p) fr.1 (λ j x le r. have_arrow t a fs d fr.1 j x (through w m) le r) z) y)
    (λ k y. nowhere y) g) h
  where
    opened : makes f ≡ true → passing ss t ≡ true → brackets f ≡ false
    opened is p = let x = (and_parts (after f n ss) (well f ss) (fr.0.1 is)).0 in after_part f n ss x (λ k. part_open f n ss x k) (λ k. rest_stays t ss k p) (λ k. absurd (held_stays ss t a.no_close k p))
have_arrow t a (InExpression w ∷ fs) d fr i e m low h =
    by_bool (continues (wanted (InExpression w)) e t) _ _ d (λ c g. by_bool (banned t (InExpression w ∷ fs)) _ _ d (λ k y. nowhere y) (λ k y. shift_arrow t a i e m (InExpression w ∷ fs) d low y) g)
    (λ c g. by_bool (is_mark P.Colon t && (is_name e && nat_le primary i)) _ _ d (λ k y. no_other t (T.Punctuator P.Colon) a refl (and_parts (is_mark P.Colon t) _ k).0)
    (λ k y. pass_arrow t a slot.Expression w (By slot.Semicolon ∷ []) (AnExpr i e ∷ []) m fs d (λ p x. have fs p x t) refl (λ qs p z. made_arrow t a slot.Expression qs (through w m) fs d (λ is. absurd (true≢false (sym is))) fr.1 (λ j x le r. have_arrow t a fs d fr.1 j x (through w m) le r) z) y) g) h
have_arrow t a (InItems f w p ss ps xs ∷ fs) d fr i e m low h =
    by_bool (continues (wanted (InItems f w p ss ps xs)) e t) _ _ d (λ c g. by_bool (banned t (InItems f w p ss ps xs ∷ fs)) _ _ d (λ k y. nowhere y) (λ k y. shift_arrow t a i e m (InItems f w p ss ps xs ∷ fs) d low y) g)
    (λ c g. by_bool (nat_le assignment i) _ _ d
    (λ k y. by_bool (is_mark P.Comma t) _ _ d (λ x z. no_other t (T.Punctuator P.Comma) a refl x) (λ x z. by_bool (is_mark p t) _ _ d (λ u v. no_other t (T.Punctuator p) a (closed p (and_parts (closing p) _ fr.0.0).0) u) (λ u v. nowhere v) z) y)
    (λ k y. nowhere y) g) h
  where
    closed : (p : Punctuator) → closing p ≡ true → is_arrow (T.Punctuator p) ≡ false
    closed P.CloseParenthesis h = refl
    closed P.CloseBracket h = refl
    closed p h = absurd (true≢false (sym h))
have_arrow t a (f ∷ fs) d fr i e m low h =
    by_bool (continues (wanted f) e t) _ _ d (λ c g. by_bool (banned t (f ∷ fs)) _ _ d (λ k y. nowhere y) (λ k y. shift_arrow t a i e m (f ∷ fs) d low y) g) (λ c g. nowhere g) h

-- ---- after the arguments that are read behind a name

-- arguments are due, of a call or of `new`
abbrev pub Called : Config → Type 0
Called (Due g w (Items_ P.CloseParenthesis ∷ ss) ps l gs) = (arrowless ss ≡ true) × Framed gs × ((t : Token) → Arrow t → passing ss t ≡ true → makes g ≡ true → brackets g ≡ false)
Called c = ⊥

called_stops : (d : Config) {x : Bool} {xs : Exprs} {tx : List Token} (closing_ arrow : Token) (ts : List Token) → Called d → SpellsItems x xs tx closing_ → closing_.kind ≡ T.Punctuator P.CloseParenthesis → Arrow arrow → run d (tx ++ closing_ ∷ arrow ∷ ts) ≡ None
called_stops (Due g w (Items_ P.CloseParenthesis ∷ ss) ps l gs) {x = x} {xs = xs} {tx = tx} closing_ arrow ts c dxs is a =
    ap (λ u. run (Due g w (Items_ P.CloseParenthesis ∷ ss) ps l gs) u) (split tx closing_ (arrow ∷ ts)) ∙ complete_items dxs no_expr g w P.CloseParenthesis ss ps gs (arrow ∷ ts) refl is
    ∙ ap (λ o. then_run o (λ d. run d ts)) (none_of (turn (Due g w ss (ps ++ TheExprs x (append_exprs no_expr xs) ∷ []) closing_.loc gs) arrow) (λ d h. pass_arrow arrow a g w ss (ps ++ TheExprs x (append_exprs no_expr xs) ∷ []) closing_.loc gs d (λ p m. have gs p m arrow) c.0
    (λ qs p z. made_arrow arrow a g qs (through w closing_.loc) gs d (λ made. c.2 arrow a p made) c.1 (λ j y le r. have_arrow arrow a gs d c.1 j y (through w closing_.loc) le r) z) h))
called_stops d closing_ arrow ts c dxs is a = absurd c

-- `=>` after one that is whole
pub no_arrow_after : {A : Type 0} (g : Form) (t : Token) → Arrow t → brackets g ≡ false → (w : Loc) (ps : List Piece) (l : Loc) (gs : List Frame) (d : Config) → Framed gs → turn (Due g w [] ps l gs) t ≡ Some d → A
no_arrow_after g t a n w ps l gs d fr h =
    pass_arrow t a g w [] ps l gs d (λ p m. have gs p m t) refl (λ qs p z. made_arrow t a g qs (through w l) gs d (λ is. n) fr (λ j x le r. have_arrow t a gs d fr j x (through w l) le r) z) h

-- a name, and `(` after it
abbrev pub named_async : Loc → Expr
named_async l = tree.IdentifierReference (Some l) (codes "async")

opens_call : (s : Token) (e : Loc) (f : Frame) (fs : List Frame) (d : Config) → Framed (f ∷ fs) → have (f ∷ fs) (Some (AnExpr primary (named_async e))) e (remade s (T.Punctuator P.OpenParenthesis)) ≡ Some d → Called d
opens_call s e f fs d fr h =
    by_bool (continues (wanted f) (named_async e) (remade s (T.Punctuator P.OpenParenthesis))) _ _ d
    (λ c g. by_bool (banned (remade s (T.Punctuator P.OpenParenthesis)) (f ∷ fs)) _ _ d (λ k y. nowhere y) (λ k y. by_bool (nat_le call primary && fits (place (f ∷ fs)) primary (named_async e)) _ _ d (λ z r. lands Called r (refl, fr, λ t a p is. refl)) (λ z r. nowhere r) y) g)
    (λ c g. by_frame f fs fr c g) h
  where
    by_frame : (f : Frame) (fs : List Frame) → Framed (f ∷ fs) → continues (wanted f) (named_async e) (remade s (T.Punctuator P.OpenParenthesis)) ≡ false →
        leave f primary (named_async e) e fs (remade s (T.Punctuator P.OpenParenthesis)) (λ p m. have fs p m (remade s (T.Punctuator P.OpenParenthesis))) ≡ Some d → Called d
    by_frame (InForm g w (Expr_ (Level n)) ss ps) fs fr c q = absurd (true≢false (sym (both_true (and_parts (open_to (Level n) ss) (arrowless ss && tame ss) fr.0.3).0 refl) ∙ c))
    by_frame (InForm g w (Expr_ (WithoutIn n)) ss ps) fs fr c q = absurd (true≢false (sym (both_true (and_parts (open_to (WithoutIn n) ss) (arrowless ss && tame ss) fr.0.3).0 refl) ∙ c))
    by_frame (InForm g w (Expr_ Callee) (By slot.Arguments ∷ ss) ps) fs fr c q =
        let x = and_parts (arrowless (By slot.Arguments ∷ ss)) (tame (By slot.Arguments ∷ ss)) (and_parts (open_to Callee (By slot.Arguments ∷ ss)) (arrowless (By slot.Arguments ∷ ss) && tame (By slot.Arguments ∷ ss)) fr.0.3).1 in
        lands Called q (x.0, fr.1, λ t a p is. opened ss t a p is (fr.0.1 is))
      where
        opened : (ss : List Slot) (t : Token) → Arrow t → passing ss t ≡ true → makes g ≡ true → (after g Callee (By slot.Arguments ∷ ss) && well g (By slot.Arguments ∷ ss)) ≡ true → brackets g ≡ false
        opened [] t a p is ok = new_open g (and_parts (is_new g) _ ok).0
        opened (r ∷ ss) t a p is ok = absurd (held_stays (r ∷ ss) t a.no_close (and_parts (held (r ∷ ss)) _ ok).0 p)
    by_frame (InForm g w (Expr_ Callee) ss ps) fs fr c q = absurd (true≢false (sym (and_parts false (arrowless ss && tame ss) fr.0.3).0))
    by_frame (InForm g w r ss ps) fs fr c q = nowhere q
    by_frame (InExpression w) fs fr c q = absurd (true≢false c)
    by_frame (InItems g w p ss ps xs) fs fr c q = absurd (true≢false c)
    by_frame f fs fr c q = nowhere q

async_wanted : (t : Token) (fs : List Frame) → want (remade t (Word (codes "async"))) fs ≡ Some (Have (AnExpr primary (named_async t.loc)) t.loc fs)
unfolding is_keyword reserved_word
async_wanted t fs = refl

-- where a name stood, no arguments and `=>` follow
pub arguments_stop : (t opening closing_ arrow : Token) (c : Config) (f : Frame) (fs : List Frame) {x : Bool} {xs : Exprs} {tx : List Token} (ts : List Token) → FineAt c → turn c t ≡ want t (f ∷ fs) → t.kind ≡ Word (codes "async") → opening.kind ≡ T.Punctuator P.OpenParenthesis →
    SpellsItems x xs tx closing_ → closing_.kind ≡ T.Punctuator P.CloseParenthesis → arrow.kind ≡ T.Punctuator P.Arrow → run c (t ∷ opening ∷ (tx ++ closing_ ∷ arrow ∷ ts)) ≡ None
arguments_stop t opening closing_ arrow c f fs {tx = tx} ts fine begins is is_opening dxs is_closing is_arrow =
    ap (λ o. then_run o (λ d. run d (opening ∷ (tx ++ closing_ ∷ arrow ∷ ts)))) there ∙ then_stops (have (f ∷ fs) (Some (AnExpr primary (named_async t.loc))) t.loc opening) (λ d h. called_stops d closing_ arrow ts (called d h) dxs is_closing (arrow_of_kind arrow is_arrow))
  where
    there : turn c t ≡ Some (Have (AnExpr primary (named_async t.loc)) t.loc (f ∷ fs))
    there = begins ∙ of_kind (λ s. want s (f ∷ fs) ≡ Some (Have (AnExpr primary (named_async s.loc)) s.loc (f ∷ fs))) t (Word (codes "async")) is (async_wanted t (f ∷ fs))

    framed : Framed (f ∷ fs)
    framed = (run_fine (t ∷ []) c (Have (AnExpr primary (named_async t.loc)) t.loc (f ∷ fs)) fine (ap (λ o. then_run o (λ d. run d [])) there)).1

    called : (d : Config) → have (f ∷ fs) (Some (AnExpr primary (named_async t.loc))) t.loc opening ≡ Some d → Called d
    called = of_kind (λ s. (d : Config) → have (f ∷ fs) (Some (AnExpr primary (named_async t.loc))) t.loc s ≡ Some d → Called d) opening (T.Punctuator P.OpenParenthesis) is_opening (λ d h. opens_call opening t.loc f fs d framed h)

    then_stops : (o : Option Config) → ((d : Config) → o ≡ Some d → run d (tx ++ closing_ ∷ arrow ∷ ts) ≡ None) → then_run o (λ d. run d (tx ++ closing_ ∷ arrow ∷ ts)) ≡ None
    then_stops None g = refl
    then_stops (Some d) g = g d refl
