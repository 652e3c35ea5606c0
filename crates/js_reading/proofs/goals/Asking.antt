-- The goal of each place: a token that is read there is one for the goal with which it is asked for.
use Rattle.std.proofs.Common.{◌≡◌, ℕ, Bool, true, false, not, List, [], ◌∷◌, ◌++◌, Option, Some, None, codes, if◌then◌else◌, refl, sym, ap, subst, ◌∙◌}
use Rattle.std.specs.Prelude.{nat_le, ◌||◌}
use Rattle.std.proofs.lemmas.Bool.{true≢false, and_parts}
use Rattle.js_terms.specs.declared.place.Loc.{Loc}
use Rattle.js_tree.specs.Plain.{Expr, Stmt}
use Rattle.js_text.specs.Token.{Token, Kind, End}
use Rattle.js_text.specs.Token as T
use Rattle.js_text.specs.declared.punctuator.Punctuator.TheVariants as P
use Rattle.js_reading.specs.Level.{any}
use Rattle.js_reading.specs.Spans.{through}
use Rattle.js_reading.specs.Kinds.{is_kind}
use Rattle.js_reading.specs.Slots.{Wanted, Level, WithoutIn, Callee, Slot, Sign, Text, Expr_, Stmt_, Stmts_, Items_, Place_, By, Piece, AnExpr, AStmt, TheExprs, APlace, Missing, Branch, Refuse, Pass, Go, Form, Choice, Class, BoundName, AnyName, Key, FirstText, LaterText}
use Rattle.js_reading.specs.Slots as slot
use Rattle.js_reading.specs.Productions.{bare, is_mark, is_word, piece_of, bound_name, word_piece, prefix, statement, join, wants}
use Rattle.js_reading.specs.Choices.{branch, either, is_middle}
use Rattle.js_reading.specs.Makes.{build}
use Rattle.js_reading.specs.Sentences.{leaf_of, fits, continues, closes}
use Rattle.js_reading.specs.Turns.{leads, place, texted, enter, Frame, InForm, InExpression, InStmts, InFile, InItems, Config, begin_leaf, want_by, want, begin_by, begin, take, pass, choose, wanted, banned, shift, have, template_due}
use Rattle.js_reading.proofs.sentences.Branches.{branches, each, among}
use Rattle.js_reading.proofs.sentences.KindsLemmas.{kind_is}
use Rattle.js_reading.proofs.sentences.Runs.{nowhere, by_bool, by_branch}
use Rattle.js_reading.proofs.levels.OnlyStatements.{NoExpr, no_expr_made}
use Rattle.js_reading.proofs.sentences.Rows.{either_of, inner_kind, sign_inner, is_rest, makes, firm, held, after, well}
use Rattle.js_reading.proofs.sentences.Ways.{Framed, may, Ways, passing, is_pass, leave_way, left_way}

-- ---- a token that begins nothing and stands within no production

pub record Stray (t : Token) : Type 0 where
  pub no_prefix : prefix t ≡ None
  pub no_leaf : leaf_of t.kind t.loc ≡ None
  pub no_statement : statement t ≡ None
  pub no_inner : inner_kind t.kind ≡ false
  pub no_name : bound_name t.kind ≡ None
  pub no_first : piece_of FirstText t.kind t.loc ≡ None

pub stray_want : (t : Token) → Stray t → (fs : List Frame) → want t fs ≡ None
stray_want t s fs = ap (λ o. want_by o t fs) s.no_prefix ∙ ap (begin_leaf t fs) s.no_leaf

pub stray_begin : (t : Token) → Stray t → (fs : List Frame) → begin t fs ≡ None
stray_begin t s fs = ap (λ o. begin_by o t fs) s.no_statement ∙ stray_want t s (InExpression t.loc ∷ fs)

pub leads_nowhere : {A : Type 0} {o : Option Config} {d : Config} → o ≡ None → o ≡ Some d → A
leads_nowhere none h = nowhere (sym none ∙ h)

pub no_sign : {A : Type 0} (t : Token) (k : Kind) → inner_kind t.kind ≡ false → inner_kind k ≡ true → is_kind k t.kind ≡ true → A
no_sign t k none is h = absurd (true≢false (sym is ∙ ap inner_kind (sym (kind_is k t.kind h)) ∙ none))

-- where no name may stand, or where it is none
pub stray_ways : {Q : Config → Type 0} (t : Token) (b : Bool) → Stray t → (b ≡ true → (piece_of AnyName t.kind t.loc ≡ None) × (piece_of Key t.kind t.loc ≡ None)) → Ways t b Q
stray_ways {Q = Q} t b s none = record {
  by_want = λ fs d fr h. leads_nowhere (stray_want t s fs) h;
  by_begin = λ fs d fr h. leads_nowhere (stray_begin t s fs) h;
  by_sign = λ k f w ss ps fs is c fine fr. no_sign t k s.no_inner (sign_inner k is) c;
  by_text = λ c p f w ss ps fs e m x fine fr. no_text c p ss e m;
  by_comma = λ fs c fr. no_sign t (T.Punctuator P.Comma) s.no_inner refl c;
  by_end = λ ss c. no_sign t End s.no_inner refl c;
}
  where
    clash : {A : Type 0} {o : Option Piece} {p : Piece} → o ≡ None → o ≡ Some p → A
    clash {p = p} none h = let q : None ≡ Some p = sym none ∙ h in absurd cc

    no_text : {A : Type 0} (c : Class) (p : Piece) (ss : List Slot) → piece_of c t.kind t.loc ≡ Some p → may (Text c ∷ ss) b ≡ true → A
    no_text BoundName p ss e m = clash (ap (word_piece t.loc) s.no_name) e
    no_text AnyName p ss e m = clash (none m).0 e
    no_text Key p ss e m = clash (none m).1 e
    no_text FirstText p ss e m = clash s.no_first e
    no_text LaterText p ss e m = absurd (true≢false (sym m))

pub stray_closes : (t : Token) → Stray t → closes t ≡ false
stray_closes t s = by_bool_ (closes t) refl
  where
    by_bool_ : (b : Bool) → closes t ≡ b → closes t ≡ false
    by_bool_ false q = q
    by_bool_ true q = four (is_mark P.CloseBrace t) (is_kind End t.kind) (is_word (codes "case") t) (is_word (codes "default") t) q
        (λ h. no_sign t (T.Punctuator P.CloseBrace) s.no_inner refl h) (λ h. no_sign t End s.no_inner refl h) (λ h. no_sign t (T.Word (codes "case")) s.no_inner refl h) (λ h. no_sign t (T.Word (codes "default")) s.no_inner refl h)
      where
        four : {A : Type 0} (a b c d : Bool) → (a || b || c || d) ≡ true → (a ≡ true → A) → (b ≡ true → A) → (c ≡ true → A) → (d ≡ true → A) → A
        four true b c d h f g i j = f refl
        four false true c d h f g i j = g refl
        four false false true d h f g i j = i refl
        four false false false true h f g i j = j refl
        four false false false false h f g i j = absurd (true≢false (sym h))

-- ---- slots that hold the token

firm_stays : (c : Choice) → each (λ b. not (firm c) || not (is_pass b)) (branches c) ≡ true
firm_stays slot.Semicolon = refl
firm_stays c = refl

firm_passes : (c : Choice) (t : Token) → firm c ≡ true → is_pass (branch c t) ≡ false
firm_passes c t h = by_sides (firm c) (is_pass (branch c t)) h (among c t (λ b. not (firm c) || not (is_pass b)) (firm_stays c))
  where
    by_sides : (x y : Bool) → x ≡ true → (not x || not y) ≡ true → y ≡ false
    by_sides true true h q = absurd (true≢false (sym q))
    by_sides x false h q = refl
    by_sides false true h q = absurd (true≢false (sym h))

pub template_stays : (t : Token) → is_pass (branch slot.TemplateRest t) ≡ false
template_stays t = by_middle (is_middle t.kind)
  where
    by_middle : (b : Bool) → is_pass (either b (Go [] (Text LaterText) (Expr_ (Level any) ∷ By slot.TemplateRest ∷ [])) (Go [] (Text LaterText) [])) ≡ false
    by_middle true = refl
    by_middle false = refl

pub held_stays : (ss : List Slot) (t : Token) → closes t ≡ false → held ss ≡ true → passing ss t ≡ true → ⊥
held_stays [] t c h p = true≢false (sym h)
held_stays (Place_ ∷ ss) t c h p = held_stays ss t c h p
held_stays (Stmts_ ∷ ss) t c h p = true≢false (sym (and_parts (closes t) (passing ss t) p).0 ∙ c)
held_stays (By k ∷ ss) t c h p =
    let q = and_parts (is_pass (branch k t)) (passing ss t) p in either_of (firm k) (held ss) h (λ e. true≢false (sym q.0 ∙ firm_passes k t e)) (λ e. held_stays ss t c e q.1)
held_stays (Sign k ∷ ss) t c h p = true≢false (sym p)
held_stays (Text k ∷ ss) t c h p = true≢false (sym p)
held_stays (Expr_ w ∷ ss) t c h p = true≢false (sym p)
held_stays (Stmt_ ∷ ss) t c h p = true≢false (sym p)
held_stays (Items_ k ∷ ss) t c h p = true≢false (sym p)

-- what stands after a part, where a token passes it
abbrev pub ends_part : List Slot → Bool
ends_part [] = true
ends_part (By slot.Arguments ∷ []) = true
ends_part ss = false

pub after_part : {A : Type 0} (f : Form) (w : Wanted) (ss : List Slot) → after f w ss ≡ true → (ends_part ss ≡ true → A) → (is_rest ss ≡ true → A) → (held ss ≡ true → A) → A
after_part f w [] h x y z = x refl
after_part f w (By slot.TemplateRest ∷ []) h x y z = y refl
after_part f w (By slot.TemplateRest ∷ s ∷ ss) h x y z = y refl
after_part f w (By slot.Arguments ∷ []) h x y z = x refl
after_part f w ss h x y z = z h

-- ---- a statement that stands there

-- an expression, or a statement, is there
pub piece_option : {A : Type 0} (fs : List Frame) (o : Option Piece) (m : Loc) (t : Token) (d : Config) → ((i : ℕ) (e : Expr) → o ≡ Some (AnExpr i e) → have fs (Some (AnExpr i e)) m t ≡ Some d → A) →
    ((s : Stmt) → o ≡ Some (AStmt s) → have fs (Some (AStmt s)) m t ≡ Some d → A) → have fs o m t ≡ Some d → A
piece_option [] o m t d x y h = nowhere h
piece_option (f ∷ fs) (Some (AnExpr i e)) m t d x y h = x i e refl h
piece_option (f ∷ fs) (Some (AStmt s)) m t d x y h = y s refl h
piece_option (f ∷ fs) o m t d x y h = nowhere h

pub stmt_option : {A : Type 0} (fs : List Frame) (o : Option Piece) (m : Loc) (t : Token) (d : Config) → NoExpr o → ((s : Stmt) → have fs (Some (AStmt s)) m t ≡ Some d → A) → have fs o m t ≡ Some d → A
stmt_option fs o m t d none go h = piece_option fs o m t d (λ i e is q. absurd (subst NoExpr is none)) (λ s is q. go s q) h

pub made_nothing : (f : Form) (l : Loc) (qs : List Piece) → makes f ≡ false → NoExpr (build f l qs)
made_nothing f l qs h = no_expr_made f l qs h

pub by_makes : {A : Type 0} (f : Form) → (makes f ≡ true → A) → (makes f ≡ false → A) → A
by_makes {A = A} f x y = by_test (makes f) refl
  where
    by_test : (b : Bool) → makes f ≡ b → A
    by_test true q = x q
    by_test false q = y q

-- a token that begins nothing leads nowhere after a statement
pub stmt_way : {t : Token} {b : Bool} (Q : Config → Type 0) (y : Ways t b Q) → closes t ≡ false → (fs : List Frame) (d : Config) → Framed fs → (s : Stmt) (m : Loc) → have fs (Some (AStmt s)) m t ≡ Some d → Q d
stmt_way Q y c [] d fr s m h = nowhere h
stmt_way {t = t} Q y c (InForm f w Stmt_ ss ps ∷ fs) d fr s m h =
    left_way y (InForm f w Stmt_ ss ps) s m fs d fr (λ qs l p q. stmt_option fs (build f l qs) l t d (made_nothing f l qs (none (makes f) refl)) (λ r g. stmt_way Q y c fs d fr.1 r l g) q) h
  where
    none : (b : Bool) → makes f ≡ b → makes f ≡ false
    none false e = e
    none true e = absurd (true≢false (sym (fr.0.1 e)))
stmt_way {t = t} Q y c (InStmts f w ss ps xs ∷ fs) d fr s m h = left_way y (InStmts f w ss ps xs) s m fs d fr (λ qs l p q. absurd (true≢false (sym (and_parts (closes t) (passing ss t) p).0 ∙ c))) h
stmt_way {t = t} Q y c (InFile xs ∷ fs) d fr s m h = left_way y (InFile xs) s m fs d fr (λ qs l p q. stmt_option fs (build slot.Expression l qs) l t d (made_nothing slot.Expression l qs refl) (λ r g. stmt_way Q y c fs d fr.1 r l g) q) h
stmt_way Q y c (f ∷ fs) d fr s m h = nowhere h

pub no_shift : {A : Type 0} (t : Token) (i : ℕ) (e : Expr) (l : Loc) (fs : List Frame) (d : Config) → join t ≡ None → shift (join t) i e l fs t ≡ Some d → A
no_shift t i e l fs d none h = leads_nowhere (ap (λ o. shift o i e l fs t) none) h

-- ---- what continues a template stands where an expression of it ends

part_due : (f : Form) (w : Loc) (n : Wanted) (ss : List Slot) (ps : List Piece) (fs : List Frame) → ends_part ss ≡ true → template_due (InForm f w (Expr_ n) ss ps ∷ fs) ≡ template_due fs
part_due f w n [] ps fs h = refl
part_due f w n (By slot.Arguments ∷ []) ps fs h = refl
part_due f w n ss ps fs h = absurd (true≢false (sym h))

rest_due : (f : Form) (w : Loc) (n : Wanted) (ss : List Slot) (ps : List Piece) (fs : List Frame) → is_rest ss ≡ true → template_due (InForm f w (Expr_ n) ss ps ∷ fs) ≡ true
rest_due f w n (By slot.TemplateRest ∷ ss) ps fs h = refl
rest_due f w n ss ps fs h = absurd (true≢false (sym h))

pub later_due : (t : Token) → Stray t → (b : Bool) → (b ≡ true → (piece_of AnyName t.kind t.loc ≡ None) × (piece_of Key t.kind t.loc ≡ None)) → join t ≡ None → (fs : List Frame) (d : Config) → Framed fs → (i : ℕ) (e : Expr) (m : Loc) → have fs (Some (AnExpr i e)) m t ≡ Some d → template_due fs ≡ true
later_due t st b nn none [] d fr i e m h = nowhere h
later_due t st b nn none (InForm f w (Expr_ n) ss ps ∷ fs) d fr i e m h =
    by_bool (continues n e t) _ _ d
    (λ c q. by_bool (banned t (InForm f w (Expr_ n) ss ps ∷ fs)) _ _ d (λ k g. nowhere g) (λ k g. no_shift t i e m (InForm f w (Expr_ n) ss ps ∷ fs) d none g) q)
    (λ c q. leave_way {Q = λ x. template_due (InForm f w (Expr_ n) ss ps ∷ fs) ≡ true} (stray_ways t b st nn) (InForm f w (Expr_ n) ss ps) i e m fs d fr
    (λ qs l p g. by_makes f
    (λ is. after_part f n ss (and_parts (after f n ss) (well f ss) (fr.0.1 is)).0 (λ k. part_due f w n ss ps fs k ∙ piece_option fs (build f l qs) l t d (λ j x is r. later_due t st b nn none fs d fr.1 j x l r) (λ s is r. stmt_way (λ x. template_due fs ≡ true) (stray_ways t b st nn) (stray_closes t st) fs d fr.1 s l r) g) (λ k. rest_due f w n ss ps fs k) (λ k. absurd (held_stays ss t (stray_closes t st) k p)))
    (λ not. stmt_option fs (build f l qs) l t d (made_nothing f l qs not) (λ r j. stmt_way (λ x. template_due (InForm f w (Expr_ n) ss ps ∷ fs) ≡ true) (stray_ways t b st nn) (stray_closes t st) fs d fr.1 r l j) g))
    (λ k. rest_due f w n ss ps fs k) q) h
later_due t st b nn none (InExpression w ∷ fs) d fr i e m h =
    by_bool (continues (Level any) e t) _ _ d
    (λ c q. by_bool (banned t (InExpression w ∷ fs)) _ _ d (λ k g. nowhere g) (λ k g. no_shift t i e m (InExpression w ∷ fs) d none g) q)
    (λ c q. leave_way {Q = λ x. false ≡ true} (stray_ways t b st nn) (InExpression w) i e m fs d fr
    (λ qs l p g. stmt_option fs (build slot.Expression l qs) l t d (made_nothing slot.Expression l qs refl) (λ r j. stmt_way (λ x. false ≡ true) (stray_ways t b st nn) (stray_closes t st) fs d fr.1 r l j) g)
    (λ k. k) q) h
later_due t st b nn none (InItems f w p ss ps xs ∷ fs) d fr i e m h =
    by_bool (continues (wanted (InItems f w p ss ps xs)) e t) _ _ d
    (λ c q. by_bool (banned t (InItems f w p ss ps xs ∷ fs)) _ _ d (λ k g. nowhere g) (λ k g. no_shift t i e m (InItems f w p ss ps xs ∷ fs) d none g) q)
    (λ c q. leave_way {Q = λ x. false ≡ true} (stray_ways t b st nn) (InItems f w p ss ps xs) i e m fs d fr (λ qs l p g. p) (λ k. k) q) h
later_due t st b nn none (f ∷ fs) d fr i e m h =
    by_bool (continues (wanted f) e t) _ _ d
    (λ c q. by_bool (banned t (f ∷ fs)) _ _ d (λ k g. nowhere g) (λ k g. no_shift t i e m (f ∷ fs) d none g) q)
    (λ c q. nowhere q) h

-- ---- where an expression of a template ends, a token that goes on with none and continues no template leads nowhere

pub stmt_refused : {A : Type 0} (t : Token) (fs : List Frame) (d : Config) → template_due fs ≡ true → (s : Stmt) (m : Loc) → have fs (Some (AStmt s)) m t ≡ Some d → A
stmt_refused t [] d due s m h = nowhere h
stmt_refused t (InForm f w (Expr_ n) ss ps ∷ fs) d due s m h = nowhere h
stmt_refused t (f ∷ fs) d due s m h = absurd (true≢false (sym due))

pub no_arguments : {A : Type 0} (t : Token) (qs : List Piece) (s : Slot) (rs : List Slot) → is_mark P.OpenParenthesis t ≡ false → branch slot.Arguments t ≡ Go qs s rs → A
no_arguments t qs s rs none h = by_either (nat_le (wants (join t)) bare)
    (ap (λ b. either b (Go [] (Sign (T.Punctuator P.OpenParenthesis)) (Items_ P.CloseParenthesis ∷ [])) (either (nat_le (wants (join t)) bare) (Pass (Missing ∷ [])) Refuse)) (sym none) ∙ h)
  where
    by_either : {A : Type 0} (b : Bool) → either b (Pass (Missing ∷ [])) Refuse ≡ Go qs s rs → A
    by_either true q = absurd cc
    by_either false q = absurd cc

pub template_refused : (t : Token) → join t ≡ None → is_mark P.OpenParenthesis t ≡ false → piece_of LaterText t.kind t.loc ≡ None → (fs : List Frame) (d : Config) → template_due fs ≡ true → (i : ℕ) (e : Expr) (m : Loc) → have fs (Some (AnExpr i e)) m t ≡ Some d → ⊥
template_refused t none closed later [] d due i e m h = nowhere h
template_refused t none closed later (InForm f w (Expr_ n) [] ps ∷ fs) d due i e m h =
    by_bool (continues n e t) _ _ d
    (λ c q. by_bool (banned t (InForm f w (Expr_ n) [] ps ∷ fs)) _ _ d (λ k g. nowhere g) (λ k g. no_shift t i e m (InForm f w (Expr_ n) [] ps ∷ fs) d none g) q)
    (λ c q. by_bool (fits n i e) _ _ d
    (λ k g. piece_option fs (build f (through w m) (ps ++ AnExpr i e ∷ [])) (through w m) t d (λ j x is r. template_refused t none closed later fs d due j x (through w m) r) (λ s is r. stmt_refused t fs d due s (through w m) r) g)
    (λ k g. nowhere g) q) h
template_refused t none closed later (InForm f w (Expr_ n) (By slot.Arguments ∷ []) ps ∷ fs) d due i e m h =
    by_bool (continues n e t) _ _ d
    (λ c q. by_bool (banned t (InForm f w (Expr_ n) (By slot.Arguments ∷ []) ps ∷ fs)) _ _ d (λ k g. nowhere g) (λ k g. no_shift t i e m (InForm f w (Expr_ n) (By slot.Arguments ∷ []) ps ∷ fs) d none g) q)
    (λ c q. by_bool (fits n i e) _ _ d
    (λ k g. by_branch (branch slot.Arguments t) _ _ d
    (λ qs x y. piece_option fs (build f (through w m) ((ps ++ AnExpr i e ∷ []) ++ qs)) (through w m) t d (λ j x is r. template_refused t none closed later fs d due j x (through w m) r) (λ s is r. stmt_refused t fs d due s (through w m) r) y)
    (λ qs s rs x y. no_arguments t qs s rs closed x) g)
    (λ k g. nowhere g) q) h
template_refused t none closed later (InForm f w (Expr_ n) (By slot.TemplateRest ∷ ss) ps ∷ fs) d due i e m h =
    by_bool (continues n e t) _ _ d
    (λ c q. by_bool (banned t (InForm f w (Expr_ n) (By slot.TemplateRest ∷ ss) ps ∷ fs)) _ _ d (λ k g. nowhere g) (λ k g. no_shift t i e m (InForm f w (Expr_ n) (By slot.TemplateRest ∷ ss) ps ∷ fs) d none g) q)
    (λ c q. by_bool (fits n i e) _ _ d (λ k g. rest_refused g) (λ k g. nowhere g) q) h
  where
    rest_refused : pass f w (By slot.TemplateRest ∷ ss) (ps ++ AnExpr i e ∷ []) m fs t (λ p m. have fs p m t) ≡ Some d → ⊥
    rest_refused g = by_middle (is_middle t.kind) g
      where
        by_middle : (b : Bool) → choose (either b (Go [] (Text LaterText) (Expr_ (Level any) ∷ By slot.TemplateRest ∷ [])) (Go [] (Text LaterText) [])) (λ qs. pass f w ss ((ps ++ AnExpr i e ∷ []) ++ qs) m fs t (λ p m. have fs p m t))
            (λ qs s rs. if leads (place fs) slot.TemplateRest then take f w s (rs ++ ss) ((ps ++ AnExpr i e ∷ []) ++ qs) fs t else None) ≡ Some d → ⊥
        by_middle true k = leads_nowhere (ap (λ o. texted o (λ p. enter f w ((Expr_ (Level any) ∷ By slot.TemplateRest ∷ []) ++ ss) (((ps ++ AnExpr i e ∷ []) ++ []) ++ p ∷ []) t.loc fs)) later) k
        by_middle false k = leads_nowhere (ap (λ o. texted o (λ p. enter f w ss (((ps ++ AnExpr i e ∷ []) ++ []) ++ p ∷ []) t.loc fs)) later) k
template_refused t none closed later (f ∷ fs) d due i e m h = true≢false (sym due)
