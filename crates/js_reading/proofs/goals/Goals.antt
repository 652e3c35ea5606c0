-- The goal of each place: a token that is read there is one for the goal with which it is asked for.
use Rattle.std.proofs.Common.{◌≡◌, ℕ, ◌≤◌, Bool, true, false, not, ◌&&◌, List, [], ◌∷◌, ◌++◌, Option, Some, None, if◌then◌else◌, refl, sym, ap, subst, ◌∙◌, arith}
use Rattle.std.specs.Prelude.{nat_le, ◌||◌, ◌==◌}
use Rattle.std.proofs.lemmas.Bool.{true≢false, and_parts, le-leb, leb-true, eqb-true}
use Rattle.js_terms.specs.declared.place.Loc.{Loc}
use Rattle.js_tree.specs.Plain.{Expr}
use Rattle.js_text.specs.Token.{Token, Kind}
use Rattle.js_text.specs.Token as T
use Rattle.js_text.specs.declared.punctuator.Punctuator.TheVariants as P
use Rattle.js_reading.specs.Level.{any}
use Rattle.js_reading.specs.Spans.{through}
use Rattle.js_text.specs.declared.goal.Goal.{Goal}
use Rattle.js_text.specs.declared.goal.Goal.TheVariants as goal
use Rattle.js_reading.specs.Slots.{Wanted, Level, WithoutIn, Callee, Slot, Sign, Expr_, Items_, Place_, By, Piece, AnExpr, AStmt, APlace, Missing, Branch, Pass, Go, Form, LaterText, AnyName, Key}
use Rattle.js_reading.specs.Slots as slot
use Rattle.js_reading.specs.Productions.{member, bare, is_mark, piece_of, join}
use Rattle.js_reading.specs.Choices.{branch, either}
use Rattle.js_reading.specs.Makes.{build, last_level}
use Rattle.js_reading.specs.Sentences.{grip, fits, bans, continues}
use Rattle.js_reading.specs.Turns.{leads, place, Frame, InForm, InExpression, InItems, Config, Due, Have, Item, Start, Finished, take, choose, wanted, banned, have, turn, run, template_due, makes_expression, is_over, is_braced_arrow, after_expression, after_arrow, goal_of_place, divides, is_regular, is_later, is_for, braced, asked}
use Rattle.js_reading.proofs.sentences.Firsts.{remade}
use Rattle.js_reading.proofs.sentences.Runs.{nowhere, by_bool, by_branch}
use Rattle.js_reading.proofs.sentences.Rows.{either_of, nameless, is_rest, is_callee, is_new, makes, tight, arrows, is_parentheses, held, over, after, well}
use Rattle.js_reading.proofs.sentences.Ways.{Framed, FineAt, is_pass, passing, leave_way, rest_left, due_way, item_way, start_way, come_to}
use Rattle.js_reading.proofs.levels.Lasting.{Tight, tight_made, last_missing, ends_missing, missing_made, ends_low, LowMade, low_made}
use Rattle.js_reading.proofs.goals.Asking.{Stray, stray_ways, stray_closes, template_stays, held_stays, after_part, stmt_option, piece_option, made_nothing, by_makes, stmt_way, no_shift, no_arguments, later_due, stmt_refused, template_refused}

or_one : (x y : Bool) → x ≡ true → (x || y) ≡ true
or_one x y h = ap (λ b. b || y) h

and_none : (x y : Bool) → y ≡ false → (x && y) ≡ false
and_none true y h = h
and_none false y h = refl

-- ---- a regular expression goes on with no operand

regular_goes : (t : Token) (w : List ℕ) → t.kind ≡ T.RegularExpression w → (v : Wanted) (e : Expr) → 14 ≤ last_level e → continues v e t ≡ true
regular_goes t w is (Level n) e h = subst (λ k. continues (Level n) e (remade t k) ≡ true) (sym is) (or_one (nat_le 14 (last_level e)) _ (le-leb 14 (last_level e) h))
regular_goes t w is (WithoutIn n) e h = subst (λ k. continues (WithoutIn n) e (remade t k) ≡ true) (sym is) (or_one (nat_le 14 (last_level e)) _ (le-leb 14 (last_level e) h))
regular_goes t w is Callee e h = subst (λ k. continues Callee e (remade t k) ≡ true) (sym is) (or_one (nat_le 14 (last_level e)) _ (le-leb 14 (last_level e) h))

regular_join : (t : Token) (w : List ℕ) → t.kind ≡ T.RegularExpression w → join t ≡ None
regular_join t w is = subst (λ k. join (remade t k) ≡ None) (sym is) refl

regular_after : {A : Type 0} (t : Token) (w : List ℕ) → t.kind ≡ T.RegularExpression w → (fs : List Frame) (d : Config) (i : ℕ) (e : Expr) (m : Loc) → 14 ≤ last_level e → have fs (Some (AnExpr i e)) m t ≡ Some d → A
regular_after t w is [] d i e m low h = nowhere h
regular_after t w is (f ∷ fs) d i e m low h =
    by_bool (continues (wanted f) e t) _ _ d
    (λ c q. by_bool (banned t (f ∷ fs)) _ _ d (λ k g. nowhere g) (λ k g. no_shift t i e m (f ∷ fs) d (regular_join t w is) g) q)
    (λ c q. absurd (true≢false (sym (regular_goes t w is (wanted f) e low) ∙ c))) h

-- ---- `/` and `/=` go on with no arrow

low_slash : (t : Token) → t.kind ≡ T.Punctuator P.Slash → (v : Wanted) (e : Expr) → last_level e ≤ 2 → continues v e t ≡ false
low_slash t is v e h =
    subst (λ k. continues v e (remade t k) ≡ false) (sym is)
    (and_none (not (bans v (remade t (T.Punctuator P.Slash)))) (nat_le (grip v) 14 && nat_le 14 (last_level e)) (and_none (nat_le (grip v) 14) (nat_le 14 (last_level e)) (no_more (nat_le 14 (last_level e)) refl)))
  where
    no_more : (b : Bool) → nat_le 14 (last_level e) ≡ b → nat_le 14 (last_level e) ≡ false
    no_more false q = q
    no_more true q = let r = leb-true 14 (last_level e) q in absurd (omega arith)

low_divide : (t : Token) → t.kind ≡ T.Punctuator P.DivideAssign → (v : Wanted) (e : Expr) → last_level e ≤ 2 → continues v e t ≡ false
low_divide t is v e h =
    subst (λ k. continues v e (remade t k) ≡ false) (sym is)
    (and_none (not (bans v (remade t (T.Punctuator P.DivideAssign)))) (nat_le (grip v) 2 && nat_le 20 (last_level e)) (and_none (nat_le (grip v) 2) (nat_le 20 (last_level e)) (no_more (nat_le 20 (last_level e)) refl)))
  where
    no_more : (b : Bool) → nat_le 20 (last_level e) ≡ b → nat_le 20 (last_level e) ≡ false
    no_more false q = q
    no_more true q = let r = leb-true 20 (last_level e) q in absurd (omega arith)

-- a token that stands within no production, and goes on with nothing that ends as loosely as an arrow
pub record Loose (t : Token) : Type 0 where
  pub stray : Stray t
  pub no_any : piece_of AnyName t.kind t.loc ≡ None
  pub no_key : piece_of Key t.kind t.loc ≡ None
  pub no_later : piece_of LaterText t.kind t.loc ≡ None
  pub no_opening : is_mark P.OpenParenthesis t ≡ false
  pub no_arrow : is_mark P.Arrow t ≡ false
  pub stops : (v : Wanted) (e : Expr) → last_level e ≤ 2 → continues v e t ≡ false

low_callee : {A : Type 0} (n : Wanted) (i : ℕ) (e : Expr) → is_callee n ≡ true → i ≤ 17 → fits n i e ≡ true → A
low_callee Callee i e is low h = either_of (nat_le member i) (i == bare) h (λ q. let r = leb-true member i q in absurd (omega arith)) (λ q. let r = eqb-true i bare q in absurd (omega arith))
low_callee n i e is low h = absurd (true≢false (sym is))

low_refused : (t : Token) → Loose t → (fs : List Frame) (d : Config) → Framed fs → (i : ℕ) (e : Expr) (m : Loc) → i ≤ 17 → last_level e ≤ 2 → have fs (Some (AnExpr i e)) m t ≡ Some d → ⊥
low_refused t lo [] d fr i e m tight_ low h = nowhere h
low_refused t lo (InForm f w (Expr_ n) [] ps ∷ fs) d fr i e m small low h =
    by_bool (continues n e t) _ _ d (λ c q. true≢false (sym c ∙ lo.stops n e low))
    (λ c q. by_bool (fits n i e) _ _ d
    (λ k g. by_makes f
    (λ is. piece_option fs (build f (through w m) (ps ++ AnExpr i e ∷ [])) (through w m) t d
    (λ j x made r. let b = subst LowMade made (low_made f (through w m) (ps ++ AnExpr i e ∷ []) (both_is is (fr.0.1 is)) (ends_low ps (AnExpr i e) (small, low))) in low_refused t lo fs d fr.1 j x (through w m) b.0 b.1 r)
    (λ s made r. subst LowMade made (low_made f (through w m) (ps ++ AnExpr i e ∷ []) (both_is is (fr.0.1 is)) (ends_low ps (AnExpr i e) (small, low)))) g)
    (λ none. stmt_option fs (build f (through w m) (ps ++ AnExpr i e ∷ [])) (through w m) t d (made_nothing f (through w m) (ps ++ AnExpr i e ∷ []) none) (λ s r. stmt_way (λ x. ⊥) (stray_ways t false lo.stray (λ b. absurd (true≢false (sym b)))) (stray_closes t lo.stray) fs d fr.1 s (through w m) r) g))
    (λ k g. nowhere g) q) h
  where
    both_is : makes f ≡ true → (not (tight f) && true) ≡ true → (makes f && not (tight f)) ≡ true
    both_is x y = ap (λ b. b && not (tight f)) x ∙ (and_parts (not (tight f)) true y).0
low_refused t lo (InForm f w (Expr_ n) (By slot.Arguments ∷ []) ps ∷ fs) d fr i e m small low h =
    by_bool (continues n e t) _ _ d (λ c q. true≢false (sym c ∙ lo.stops n e low))
    (λ c q. by_bool (fits n i e) _ _ d
    (λ k g. by_makes f
    (λ is. low_callee n i e (and_parts (is_callee n) (is_new f) (and_parts (is_callee n && is_new f) (well f (By slot.Arguments ∷ [])) (fr.0.1 is)).0).0 small k)
    (λ none. by_branch (branch slot.Arguments t) _ _ d
    (λ qs x y. stmt_option fs (build f (through w m) ((ps ++ AnExpr i e ∷ []) ++ qs)) (through w m) t d (made_nothing f (through w m) ((ps ++ AnExpr i e ∷ []) ++ qs) none) (λ s r. stmt_way (λ x. ⊥) (stray_ways t false lo.stray (λ b. absurd (true≢false (sym b)))) (stray_closes t lo.stray) fs d fr.1 s (through w m) r) y)
    (λ qs s rs x y. no_arguments t qs s rs lo.no_opening x) g))
    (λ k g. nowhere g) q) h
low_refused t lo (InForm f w (Expr_ n) (s ∷ ss) ps ∷ fs) d fr i e m small low h =
    by_bool (continues n e t) _ _ d (λ c q. true≢false (sym c ∙ lo.stops n e low))
    (λ c q. leave_way {Q = λ x. ⊥} (stray_ways t false lo.stray (λ b. absurd (true≢false (sym b)))) (InForm f w (Expr_ n) (s ∷ ss) ps) i e m fs d fr
    (λ qs l p g. by_makes f
    (λ is. after_part f n (s ∷ ss) (and_parts (after f n (s ∷ ss)) (well f (s ∷ ss)) (fr.0.1 is)).0 (λ k. true≢false (sym k)) (λ k. rest_stays s ss k p) (λ k. held_stays (s ∷ ss) t (stray_closes t lo.stray) k p))
    (λ none. stmt_option fs (build f l qs) l t d (made_nothing f l qs none) (λ r j. stmt_way (λ x. ⊥) (stray_ways t false lo.stray (λ b. absurd (true≢false (sym b)))) (stray_closes t lo.stray) fs d fr.1 r l j) g))
    (rest_left t (λ x. ⊥) (λ p f w ss ps fs k fine fr. clash lo.no_later k) (InForm f w (Expr_ n) (s ∷ ss) ps) i e m fs d fr q) q) h
  where
    clash : {o : Option Piece} {p : Piece} → o ≡ None → o ≡ Some p → ⊥
    clash {p = p} none k = let q : None ≡ Some p = sym none ∙ k in absurd cc

    rest_stays : (s : Slot) (ss : List Slot) → is_rest (s ∷ ss) ≡ true → passing (s ∷ ss) t ≡ true → ⊥
    rest_stays (By slot.TemplateRest) ss k p = true≢false (sym (and_parts (is_pass (branch slot.TemplateRest t)) (passing ss t) p).0 ∙ template_stays t)
    rest_stays s ss k p = true≢false (sym k)
low_refused t lo (InExpression w ∷ fs) d fr i e m small low h =
    by_bool (continues (Level any) e t) _ _ d (λ c q. true≢false (sym c ∙ lo.stops (Level any) e low))
    (λ c q. leave_way {Q = λ x. ⊥} (stray_ways t false lo.stray (λ b. absurd (true≢false (sym b)))) (InExpression w) i e m fs d fr
    (λ qs l p g. stmt_option fs (build slot.Expression l qs) l t d (made_nothing slot.Expression l qs refl) (λ r j. stmt_way (λ x. ⊥) (stray_ways t false lo.stray (λ b. absurd (true≢false (sym b)))) (stray_closes t lo.stray) fs d fr.1 r l j) g)
    (λ k. true≢false (sym k)) q) h
low_refused t lo (InItems f w p ss ps xs ∷ fs) d fr i e m small low h =
    by_bool (continues (wanted (InItems f w p ss ps xs)) e t) _ _ d (λ c q. true≢false (sym c ∙ lo.stops (wanted (InItems f w p ss ps xs)) e low))
    (λ c q. leave_way {Q = λ x. ⊥} (stray_ways t false lo.stray (λ b. absurd (true≢false (sym b)))) (InItems f w p ss ps xs) i e m fs d fr (λ qs l p g. true≢false (sym p)) (λ k. true≢false (sym k)) q) h
low_refused t lo (f ∷ fs) d fr i e m small low h =
    by_bool (continues (wanted f) e t) _ _ d (λ c q. true≢false (sym c ∙ lo.stops (wanted f) e low)) (λ c q. nowhere q) h

-- ---- where an expression may be over

expression_makes : (f : Form) → makes_expression f ≡ true → makes f ≡ true
expression_makes slot.Parentheses h = refl
expression_makes f h = by_refl (makes f) refl
  where
    by_refl : (b : Bool) → makes f ≡ b → makes f ≡ true
    by_refl true q = q
    by_refl false q = absurd (no_level f h q)
      where
        no_level : (f : Form) → makes_expression f ≡ true → makes f ≡ false → ⊥
        no_level f h q = true≢false (sym h ∙ none f q)
          where
            none : (f : Form) → makes f ≡ false → makes_expression f ≡ false
            none slot.Expression q = refl
            none slot.Labelled q = refl
            none slot.Block q = refl
            none (slot.Variables k) q = refl
            none slot.FunctionDeclaration q = refl
            none slot.Empty q = refl
            none slot.If q = refl
            none slot.For q = refl
            none slot.While q = refl
            none slot.DoWhile q = refl
            none slot.Continue q = refl
            none slot.Break q = refl
            none slot.Return q = refl
            none slot.Switch q = refl
            none slot.Throw q = refl
            none slot.Try q = refl
            none slot.Debugger q = refl
            none f q = absurd (true≢false q)

tight_expression : (f : Form) → tight f ≡ true → makes_expression f ≡ true
tight_expression slot.ArrayLiteral h = refl
tight_expression slot.ObjectLiteral h = refl
tight_expression slot.Template h = refl
tight_expression slot.FunctionExpression h = refl
tight_expression slot.New h = refl
tight_expression slot.Call h = refl
tight_expression slot.Dot h = refl
tight_expression slot.Member h = refl
tight_expression (slot.Postfix o) h = refl
tight_expression f h = absurd (true≢false (sym h))

arrows_expression : (f : Form) → arrows f ≡ true → makes_expression f ≡ true
arrows_expression slot.Parentheses h = refl
arrows_expression slot.ArrowOfName h = refl
arrows_expression f h = absurd (true≢false (sym h))

parentheses_expression : (f : Form) → is_parentheses f ≡ true → makes_expression f ≡ true
parentheses_expression slot.Parentheses h = refl
parentheses_expression f h = absurd (true≢false (sym h))

over_is : (f : Form) (ss : List Slot) → over f ss ≡ true → (makes_expression f ≡ true) × (is_over ss ≡ true)
over_is f [] h = (tight_expression f h, refl)
over_is f (Place_ ∷ []) h = (either_of (tight f) (arrows f) h (tight_expression f) (arrows_expression f), refl)
over_is f (By slot.Arrow ∷ []) h = (parentheses_expression f h, refl)
over_is f ss h = absurd (true≢false (sym h))

is_held : (ss : List Slot) → is_over ss ≡ true → held ss ≡ false
is_held [] h = refl
is_held (Place_ ∷ []) h = refl
is_held (By slot.Arrow ∷ []) h = refl
is_held ss h = absurd (true≢false (sym h))

abbrev pub is_led : List Slot → Bool
is_led (By slot.Arrow ∷ []) = true
is_led ss = false

-- a token that no arrow begins with leads on to the production
pub over_turn : {A : Type 0} (t : Token) → is_mark P.Arrow t ≡ false → (f : Form) (w : Loc) (ss : List Slot) (ps : List Piece) (l : Loc) (fs : List Frame) (d : Config) → is_over ss ≡ true →
    ((qs : List Piece) → (is_led ss ≡ true → last_missing qs ≡ true) → have fs (build f (through w l) qs) (through w l) t ≡ Some d → A) → turn (Due f w ss ps l fs) t ≡ Some d → A
over_turn t none f w [] ps l fs d is go h = go ps (λ k. absurd (true≢false (sym k))) h
over_turn t none f w (Place_ ∷ []) ps l fs d is go h = go (ps ++ APlace l ∷ []) (λ k. absurd (true≢false (sym k))) h
over_turn {A = A} t none f w (By slot.Arrow ∷ []) ps l fs d is go h = by_arrow (is_mark P.Arrow t) none h
  where
    by_arrow : (b : Bool) → b ≡ false → choose (either (b && not t.line_terminator_before) (Go [] (Sign (T.Punctuator P.Arrow)) (By slot.ConciseBody ∷ [])) (Pass (Missing ∷ []))) (λ qs. have fs (build f (through w l) (ps ++ qs)) (through w l) t)
        (λ qs s rs. if leads (place fs) slot.Arrow then take f w s (rs ++ []) (ps ++ qs) fs t else None) ≡ Some d → A
    by_arrow false q k = go (ps ++ Missing ∷ []) (λ z. ends_missing ps) k
    by_arrow true q k = absurd (true≢false q)
over_turn t none f w ss ps l fs d is go h = absurd (true≢false (sym is))

braced_over : (f : Form) (ss : List Slot) → is_braced_arrow f ss ≡ true → (arrows f ≡ true) × (ss ≡ Place_ ∷ [])
braced_over slot.Parentheses (Place_ ∷ []) h = (refl, refl)
braced_over slot.ArrowOfName (Place_ ∷ []) h = (refl, refl)
braced_over f ss h = absurd (true≢false (sym h))

arrow_braced : (f : Form) → arrows f ≡ true → is_braced_arrow f (Place_ ∷ []) ≡ true
arrow_braced slot.Parentheses h = refl
arrow_braced slot.ArrowOfName h = refl
arrow_braced f h = absurd (true≢false (sym h))

arrows_loose : (f : Form) → arrows f ≡ true → (makes f && not (tight f)) ≡ true
arrows_loose slot.Parentheses h = refl
arrows_loose slot.ArrowOfName h = refl
arrows_loose f h = absurd (true≢false (sym h))

-- ---- the goals of a place where slots are due

abbrev pub due_goal : Form → List Slot → List Frame → Goal
due_goal f ss fs = if is_braced_arrow f ss then after_arrow fs else (if makes_expression f && is_over ss then after_expression fs else goal.RegExp)

no_div : {A : Type 0} (fs : List Frame) → after_expression fs ≡ goal.RegExp → A
no_div {A = A} fs h = by_due (template_due fs) h
  where
    by_due : (b : Bool) → (if b then goal.Template else goal.Div) ≡ goal.RegExp → A
    by_due true q = absurd cc
    by_due false q = absurd cc

template_is : (fs : List Frame) → after_expression fs ≡ goal.Template → template_due fs ≡ true
template_is fs h = by_due (template_due fs) refl h
  where
    by_due : (b : Bool) → template_due fs ≡ b → (if b then goal.Template else goal.Div) ≡ goal.Template → template_due fs ≡ true
    by_due true e q = e
    by_due false e q = absurd cc

arrow_template : (fs : List Frame) → after_arrow fs ≡ goal.Template → template_due fs ≡ true
arrow_template fs h = by_due (template_due fs) refl h
  where
    by_due : (b : Bool) → template_due fs ≡ b → (if b then goal.Template else goal.RegExp) ≡ goal.Template → template_due fs ≡ true
    by_due true e q = e
    by_due false e q = absurd cc

-- a goal by the place
by_place : {A : Type 0} (f : Form) (ss : List Slot) (fs : List Frame) → (is_braced_arrow f ss ≡ true → due_goal f ss fs ≡ after_arrow fs → A) → (is_braced_arrow f ss ≡ false → (makes_expression f && is_over ss) ≡ true → due_goal f ss fs ≡ after_expression fs → A) →
    ((makes_expression f && is_over ss) ≡ false → due_goal f ss fs ≡ goal.RegExp → A) → A
by_place {A = A} f ss fs x y z = by_braced (is_braced_arrow f ss) refl
  where
    by_over : is_braced_arrow f ss ≡ false → (b : Bool) → (makes_expression f && is_over ss) ≡ b → A
    by_over n true e = y n e (ap (λ c. if c then after_arrow fs else (if makes_expression f && is_over ss then after_expression fs else goal.RegExp)) n ∙ ap (λ c. if c then after_expression fs else goal.RegExp) e)
    by_over n false e = z e (ap (λ c. if c then after_arrow fs else (if makes_expression f && is_over ss then after_expression fs else goal.RegExp)) n ∙ ap (λ c. if c then after_expression fs else goal.RegExp) e)

    by_braced : (b : Bool) → is_braced_arrow f ss ≡ b → A
    by_braced true e = x e (ap (λ c. if c then after_arrow fs else (if makes_expression f && is_over ss then after_expression fs else goal.RegExp)) e)
    by_braced false e = by_over e (makes_expression f && is_over ss) refl

-- where the place is none at which an expression may be over, none is
not_over : {A : Type 0} (f : Form) (ss : List Slot) → (makes_expression f && is_over ss) ≡ false → over f ss ≡ true → A
not_over f ss h o = let q = over_is f ss o in absurd (true≢false (sym (ap (λ b. b && is_over ss) q.0 ∙ q.1) ∙ h))

-- ---- `/` and `/=`

divides_due : (t : Token) → Loose t → (f : Form) (w : Loc) (ss : List Slot) (ps : List Piece) (l : Loc) (fs : List Frame) (d : Config) → FineAt (Due f w ss ps l fs) → due_goal f ss fs ≡ goal.RegExp → turn (Due f w ss ps l fs) t ≡ Some d → ⊥
divides_due t lo f w ss ps l fs d fine is h =
    by_place f ss fs (λ b g. braced_refused ss (braced_over f ss b) h) (λ n o g. no_div fs (sym g ∙ is))
    (λ o g. due_way {Q = λ x. ⊥} f w ss ps l fs d (stray_ways t (not (nameless ss)) lo.stray (λ b. (lo.no_any, lo.no_key))) fine.0 fine.1
    (λ qs m p q. by_makes f
    (λ k. either_of (held ss) (over f ss) (and_parts (held ss || over f ss) (well f ss) (fine.0.1 k)).0 (λ x. held_stays ss t (stray_closes t lo.stray) x p) (λ x. not_over f ss o x))
    (λ k. stmt_option fs (build f m qs) m t d (made_nothing f m qs k) (λ s r. stmt_way (λ x. ⊥) (stray_ways t false lo.stray (λ b. absurd (true≢false (sym b)))) (stray_closes t lo.stray) fs d fine.1 s m r) q)) h)
  where
    low_piece : (arrows f ≡ true) → LowMade (build f (through w l) (ps ++ APlace l ∷ []))
    low_piece a = low_made f (through w l) (ps ++ APlace l ∷ []) (arrows_loose f a) (ends_low ps (APlace l) tt)

    in_place : (arrows f ≡ true) → turn (Due f w (Place_ ∷ []) ps l fs) t ≡ Some d → ⊥
    in_place a q = piece_option fs (build f (through w l) (ps ++ APlace l ∷ [])) (through w l) t d (λ j x made r. let b = subst LowMade made (low_piece a) in low_refused t lo fs d fine.1 j x (through w l) b.0 b.1 r) (λ s made r. subst LowMade made (low_piece a)) q

    braced_refused : (ss : List Slot) → (arrows f ≡ true) × (ss ≡ Place_ ∷ []) → turn (Due f w ss ps l fs) t ≡ Some d → ⊥
    braced_refused ss b q = in_place b.0 (subst (λ x. turn (Due f w x ps l fs) t ≡ Some d) b.1 q)

divides_place : (t : Token) → Loose t → (c d : Config) → FineAt c → goal_of_place c ≡ goal.RegExp → turn c t ≡ Some d → ⊥
divides_place t lo (Due f w ss ps l fs) d fine is h = divides_due t lo f w ss ps l fs d fine is h
divides_place t lo (Have (AnExpr i e) l fs) d fine is h = no_div fs is
divides_place t lo (Have p l fs) d fine is h = absurd fine.0
divides_place t lo (Item fs) d fine is h = item_way {Q = λ x. ⊥} (stray_ways t false lo.stray (λ b. absurd (true≢false (sym b)))) fs d fine h
divides_place t lo Start d fine is h = start_way {Q = λ x. ⊥} (stray_ways t false lo.stray (λ b. absurd (true≢false (sym b)))) d h
divides_place t lo (Finished ss) d fine is h = nowhere h

-- ---- a regular expression

no_template : {A : Type 0} (t : Token) → join t ≡ None → is_mark P.OpenParenthesis t ≡ false → piece_of LaterText t.kind t.loc ≡ None → (f : Form) (m : Loc) (qs : List Piece) (fs : List Frame) (d : Config) → template_due fs ≡ true → have fs (build f m qs) m t ≡ Some d → A
no_template t none closed later f m qs fs d due h =
    piece_option fs (build f m qs) m t d (λ j x made r. absurd (template_refused t none closed later fs d due j x m r)) (λ s made r. stmt_refused t fs d due s m r) h

tight_refused : {A : Type 0} (t : Token) (w : List ℕ) → t.kind ≡ T.RegularExpression w → (o : Option Piece) (m : Loc) (fs : List Frame) (d : Config) → Tight o → have fs o m t ≡ Some d → A
tight_refused t w is o m fs d firm_ h =
    piece_option fs o m t d (λ j x made r. regular_after t w is fs d j x m (subst Tight made firm_) r) (λ s made r. absurd (subst Tight made firm_)) h

led_form : (f : Form) → is_parentheses f ≡ true → (m : Loc) (qs : List Piece) → last_missing qs ≡ true → Tight (build f m qs)
led_form slot.Parentheses h m qs z = missing_made m qs z
led_form f h m qs z = absurd (true≢false (sym h))

regular_due : (t : Token) (v : List ℕ) → t.kind ≡ T.RegularExpression v → (f : Form) (w : Loc) (ss : List Slot) (ps : List Piece) (l : Loc) (fs : List Frame) (d : Config) → FineAt (Due f w ss ps l fs) → turn (Due f w ss ps l fs) t ≡ Some d → due_goal f ss fs ≡ goal.RegExp
regular_due t v is f w ss ps l fs d fine h =
    by_place f ss fs (λ b g. g ∙ by_due (template_due fs) refl (braced_over f ss b)) (λ n o g. over_refused n o) (λ o g. g)
  where
    no_arrow : is_mark P.Arrow t ≡ false
    no_arrow = subst (λ k. is_mark P.Arrow (remade t k) ≡ false) (sym is) refl

    no_opening : is_mark P.OpenParenthesis t ≡ false
    no_opening = subst (λ k. is_mark P.OpenParenthesis (remade t k) ≡ false) (sym is) refl

    no_later : piece_of LaterText t.kind t.loc ≡ None
    no_later = ap (λ k. piece_of LaterText k t.loc) is

    by_due : (b : Bool) → template_due fs ≡ b → (arrows f ≡ true) × (ss ≡ Place_ ∷ []) → after_arrow fs ≡ goal.RegExp
    by_due false e b = ap (λ x. if x then goal.Template else goal.RegExp) e
    by_due true e b = over_turn t no_arrow f w ss ps l fs d (subst (λ x. is_over x ≡ true) (sym b.1) refl) (λ qs z q. no_template t (regular_join t v is) no_opening no_later f (through w l) qs fs d e q) h

    firm_form : (f : Form) (ss : List Slot) → is_braced_arrow f ss ≡ false → over f ss ≡ true → (qs : List Piece) → (is_led ss ≡ true → last_missing qs ≡ true) → (m : Loc) → Tight (build f m qs)
    firm_form f [] n o qs z m = tight_made f m qs o
    firm_form f (Place_ ∷ []) n o qs z m = either_of (tight f) (arrows f) o (λ k. tight_made f m qs k) (λ k. absurd (true≢false (sym (arrow_braced f k) ∙ n)))
    firm_form f (By slot.Arrow ∷ []) n o qs z m = led_form f o m qs (z refl)
    firm_form f ss n o qs z m = absurd (true≢false (sym o))

    over_refused : is_braced_arrow f ss ≡ false → (makes_expression f && is_over ss) ≡ true → due_goal f ss fs ≡ goal.RegExp
    over_refused n o =
        let both = and_parts (makes_expression f) (is_over ss) o in
        let well_ = and_parts (held ss || over f ss) (well f ss) (fine.0.1 (expression_makes f both.0)) in
        let is_it = either_of (held ss) (over f ss) well_.0 (λ k. absurd (true≢false (sym k ∙ is_held ss both.1))) (λ k. k) in
        over_turn t no_arrow f w ss ps l fs d both.1 (λ qs z q. tight_refused t v is (build f (through w l) qs) (through w l) fs d (firm_form f ss n is_it qs z (through w l)) q) h

regular_place : (t : Token) (v : List ℕ) → t.kind ≡ T.RegularExpression v → (c d : Config) → FineAt c → turn c t ≡ Some d → goal_of_place c ≡ goal.RegExp
regular_place t v is (Due f w ss ps l fs) d fine h = regular_due t v is f w ss ps l fs d fine h
regular_place t v is (Have (AnExpr i e) l fs) d fine h = regular_after t v is fs d i e l (subst (λ n. 14 ≤ n) (sym fine.0) (omega arith)) h
regular_place t v is (Have p l fs) d fine h = absurd fine.0
regular_place t v is (Item fs) d fine h = refl
regular_place t v is Start d fine h = refl
regular_place t v is (Finished ss) d fine h = refl

-- ---- what continues a template

template_goal : (f : Form) (ss : List Slot) (fs : List Frame) → over f ss ≡ true → template_due fs ≡ true → due_goal f ss fs ≡ goal.Template
template_goal f ss fs o due = by_place f ss fs (λ b g. g ∙ ap (λ x. if x then goal.Template else goal.RegExp) due) (λ n k g. g ∙ ap (λ x. if x then goal.Template else goal.Div) due) (λ k g. not_over f ss k o)

later_due_place : (t : Token) → Stray t → (piece_of AnyName t.kind t.loc ≡ None) × (piece_of Key t.kind t.loc ≡ None) → join t ≡ None → (f : Form) (w : Loc) (ss : List Slot) (ps : List Piece) (l : Loc) (fs : List Frame) (d : Config) → FineAt (Due f w ss ps l fs) →
    turn (Due f w ss ps l fs) t ≡ Some d → due_goal f ss fs ≡ goal.Template
later_due_place t st nn none f w ss ps l fs d fine h =
    due_way {Q = λ x. due_goal f ss fs ≡ goal.Template} f w ss ps l fs d (stray_ways t (not (nameless ss)) st (λ b. nn)) fine.0 fine.1
    (λ qs m p q. by_makes f
    (λ k. either_of (held ss) (over f ss) (and_parts (held ss || over f ss) (well f ss) (fine.0.1 k)).0 (λ x. absurd (held_stays ss t (stray_closes t st) x p))
    (λ x. piece_option fs (build f m qs) m t d (λ j y made r. template_goal f ss fs x (later_due t st false (λ b. nn) none fs d fine.1 j y m r)) (λ s made r. stmt_way (λ z. due_goal f ss fs ≡ goal.Template) (stray_ways t false st (λ b. nn)) (stray_closes t st) fs d fine.1 s m r) q))
    (λ k. stmt_option fs (build f m qs) m t d (made_nothing f m qs k) (λ s r. stmt_way (λ z. due_goal f ss fs ≡ goal.Template) (stray_ways t false st (λ b. nn)) (stray_closes t st) fs d fine.1 s m r) q)) h

later_place : (t : Token) → Stray t → (piece_of AnyName t.kind t.loc ≡ None) × (piece_of Key t.kind t.loc ≡ None) → join t ≡ None → (c d : Config) → FineAt c → turn c t ≡ Some d → goal_of_place c ≡ goal.Template
later_place t st nn none (Due f w ss ps l fs) d fine h = later_due_place t st nn none f w ss ps l fs d fine h
later_place t st nn none (Have (AnExpr i e) l fs) d fine h = ap (λ x. if x then goal.Template else goal.Div) (later_due t st false (λ b. nn) none fs d fine.1 i e l h)
later_place t st nn none (Have p l fs) d fine h = absurd fine.0
later_place t st nn none (Item fs) d fine h = item_way {Q = λ x. goal.RegExp ≡ goal.Template} (stray_ways t false st (λ b. nn)) fs d fine h
later_place t st nn none Start d fine h = start_way {Q = λ x. goal.RegExp ≡ goal.Template} (stray_ways t false st (λ b. nn)) d h
later_place t st nn none (Finished ss) d fine h = nowhere h

-- ---- `}`

close_due : (t : Token) → t.kind ≡ T.Punctuator P.CloseBrace → (f : Form) (w : Loc) (ss : List Slot) (ps : List Piece) (l : Loc) (fs : List Frame) (d : Config) → due_goal f ss fs ≡ goal.Template → turn (Due f w ss ps l fs) t ≡ Some d → ⊥
close_due t is f w ss ps l fs d g h =
    by_place f ss fs (λ b e. refused (arrow_template fs (sym e ∙ g)) (subst (λ x. is_over x ≡ true) (sym (braced_over f ss b).1) refl)) (λ n o e. refused (template_is fs (sym e ∙ g)) (and_parts (makes_expression f) (is_over ss) o).1)
    (λ o e. no_regular (sym e ∙ g))
  where
    no_regular : goal.RegExp ≡ goal.Template → ⊥
    no_regular q = absurd cc

    refused : template_due fs ≡ true → is_over ss ≡ true → ⊥
    refused due o =
        over_turn t (subst (λ k. is_mark P.Arrow (remade t k) ≡ false) (sym is) refl) f w ss ps l fs d o
        (λ qs z q. no_template t (subst (λ k. join (remade t k) ≡ None) (sym is) refl) (subst (λ k. is_mark P.OpenParenthesis (remade t k) ≡ false) (sym is) refl) (ap (λ k. piece_of LaterText k t.loc) is) f (through w l) qs fs d due q) h

close_place : (t : Token) → t.kind ≡ T.Punctuator P.CloseBrace → (c d : Config) → FineAt c → turn c t ≡ Some d → goal_of_place c ≡ goal.Template → ⊥
close_place t is (Due f w ss ps l fs) d fine h g = close_due t is f w ss ps l fs d g h
close_place t is (Have (AnExpr i e) l fs) d fine h g =
    template_refused t (subst (λ k. join (remade t k) ≡ None) (sym is) refl) (subst (λ k. is_mark P.OpenParenthesis (remade t k) ≡ false) (sym is) refl) (ap (λ k. piece_of LaterText k t.loc) is) fs d (template_is fs g) i e l h
close_place t is (Have p l fs) d fine h g = fine.0
close_place t is (Item fs) d fine h g = absurd cc
close_place t is Start d fine h g = absurd cc
close_place t is (Finished ss) d fine h g = absurd cc

-- ---- each kind

abbrev pub closes_brace : Kind → Bool
closes_brace (T.Punctuator P.CloseBrace) = true
closes_brace k = false

judged : (k : Kind) (g : Goal) → (divides k ≡ true → g ≡ goal.RegExp → ⊥) → (is_regular k ≡ true → g ≡ goal.RegExp) → (is_later k ≡ true → g ≡ goal.Template) → (closes_brace k ≡ true → g ≡ goal.Template → ⊥) → is_for (asked g (braced k)) k ≡ true
judged (T.Punctuator P.Slash) goal.RegExp a b c d = absurd (a refl refl)
judged (T.Punctuator P.DivideAssign) goal.RegExp a b c d = absurd (a refl refl)
judged (T.Punctuator P.CloseBrace) goal.Template a b c d = absurd (d refl refl)
judged (T.RegularExpression w) goal.Div a b c d = let q : goal.Div ≡ goal.RegExp = b refl in absurd cc
judged (T.RegularExpression w) goal.Template a b c d = let q : goal.Template ≡ goal.RegExp = b refl in absurd cc
judged (T.TemplateMiddle w) goal.Div a b c d = let q : goal.Div ≡ goal.Template = c refl in absurd cc
judged (T.TemplateMiddle w) goal.RegExp a b c d = let q : goal.RegExp ≡ goal.Template = c refl in absurd cc
judged (T.TemplateTail w) goal.Div a b c d = let q : goal.Div ≡ goal.Template = c refl in absurd cc
judged (T.TemplateTail w) goal.RegExp a b c d = let q : goal.RegExp ≡ goal.Template = c refl in absurd cc
judged k goal.Div a b c d = refl
judged k goal.RegExp a b c d = refl
judged k goal.Template a b c d = refl

abbrev pub kind_of : Token → Kind
kind_of t = t.kind

loose_slash : (t : Token) → t.kind ≡ T.Punctuator P.Slash → Loose t
loose_slash t is = subst (λ k. Loose (remade t k)) (sym is) (record { stray = record { no_prefix = refl; no_leaf = refl; no_statement = refl; no_inner = refl; no_name = refl; no_first = refl }; no_any = refl; no_key = refl; no_later = refl; no_opening = refl; no_arrow = refl; stops = low_slash (remade t (T.Punctuator P.Slash)) refl })

loose_divide : (t : Token) → t.kind ≡ T.Punctuator P.DivideAssign → Loose t
loose_divide t is =
    subst (λ k. Loose (remade t k)) (sym is) (record { stray = record { no_prefix = refl; no_leaf = refl; no_statement = refl; no_inner = refl; no_name = refl; no_first = refl }; no_any = refl; no_key = refl; no_later = refl; no_opening = refl; no_arrow = refl; stops = low_divide (remade t (T.Punctuator P.DivideAssign)) refl })

stray_middle : (t : Token) (w : List ℕ) → t.kind ≡ T.TemplateMiddle w → Stray t
stray_middle t w is = subst (λ k. Stray (remade t k)) (sym is) (record { no_prefix = refl; no_leaf = refl; no_statement = refl; no_inner = refl; no_name = refl; no_first = refl })

stray_tail : (t : Token) (w : List ℕ) → t.kind ≡ T.TemplateTail w → Stray t
stray_tail t w is = subst (λ k. Stray (remade t k)) (sym is) (record { no_prefix = refl; no_leaf = refl; no_statement = refl; no_inner = refl; no_name = refl; no_first = refl })

pub right_goal : (t : Token) (c d : Config) → FineAt c → turn c t ≡ Some d → is_for (asked (goal_of_place c) (braced t.kind)) t.kind ≡ true
right_goal t c d fine h = judged t.kind (goal_of_place c) (λ q g. by_divides t.kind refl q g) (λ q. by_regular t.kind refl q) (λ q. by_later t.kind refl q) (λ q g. by_close t.kind refl q g)
  where
    by_divides : (k : Kind) → t.kind ≡ k → divides k ≡ true → goal_of_place c ≡ goal.RegExp → ⊥
    by_divides (T.Punctuator P.Slash) is q g = divides_place t (loose_slash t is) c d fine g h
    by_divides (T.Punctuator P.DivideAssign) is q g = divides_place t (loose_divide t is) c d fine g h
    by_divides k is q g = true≢false (sym q)

    by_regular : (k : Kind) → t.kind ≡ k → is_regular k ≡ true → goal_of_place c ≡ goal.RegExp
    by_regular (T.RegularExpression w) is q = regular_place t w is c d fine h
    by_regular k is q = absurd (true≢false (sym q))

    by_later : (k : Kind) → t.kind ≡ k → is_later k ≡ true → goal_of_place c ≡ goal.Template
    by_later (T.TemplateMiddle w) is q = later_place t (stray_middle t w is) (ap (λ k. piece_of AnyName k t.loc) is, ap (λ k. piece_of Key k t.loc) is) (subst (λ k. join (remade t k) ≡ None) (sym is) refl) c d fine h
    by_later (T.TemplateTail w) is q = later_place t (stray_tail t w is) (ap (λ k. piece_of AnyName k t.loc) is, ap (λ k. piece_of Key k t.loc) is) (subst (λ k. join (remade t k) ≡ None) (sym is) refl) c d fine h
    by_later k is q = absurd (true≢false (sym q))

    by_close : (k : Kind) → t.kind ≡ k → closes_brace k ≡ true → goal_of_place c ≡ goal.Template → ⊥
    by_close (T.Punctuator P.CloseBrace) is q g = close_place t is c d fine h g
    by_close k is q g = true≢false (sym q)

-- a token after these is one for its goal
pub asks : (ts : List Token) (t : Token) (c d : Config) → run Start ts ≡ Some c → turn c t ≡ Some d → is_for (asked (goal_of_place c) (braced t.kind)) t.kind ≡ true
asks ts t c d h k = right_goal t c d (come_to ts c h) k
