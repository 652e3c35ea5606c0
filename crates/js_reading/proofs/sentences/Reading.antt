-- The tokens of a tree are read as that tree, for the whole language.
use Rattle.std.proofs.Common.{◌≡◌, ℕ, ◌≤◌, Bool, true, false, not, ◌&&◌, List, [], ◌∷◌, ◌++◌, Option, Some, None, codes, if◌then◌else◌, inl, inr, ◌⊎◌, ◌≢◌, refl, sym, ap, subst, ◌∙◌, arith, le_trans, append_assoc, append-nil}
use Rattle.std.specs.Prelude.{◌==◌, nat_le, ◌||◌}
use Rattle.std.proofs.lemmas.Bool.{le-leb, cond-true, cond-false, true≢false, and_parts, leb-true, eqb-true}
use Rattle.js_terms.specs.declared.place.Loc.{Loc}
use Rattle.js_terms.specs.declared.operators.BinaryOperator.TheVariants as b
use Rattle.js_tree.specs.Plain.{Expr, Exprs, no_expr, push_exprs, Stmt, Stmts, no_stmt, push_stmts, File, MakeFile}
use Rattle.js_tree.specs.Plain as tree
use Rattle.js_text.specs.Token.{Token, Kind, Word, End}
use Rattle.js_text.specs.Token as T
use Rattle.js_text.specs.declared.punctuator.Punctuator.{Punctuator}
use Rattle.js_text.specs.declared.punctuator.Punctuator.TheVariants as P
use Rattle.js_reading.specs.Spans.{through, first}
use Rattle.js_reading.specs.Level.{any, assignment}
use Rattle.js_reading.specs.Kinds.{is_kind}
use Rattle.js_reading.specs.Slots.{Wanted, Level, WithoutIn, Callee, Slot, Sign, Text, Expr_, Stmt_, Stmts_, Items_, Place_, By, Piece, AnExpr, AStmt, TheStmts, TheExprs, APlace, Branch, Refuse, Pass, Go, Form, Class, Choice}
use Rattle.js_reading.specs.Slots as slot
use Rattle.js_reading.specs.Productions.{primary, member, bare, is_mark, is_word, slots, join, joins, strength, wants, after_first, form_level, first_level}
use Rattle.js_reading.specs.Choices.{branch, stops}
use Rattle.js_reading.specs.Makes.{build, is_declaration, bare_in, last_level}
use Rattle.js_reading.specs.Sentences
use Rattle.js_reading.specs.Sentences.{leaf_of, least, stands_for, grip, fits, bans, goes_on, continues, closes, Spells, SpellsSlots, SpellsItems, SpellsStmts, Sentence}
use Rattle.js_reading.specs.Turns.{inner, place, begun_level, leads, declares, listing, Frame, InForm, InExpression, InStmts, InFile, InItems, Config, Due, Item, Start, Finished, enter, begin_leaf, want_by, want, begin_by, begin, texted, take, choose, pass, wanted, banned, shift, is_name, leave, finished, have, item, then_run, run, tree_of}
use Rattle.js_reading.proofs.sentences.KindsLemmas.{kind_is, is_same}
use Rattle.js_reading.proofs.sentences.Lists.{append_exprs, exprs_end, exprs_last, exprs_push, append_stmts, stmts_end, stmts_push}
use Rattle.js_reading.proofs.sentences.Shapes.{others, split, first_append, others_append, taking, closing, plain, plain_slot, plain_form, plain_append, taken_branch, open_end, open_chosen, open_drop, last_bare, last_is, without, shut, banned_shut, find_all, join_found, begins_prefix, begins_statement, begins_join, begin_pass, second_pass, both_true}
use Rattle.js_reading.proofs.sentences.Firsts.{remade, no_close, no_end, no_closing, first_expr, first_stmt}
use Rattle.js_reading.proofs.levels.Makings.{is_join, Joins, joins_made, Lasts, lasts_made}
use Rattle.js_reading.proofs.levels.Allowed.{UpTo, up_to, begins_first, unled, Lets, lets_none, lets_rest, lets_form, lets_choice, unled_chosen, statement_unled, join_unled, Declared, declared_made}
use Rattle.js_reading.proofs.levels.Tightness.{strong, at_least, high_bare}

-- what comes of a piece that stands in frames before a token
abbrev pub there : List Frame → Option Piece → Loc → Token → List Token → Option Config
there fs p l next rest = then_run (have fs p l next) (λ c. run c rest)

no_part : {A : Type 0} → false ≡ true → A
no_part h = absurd (true≢false (sym h))

or_left : (x y : Bool) → x ≡ true → (x || y) ≡ true
or_left x y h = ap (λ b. b || y) h

or_right : (x y : Bool) → y ≡ true → (x || y) ≡ true
or_right true y h = refl
or_right false y h = h

and_false : (x y : Bool) → y ≡ false → (x && y) ≡ false
and_false true y h = h
and_false false y h = refl

not_is : (b : Bool) → b ≡ false → not b ≡ true
not_is b h = ap not h

not_false : (b : Bool) → not b ≡ true → b ≡ false
not_false false h = refl
not_false true h = no_part h

-- ---- where an expression fits

grips : (w : Wanted) (j : ℕ) (e : Expr) → fits w j e ≡ true → j ≢ bare → grip w ≤ j
grips (Level n) j e h other = leb-true n j h
grips (WithoutIn n) j e h other = leb-true n j (and_parts (nat_le n j) (not (bare_in e)) h).0
grips Callee j e h other = by_test (nat_le member j) refl h
  where
    by_test : (b : Bool) → nat_le member j ≡ b → (b || (j == bare)) ≡ true → member ≤ j
    by_test true q k = leb-true member j q
    by_test false q k = absurd (other (eqb-true j bare k))

fits_first : (w : Wanted) (i j : ℕ) (a e : Expr) → fits w j e ≡ true → j ≢ bare → j ≤ i → (bare_in e ≡ false → bare_in a ≡ false) → fits w i a ≡ true
fits_first (Level n) i j a e h other low bars = let q = leb-true n j h in le-leb n i (omega arith)
fits_first (WithoutIn n) i j a e h other low bars =
    let c = and_parts (nat_le n j) (not (bare_in e)) h in
    let q = leb-true n j c.0 in
    both_true (le-leb n i (omega arith)) (not_is (bare_in a) (bars (not_false (bare_in e) c.1)))
fits_first Callee i j a e h other low bars = let q = grips Callee j e h other in or_left (nat_le member i) (i == bare) (le-leb member i (omega arith))

-- ---- what goes on with an expression

is_join_form : (t : Token) (g : Form) → join t ≡ Some g → is_join g ≡ true
is_join_form t g h = (find_all is_join after_first joins t g refl (join_found t g h)).0

some_level : (t : Token) (g : Form) → join t ≡ Some g → nat_le 1 (form_level g) ≡ true
some_level t g h = (find_all (λ f. nat_le 1 (form_level f)) after_first joins t g refl (join_found t g h)).0

first_side : (t : Token) (g : Form) → join t ≡ Some g → (first_level (slots g) ≤ 2) ⊎ (4 ≤ first_level (slots g))
first_side t g h = by_test (nat_le (first_level (slots g)) 2) refl (find_all (λ f. nat_le (first_level (slots f)) 2 || nat_le 4 (first_level (slots f))) after_first joins t g refl (join_found t g h)).0
  where
    by_test : (b : Bool) → nat_le (first_level (slots g)) 2 ≡ b → (b || nat_le 4 (first_level (slots g))) ≡ true → (first_level (slots g) ≤ 2) ⊎ (4 ≤ first_level (slots g))
    by_test true q k = inl (leb-true _ _ q)
    by_test false q k = inr (leb-true _ _ k)

goes_on_is : (w : Wanted) (a : Expr) (t : Token) (g : Form) → join t ≡ Some g → grip w ≤ form_level g → first_level (slots g) ≤ last_level a → goes_on w a t ≡ true
goes_on_is w a t g h tight low =
    or_right (nat_le 1 (stands_for t.kind) && nat_le (stands_for t.kind) (last_level a)) (nat_le 1 (strength (join t)) && (nat_le (grip w) (strength (join t)) && nat_le (wants (join t)) (last_level a)))
    (subst (λ o. (nat_le 1 (strength o) && (nat_le (grip w) (strength o) && nat_le (wants o) (last_level a))) ≡ true) (sym h)
    (both_true (some_level t g h) (both_true (le-leb _ _ tight) (le-leb _ _ low))))

-- `in` makes a bare `in`
abbrev pub InBare : Option Piece → Type 0
InBare (Some (AnExpr j e)) = bare_in e ≡ true
InBare o = Unit {0}

in_made : (l : Loc) (i : ℕ) (a : Expr) (ps : List Piece) → InBare (build (slot.Binary b.In) l (AnExpr i a ∷ ps))
in_made l i a (AnExpr j y ∷ []) = refl
in_made l i a ps = tt

in_join : (t : Token) (g : Form) → is_word (codes "in") t ≡ true → join t ≡ Some g → slot.Binary b.In ≡ g
in_join t g is h =
    let q : join t ≡ Some (slot.Binary b.In) = subst (λ k. join (remade t k) ≡ Some (slot.Binary b.In)) (sym (kind_is (Word (codes "in")) t.kind is)) refl in
    let r : Some (slot.Binary b.In) ≡ Some g = sym q ∙ h in cc

not_banned : (t : Token) (fs : List Frame) (g : Form) (l : Loc) (i j : ℕ) (a e : Expr) (ps : List Piece) → join t ≡ Some g → build g l (AnExpr i a ∷ ps) ≡ Some (AnExpr j e) → (shut fs ≡ true → bare_in e ≡ false) → banned t fs ≡ false
not_banned t fs g l i j a e ps h made bars = by_test (banned t fs) refl
  where
    by_test : (b : Bool) → banned t fs ≡ b → banned t fs ≡ false
    by_test false q = q
    by_test true q =
        let c = banned_shut t fs q in
        let m : InBare (build g l (AnExpr i a ∷ ps)) = subst (λ x. InBare (build x l (AnExpr i a ∷ ps))) (in_join t g c.1 h) (in_made l i a ps) in
        absurd (true≢false (sym (subst InBare made m) ∙ bars c.0))

-- what is banned in the innermost place is banned
not_bans : (t : Token) (f : Frame) (fs : List Frame) → banned t (f ∷ fs) ≡ false → bans (wanted f) t ≡ false
not_bans t (InForm f w (Expr_ (WithoutIn n)) ss ps) fs h = h
not_bans t (InForm f w (Expr_ (Level n)) ss ps) fs h = refl
not_bans t (InForm f w (Expr_ Callee) ss ps) fs h = refl
not_bans t f fs h = refl

-- ---- steps

pub taken : (b : Bool) (x y : Option Config) (us : List Token) → b ≡ true → then_run (if b then x else y) (λ c. run c us) ≡ then_run x (λ c. run c us)
taken b x y us h = ap (λ o. then_run o (λ c. run c us)) (cond-true b x y h)

pub skipped : (b : Bool) (x y : Option Config) (us : List Token) → b ≡ false → then_run (if b then x else y) (λ c. run c us) ≡ then_run y (λ c. run c us)
skipped b x y us h = ap (λ o. then_run o (λ c. run c us)) (cond-false b x y h)

pub same : (x y : Option Config) (us : List Token) → x ≡ y → then_run x (λ c. run c us) ≡ then_run y (λ c. run c us)
same x y us h = ap (λ o. then_run o (λ c. run c us)) h

-- an expression with which the token does not go on
pub leaves : (f : Frame) (fs : List Frame) (i : ℕ) (e : Expr) (l : Loc) (t : Token) (us : List Token) → continues (wanted f) e t ≡ false →
    there (f ∷ fs) (Some (AnExpr i e)) l t us ≡ then_run (leave f i e l fs t (λ p m. have fs p m t)) (λ c. run c us)
leaves f fs i e l t us h = skipped (continues (wanted f) e t) _ _ us h

pub take_pass : (f : Form) (w : Loc) (s : Slot) (ss : List Slot) (ps : List Piece) (l : Loc) (fs : List Frame) (t : Token) (go : Option Piece → Loc → Option Config) → taking s ≡ true → take f w s ss ps fs t ≡ pass f w (s ∷ ss) ps l fs t go
take_pass f w Place_ ss ps l fs t go h = no_part h
take_pass f w Stmts_ ss ps l fs t go h = no_part h
take_pass f w (By c) ss ps l fs t go h = no_part h
take_pass f w s ss ps l fs t go h = refl

-- what begins with the first of these tokens begins with the first of the first part
pub at_first : (go : Token → Option Config) (te us : List Token) (next : Token) (rest : List Token) →
    then_run (go (first (te ++ us) next)) (λ c. run c (others (te ++ us) next rest)) ≡ then_run (go (first te (first us next))) (λ c. run c (others te (first us next) (others us next rest)))
at_first go te us next rest =
    ap (λ x. then_run (go x) (λ c. run c (others (te ++ us) next rest))) (first_append te us next) ∙ ap (λ ys. then_run (go (first te (first us next))) (λ c. run c ys)) (others_append te us next rest)

-- a place that is due, and what is left of the tokens
pub due_run : (f : Form) (w : Loc) (ss : List Slot) (ps : List Piece) (l : Loc) (fs : List Frame) (us : List Token) (next : Token) (rest : List Token) →
    run (Due f w ss ps l fs) (us ++ next ∷ rest) ≡ then_run (pass f w ss ps l fs (first us next) (λ p m. have fs p m (first us next))) (λ c. run c (others us next rest))
due_run f w ss ps l fs us next rest = ap (λ u. run (Due f w ss ps l fs) u) (split us next rest)

abbrev pub Bars : List Slot → List Frame → List Piece → Type 0
Bars ss fs ps = open_end ss ≡ true → shut fs ≡ true → last_bare ps ≡ false

-- where the reader goes once the production is there
abbrev pub goal : Form → Loc → List Piece → Loc → List Frame → Token → List Token → Option Config
goal f w ps m fs next rest = there fs (build f (through w m) ps) (through w m) next rest

regroup : (f : Form) (w m : Loc) (ps rs qs : List Piece) (fs : List Frame) (next : Token) (rest : List Token) → goal f w ((ps ++ rs) ++ qs) m fs next rest ≡ goal f w (ps ++ (rs ++ qs)) m fs next rest
regroup f w m ps rs qs fs next rest = ap (λ x. goal f w x m fs next rest) (append_assoc ps rs qs)

bars_on : (s : Slot) (ss : List Slot) (fs : List Frame) (ps rs qs : List Piece) → Bars (s ∷ ss) fs (ps ++ (rs ++ qs)) → Bars ss fs ((ps ++ rs) ++ qs)
bars_on s ss fs ps rs qs h = λ o k. ap last_bare (append_assoc ps rs qs) ∙ h (open_drop s ss o) k

-- no bare `in` stands in a slot where it is banned
pub slot_bars : (f : Form) (w : Loc) (v : Wanted) (ss : List Slot) (ps : List Piece) (fs : List Frame) (i : ℕ) (e : Expr) → fits v i e ≡ true → (ss ≡ [] → shut fs ≡ true → bare_in e ≡ false) → shut (InForm f w (Expr_ v) ss ps ∷ fs) ≡ true → bare_in e ≡ false
slot_bars f w (WithoutIn n) ss ps fs i e fit last h = not_false (bare_in e) (and_parts (nat_le n i) (not (bare_in e)) fit).1
slot_bars f w (Level n) [] ps fs i e fit last h = last refl (by_place (place fs) h)
  where
    by_place : (x : Wanted) → without (inner (Level n) [] x) ≡ true → without x ≡ true
    by_place (WithoutIn m) k = refl
    by_place x k = no_part k
slot_bars f w Callee ss ps fs i e fit last h = no_part h
slot_bars f w (Level n) (s ∷ ss) ps fs i e fit last h = no_part h

-- what fits and has no bare `in` where that is banned fits the place
pub fits_place : (f : Frame) (fs : List Frame) (i : ℕ) (e : Expr) → fits (wanted f) i e ≡ true → (shut (f ∷ fs) ≡ true → bare_in e ≡ false) → fits (place (f ∷ fs)) i e ≡ true
fits_place (InForm f w (Expr_ (Level n)) [] ps) fs i e fit bars = by_place (place fs) bars
  where
    by_place : (x : Wanted) → (without (inner (Level n) [] x) ≡ true → bare_in e ≡ false) → fits (inner (Level n) [] x) i e ≡ true
    by_place (WithoutIn m) k = both_true fit (not_is (bare_in e) (k refl))
    by_place x k = fit
fits_place (InForm f w (Expr_ v) ss ps) fs i e fit bars = fit
fits_place f fs i e fit bars = fit

-- what stands in a place is of the level that it asks for
pub fits_least : (f : Frame) (fs : List Frame) (i : ℕ) (e : Expr) → fits (wanted f) i e ≡ true → least (place (f ∷ fs)) ≤ i
fits_least (InForm f w (Expr_ (Level n)) [] ps) fs i e fit = by_place (place fs)
  where
    by_place : (x : Wanted) → least (inner (Level n) [] x) ≤ i
    by_place (WithoutIn m) = leb-true n i fit
    by_place x = leb-true n i fit
fits_least (InForm f w (Expr_ (Level n)) (s ∷ ss) ps) fs i e fit = leb-true n i fit
fits_least (InForm f w (Expr_ (WithoutIn n)) ss ps) fs i e fit = leb-true n i (and_parts (nat_le n i) (not (bare_in e)) fit).0
fits_least (InForm f w (Expr_ Callee) ss ps) fs i e fit = by_test (nat_le member i) refl fit
  where
    by_test : (b : Bool) → nat_le member i ≡ b → (b || (i == bare)) ≡ true → bare ≤ i
    by_test true q k = let r = leb-true member i q in omega arith
    by_test false q k = let r = eqb-true i bare k in omega arith
fits_least (InItems f w p ss ps xs) fs i e fit = leb-true assignment i fit
fits_least f fs i e fit = leb-true any i fit

nothing_after : {ss : List Slot} {qs : List Piece} {l m : Loc} {us : List Token} {next : Token} → SpellsSlots ss qs l m us next → ss ≡ [] → qs ≡ []
nothing_after Sentences.done h = refl
nothing_after d h = absurd cc

pub goes_comma : (e : Expr) (t : Token) → t.kind ≡ T.Punctuator P.Comma → goes_on (Level assignment) e t ≡ false
goes_comma e t is = subst (λ k. goes_on (Level assignment) e (remade t k) ≡ false) (sym is) refl

goes_colon : (e : Expr) (t : Token) → t.kind ≡ T.Punctuator P.Colon → goes_on (Level any) e t ≡ false
goes_colon e t is = subst (λ k. goes_on (Level any) e (remade t k) ≡ false) (sym is) refl

closing_comma : (p : Punctuator) → closing p ≡ true → is_kind (T.Punctuator P.Comma) (T.Punctuator p) ≡ false
closing_comma P.CloseParenthesis h = refl
closing_comma P.CloseBracket h = refl
closing_comma p h = no_part h

colon_refused : (t : Token) → is_mark P.Colon t ≡ true → branch slot.Semicolon t ≡ Refuse
colon_refused t is = subst (λ k. branch slot.Semicolon (remade t k) ≡ Refuse) (sym (kind_is (T.Punctuator P.Colon) t.kind is)) (cond-false (stops (remade t (T.Punctuator P.Colon)) && false) _ _ (and_false (stops (remade t (T.Punctuator P.Colon))) false refl))

not_colon : {ps : List Piece} {l m : Loc} {us : List Token} {next : Token} → SpellsSlots (By slot.Semicolon ∷ []) ps l m us next → is_mark P.Colon (first us next) ≡ false
not_colon (Sentences.passed {qs = qs} {us = us} {next = next} h d) = by_test (is_mark P.Colon (first us next)) refl
  where
    by_test : (b : Bool) → is_mark P.Colon (first us next) ≡ b → is_mark P.Colon (first us next) ≡ false
    by_test false q = q
    by_test true q = let r : Refuse ≡ Pass qs = sym (colon_refused (first us next) q) ∙ h in absurd cc
not_colon (Sentences.chosen {qs = qs} {s = s} {rs = rs} {us = us} {next = next} h d) = by_test (is_mark P.Colon (first us next)) refl
  where
    by_test : (b : Bool) → is_mark P.Colon (first us next) ≡ b → is_mark P.Colon (first us next) ≡ false
    by_test false q = q
    by_test true q = let r : Refuse ≡ Go qs s rs = sym (colon_refused (first us next) q) ∙ h in absurd cc

abbrev pub Named : Expr → Option Piece → Type 0
Named e (Some p) = is_name e ≡ true
Named e None = Unit {0}

named : (l : Loc) (i : ℕ) (e : Expr) (ps : List Piece) → Named e (build slot.Labelled l (AnExpr i e ∷ ps))
named l i (tree.IdentifierReference m w) (AStmt s ∷ []) = refl
named l i e ps = tt

-- the statements of a list go on, or end
abbrev pub stmts_next : Form → Loc → List Slot → List Piece → Stmts → Loc → List Frame → Token → Option Config
stmts_next f w ss ps acc l fs t = if closes t then pass f w ss (ps ++ TheStmts acc ∷ []) l fs t (λ p m. have fs p m t) else begin t (InStmts f w ss ps acc ∷ fs)

abbrev pub file_next : Stmts → Token → Option Config
file_next acc t = if is_kind End t.kind then finished acc else begin t (InFile acc ∷ [])

pub plain_rest : (g : Form) (n : ℕ) (ss : List Slot) → slots g ≡ Expr_ (Level n) ∷ ss → plain ss ≡ true
plain_rest g n ss are = subst (λ x. plain x ≡ true) are (plain_form g)

-- no declaration is begun but in a list of statements
declares_nothing : (f : Form) (fs : List Frame) (l : Loc) (ps : List Piece) (s : Stmt) → build f l ps ≡ Some (AStmt s) → (listing fs ≡ true) ⊎ (is_declaration s ≡ false) → (declares f && not (listing fs)) ≡ false
declares_nothing f fs l ps s made (inl is) = and_false (declares f) (not (listing fs)) (ap not is)
declares_nothing f fs l ps s made (inr none) = by_test (declares f) refl
  where
    by_test : (b : Bool) → declares f ≡ b → (b && not (listing fs)) ≡ false
    by_test false h = refl
    by_test true h = let q : is_declaration s ≡ true = subst Declared made (declared_made f l ps h) in absurd (true≢false (sym q ∙ none))

mutual
  -- the tokens of an expression are read as that expression, in each place where it fits
  pub complete_expr : {i : ℕ} {e : Expr} {l : Loc} {ts : List Token} {next : Token} → Spells (AnExpr i e) l ts next → (f : Frame) (fs : List Frame) (rest : List Token) → fits (wanted f) i e ≡ true → (shut (f ∷ fs) ≡ true → bare_in e ≡ false) →
      then_run (want (first ts next) (f ∷ fs)) (λ c. run c (others ts next rest)) ≡ there (f ∷ fs) (Some (AnExpr i e)) l next rest
  complete_expr (Sentences.leaf {next = next} t none is) f fs rest fit bars = same _ _ (next ∷ rest) (ap (λ o. want_by o t (f ∷ fs)) none ∙ ap (begin_leaf t (f ∷ fs)) is)
  complete_expr (Sentences.prefixed g {ps = ps} {i = i} {e = e} {l = l} {ts = ts} {next = next} t is d made) f fs rest fit bars =
      same _ _ (ts ++ next ∷ rest)
      (ap (λ o. want_by o t (f ∷ fs)) is ∙ cond-true (nat_le (least (place (f ∷ fs))) (begun_level g)) _ _ (le-leb _ _ (le_trans (fits_least f fs i e fit) (subst (UpTo g) made (up_to g (through t.loc l) ps (begins_first t g is))))) ∙ begin_pass g t (slots g) (f ∷ fs) (λ p m. have (f ∷ fs) p m t) (begins_prefix t g is))
      ∙ complete_slots d g t.loc [] (f ∷ fs) rest (plain_form g) (λ o k. subst (Lasts g ps) made (lasts_made g (through t.loc l) ps) o (bars k)) (lets_form g (through t.loc l) ps (f ∷ fs) i e made (fits_least f fs i e fit))
      ∙ ap (λ o. there (f ∷ fs) o (through t.loc l) next rest) made
  complete_expr (Sentences.joined g {n = n} {ss = ss} {ps = ps} {i = i} {j = j} {a = a} {e = e} {la = la} {l = l} {ta = ta} {ts = ts} {next = next} t is are low da d made) f fs rest fit bars =
      let m : Joins g i a (Some (AnExpr j e)) = subst (Joins g i a) made (joins_made g (through la l) i a ps (is_join_form t g is)) in
      let first_is : first_level (slots g) ≡ n = ap first_level are in
      let low_first : first_level (slots g) ≤ i = subst (λ x. x ≤ i) (sym first_is) low in
      let below = m.1 low_first in
      let top = m.0 in
      let bare_first : bare_in e ≡ false → bare_in a ≡ false = λ q. m.3 q (λ h. high_bare da h) low_first in
      let tight = grips (wanted f) j e fit m.2 in
      let first_fits = fits_first (wanted f) i j a e fit m.2 below bare_first in
      let seconds = begins_join t g is in
      let free = not_banned t (f ∷ fs) g (through la l) i j a e ps is made bars in
      at_first (λ x. want x (f ∷ fs)) ta (t ∷ ts) next rest
      ∙ complete_expr da f fs (ts ++ next ∷ rest) first_fits (λ k. bare_first (bars k))
      ∙ taken (continues (wanted f) a t) _ _ (ts ++ next ∷ rest)
      (both_true (not_is (bans (wanted f) t) (not_bans t f fs free)) (goes_on_is (wanted f) a t g is (omega arith) (at_least (first_level (slots g)) i a (strong da) low_first (first_side t g is))))
      ∙ skipped (banned t (f ∷ fs)) _ _ (ts ++ next ∷ rest) free
      ∙ same _ _ (ts ++ next ∷ rest)
      (ap (λ o. shift o i a la (f ∷ fs) t) is ∙ cond-true (nat_le (wants (Some g)) i && fits (place (f ∷ fs)) i a) _ _ (both_true (le-leb _ _ low_first) (fits_place f fs i a first_fits (λ k. bare_first (bars k)))) ∙ second_pass g i a la t (after_first (slots g)) (f ∷ fs) (λ p m. have (f ∷ fs) p m t) seconds.0 seconds.1
      ∙ ap (λ x. pass g la (after_first x) (AnExpr i a ∷ []) la (f ∷ fs) t (λ p m. have (f ∷ fs) p m t)) are)
      ∙ complete_slots d g la (AnExpr i a ∷ []) (f ∷ fs) rest (plain_rest g n ss are) (λ o k. subst (Lasts g (AnExpr i a ∷ ps)) made (lasts_made g (through la l) (AnExpr i a ∷ ps)) (subst (λ x. open_end x ≡ true) (sym are) (open_drop (Expr_ (Level n)) ss o)) (bars k)) (lets_none ss (f ∷ fs) ps (subst (λ x. unled x ≡ true) are (join_unled t g is)))
      ∙ ap (λ o. there (f ∷ fs) o (through la l) next rest) made

  pub complete_slots : {ss : List Slot} {qs : List Piece} {l m : Loc} {us : List Token} {next : Token} → SpellsSlots ss qs l m us next → (f : Form) (w : Loc) (ps : List Piece) (fs : List Frame) (rest : List Token) → plain ss ≡ true → Bars ss fs (ps ++ qs) → Lets ss fs qs →
      then_run (pass f w ss ps l fs (first us next) (λ p x. have fs p x (first us next))) (λ c. run c (others us next rest)) ≡ goal f w (ps ++ qs) m fs next rest
  complete_slots (Sentences.done {l = l} {next = next}) f w ps fs rest ok bars lets = ap (λ x. goal f w x l fs next rest) (sym (append-nil ps))
  complete_slots (Sentences.sign {k = k} {ss = ss} {us = us} {next = next} t is d) f w ps fs rest ok bars lets =
      taken (is_kind k t.kind) _ _ (us ++ next ∷ rest) (is_same k t.kind is) ∙ due_run f w ss ps t.loc fs us next rest ∙ complete_slots d f w ps fs rest (and_parts true (plain ss) ok).1 (λ o shutting. bars (open_drop (Sign k) ss o) shutting) lets
  complete_slots (Sentences.text {c = c} {p = p} {ss = ss} {ps = qs} {m = m} {us = us} {next = next} t is d) f w ps fs rest ok bars lets =
      same _ _ (us ++ next ∷ rest) (ap (λ o. texted o (λ x. enter f w ss (ps ++ x ∷ []) t.loc fs)) is) ∙ due_run f w ss (ps ++ p ∷ []) t.loc fs us next rest
      ∙ complete_slots d f w (ps ++ p ∷ []) fs rest (and_parts true (plain ss) ok).1 (bars_on (Text c) ss fs ps (p ∷ []) qs bars) (lets_none ss fs qs lets) ∙ regroup f w m ps (p ∷ []) qs fs next rest
  complete_slots (Sentences.expr {w = v} {i = i} {e = e} {ss = ss} {ps = qs} {le = le} {m = m} {te = te} {us = us} {next = next} fit de go d) f w ps fs rest ok bars lets =
      let frame = InForm f w (Expr_ v) ss ps in
      at_first (λ x. want x (frame ∷ fs)) te us next rest
      ∙ complete_expr de frame fs (others us next rest) fit
      (slot_bars f w v ss ps fs i e fit (λ none k. sym (last_is ps (AnExpr i e)) ∙ ap (λ x. last_bare (ps ++ AnExpr i e ∷ x)) (sym (nothing_after d none)) ∙ bars (subst (λ x. open_end (Expr_ v ∷ x) ≡ true) (sym none) refl) k))
      ∙ leaves frame fs i e le (first us next) (others us next rest) go
      ∙ taken (fits v i e) _ _ (others us next rest) fit
      ∙ complete_slots d f w (ps ++ AnExpr i e ∷ []) fs rest (and_parts true (plain ss) ok).1 (bars_on (Expr_ v) ss fs ps (AnExpr i e ∷ []) qs bars) (lets_none ss fs qs lets) ∙ regroup f w m ps (AnExpr i e ∷ []) qs fs next rest
  complete_slots (Sentences.stmt {s = s} {ss = ss} {ps = qs} {ls = ls} {m = m} {ts = ts} {us = us} {next = next} plainly ds d) f w ps fs rest ok bars lets =
      let frame = InForm f w Stmt_ ss ps in
      at_first (λ x. begin x (frame ∷ fs)) ts us next rest
      ∙ complete_stmt ds (frame ∷ fs) (others us next rest) (inr plainly)
      ∙ skipped (is_declaration s) _ _ (others us next rest) plainly
      ∙ complete_slots d f w (ps ++ AStmt s ∷ []) fs rest (and_parts true (plain ss) ok).1 (bars_on Stmt_ ss fs ps (AStmt s ∷ []) qs bars) (lets_none ss fs qs lets) ∙ regroup f w m ps (AStmt s ∷ []) qs fs next rest
  complete_slots (Sentences.stmts {xs = xs} {ss = ss} {ps = qs} {l = l} {ls = ls} {m = m} {ts = ts} {us = us} {next = next} dss ends d) f w ps fs rest ok bars lets =
      at_first (λ x. stmts_next f w ss ps no_stmt l fs x) ts us next rest
      ∙ complete_stmts dss no_stmt f w ss ps fs (others us next rest) ends
      ∙ complete_slots d f w (ps ++ TheStmts xs ∷ []) fs rest (and_parts true (plain ss) ok).1 (bars_on Stmts_ ss fs ps (TheStmts xs ∷ []) qs bars) (lets_none ss fs qs lets) ∙ regroup f w m ps (TheStmts xs ∷ []) qs fs next rest
  complete_slots (Sentences.items {p = p} {b = b} {xs = xs} {ss = ss} {ps = qs} {m = m} {ts = ts} {us = us} {next = next} t dxs is d) f w ps fs rest ok bars lets =
      let c = and_parts (closing p) (plain ss) ok in
      at_first (λ x. item (InItems f w p ss ps no_expr ∷ fs) x) ts (t ∷ us) next rest
      ∙ complete_items dxs no_expr f w p ss ps fs (us ++ next ∷ rest) c.0 is
      ∙ due_run f w ss (ps ++ TheExprs b xs ∷ []) t.loc fs us next rest
      ∙ complete_slots d f w (ps ++ TheExprs b xs ∷ []) fs rest c.1 (bars_on (Items_ p) ss fs ps (TheExprs b xs ∷ []) qs bars) lets ∙ regroup f w m ps (TheExprs b xs ∷ []) qs fs next rest
  complete_slots (Sentences.place {ss = ss} {ps = qs} {l = l} {m = m} {us = us} {next = next} d) f w ps fs rest ok bars lets =
      complete_slots d f w (ps ++ APlace l ∷ []) fs rest (and_parts true (plain ss) ok).1 (bars_on Place_ ss fs ps (APlace l ∷ []) qs bars) (lets_none ss fs qs lets) ∙ regroup f w m ps (APlace l ∷ []) qs fs next rest
  complete_slots (Sentences.passed {c = c} {qs = rs} {ss = ss} {ps = qs} {l = l} {m = m} {us = us} {next = next} h d) f w ps fs rest ok bars lets =
      same _ _ (others us next rest) (ap (λ x. choose x (λ qs. pass f w ss (ps ++ qs) l fs (first us next) (λ p x. have fs p x (first us next))) (λ qs s rs. if leads (place fs) c then take f w s (rs ++ ss) (ps ++ qs) fs (first us next) else None)) h)
      ∙ complete_slots d f w (ps ++ rs) fs rest (and_parts true (plain ss) ok).1 (bars_on (By c) ss fs ps rs qs bars) (lets_none ss fs qs (lets_rest c ss fs (rs ++ qs) lets)) ∙ regroup f w m ps rs qs fs next rest
  complete_slots (Sentences.chosen {c = c} {qs = xs} {s = s} {rs = rs} {ss = ss} {ps = qs} {l = l} {m = m} {us = us} {next = next} h d) f w ps fs rest ok bars lets =
      let t = first us next in
      let go : Option Piece → Loc → Option Config = λ p x. have fs p x t in
      let a = and_parts (taking s) (plain (s ∷ rs)) (taken_branch c t xs s rs h) in
      let r = and_parts (plain_slot s) (plain rs) a.1 in
      same _ _ (others us next rest) (ap (λ x. choose x (λ qs. pass f w ss (ps ++ qs) l fs t go) (λ qs s rs. if leads (place fs) c then take f w s (rs ++ ss) (ps ++ qs) fs t else None)) h ∙ cond-true (leads (place fs) c) _ _ (lets_choice c fs xs s rs ss qs l m us next h d lets) ∙ take_pass f w s (rs ++ ss) (ps ++ xs) l fs t go a.0)
      ∙ complete_slots d f w (ps ++ xs) fs rest (both_true r.0 (plain_append rs ss r.1 (and_parts true (plain ss) ok).1)) (λ o k. ap last_bare (append_assoc ps xs qs) ∙ bars (open_chosen c t xs s rs ss h o) k) (lets_none (s ∷ (rs ++ ss)) fs qs (unled_chosen c t xs s rs ss h (lets_rest c ss fs (xs ++ qs) lets)))
      ∙ regroup f w m ps xs qs fs next rest

  -- items, and the token that closes them
  pub complete_items : {b : Bool} {xs : Exprs} {ts : List Token} {t : Token} → SpellsItems b xs ts t → (acc : Exprs) (f : Form) (w : Loc) (p : Punctuator) (ss : List Slot) (ps : List Piece) (fs : List Frame) (rest : List Token) → closing p ≡ true → t.kind ≡ T.Punctuator p →
      then_run (item (InItems f w p ss ps acc ∷ fs) (first ts t)) (λ c. run c (others ts t rest)) ≡ run (Due f w ss (ps ++ TheExprs b (append_exprs acc xs) ∷ []) t.loc fs) rest
  complete_items (Sentences.no_item {next = t}) acc f w p ss ps fs rest ok is =
      taken (is_mark p t) _ _ rest (is_same (T.Punctuator p) t.kind is) ∙ ap (λ x. run (Due f w ss (ps ++ TheExprs true x ∷ []) t.loc fs) rest) (sym (exprs_end acc))
  complete_items (Sentences.last_item {i = i} {e = e} {l = l} {ts = ts} {next = t} ge de go) acc f w p ss ps fs rest ok is =
      let frame = InItems f w p ss ps acc in
      skipped (is_mark p (first ts t)) _ _ (others ts t rest) (no_closing p (first ts t) ok (first_expr de t))
      ∙ complete_expr de frame fs rest (le-leb assignment i ge) (λ k. no_part k)
      ∙ leaves frame fs i e l t rest go
      ∙ taken (nat_le assignment i) _ _ rest (le-leb assignment i ge)
      ∙ skipped (is_mark P.Comma t) _ _ rest (ap (is_kind (T.Punctuator P.Comma)) is ∙ closing_comma p ok)
      ∙ taken (is_mark p t) _ _ rest (is_same (T.Punctuator p) t.kind is)
      ∙ ap (λ x. run (Due f w ss (ps ++ TheExprs false x ∷ []) t.loc fs) rest) (sym (exprs_last acc e))
  complete_items (Sentences.more_items {i = i} {e = e} {b = b} {xs = xs} {l = l} {ts = ts} {us = us} {next = t} comma ge de is_comma dxs) acc f w p ss ps fs rest ok is =
      let frame = InItems f w p ss ps acc in
      at_first (λ x. item (frame ∷ fs) x) ts (comma ∷ us) t rest
      ∙ skipped (is_mark p (first ts comma)) _ _ (others ts comma (us ++ t ∷ rest)) (no_closing p (first ts comma) ok (first_expr de comma))
      ∙ complete_expr de frame fs (us ++ t ∷ rest) (le-leb assignment i ge) (λ k. no_part k)
      ∙ leaves frame fs i e l comma (us ++ t ∷ rest) (goes_comma e comma is_comma)
      ∙ taken (nat_le assignment i) _ _ (us ++ t ∷ rest) (le-leb assignment i ge)
      ∙ taken (is_mark P.Comma comma) _ _ (us ++ t ∷ rest) (is_same (T.Punctuator P.Comma) comma.kind is_comma)
      ∙ ap (λ u. run (Item (InItems f w p ss ps (push_exprs acc e) ∷ fs)) u) (split us t rest)
      ∙ complete_items dxs (push_exprs acc e) f w p ss ps fs rest ok is
      ∙ ap (λ x. run (Due f w ss (ps ++ TheExprs b x ∷ []) t.loc fs) rest) (exprs_push acc e xs)

  pub complete_stmt : {s : Stmt} {l : Loc} {ts : List Token} {next : Token} → Spells (AStmt s) l ts next → (fs : List Frame) (rest : List Token) → (listing fs ≡ true) ⊎ (is_declaration s ≡ false) →
      then_run (begin (first ts next) fs) (λ c. run c (others ts next rest)) ≡ there fs (Some (AStmt s)) l next rest
  complete_stmt (Sentences.headed f {ps = ps} {s = s} {l = l} {ts = ts} {next = next} t is d made) fs rest may =
      let h = begins_statement t f is in
      same _ _ (ts ++ next ∷ rest) (ap (λ o. begin_by o t fs) is ∙ cond-false (declares f && not (listing fs)) _ _ (declares_nothing f fs (through t.loc l) ps s made may) ∙ begin_pass f t (slots f) fs (λ p m. have fs p m t) h.1)
      ∙ complete_slots d f t.loc [] fs rest (plain_form f) (λ o k. absurd (true≢false (sym o ∙ h.0))) (lets_none (slots f) fs ps (statement_unled t f is))
      ∙ ap (λ o. there fs o (through t.loc l) next rest) made
  complete_stmt (Sentences.expression {ps = ps} {l = l} {next = next} t {ts = ts} none d made) fs rest may =
      same _ _ (ts ++ next ∷ rest) (ap (λ o. begin_by o t fs) none) ∙ complete_expression d t.loc fs rest ∙ ap (λ o. there fs o (through t.loc l) next rest) made
  complete_stmt (Sentences.labelled {ps = ps} {l = l} {next = next} t {ts = ts} none d made) fs rest may =
      same _ _ (ts ++ next ∷ rest) (ap (λ o. begin_by o t fs) none) ∙ complete_label d t.loc fs rest _ made ∙ ap (λ o. there fs o (through t.loc l) next rest) made

  pub complete_expression : {ps : List Piece} {l m : Loc} {us : List Token} {next : Token} → SpellsSlots (slots slot.Expression) ps l m us next → (w : Loc) (fs : List Frame) (rest : List Token) →
      then_run (want (first us next) (InExpression w ∷ fs)) (λ c. run c (others us next rest)) ≡ goal slot.Expression w ps m fs next rest
  complete_expression (Sentences.expr {i = i} {e = e} {ps = qs} {le = le} {te = te} {us = us} {next = next} fit de go d) w fs rest =
      at_first (λ x. want x (InExpression w ∷ fs)) te us next rest
      ∙ complete_expr de (InExpression w) fs (others us next rest) fit (λ k. no_part k)
      ∙ leaves (InExpression w) fs i e le (first us next) (others us next rest) go
      ∙ skipped (is_mark P.Colon (first us next) && (is_name e && nat_le primary i)) _ _ (others us next rest) (ap (λ x. x && (is_name e && nat_le primary i)) (not_colon d))
      ∙ complete_slots d slot.Expression w (AnExpr i e ∷ []) fs rest refl (λ o k. no_part o) refl

  pub complete_label : {ps : List Piece} {l m : Loc} {us : List Token} {next : Token} → SpellsSlots (slots slot.Labelled) ps l m us next → (w : Loc) (fs : List Frame) (rest : List Token) (s : Stmt) → build slot.Labelled (through w m) ps ≡ Some (AStmt s) →
      then_run (want (first us next) (InExpression w ∷ fs)) (λ c. run c (others us next rest)) ≡ goal slot.Labelled w ps m fs next rest
  complete_label (Sentences.expr {i = i} {e = e} {ps = qs} {le = le} {m = m} {te = te} {next = next} fit de go (Sentences.sign {us = us} t is d)) w fs rest s made =
      let q = leb-true primary i fit in
      let n : is_name e ≡ true = subst (Named e) made (named (through w m) i e qs) in
      at_first (λ x. want x (InExpression w ∷ fs)) te (t ∷ us) next rest
      ∙ complete_expr de (InExpression w) fs (us ++ next ∷ rest) (le-leb any i (omega arith)) (λ k. no_part k)
      ∙ leaves (InExpression w) fs i e le t (us ++ next ∷ rest) (goes_colon e t is)
      ∙ taken (is_mark P.Colon t && (is_name e && nat_le primary i)) _ _ (us ++ next ∷ rest) (both_true (is_same (T.Punctuator P.Colon) t.kind is) (both_true n fit))
      ∙ due_run slot.Labelled w (Stmt_ ∷ []) (AnExpr i e ∷ []) t.loc fs us next rest
      ∙ complete_slots d slot.Labelled w (AnExpr i e ∷ []) fs rest refl (λ o k. no_part o) refl

  pub complete_stmts : {xs : Stmts} {l m : Loc} {ts : List Token} {next : Token} → SpellsStmts xs l m ts next → (acc : Stmts) (f : Form) (w : Loc) (ss : List Slot) (ps : List Piece) (fs : List Frame) (rest : List Token) → closes next ≡ true →
      then_run (stmts_next f w ss ps acc l fs (first ts next)) (λ c. run c (others ts next rest)) ≡ then_run (pass f w ss (ps ++ TheStmts (append_stmts acc xs) ∷ []) m fs next (λ p x. have fs p x next)) (λ c. run c rest)
  complete_stmts (Sentences.no_statement {l = l} {next = next}) acc f w ss ps fs rest ends =
      taken (closes next) _ _ rest ends ∙ ap (λ x. then_run (pass f w ss (ps ++ TheStmts x ∷ []) l fs next (λ p x. have fs p x next)) (λ c. run c rest)) (sym (stmts_end acc))
  complete_stmts (Sentences.more_statements {s = s} {ss = xs} {l = l} {ls = ls} {m = m} {ts = ts} {us = us} {next = next} ds dss) acc f w ss ps fs rest ends =
      at_first (λ x. stmts_next f w ss ps acc l fs x) ts us next rest
      ∙ skipped (closes (first ts (first us next))) _ _ (others ts (first us next) (others us next rest)) (no_close (first ts (first us next)) (first_stmt ds (first us next)))
      ∙ complete_stmt ds (InStmts f w ss ps acc ∷ fs) (others us next rest) (inl refl)
      ∙ complete_stmts dss (push_stmts acc s) f w ss ps fs rest ends
      ∙ ap (λ x. then_run (pass f w ss (ps ++ TheStmts x ∷ []) m fs next (λ p x. have fs p x next)) (λ c. run c rest)) (stmts_push acc s xs)

complete_file : {xs : Stmts} {l m : Loc} {ts : List Token} {next : Token} → SpellsStmts xs l m ts next → (acc : Stmts) → is_kind End next.kind ≡ true →
    then_run (file_next acc (first ts next)) (λ c. run c (others ts next [])) ≡ then_run (finished (append_stmts acc xs)) (λ c. run c [])
complete_file (Sentences.no_statement {l = l} {next = next}) acc ends = taken (is_kind End next.kind) _ _ [] ends ∙ ap (λ x. then_run (finished x) (λ c. run c [])) (sym (stmts_end acc))
complete_file (Sentences.more_statements {s = s} {ss = xs} {ts = ts} {us = us} {next = next} ds dss) acc ends =
    at_first (λ x. file_next acc x) ts us next []
    ∙ skipped (is_kind End (first ts (first us next)).kind) _ _ (others ts (first us next) (others us next [])) (no_end (first ts (first us next)) (first_stmt ds (first us next)))
    ∙ complete_stmt ds (InFile acc ∷ []) (others us next []) (inl refl)
    ∙ complete_file dss (push_stmts acc s) ends
    ∙ ap (λ x. then_run (finished x) (λ c. run c [])) (stmts_push acc s xs)

-- a sentence is read, as its tree
pub complete : {tree : File} {ts : List Token} → Sentence tree ts → tree_of (run Start ts) ≡ Some tree
complete (Sentences.file {ss = ss} {ts = ts} end is d outside) =
    ap tree_of
    (ap (λ u. run Start u) (split ts end [])
    ∙ complete_file d no_stmt (is_same End end.kind is)
    ∙ ap (λ x. then_run (if x then None else Some (Finished ss)) (λ c. run c [])) outside)
